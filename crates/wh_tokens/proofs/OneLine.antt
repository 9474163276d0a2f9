-- Lines that spell no grant.
use Rattle.std.proofs.Common.{◌≡◌, ◌≢◌, ℕ, ◌*◌, ◌<◌, Bool, true, ◌==◌, ◌&&◌, not, Option, None, Some, IfNone, List, [], ◌∷◌, length, refl, sym, ap, subst, ◌∙◌, arith}
use Rattle.std.specs.Prelude.{codes}
use Rattle.std.specs.List.{AllByRecursion}
use Rattle.std.specs.Fmt.{decimal}
use Rattle.std.specs.Str.Parse.{AllDigits}
use Rattle.std.proofs.lemmas.Bool.Decides.{nat_tests}
use Rattle.std.proofs.lemmas.Fmt.{decimal_is_IsNumeral, decimal_injective}
use Rattle.std.proofs.lemmas.List.Elements.{All-from_recursion}
use Rattle.std.proofs.lemmas.Str.Parse.{digit_from_value}
use denote.Ref.{Bor}
use Rattle.hex.specs.Hex.{lower_digits}
use Rattle.hex.proofs.HexLemmas.{length-encode_with}
use Rattle.wh_routes.specs.Separators.{piece_before, text_behind, rest_text}
use Rattle.wh_routes.specs.Readings.{SpellsNumber, SpellsDigest}
use Rattle.wh_routes.proofs.Cutting.{IsCut, at_separator}
use Rattle.wh_tokens.specs.declared.grants.Who.{Who}
use Rattle.wh_tokens.specs.declared.grants.Who.TheVariants.{Operator, Tenant}
use Rattle.wh_tokens.specs.declared.grants.Grant.{Grant}
use Rattle.wh_tokens.specs.GrantLines.{SpellsWho, SpellsGrant}

pub too_large : (word : List ℕ) (number : ℕ) → word ≢ codes "operator" → SpellsNumber word number → 4294967295 < number
    → (who : Who) → ¬ (SpellsWho word who)
too_large word number other is large Operator h = other h
too_large word number other is large (Tenant n) h =
    let small : n < 4294967296 = h.0 in
    let e : n ≡ number = decimal_injective n number (omega arith) is.small (sym h.1 ∙ is.spelled) in
    absurd (omega arith)

-- whether it has no space
abbrev has_no_space : List ℕ → Bool
has_no_space [] = true
has_no_space (b ∷ bs) = not (b == 32) && has_no_space bs

spaceless_by_test : (text : List ℕ) → has_no_space text ≡ true → AllByRecursion (λ b. b ≢ 32) text
spaceless_by_test [] h = tt
spaceless_by_test (b ∷ bs) h = (grind (arith, nat_tests), spaceless_by_test bs (grind (arith, nat_tests)))

spaceless_digits : (text : List ℕ) → AllDigits 10 text → AllByRecursion (λ b. b ≢ 32) text
spaceless_digits [] h = tt
spaceless_digits (c ∷ cs) h = ((let r = digit_from_value c h.0 in omega arith), spaceless_digits cs h.1)

spaceless_who : (word : List ℕ) (who : Who) → SpellsWho word who → AllByRecursion (λ b. b ≢ 32) word
spaceless_who word Operator h = subst (AllByRecursion (λ b. b ≢ 32)) (sym h) (spaceless_by_test (codes "operator") refl)
spaceless_who word (Tenant n) h =
    let small : n < 4294967296 = h.0 in
    subst (AllByRecursion (λ b. b ≢ 32)) (sym h.1) (spaceless_digits (decimal n) (decimal_is_IsNumeral n (omega arith)).0.1)

cut_grant : (line : List ℕ) (grant : Grant) (h : SpellsGrant line grant) → IsCut 32 line h.word h.text
cut_grant line grant h =
    at_separator 32 line h.word h.text h.parts
    (All-from_recursion (λ b. b ≢ 32) h.word (spaceless_who h.word grant.who h.who))

pub nobody : (line word : List ℕ) → word ≡ piece_before 32 line → ((who : Who) → ¬ (SpellsWho word who))
    → (grant : Grant) → ¬ (SpellsGrant line grant)
nobody line word e none grant h = none grant.who (subst (λ w. SpellsWho w grant.who) (sym (e ∙ (cut_grant line grant h).1)) h.who)

pub no_space : (line : List ℕ) (rest : Option (Bor (List ℕ))) → rest_text rest ≡ text_behind 32 line → rest ≡ None
    → (grant : Grant) → ¬ (SpellsGrant line grant)
no_space line rest e is grant h =
    let empty : [] ≡ h.text = ap rest_text (sym is) ∙ (e ∙ (cut_grant line grant h).2) in
    let len : 0 ≡ length h.text = ap length empty in
    let spelled : length h.text ≡ 2 * length grant.digest = ap length h.digest.spelled ∙ length-encode_with lower_digits grant.digest in
    let sized : length grant.digest ≡ 32 = h.digest.sized in
    absurd (omega arith)

pub no_digest : (line : List ℕ) (behind : Option (Bor (List ℕ))) (rest : Bor (List ℕ)) → rest_text behind ≡ text_behind 32 line
    → behind ≡ Some rest → ((digest : List ℕ) → ¬ (SpellsDigest rest.now digest)) → (grant : Grant) → ¬ (SpellsGrant line grant)
no_digest line behind rest e is none grant h =
    let same : rest.now ≡ h.text = ap rest_text (sym is) ∙ (e ∙ (cut_grant line grant h).2) in
    none grant.digest (subst (λ t. SpellsDigest t grant.digest) (sym same) h.digest)

pub if_none : (o : Option Grant) (P : Type 0) → P → IfNone o P
if_none (Some grant) P p = tt
if_none None P p = p
