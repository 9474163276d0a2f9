-- Documents and the settings that they spell.
use Rattle.std.proofs.Common.{◌≡◌, ℕ, ◌⊎◌, inl, inr, List, Option, Some, None, Result, Ok, Err, IfErr, pos, refl, if◌then◌else◌, bytes_eq, codes, sym, ◌∙◌, ap, subst}
use Rattle.std.proofs.lemmas.Option.{none-some, same_Some}
use Rattle.toml.specs.Data.{Data, string, integer, Members, get_member}
use Rattle.toml.specs.Parse.{parse_document}
use Rattle.wh_script_model.specs.Settings.{Settings}
use Rattle.wh_script_model.specs.{PageHashing, by_fnv64, by_constant}
use Rattle.wh_settings.specs.declared.error.SettingsError.{SettingsError}
use Rattle.wh_settings.specs.declared.error.SettingsError.TheVariants.{Invalid}
use Rattle.wh_settings.specs.declared.settings.Settings as code
use Rattle.wh_settings.specs.Spelled.{SetsNumber, hash_word, SetsPath, HasSettings, SpellsSettings}

-- ---- what isn't spelled by the one document of the bytes isn't spelled by them

no_settings : (bytes : List ℕ) (document : Members) → parse_document bytes ≡ Some document
    → ((s : Settings) → HasSettings document s → ⊥) → (s : Settings) → SpellsSettings bytes s → ⊥
no_settings bytes document reads none s h =
    let same : h.document ≡ document = same_Some _ _ (sym h.reads ∙ reads) in
    none s (subst (λ d. HasSettings d s) same h.spells)

pub refuses_bytes : (bytes : List ℕ) (document : Members) (r : Result code.Settings SettingsError)
    → parse_document bytes ≡ Some document
    → IfErr r (λ e. e ≡ Invalid → (s : Settings) → HasSettings document s → ⊥)
    → IfErr r (λ e. e ≡ Invalid → (s : Settings) → SpellsSettings bytes s → ⊥)
refuses_bytes bytes document (Ok s) reads h = tt
refuses_bytes bytes document (Err e) reads h = λ invalid. no_settings bytes document reads (h invalid)

-- ---- settings are spelled once

some_or_none : (o : Option Data) (d : Data) → o ≡ Some d → o ≡ None → ⊥
some_or_none o d p q = none-some d (sym q ∙ p)

-- the number, the hash and the path that a value is
abbrev number_in : Option Data → ℕ
number_in (Some (integer (pos n))) = n
number_in other = 0

abbrev hash_in : Option Data → PageHashing
hash_in (Some (string word)) = if bytes_eq word (codes "fnv64") then by_fnv64 else by_constant
hash_in other = by_fnv64

abbrev path_in : Option Data → Option (List ℕ)
path_in (Some (string path)) = Some path
path_in other = None

one_number : (o : Option Data) (otherwise a b : ℕ)
    → ((o ≡ Some (integer (pos a))) ⊎ ((o ≡ None) × (a ≡ otherwise)))
    → ((o ≡ Some (integer (pos b))) ⊎ ((o ≡ None) × (b ≡ otherwise))) → a ≡ b
one_number o otherwise a b (inl p) (inl q) = ap number_in (sym p ∙ q)
one_number o otherwise a b (inl p) (inr q) = absurd (some_or_none o _ p q.0)
one_number o otherwise a b (inr p) (inl q) = absurd (some_or_none o _ q p.0)
one_number o otherwise a b (inr p) (inr q) = p.1 ∙ sym q.1

one_set : (document : Members) (key : List ℕ) (otherwise least most a b : ℕ)
    → SetsNumber document key otherwise least most a → SetsNumber document key otherwise least most b → a ≡ b
one_set document key otherwise least most a b p q = one_number (get_member key document) otherwise a b p.has q.has

hash_is : (h : PageHashing) → hash_in (Some (string (hash_word h))) ≡ h
hash_is by_fnv64 = refl
hash_is by_constant = refl

one_hash : (o : Option Data) (otherwise a b : PageHashing)
    → ((o ≡ Some (string (hash_word a))) ⊎ ((o ≡ None) × (a ≡ otherwise)))
    → ((o ≡ Some (string (hash_word b))) ⊎ ((o ≡ None) × (b ≡ otherwise))) → a ≡ b
one_hash o otherwise a b (inl p) (inl q) = sym (hash_is a) ∙ ap hash_in (sym p ∙ q) ∙ hash_is b
one_hash o otherwise a b (inl p) (inr q) = absurd (some_or_none o _ p q.0)
one_hash o otherwise a b (inr p) (inl q) = absurd (some_or_none o _ q p.0)
one_hash o otherwise a b (inr p) (inr q) = p.1 ∙ sym q.1

one_path : (document : Members) (key : List ℕ) (a b : Option (List ℕ))
    → SetsPath document key a → SetsPath document key b → a ≡ b
one_path document key None None p q = refl
one_path document key None (Some b) p q = absurd (some_or_none (get_member key document) _ q.0 p)
one_path document key (Some a) None p q = absurd (some_or_none (get_member key document) _ p.0 q)
one_path document key (Some a) (Some b) p q = ap path_in (sym p.0 ∙ q.0)

-- settings of these parts
abbrev made : ℕ → ℕ → ℕ → ℕ → ℕ → PageHashing → Option (List ℕ) → Settings
made frames slots num den quantum hash swap =
    record { frames = frames; slots = slots; num = num; den = den; quantum = quantum; hash = hash; swap = swap }

same_made : (a a2 b b2 c c2 d d2 e e2 : ℕ) (f f2 : PageHashing) (g g2 : Option (List ℕ))
    → a ≡ a2 → b ≡ b2 → c ≡ c2 → d ≡ d2 → e ≡ e2 → f ≡ f2 → g ≡ g2 → made a b c d e f g ≡ made a2 b2 c2 d2 e2 f2 g2
same_made a a2 b b2 c c2 d d2 e e2 f f2 g g2 p q r t u v w = rw (p, q, r, t, u, v, w)

one_spelled : (document : Members) (s t : Settings) → HasSettings document s → HasSettings document t → s ≡ t
one_spelled document s t p q =
    same_made s.frames t.frames s.slots t.slots s.num t.num s.den t.den s.quantum t.quantum s.hash t.hash s.swap t.swap
    (one_set document _ _ _ _ s.frames t.frames p.frames q.frames)
    (one_set document _ _ _ _ s.slots t.slots p.slots q.slots)
    (one_set document _ _ _ _ s.num t.num p.tax.sets_num q.tax.sets_num)
    (one_set document _ _ _ _ s.den t.den p.tax.sets_den q.tax.sets_den)
    (one_set document _ _ _ _ s.quantum t.quantum p.quantum q.quantum)
    (one_hash (get_member (codes "hash") document) _ s.hash t.hash p.hash q.hash)
    (one_path document (codes "swap") s.swap t.swap p.swap q.swap)

pub one_settings : (bytes : List ℕ) (s t : Settings) → SpellsSettings bytes s → SpellsSettings bytes t → s ≡ t
one_settings bytes s t p q =
    let same : q.document ≡ p.document = same_Some _ _ (sym q.reads ∙ p.reads) in
    one_spelled p.document s t p.spells (subst (λ d. HasSettings d t) same q.spells)
