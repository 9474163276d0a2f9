-- From what the parser says of its matches to what is given in the words.
use Rattle.std.proofs.Common.{◌≡◌, ◌≢◌, ◌∙◌, inl, inr, ℕ, ◌<◌, zero, suc, true, false, List, [], ◌∷◌, map, length, slice_get, slice_index, true≢false, codes, Option, Some, None, Result, Ok, Err, IfOk, option_map, refl, sym, ap, subst, arith}
use Rattle.std.specs.Borrow.{Bor}
use Rattle.std.specs.List.{All, list_all, slice_index_or}
use Rattle.std.specs.Str.{bytes_eq}
use Rattle.std.proofs.lemmas.List.Elements.{All-get_or}
use Rattle.std.proofs.lemmas.Slice.Eq.{bytes_eq-Decides}
use Rattle.clap.specs.Words.{Accepts, App, HasMatchesOf, IsParsed, IsParsedFrom, IsPlain, IsPlainArg, IsUnsignedIn, Rule, Text, app_of, args_of, first_of, first_value, found_of, groups_of, has_subcommand, matched_of, matches_of, one_text, read_as, reading_of, rows_of, rule_of}
use Rattle.clap.specs.Built.{IsAuto}
use Rattle.clap.specs.Facts.{Entry, EntryPasses, HasReading, PassesArg, parser_of_value}
use Rattle.clap.specs.Walk.{is_free_arg, is_simple_arg}
use Rattle.clap.specs.declared.builder.arg.Arg.{Arg}
use Rattle.clap.specs.declared.builder.command.Command.{Command}
use Rattle.clap.specs.declared.builder.value_parser.Reading.{Reading}
use Rattle.clap.specs.declared.builder.value_parser.Reading.TheVariants.{AsWritten}
use Rattle.clap.specs.declared.builder.value_parser.ValueParser.{ValueParser}
use Rattle.clap.specs.declared.builder.value_parser.ValueParser.TheVariants.{Unsigned}
use Rattle.clap.specs.declared.parser.matches.ArgMatches.{ArgMatches}
use Rattle.clap.specs.declared.parser.matches.Found.{Found}
use Rattle.clap.specs.declared.parser.matches.MatchedArg.{MatchedArg}
use Rattle.clap.proofs.CallerLemmas.{entry_by_id, same_rules_by_id}
use Rattle.clap.proofs.SimpleLemmas.{is_false, is_nil, plain_fields}
use Rattle.clap.proofs.TakesLemmas.{each_rule}
use Rattle.clap.proofs.WalkLemmas.{both, first_value-rows}
use Rattle.wasmhost_program.specs.Accepted.{command_line, script_rule, settings_rule, workers_rule}
use Rattle.wasmhost_program.specs.ParsedArguments.{FindsIn}

-- ---- the command has three arguments, and nothing in it excludes anything

rules_are : (c : Command) → app_of c ≡ command_line → map rule_of (args_of c) ≡ settings_rule ∷ workers_rule ∷ script_rule ∷ []
rules_are c is = ap (λ (a : App). a.top.rules) is

plain_arg : (a : Arg) → is_simple_arg a ≡ true → is_free_arg a ≡ true → IsPlainArg a
plain_arg a simple free =
    let p = both _ _ simple in
    let q = both _ _ p.1 in
    let r = both _ _ q.1 in
    let f = both _ _ free in
    let g = both _ _ f.1 in
    (is_false _ f.0, is_nil _ g.0, is_nil _ p.0, is_nil _ r.0)

is_plain : (c : Command) → app_of c ≡ command_line → IsPlain c
is_plain c is =
    let simple = each_rule (λ (r : Rule). r.is_simple) (args_of c) (ap (list_all (λ (r : Rule). r.is_simple)) (rules_are c is)) in
    let free = each_rule (λ (r : Rule). r.is_free) (args_of c) (ap (list_all (λ (r : Rule). r.is_free)) (rules_are c is)) in
    let fields = plain_fields c (ap (λ (a : App). a.top.is_plain) is) in
    ((λ k d lt. plain_arg (slice_index_or (args_of c) k d) (simple k d lt) (free k d lt)), fields.groups)

-- ---- the second of them is that of the workers

abbrev IsSecond : List Arg → Arg → Type 0
IsSecond xs b =
    (1 < length xs) × (slice_index_or xs 1 b ≡ b) × (rule_of b ≡ workers_rule)
    × ((j : ℕ) (e : Arg) → j < length xs → bytes_eq (slice_index_or xs j e).id.now (slice_index_or xs 1 b).id.now ≡ true → j ≡ 1)

apart : (x y u v : Text) → x ≡ u → y ≡ v → bytes_eq u v ≡ false → bytes_eq x y ≡ true → ⊥
apart x y u v p q differ same =
    let here : bytes_eq u v ≡ true = rw (p, q) at same in
    true≢false (sym here ∙ differ)

-- texts whose first bytes differ
first_differs : (x y : Text) → x ≡ y → slice_index x 0 ≢ slice_index y 0 → ⊥
first_differs x y e differ = differ (ap (λ t. slice_index t 0) e)

only_second : (a b d : Arg) → rule_of a ≡ settings_rule → rule_of b ≡ workers_rule → rule_of d ≡ script_rule
    → (j : ℕ) (e : Arg) → j < 3 → bytes_eq (slice_index_or (a ∷ b ∷ d ∷ []) j e).id.now b.id.now ≡ true → j ≡ 1
only_second a b d p q r zero e lt same =
    absurd (apart a.id.now b.id.now (codes "settings") (codes "workers") (ap (λ (x : Rule). x.id) p) (ap (λ (x : Rule). x.id) q) refl same)
only_second a b d p q r (suc zero) e lt same = refl
only_second a b d p q r (suc (suc zero)) e lt same =
    absurd (apart d.id.now b.id.now (codes "SCRIPT") (codes "workers") (ap (λ (x : Rule). x.id) r) (ap (λ (x : Rule). x.id) q) refl same)
only_second a b d p q r (suc (suc (suc j))) e lt same = absurd (omega arith)

second_of : (xs : List Arg) → map rule_of xs ≡ settings_rule ∷ workers_rule ∷ script_rule ∷ [] → (b : Arg) × IsSecond xs b
second_of [] is = absurd (cc)
second_of (a ∷ []) is = absurd (cc)
second_of (a ∷ b ∷ []) is = absurd (cc)
second_of (a ∷ b ∷ d ∷ []) is = (b, (omega arith, refl, cc, only_second a b d (cc) (cc) (cc)))
second_of (a ∷ b ∷ d ∷ x ∷ xs) is = absurd (cc)

-- ---- what the parser found

module _ (words : List Text) (c : Command) (m : ArgMatches) (is : app_of c ≡ command_line) (p : IsParsedFrom c m) where
  abbrev found : Found
  found = found_of m

  abbrev id : Text
  id = codes "workers"

  no_globals : IsParsed p.built found (has_subcommand m)
  no_globals = p.parsed (p.from.globals ∙ (plain_fields c (ap (λ (a : App). a.top.is_plain) is)).globals)

  no_groups : groups_of p.built ≡ []
  no_groups = (p.from.plain (is_plain c is)).1

  module _ (b : Arg) (second : IsSecond (args_of c) b) where
    id_is : (slice_index_or (args_of c) 1 b).id.now ≡ id
    id_is = ap (λ (a : Arg). a.id.now) second.1 ∙ ap (λ (r : Rule). r.id) second.2

    parser_is : (slice_index_or (args_of c) 1 b).value_parser ≡ Some (Unsigned 1 64)
    parser_is = ap (λ (a : Arg). a.value_parser) second.1 ∙ ap (λ (r : Rule). r.parser) second.2

    own : IsAuto (slice_index_or (args_of c) 1 b) → ⊥
    own (inl h) = first_differs id (codes "help") (sym id_is ∙ h) (λ e. omega (arith, e))
    own (inr h) = first_differs id (codes "version") (sym id_is ∙ h) (λ e. omega (arith, e))

    by_id : (w : Text) → w ≡ id → (j : ℕ) (x : Arg) → j < length (args_of p.built) → slice_index_or (args_of p.built) j x ≡ x
        → bytes_eq x.id.now w ≡ true → parser_of_value x.value_parser ≡ Unsigned 1 64
    by_id w key j x lt at same =
        let here : bytes_eq x.id.now (slice_index_or (args_of c) 1 b).id.now ≡ true = subst (λ u. bytes_eq x.id.now u ≡ true) (key ∙ sym id_is) same in
        let s = same_rules_by_id c m p 1 b second.0 second.3 own j x lt at here in
        ap parser_of_value (s.parser (Unsigned 1 64) parser_is)

    passes : (w v : Text) → w ≡ id → PassesArg p.built w v → IsUnsignedIn 1 64 v
    passes w v key pass = subst (λ (q : ValueParser). Accepts pass.1.ignore_case q v) (by_id w key pass.0 pass.1 pass.2 pass.3 pass.4.0) pass.4.1

    reads : (w : Text) → w ≡ id → (r : Reading) → HasReading p.built w r → r ≡ AsWritten
    reads w key r any = sym any.4.1 ∙ ap reading_of (by_id w key any.0 any.1 any.2 any.3 any.4.0)

    at_entry : (x : MatchedArg) → (e : Entry) × (e.1 ≡ x) × (bytes_eq e.0.now id ≡ true) × EntryPasses p.built e
        → (x.reading ≡ AsWritten) × All (λ v. IsUnsignedIn 1 64 v.now) x.vals.items
    at_entry x (e, same, key, pass) =
        let key_id : e.0.now ≡ id = (bytes_eq-Decides e.0.now id).0 key in
        let no_group : e.1.is_group ≡ true → ⊥ = λ g. elim (pass.3 g) [
          | inl empty ↦
              absurd (first_differs id [] (sym key_id ∙ empty) (λ e. omega (arith, e)))
          | inr lots ↦
              let bad : 0 < 0 = rw no_groups at lots in
              absurd (omega arith)
        ] in
        let reading : e.1.reading ≡ AsWritten = elim pass.4 [
          | inl g ↦ absurd (no_group g)
          | inr h ↦ reads e.0.now key_id e.1.reading h
        ] in
        let all : All (λ v. IsUnsignedIn 1 64 v.now) e.1.vals.items = elim pass.0 [
          | inl g ↦ absurd (no_group g)
          | inr vals ↦ λ k d lt. passes e.0.now (slice_index_or e.1.vals.items k d).now key_id (vals k d lt)
        ] in
        (subst (λ (y : MatchedArg). y.reading ≡ AsWritten) same reading, subst (λ (y : MatchedArg). All (λ v. IsUnsignedIn 1 64 v.now) y.vals.items) same all)

    in_entry : (x : MatchedArg) → matched_of found id ≡ Some x → (x.reading ≡ AsWritten) × All (λ v. IsUnsignedIn 1 64 v.now) x.vals.items
    in_entry x at = at_entry x (entry_by_id (EntryPasses p.built) found.entries.items id x no_globals.values at)

    as_written : one_text found id ≡ first_value found id
    as_written = go (matched_of found id) refl
      where
        go : (o : Option MatchedArg) → matched_of found id ≡ o → one_text found id ≡ first_value found id
        go None e = rw e refl
        go (Some x) e =
            let reading = (in_entry x e).0 in
            rw e (ap (λ (how : Reading). option_map (λ s. read_as how s.now) (slice_get x.vals.items 0)) reading)

    first_is : (xs : List (Bor Text)) (text : Text) → All (λ v. IsUnsignedIn 1 64 v.now) xs → option_map (λ s. s.now) (slice_get xs 0) ≡ Some text → IsUnsignedIn 1 64 text
    first_is [] text all e = absurd (cc)
    first_is (v ∷ vs) text all e =
        let same : v.now ≡ text = cc in
        subst (λ t. IsUnsignedIn 1 64 t) same (All-get_or (λ v. IsUnsignedIn 1 64 v.now) (v ∷ vs) 0 v (omega arith) all)

    is_number : (text : Text) → first_value found id ≡ Some text → IsUnsignedIn 1 64 text
    is_number text = go (matched_of found id) refl
      where
        go : (o : Option MatchedArg) → matched_of found id ≡ o → first_value found id ≡ Some text → IsUnsignedIn 1 64 text
        go None e h =
            cc
        go (Some x) e h = first_is x.vals.items text (in_entry x e).1 (rw e at h)

  pub finds_in : HasMatchesOf (app_of c) words m → FindsIn words m
  finds_in has =
      let rows : rows_of found ≡ matches_of command_line words = (subst (λ (a : App). HasMatchesOf a words m) is has refl).0 in
      let second = second_of (args_of c) (rules_are c is) in
      let first = λ (option : Text). first_value-rows found option ∙ ap (first_of option) rows in
      record {
        first = first;
        one = as_written second.0 second.1 ∙ first id;
        number = λ text e. is_number second.0 second.1 text (sym (as_written second.0 second.1) ∙ e);
      }

-- two facts of what is handed out at Ok
pub if_both : {X Y : Type 0} (r : Result X Y) (P Q R : X → Type 0) → ((x : X) → P x → Q x → R x) → IfOk r P → IfOk r Q → IfOk r R
if_both (Ok x) P Q R f p q = f x p q
if_both (Err e) P Q R f p q = tt
