-- The words of a module's globals one by one, and whether all of its segments fit.
use Rattle.std.proofs.Common.{◌≡◌, ◌∙◌, ℕ, ◌-◌, ◌*◌, ◌<◌, ◌≤◌, Bool, true, false, List, length, map, get_or, slice_index, sym, subst, arith, length-append}
use Rattle.std.specs.Prelude.{IsTrue, ◌↔◌}
use Rattle.std.proofs.lemmas.List.{length-map, get_or-map, get_or-append_right}
use Rattle.std.proofs.Math.ListN.{get_or-append}
use Rattle.wh_model.specs.Execution.{Parameters}
use Rattle.wh_model.specs.declared.host.HostGlobal.{HostGlobal}
use Rattle.wh_syntax.specs.declared.module.Module.{Module}
use Rattle.wh_syntax.specs.declared.module.Global.{Global}
use Rattle.wh_initial.specs.ConstantWords.{word_in, host_word}
use Rattle.wh_initial.specs.InWords.{words_of_globals, ElementsFit, SegmentsFit, AllFit, first_entries, first_pages}

-- ---- one word

module _ (m : Module) (imported : List HostGlobal) (p : Parameters) (x : ℕ) where
  abbrev hosts : List ℕ
  hosts = map (host_word p) imported

  abbrev owns : List ℕ
  owns = map (λ g. word_in hosts g.init) m.globals.items

  pub own_there : x < length (words_of_globals m imported p) → length imported ≤ x
      → x - length imported < length m.globals.items
  unfolding words_of_globals
  own_there lt far =
      let both = length-append hosts owns in
      let first = length-map imported (host_word p) in
      let second = length-map m.globals.items (λ g. word_in hosts g.init) in
      omega (arith, lt, far, both, first, second)

  pub imported_at : x < length imported → slice_index hosts x ≡ slice_index (words_of_globals m imported p) x
  unfolding words_of_globals
  imported_at lt =
      let first = length-map imported (host_word p) in
      sym (get_or-append hosts owns 0 x (omega (arith, lt, first)))

  pub own_at : (d : Global) → length imported ≤ x → x - length imported < length m.globals.items
      → word_in hosts (get_or m.globals.items (x - length imported) d).init
      ≡ slice_index (words_of_globals m imported p) x
  unfolding words_of_globals
  own_at d far lt =
      sym (get_or-append_right hosts owns (length imported) x 0 (length-map imported (host_word p)) far
      ∙ get_or-map (λ g. word_in hosts g.init) m.globals.items (x - length imported) d 0 lt)

-- ---- all segments

not_true : (r : Bool) (P : Type 0) → r ≡ false → IsTrue r ↔ P → ¬ P
not_true r P lie decides = λ h. let yes = decides.1 h in absurd (cc)

module _ (m : Module) (words : List ℕ) (size : ℕ) (r : Bool) (sized : size ≡ first_entries m)
    (decides : IsTrue r ↔ ElementsFit words size m.elements.items) where
  pub elements_pass : r ≡ false → IsTrue r ↔ AllFit m words
  unfolding AllFit
  elements_pass lie = (
    λ yes. absurd (cc),
    λ fit. absurd (not_true r (ElementsFit words size m.elements.items) lie decides
        (subst (λ n. ElementsFit words n m.elements.items) (sym sized) fit.0)),
  )

  pub both_decide : (bytes : ℕ) (r2 : Bool) → bytes ≡ first_pages m * 65536 → r ≡ true
      → IsTrue r2 ↔ SegmentsFit words bytes m.segments.items → IsTrue r2 ↔ AllFit m words
  unfolding AllFit
  both_decide bytes r2 many is others = (
    λ yes. (
      subst (λ n. ElementsFit words n m.elements.items) sized (decides.0 is),
      subst (λ n. SegmentsFit words n m.segments.items) many (others.0 yes),
    ),
    λ fit. others.1 (subst (λ n. SegmentsFit words n m.segments.items) (sym many) fit.1),
  )

pub elements_bound : (m : Module) (words : List ℕ) (size : ℕ) → size ≡ first_entries m → AllFit m words
    → ElementsFit words size m.elements.items
unfolding AllFit
elements_bound m words size sized fit = subst (λ n. ElementsFit words n m.elements.items) (sym sized) fit.0
