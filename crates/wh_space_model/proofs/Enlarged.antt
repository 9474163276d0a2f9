-- Pages and instances that are new leave everything sound.
use Rattle.std.proofs.Common.{◌≡◌, ◌≢◌, ℕ, ◌+◌, ◌*◌, ◌<◌, ◌≤◌, ◌++◌, ◌⊎◌, inl, inr, map, replicate, true, false, Bool, List, [], Option, Some, None, length, slice_get, slice_set, get_or, refl, sym, ap, ◌∙◌, subst, arith, length-set, length-append, rules}
use Rattle.std.proofs.lemmas.List.{get_or-set_same, get_or-set_other, length-replicate}
use Rattle.wh_space_model.proofs.Tally.{tally-append}
use Rattle.wh_space_model.specs.declared.states.Page.{Page}
use Rattle.wh_space_model.specs.declared.states.Page.TheVariants.{Untouched, Coming}
use Rattle.wh_space_model.specs.{GrowsSoundly, GrowsByZeros, HasTable, IsAdmissible, IsSound, OccupantsAreSound, Occupant, Space, backing, occupant_at, sharers, view, at, comes_from, count, joined, leaving, lies_in, owns, page_at, page_bytes, shares}
use Rattle.wh_space_model.proofs.Evicted.{names_other, used_other}
use Rattle.wh_space_model.proofs.Putting.{here_or, there_of}
use Rattle.wh_space_model.proofs.Rows.{bytes_at, bytes_grown, bytes_new, grown_at, none_of, rows_sum}

-- all pages are what they were, but that untouched ones are new
pub record IsWidened (s : Space) (tables : List (List Page)) : Type 0 where
  pub sums : (w : Page → ℕ) → w Untouched ≡ 0 → count w tables ≡ count w s.tables
  pub pages : (j q : ℕ) → (page_at tables j q ≡ page_at s.tables j q) ⊎ ((page_at s.tables j q ≡ None) × (page_at tables j q ≡ Some Untouched))

at_wide : (s : Space) (tables : List (List Page)) (w : Page → ℕ) (j q : ℕ) → IsWidened s tables → w Untouched ≡ 0 → at w (page_at tables j q) ≡ at w (page_at s.tables j q)
at_wide s tables w j q wide none = search rules

page_wide : (s : Space) (tables : List (List Page)) (j q : ℕ) (x : Page) → IsWidened s tables → page_at s.tables j q ≡ Some x → page_at tables j q ≡ Some x
page_wide s tables j q x wide is = search rules

unfoldable pub enlarged : Space → List (Option Occupant) → List (List Page) → List (List Bool) → Space
enlarged s occupants tables touched = record s { occupants = occupants; tables = tables; touched = touched }

pub is_sound_enlarged : (s : Space) (occupants : List (Option Occupant)) (tables : List (List Page)) (touched : List (List Bool)) → IsSound s → IsWidened s tables
    → ((j : ℕ) (t : Occupant) → slice_get occupants j ≡ Some (Some t) → occupant_at s j t ⊎ (t.leaves ≡ None))
    → ((j : ℕ) (t : Occupant) → occupant_at s j t → slice_get occupants j ≡ Some (Some t))
    → OccupantsAreSound (enlarged s occupants tables touched) → IsAdmissible (enlarged s occupants tables touched) → IsSound (enlarged s occupants tables touched)
unfolding enlarged
is_sound_enlarged s occupants tables touched sound wide before after occupied admissible =
    let s2 : Space = record s { occupants = occupants; tables = tables; touched = touched } in
    let own : (f : ℕ) → count (owns f) tables ≡ count (owns f) s.tables = λ f. wide.sums (owns f) refl in
    let share : (f : ℕ) → sharers s2 f ≡ sharers s f = λ f. wide.sums (shares f) refl in
    record {
      frames = record {
        one = λ f less. (let a = own f in let b = share f in let e = sound.frames.one f less in omega arith);
        none = λ f past. (let a = own f in let b = share f in let e = sound.frames.none f past in omega arith);
        whole = sound.frames.whole;
        marks = sound.frames.marks;
        names = λ f. names_other s s2 f (slice_get s.marks f) refl (share f) (λ j q is. at_wide s tables (owns f) j q wide refl ∙ is) (sound.frames.names f);
        apart = sound.frames.apart;
      };
      slots = record {
        used = λ k. used_other s s2 k (slice_get s.slots.uses k) (wide.sums (lies_in k) refl) (wide.sums (comes_from k) refl) refl
            (λ j q is. at_wide s tables leaving j q wide refl ∙ is) (λ j q is. page_wide s tables j q (Coming k) wide is) (sound.slots.used k);
        by_one = λ j k by. (let found = sound.slots.by_one j k by in (found.0, after j found.0 found.1, found.2));
        by_this = search rules;
        leaving = λ j q is. sound.slots.leaving j q (sym (at_wide s tables leaving j q wide refl) ∙ is);
        voids = λ j k f is. (let found = sound.slots.voids j k f is in (found.0, after j found.0 found.1, found.2));
        held = sound.slots.held;
        whole = λ k some. sound.slots.whole k (let a = wide.sums (lies_in k) refl in let b = wide.sums (comes_from k) refl in omega arith);
      };
      occupants = occupied;
      pins = search (rules, at_wide);
      admissible = admissible;
    }

-- an instance that grows
grown_wide : (s : Space) (i m : ℕ) → i < length s.tables → IsWidened s (slice_set s.tables i (get_or s.tables i [] ++ replicate m Untouched))
grown_wide s i m within =
    let row : List Page = get_or s.tables i [] in
    record {
      sums = λ w none. (let a = rows_sum w s.tables i (row ++ replicate m Untouched) within in let b = tally-append w row (replicate m Untouched) in let c = none_of w m none in omega arith);
      pages = search (rules, here_or, get_or-set_other, replicate, get_or-set_same, grown_at);
    }

has_grown : (t : Occupant) (row : List Page) (n : ℕ) → t.live ≡ true → length row + 16 * n ≤ t.max → HasTable (Some t) row → HasTable (Some t) (row ++ replicate (16 * n) Untouched)
has_grown t row n live fits has =
    let a = length-append row (replicate (16 * n) Untouched) in
    let b = length-replicate (16 * n) Untouched in
    (has.0, has.1, omega arith, λ gone. absurd (let bad : true ≡ false = sym live ∙ gone in cc), has.4, has.5, has.6, (has.7.0 + n, let e = has.7.1 in omega arith))

pub grows_soundly : GrowsSoundly
unfolding enlarged
grows_soundly s i n t s2 sound was live fits is =
    let within : i < length s.tables = (let a = there_of s.occupants i (Some t) was in let b = sound.occupants.tables in omega arith) in
    let row : List Page = get_or s.tables i [] in
    let more : List Page = row ++ replicate (16 * n) Untouched in
    let old : List Bool = get_or s.touched i [] in
    let marks : List Bool = old ++ replicate (16 * n) false in
    let tables : List (List Page) = slice_set s.tables i more in
    let touched : List (List Bool) = slice_set s.touched i marks in
    let within2 : i < length s.touched = (let a = there_of s.occupants i (Some t) was in let b = sound.occupants.touched in omega arith) in
    let many : length more ≡ length row + 16 * n = (let a = length-append row (replicate (16 * n) Untouched) in let b = length-replicate (16 * n) Untouched in omega arith) in
    let many2 : length marks ≡ length old + 16 * n = (let a = length-append old (replicate (16 * n) false) in let b = length-replicate (16 * n) false in omega arith) in
    let away : (j : ℕ) → j ≢ i → get_or tables j [] ≡ get_or s.tables j [] = λ j other. get_or-set_other s.tables i j more [] other in
    let here : get_or tables i [] ≡ more = get_or-set_same s.tables i more [] within in
    let long : (j : ℕ) → length (get_or s.tables j []) ≤ length (get_or tables j []) = search (rules, here_or) in
    subst IsSound (sym is) (is_sound_enlarged s s.occupants tables touched sound (grown_wide s i (16 * n) within) (λ j u at_it. inl at_it) (λ j u at_it. at_it) (record {
      tables = length-set s.tables i more ∙ sound.occupants.tables;
      touched = length-set s.touched i marks ∙ sound.occupants.touched;
      have = λ j o at_it. elim (here_or i j) [
        | inr other ↦ subst (HasTable o) (sym (away j (λ e. other e))) (sound.occupants.have j o at_it)
        | inl same ↦
            (let at2 : slice_get s.occupants i ≡ Some o = subst (λ z. slice_get s.occupants z ≡ Some o) same at_it in
            let both : Some (Some t) ≡ Some o = sym was ∙ at2 in
            let one : Some t ≡ o = cc in
            let has : HasTable (Some t) more = has_grown t row n live fits (sound.occupants.have i (Some t) was) in
            subst (λ z. HasTable o (get_or tables z [])) (sym same) (subst (HasTable o) (sym here) (subst (λ z. HasTable z more) one has)))
      ];
      marks = search (rules, here_or, get_or-set_other, get_or-set_same);
      numbers = sound.occupants.numbers;
      released = sound.occupants.released;
      needs = λ j u need at_it stands. (let a = sound.occupants.needs j u need at_it stands in let l = long j in (a.0, omega (arith, a.1, l), a.2));
    }) sound.admissible)

-- it sees zeros behind what it saw
pub grows_by_zeros : GrowsByZeros
grows_by_zeros s i n t s2 sound was is =
    let within : i < length s.tables = (let a = there_of s.occupants i (Some t) was in let b = sound.occupants.tables in omega arith) in
    let row : List Page = get_or s.tables i [] in
    let more : List Page = row ++ replicate (16 * n) Untouched in
    let now : view s2 i ≡ joined (map (page_bytes (backing s)) more) =
    ap (λ a. view a i) is ∙ (ap joined (bytes_at (backing s) (slice_set s.tables i more) i) ∙ ap (λ xs. joined (map (page_bytes (backing s)) xs)) (get_or-set_same s.tables i more [] within)) in
    let before : view s i ≡ joined (map (page_bytes (backing s)) row) = ap joined (bytes_at (backing s) s.tables i) in
    let zeros : joined (map (page_bytes (backing s)) (replicate (16 * n) Untouched)) ≡ replicate (65536 * n) 0 = bytes_new (backing s) (16 * n) ∙ (let e : 4096 * (16 * n) ≡ 65536 * n = omega arith in ap (λ m. replicate m 0) e) in
    now ∙ (bytes_grown (backing s) row (replicate (16 * n) Untouched) ∙ rw (zeros, before) refl)
