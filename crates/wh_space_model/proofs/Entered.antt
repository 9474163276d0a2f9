-- An instance that comes leaves everything sound, and sees zeros.
use Rattle.std.proofs.Common.{◌≡◌, ◌≢◌, ℕ, ◌+◌, ◌*◌, ◌-◌, ◌≤◌, ◌⊎◌, inl, inr, map, replicate, true, false, Bool, List, [], Option, Some, None, length, slice_get, get_or, sym, ap, ◌∙◌, subst, arith, rules}
use Rattle.std.proofs.lemmas.List.{length-replicate}
use Rattle.wh_space_model.specs.{tally, EntersSoundly, EntersAtZeros, IsFreePlace, newcomer, with_row, HasTable, IsSound, OccupantsAreSound, Claimed, Occupant, Space, backing, occupant_at, of_occupant, view, joined, page_at, page_bytes}
use Rattle.wh_space_model.specs.declared.states.Page.{Page}
use Rattle.wh_space_model.specs.declared.states.Page.TheVariants.{Untouched}
use Rattle.wh_space_model.proofs.Enlarged.{IsWidened, enlarged, is_sound_enlarged}
use Rattle.wh_space_model.proofs.Putting.{get_or_is, here_or, there_of}
use Rattle.wh_space_model.proofs.Rows.{bytes_at, bytes_new, grown_at, none_of, past_there, row_longs, row_other, row_same, row_tally, same_there}

-- the place is there, or the next one
pub free_within : (s : Space) (i : ℕ) → IsFreePlace s i → i ≤ length s.occupants
free_within s i (inl e) = let l = there_of s.occupants i None e in omega arith
free_within s i (inr e) = omega arith

-- nobody is there, and no page
nobody : (s : Space) (i : ℕ) (o : Option Occupant) → IsFreePlace s i → slice_get s.occupants i ≡ Some o → o ≡ None
nobody s i o (inl e) is = let both : Some None ≡ Some o = sym e ∙ is in cc
nobody s i o (inr e) is = let l = there_of s.occupants i o is in absurd (omega arith)

no_row : (s : Space) (i : ℕ) → OccupantsAreSound s → IsFreePlace s i → get_or s.tables i [] ≡ []
no_row s i sound (inl e) = sound.have i None e
no_row s i sound (inr e) = past_there s.tables i (let l = sound.tables in omega arith)

entered_wide : (s : Space) (i m : ℕ) → OccupantsAreSound s → IsFreePlace s i → IsWidened s (with_row s.tables i (replicate m Untouched))
entered_wide s i m sound free =
    let most : i ≤ length s.tables = (let a = free_within s i free in let b = sound.tables in omega arith) in
    let row : List Page = replicate m Untouched in
    let empty = no_row s i sound free in
    record {
      sums = λ w none. (let z = none_of w m none in let e = row_tally (tally w) s.tables i row most (λ old is. (let g = sym (get_or_is s.tables i old [] is) ∙ empty in ap (tally w) g)) in omega arith);
      pages = λ j q. elim (here_or i j) [
        | inr other ↦ inl (ap (λ xs. slice_get xs q) (same_there (with_row s.tables i row) s.tables j [] (row_other s.tables i j row most (λ e. other e))))
        | inl same ↦
            (let e : page_at (with_row s.tables i row) j q ≡ slice_get row q = rw same (ap (λ xs. slice_get xs q) (get_or_is (with_row s.tables i row) i row [] (row_same s.tables i row most))) in
            let old : page_at s.tables j q ≡ None = rw same (ap (λ xs. slice_get xs q) empty) in
            elim (grown_at [] m q) [
              | inl still ↦ inl (e ∙ (still ∙ sym old))
              | inr (a, b) ↦ inr (old, e ∙ b)
            ])
      ];
    }

-- who is there now was there, or is the newcomer
entered_before : (s : Space) (i j : ℕ) (c : Claimed) (t : Occupant) → i ≤ length s.occupants → slice_get (with_row s.occupants i (Some (newcomer c))) j ≡ Some (Some t)
    → ((j ≢ i) × occupant_at s j t) ⊎ ((j ≡ i) × (newcomer c ≡ t))
entered_before s i j c t most is = search (rules, here_or, row_other, row_same)

entered_after : (s : Space) (i j : ℕ) (c : Claimed) (t : Occupant) → IsFreePlace s i → occupant_at s j t → slice_get (with_row s.occupants i (Some (newcomer c))) j ≡ Some (Some t)
entered_after s i j c t free is = search (rules, here_or, row_other, free_within, nobody)

has_new : (c : Claimed) (size : ℕ) → (2 ≤ c.min) × (c.min ≤ c.max) × (c.max ≤ 65536) → (1 ≤ c.shares) × (c.shares ≤ 1000000) → 16 * size ≤ c.max → HasTable (Some (newcomer c)) (replicate (16 * size) Untouched)
has_new c size bounds shares fits =
    let b = length-replicate (16 * size) Untouched in
    (bounds.0, bounds.1, omega arith, λ gone. absurd (let bad : true ≡ false = gone in cc), bounds.2, shares.0, shares.1, (size, b))

pub enters_soundly : EntersSoundly
unfolding enlarged
enters_soundly s i c size s2 sound enters =
    let most = free_within s i enters.free in
    let many = sound.occupants.tables in
    let many2 = sound.occupants.touched in
    let most1 : i ≤ length s.tables = omega arith in
    let most2 : i ≤ length s.touched = omega arith in
    let row : List Page = replicate (16 * size) Untouched in
    let marks : List Bool = replicate (16 * size) false in
    let tables : List (List Page) = with_row s.tables i row in
    let touched : List (List Bool) = with_row s.touched i marks in
    let occupants : List (Option Occupant) = with_row s.occupants i (Some (newcomer c)) in
    let here : get_or tables i [] ≡ row = get_or_is tables i row [] (row_same s.tables i row most1) in
    let here2 : get_or touched i [] ≡ marks = get_or_is touched i marks [] (row_same s.touched i marks most2) in
    let away : (j : ℕ) → j ≢ i → get_or tables j [] ≡ get_or s.tables j [] = λ j other. same_there tables s.tables j [] (row_other s.tables i j row most1 other) in
    let away2 : (j : ℕ) → j ≢ i → get_or touched j [] ≡ get_or s.touched j [] = λ j other. same_there touched s.touched j [] (row_other s.touched i j marks most2 other) in
    let sum : (w : Occupant → ℕ) → tally (of_occupant w) occupants ≡ tally (of_occupant w) s.occupants + w (newcomer c) =
    λ w. row_tally (of_occupant w) s.occupants i (Some (newcomer c)) most (λ o is. ap (of_occupant w) (nobody s i o enters.free is)) in
    subst IsSound (sym enters.leaves) (is_sound_enlarged s occupants tables touched sound (entered_wide s i (16 * size) sound.occupants enters.free)
    (λ j t is. elim (entered_before s i j c t most is) [ inl (other, was) ↦ inl was | inr (same, one) ↦ inr (sym (ap (λ (a : Occupant). a.leaves) one)) ])
    (λ j t is. entered_after s i j c t enters.free is)
    (record {
      tables = row_longs s.tables s.occupants i row (Some (newcomer c)) many most1;
      touched = row_longs s.touched s.occupants i marks (Some (newcomer c)) many2 most2;
      have = λ j o is. elim (here_or i j) [
        | inr other ↦ subst (HasTable o) (sym (away j (λ e. other e))) (sound.occupants.have j o (sym (row_other s.occupants i j (Some (newcomer c)) most (λ e. other e)) ∙ is))
        | inl same ↦
            (let is2 : slice_get occupants i ≡ Some o = subst (λ z. slice_get occupants z ≡ Some o) same is in
            let both : Some (Some (newcomer c)) ≡ Some o = sym (row_same s.occupants i (Some (newcomer c)) most) ∙ is2 in
            let one : Some (newcomer c) ≡ o = cc in
            subst (λ z. HasTable o (get_or tables z [])) (sym same) (subst (HasTable o) (sym here) (subst (λ z. HasTable z row) one (has_new c size enters.bounds enters.shares enters.fits))))
      ];
      marks = search (rules, here_or, length-replicate);
      numbers = search (rules, entered_before);
      released = search (rules, entered_before);
      needs = λ j t need is stands. elim (entered_before s i j c t most is) [
        | inl (other, was) ↦ (let n = sound.occupants.needs j t need was stands in let l = ap length (away j other) in (n.0, omega (arith, n.1, l), n.2))
        | inr (same, one) ↦ absurd (let bad : None ≡ Some need = ap (λ (a : Occupant). a.stands) one ∙ stands in cc)
      ];
    })
    ((let a = sum (λ t. t.min) in let b = enters.room.0 in omega arith), (let a = sum (λ t. (t.max - t.min) + 1) in let b = enters.room.1 in omega arith)))

-- it sees nothing but zeros
pub enters_at_zeros : EntersAtZeros
enters_at_zeros s i c size s2 sound enters =
    let most : i ≤ length s.tables = (let a = free_within s i enters.free in let b = sound.occupants.tables in omega arith) in
    let row : List Page = replicate (16 * size) Untouched in
    ap (λ a. view a i) enters.leaves
    ∙ (ap joined (bytes_at (backing s) (with_row s.tables i row) i)
    ∙ (ap (λ xs. joined (map (page_bytes (backing s)) xs)) (get_or_is (with_row s.tables i row) i row [] (row_same s.tables i row most))
    ∙ (bytes_new (backing s) (16 * size) ∙ (let e : 4096 * (16 * size) ≡ 65536 * size = omega arith in ap (λ m. replicate m 0) e))))
