-- What the counts of a leaf say of its entries.
use Rattle.std.proofs.Common.{◌≡◌, ℕ, zero, suc, ◌≤◌, cond, Bool, true, false, List, [], ◌∷◌, length, slice_index_or, refl, arith}
use Rattle.std.specs.List.{All}
use Rattle.wh_space_model.specs.{tally, resident}
use Rattle.wh_space_model.proofs.Sums.{tally_le}
use Rattle.wh_pages.specs.declared.entry.PageEntry.{PageEntry}
use Rattle.wh_pages.specs.Leaves.{AreCountsOf, IsSoughtEntry, actives_of, residents_of}
use Rattle.wh_pages.specs.Parts.{page_of}
use Rattle.wh_pages.proofs.Counts.{resident_one}

pub none_counted : {X : Type 0} (w : X → ℕ) (xs : List X) → tally w xs ≡ 0 → All (λ x. w x ≡ 0) xs
none_counted w [] none k d below = absurd (omega (arith, below))
none_counted w (x ∷ xs) none zero d below = omega (arith, none)
none_counted w (x ∷ xs) none (suc k) d below = none_counted w xs (omega (arith, none)) k d (omega (arith, below))

pub as_many_counted : {X : Type 0} (v w : X → ℕ) (xs : List X) → ((x : X) → w x ≤ v x) → tally v xs ≤ tally w xs → All (λ x. v x ≡ w x) xs
as_many_counted v w [] less most k d below = absurd (omega (arith, below))
as_many_counted v w (x ∷ xs) less most zero d below = let rest = tally_le w v xs less in let first = less x in omega (arith, most, rest, first)
as_many_counted v w (x ∷ xs) less most (suc k) d below = let first = less x in as_many_counted v w xs less (omega (arith, most, first)) k d (omega (arith, below))

pub actives_less : (e : PageEntry) → actives_of e ≤ residents_of e
actives_less e = go e.touched where
  go : (b : Bool) → cond b (resident (page_of e)) 0 ≤ resident (page_of e)
  go true = omega arith
  go false = omega arith

pub residents_most : (xs : List PageEntry) → tally residents_of xs ≤ length xs
residents_most [] = omega arith
residents_most (e ∷ xs) = let one = resident_one (page_of e) in let rest = residents_most xs in omega (arith, one, rest)

pub actives_most : (xs : List PageEntry) → tally actives_of xs ≤ length xs
actives_most [] = omega arith
actives_most (e ∷ xs) = let one = resident_one (page_of e) in let less = actives_less e in let rest = actives_most xs in omega (arith, one, less, rest)

-- ---- what is looked for

idle_counts : (e : PageEntry) → e.touched ≡ false → actives_of e ≡ 0
idle_counts e untouched = rw untouched refl

pub none_sought : (xs : List PageEntry) (idle : Bool) (residents actives others : ℕ) → AreCountsOf xs residents actives → others ≡ cond idle actives 0 → residents ≤ others → All (λ e. ¬ IsSoughtEntry idle e) xs
none_sought xs true residents actives others counted is most k d below sought =
    let same = as_many_counted residents_of actives_of xs actives_less (omega (arith, is, most, counted.resident, counted.active)) k d below in
    let none = idle_counts (slice_index_or xs k d) (sought.1 refl) in
    omega (arith, same, none, sought.0)
none_sought xs false residents actives others counted is most k d below sought =
    let none = none_counted residents_of xs (omega (arith, is, most, counted.resident)) k d below in
    omega (arith, none, sought.0)
