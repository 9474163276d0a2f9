-- The marks go one by one, and pages come one by one.
use Rattle.std.proofs.Common.{◌≡◌, ℕ, ◌+◌, ◌<◌, ◌++◌, List, [], ◌∷◌, Bool, false, length, drop, replicate, slice_set, zero, suc, refl, ap, arith}
use Rattle.wh_space_model.specs.declared.states.Page.TheVariants.{Untouched}
use Rattle.wh_pages.specs.Table.{PageTableState}

-- the table with the first k marks taken away
abbrev pub cleared : PageTableState → ℕ → PageTableState
cleared table k = record table { touched = replicate k false ++ drop k table.touched }

-- the table with k untouched pages more
abbrev pub grown : PageTableState → ℕ → PageTableState
grown table k = record table { pages = table.pages ++ replicate k Untouched; touched = table.touched ++ replicate k false }

pub cleared_more : {X : Type 0} (xs : List X) (k : ℕ) (x : X) → k < length xs → slice_set (replicate k x ++ drop k xs) k x ≡ replicate (k + 1) x ++ drop (k + 1) xs
cleared_more [] k x within = absurd (omega arith)
cleared_more (y ∷ xs) zero x within = refl
cleared_more {X = X} (y ∷ xs) (suc k) x within = let next : suc k + 1 ≡ suc (k + 1) = omega arith in rw next (ap (λ (l : List X). x ∷ l) (cleared_more xs k x (omega arith)))

pub cleared_next : (old table new : PageTableState) (k : ℕ) → k < length old.touched → table ≡ cleared old k → new ≡ record table { touched = slice_set table.touched k false } → new ≡ cleared old (k + 1)
cleared_next old table new k below is next =
    rw (next, is) (ap (λ (marks : List Bool). record old { touched = marks }) (cleared_more old.touched k false below))
