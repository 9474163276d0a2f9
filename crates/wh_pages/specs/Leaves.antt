-- Entries in leaves of 256.
use Rattle.std.specs.Prelude.{ℕ, ◌≡◌, ◌++◌, cond, Bool, true, false, List, [], ◌∷◌, length}
use Rattle.std.specs.Global.{Vec}
use Rattle.std.specs.List.{All}
use Rattle.wh_space_model.specs.Frames.{tally}
use Rattle.wh_space_model.specs.States.{resident}
use Rattle.wh_pages.specs.declared.entry.PageEntry.{PageEntry}
use Rattle.wh_pages.specs.Parts.{page_of}

-- the entries of all leaves in order
abbrev pub joined_leaves : {X : Type 0} → List (Vec X) → List X
joined_leaves [] = []
joined_leaves (leaf ∷ leaves) = leaf.items ++ joined_leaves leaves

-- each leaf is whole
abbrev pub HasWholeLeaves : {X : Type 0} → List (Vec X) → Type 0
HasWholeLeaves leaves = All (λ leaf. length leaf.items ≡ 256) leaves

-- 1 where the page of an entry is resident
abbrev pub residents_of : PageEntry → ℕ
residents_of entry = resident (page_of entry)

-- and was touched in this epoch
abbrev pub actives_of : PageEntry → ℕ
actives_of entry = cond entry.touched (resident (page_of entry)) 0

-- the page of an entry is resident; if idle ones alone are looked for, it wasn't touched in this epoch
abbrev pub IsSoughtEntry : Bool → PageEntry → Type 0
IsSoughtEntry idle entry = (residents_of entry ≡ 1) × (idle ≡ true → entry.touched ≡ false)

-- a leaf is whole, and its counts are counts
pub record AreCountsOf (entries : List PageEntry) (residents actives : ℕ) : Type 0 where
  pub whole : length entries ≡ 256
  pub resident : residents ≡ tally residents_of entries
  pub active : actives ≡ tally actives_of entries
