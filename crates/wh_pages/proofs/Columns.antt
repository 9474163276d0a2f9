-- One column of the first n rows: the pages, or the marks.
use Rattle.std.proofs.Common.{◌≡◌, ℕ, ◌<◌, ◌≤◌, List, Bool, length, map, take, slice_set, refl, ◌∙◌, ap, arith}
use Rattle.std.proofs.lemmas.List.{map-set}
use Rattle.std.proofs.lemmas.Grind.{common_steps}
use Rattle.wh_space_model.specs.declared.states.Page.{Page}
use Rattle.wh_pages.specs.Table.{PageTableState}
use Rattle.std.proofs.Math.Seq.{take-set-lt}

-- a row is written
pub column-set : {X Y : Type 0} (f : X → Y) (rows new : List X) (n i : ℕ) (x : X) (y : Y) → i < n → new ≡ slice_set rows i x → f x ≡ y → map f (take n new) ≡ slice_set (map f (take n rows)) i y
column-set f rows new n i x y within is value =
    rw (is, ← value) (ap (map f) (take-set-lt n rows i x within) ∙ map-set f (take n rows) i x)

pub length-column : {X Y : Type 0} (f : X → Y) (rows : List X) (n : ℕ) → n ≤ length rows → length (map f (take n rows)) ≡ n
length-column f rows n within = grind (arith, common_steps)

-- the table with these columns
abbrev pub table : List Page → List Bool → ℕ → PageTableState
table p s m = record { pages = p; touched = s; max = m }

pub same_table : (p q : List Page) (s t : List Bool) (m : ℕ) → p ≡ q → s ≡ t → table p s m ≡ table q t m
same_table p q s t m pages touched = rw (pages, touched) refl
