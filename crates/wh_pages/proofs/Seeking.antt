-- What is looked for among the rows of a table.
use Rattle.std.proofs.Common.{◌≡◌, ◌≢◌, ◌∙◌, ℕ, zero, suc, ◌+◌, ◌*◌, ◌<◌, ◌≤◌, ◌⊎◌, inl, inr, is_some, Bool, true, false, List, [], ◌∷◌, Option, Some, None, map, take, slice_get, refl, sym, ap, arith}
use Rattle.std.specs.Prelude.{IfNone, IfSome}
use Rattle.wh_space_model.specs.{resident}
use Rattle.wh_pages.specs.declared.entry.PageEntry.{PageEntry}
use Rattle.wh_pages.specs.declared.table.PageTable.TheInside.{Inside}
use Rattle.wh_pages.specs.Leaves.{IsSoughtEntry}
use Rattle.wh_pages.specs.Parts.{page_of, page_table_of}
use Rattle.wh_pages.specs.Seeking.{IsFirstFrom, IsSought}
use Rattle.wh_pages.proofs.Counts.{column_get}

one_value : {X : Type 0} {x y : X} → Some x ≡ Some y → x ≡ y
one_value e = cc e

-- a row by its column
pub record IsRow {X Y : Type 0} (f : X → Y) (rows : List X) (n i : ℕ) (y : Y) : Type 0 where
  pub row : X
  pub within : i < n
  pub there : slice_get rows i ≡ Some row
  pub is : f row ≡ y

later : {X Y : Type 0} (f : X → Y) (x : X) (rows : List X) (n i : ℕ) (y : Y) → IsRow f rows n i y → IsRow f (x ∷ rows) (suc n) (suc i) y
later f x rows n i y r = record { row = r.row; within = (let w = r.within in omega arith); there = r.there; is = r.is }

column_row : {X Y : Type 0} (f : X → Y) (rows : List X) (n i : ℕ) (y : Y) → slice_get (map f (take n rows)) i ≡ Some y → IsRow f rows n i y
column_row f [] zero i y e = absurd (let bad : None ≡ Some y = e in cc bad)
column_row f [] (suc n) i y e = absurd (let bad : None ≡ Some y = e in cc bad)
column_row f (x ∷ rows) zero i y e = absurd (let bad : None ≡ Some y = e in cc bad)
column_row f (x ∷ rows) (suc n) zero y e = record { row = x; within = omega arith; there = refl; is = one_value e }
column_row f (x ∷ rows) (suc n) (suc i) y e = later f x rows n i y (column_row f rows n i y e)

not_marked : {o : Option Bool} (b : Bool) → o ≡ Some b → b ≡ false → o ≢ Some true
not_marked b is clear = λ e. (let bad : true ≡ false = one_value (sym e ∙ is) ∙ clear in absurd (cc bad))

unmarked : (b : Bool) → Some b ≢ Some true → b ≡ false
unmarked true lacks = absurd (lacks refl)
unmarked false lacks = refl

-- an entry that is looked for, among those of the pages
pub sought_of_entry : (a : Inside) (idle : Bool) (q : ℕ) (e : PageEntry) → q < a.len → slice_get a.rows q ≡ Some e → IsSoughtEntry idle e → IsSought (page_table_of a) idle q
sought_of_entry a idle q e within there sought = record {
  page = page_of e;
  there = column_get page_of a.rows a.len q e within there;
  stands = sought.0;
  untouched = λ so. not_marked e.touched (column_get (λ entry. entry.touched) a.rows a.len q e within there) (sought.1 so);
}

pub record HasSought (a : Inside) (idle : Bool) (q : ℕ) : Type 0 where
  pub entry : PageEntry
  pub within : q < a.len
  pub there : slice_get a.rows q ≡ Some entry
  pub sought : IsSoughtEntry idle entry

pub entry_of_sought : (a : Inside) (idle : Bool) (q : ℕ) → IsSought (page_table_of a) idle q → HasSought a idle q
entry_of_sought a idle q sought =
    let r = column_row page_of a.rows a.len q sought.page sought.there in record {
      entry = r.row;
      within = r.within;
      there = r.there;
      sought = (ap resident r.is ∙ sought.stands, λ so. unmarked r.row.touched (λ e. sought.untouched so (column_get (λ (entry : PageEntry). entry.touched) a.rows a.len q r.row r.within r.there ∙ e)));
    }

-- one place more
pub next_or : (q n : ℕ) → q < n + 1 → (q < n) ⊎ (q ≡ n)
next_or q n less = grind arith

-- ---- over the leaves

pub either : (q n : ℕ) → (q < n) ⊎ (n ≤ q)
either q n = grind arith

pub next_here : (P : ℕ → Type 0) (from leaf : ℕ) (o : Option ℕ) → is_some o ≡ true → ((q : ℕ) → from ≤ q → q < 256 * leaf → ¬ P q)
    → IfSome o (λ p. (P p × (from ≤ p)) × ((q : ℕ) → from ≤ q → 256 * leaf ≤ q → q < p → ¬ P q)) → IsFirstFrom P from o
next_here P from leaf None some lower here = absurd (let bad : false ≡ true = some in cc bad)
next_here P from leaf (Some p) some lower here = (here.0, λ q at below. elim (either q (256 * leaf)) [ inl less ↦ lower q at less | inr more ↦ here.1 q at more below ])

pub none_here : {X : Type 0} (o : Option ℕ) → is_some o ≡ false → IfNone o X → X
none_here None none x = x
none_here (Some p) none x = absurd (let bad : true ≡ false = none in cc bad)
