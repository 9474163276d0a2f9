-- Pages that are looked for among those of an instance.
use Rattle.std.proofs.Common.{◌≡◌, ℕ, ◌<◌, ◌≤◌, Bool, List, [], ◌∷◌, Option, Some, None, length, get_or, slice_get, zero, suc, arith, rules}
use Rattle.wh_space_model.specs.declared.states.Page.{Page}
use Rattle.wh_pages.specs.Seeking.{IsFirstFrom, IsSought}
use Rattle.wh_pages.specs.Table.{PageTableState}
use Rattle.wh_tables.specs.Tables.{IsSoughtAt, marks_by_place, pages_by_place}
use Rattle.wh_tables.proofs.Keeping.{column_at}

next_map : (P Q : ℕ → Type 0) → ((q : ℕ) → P q → Q q) → ((q : ℕ) → Q q → P q) → (from : ℕ) (o : Option ℕ) → IsFirstFrom P from o → IsFirstFrom Q from o
next_map P Q there back from None none = λ q at is. none q at (back q is)
next_map P Q there back from (Some p) next = ((there p next.0.0, next.0.1), λ q at below is. next.1 q at below (back q is))

pub next_at : (tables : List PageTableState) (i : ℕ) (t : PageTableState) (idle : Bool) (from : ℕ) (o : Option ℕ) → i < length tables → t ≡ get_or tables i t → IsFirstFrom (IsSought t idle) from o
    → IsFirstFrom (IsSoughtAt (pages_by_place tables) (marks_by_place tables) i idle) from o
next_at tables i t idle from o within found next = search (rules, column_at, next_map)

past_rows : {X : Type 0} (xss : List (List X)) (i q : ℕ) (x : X) → length xss ≤ i → slice_get (get_or xss i []) q ≡ Some x → 1 ≤ 0
past_rows [] i zero x past e = cc
past_rows [] i (suc q) x past e = cc
past_rows (xs ∷ xss) zero q x past e = omega arith
past_rows (xs ∷ xss) (suc i) q x past e = past_rows xss i q x (omega arith) e

-- nobody is there
pub next_nowhere : (pages : List (List Page)) (marks : List (List Bool)) (i : ℕ) (idle : Bool) (from : ℕ) → length pages ≤ i → IsFirstFrom (IsSoughtAt pages marks i idle) from None
next_nowhere pages marks i idle from past = λ q at sought. (let bad = past_rows pages i q sought.page past sought.there in absurd (omega arith))
