-- The bytes of a page that is in a slot, or comes from it, are those that the slot holds.
use Rattle.std.proofs.Common.{◌≡◌, ◌≢◌, ◌⊎◌, ⊎_elim, ◌∙◌, ℕ, zero, suc, ◌+◌, ◌*◌, ◌<◌, ◌≤◌, List, [], ◌∷◌, Some, length, get_or, refl, ap, arith}
use Rattle.wh_model.specs.Execution.{bytes_at}
use Rattle.wh_space_model.specs.{Space, backing, view, IsSound, comes_from, count, lies_in, page_at, page_bytes}
use Rattle.wh_space_model.specs.declared.states.Page.{Page}
use Rattle.wh_space_model.specs.declared.states.Page.TheVariants.{Coming, Swapped}
use Rattle.wh_space_model.proofs.Putting.{get_pages}
use Rattle.wh_space_model.proofs.Reading.{read_page}
use Rattle.wh_space_model.proofs.Tally.{one_same}

-- what isn't there is empty
there_if_long : (xss : List (List ℕ)) (k : ℕ) → 1 ≤ length (get_or xss k []) → k < length xss
there_if_long [] k some = absurd (omega (arith, some))
there_if_long (xs ∷ xss) zero some = omega arith
there_if_long (xs ∷ xss) (suc k) some = let n = there_if_long xss k some in omega (arith, n)

-- the slot is there, holds a page, and has the bytes of this one
pub record HoldsPage (s : Space) (i p k : ℕ) : Type 0 where
  pub there : k < length s.slots.held
  pub long : length (get_or s.slots.held k []) ≡ 4096
  pub has : (r n : ℕ) → r + n ≤ 4096 → bytes_at (view s i) (4096 * p + r) n ≡ bytes_at (get_or s.slots.held k []) r n

held_by : (s : Space) (i p k : ℕ) (x : Page) → IsSound s → page_at s.tables i p ≡ Some x → page_bytes (backing s) x ≡ get_or s.slots.held k [] → 1 ≤ count (lies_in k) s.tables + count (comes_from k) s.tables → HoldsPage s i p k
held_by s i p k x sound there is some =
    let long = sound.slots.whole k some in
    record {
      there = there_if_long s.slots.held k (omega (arith, long));
      long = long;
      has = λ r n within. read_page s i p x r n sound there within ∙ ap (λ b. bytes_at b r n) is;
    }

pub holds_page : (s : Space) (i p k : ℕ) → IsSound s → (page_at s.tables i p ≡ Some (Swapped k)) ⊎ (page_at s.tables i p ≡ Some (Coming k)) → HoldsPage s i p k
holds_page s i p k sound lies =
    let one = one_same k k refl in
    ⊎_elim
    (λ (there : page_at s.tables i p ≡ Some (Swapped k)). let some = get_pages (lies_in k) s.tables i p (Swapped k) there in held_by s i p k (Swapped k) sound there refl (omega (arith, one, some)))
    (λ (there : page_at s.tables i p ≡ Some (Coming k)). let some = get_pages (comes_from k) s.tables i p (Coming k) there in held_by s i p k (Coming k) sound there refl (omega (arith, one, some)))
    lies

pub isnt_empty : (bytes : List ℕ) → length bytes ≡ 4096 → bytes ≢ []
isnt_empty bytes long none = let zero_long : length bytes ≡ 0 = ap length none in absurd (omega (arith, long, zero_long))
