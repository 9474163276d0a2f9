-- What one page that is another one now changes of the charges: those of the frames on which it stood and stands alone.
use Rattle.std.proofs.Common.{◌≡◌, ◌≢◌, ℕ, ◌+◌, ◌<◌, ◌==◌, inl, inr, min, List, Some, zero, suc, refl, ◌∙◌, arith, length-set, rules}
use Rattle.std.proofs.lemmas.Bool.{cases_lt}
use Rattle.wh_space_model.specs.declared.states.Page.{Page}
use Rattle.wh_space_model.specs.{page_at, put, below, charge_in, standing_at, stands_on}
use Rattle.wh_space_model.proofs.Putting.{here_or, put_other_row, row_put}

-- sums that differ at one number alone
pub below_change : (n f : ℕ) (v w : ℕ → ℕ) → f < n → ((k : ℕ) → k ≢ f → w k ≡ v k) → below n w + v f ≡ below n v + w f
below_change zero f v w less each = absurd (omega arith)
below_change (suc n) f v w less each =
    elim (cases_lt f n) [
      | inl before ↦ (let rest = below_change n f v w before each in let last = each n (λ e. omega arith) in omega arith)
      | inr most ↦
          (let e : f ≡ n = omega arith in
          let rest = below_alike n v w (λ k less2. each k (λ q. omega arith)) in
          rw e (omega arith))
    ] where
      below_alike : (n : ℕ) (v w : ℕ → ℕ) → ((k : ℕ) → k < n → w k ≡ v k) → below n w ≡ below n v
      below_alike zero v w each = refl
      below_alike (suc n) v w each = let rest = below_alike n v w (λ k less. each k (omega arith)) in let one = each n (omega arith) in omega arith

pub below_each : (n : ℕ) (v w : ℕ → ℕ) → ((k : ℕ) → w k ≡ v k) → below n w ≡ below n v
below_each zero v w each = refl
below_each (suc n) v w each = let rest = below_each n v w each in let one = each n in omega arith

-- on a frame on which the page stands as before as many pages stand, of whichever instance
pub standing_same : (tables : List (List Page)) (i p : ℕ) (x y : Page) (g : ℕ) → page_at tables i p ≡ Some x → stands_on g y ≡ stands_on g x → (k : ℕ) → standing_at (put tables i p y) k g ≡ standing_at tables k g
standing_same tables i p x y g there same k = search (rules, here_or, put_other_row, row_put)

pub charge_same : (number : ℕ → ℕ) (tables : List (List Page)) (i p : ℕ) (x y : Page) (g : ℕ) → page_at tables i p ≡ Some x → stands_on g y ≡ stands_on g x → (k : ℕ) → charge_in number (put tables i p y) k g ≡ charge_in number tables k g
charge_same number tables i p x y g there same k = search (rules, length-set, standing_same, below_each, min)
