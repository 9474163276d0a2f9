-- Any two pages are in order.
use Rattle.std.proofs.Common.{◌≡◌, ◌≢◌, ℕ, ◌⊎◌, inl, inr, List, [], subst, rules}
use Rattle.wh_tables.specs.declared.page_id.PageId.{PageId}
use Rattle.wh_tables.specs.Order.{ComesBefore}
use Rattle.wh_tables.proofs.Linking.{IsOrder}

pub order_of_pages : (numbers : List ℕ) → IsOrder (ComesBefore numbers)
order_of_pages numbers = search rules

-- stops are the same or not
pub same_or : {X : Type 0} (Before : X → X → Type 0) → IsOrder Before → (x y : X) → (x ≡ y) ⊎ (x ≢ y)
same_or Before order x y =
    elim (order.order x y) [
      | inl e ↦ inl e
      | inr (inl less) ↦ inr (λ e. order.apart y (subst (λ w. Before w y) e less))
      | inr (inr more) ↦ inr (λ e. order.apart y (subst (λ w. Before y w) e more))
    ]

pub same_id : (x y : PageId) → (x ≡ y) ⊎ (x ≢ y)
same_id x y = same_or (ComesBefore []) (order_of_pages []) x y
