-- A walk back along the links of a frame, to what comes before a page.
use Rattle.std.proofs.Common.{◌≡◌, ℕ, ◌<◌, inl, inr, List, Option, Some, None, IfSome, subst, arith}
use Rattle.wh_space_model.specs.declared.states.Page.{Page}
use Rattle.wh_tables.specs.declared.page_id.PageId.{PageId}
use Rattle.wh_tables.specs.PageLinks.{IsEarlierStop, Turned}
use Rattle.wh_tables.specs.Order.{Chains, ComesBefore, IsInOrder, StandsOn, prior_in}
use Rattle.wh_tables.proofs.Stops.{lead_nearest, lead_there}
use Rattle.wh_tables.proofs.InOrder.{order_of_pages}
use Rattle.wh_tables.proofs.Keys.{key_falls, key_of}

-- it begins at the last page, behind which there is none
pub none_behind_last : (c : Chains) (pages : List (List Page)) (f : ℕ) (id z : PageId) → IsInOrder c pages → StandsOn pages f z → IsEarlierStop (ComesBefore c.numbers) (prior_in c f None) (Some z) → ¬ ComesBefore c.numbers z id
none_behind_last c pages f id z chains on less bad =
    let near = lead_nearest (StandsOn pages f) (Turned (ComesBefore c.numbers)) None (prior_in c f None) z (chains.prior f None tt) on tt in
    near.2 (subst (λ w. IsEarlierStop (ComesBefore c.numbers) w (Some z)) near.1 less)

-- and goes on from a page that doesn't come before
pub none_behind_prior : (c : Chains) (pages : List (List Page)) (f : ℕ) (id x z : PageId) → IsInOrder c pages → StandsOn pages f x → ¬ ComesBefore c.numbers x id
    → (StandsOn pages f z → ComesBefore c.numbers x z → ¬ ComesBefore c.numbers z id)
    → StandsOn pages f z → IsEarlierStop (ComesBefore c.numbers) (prior_in c f (Some x)) (Some z) → ¬ ComesBefore c.numbers z id
none_behind_prior c pages f id x z chains here not_before none on less bad =
    elim ((order_of_pages c.numbers).order z x) [
      | inl same ↦ not_before (subst (λ w. ComesBefore c.numbers w id) same bad)
      | inr (inl before) ↦
          (let near = lead_nearest (StandsOn pages f) (Turned (ComesBefore c.numbers)) (Some x) (prior_in c f (Some x)) z (chains.prior f (Some x) here) on before in
          near.2 (subst (λ w. IsEarlierStop (ComesBefore c.numbers) w (Some z)) near.1 less))
      | inr (inr after) ↦ none on after bad
    ]

pub prior_key : (c : Chains) (pages : List (List Page)) (f : ℕ) (x : PageId) (at : Option PageId) → IsInOrder c pages → StandsOn pages f x → prior_in c f (Some x) ≡ at
    → IfSome at (λ y. (y.place < 4294967296) × (y.page < 4294967296)) → key_of c.numbers at < key_of c.numbers (Some x)
prior_key c pages f x None chains here is few = omega arith
prior_key c pages f x (Some y) chains here is few =
    let there = lead_there (StandsOn pages f) (Turned (ComesBefore c.numbers)) (Some x) (prior_in c f (Some x)) y (chains.prior f (Some x) here) is in
    key_falls c.numbers y x few.0 few.1 there.1
