-- Walks along links, from their start or from a member on: orders of stops, and links there and back.
use Rattle.std.proofs.Common.{◌≡◌, inl, inr, Option, Some, None, refl, sym, ap, ◌∙◌, subst, rules}
use Rattle.wh_tables.specs.PageLinks.{IsEarlierStop, IsStop, LeadsToNearest, Turned, stop_of}
use Rattle.wh_tables.proofs.Linking.{IsOrder}

-- the order turned is an order, and so is that of stops
pub order_turned : {A : Type 0} (Before : A → A → Type 0) → IsOrder Before → IsOrder (Turned Before)
order_turned Before order = search rules

pub order_of_stops : {A : Type 0} (Before : A → A → Type 0) → IsOrder Before → IsOrder (IsEarlierStop Before)
order_of_stops Before order = search rules

-- a link that leads to a member, as a link to a stop, and back
pub to_stop : {A : Type 0} (link : Option A) (y : A) → link ≡ Some y → stop_of link ≡ Some (Some y)
to_stop link y e = rw e refl

pub from_stop : {A : Type 0} (link : Option A) (y : Option A) → stop_of link ≡ Some y → (a : A) × (link ≡ Some a) × (y ≡ Some a)
from_stop None y e = cc
from_stop (Some a) y e = (a, refl, (let k : Some (Some a) ≡ Some y = e in cc))

-- where a link leads to a member, that one is the nearest; where it leads nowhere, there is none behind
pub lead_there : {A : Type 0} (On : A → Type 0) (Before : A → A → Type 0) (at : Option A) (link : Option A) (y : A)
    → LeadsToNearest (IsStop On) (IsEarlierStop Before) at (stop_of link) → link ≡ Some y → On y × IsEarlierStop Before at (Some y)
lead_there On Before at link y leads e = leads.there (Some y) (to_stop link y e)

pub lead_nearest : {A : Type 0} (On : A → Type 0) (Before : A → A → Type 0) (at : Option A) (link : Option A) (z : A)
    → LeadsToNearest (IsStop On) (IsEarlierStop Before) at (stop_of link) → On z → IsEarlierStop Before at (Some z) → (y : A) × (link ≡ Some y) × ¬ Before z y
lead_nearest On Before at link z leads on less =
    let near = leads.nearest (Some z) on less in
    let found = from_stop link near.0 near.1 in
    (found.0, found.1, λ bad. near.2 (subst (λ w. IsEarlierStop Before (Some z) w) (sym found.2) bad))

meet : {A : Type 0} (On : A → Type 0) (Before : A → A → Type 0) (there back : Option A → Option A) → IsOrder Before
    → ((x : Option A) → IsStop On x → LeadsToNearest (IsStop On) (IsEarlierStop Before) x (stop_of (there x)))
    → ((x : Option A) → IsStop On x → LeadsToNearest (IsStop On) (IsEarlierStop (Turned Before)) x (stop_of (back x)))
    → (at : Option A) → IsStop On at → (n : Option A) → there at ≡ n → (b : Option A) → back n ≡ b → at ≡ b
meet On Before there back order leads returns None stop None to None is = refl
meet On Before there back order leads returns None stop None to (Some b) is =
    let on = lead_there On (Turned Before) None (back None) b (returns None tt) is in
    let near = lead_nearest On Before None (there None) b (leads None tt) on.0 tt in
    let no : None ≡ Some near.0 = sym to ∙ near.1 in cc
meet On Before there back order leads returns None stop (Some n) to None is = refl
meet On Before there back order leads returns None stop (Some n) to (Some b) is =
    let mine = lead_there On Before None (there None) n (leads None tt) to in
    let on = lead_there On (Turned Before) (Some n) (back (Some n)) b (returns (Some n) mine.0) is in
    let near = lead_nearest On Before None (there None) b (leads None tt) on.0 tt in
    let e : n ≡ near.0 = cc in
    absurd (near.2 (subst (λ w. Before b w) e on.1))
meet On Before there back order leads returns (Some a) stop None to None is =
    let near = lead_nearest On (Turned Before) None (back None) a (returns None tt) stop tt in
    let no : None ≡ Some near.0 = sym is ∙ near.1 in cc
meet On Before there back order leads returns (Some a) stop None to (Some b) is =
    let on = lead_there On (Turned Before) None (back None) b (returns None tt) is in
    let near = lead_nearest On (Turned Before) None (back None) a (returns None tt) stop tt in
    let e : b ≡ near.0 = cc in
    elim (order.order a b) [
      | inl same ↦ ap Some same
      | inr (inl less) ↦ absurd (let far = lead_nearest On Before (Some a) (there (Some a)) b (leads (Some a) stop) on.0 less in let no : None ≡ Some far.0 = sym to ∙ far.1 in cc)
      | inr (inr more) ↦ absurd (near.2 (subst (λ w. Before w a) e more))
    ]
meet On Before there back order leads returns (Some a) stop (Some n) to None is =
    let mine = lead_there On Before (Some a) (there (Some a)) n (leads (Some a) stop) to in
    let near = lead_nearest On (Turned Before) (Some n) (back (Some n)) a (returns (Some n) mine.0) stop mine.1 in
    let no : None ≡ Some near.0 = sym is ∙ near.1 in cc
meet On Before there back order leads returns (Some a) stop (Some n) to (Some b) is =
    let mine = lead_there On Before (Some a) (there (Some a)) n (leads (Some a) stop) to in
    let on = lead_there On (Turned Before) (Some n) (back (Some n)) b (returns (Some n) mine.0) is in
    let near = lead_nearest On (Turned Before) (Some n) (back (Some n)) a (returns (Some n) mine.0) stop mine.1 in
    let e : b ≡ near.0 = cc in
    elim (order.order a b) [
      | inl same ↦ ap Some same
      | inr (inl less) ↦ absurd (
          let far = lead_nearest On Before (Some a) (there (Some a)) b (leads (Some a) stop) on.0 less in
          let f : n ≡ far.0 = cc in
          far.2 (subst (λ w. Before b w) f on.1))
      | inr (inr more) ↦ absurd (near.2 (subst (λ w. Before w a) e more))
    ]

-- Links there and back: from a stop to the next member, and from that one, in the order turned, to the stop.
pub back_again : {A : Type 0} (On : A → Type 0) (Before : A → A → Type 0) (there back : Option A → Option A) → IsOrder Before
    → ((x : Option A) → IsStop On x → LeadsToNearest (IsStop On) (IsEarlierStop Before) x (stop_of (there x)))
    → ((x : Option A) → IsStop On x → LeadsToNearest (IsStop On) (IsEarlierStop (Turned Before)) x (stop_of (back x)))
    → (at : Option A) → IsStop On at → back (there at) ≡ at
back_again On Before there back order leads returns at stop =
    sym (meet On Before there back order leads returns at stop (there at) refl (back (there at)) refl)
