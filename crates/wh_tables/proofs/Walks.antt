-- The links of all frames, when a page leaves its frame and when one comes to a frame.
use Rattle.std.proofs.Common.{◌≡◌, ◌≢◌, ℕ, ◌⊎◌, inl, inr, List, Option, Some, None, refl, sym, ap, subst, arith, rules}
use Rattle.wh_space_model.specs.declared.states.Page.{Page}
use Rattle.wh_space_model.specs.declared.states.Page.TheVariants.{Untouched}
use Rattle.wh_space_model.specs.{page_at, put, stands_on}
use Rattle.wh_space_model.proofs.Putting.{here_or}
use Rattle.wh_tables.specs.declared.page_id.PageId.{PageId}
use Rattle.wh_tables.specs.PageLinks.{IsEarlierStop, IsStop, LeadsToNearest, stop_of}
use Rattle.wh_tables.specs.Order.{AreLinked, IsElsewhere, IsRelinked, StandsOn}
use Rattle.wh_tables.proofs.Linking.{ButNot, IsBehind, IsOrder, OrIs, link_put, link_taken}
use Rattle.wh_tables.proofs.Stops.{order_of_stops, to_stop}
use Rattle.wh_tables.proofs.InOrder.{same_id}
use Rattle.wh_tables.proofs.Standing.{one_frame, one_frame_of, others_stand, page_of_standing, put_stands}

-- the same members have the same links
pub leads_alike : {X : Type 0} (On On2 : X → Type 0) (Before : X → X → Type 0) (x : X) (link link2 : Option X) → ((y : X) → On y → On2 y) → ((y : X) → On2 y → On y) → link2 ≡ link
    → LeadsToNearest On Before x link → LeadsToNearest On2 Before x link2
leads_alike On On2 Before x link link2 to back same leads = search rules

pub stops_alike : (On On2 : PageId → Type 0) → ((y : PageId) → On y → On2 y) → (x : Option PageId) → IsStop On x → IsStop On2 x
stops_alike On On2 to None on = tt
stops_alike On On2 to (Some y) on = to y on

some_same : (x y : PageId) → Some x ≡ Some y → x ≡ y
some_same x y e = cc

-- on another frame all is as it was
apart_stop : (pages : List (List Page)) (f g : ℕ) (a at : Option PageId) → g ≢ f → IsStop (StandsOn pages f) a → IsStop (StandsOn pages g) at → IsElsewhere f a g at
apart_stop pages f g a None away here there = inr (refl, away)
apart_stop pages f g None (Some y) away here there = inl (λ e. cc)
apart_stop pages f g (Some b) (Some y) away here there = search rules

linked_elsewhere : (Before : PageId → PageId → Type 0) (pages pages2 : List (List Page)) (fwd fwd2 : ℕ → Option PageId → Option PageId) (g : ℕ)
    → AreLinked Before pages fwd → ((z : PageId) → StandsOn pages g z → StandsOn pages2 g z) → ((z : PageId) → StandsOn pages2 g z → StandsOn pages g z)
    → ((at : Option PageId) → IsStop (StandsOn pages g) at → fwd2 g at ≡ fwd g at)
    → (at : Option PageId) → IsStop (StandsOn pages2 g) at → LeadsToNearest (IsStop (StandsOn pages2 g)) (IsEarlierStop Before) at (stop_of (fwd2 g at))
linked_elsewhere Before pages pages2 fwd fwd2 g linked to back same at stop =
    let old = stops_alike (StandsOn pages2 g) (StandsOn pages g) back at stop in
    leads_alike (IsStop (StandsOn pages g)) (IsStop (StandsOn pages2 g)) (IsEarlierStop Before) at (stop_of (fwd g at)) (stop_of (fwd2 g at))
    (stops_alike (StandsOn pages g) (StandsOn pages2 g) to) (stops_alike (StandsOn pages2 g) (StandsOn pages g) back) (ap stop_of (same at old)) (linked g at old)

-- a page that leaves its frame
pub gone_from : (pages : List (List Page)) (f g : ℕ) (k z : PageId) → StandsOn pages f k → StandsOn (put pages k.place k.page Untouched) g z → StandsOn pages g z × (z ≢ k)
gone_from pages f g k z on now = search (rules, page_of_standing, same_id, put_stands, others_stand)

stays_on : (pages : List (List Page)) (g : ℕ) (k z : PageId) (y : Page) → z ≢ k → StandsOn pages g z → StandsOn (put pages k.place k.page y) g z
stays_on pages g k z y other on = let e = others_stand pages k y g z other in omega arith

but_to : (pages : List (List Page)) (f : ℕ) (k : PageId) (x : Option PageId) → ButNot (IsStop (StandsOn pages f)) (Some k) x → IsStop (StandsOn (put pages k.place k.page Untouched) f) x
but_to pages f k None but = tt
but_to pages f k (Some z) (on, other) = stays_on pages f k z Untouched (λ e. other (ap Some e)) on

but_from : (pages : List (List Page)) (f : ℕ) (k : PageId) → StandsOn pages f k → (x : Option PageId) → IsStop (StandsOn (put pages k.place k.page Untouched) f) x → ButNot (IsStop (StandsOn pages f)) (Some k) x
but_from pages f k on None now = (tt, λ e. cc)
but_from pages f k on (Some z) now = let was = gone_from pages f f k z on now in (was.0, λ e. was.1 (some_same z k e))

pub way_taken : (Before : PageId → PageId → Type 0) (pages : List (List Page)) (fwd fwd2 : ℕ → Option PageId → Option PageId) (f : ℕ) (k : PageId) (a : Option PageId)
    → IsOrder Before → AreLinked Before pages fwd → StandsOn pages f k → IsStop (StandsOn pages f) a → fwd f a ≡ Some k
    → IsRelinked fwd fwd2 f a (fwd f (Some k)) → AreLinked Before (put pages k.place k.page Untouched) fwd2
way_taken Before pages fwd fwd2 f k a order linked on stop to_k now g at here =
    elim (here_or f g) [
      | inr away ↦
          linked_elsewhere Before pages (put pages k.place k.page Untouched) fwd fwd2 g linked
          (λ z there. stays_on pages g k z Untouched (λ e. away (one_frame_of pages g f k (subst (λ w. StandsOn pages g w) e there) on)) there)
          (λ z there. (gone_from pages f g k z on there).0)
          (λ other there. now.others g other (apart_stop pages f g a other away stop there)) at here
      | inl same ↦
          (let mine : IsStop (StandsOn (put pages k.place k.page Untouched) f) at = subst (λ w. IsStop (StandsOn (put pages k.place k.page Untouched) w) at) same here in
          let taken = link_taken (IsStop (StandsOn pages f)) (IsEarlierStop Before) a (Some k) (λ x. stop_of (fwd f x)) (λ x. stop_of (fwd2 f x)) (order_of_stops Before order)
          (λ x stands. linked f x stands) on stop (to_stop (fwd f a) k to_k) (ap stop_of now.here)
          (λ x other. ap stop_of (now.others f x (inl other))) at (but_from pages f k on at mine) in
          let alike = leads_alike (ButNot (IsStop (StandsOn pages f)) (Some k)) (IsStop (StandsOn (put pages k.place k.page Untouched) f)) (IsEarlierStop Before) at (stop_of (fwd2 f at)) (stop_of (fwd2 f at))
          (but_to pages f k) (but_from pages f k on) refl taken in
          subst (λ w. LeadsToNearest (IsStop (StandsOn (put pages k.place k.page Untouched) w)) (IsEarlierStop Before) at (stop_of (fwd2 w at))) (sym same) alike)
    ]

-- a page that comes to a frame
pub come_to : (pages : List (List Page)) (f g : ℕ) (k z : PageId) (x y : Page) → page_at pages k.place k.page ≡ Some x → stands_on f y ≡ 1
    → StandsOn (put pages k.place k.page y) g z → StandsOn pages g z ⊎ ((z ≡ k) × (g ≡ f))
come_to pages f g k z x y there new now = search (rules, same_id, others_stand, put_stands, one_frame)

new_stands : (pages : List (List Page)) (f : ℕ) (k : PageId) (x y : Page) → page_at pages k.place k.page ≡ Some x → stands_on f y ≡ 1 → StandsOn (put pages k.place k.page y) f k
new_stands pages f k x y there new = let e = put_stands pages k x y f there in omega arith

pub not_there : (pages : List (List Page)) (g : ℕ) (k : PageId) (x : Page) → page_at pages k.place k.page ≡ Some x → stands_on g x ≡ 0 → ¬ StandsOn pages g k
not_there pages g k x there off on = search rules

or_to : (pages : List (List Page)) (f : ℕ) (k : PageId) (x y : Page) → page_at pages k.place k.page ≡ Some x → ((g : ℕ) → stands_on g x ≡ 0) → stands_on f y ≡ 1
    → (at : Option PageId) → OrIs (IsStop (StandsOn pages f)) (Some k) at → IsStop (StandsOn (put pages k.place k.page y) f) at
or_to pages f k x y there off new None either = tt
or_to pages f k x y there off new (Some z) (inl on) = stays_on pages f k z y (λ e. not_there pages f k x there (off f) (subst (λ w. StandsOn pages f w) e on)) on
or_to pages f k x y there off new (Some z) (inr e) = subst (λ w. StandsOn (put pages k.place k.page y) f w) (sym (some_same z k e)) (new_stands pages f k x y there new)

or_from : (pages : List (List Page)) (f : ℕ) (k : PageId) (x y : Page) → page_at pages k.place k.page ≡ Some x → stands_on f y ≡ 1
    → (at : Option PageId) → IsStop (StandsOn (put pages k.place k.page y) f) at → OrIs (IsStop (StandsOn pages f)) (Some k) at
or_from pages f k x y there new None now = inl tt
or_from pages f k x y there new (Some z) now = elim (come_to pages f f k z x y there new now) [ inl on ↦ inl on | inr is ↦ inr (ap Some is.0) ]

pub way_put : (Before : PageId → PageId → Type 0) (pages : List (List Page)) (fwd fwd2 : ℕ → Option PageId → Option PageId) (f : ℕ) (k : PageId) (a : Option PageId) (x y : Page)
    → IsOrder Before → AreLinked Before pages fwd → page_at pages k.place k.page ≡ Some x → ((g : ℕ) → stands_on g x ≡ 0) → stands_on f y ≡ 1
    → IsBehind (IsStop (StandsOn pages f)) (IsEarlierStop Before) a (Some k) → fwd2 f a ≡ Some k → fwd2 f (Some k) ≡ fwd f a
    → ((g : ℕ) (other : Option PageId) → other ≢ Some k → IsElsewhere f a g other → fwd2 g other ≡ fwd g other)
    → AreLinked Before (put pages k.place k.page y) fwd2
way_put Before pages fwd fwd2 f k a x y order linked there off new behind to_k from_k others g at here =
    elim (here_or f g) [
      | inr away ↦
          linked_elsewhere Before pages (put pages k.place k.page y) fwd fwd2 g linked
          (λ z on. stays_on pages g k z y (λ e. not_there pages g k x there (off g) (subst (λ w. StandsOn pages g w) e on)) on)
          (λ z now. elim (come_to pages f g k z x y there new now) [ inl on ↦ on | inr is ↦ absurd (away is.1) ])
          (λ other on. others g other (not_k g other on) (apart_stop pages f g a other away behind.on on)) at here
      | inl same ↦
          (let mine : IsStop (StandsOn (put pages k.place k.page y) f) at = subst (λ w. IsStop (StandsOn (put pages k.place k.page y) w) at) same here in
          let come = link_put (IsStop (StandsOn pages f)) (IsEarlierStop Before) a (Some k) (λ z. stop_of (fwd f z)) (λ z. stop_of (fwd2 f z)) (order_of_stops Before order)
          (λ z stands. linked f z stands) behind (not_there pages f k x there (off f)) (to_stop (fwd2 f a) k to_k) (ap stop_of from_k)
          (λ z other away. ap stop_of (others f z away (inl other))) at (or_from pages f k x y there new at mine) in
          let alike = leads_alike (OrIs (IsStop (StandsOn pages f)) (Some k)) (IsStop (StandsOn (put pages k.place k.page y) f)) (IsEarlierStop Before) at (stop_of (fwd2 f at)) (stop_of (fwd2 f at))
          (or_to pages f k x y there off new) (or_from pages f k x y there new) refl come in
          subst (λ w. LeadsToNearest (IsStop (StandsOn (put pages k.place k.page y) w)) (IsEarlierStop Before) at (stop_of (fwd2 w at))) (sym same) alike)
    ] where
      not_k : (g : ℕ) (other : Option PageId) → IsStop (StandsOn pages g) other → other ≢ Some k
      not_k g None on e = cc
      not_k g (Some z) on e = not_there pages g k x there (off g) (subst (λ w. StandsOn pages g w) (some_same z k e) on)
