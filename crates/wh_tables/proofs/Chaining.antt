-- Chains stay in order where a page leaves its frame and where one comes to a frame.
use Rattle.std.proofs.Common.{◌≡◌, ◌≢◌, ℕ, ◌<◌, inl, inr, List, Option, Some, None, length, refl, sym, ap, ◌∙◌, subst, arith}
use Rattle.wh_space_model.specs.declared.states.Page.{Page}
use Rattle.wh_space_model.specs.declared.states.Page.TheVariants.{Untouched}
use Rattle.wh_space_model.specs.{page_at, put, stands_on}
use Rattle.wh_tables.specs.declared.page_id.PageId.{PageId}
use Rattle.wh_tables.specs.PageLinks.{IsEarlierStop, IsStop, LeadsToNearest, Turned, stop_of}
use Rattle.wh_tables.specs.Order.{AreLinked, Chains, ComesBefore, ComesBehind, HasLinks, HasNext, HasPrior, IsAsLarge, IsInOrder, IsInRange, StandsOn, next_in, prior_in}
use Rattle.wh_tables.proofs.Linking.{IsBehind}
use Rattle.wh_tables.proofs.Stops.{back_again, lead_nearest, lead_there, order_turned}
use Rattle.wh_tables.proofs.InOrder.{order_of_pages}
use Rattle.wh_tables.proofs.Walks.{come_to, gone_from, not_there, way_put, way_taken}

-- a link leads to a stop
pub stop_there : (On : PageId → Type 0) (Before : PageId → PageId → Type 0) (at link : Option PageId) → LeadsToNearest (IsStop On) (IsEarlierStop Before) at (stop_of link) → IsStop On link
stop_there On Before at None leads = tt
stop_there On Before at (Some y) leads = (lead_there On Before at (Some y) y leads refl).0

-- links there and back, on each frame
pub there_back : (c : Chains) (pages : List (List Page)) (f : ℕ) (at : Option PageId) → IsInOrder c pages → IsStop (StandsOn pages f) at → prior_in c f (next_in c f at) ≡ at
there_back c pages f at chains stop =
    back_again (StandsOn pages f) (ComesBefore c.numbers) (next_in c f) (prior_in c f) (order_of_pages c.numbers) (chains.next f) (chains.prior f) at stop

pub back_there : (c : Chains) (pages : List (List Page)) (f : ℕ) (at : Option PageId) → IsInOrder c pages → IsStop (StandsOn pages f) at → next_in c f (prior_in c f at) ≡ at
back_there c pages f at chains stop =
    back_again (StandsOn pages f) (Turned (ComesBefore c.numbers)) (prior_in c f) (next_in c f) (order_turned (ComesBefore c.numbers) (order_of_pages c.numbers)) (chains.prior f) (chains.next f) at stop

-- what is within stays so
pub as_large : (c c1 c2 : Chains) → IsAsLarge c c1 → IsAsLarge c1 c2 → IsAsLarge c c2
as_large c c1 c2 one two = record {
  numbers = two.numbers ∙ one.numbers;
  ends = two.ends ∙ one.ends;
  places = two.places ∙ one.places;
  pages = λ i. two.pages i ∙ one.pages i;
}

links_large : (c c2 : Chains) (f : ℕ) (at : Option PageId) → IsAsLarge c c2 → HasLinks c f at → HasLinks c2 f at
links_large c c2 f None large has = let e = large.ends in omega arith
links_large c c2 f (Some id) large has = let e = large.pages id.place in omega arith

pub within_large : (c c2 : Chains) (f : ℕ) (id : PageId) → IsAsLarge c c2 → IsInRange c f id → IsInRange c2 f id
within_large c c2 f id large within = record {
  place = (let a = within.place in let e = ap length large.numbers in omega arith);
  frame = links_large c c2 f None large within.frame;
  page = links_large c c2 f (Some id) large within.page;
}

pub has_links : (c : Chains) (pages : List (List Page)) (f : ℕ) (at : Option PageId) → IsInOrder c pages → f < length c.ends → IsStop (StandsOn pages f) at → HasLinks c f at
has_links c pages f None chains frame stop = frame
has_links c pages f (Some id) chains frame stop = (chains.room f id stop).page

pub links_after : (c c2 : Chains) (pages : List (List Page)) (f : ℕ) (at : Option PageId) → IsAsLarge c c2 → IsInOrder c pages → f < length c.ends → IsStop (StandsOn pages f) at → HasLinks c2 f at
links_after c c2 pages f at large chains frame stop = links_large c c2 f at large (has_links c pages f at chains frame stop)

pub next_stop : (c : Chains) (pages : List (List Page)) (f : ℕ) (at : Option PageId) → IsInOrder c pages → IsStop (StandsOn pages f) at → IsStop (StandsOn pages f) (next_in c f at)
next_stop c pages f at chains stop = stop_there (StandsOn pages f) (ComesBefore c.numbers) at (next_in c f at) (chains.next f at stop)

pub prior_stop : (c : Chains) (pages : List (List Page)) (f : ℕ) (at : Option PageId) → IsInOrder c pages → IsStop (StandsOn pages f) at → IsStop (StandsOn pages f) (prior_in c f at)
prior_stop c pages f at chains stop = stop_there (StandsOn pages f) (Turned (ComesBefore c.numbers)) at (prior_in c f at) (chains.prior f at stop)

pub taken_off : (c c1 c2 : Chains) (pages : List (List Page)) (f : ℕ) (k : PageId) → IsInOrder c pages → StandsOn pages f k
    → HasNext c f (prior_in c f (Some k)) (next_in c f (Some k)) c1 → HasPrior c1 f (next_in c f (Some k)) (prior_in c f (Some k)) c2
    → IsInOrder c2 (put pages k.place k.page Untouched)
taken_off c c1 c2 pages f k chains on one two =
    let large = as_large c c1 c2 one.large two.large in
    let order = order_of_pages c.numbers in
    let next = way_taken (ComesBefore c.numbers) pages (next_in c) (next_in c2) f k (prior_in c f (Some k)) order chains.next on (prior_stop c pages f (Some k) chains on) (back_there c pages f (Some k) chains on)
    (record { here = two.next f (prior_in c f (Some k)) ∙ one.next.here; others = λ g other away. two.next g other ∙ one.next.others g other away }) in
    let prior = way_taken (Turned (ComesBefore c.numbers)) pages (prior_in c) (prior_in c2) f k (next_in c f (Some k)) (order_turned (ComesBefore c.numbers) order) chains.prior on (next_stop c pages f (Some k) chains on) (there_back c pages f (Some k) chains on)
    (record { here = two.prior.here; others = λ g other away. two.prior.others g other away ∙ one.prior g other }) in
    record {
      room = λ g z there. within_large c c2 g z large (chains.room g z (gone_from pages f g k z on there).0);
      next = subst (λ n. AreLinked (ComesBefore n) (put pages k.place k.page Untouched) (next_in c2)) (sym large.numbers) next;
      prior = subst (λ n. AreLinked (Turned (ComesBefore n)) (put pages k.place k.page Untouched) (prior_in c2)) (sym large.numbers) prior;
    }

-- what is behind a page that comes is, in the order turned, what it comes behind
before_next : (c : Chains) (pages : List (List Page)) (f : ℕ) (k : PageId) (a : Option PageId) → IsInOrder c pages → ¬ StandsOn pages f k
    → IsBehind (IsStop (StandsOn pages f)) (IsEarlierStop (ComesBefore c.numbers)) a (Some k)
    → IsBehind (IsStop (StandsOn pages f)) (IsEarlierStop (Turned (ComesBefore c.numbers))) (next_in c f a) (Some k)
before_next c pages f k a chains off behind =
    let order = order_of_pages c.numbers in
    record {
      on = next_stop c pages f a chains behind.on;
      before = go (next_in c f a) refl;
      last = last;
    } where
      go : (n : Option PageId) → next_in c f a ≡ n → IsEarlierStop (Turned (ComesBefore c.numbers)) n (Some k)
      go None is = tt
      go (Some n) is =
          let mine = lead_there (StandsOn pages f) (ComesBefore c.numbers) a (next_in c f a) n (chains.next f a behind.on) is in
          elim ((order_of_pages c.numbers).order k n) [
            | inl same ↦ absurd (off (subst (λ w. StandsOn pages f w) (sym same) mine.0))
            | inr (inl less) ↦ less
            | inr (inr more) ↦ absurd (behind.last (Some n) mine.0 more mine.1)
          ]

      after : (at : Option PageId) (z : PageId) → IsEarlierStop (ComesBefore c.numbers) at (Some k) → ComesBefore c.numbers k z → IsEarlierStop (ComesBefore c.numbers) at (Some z)
      after None z before less = tt
      after (Some x) z before less = (order_of_pages c.numbers).after x k z before less

      past : (n : Option PageId) (z : PageId) → next_in c f a ≡ n → StandsOn pages f z → ComesBefore c.numbers k z → ¬ IsEarlierStop (Turned (ComesBefore c.numbers)) n (Some z)
      past n z is on less bad =
          let near = lead_nearest (StandsOn pages f) (ComesBefore c.numbers) a (next_in c f a) z (chains.next f a behind.on) on (after a z behind.before less) in
          near.2 (subst (λ w. IsEarlierStop (Turned (ComesBefore c.numbers)) w (Some z)) (sym is ∙ near.1) bad)

      last : (z : Option PageId) → IsStop (StandsOn pages f) z → IsEarlierStop (Turned (ComesBefore c.numbers)) z (Some k) → ¬ IsEarlierStop (Turned (ComesBefore c.numbers)) (next_in c f a) z
      last None on less bad = nowhere (next_in c f a) bad where
        nowhere : (n : Option PageId) → ¬ IsEarlierStop (Turned (ComesBefore c.numbers)) n None
        nowhere None bad = bad
        nowhere (Some x) bad = bad
      last (Some z) on less bad = past (next_in c f a) z refl on less bad

pub put_there : (c c1 c2 c3 c4 : Chains) (pages : List (List Page)) (f : ℕ) (k : PageId) (a : Option PageId) (x y : Page) → IsInOrder c pages → IsInRange c f k
    → page_at pages k.place k.page ≡ Some x → ((g : ℕ) → stands_on g x ≡ 0) → stands_on f y ≡ 1
    → IsBehind (IsStop (StandsOn pages f)) (IsEarlierStop (ComesBefore c.numbers)) a (Some k)
    → HasNext c f (Some k) (next_in c f a) c1 → HasPrior c1 f (Some k) a c2 → HasNext c2 f a (Some k) c3 → HasPrior c3 f (next_in c f a) (Some k) c4
    → IsInOrder c4 (put pages k.place k.page y)
put_there c c1 c2 c3 c4 pages f k a x y chains within there off new behind one two three four =
    let large = as_large c c2 c4 (as_large c c1 c2 one.large two.large) (as_large c2 c3 c4 three.large four.large) in
    let order = order_of_pages c.numbers in
    let away = not_there pages f k x there (off f) in
    let ahead = before_next c pages f k a chains away behind in
    let next = way_put (ComesBefore c.numbers) pages (next_in c) (next_in c4) f k a x y order chains.next there off new behind
    (four.next f a ∙ three.next.here)
    (four.next f (Some k) ∙ three.next.others f (Some k) (inl (λ e. not_k a behind.on away (sym e))) ∙ two.next f (Some k) ∙ one.next.here)
    (λ g other apart elsewhere. four.next g other ∙ three.next.others g other elsewhere ∙ two.next g other ∙ one.next.others g other (inl apart)) in
    let prior = way_put (Turned (ComesBefore c.numbers)) pages (prior_in c) (prior_in c4) f k (next_in c f a) x y (order_turned (ComesBefore c.numbers) order) chains.prior there off new ahead
    four.prior.here
    (four.prior.others f (Some k) (inl (λ e. not_k (next_in c f a) ahead.on away (sym e))) ∙ three.prior f (Some k) ∙ two.prior.here ∙ sym (there_back c pages f a chains behind.on))
    (λ g other apart elsewhere. four.prior.others g other elsewhere ∙ three.prior g other ∙ two.prior.others g other (inl apart) ∙ one.prior g other) in
    record {
      room = λ g z on. within_large c c4 g z large (elim (come_to pages f g k z x y there new on) [
        | inl was ↦ chains.room g z was
        | inr is ↦ subst (λ w. IsInRange c g w) (sym is.0) (subst (λ w. IsInRange c w k) (sym is.1) within)
      ]);
      next = subst (λ n. AreLinked (ComesBefore n) (put pages k.place k.page y) (next_in c4)) (sym large.numbers) next;
      prior = subst (λ n. AreLinked (Turned (ComesBefore n)) (put pages k.place k.page y) (prior_in c4)) (sym large.numbers) prior;
    } where
      not_k : (at : Option PageId) → IsStop (StandsOn pages f) at → ¬ StandsOn pages f k → at ≢ Some k
      not_k None on away e = cc
      not_k (Some z) on away e = (let both : Some z ≡ Some k = e in let same : z ≡ k = cc in away (subst (λ w. StandsOn pages f w) same on))

pub behind_is : (c : Chains) (pages : List (List Page)) (f : ℕ) (k : PageId) (a : Option PageId) → ComesBehind c pages f a k
    → IsBehind (IsStop (StandsOn pages f)) (IsEarlierStop (ComesBefore c.numbers)) a (Some k)
behind_is c pages f k a behind = record { on = behind.on; before = behind.before; last = λ z stop less bad. go z stop less bad } where
  nowhere : (at : Option PageId) → ¬ IsEarlierStop (ComesBefore c.numbers) at None
  nowhere None bad = bad
  nowhere (Some x) bad = bad

  go : (z : Option PageId) → IsStop (StandsOn pages f) z → IsEarlierStop (ComesBefore c.numbers) z (Some k) → ¬ IsEarlierStop (ComesBefore c.numbers) a z
  go None stop less bad = nowhere a bad
  go (Some z) stop less bad = behind.last z stop less bad
