-- Where no fault is met there is a copy, without a frame more.
use Rattle.std.proofs.Common.{◌≡◌, ◌≢◌, ℕ, zero, suc, ◌+◌, ◌*◌, ◌<◌, ◌≤◌, inl, inr, replicate, false, List, [], ◌∷◌, Some, length, get_or, slice_get, refl, ap, ◌∙◌, arith, rules}
use Rattle.wh_space_model.specs.declared.plain.InstId.{InstId}
use Rattle.wh_space_model.specs.declared.states.Page.{Page}
use Rattle.wh_space_model.specs.declared.states.Page.TheVariants.{Untouched, Private, Shared, Leaving, LeavingShared, Coming, Swapped}
use Rattle.wh_space_model.specs.{stays, Copies, IsAway, Lends, LendsFirst, Claimed, Space, minima, Enters, newcomer, with_row, IsSound, page_at, put, untouched}
use Rattle.wh_host_model.specs.{ForkFault, Quota, frames, min_max, not_admitted, other_limit, page_away, shares, swap, with_quota}
use Rattle.wh_host_model.specs.Host.{MeetsForkFault, IsFork, IsLive, fork_ok, is_forked, ForksAreTaken, Tenant, World, empty_world, promised}
use Rattle.wh_host_model.proofs.Host.Admitting.{at_least}
use Rattle.wh_host_model.proofs.Host.Empty.{good_empty}
use Rattle.wh_host_model.proofs.Host.Numbering.{AreAdmitted, next_is_fresh, none_admitted, run_below}
use Rattle.wh_host_model.proofs.Host.Progress.{claimed_there}
use Rattle.wh_host_model.proofs.Host.Running.{IsGood, good_run}
use Rattle.wh_space_model.proofs.Forked.{copies_are_right, entered_row}
use Rattle.wh_space_model.proofs.Putting.{here_or, put_other, put_other_row, there_of}

-- ---- there is one

IsHere : Page → Type 0
IsHere page = ¬ (untouched page + stays page ≡ 0)

lends_here : (s : Space) (i j p : ℕ) (page : Page) → page_at s.tables i p ≡ Some page → page_at s.tables j p ≡ Some Untouched → IsHere page → (s2 : Space) × Lends s i j p s2
unfolding IsHere
lends_here s i j p Untouched was onto here = (s, record { page = Untouched; was = was; onto = onto; lends = refl })
lends_here s i j p (Private f) was onto here = (_, record { page = Private f; was = was; onto = onto; lends = refl })
lends_here s i j p (Shared f) was onto here = (_, record { page = Shared f; was = was; onto = onto; lends = refl })
lends_here s i j p (Leaving f) was onto here = absurd (here refl)
lends_here s i j p (LeavingShared f) was onto here = absurd (here refl)
lends_here s i j p (Coming k) was onto here = absurd (here refl)
lends_here s i j p (Swapped k) was onto here = absurd (here refl)

put_apart : (t : List (List Page)) (i p k q : ℕ) (x : Page) → q ≢ p → page_at (put t i p x) k q ≡ page_at t k q
put_apart t i p k q x other = search (rules, here_or, put_other, put_other_row)

lent_apart : (s : Space) (i j p : ℕ) (s2 : Space) → Lends s i j p s2 → (k q : ℕ) → q ≢ p → page_at s2.tables k q ≡ page_at s.tables k q
lent_apart s i j p s2 l k q other = search (rules, put_apart)

-- n pages are lent, and those behind them are as they were
record SomeLent (s : Space) (i j n : ℕ) : Type 0 where
  space : Space
  lends : LendsFirst s i j n space
  rest : (k q : ℕ) → n ≤ q → page_at space.tables k q ≡ page_at s.tables k q

some_lent : (s : Space) (i j m n : ℕ) → n ≤ m → ((p : ℕ) → p < m → (page : Page) × (page_at s.tables i p ≡ Some page) × IsHere page) → ((p : ℕ) → p < m → page_at s.tables j p ≡ Some Untouched) → SomeLent s i j n
some_lent s i j m zero most all onto = record { space = s; lends = refl; rest = λ k q less. refl }
some_lent s i j m (suc n) most all onto =
    let old = some_lent s i j m n (omega (arith, most)) all onto in
    let mid : Space = old.space in
    let one = all n (omega (arith, most)) in
    let next = lends_here mid i j n one.0 (old.rest i n (omega arith) ∙ one.1) (old.rest j n (omega arith) ∙ onto n (omega (arith, most))) one.2 in
    record {
      space = next.0;
      lends = (mid, old.lends, next.1);
      rest = λ k q less. lent_apart mid i j n next.0 next.1 k q (λ e. (let bad = e in omega (arith, less, bad))) ∙ old.rest k q (omega (arith, less));
    }

untouched_at : (m p : ℕ) → p < m → slice_get (replicate m Untouched) p ≡ Some Untouched
untouched_at zero p less = absurd (omega (arith, less))
untouched_at (suc m) zero less = refl
untouched_at (suc m) (suc p) less = untouched_at m p (omega (arith, less))

page_there : (xs : List Page) (p : ℕ) → p < length xs → (page : Page) × (slice_get xs p ≡ Some page)
page_there [] p less = absurd (omega (arith, less))
page_there (x ∷ xs) zero less = (x, refl)
page_there (x ∷ xs) (suc p) less = page_there xs p (omega (arith, less))

pub some_copy : (s : Space) (i j : ℕ) (c : Claimed) (size : ℕ) (mid : Space) → IsSound s → j ≢ i → length (get_or s.tables i []) ≡ 16 * size → ¬ (IsAway s i) → Enters s j c size mid → (s2 : Space) × Copies s i j c s2
unfolding IsHere
some_copy s i j c size mid sound apart long here enters =
    let rows = entered_row s i j c size mid sound apart enters in
    let lent = some_lent mid i j (16 * size) (16 * size) (omega arith)
    (λ p less.
    (let page = page_there (get_or s.tables i []) p (omega (arith, less, long)) in
    (page.0, ap (λ xs. slice_get xs p) rows.0 ∙ page.1, λ gone. here (p, page.0, page.1, gone))))
    (λ p less. ap (λ xs. slice_get xs p) rows.1 ∙ untouched_at (16 * size) p less) in
    (lent.space, record { apart = apart; size = size; pages = long; mid = mid; enters = enters; lends = lent.lends })

forks_one : (w : World) (id : InstId) (q : Quota) (t : Tenant) → IsGood w → AreAdmitted w → IsLive w id t → ((fault : ForkFault) → ¬ (MeetsForkFault w t q fault)) → (new : InstId) × (w2 : World) × IsFork w id q (fork_ok new) w2 × (w2.space.pool ≡ w.space.pool)
forks_one w id q t good below live none =
    let s : Space = w.space in
    let n : ℕ = length w.tenants in
    let j : ℕ = length s.occupants in
    let c : Claimed = promised n (with_quota t.params q) in
    let fine = good.each id.number t live.0 in
    let who = claimed_there s t.place (promised id.number t.params) fine.claimed in
    let table = good.sound.occupants.have t.place (Some who.0) who.1 in
    let size : ℕ = table.7.0 in
    let long : length (get_or s.tables t.place []) ≡ 16 * size = table.7.1 in
    let apart : j ≢ t.place = λ e. (let less = there_of s.occupants t.place (Some who.0) who.1 in omega (arith, less, e)) in
    let mid : Space = record s {
      occupants = with_row s.occupants j (Some (newcomer c));
      tables = with_row s.tables j (replicate (16 * size) Untouched);
      touched = with_row s.touched j (replicate (16 * size) false);
    } in
    let enters : Enters s j c size mid = record {
      free = inr refl;
      room = (at_least (length s.pool.frames) (minima s + q.min) (none (not_admitted frames)), at_least (length s.slots.uses) _ (none (not_admitted swap)));
      shares = (at_least q.shares 1 (λ low. none (not_admitted shares) (inl low)), at_least 1000000 q.shares (λ high. none (not_admitted shares) (inr high)));
      bounds = (
        at_least q.min 2 (λ low. none (not_admitted min_max) (inl low)),
        at_least q.max q.min (λ low. none (not_admitted min_max) (inr (inl low))),
        at_least 65536 q.max (λ high. none (not_admitted min_max) (inr (inr high))),
      );
      fits = (let most = at_least q.max (length (get_or s.tables t.place [])) (λ high. none other_limit (inr high)) in omega (arith, most, long));
      fresh = next_is_fresh w below;
      leaves = refl;
    } in
    let copy = some_copy s t.place j c size mid good.sound apart long (none page_away) enters in (
      record { place = j; number = n },
      _,
      is_forked live (record { no_fault = none; space = copy.0; copies = copy.1; next = refl; after = refl }),
      (copies_are_right s t.place j c copy.0 good.sound copy.1).pool,
    )

pub forks_are_taken : ForksAreTaken
forks_are_taken f slots tax events w r id q t live none =
    let empty : World = empty_world f slots tax in
    let good = good_empty f slots tax in
    forks_one w id q t (good_run events empty w good r) (run_below events empty w good (none_admitted f slots tax) r) live none
