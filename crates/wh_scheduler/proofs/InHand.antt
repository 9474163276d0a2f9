-- A host in its owner's hand.
use Rattle.std.proofs.Common.{◌≡◌, ◌⊎◌, ◌+◌, ◌-◌, ◌/◌, ◌^◌, ◌≤◌, inl, inr, Option, Some, refl, sym, ap, subst, ◌∙◌, List, ℕ, arith}
use Rattle.std.proofs.lemmas.Option.{same_Some}
use Rattle.std.specs.Prelude.{None, Result, Ok, Err, IfNone, IfOk, IfSome, OnErr, OnOk, slice_get}
use Rattle.wh_model.specs.declared.memory.Need.{Need}
use Rattle.wh_space_model.specs.declared.plain.InstId.{InstId}
use Rattle.wh_host_model.proofs.Host.Lasting.{memory_stays_sound}
use Rattle.wh_space_model.specs.{IsProvided, Space}
use Rattle.wh_host.specs.Paging.{MovesOnly, WaitsFor}
use Rattle.wh_host.specs.Sharing.{CanOffer}
use Rattle.wh_reclaim.specs.Whole.{IsAsWhole}
use Rattle.wh_space.specs.Merges.{HasFewPages}
use Rattle.wh_swap.specs.DeviceCalls.{ServesOn}
use Rattle.wh_cell.specs.Calling.{IsMadeReady}
use Rattle.wh_space_model.specs.declared.plain.SwapError.{SwapError}
use Rattle.wh_host.specs.Hosting.{HostState}
use Rattle.wh_threads.specs.Counting.{IsZero, SharesState, all_charges, all_evictions, all_offers, all_turns}
use Rattle.wh_threads.specs.declared.own_count.OwnCount.{OwnCount}
use Rattle.wh_cell.specs.Knowing.{BackingState, KnownState, NoneOut, known_of}
use Rattle.wh_cell.specs.LeftByOwner.{ComesFrom, LeftState, left_as}
use Rattle.wh_cell.specs.Locking.{BooksState, IsInStep, LockedState, now_of}
use Rattle.wh_cell.specs.Owning.{ComesOn}
use Rattle.wh_cell.proofs.Followed.{left_now}
use Rattle.wh_cell.proofs.Passing.{together_is}
use Rattle.wh_scheduler.specs.InHand.{AreSums, EachCanOffer, IsInHand, IsSoundInHand, OwnedState, WorksHere, books_in, left_of, owned_of}

-- what the owner has in hand is what it knows
pub in_hand : {D : Type 0} (locked : Option (LockedState D)) (backing : Option (BackingState D)) (owner : LeftState D) (shares : SharesState) (l : LockedState D) (b : BackingState D) → IsInHand locked backing owner shares
    → locked ≡ Some l → backing ≡ Some b → (owner ≡ now_of l) × (l.known ≡ known_of b)
in_hand {D} locked backing owner shares l b hand is is2 =
    let same : hand.inside ≡ l = same_Some hand.inside l (sym hand.has ∙ is) in
    let same2 : hand.behind ≡ b = same_Some hand.behind b (sym hand.has_behind ∙ is2) in
    let agree : l.known ≡ known_of b = subst (λ (z : LockedState D). z.known ≡ known_of b) same (hand.agree ∙ ap (λ (z : BackingState D). known_of z) same2) in
    let left : owner ≡ left_as l.host b.device = hand.knows ∙ ap (λ (z : LockedState D). left_as z.host hand.behind.device) same ∙ ap (λ (z : BackingState D). left_as l.host z.device) same2 in (
      left ∙ ap (λ (k : KnownState D). (let z : LeftState D = record { host = l.host; device = k.device } in z)) (sym agree),
      agree,
    )

-- after a request, or a run
pub in_hand_still : {D : Type 0} (owner : LeftState D) (shares : SharesState) (l : LockedState D) (b : BackingState D) → l.known ≡ known_of b → owner ≡ now_of l
    → AreSums l.books shares → IsInHand (Some l) (Some b) owner shares
in_hand_still {D} owner shares l b agree knows sums = record {
  inside = l;
  has = refl;
  behind = b;
  has_behind = refl;
  agree = agree;
  knows = knows ∙ ap (λ (k : KnownState D). (let z : LeftState D = record { host = l.host; device = k.device } in z)) agree;
  sums = sums;
}

-- after a request
pub in_hand_on : {D : Type 0} (locked : Option (LockedState D)) (backing : Option (BackingState D)) (owner owner2 : LeftState D) (shares : SharesState) (l l2 : LockedState D) → IsInHand locked backing owner shares
    → locked ≡ Some l → l2.known ≡ l.known → l2.books ≡ l.books → owner2 ≡ now_of l2 → IsInHand (Some l2) backing owner2 shares
in_hand_on {D} locked backing owner owner2 shares l l2 hand is same books knows =
    let inside : hand.inside ≡ l = same_Some hand.inside l (sym hand.has ∙ is) in
    let agree : l2.known ≡ known_of hand.behind = same ∙ ap (λ (z : LockedState D). z.known) (sym inside) ∙ hand.agree in
    record {
      inside = l2;
      has = refl;
      behind = hand.behind;
      has_behind = hand.has_behind;
      agree = agree;
      knows = knows ∙ ap (λ (k : KnownState D). (let z : LeftState D = record { host = l2.host; device = k.device } in z)) agree;
      sums = subst (λ z. AreSums z shares) (ap (λ (z : LockedState D). z.books) inside ∙ sym books) hand.sums;
    }

-- after what may have counted
pub in_hand_counted : {D : Type 0} (locked : Option (LockedState D)) (backing : Option (BackingState D)) (owner owner2 : LeftState D) (shares shares2 : SharesState) (l l2 : LockedState D) → IsInHand locked backing owner shares
    → locked ≡ Some l → l2.known ≡ l.known → (AreSums l.books shares → AreSums l2.books shares2) → owner2 ≡ now_of l2 → IsInHand (Some l2) backing owner2 shares2
in_hand_counted {D} locked backing owner owner2 shares shares2 l l2 hand is same sums knows =
    let inside : hand.inside ≡ l = same_Some hand.inside l (sym hand.has ∙ is) in
    let agree : l2.known ≡ known_of hand.behind = same ∙ ap (λ (z : LockedState D). z.known) (sym inside) ∙ hand.agree in
    record {
      inside = l2;
      has = refl;
      behind = hand.behind;
      has_behind = hand.has_behind;
      agree = agree;
      knows = knows ∙ ap (λ (k : KnownState D). (let z : LeftState D = record { host = l2.host; device = k.device } in z)) agree;
      sums = sums (subst (λ (z : LockedState D). AreSums z.books shares) inside hand.sums);
    }

-- and no count has changed
pub books_on : {D : Type 0} (locked : Option (LockedState D)) (owner owner2 : LeftState D) (shares : SharesState) (now : OwnedState D) (l l2 : LockedState D) → owned_of locked owner shares ≡ now
    → locked ≡ Some l → l2.books ≡ l.books → books_in (Some l2) ≡ now.books
books_on {D} locked owner owner2 shares now l l2 view is books =
    books ∙ sym (ap (λ (z : Option (LockedState D)). books_in z) is) ∙ ap (λ (z : OwnedState D). z.books) view

pub now_same : {D : Type 0} (l l2 : LockedState D) → l.host ≡ l2.host → l.known ≡ l2.known → now_of l ≡ now_of l2
now_same {D} l l2 hosts known =
    ap (λ h. (let z : LeftState D = record { host = h; device = l.known.device } in z)) hosts ∙ ap (λ (k : KnownState D). (let z : LeftState D = record { host = l2.host; device = k.device } in z)) known

-- as it begins
pub in_hand_first : {D : Type 0} (owner : LeftState D) (shares : SharesState) (l : LockedState D) (b : BackingState D) (h : HostState) (d : D) → l.host ≡ h → b.device ≡ d → l.known ≡ known_of b → owner ≡ left_as h d
    → l.books ≡ record { turns = 0; charges = 0; offers = 0; evictions = 0 } → IsZero shares → IsInHand (Some l) (Some b) owner shares
in_hand_first {D} owner shares l b h d hosts devices agree knows none zero = record {
  inside = l;
  has = refl;
  behind = b;
  has_behind = refl;
  agree = agree;
  knows = knows ∙ ap (λ z. left_as z d) (sym hosts) ∙ ap (λ z. left_as l.host z) (sym devices);
  sums = record {
    turns = omega (arith, ap (λ (z : BooksState). z.turns) none, zero.turns, ap (λ (o : OwnCount). o.turns) zero.owner);
    charges = omega (arith, ap (λ (z : BooksState). z.charges) none, zero.charges, ap (λ (o : OwnCount). o.charges) zero.owner);
    offers = omega (arith, ap (λ (z : BooksState). z.offers) none, zero.offers, ap (λ (o : OwnCount). o.offers) zero.owner);
    evictions = omega (arith, ap (λ (z : BooksState). z.evictions) none, zero.evictions, ap (λ (o : OwnCount). o.evictions) zero.owner);
  };
}

-- the host that contracts see is the one that is locked
pub same_host : {D : Type 0} (locked : Option (LockedState D)) (backing : Option (BackingState D)) (owner : LeftState D) (shares : SharesState) (now : OwnedState D) (l : LockedState D) → IsInHand locked backing owner shares
    → owned_of locked owner shares ≡ now → locked ≡ Some l → l.host ≡ now.host
same_host {D} locked backing owner shares now l hand view is =
    let same = same_Some hand.inside l (sym hand.has ∙ is) in
    sym (ap (λ (z : LockedState D). z.host) same) ∙ sym (ap (λ (z : LeftState D). z.host) hand.knows) ∙ ap (λ (z : OwnedState D). z.host) view

-- so what is said of the one and the next is said of what contracts see
pub on_owned : {D : Type 0} (P : HostState → HostState → Type 0) (locked : Option (LockedState D)) (backing : Option (BackingState D)) (owner : LeftState D) (shares : SharesState) (now : OwnedState D) (l : LockedState D) (h2 h3 : HostState)
    → IsInHand locked backing owner shares → owned_of locked owner shares ≡ now → locked ≡ Some l → h2 ≡ h3 → P l.host h2 → P now.host h3
on_owned P locked backing owner shares now l h2 h3 hand view is same p =
    subst (λ h. P now.host h) same (subst (λ h. P h h2) (same_host locked backing owner shares now l hand view is) p)

-- what whoever has it knows
pub known_owned : {D : Type 0} (held : D → List (List ℕ)) (keeps honest : D → Type 0) (faults : D → List SwapError) (now : OwnedState D) (l : LockedState D) (b : BackingState D)
    → left_of now ≡ now_of l → now.books ≡ l.books → l.known ≡ known_of b → NoneOut b.out → IsInStep held keeps honest faults l → IsSoundInHand held honest now
known_owned {D} held keeps honest faults now l b is books agree none s =
    let same : now ≡ record { host = l.host; device = l.known.device; books = l.books; own = now.own } =
    ap (λ (z : LeftState D). (let o : OwnedState D = record { host = z.host; device = z.device; books = now.books; own = now.own } in o)) is
    ∙ ap (λ (z : BooksState). (let o : OwnedState D = record { host = l.host; device = l.known.device; books = z; own = now.own } in o)) books in
    subst (IsSoundInHand held honest) (sym same) (record {
      some = s.some;
      device = s.device;
      has = s.agrees.has;
      led = s.led;
      together = together_is held l.host.space l.known s.device s.agrees (subst NoneOut (sym (ap (λ (k : KnownState D). k.out) agree)) none);
      fits = s.fits;
    })

-- what its owner meets has come from what it left
pub comes_on : {D : Type 0} (keeps honest : D → Type 0) (faults : D → List SwapError) (locked : Option (LockedState D)) (owner : LeftState D) (shares : SharesState) (now : OwnedState D) (owner2 : LeftState D) (l : LockedState D)
    → owned_of locked owner shares ≡ now → ComesOn keeps honest faults owner (now_of l) → owner2 ≡ now_of l → ComesOn keeps honest faults (left_of now) owner2
comes_on {D} keeps honest faults locked owner shares now owner2 l view came knows =
    subst (λ o. ComesOn keeps honest faults o owner2) (ap (λ (z : OwnedState D). left_of z) view) (subst (λ o. ComesOn keeps honest faults owner o) (sym knows) came)

-- what the books had is what the counts had
pub sums_before : {D : Type 0} (locked : Option (LockedState D)) (backing : Option (BackingState D)) (owner : LeftState D) (shares : SharesState) (now : OwnedState D) → IsInHand locked backing owner shares
    → owned_of locked owner shares ≡ now → AreSums now.books shares
sums_before {D} locked backing owner shares now hand view =
    subst (λ z. AreSums z shares) (sym (ap (λ (z : Option (LockedState D)). books_in z) hand.has) ∙ ap (λ (z : OwnedState D). z.books) view) hand.sums

-- what the books have when they have faced the counts
pub sums_of : (books books2 : BooksState) (s s2 : SharesState) → books.turns ≡ all_turns s → books.charges ≡ all_charges s → books.offers ≡ all_offers s → books.evictions ≡ all_evictions s
    → books2 ≡ books → s2 ≡ s → AreSums books2 s2
sums_of books books2 s s2 turns charges offers evictions same same2 =
    rw (same, same2) (record { turns = turns; charges = charges; offers = offers; evictions = evictions })

-- what is said at an error
pub at_err : {T E : Type 0} (P Q : Type 0) (result : Result T E) → (P → Q) → OnErr result P → OnErr result Q
at_err P Q (Ok x) f p = tt
at_err P Q (Err e) f p = f p

-- ---- a provision by the owner

pub made_ready : (id : InstId) (h h2 : HostState) (result : Result ℕ SwapError)
    → ((need : Need) → WaitsFor h id need → IfOk result (λ gone. IsProvided h.space id.place need gone h2.space)) → OnOk result (IsMadeReady id h h2)
made_ready id h h2 (Ok gone) right = λ need waits. (gone, right need waits)
made_ready id h h2 (Err fault) right = tt

-- the device that contracts see is the one behind the host
pub device_was : {D : Type 0} (locked : Option (LockedState D)) (backing : Option (BackingState D)) (owner : LeftState D) (shares : SharesState) (now : OwnedState D) (b : BackingState D) → IsInHand locked backing owner shares
    → owned_of locked owner shares ≡ now → backing ≡ Some b → now.device ≡ Some b.device
device_was {D} locked backing owner shares now b hand view is =
    sym (ap (λ (z : OwnedState D). z.device) view) ∙ ap (λ (z : LeftState D). z.device) hand.knows
    ∙ ap (λ (z : BackingState D). Some z.device) (same_Some hand.behind b (sym hand.has_behind ∙ is))

pub device_is : {D : Type 0} (owner : LeftState D) (l l2 : LockedState D) (b : BackingState D) → owner ≡ now_of l2 → l2.known ≡ l.known → l.known ≡ known_of b
    → owner.device ≡ Some b.device
device_is {D} owner l l2 b knows same agree = ap (λ (z : LeftState D). z.device) knows ∙ ap (λ (k : KnownState D). k.device) (same ∙ agree)

pub served_on : {D : Type 0} (keeps honest : D → Type 0) (faults : D → List SwapError) (more : List SwapError) (old new : Option D) (d d2 : D) → old ≡ Some d → new ≡ Some d2
    → ServesOn keeps honest faults d more d2 → (before : D) → old ≡ Some before → IfSome new (λ after. ServesOn keeps honest faults before more after)
served_on keeps honest faults more old new d d2 was is serves before has =
    subst (λ o. IfSome o (λ after. ServesOn keeps honest faults before more after)) (sym is)
    (subst (λ x. ServesOn keeps honest faults x more d2) (same_Some d before (sym was ∙ has)) serves)

pub where_some : {D : Type 0} (P : D → Type 0) (new : Option D) (d2 : D) → new ≡ Some d2 → P d2 → IfSome new P
where_some P new d2 is p = subst (λ o. IfSome o P) (sym is) p

-- it has come from itself by no work
pub came_first : {D : Type 0} (keeps honest : D → Type 0) (faults : D → List SwapError) (now : OwnedState D) (device : D) → now.device ≡ Some device
    → ComesOn keeps honest faults (left_of now) (left_of now)
came_first {D} keeps honest faults now device has = record {
  device = device;
  has = has;
  came = subst (λ x. ComesFrom keeps honest faults (let z : LeftState D = record { host = now.host; device = x } in z) device now.host) (sym has)
      (left_now keeps honest faults now.host device);
}

few_still : (s s2 : Space) → IsAsWhole s s2 → HasFewPages s → HasFewPages s2
few_still s s2 whole few = omega (arith, whole.frames, whole.slots, few)

-- pages that could be offered can be still
pub can_offer_on : {D : Type 0} (keeps honest : D → Type 0) (faults : D → List SwapError) (old now : OwnedState D) (ids : List InstId) → ComesOn keeps honest faults (left_of old) (left_of now)
    → EachCanOffer old.host ids → EachCanOffer now.host ids
can_offer_on keeps honest faults old now ids on can i id there =
    let was = can i id there in
    (few_still old.host.space now.host.space on.came.whole was.0, was.1)

-- what is said of the books and of the owner's count is said of those that contracts see
pub counts_on : {D : Type 0} (P : BooksState → OwnCount → Type 0) (locked : Option (LockedState D)) (owner : LeftState D) (shares : SharesState) (now : OwnedState D) (l : LockedState D) → owned_of locked owner shares ≡ now
    → locked ≡ Some l → P l.books shares.owner → P now.books now.own
counts_on {D} P locked owner shares now l view is p =
    subst (λ (o : OwnedState D). P o.books o.own) view (subst (λ (z : Option (LockedState D)). P (books_in z) shares.owner) (sym is) p)

pub none_on : {A : Type 0} (P Q : Type 0) (o : Option A) → (P → Q) → IfNone o P → IfNone o Q
none_on P Q (Some x) f p = tt
none_on P Q None f p = f p

-- nothing is done
pub moves_nothing : (h : HostState) → MovesOnly h h
moves_nothing h = λ w st. (w, (w.space, (λ j. record { view = refl; wants = refl; claim = refl; promise = inl refl }, memory_stays_sound w st.comes), refl), st)

-- ---- what is offered for turns

-- where no further one can be offered
pub none_more : {D : Type 0} (keeps honest : D → Type 0) (faults : D → List SwapError) (old now new : OwnedState D) (ids : List InstId) (offers wanted : ℕ) → ComesOn keeps honest faults (left_of old) (left_of now)
    → (¬ (EachCanOffer now.host ids)) ⊎ (now.own.offers ≡ 2 ^ 64 - 1) → new.own ≡ now.own → EachCanOffer old.host ids → (offers ≡ wanted) ⊎ (new.own.offers ≡ 2 ^ 64 - 1)
none_more keeps honest faults old now new ids offers wanted on (inl not) same can = absurd (not (can_offer_on keeps honest faults old now ids on can))
none_more keeps honest faults old now new ids offers wanted on (inr full) same can = inr (ap (λ (o : OwnCount). o.offers) same ∙ full)

-- turns leave the owner's offers
pub owed_still : (books books2 : BooksState) (own own2 : OwnCount) (more turns offers : ℕ) → WorksHere books own more 0 books2 own2
    → (turns / 64 ≤ offers) ⊎ (own.offers ≡ 2 ^ 64 - 1) → (turns / 64 ≤ offers) ⊎ (own2.offers ≡ 2 ^ 64 - 1)
owed_still books books2 own own2 more turns offers did (inl paid) = inl paid
owed_still books books2 own own2 more turns offers did (inr full) = inr (omega (arith, full, ap (λ (o : OwnCount). o.offers) did.own_is))

pub paid_now : (turns offers wanted paid : ℕ) (Full : Type 0) → wanted ≡ turns / 64 - offers → (paid ≡ wanted) ⊎ Full → (turns / 64 ≤ offers + paid) ⊎ Full
paid_now turns offers wanted paid Full is (inl all) = inl (omega (arith, is, all))
paid_now turns offers wanted paid Full is (inr full) = inr full

-- a page of one of them can't be offered
pub not_each : (Full : Type 0) (h : HostState) (ids : List InstId) (i : ℕ) (id : InstId) → slice_get ids i ≡ Some id → (¬ (CanOffer h.space id.place)) ⊎ Full
    → (¬ (EachCanOffer h ids)) ⊎ Full
not_each Full h ids i id there (inl not) = inl (λ all. not (all i id there))
not_each Full h ids i id there (inr full) = inr full
