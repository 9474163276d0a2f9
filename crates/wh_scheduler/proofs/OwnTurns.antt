-- Turns that the owner of a host runs itself.
use Rattle.std.proofs.Common.{◌≡◌, ℕ, ◌+◌, ◌/◌, ◌<◌, ◌≤◌, List, Some, inl, inr, length, slice_get, subst, sym, ap, ◌∙◌, arith}
use Rattle.std.proofs.lemmas.Bool.{cases_lt, false≢true, true≢false}
use Rattle.std.proofs.lemmas.Option.{same_Some, slice_get_within}
use Rattle.std.specs.Prelude.{Result, Ok, Err, IfNone, IfOk, IfSome, None, OnOk, Option, false, is_some, true}
use Rattle.crossbeam_channel.specs.Claims.{view}
use Rattle.wh_space_model.specs.declared.plain.InstId.{InstId}
use Rattle.wh_host.specs.Hosting.{HostState}
use Rattle.wh_threads.specs.Counting.{MadeOwnOffers, RanOwnTurn, SharesState, charges_of, turns_of}
use Rattle.wh_threads.specs.declared.channel.Message.{Message}
use Rattle.wh_threads.specs.declared.own_count.OwnCount.{OwnCount}
use Rattle.wh_workers.specs.Serving.{AreRun}
use Rattle.wh_workers.specs.declared.crew.Served.{Served}
use Rattle.wh_workers.specs.declared.crew.ServeError.{ServeError}
use Rattle.wh_cell.specs.Locking.{BooksState}
use Rattle.wh_scheduler.specs.InHand.{AreSums, EachIs, RunsHere, WorksHere, books_with, own_with}

-- each of the first ones is so
abbrev pub EachBelow : (HostState → InstId → Type 0) → HostState → List InstId → ℕ → Type 0
EachBelow P h ids n = (i : ℕ) (id : InstId) → i < n → slice_get ids i ≡ Some id → P h id

pub none_below : (P : HostState → InstId → Type 0) (h : HostState) (ids : List InstId) → EachBelow P h ids 0
none_below P h ids i id below there = absurd (omega (arith, below))

pub one_more : (P : HostState → InstId → Type 0) (h : HostState) (ids : List InstId) (at : ℕ) (id : InstId) → EachBelow P h ids at
    → slice_get ids at ≡ Some id → P h id → EachBelow P h ids (at + 1)
one_more P h ids at id were there is i x below here =
    elim (cases_lt i at) [
      | inl before ↦ were i x before here
      | inr behind ↦
          (let same : i ≡ at = omega (arith, below, behind) in
          let one : id ≡ x = same_Some id x (sym there ∙ ap (slice_get ids) (sym same) ∙ here) in
          rw (← one) is)
    ]

pub all_below : (P : HostState → InstId → Type 0) (h : HostState) (ids : List InstId) (n : ℕ) → length ids ≤ n → EachBelow P h ids n → EachIs P h ids
all_below P h ids n all were i id there = were i id (omega (arith, slice_get_within ids i id there, all)) there

-- no turn was run yet
pub ran_none : (books : BooksState) (own : OwnCount) → RunsHere books own 0 books own
ran_none books own =
    let turns : books.turns ≡ books.turns + 0 = omega arith in
    let charges : books.charges ≡ books.charges + 0 = omega arith in
    let own_turns : own.turns ≡ own.turns + 0 = omega arith in
    let own_charges : own.charges ≡ own.charges + 0 = omega arith in
    record {
      taken = 0;
      books_are = (λ i. (let z : BooksState = record books { turns = turns i; charges = charges i } in z));
      own_is = (λ i. (let z : OwnCount = record own { turns = own_turns i; charges = own_charges i } in z));
    }

-- one turn more
pub ran_one : (books books2 books3 : BooksState) (own : OwnCount) (turns taken : ℕ) (s s2 : SharesState) → RunsHere books own turns books2 s.owner
    → RanOwnTurn s taken s2 → books3 ≡ record books2 { turns = books2.turns + 1; charges = books2.charges + taken }
    → RunsHere books own (turns + 1) books3 s2.owner
ran_one books books2 books3 own turns taken s s2 ran one is =
    let turns_are : books.turns + turns + 1 ≡ books.turns + (turns + 1) = omega arith in
    let charges_are : books.charges + ran.taken + taken ≡ books.charges + (ran.taken + taken) = omega arith in
    let own_turns : own.turns + turns + 1 ≡ own.turns + (turns + 1) = omega arith in
    let own_charges : own.charges + ran.taken + taken ≡ own.charges + (ran.taken + taken) = omega arith in
    record {
      taken = ran.taken + taken;
      books_are = is ∙ ap (λ (b : BooksState). (let z : BooksState = record b { turns = b.turns + 1; charges = b.charges + taken } in z)) ran.books_are
          ∙ (λ i. (let z : BooksState = record books { turns = turns_are i; charges = charges_are i } in z));
      own_is = ap (λ (z : SharesState). z.owner) one
          ∙ ap (λ (o : OwnCount). (let z : OwnCount = record o { turns = o.turns + 1; charges = o.charges + taken } in z)) ran.own_is
          ∙ (λ i. (let z : OwnCount = record own { turns = own_turns i; charges = own_charges i } in z));
    }

-- some turns, and some more
pub ran_more : (books books2 books3 : BooksState) (own own2 own3 : OwnCount) (turns more : ℕ) → RunsHere books own turns books2 own2 → RunsHere books2 own2 more books3 own3
    → RunsHere books own (turns + more) books3 own3
ran_more books books2 books3 own own2 own3 turns more first next =
    let turns_are : books.turns + turns + more ≡ books.turns + (turns + more) = omega arith in
    let charges_are : books.charges + first.taken + next.taken ≡ books.charges + (first.taken + next.taken) = omega arith in
    let own_turns : own.turns + turns + more ≡ own.turns + (turns + more) = omega arith in
    let own_charges : own.charges + first.taken + next.taken ≡ own.charges + (first.taken + next.taken) = omega arith in
    record {
      taken = first.taken + next.taken;
      books_are = next.books_are ∙ ap (λ (b : BooksState). (let z : BooksState = record b { turns = b.turns + more; charges = b.charges + next.taken } in z)) first.books_are
          ∙ (λ i. (let z : BooksState = record books { turns = turns_are i; charges = charges_are i } in z));
      own_is = next.own_is ∙ ap (λ (o : OwnCount). (let z : OwnCount = record o { turns = o.turns + more; charges = o.charges + next.taken } in z)) first.own_is
          ∙ (λ i. (let z : OwnCount = record own { turns = own_turns i; charges = own_charges i } in z));
    }

-- of all counts the owner's own alone has changed
pub owner_alone : (s s2 : SharesState) (own : OwnCount) → s2 ≡ record s { owner = own } → s2 ≡ record s { owner = s2.owner }
owner_alone s s2 own is =
    let same : own ≡ s2.owner = sym (ap (λ (z : SharesState). z.owner) is) in
    is ∙ ap (λ (o : OwnCount). (let z : SharesState = record s { owner = o } in z)) same

pub owner_only : (s s2 s3 : SharesState) → s2 ≡ record s { owner = s2.owner } → s3 ≡ record s2 { owner = s3.owner } → s3 ≡ record s { owner = s3.owner }
owner_only s s2 s3 first next = next ∙ ap (λ (x : SharesState). (let z : SharesState = record x { owner = s3.owner } in z)) first

-- the books are still the sums of all counts
pub ran_sums : (books books2 : BooksState) (s s2 : SharesState) (turns : ℕ) → s2 ≡ record s { owner = s2.owner } → RunsHere books s.owner turns books2 s2.owner
    → AreSums books s → AreSums books2 s2
ran_sums books books2 s s2 turns only ran sums =
    let b = ran.books_are in record {
      turns = omega (
        arith,
        ap (λ (z : BooksState). z.turns) b,
        sums.turns,
        ap (λ (z : SharesState). turns_of z.tallies) only,
        ap (λ (o : OwnCount). o.turns) ran.own_is,
      );
      charges = omega (
        arith,
        ap (λ (z : BooksState). z.charges) b,
        sums.charges,
        ap (λ (z : SharesState). charges_of z.tallies) only,
        ap (λ (o : OwnCount). o.charges) ran.own_is,
      );
      offers = omega (
        arith,
        ap (λ (z : BooksState). z.offers) b,
        sums.offers,
        ap (λ (z : SharesState). z.offers) only,
        ap (λ (o : OwnCount). o.offers) ran.own_is,
      );
      evictions = omega (
        arith,
        ap (λ (z : BooksState). z.evictions) b,
        sums.evictions,
        ap (λ (z : SharesState). z.evictions) only,
        ap (λ (o : OwnCount). o.evictions) ran.own_is,
      );
    }

-- ---- turns, offers and evictions of the owner

same_books : (a b : BooksState) → a.turns ≡ b.turns → a.charges ≡ b.charges → a.offers ≡ b.offers → a.evictions ≡ b.evictions → a ≡ b
same_books a b turns charges offers evictions =
    (λ i. (let z : BooksState = record { turns = turns i; charges = charges i; offers = offers i; evictions = evictions i } in z))

same_own : (a b : OwnCount) → a.turns ≡ b.turns → a.charges ≡ b.charges → a.offers ≡ b.offers → a.evictions ≡ b.evictions → a ≡ b
same_own a b turns charges offers evictions =
    (λ i. (let z : OwnCount = record { turns = turns i; charges = charges i; offers = offers i; evictions = evictions i } in z))

-- it has done nothing yet
pub works_none : (books : BooksState) (own : OwnCount) → WorksHere books own 0 0 books own
works_none books own = record {
  taken = 0;
  gone = 0;
  books_are = same_books books (books_with books 0 0 0 0) (omega arith) (omega arith) (omega arith) (omega arith);
  own_is = same_own own (own_with own 0 0 0 0) (omega arith) (omega arith) (omega arith) (omega arith);
}

pub works_by_turns : (books books2 : BooksState) (own own2 : OwnCount) (turns : ℕ) → RunsHere books own turns books2 own2 → WorksHere books own turns 0 books2 own2
works_by_turns books books2 own own2 turns ran = record {
  taken = ran.taken;
  gone = 0;
  books_are = same_books books2 (books_with books turns ran.taken 0 0) (omega (arith, ap (λ (z : BooksState). z.turns) ran.books_are)) (omega (arith, ap (λ (z : BooksState). z.charges) ran.books_are)) (omega (arith, ap (λ (z : BooksState). z.offers) ran.books_are)) (omega (arith, ap (λ (z : BooksState). z.evictions) ran.books_are));
  own_is = same_own own2 (own_with own turns ran.taken 0 0) (omega (arith, ap (λ (z : OwnCount). z.turns) ran.own_is)) (omega (arith, ap (λ (z : OwnCount). z.charges) ran.own_is)) (omega (arith, ap (λ (z : OwnCount). z.offers) ran.own_is)) (omega (arith, ap (λ (z : OwnCount). z.evictions) ran.own_is));
}

pub works_by_offers : (books books2 : BooksState) (own own2 : OwnCount) (more : ℕ) → books2 ≡ record books { offers = books.offers + more }
    → own2 ≡ record own { offers = own.offers + more } → WorksHere books own 0 more books2 own2
works_by_offers books books2 own own2 more is is2 = record {
  taken = 0;
  gone = 0;
  books_are = same_books books2 (books_with books 0 0 more 0) (omega (arith, ap (λ (z : BooksState). z.turns) is)) (omega (arith, ap (λ (z : BooksState). z.charges) is)) (omega (arith, ap (λ (z : BooksState). z.offers) is)) (omega (arith, ap (λ (z : BooksState). z.evictions) is));
  own_is = same_own own2 (own_with own 0 0 more 0) (omega (arith, ap (λ (z : OwnCount). z.turns) is2)) (omega (arith, ap (λ (z : OwnCount). z.charges) is2)) (omega (arith, ap (λ (z : OwnCount). z.offers) is2)) (omega (arith, ap (λ (z : OwnCount). z.evictions) is2));
}

pub works_by_evictions : (books books2 : BooksState) (own own2 : OwnCount) (gone : ℕ) → books2 ≡ record books { evictions = books.evictions + gone }
    → own2 ≡ record own { evictions = own.evictions + gone } → WorksHere books own 0 0 books2 own2
works_by_evictions books books2 own own2 gone is is2 = record {
  taken = 0;
  gone = gone;
  books_are = same_books books2 (books_with books 0 0 0 gone) (omega (arith, ap (λ (z : BooksState). z.turns) is)) (omega (arith, ap (λ (z : BooksState). z.charges) is)) (omega (arith, ap (λ (z : BooksState). z.offers) is)) (omega (arith, ap (λ (z : BooksState). z.evictions) is));
  own_is = same_own own2 (own_with own 0 0 0 gone) (omega (arith, ap (λ (z : OwnCount). z.turns) is2)) (omega (arith, ap (λ (z : OwnCount). z.charges) is2)) (omega (arith, ap (λ (z : OwnCount). z.offers) is2)) (omega (arith, ap (λ (z : OwnCount). z.evictions) is2));
}

-- some of it, and some more
pub works_more : (books books2 books3 : BooksState) (own own2 own3 : OwnCount) (turns offers turns2 offers2 : ℕ) → WorksHere books own turns offers books2 own2 → WorksHere books2 own2 turns2 offers2 books3 own3
    → WorksHere books own (turns + turns2) (offers + offers2) books3 own3
works_more books books2 books3 own own2 own3 turns offers turns2 offers2 first next = record {
  taken = first.taken + next.taken;
  gone = first.gone + next.gone;
  books_are = same_books books3 (books_with books (turns + turns2) (first.taken + next.taken) (offers + offers2) (first.gone + next.gone))
      (omega (arith, ap (λ (z : BooksState). z.turns) next.books_are, ap (λ (z : BooksState). z.turns) first.books_are))
      (omega (arith, ap (λ (z : BooksState). z.charges) next.books_are, ap (λ (z : BooksState). z.charges) first.books_are))
      (omega (arith, ap (λ (z : BooksState). z.offers) next.books_are, ap (λ (z : BooksState). z.offers) first.books_are))
      (omega (arith, ap (λ (z : BooksState). z.evictions) next.books_are, ap (λ (z : BooksState). z.evictions) first.books_are));
  own_is = same_own own3 (own_with own (turns + turns2) (first.taken + next.taken) (offers + offers2) (first.gone + next.gone))
      (omega (arith, ap (λ (z : OwnCount). z.turns) next.own_is, ap (λ (z : OwnCount). z.turns) first.own_is))
      (omega (arith, ap (λ (z : OwnCount). z.charges) next.own_is, ap (λ (z : OwnCount). z.charges) first.own_is))
      (omega (arith, ap (λ (z : OwnCount). z.offers) next.own_is, ap (λ (z : OwnCount). z.offers) first.own_is))
      (omega (arith, ap (λ (z : OwnCount). z.evictions) next.own_is, ap (λ (z : OwnCount). z.evictions) first.own_is));
}

-- a page was offered, or none and nothing has changed
pub works_by_offer : {A : Type 0} (offered : Option A) (books books2 : BooksState) (s s2 : SharesState) → IfSome offered (λ _. (books2 ≡ record books { offers = books.offers + 1 }) × MadeOwnOffers s 1 s2)
    → IfSome offered (λ _. WorksHere books s.owner 0 1 books2 s2.owner)
works_by_offer (Some x) books books2 s s2 p = works_by_offers books books2 s.owner s2.owner 1 p.0 (ap (λ (z : SharesState). z.owner) p.1)
works_by_offer None books books2 s s2 p = tt

pub only_by_offer : {A : Type 0} (P Q R B : Type 0) (offered : Option A) (s s2 : SharesState) → IfSome offered (λ _. B × MadeOwnOffers s 1 s2) → IfNone offered (P × Q × R × (s2 ≡ s))
    → s2 ≡ record s { owner = s2.owner }
only_by_offer P Q R B (Some x) s s2 p none = owner_alone s s2 _ p.1
only_by_offer P Q R B None s s2 p none =
    none.3 ∙ ap (λ (o : OwnCount). (let z : SharesState = record s { owner = o } in z)) (ap (λ (z : SharesState). z.owner) (sym none.3))

-- turns, and offers behind them
pub works_paid : (books books2 books3 books4 : BooksState) (own own2 own3 own4 : OwnCount) (turns offers more paid : ℕ) → WorksHere books own turns offers books2 own2 → WorksHere books2 own2 more 0 books3 own3
    → WorksHere books3 own3 0 paid books4 own4 → WorksHere books own (turns + more) (offers + paid) books4 own4
works_paid books books2 books3 books4 own own2 own3 own4 turns offers more paid first next then =
    let turns_are : turns + more + 0 ≡ turns + more = omega arith in
    let offers_are : offers + 0 + paid ≡ offers + paid = omega arith in
    subst (λ n. WorksHere books own n (offers + paid) books4 own4) turns_are
    (subst (λ n. WorksHere books own (turns + more + 0) n books4 own4) offers_are
    (works_more books books3 books4 own own3 own4 (turns + more) (offers + 0) 0 paid (works_more books books2 books3 own own2 own3 turns offers more 0 first next) then))

-- none at last
pub works_ended : (books books2 books3 : BooksState) (own own2 own3 : OwnCount) (turns offers more : ℕ) → WorksHere books own turns offers books2 own2 → WorksHere books2 own2 more 0 books3 own3
    → more ≡ 0 → WorksHere books own turns offers books3 own3
works_ended books books2 books3 own own2 own3 turns offers more first next none =
    let turns_are : turns + more ≡ turns = omega (arith, none) in
    let offers_are : offers + 0 ≡ offers = omega arith in
    subst (λ n. WorksHere books own n offers books3 own3) turns_are
    (subst (λ n. WorksHere books own (turns + more) n books3 own3) offers_are (works_more books books2 books3 own own2 own3 turns offers more 0 first next))

pub works_same : (books books2 books3 : BooksState) (own own2 own3 : OwnCount) (turns offers : ℕ) → WorksHere books own turns offers books2 own2 → books3 ≡ books2 → own3 ≡ own2
    → WorksHere books own turns offers books3 own3
works_same books books2 books3 own own2 own3 turns offers did same same2 =
    subst (λ (b : BooksState). WorksHere books own turns offers b own3) (sym same) (subst (λ (o : OwnCount). WorksHere books own turns offers books2 o) (sym same2) did)

pub some_there : {A : Type 0} (P : Type 0) (o : Option A) → is_some o ≡ true → IfSome o (λ _. P) → P
some_there P (Some x) is p = p
some_there P None is p = absurd (false≢true is)

pub none_there : {A : Type 0} (P : Type 0) (o : Option A) → is_some o ≡ false → IfNone o P → P
none_there P (Some x) is p = absurd (true≢false is)
none_there P None is p = p

-- the books are still the sums of all counts
pub works_sums : (books books2 : BooksState) (s s2 : SharesState) (turns offers : ℕ) → s2 ≡ record s { owner = s2.owner } → WorksHere books s.owner turns offers books2 s2.owner
    → AreSums books s → AreSums books2 s2
works_sums books books2 s s2 turns offers only did sums = record {
  turns = omega (
    arith,
    ap (λ (z : BooksState). z.turns) did.books_are,
    sums.turns,
    ap (λ (z : SharesState). turns_of z.tallies) only,
    ap (λ (o : OwnCount). o.turns) did.own_is,
  );
  charges = omega (
    arith,
    ap (λ (z : BooksState). z.charges) did.books_are,
    sums.charges,
    ap (λ (z : SharesState). charges_of z.tallies) only,
    ap (λ (o : OwnCount). o.charges) did.own_is,
  );
  offers = omega (
    arith,
    ap (λ (z : BooksState). z.offers) did.books_are,
    sums.offers,
    ap (λ (z : SharesState). z.offers) only,
    ap (λ (o : OwnCount). o.offers) did.own_is,
  );
  evictions = omega (
    arith,
    ap (λ (z : BooksState). z.evictions) did.books_are,
    sums.evictions,
    ap (λ (z : SharesState). z.evictions) only,
    ap (λ (o : OwnCount). o.evictions) did.own_is,
  );
}

-- where a page was offered, or none and nothing has changed
pub offered_sums : {A : Type 0} (P : Type 0) (Q : Type 0) (books books2 : BooksState) (s s2 : SharesState) (offered : Option A) → s2 ≡ record s { owner = s2.owner }
    → IfSome offered (λ _. WorksHere books s.owner 0 1 books2 s2.owner) → IfNone offered (P × Q × (books2 ≡ books) × (s2 ≡ s)) → AreSums books s → AreSums books2 s2
offered_sums P Q books books2 s s2 (Some x) only works none sums = works_sums books books2 s s2 0 1 only works sums
offered_sums P Q books books2 s s2 None only works none sums =
    subst (λ (b : BooksState). AreSums b s2) (sym none.2) (subst (λ (z : SharesState). AreSums books z) (sym none.3) sums)

-- ---- a run by workers, where the owner's own count stays

-- what is said of the workers' counts is said of the books
ran_on : (a b own own2 books books2 : ℕ) (left : Option Message) (received : List Message) → books ≡ a + own → books2 ≡ b + own2 → own2 ≡ own
    → AreRun a left received b → AreRun books left received books2
ran_on a b own own2 books books2 left received is is2 same ran = record {
  by_workers = ran.by_workers;
  all = ran.all;
  grown = omega (arith, ran.grown, is, is2, same);
}

pub ran_where_ok : (served : Result Served ServeError) (a b own own2 books books2 : ℕ) → books ≡ a + own → books2 ≡ b + own2 → own2 ≡ own
    → IfOk served (λ s. AreRun a s.left (view s.slip).received b) → IfOk served (λ s. AreRun books s.left (view s.slip).received books2)
ran_where_ok (Ok s) a b own own2 books books2 is is2 same ran = ran_on a b own own2 books books2 s.left (view s.slip).received is is2 same ran
ran_where_ok (Err e) a b own own2 books books2 is is2 same ran = tt

more_where_ok : (end : Result Unit ServeError) (a b own own2 books books2 turns : ℕ) → books ≡ a + own → books2 ≡ b + own2 → own2 ≡ own
    → OnOk end (b ≡ a + turns) → OnOk end (books2 ≡ books + turns)
more_where_ok (Ok x) a b own own2 books books2 turns is is2 same more = omega (arith, is, is2, same, more)
more_where_ok (Err e) a b own own2 books books2 turns is is2 same more = tt

pub turns_where_ok : (served : Result Served ServeError) (a b own own2 books books2 : ℕ) → books ≡ a + own → books2 ≡ b + own2 → own2 ≡ own
    → IfOk served (λ s. OnOk s.end (b ≡ a + s.turns)) → IfOk served (λ s. OnOk s.end (books2 ≡ books + s.turns))
turns_where_ok (Ok s) a b own own2 books books2 is is2 same more = more_where_ok s.end a b own own2 books books2 s.turns is is2 same more
turns_where_ok (Err e) a b own own2 books books2 is is2 same more = tt

-- and where no worker counted anything the books stay
pub none_counted : (a b own own2 books books2 : ℕ) → books ≡ a + own → books2 ≡ b + own2 → own2 ≡ own → b ≡ a → books2 ≡ books
none_counted a b own own2 books books2 is is2 same none = omega (arith, is, is2, same, none)

-- nor fewer than there were
pub no_fewer : (a b own own2 books books2 : ℕ) → books ≡ a + own → books2 ≡ b + own2 → own2 ≡ own → a ≤ b → books ≤ books2
no_fewer a b own own2 books books2 is is2 same more = omega (arith, is, is2, same, more)

owed_where : (end : Result Unit ServeError) (a b own own2 books books2 turns : ℕ) → books ≡ a + own → books2 ≡ b + own2 → own2 ≡ own
    → OnOk end (a + turns / 64 ≤ b) → OnOk end (books + turns / 64 ≤ books2)
owed_where (Ok x) a b own own2 books books2 turns is is2 same owed = omega (arith, is, is2, same, owed)
owed_where (Err e) a b own own2 books books2 turns is is2 same owed = tt

-- as many pages were offered as are owed
pub owed_where_ok : (served : Result Served ServeError) (a b own own2 books books2 : ℕ) → books ≡ a + own → books2 ≡ b + own2 → own2 ≡ own
    → IfOk served (λ s. OnOk s.end (a + s.turns / 64 ≤ b)) → IfOk served (λ s. OnOk s.end (books + s.turns / 64 ≤ books2))
owed_where_ok (Ok s) a b own own2 books books2 is is2 same owed = owed_where s.end a b own own2 books books2 s.turns is is2 same owed
owed_where_ok (Err e) a b own own2 books books2 is is2 same owed = tt
