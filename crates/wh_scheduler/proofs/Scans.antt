-- A host whose pages were offered in a scanner's thread.
use Rattle.std.proofs.Common.{◌≡◌, ◌+◌, ◌∙◌, ℕ, Option, Some, refl, sym, ap, subst, List, arith}
use Rattle.std.proofs.lemmas.Option.{same_Some}
use Rattle.std.specs.Prelude.{Result, Ok, Err, IfOk, OnOk, OnErr}
use Rattle.wh_host.specs.Backing.{KeepsBacking}
use Rattle.wh_host.specs.Paging.{MovesOnly}
use Rattle.wh_threads.specs.Counting.{SharesState, all_charges, all_evictions, all_turns}
use Rattle.wh_workers.specs.declared.crew.ServeError.{ServeError}
use Rattle.wh_cell.specs.Counted.{countable, offers_of}
use Rattle.wh_cell.specs.Knowing.{BackingState}
use Rattle.wh_cell.specs.LeftByOwner.{LeftState}
use Rattle.wh_cell.specs.Locking.{BooksState, LockedState, now_of}
use Rattle.wh_cell.specs.Scanned.{IsScanned, ScansLocked}
use Rattle.wh_scheduler.specs.InHand.{AreSums, IsInHand, OwnedState, by_scanners, owned_of}
use Rattle.wh_scheduler.proofs.InHand.{in_hand}

-- what came of it
abbrev pub Came : {D : Type 0} (hashes : List ℕ → ℕ) → LockedState D → SharesState → Result (Option ℕ) ServeError → LockedState D → SharesState → Type 0
Came hashes l s r l2 s2 =
    IfOk r (λ offered. ScansLocked hashes l s.offers offered l2 s2.offers)
    × OnErr r ((l2 ≡ l) × (s2 ≡ s))
    × (s2 ≡ record s { offers = s2.offers })

pub came_known : {D : Type 0} (hashes : List ℕ → ℕ) (l : LockedState D) (s : SharesState) (r : Result (Option ℕ) ServeError) (l2 : LockedState D) (s2 : SharesState) → Came hashes l s r l2 s2 → l2.known ≡ l.known
came_known hashes l s (Ok offered) l2 s2 came = came.0.known
came_known {D} hashes l s (Err error) l2 s2 came = ap (λ (z : LockedState D). z.known) came.1.0

pub came_moves : {D : Type 0} (hashes : List ℕ → ℕ) (l : LockedState D) (s : SharesState) (r : Result (Option ℕ) ServeError) (l2 : LockedState D) (s2 : SharesState) → Came hashes l s r l2 s2 → OnOk r (MovesOnly l.host l2.host)
came_moves hashes l s (Ok offered) l2 s2 came = came.0.moves
came_moves hashes l s (Err error) l2 s2 came = tt

pub came_backing : {D : Type 0} (hashes : List ℕ → ℕ) (l : LockedState D) (s : SharesState) (r : Result (Option ℕ) ServeError) (l2 : LockedState D) (s2 : SharesState) → Came hashes l s r l2 s2 → KeepsBacking l.host.space l2.host.space
came_backing hashes l s (Ok offered) l2 s2 came = came.0.backing
came_backing {D} hashes l s (Err error) l2 s2 came =
    subst (λ (z : LockedState D). KeepsBacking l.host.space z.host.space) (sym came.1.0) (record { pass = refl; frames = refl; slots = refl; tax = refl })

pub came_scans : {D : Type 0} (hashes : List ℕ → ℕ) (l : LockedState D) (s : SharesState) (r : Result (Option ℕ) ServeError) (l2 : LockedState D) (s2 : SharesState) → Came hashes l s r l2 s2
    → IfOk r (λ offered. IsScanned hashes l.host offered l2.host)
came_scans hashes l s (Ok offered) l2 s2 came = came.0.scans
came_scans hashes l s (Err error) l2 s2 came = tt

-- the book has grown by as many offers as the count
pub came_sums : {D : Type 0} (hashes : List ℕ → ℕ) (l : LockedState D) (s : SharesState) (r : Result (Option ℕ) ServeError) (l2 : LockedState D) (s2 : SharesState) → Came hashes l s r l2 s2
    → AreSums l.books s → AreSums l2.books s2
came_sums hashes l s (Ok offered) l2 s2 came sums =
    let books = came.0.books in
    let counted = came.0.counted in
    let only = came.2 in
    record {
      turns = ap (λ (z : BooksState). z.turns) books ∙ sums.turns ∙ sym (ap (λ (z : SharesState). all_turns z) only);
      charges = ap (λ (z : BooksState). z.charges) books ∙ sums.charges ∙ sym (ap (λ (z : SharesState). all_charges z) only);
      offers = omega (arith, counted.book_is, sums.offers, counted.count_is, ap (λ (z : SharesState). z.owner.offers) only);
      evictions = ap (λ (z : BooksState). z.evictions) books ∙ sums.evictions ∙ sym (ap (λ (z : SharesState). all_evictions z) only);
    }
came_sums {D} hashes l s (Err error) l2 s2 came sums =
    subst (λ (z : LockedState D). AreSums z.books s2) (sym came.1.0) (subst (λ (z : SharesState). AreSums l.books z) (sym came.1.1) sums)

-- so it is of the book that there was
pub came_books : {D : Type 0} (hashes : List ℕ → ℕ) (l : LockedState D) (s : SharesState) (r : Result (Option ℕ) ServeError) (l2 : LockedState D) (s2 : SharesState) → Came hashes l s r l2 s2
    → AreSums l.books s
    → IfOk r (λ offered. l2.books ≡ record l.books { offers = l.books.offers + countable (by_scanners l.books s.owner) (offers_of offered) })
came_books hashes l s (Ok offered) l2 s2 came sums =
    let scanned : s.offers ≡ by_scanners l.books s.owner = omega (arith, sums.offers) in
    let grown : l2.books.offers ≡ l.books.offers + countable (by_scanners l.books s.owner) (offers_of offered) =
    came.0.counted.book_is ∙ ap (λ n. l.books.offers + countable n (offers_of offered)) scanned in
    came.0.books ∙ ap (λ n. (let z : BooksState = record l.books { offers = n } in z)) grown
came_books hashes l s (Err error) l2 s2 came sums = tt

-- ---- in its owner's hand

abbrev pub owned_now : {D : Type 0} → LockedState D → SharesState → OwnedState D
owned_now l s = record { host = l.host; device = l.known.device; books = l.books; own = s.owner }

pub owned_is : {D : Type 0} (locked : Option (LockedState D)) (backing : Option (BackingState D)) (owner : LeftState D) (shares : SharesState) (now : OwnedState D) (l : LockedState D) → IsInHand locked backing owner shares
    → owned_of locked owner shares ≡ now → locked ≡ Some l → now ≡ owned_now l shares
owned_is {D} locked backing owner shares now l hand view is =
    let knows = (in_hand locked backing owner shares l hand.behind hand is hand.has_behind).0 in
    sym view ∙ (λ i. (let o : OwnedState D = owned_of (is i) (knows i) shares in o))

pub owned_then : {D : Type 0} (l2 l3 : LockedState D) (owner2 : LeftState D) (shares2 : SharesState) → l3.host ≡ l2.host → l3.known ≡ l2.known → l3.books ≡ l2.books → owner2 ≡ now_of l3 → owned_of (Some l3) owner2 shares2 ≡ owned_now l2 shares2
owned_then {D} l2 l3 owner2 shares2 hosts known books knows =
    ap (λ (z : LeftState D). owned_of (Some l3) z shares2) knows
    ∙ (λ i. (let o : OwnedState D = record { host = hosts i; device = (known i).device; books = books i; own = shares2.owner } in o))

pub sums_now : {D : Type 0} (locked : Option (LockedState D)) (backing : Option (BackingState D)) (owner : LeftState D) (shares : SharesState) (l : LockedState D) → IsInHand locked backing owner shares
    → locked ≡ Some l → AreSums l.books shares
sums_now {D} locked backing owner shares l hand is =
    subst (λ (z : LockedState D). AreSums z.books shares) (same_Some hand.inside l (sym hand.has ∙ is)) hand.sums

-- what is said of the host that was locked is said of the one in hand
pub on_both : {D : Type 0} (P : OwnedState D → OwnedState D → Type 0) (now new : OwnedState D) (l l2 : LockedState D) (s s2 : SharesState) → now ≡ owned_now l s → new ≡ owned_now l2 s2
    → P (owned_now l s) (owned_now l2 s2) → P now new
on_both {D} P now new l l2 s s2 is is2 p = subst (λ (o : OwnedState D). P o new) (sym is) (subst (λ (o : OwnedState D). P (owned_now l s) o) (sym is2) p)

pub came_same : {D : Type 0} (hashes : List ℕ → ℕ) (l : LockedState D) (s : SharesState) (r : Result (Option ℕ) ServeError) (l2 : LockedState D) (s2 : SharesState) → Came hashes l s r l2 s2
    → OnErr r (owned_now l2 s2 ≡ owned_now l s)
came_same hashes l s (Ok offered) l2 s2 came = tt
came_same {D} hashes l s (Err error) l2 s2 came = (λ i. (let o : OwnedState D = owned_now (came.1.0 i) (came.1.1 i) in o))

-- and of the turns that the owner ran itself
pub came_own : {D : Type 0} (hashes : List ℕ → ℕ) (l : LockedState D) (s : SharesState) (r : Result (Option ℕ) ServeError) (l2 : LockedState D) (s2 : SharesState) → Came hashes l s r l2 s2
    → s2.owner ≡ s.owner
came_own hashes l s r l2 s2 came = ap (λ (z : SharesState). z.owner) came.2
