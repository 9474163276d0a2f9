use Rattle.std.proofs.Common.{◌≡◌, ◌+◌, ◌∙◌, ap, refl, subst, sym}
use Rattle.wh_threads.specs.Counting.{SharesState}
use Rattle.wh_cell.specs.Counted.{countable, offers_of}
use Rattle.wh_cell.specs.Locking.{BooksState, LockedState}
use Rattle.wh_cell.specs.Scanned.{ScansLocked}
use Rattle.wh_cell.proofs.Steps.{moved_in_step}
use Rattle.wh_cell.proofs.locked.Locked.own_scan.Goals as goal

pub invariant_of-self : goal.invariant_of-self
invariant_of-self g c =
    moved_in_step g.D.SwapDev.held g.D.SwapDev.keeps g.D.SwapDev.honest g.D.SwapDev.faults _ c.scan-offered.new.self _ c.self.invariant c.scan-offered.ensures.moves c.scan-offered.ensures.backing (ap (λ b. b.charges) c.count_own_offers.ensures.books)

pub returns-clause-scans : goal.returns-clause-scans
returns-clause-scans g c =
    let s = c.scan-offered.ensures in
    let n = c.count_own_offers in
    let b = n.new.books in
    let was = c.self.inside.books in
    let now : BooksState = record { turns = b.turns; charges = b.charges; offers = b.offers; evictions = b.evictions } in
    let then : BooksState = record { turns = was.turns; charges = was.charges; offers = b.offers; evictions = was.evictions } in
    let more = countable c.args.shares.now.owner.offers (offers_of c.scan-offered.result) in
    let grown : b.offers ≡ was.offers + more = ap (λ z. z.offers) n.ensures.books in
    let counts : now ≡ then =
    ap (λ z. (let r : BooksState = record { turns = z.turns; charges = z.charges; offers = z.offers; evictions = z.evictions } in r)) n.ensures.books
    ∙ ap (λ k. (let r : BooksState = record { turns = was.turns; charges = was.charges; offers = k; evictions = was.evictions } in r)) (sym grown) in
    let after : LockedState g.row.D.Denot = record { host = c.scan-offered.new.self; known = c.self.inside.known; books = now; left = c.self.inside.left } in
    subst (λ (l : LockedState g.row.D.Denot). ScansLocked (g.H.PageHash.hashes c.args.hasher.now) l c.args.shares.now.owner.offers c.scan-offered.result after n.new.shares.owner.offers) c.self.view_is
    (record {
      moves = s.moves;
      scans = record { done = s.done; none = s.none; offers = s.offers; scans = s.scans; full = s.full; counts = s.counts };
      backing = s.backing;
      counted = record { count_is = ap (λ (z : SharesState). z.owner.offers) n.ensures.shares; book_is = grown };
      books = counts;
      known = refl;
      left = refl;
    })
