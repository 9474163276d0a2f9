use Rattle.std.proofs.Common.{subst, rules}
use Rattle.wh_host.specs.Hosting.{HostState}
use Rattle.wh_host.specs.HostCounting.{CountsScan}
use Rattle.wh_host.proofs.KeptCounts.{whatever_counted}
use Rattle.wh_host.proofs.Backed.{scans_backing, same_backing, then_backing}
use Rattle.wh_host.proofs.Offering.{scanned_here}
use Rattle.wh_host.proofs.Paged.{only_nothing}
use Rattle.wh_host.proofs.Fields.{host_of, shown_host}
use Rattle.wh_host.proofs.host.Host.scan.Goals as goal

pub returns-then-not-has_few_pages-clause-moves : goal.returns-then-not-has_few_pages-clause-moves
returns-then-not-has_few_pages-clause-moves g c w st = search (rules, only_nothing)

pub invariant_of-self : goal.invariant_of-self
invariant_of-self g c =
    let inv = c.self.invariant in
    let hashes = g.H.PageHash.hashes c.args.hasher.now in
    let made = scanned_here (host_of c.self.inside) inv.0 hashes _ c.scan_all-scanned.new.memory inv.1 c.scan_all-scanned.ensures.scans.2 in
    (made.0, whatever_counted _ made.0 _ made.2)

pub returns-clause-moves : goal.returns-clause-moves
returns-clause-moves g c w st =
    let hashes = g.H.PageHash.hashes c.args.hasher.now in
    let made = scanned_here (host_of c.self.inside) w hashes _ c.scan_all-scanned.new.memory (shown_host w c.self.view_is st) c.scan_all-scanned.ensures.scans.2 in
    (made.0, made.1, whatever_counted _ made.0 _ made.2)

pub returns-clause-backing : goal.returns-clause-backing
returns-clause-backing g c = search (rules, same_backing, then_backing, scans_backing)

pub returns-clause-counted : goal.returns-clause-counted
returns-clause-counted g c =
    let hashes = g.H.PageHash.hashes c.args.hasher.now in
    subst (λ (z : HostState). CountsScan hashes z c.scan_all-scanned.result.offered (record (host_of c.self.inside) { space = c.scan_all-scanned.new.memory; counts = c.count_scan.new.self })) c.self.view_is
    (c.scan_all-scanned.result.merged, c.scan_all-scanned.ensures.merges, c.count_scan.ensures)
