use Rattle.std.proofs.Common.{rules}
use Rattle.wh_host.proofs.KeptCounts.{whatever_counted}
use Rattle.wh_host.proofs.Offering.{offered_here}
use Rattle.wh_host.proofs.Paged.{only_nothing}
use Rattle.wh_host.proofs.Fields.{host_of, shown_host}
use Rattle.wh_host.proofs.host.Host.offer.Goals as goal

pub returns-then-not-has_few_pages-clause-moves : goal.returns-then-not-has_few_pages-clause-moves
returns-then-not-has_few_pages-clause-moves g c w st = search (rules, only_nothing)

pub returns-then-place-clause-moves : goal.returns-then-place-clause-moves
returns-then-place-clause-moves g c w st = search (rules, only_nothing)

pub invariant_of-self : goal.invariant_of-self
invariant_of-self g c =
    let inv = c.self.invariant in
    let hashes = g.H.PageHash.hashes c.args.hasher.now in
    let made = offered_here (host_of c.self.inside) inv.0 hashes c.args.id c.args.page c.args.hash c.offer-answer.result c.offer-answer.new.memory inv.1 c.offer-answer.ensures in
    (made.0, whatever_counted _ made.0 _ made.2)

pub returns-clause-moves : goal.returns-clause-moves
returns-clause-moves g c w st =
    let hashes = g.H.PageHash.hashes c.args.hasher.now in
    let made = offered_here (host_of c.self.inside) w hashes c.args.id c.args.page c.args.hash c.offer-answer.result c.offer-answer.new.memory (shown_host w c.self.view_is st) c.offer-answer.ensures in
    (made.0, made.1, whatever_counted _ made.0 _ made.2)

pub returns-clause-backing : goal.returns-clause-backing
returns-clause-backing g c = search rules
