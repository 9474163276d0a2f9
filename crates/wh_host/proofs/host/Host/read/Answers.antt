use Rattle.std.proofs.Common.{length, sym, arith}
use Rattle.wh_host.proofs.Fields.{host_of, shown_host}
use Rattle.wh_host.proofs.Reading.{sees_bytes, sees_there}
use Rattle.wh_host.proofs.host.Host.read.Goals as goal

pub returns-then-saturating_add-size-clause-err : goal.returns-then-saturating_add-size-clause-err
returns-then-saturating_add-size-clause-err g c w st =
    let there = sees_there (host_of c.self.inside) w c.args.id c.in-Some.entry.now (shown_host w c.self.view_is st) (sym c.in-Some.ensures) c.if-not-has_number.ensures in
    (there.t, there.live, omega (arith, there.long, c.pages_at.ensures, c.saturating_add.ensures, c.if-saturating_add-size.true))

pub returns-in-Ok-clause-reads : goal.returns-in-Ok-clause-reads
returns-in-Ok-clause-reads g c honest w st =
    let there = sees_there (host_of c.self.inside) w c.args.id c.in-Some.entry.now (shown_host w c.self.view_is st) (sym c.in-Some.ensures) c.if-not-has_number.ensures in
    sees_bytes (host_of c.self.inside) w c.args.id c.args.at (length c.args.into.now) c.read_bytes.new.into there
    (omega (arith, c.pages_at.ensures, c.saturating_add.ensures, c.if-saturating_add-size.false)) c.read_bytes.auto.into (c.in-Ok.ensures.read honest)

pub returns-in-Err-clause-err : goal.returns-in-Err-clause-err
returns-in-Err-clause-err g c w st =
    let there = sees_there (host_of c.self.inside) w c.args.id c.in-Some.entry.now (shown_host w c.self.view_is st) (sym c.in-Some.ensures) c.if-not-has_number.ensures in
    (there.t, there.live, omega (arith, there.long, c.pages_at.ensures, c.saturating_add.ensures, c.if-saturating_add-size.false))
