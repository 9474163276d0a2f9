-- What the frame did by its kind keeps all connections carried.
use Rattle.std.proofs.Common.{◌≡◌, [], refl, sym, subst, append-nil}
use Rattle.wh_multiplex.specs.declared.frame.StreamKind.TheVariants.{Opened, Data, Ended, Stop}
use Rattle.wh_multiplex.specs.Multiplexing.{ConnectionTakes}
use Rattle.wh_multiplex.proofs.Carrying.{carried_by}
use Rattle.wh_multiplex.proofs.connections.Connections.take_frame.Goals as goal

pub returns-in-Stop-clause-ok : goal.returns-in-Stop-clause-ok
returns-in-Stop-clause-ok g c =
    ([], sym (append-nil _), carried_by _ _ _ _ _ Stop _ _ _ _ c.args.frame.now [] c.in-Stop.is (refl, refl, refl))

pub returns-in-Ok-clause-ok : goal.returns-in-Ok-clause-ok
returns-in-Ok-clause-ok g c =
    let (sent, queued, opening) = c.in-Ok.ensures.ok in
    (sent, queued, carried_by _ _ _ _ _ Opened _ _ _ _ c.args.frame.now sent c.in-Opened.is (opening, refl))

pub returns-in-Ok-hand-clause-ok : goal.returns-in-Ok-hand-clause-ok
returns-in-Ok-hand-clause-ok g c =
    let (sent, queued, taking) = c.in-Ok-hand.ensures.ok in
    let bytes_taken = subst (λ b. ConnectionTakes g.S.ConnectionService.takes g.S.ConnectionService.handed g.S.ConnectionService.given c.args.service.now c.args.self.now.slots.items
    c.args.frame.now.connection b sent c.hand.new.service c.hand.new.self.slots.items) c.as_slice.ensures taking in
    (sent, queued, carried_by _ _ _ _ _ Data _ _ _ _ c.args.frame.now sent c.in-Data.is bytes_taken)

pub returns-in-Ok-end-clause-ok : goal.returns-in-Ok-end-clause-ok
returns-in-Ok-end-clause-ok g c =
    let (sent, queued, ending) = c.in-Ok-end.ensures.ok in
    (sent, queued, carried_by _ _ _ _ _ Ended _ _ _ _ c.args.frame.now sent c.in-Ended.is (ending, refl))
