-- What was taken out is closed.
use Rattle.std.proofs.Common.{[], sym, ◌∙◌, append-nil}
use Rattle.wh_multiplex.proofs.Queued.{ConnectionEnds-none, ConnectionEnds-some}
use Rattle.wh_multiplex.proofs.connections.Connections.end.Goals as goal

pub returns-in-None-clause-ok : goal.returns-in-None-clause-ok
returns-in-None-clause-ok g c =
    ([], sym (append-nil _), ConnectionEnds-none _ _ c.args.connection (sym c.take_out.ensures.value ∙ c.in-None.is) c.take_out.ensures.slots)

pub returns-in-Ok-clause-ok : goal.returns-in-Ok-clause-ok
returns-in-Ok-clause-ok g c =
    let (sent, sends, queued) = c.in-Ok.ensures.ok in
    (sent, queued, ConnectionEnds-some _ _ c.args.connection _ sent (sym c.take_out.ensures.value ∙ c.in-Some.is) sends c.take_out.ensures.slots)
