-- What was taken out was handed the bytes, and is put in again unless it is done.
use Rattle.std.proofs.Common.{◌≡◌, [], sym, ◌∙◌, subst, append-nil}
use Rattle.wh_multiplex.specs.Multiplexing.{Sends}
use Rattle.wh_multiplex.proofs.Queued.{ConnectionTakes-none, ConnectionTakes-some, set_done, set_open}
use Rattle.wh_multiplex.proofs.connections.Connections.hand.Goals as goal

pub returns-in-None-clause-ok : goal.returns-in-None-clause-ok
returns-in-None-clause-ok g c =
    ([], sym (append-nil _), ConnectionTakes-none g.S.ConnectionService.takes g.S.ConnectionService.handed g.S.ConnectionService.given _ _ _ c.args.connection _ (sym c.take_out.ensures.value ∙ c.in-None.is) c.take_out.ensures.slots)

pub returns-then-is_done-clause-ok : goal.returns-then-is_done-clause-ok
returns-then-is_done-clause-ok g c =
    let (sent, sends, queued) = c.in-Ok.ensures.ok in
    let turn = c.take-is_done.ensures in (
      sent,
      queued,
      ConnectionTakes-some g.S.ConnectionService.takes g.S.ConnectionService.handed g.S.ConnectionService.given _ _ c.args.self.now.slots.items _ c.args.connection _ c.take-is_done.new.answer.items c.in-Some.kept c.take-is_done.new.connection c.take-is_done.result sent
          (sym c.take_out.ensures.value ∙ c.in-Some.is) turn
          (subst (λ b. Sends c.args.connection b c.take-is_done.result sent) c.deref.ensures.value sends)
          (set_done c.args.self.now.slots.items _ c.args.connection c.take-is_done.new.connection c.take-is_done.result c.take_out.ensures.slots c.if-is_done.true),
    )

pub returns-clause-ok : goal.returns-clause-ok
returns-clause-ok g c =
    let (sent, sends, queued) = c.in-Ok.ensures.ok in
    let turn = c.take-is_done.ensures in (
      sent,
      queued,
      ConnectionTakes-some g.S.ConnectionService.takes g.S.ConnectionService.handed g.S.ConnectionService.given _ _ c.args.self.now.slots.items _ c.args.connection _ c.take-is_done.new.answer.items c.in-Some.kept c.take-is_done.new.connection c.take-is_done.result sent
          (sym c.take_out.ensures.value ∙ c.in-Some.is) turn
          (subst (λ b. Sends c.args.connection b c.take-is_done.result sent) c.deref.ensures.value sends)
          (set_open c.args.self.now.slots.items _ _ c.args.connection c.take-is_done.new.connection c.take-is_done.result c.take_out.ensures.slots c.put_in.ensures c.if-is_done.false),
    )
