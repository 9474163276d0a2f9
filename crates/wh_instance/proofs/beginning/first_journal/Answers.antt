use Rattle.std.proofs.Common.{◌≡◌}
use Rattle.wh_journal.specs.declared.calls.CallEnd.TheVariants as end
use Rattle.wh_instance.specs.Beginning.{start_call}
use Rattle.wh_instance.proofs.Newcomers.{ended_at_first}
use Rattle.wh_instance.proofs.beginning.first_journal.Goals as goal

pub returns : goal.returns
returns c =
    let call : c.new-call.result ≡ start_call c.args.start c.args.fuel end.Open = rw (c.new.ensures.items, c.new-2.ensures.items) at c.new-call.ensures in
    ended_at_first c.new-journal.result c.push.new.self c.end_present.new.self c.new-call.result c.args.start c.args.fuel c.args.over c.if-not-over.false c.new-journal.ensures c.in_ok-push.ensures.ok call c.end_present.ensures
