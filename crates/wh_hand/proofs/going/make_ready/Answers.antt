use Rattle.wh_host_model.specs.Host.{AwaitsFrame}
use Rattle.wh_host.specs.Paging.{MovesWith}
use Rattle.std.specs.Prelude.{None}
use Rattle.wh_hand.proofs.Goers.{made_ready}
use Rattle.wh_hand.proofs.Counted.{counts_provided}
use Rattle.wh_hand.proofs.Events.{live_moved, on_provided}
use Rattle.wh_hand.proofs.Steps.{moved_keeps, provided_moves, provided_well}
use Rattle.wh_hand.proofs.going.make_ready.Goals as goal

well : (c : goal.After-provide) → MovesWith c.args.host.now c.args.id AwaitsFrame None c.provide.new.self
well c = provided_well c.args.host.now c.provide.new.self c.args.id c.provide.result c.provide.ensures.serves.added (c.provide.ensures.moves tt)

pub returns-clause-runs : goal.returns-clause-runs
returns-clause-runs c = on_provided c.args.host.now c.provide.new.self c.args.id (well c)

pub returns-clause-others : goal.returns-clause-others
returns-clause-others c =
    moved_keeps c.args.host.now c.provide.new.self c.invariant.ensures (provided_moves c.args.host.now c.provide.new.self c.args.id (well c))

pub returns-clause-live : goal.returns-clause-live
returns-clause-live c =
    live_moved c.args.host.now c.provide.new.self c.invariant.ensures (provided_moves c.args.host.now c.provide.new.self c.args.id (well c))

pub returns-clause-ready : goal.returns-clause-ready
returns-clause-ready c =
    made_ready c.args.host.now c.provide.new.self c.args.id c.provide.result c.invariant.ensures
    (provided_moves c.args.host.now c.provide.new.self c.args.id (well c)) c.provide.ensures.serves.added c.provide.ensures.right

pub returns-clause-counts : goal.returns-clause-counts
returns-clause-counts c =
    counts_provided c.args.host.now.counts c.provide.new.self.counts c.provide.result c.provide.ensures.serves.added c.provide.ensures.adds
