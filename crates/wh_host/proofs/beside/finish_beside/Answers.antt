use Rattle.std.proofs.Common.{ap, sym, subst, ◌∙◌, rules}
use Rattle.wh_host_model.specs.declared.plain.TurnEnd.{TurnEnd}
use Rattle.wh_space_model.specs.{Space}
use Rattle.wh_instance.specs.Settling.{brought_on}
use Rattle.wh_host.specs.Lent.{TurnsTo, settled_in, turn_end_of}
use Rattle.wh_host.proofs.BesideTurns.{can_finish, can_from, charges_few, again_end, finished_turn, whole_or_cut}
use Rattle.wh_host.proofs.Unmoved.{looks_on}
use Rattle.wh_host.proofs.Leavings.{turned_memory}
use Rattle.wh_host.proofs.beside.finish_beside.Goals as goal

pub finish-turned-requires : goal.finish-turned-requires
finish-turned-requires c = search (rules, can_finish)

pub settle_at-requires : goal.settle_at-requires
settle_at-requires c =
    let r = c.requires in
    let ran = c.args.ran in
    let lay = c.lay_beside in
    let laid = lay.ensures in
    let came = c.came_there-came in
    let made = c.finish-turned in
    let there = came.ensures r.2 in
    (finished_turn r.0 r.1 r.2 r.3 c.args.memory.now c.args.place r.4 r.5 ran.came ran.pieces ran.charges c.args.tenant.now c.args.upper.now lay.new.memory came.result there.0 made.result made.new.self
    (record { run = r.6; sound = c.invariant.ensures.sound; laid = laid.laid; left = laid.left; keeps = laid.keeps; there = there.1; is_finished = made.ensures })).0

pub returns-clause-turns : goal.returns-clause-turns
returns-clause-turns c l limit q s x t run =
    let ran = c.args.ran in
    let lay = c.lay_beside in
    let laid = lay.ensures in
    let came = c.came_there-came in
    let made = c.finish-turned in
    let there = came.ensures q in
    let to = finished_turn l limit q s c.args.memory.now c.args.place x t ran.came ran.pieces ran.charges c.args.tenant.now c.args.upper.now lay.new.memory came.result there.0 made.result made.new.self
    (record { run = run; sound = c.invariant.ensures.sound; laid = laid.laid; left = laid.left; keeps = laid.keeps; there = there.1; is_finished = made.ensures }) in
    let by_answer = subst (λ (z : TurnEnd). TurnsTo l limit there.0 c.args.memory.now t z ran.charges c.args.place made.new.self (settled_in lay.new.memory c.args.place made.result)) (sym c.settle_at.ensures.answer) to.1 in
    let whole = subst (λ (z : Space). TurnsTo l limit there.0 c.args.memory.now t c.settle_at.result ran.charges c.args.place made.new.self z) (sym c.settle_at.ensures.leaves) by_answer in
    let few = charges_few l limit q s c.args.memory.now c.args.place x t ran.came ran.pieces ran.charges c.args.tenant.now c.args.upper.now run in
    let calls = can_finish l limit q s c.args.memory.now c.args.place x t ran.came ran.pieces ran.charges c.args.tenant.now c.args.upper.now run in
    let done = made.ensures calls.0 calls.1 calls.2 in
    let cut_short = whole_or_cut lay.new.memory c.args.place ran.came ran.charges q came.result there.0 c.settle_at.result few there.1
    (λ again. c.settle_at.ensures.answer ∙ again_end c.args.tenant.now ran.pieces ran.charges calls.0 calls.1 made.result made.new.self came.result again done) in
    (there.0, cut_short, whole)

pub returns-clause-others : goal.returns-clause-others
returns-clause-others c other apart =
    let lay = c.lay_beside in
    looks_on c.args.place other c.args.memory.now lay.new.memory c.settle_at.new.memory c.finish-turned.result apart (lay.ensures.others other apart) lay.ensures.keeps c.settle_at.ensures.leaves

pub returns-clause-memory : goal.returns-clause-memory
returns-clause-memory c = search (rules, turned_memory)

pub returns-clause-again : goal.returns-clause-again
returns-clause-again c again =
    let r = c.requires in
    let ran = c.args.ran in
    let came = c.came_there-came in
    let there = came.ensures r.2 in
    let calls = can_finish r.0 r.1 r.2 r.3 c.args.memory.now c.args.place r.4 r.5 ran.came ran.pieces ran.charges c.args.tenant.now c.args.upper.now r.6 in
    let done = c.finish-turned.ensures calls.0 calls.1 calls.2 in
    can_from c.lay_beside.new.memory c.args.place ran.came ran.charges r.2 came.result there.0 (brought_on c.args.tenant.now calls.0 calls.1 ran.pieces ran.charges) done.still there.1
    (ap turn_end_of (sym done.is_answer) ∙ sym c.settle_at.ensures.answer ∙ again)
