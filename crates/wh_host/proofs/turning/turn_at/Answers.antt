use Rattle.std.proofs.Common.{refl, sym, subst, rules}
use Rattle.wh_host_model.specs.declared.plain.TurnEnd.{TurnEnd}
use Rattle.wh_space_model.specs.{Space, view}
use Rattle.wh_host.specs.Lent.{TurnsTo, settled_in}
use Rattle.wh_host.proofs.Backed.{same_backing}
use Rattle.wh_host.proofs.Leavings.{turned_memory}
use Rattle.wh_host.proofs.Turns.{idle_turn}
use Rattle.wh_host.proofs.turning.turn_at.Goals as goal

pub returns-then-is_idle-clause-turns : goal.returns-then-is_idle-clause-turns
returns-then-is_idle-clause-turns c t lies = search (rules, idle_turn)

pub turn_lent-turned-requires : goal.turn_lent-turned-requires
turn_lent-turned-requires c = search rules

pub settle_at-requires : goal.settle_at-requires
settle_at-requires c =
    let given = c.requires in
    let some = c.if-is_idle.ensures c.args.linked.now c.args.page_limit (view c.args.memory.now c.args.place) given.0 given.1.is in
    (c.turn_lent-turned.ensures.turns given.0 some given.1).0

pub returns-clause-turns : goal.returns-clause-turns
returns-clause-turns c t lies =
    let some = c.if-is_idle.ensures c.args.linked.now c.args.page_limit (view c.args.memory.now c.args.place) t lies.is in
    let to = c.turn_lent-turned.ensures.turns t some lies in
    let x2 = c.turn_lent-turned.new.tenant in
    let by_answer = subst (λ (z : TurnEnd). TurnsTo c.args.linked.now c.args.page_limit c.args.q c.args.memory.now t z c.turn_lent-turned.result.1 c.args.place x2 (settled_in c.turn_lent-turned.new.memory c.args.place c.turn_lent-turned.result.0)) (sym c.settle_at.ensures.answer) to.1 in
    subst (λ (z : Space). TurnsTo c.args.linked.now c.args.page_limit c.args.q c.args.memory.now t c.settle_at.result c.turn_lent-turned.result.1 c.args.place x2 z) (sym c.settle_at.ensures.leaves) by_answer

pub returns-clause-few : goal.returns-clause-few
returns-clause-few c =
    let given = c.requires in
    let some = c.if-is_idle.ensures c.args.linked.now c.args.page_limit (view c.args.memory.now c.args.place) given.0 given.1.is in
    (c.turn_lent-turned.ensures.turns given.0 some given.1).1.0

pub returns-clause-backing : goal.returns-clause-backing
returns-clause-backing c = search rules

pub returns-then-is_idle-clause-backing : goal.returns-then-is_idle-clause-backing
returns-then-is_idle-clause-backing c = same_backing c.args.memory.now c.args.memory.now refl

pub returns-clause-memory : goal.returns-clause-memory
returns-clause-memory c = search (rules, turned_memory)

pub returns-then-is_idle-clause-memory : goal.returns-then-is_idle-clause-memory
returns-then-is_idle-clause-memory c = refl
