use Rattle.std.proofs.Common.{rules, ◌≡◌, subst}
use Rattle.wh_host.specs.Lent.{TurnsLent}
use Rattle.wh_host.proofs.Turns.{lent_turn, lent_open}
use Rattle.wh_host.proofs.turning.turn_lent.Goals as goal

pub turn-requires : goal.turn-requires
turn-requires c =
    let given = c.requires in
    (given.0, given.1, lent_open c.args.linked.now c.args.tenant.now _ given.0 given.2)

pub returns-clause-turns : goal.returns-clause-turns
returns-clause-turns c t some lies =
    let keeps = c.turn.ensures.keeps in
    let back : c.turn.new.memory.memory.now ≡ _ = search rules in
    subst (λ z. TurnsLent c.args.linked.now c.args.page_limit c.args.q c.args.memory.now t c.args.place c.turn.new.self z c.turn.result.0 c.turn.result.1) back
    (lent_turn c.args.linked.now c.args.q c.args.tenant.now c.turn.new.self _ c.turn.new.memory t c.turn.result.0 c.turn.result.1 (record { sound = c.invariant.ensures.sound; keeps = keeps; lies = lies; turns = c.turn.ensures.turns }) some)

pub returns-clause-backing : goal.returns-clause-backing
returns-clause-backing c = search rules

pub returns-clause-steps : goal.returns-clause-steps
returns-clause-steps c = search rules
