use Rattle.std.proofs.Common.{subst}
use Rattle.wh_host_model.specs.Host.{IsTurn}
use Rattle.std.specs.Bool.{MatchBool}
use Rattle.wh_host.specs.Paging.{IsGoing}
use Rattle.wh_cell.specs.Going.{has_none, has_turn}
use Rattle.wh_cell.proofs.Alike.{taken_each}
use Rattle.wh_cell.proofs.Asked.{turned_taken}
use Rattle.wh_cell.proofs.Counted.{taken_none}
use Rattle.wh_cell.proofs.taken.counted_turn.Goals as goal

pub returns-then-not-can_go_on-clause-turns : goal.returns-then-not-can_go_on-clause-turns
returns-then-not-can_go_on-clause-turns c w st =
    (w, has_none (subst (λ b. MatchBool b (IsGoing w c.args.id) (¬ (IsGoing w c.args.id))) c.if-not-can_go_on.true (c.can_go_on.ensures w st)), st)

pub returns-then-not-can_go_on-clause-taken : goal.returns-then-not-can_go_on-clause-taken
returns-then-not-can_go_on-clause-taken c =
    let some = c.invariant.ensures in
    taken_each c.args.host.now c.args.host.now some.0 some.0 0 some.1 some.1 (taken_none some.0)

pub returns-clause-turns : goal.returns-clause-turns
returns-clause-turns c w st =
    let x = c.turn-end.ensures.turns w st in (
      x.0,
      has_turn (subst (λ b. MatchBool b (IsGoing w c.args.id) (¬ (IsGoing w c.args.id))) c.if-not-can_go_on.false (c.can_go_on.ensures w st))
          (subst (λ q. IsTurn w c.args.id q c.turn-end.result.0 x.0) c.from.ensures x.1),
      x.3,
    )

pub returns-clause-taken : goal.returns-clause-taken
returns-clause-taken c =
    turned_taken c.args.host.now c.turn-end.new.self c.args.id c.from.result c.turn-end.result.1 c.turn-end.result.0 c.invariant.ensures c.turn-end.ensures.turns
