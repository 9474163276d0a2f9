use Rattle.std.proofs.Common.{sym, subst, arith}
use Rattle.std.specs.List.{filter}
use Rattle.wh_host.specs.Paging.{IsGoing, Tells}
use Rattle.wh_hand.specs.Lining.{IsToSettle, Lists, differs}
use Rattle.wh_hand.proofs.Goers.{room_to_settle, settled_in, settled_out, settled_so, told_not, told_same, told_so}
use Rattle.wh_hand.proofs.Standing.{without}
use Rattle.wh_hand.proofs.line.settle.Goals as goal

pub returns-then-goes-stands-clause-lists : goal.returns-then-goes-stands-clause-lists
returns-then-goes-stands-clause-lists c =
    let h = c.args.host.now in
    let same = told_same c.can_go_on-goes.result c.args.stands c.if-goes-stands.true in
    settled_so h c.args.line.now.items c.args.id c.args.stands c.invariant.ensures c.requires.settles
    (subst (λ b. Tells h b (λ w. IsGoing w c.args.id)) same c.can_go_on-goes.ensures)

pub returns-then-stands-clause-lists : goal.returns-then-stands-clause-lists
returns-then-stands-clause-lists c =
    let h = c.args.host.now in
    let line = c.args.line.now.items in
    let rests = told_not c.can_go_on-goes.result c.args.stands c.if-goes-stands.false c.if-stands.true in
    subst (Lists h) (sym c.leave.ensures.items)
    (settled_out h line (filter (differs c.args.id) line) c.args.id c.args.stands c.invariant.ensures c.requires.settles
    (subst (λ b. Tells h b (λ w. IsGoing w c.args.id)) rests c.can_go_on-goes.ensures) (without c.args.id line))

pub push_back_reserved-requires : goal.push_back_reserved-requires
push_back_reserved-requires c =
    let less = room_to_settle c.args.host.now c.args.line.now.items c.args.id c.invariant.ensures
    (subst (IsToSettle c.args.host.now c.args.line.now.items c.args.id) c.if-stands.false c.requires.settles)
    (subst (λ b. Tells c.args.host.now b (λ w. IsGoing w c.args.id))
    (told_so c.can_go_on-goes.result c.args.stands c.if-goes-stands.false c.if-stands.false) c.can_go_on-goes.ensures) in
    omega (arith, less, c.args.line.now.ok.0, c.requires.few, c.requires.room)

pub returns-clause-lists : goal.returns-clause-lists
returns-clause-lists c =
    let h = c.args.host.now in
    let line = c.args.line.now.items in
    subst (Lists h) (sym c.push_back_reserved.ensures.items)
    (settled_in h line c.args.id c.invariant.ensures
    (subst (IsToSettle h line c.args.id) c.if-stands.false c.requires.settles)
    (subst (λ b. Tells h b (λ w. IsGoing w c.args.id))
    (told_so c.can_go_on-goes.result c.args.stands c.if-goes-stands.false c.if-stands.false) c.can_go_on-goes.ensures))
