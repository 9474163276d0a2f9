use Rattle.std.proofs.Common.{[], length, get_or, ap, subst, arith, rules}
use Rattle.wh_space_model.specs.{Space}
use Rattle.wh_pages.specs.Seeking.{IsFirstFrom}
use Rattle.wh_tables.specs.Tables.{IsSoughtAt}
use Rattle.wh_space.proofs.Choosing.{all_passed, next_leaves, next_passed, none_left, sought_there}
use Rattle.wh_space.proofs.memory.Memory.first_to_leave.Goals as goal

pub returns-in_default : goal.returns-in_default
returns-in_default c =
    let s = c.args.self.now in
    let next = subst (λ (z : Space). IsFirstFrom (IsSoughtAt z.tables z.touched c.args.place c.args.idle) c.loop.from c.next_resident.result) c.self.view_is c.next_resident.ensures in
    none_left s c.args.place c.args.idle c.loop.from c.loop.invariant.passed (subst (IsFirstFrom (IsSoughtAt s.tables s.touched c.args.place c.args.idle) c.loop.from) c.in_default.is next)

pub can_leave-requires : goal.can_leave-requires
can_leave-requires c = search (rules, sought_there)

pub returns-then-can_leave : goal.returns-then-can_leave
returns-then-can_leave c =
    let s = c.args.self.now in
    let next = subst (λ (z : Space). IsFirstFrom (IsSoughtAt z.tables z.touched c.args.place c.args.idle) c.loop.from c.next_resident.result) c.self.view_is c.next_resident.ensures in
    next_leaves s c.args.place c.args.idle c.loop.from c.in-Some.page c.loop.invariant.passed
    (subst (IsFirstFrom (IsSoughtAt s.tables s.touched c.args.place c.args.idle) c.loop.from) c.in-Some.is next) c.if-can_leave.ensures

pub overflow_add-from : goal.overflow_add-from
overflow_add-from c = search (rules, sought_there)

pub loop-preserved : goal.loop-preserved
loop-preserved c =
    let s = c.args.self.now in
    let next = subst (λ (z : Space). IsFirstFrom (IsSoughtAt z.tables z.touched c.args.place c.args.idle) c.loop.from c.next_resident.result) c.self.view_is c.next_resident.ensures in
    let here = subst (IsFirstFrom (IsSoughtAt s.tables s.touched c.args.place c.args.idle) c.loop.from) c.in-Some.is next in
    record {
      passed = next_passed s c.args.place c.args.idle c.loop.from c.in-Some.page c.loop.invariant.passed here c.if-can_leave.ensures;
      far = omega (arith, here.0.1, c.loop.invariant.far);
    }

pub returns : goal.returns
returns c =
    let same = ap (λ (z : Space). length (get_or z.tables c.args.place [])) c.self.view_is in
    all_passed c.args.self.now c.args.place c.args.idle c.loop.from (omega (arith, c.loop-test.false, c.loop.invariant.far, c.len_at-end.ensures, same)) c.loop.invariant.passed
