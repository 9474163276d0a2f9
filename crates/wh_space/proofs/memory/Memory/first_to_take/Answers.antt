use Rattle.std.proofs.Common.{[], length, get_or, ap, subst, arith}
use Rattle.wh_space_model.specs.{Space}
use Rattle.wh_pages.specs.Seeking.{IsFirstFrom}
use Rattle.wh_tables.specs.Tables.{IsSoughtAt}
use Rattle.wh_space.specs.Claiming.{MightBeTaken}
use Rattle.wh_space.proofs.Choosing.{all_taken, none_of, one_of, passed_of, sought_taking, sought_there}
use Rattle.wh_space.proofs.memory.Memory.first_to_take.Goals as goal

pub returns-in_default : goal.returns-in_default
returns-in_default c =
    let s = c.args.self.now in
    let next = subst (λ (z : Space). IsFirstFrom (IsSoughtAt z.tables z.touched c.args.place c.args.idle) c.loop.from c.next_resident.result) c.self.view_is c.next_resident.ensures in
    none_of (MightBeTaken s c.args.place c.args.idle) (IsSoughtAt s.tables s.touched c.args.place c.args.idle) (sought_taking s c.args.place c.args.idle) c.loop.from c.loop.invariant.passed (subst (IsFirstFrom (IsSoughtAt s.tables s.touched c.args.place c.args.idle) c.loop.from) c.in_default.is next)

pub might_be_taken-requires : goal.might_be_taken-requires
might_be_taken-requires c =
    let s = c.args.self.now in
    let next = subst (λ (z : Space). IsFirstFrom (IsSoughtAt z.tables z.touched c.args.place c.args.idle) c.loop.from c.next_resident.result) c.self.view_is c.next_resident.ensures in
    let here = subst (IsFirstFrom (IsSoughtAt s.tables s.touched c.args.place c.args.idle) c.loop.from) c.in-Some.is next in
    sought_there s c.args.place c.args.idle c.in-Some.page here.0.0

pub returns-then-might_be_taken : goal.returns-then-might_be_taken
returns-then-might_be_taken c =
    let s = c.args.self.now in
    let next = subst (λ (z : Space). IsFirstFrom (IsSoughtAt z.tables z.touched c.args.place c.args.idle) c.loop.from c.next_resident.result) c.self.view_is c.next_resident.ensures in
    one_of (MightBeTaken s c.args.place c.args.idle) (IsSoughtAt s.tables s.touched c.args.place c.args.idle) (sought_taking s c.args.place c.args.idle) c.loop.from c.in-Some.page c.loop.invariant.passed
    (subst (IsFirstFrom (IsSoughtAt s.tables s.touched c.args.place c.args.idle) c.loop.from) c.in-Some.is next) c.if-might_be_taken.ensures

pub overflow_add-from : goal.overflow_add-from
overflow_add-from c =
    let s = c.args.self.now in
    let next = subst (λ (z : Space). IsFirstFrom (IsSoughtAt z.tables z.touched c.args.place c.args.idle) c.loop.from c.next_resident.result) c.self.view_is c.next_resident.ensures in
    let here = subst (IsFirstFrom (IsSoughtAt s.tables s.touched c.args.place c.args.idle) c.loop.from) c.in-Some.is next in
    let less = sought_there s c.args.place c.args.idle c.in-Some.page here.0.0 in
    let same = ap (λ (z : Space). length (get_or z.tables c.args.place [])) c.self.view_is in
    omega (arith, less, c.len_at-end.ensures, same, c.len_at-end.type_inv)

pub loop-preserved : goal.loop-preserved
loop-preserved c =
    let s = c.args.self.now in
    let next = subst (λ (z : Space). IsFirstFrom (IsSoughtAt z.tables z.touched c.args.place c.args.idle) c.loop.from c.next_resident.result) c.self.view_is c.next_resident.ensures in
    let here = subst (IsFirstFrom (IsSoughtAt s.tables s.touched c.args.place c.args.idle) c.loop.from) c.in-Some.is next in
    record {
      passed = passed_of (MightBeTaken s c.args.place c.args.idle) (IsSoughtAt s.tables s.touched c.args.place c.args.idle) (sought_taking s c.args.place c.args.idle) c.loop.from c.in-Some.page c.loop.invariant.passed here c.if-might_be_taken.ensures;
      far = omega (arith, here.0.1, c.loop.invariant.far);
    }

pub returns : goal.returns
returns c =
    let s = c.args.self.now in
    let same = ap (λ (z : Space). length (get_or z.tables c.args.place [])) c.self.view_is in
    all_taken s c.args.place c.args.idle c.loop.from (omega (arith, c.loop-test.false, c.loop.invariant.far, c.len_at-end.ensures, same)) c.loop.invariant.passed
