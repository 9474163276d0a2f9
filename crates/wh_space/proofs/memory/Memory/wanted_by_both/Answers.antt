use Rattle.std.proofs.Common.{◌+◌, List, [], get_or, subst, rules, arith}
use Rattle.wh_space_model.specs.{IsSound}
use Rattle.wh_space_model.specs.declared.states.Page.{Page}
use Rattle.wh_space_model.proofs.Rooms.{get_there}
use Rattle.wh_space.specs.Steps.{SharesAlone}
use Rattle.wh_space.proofs.Wants.{both_alone, both_apart}
use Rattle.wh_space.proofs.memory.Memory.wanted_by_both.Goals as goal

pub overflow_sub-result : goal.overflow_sub-result
overflow_sub-result c = search (rules, both_alone)

pub returns-then-share_alone : goal.returns-then-share_alone
returns-then-share_alone c = search (rules, both_alone)

pub returns-else-share_alone : goal.returns-else-share_alone
returns-else-share_alone c =
    let s = c.args.self.now in
    let i = c.args.place in
    let p = c.args.number in
    let row : List Page = get_or s.tables i [] in
    let x = get_there row p (omega arith) in
    let y = get_there row (p + 1) c.requires.page in
    let apart : ¬ SharesAlone s i p (p + 1) = (search rules) in
    let both = both_apart s i p x.0 y.0 (subst IsSound c.self.view_is c.self.invariant.sound) x.1 y.1 apart in
    let a = c.wanted.ensures.count in
    let b = c.wanted-2.ensures.count in
    omega arith
