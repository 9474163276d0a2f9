use Rattle.std.proofs.Common.{sym, subst}
use Rattle.wh_space_model.specs.{IsBeside, Space}
use Rattle.wh_space.specs.Parts.{space_of}
use Rattle.wh_space.proofs.Besides.{IsPast, last_beside, none_beside}
use Rattle.wh_space.proofs.memory.Memory.last_beside.Goals as goal

pub returns-then-is_beside : goal.returns-then-is_beside
returns-then-is_beside c =
    let a = c.self.inside in
    let past = subst (λ o. IsPast (space_of a) a.tables.numbers c.args.place c.args.need c.args.frame o) c.in-Some.is c.loop-at.invariant in
    let beside = subst (λ (z : Space). IsBeside z c.args.place c.args.need c.args.frame c.in-Some.id.place c.in-Some.id.page) (sym c.self.view_is) c.if-is_beside.ensures in
    rw (← c.self.view_is) (last_beside a c.args.place c.args.need c.args.frame c.in-Some.id c.self.invariant past beside)

pub returns : goal.returns
returns c =
    let a = c.self.inside in
    let past = subst (λ o. IsPast (space_of a) a.tables.numbers c.args.place c.args.need c.args.frame o) c.in_default.is c.loop-at.invariant in
    rw (← c.self.view_is) (none_beside (space_of a) a.tables.numbers c.args.place c.args.need c.args.frame past)
