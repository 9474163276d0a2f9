use Rattle.std.proofs.Common.{◌∙◌, sym, rules}
use Rattle.wh_space.specs.Parts.{space_of}
use Rattle.wh_space.proofs.Wants.{shared_taken_by, wants_copy, wants_none, wants_none_of, wants_zeros}
use Rattle.wh_space.proofs.memory.Memory.wanted.Goals as goal

pub sharers_of-requires : goal.sharers_of-requires
sharers_of-requires c =
    rw (← c.self.view_is) (shared_taken_by (space_of c.self.inside) c.args.place c.args.number c.in-Some.frame c.page-page.result c.self.invariant.sound c.page-page.ensures (sym c.shared_under.ensures ∙ c.in-Some.is)).0

pub returns-then-sharers_of-gt1-clause-count : goal.returns-then-sharers_of-gt1-clause-count
returns-then-sharers_of-gt1-clause-count c = search (rules, wants_copy)

pub returns-in-Some-clause-count : goal.returns-in-Some-clause-count
returns-in-Some-clause-count c = search (rules, wants_none_of)

pub returns-in-Untouched-clause-count : goal.returns-in-Untouched-clause-count
returns-in-Untouched-clause-count c = search (rules, wants_zeros)

pub returns-clause-count : goal.returns-clause-count
returns-clause-count c = search (rules, wants_none)
