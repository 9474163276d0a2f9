use Rattle.std.proofs.Common.{refl, ◌∙◌, arith}
use Rattle.wh_space.specs.declared.memory.Memory.TheInside.{Inside}
use Rattle.wh_space.proofs.Charged.{guest_at, occupant_by, occupant_of_guest, shares_few}
use Rattle.wh_space.proofs.memory.Memory.claim_at.Goals as goal

pub claim_by-requires-clause-shares : goal.claim_by-requires-clause-shares
claim_by-requires-clause-shares c =
    let a : Inside = c.self.inside in
    let is = guest_at a.occupant_entries.items c.args.place c.at.result c.in-Some.occupant_entry (omega (arith, c.if-place-len.false, c.len.ensures)) c.at.ensures.entry c.in-Some.is in
    shares_few a c.args.place c.in-Some.occupant_entry c.self.invariant is

pub returns-clause-some : goal.returns-clause-some
returns-clause-some c =
    let a : Inside = c.self.inside in
    let is = guest_at a.occupant_entries.items c.args.place c.at.result c.in-Some.occupant_entry (omega (arith, c.if-place-len.false, c.len.ensures)) c.at.ensures.entry c.in-Some.is in
    let e = c.claim_by.ensures in (
      occupant_by c.in-Some.occupant_entry,
      rw (← c.self.view_is) (occupant_of_guest a c.args.place c.in-Some.occupant_entry is),
      refl,
      record {
        shares = e.shares;
        min = e.min;
        pages = e.pages ∙ c.charged_at-pages.ensures.charged;
        active = e.active ∙ c.charged_at-pages.ensures.touched;
        leaves = e.leaves;
      },
    )
