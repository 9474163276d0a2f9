use Rattle.std.proofs.Common.{Some, slice_set, inl, refl, sym, subst, ◌∙◌}
use Rattle.wh_host.specs.TicketsOut.{HasKept, KeepsFault}
use Rattle.wh_host.proofs.Paged.{keeps_fault}
use Rattle.wh_host.proofs.transit.keep_fault.Goals as goal

pub returns : goal.returns
returns c =
    let rs = c.args.entries.now.slots in
    let x = c.in-Some-get_mut.entry.now in
    let rs2 = slice_set rs c.args.id.place (Some (record x { tenant = c.fail.new.self })) in
    let keeps = keeps_fault x.tenant c.fail.new.self c.in-Some.fault c.fail.result c.fail.ensures.some c.fail.ensures.none c.if-not-awaits_frame.ensures in
    let kept : HasKept rs c.args.id c.args.call c.in-Some.fault rs2 = record {
      entry = x;
      there = sym c.in-Some-get_mut.ensures.value;
      number = c.if-not-has_number.ensures;
      tenant = c.fail.new.self;
      keeps = λ l limit bytes t is. let k = keeps l limit bytes t is in ((k.0, c.present_call.ensures l limit bytes t is ∙ c.if-present_call-call.false), k.1);
      after = refl;
    } in
    subst (λ f. KeepsFault rs c.args.id c.args.call f rs2) (sym c.in-Some.is) (inl kept)
