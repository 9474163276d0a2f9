use Rattle.std.proofs.Common.{◌≡◌, ◌∙◌, ◌<◌, ◌^◌, Some, slice_get, slice_set, ap, sym, subst, arith, length-set}
use Rattle.std.proofs.lemmas.Option.{slice_get-get_or}
use Rattle.wh_space_model.proofs.Sums.{get_tally, set_tally}
use Rattle.wh_content.specs.Counts.{is_shared, sharers_in}
use Rattle.wh_content.proofs.Summing.{set_small, shared_most, sharers_most}
use Rattle.wh_content.proofs.counted_marks.CountedMarks.set.Goals as goal

pub overflow_sub-self : goal.overflow_sub-self
overflow_sub-self c =
    let i = c.self.invariant in
    let ms = c.self.inside.marks.items in
    let there : slice_get ms c.args.frame ≡ Some c.index-old.result.now = slice_get-get_or ms c.args.frame c.index-old.result.now (rw (← c.self.view_is) at c.requires) ∙ ap Some (sym c.index-old.ensures) in
    let some = get_tally is_shared ms c.args.frame c.index-old.result.now there in
    omega (arith, some, i.shared, c.shared_under.ensures.is)

pub overflow_add-self : goal.overflow_add-self
overflow_add-self c =
    let i = c.self.invariant in
    let ms = c.self.inside.marks.items in
    let there : slice_get ms c.args.frame ≡ Some c.index-old.result.now = slice_get-get_or ms c.args.frame c.index-old.result.now (rw (← c.self.view_is) at c.requires) ∙ ap Some (sym c.index-old.ensures) in
    let shared = set_tally is_shared ms c.args.frame c.index-old.result.now c.args.mark there in
    let some = get_tally is_shared ms c.args.frame c.index-old.result.now there in
    let most = shared_most (slice_set ms c.args.frame c.args.mark) in
    let long = length-set ms c.args.frame c.args.mark in
    omega (arith, shared, some, most, long, i.few, i.shared, c.shared_under.ensures.is, c.shared_under-2.ensures.is)

pub overflow_sub-self-2 : goal.overflow_sub-self-2
overflow_sub-self-2 c =
    let i = c.self.invariant in
    let ms = c.self.inside.marks.items in
    let there : slice_get ms c.args.frame ≡ Some c.index-old.result.now = slice_get-get_or ms c.args.frame c.index-old.result.now (rw (← c.self.view_is) at c.requires) ∙ ap Some (sym c.index-old.ensures) in
    let some = get_tally sharers_in ms c.args.frame c.index-old.result.now there in
    omega (arith, some, i.sharers, c.sharers_under.ensures, c.from.ensures)

pub overflow_add-self-2 : goal.overflow_add-self-2
overflow_add-self-2 c =
    let i = c.self.invariant in
    let most = sharers_most c.self.inside.marks.items i.small in
    omega (arith, most, i.few, i.sharers, c.sharers_under-2.type_inv, c.from-2.ensures)

pub invariant_of-self : goal.invariant_of-self
invariant_of-self c =
    let i = c.self.invariant in
    let ms = c.self.inside.marks.items in
    let there : slice_get ms c.args.frame ≡ Some c.index-old.result.now = slice_get-get_or ms c.args.frame c.index-old.result.now (rw (← c.self.view_is) at c.requires) ∙ ap Some (sym c.index-old.ensures) in
    let shared = set_tally is_shared ms c.args.frame c.index-old.result.now c.args.mark there in
    let sharers = set_tally sharers_in ms c.args.frame c.index-old.result.now c.args.mark there in
    let some = get_tally is_shared ms c.args.frame c.index-old.result.now there in
    let pages = get_tally sharers_in ms c.args.frame c.index-old.result.now there in
    record {
      few = simp length-set i.few;
      small = set_small ms c.args.frame c.args.mark i.small (subst (λ n. n < 2 ^ 32) c.sharers_under-2.ensures c.sharers_under-2.type_inv);
      shared = omega (arith, shared, some, i.shared, c.shared_under.ensures.is, c.shared_under-2.ensures.is);
      sharers = omega (arith, sharers, pages, i.sharers, c.sharers_under.ensures, c.from.ensures, c.sharers_under-2.ensures, c.from-2.ensures);
    }
