use Rattle.std.proofs.Common.{◌≡◌, Some, sym, ap, ◌∙◌, arith, rules}
use Rattle.wh_space_model.specs.{Space, page_at}
use Rattle.wh_space.specs.Steps.{frame_shared}
use Rattle.wh_space.proofs.Besides.{sheds_few, within_pool}
use Rattle.wh_space.proofs.memory.Memory.shed_for.Goals as goal

pub is_charged_with-requires : goal.is_charged_with-requires
is_charged_with-requires c = search (rules, within_pool)

pub sharers_of-requires : goal.sharers_of-requires
sharers_of-requires c = search (rules, within_pool)

pub last_beside-requires-clause-frame : goal.last_beside-requires-clause-frame
last_beside-requires-clause-frame c = search (rules, within_pool)

pub returns-then-sharers_of-sharing_among : goal.returns-then-sharers_of-sharing_among
returns-then-sharers_of-sharing_among c =
    let s : Space = c.args.self.now in
    let there : page_at s.tables c.args.place c.args.number ≡ Some c.page.result = ap (λ (z : Space). page_at z.tables c.args.place c.args.number) (sym c.self.view_is) ∙ c.page.ensures in
    let shared : frame_shared c.page.result ≡ Some c.in-Some.frame = sym c.shared_under.ensures ∙ c.in-Some.is in
    let few = c.if-sharers_of-sharing_among.true in
    let n = c.sharers_of.ensures in
    let m = c.sharing_among.ensures in
    sheds_few s c.args.place c.args.need c.args.number c.in-Some.frame c.page.result there shared (omega arith)
