use Rattle.std.proofs.Common.{◌≡◌, sym, subst}
use Rattle.wh_desk.specs.declared.request.DeskReply.{DeskReply}
use Rattle.wh_desk.specs.Permits.{owned_after, ownership_of}
use Rattle.wh_desk.specs.Questions.{question_of}
use Rattle.wh_desk.proofs.Owning.{refused_owns}
use Rattle.wh_desk.proofs.respond.respond.Goals as goal

-- a refusal gives nobody anything
pub returns-then-not-permits-clause-owned : goal.returns-then-not-permits-clause-owned
returns-then-not-permits-clause-owned g c =
    let question = question_of c.args.request in
    let owned = ownership_of c.args.ownership.now in
    subst (λ (z : DeskReply). owned ≡ owned_after c.args.who question z owned) (sym c.refuse.ensures) (sym (refused_owns c.args.who question owned))
