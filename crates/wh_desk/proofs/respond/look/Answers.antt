use Rattle.std.proofs.Common.{refl, sym, subst}
use Rattle.wh_desk.specs.declared.request.DeskRequest.{DeskRequest}
use Rattle.wh_desk.specs.declared.request.DeskReply.TheVariants as says
use Rattle.wh_desk.specs.Questions.{question_of}
use Rattle.wh_desk.specs.Replying.{HostReplies}
use Rattle.wh_desk.proofs.respond.look.Goals as goal

pub returns-in-Usage : goal.returns-in-Usage
returns-in-Usage c =
    subst (λ (z : DeskRequest). HostReplies c.args.host.now (question_of z) (says.Usage c.usage.result c.counts.result) c.args.host.now) (sym c.in-Usage.is)
    (c.usage.result, c.counts.result, refl, c.usage.ensures, c.counts.ensures, refl)
