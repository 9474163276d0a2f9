use Rattle.std.proofs.Common.{Some, refl, sym, subst, ◌∙◌}
use Rattle.std.proofs.lemmas.Option.{same_Some}
use Rattle.wh_script_model.specs.Texts as texts
use Rattle.wh_script_model.specs.{PrintsLine, PrintsCall}
use Rattle.wh_replies.specs.View.{status_of}
use Rattle.wh_engine.proofs.printing.print_call.Goals as goal

pub returns-in_default : goal.returns-in_default
returns-in_default c instances v number is has =
    let d = c.invoked_now.ensures instances v number is has in
    absurd (c.in_default.not-Some d.0 d.1)

pub returns : goal.returns
returns c instances v number is has =
    let d = c.invoked_now.ensures instances v number is has in
    let status = c.in-Some.status in
    let same = same_Some d.0 status (sym d.1 ∙ c.in-Some.is) in
    let s = c.in_ok-print_line.ensures in
    let line = subst (λ n. PrintsLine (texts.call n) v.last_printed (status_of status) s.0) is.number
    (subst (λ o. PrintsLine (texts.call c.args.invoked.now.number) o (status_of status) s.0) is.last_printed s.1) in
    let says = d.2 s.0 (subst (λ z. PrintsLine (texts.call number) v.last_printed (status_of z) s.0) (sym same) line) in (
      s.0,
      record v { last_printed = Some (status_of status) },
      subst (λ z. PrintsCall instances number v s.0 (record v { last_printed = Some (status_of z) })) same says,
      s.2,
      record { number = is.number; outcome = is.outcome; last_printed = refl },
    )
