use Rattle.std.proofs.Common.{◌∙◌, ◌++◌, refl, ap, subst, sym, string_bytes}
use Rattle.wh_engine.proofs.Printings.{on_ok_then}
use Rattle.wh_script_model.specs.Commands as asked_of
use Rattle.wh_script.specs.Answering.{Obeys}
use Rattle.wh_script_model.specs.{release_ok, release_refused, reply_text}
use Rattle.wh_host.specs.CallRequests.{host_number}
use Rattle.wh_script.proofs.Obeyed.{guest_isnt_there, guest_obeyed}
use Rattle.wh_script.proofs.session.Session.release.Goals as goal

pub returns-in_default-clause-obeys : goal.returns-in_default-clause-obeys
returns-in_default-clause-obeys g c =
    let e = c.args.self.now.script_host in
    let text = string_bytes c.args.self.now.text in
    let text2 = string_bytes c.complain.new.self.text in
    let command = asked_of.release c.args.inst.now in
    on_ok_then c.complain.result c.complain.ensures.printed (λ printed files.
    subst (λ x. Obeys files c.args.number command e text x text2) (sym c.complain.ensures.script_host)
    (guest_isnt_there files c.args.number command c.args.inst.now e text text2 refl c.in_default.ensures.named printed))

pub returns-in-Ok-clause-obeys : goal.returns-in-Ok-clause-obeys
returns-in-Ok-clause-obeys g c =
    let e = c.args.self.now.script_host in
    let text = string_bytes c.args.self.now.text in
    let text2 = string_bytes c.print_released.new.self.text in
    let inst = c.args.inst.now in
    let command = asked_of.release inst in
    on_ok_then c.print_released.result c.print_released.ensures.printed (λ printed files.
    subst (λ x. Obeys files c.args.number command e text x text2) (sym c.print_released.ensures.script_host)
    (guest_obeyed files c.args.number command (release_ok inst c.in-Ok.output.items) e c.release.new.self text text2
    (λ settings m s. c.in-Ok.ensures.obeys settings files c.args.number m inst s (c.in-Some.ensures.named settings m s))
    (printed ∙ ap (λ o. text ++ reply_text (release_ok inst o)) c.deref.ensures.value)))

pub returns-in-Err-clause-obeys : goal.returns-in-Err-clause-obeys
returns-in-Err-clause-obeys g c =
    let e = c.args.self.now.script_host in
    let text = string_bytes c.args.self.now.text in
    let text2 = string_bytes c.reply.new.self.text in
    let inst = c.args.inst.now in
    let command = asked_of.release inst in
    on_ok_then c.reply.result c.reply.ensures.printed (λ printed files.
    subst (λ x. Obeys files c.args.number command e text x text2) (sym c.reply.ensures.script_host)
    (guest_obeyed files c.args.number command (release_refused inst (host_number c.in-Err.error)) e c.release.new.self text text2
    (λ settings m s. c.in-Err.ensures.obeys settings files c.args.number m inst s (c.in-Some.ensures.named settings m s))
    (printed ∙ ap (λ n. text ++ reply_text (release_refused inst n)) c.number.ensures)))
