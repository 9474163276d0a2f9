use Rattle.std.proofs.Common.{◌∙◌, ◌++◌, ap, subst, sym, string_bytes}
use Rattle.wh_engine.proofs.Printings.{on_ok_then}
use Rattle.wh_engine.specs.Obeying.{reply_to_action}
use Rattle.wh_commands.specs.ParsedCommands.{action_of}
use Rattle.wh_script_model.specs.Texts.{reply_text}
use Rattle.wh_script.specs.Answering.{Obeys}
use Rattle.wh_script.proofs.Obeyed.{action_for, guest_isnt_there, guest_obeyed}
use Rattle.wh_script.proofs.session.Session.act.Goals as goal

pub returns-in_default-clause-obeys : goal.returns-in_default-clause-obeys
returns-in_default-clause-obeys g c =
    let e = c.args.self.now.script_host in
    let text = string_bytes c.args.self.now.text in
    let text2 = string_bytes c.complain.new.self.text in
    let command = action_of c.args.inst.now c.args.action in
    on_ok_then c.complain.result c.complain.ensures.printed (λ printed files.
    subst (λ x. Obeys files c.args.number command e text x text2) (sym c.complain.ensures.script_host)
    (guest_isnt_there files c.args.number command c.args.inst.now e text text2 (action_for c.args.inst.now c.args.action) c.in_default.ensures.named printed))

pub returns-clause-obeys : goal.returns-clause-obeys
returns-clause-obeys g c =
    let e = c.args.self.now.script_host in
    let text = string_bytes c.args.self.now.text in
    let text2 = string_bytes c.reply.new.self.text in
    let command = action_of c.args.inst.now c.args.action in
    let reply = reply_to_action c.args.inst.now c.args.action c.ask-answer.result in
    on_ok_then c.reply.result c.reply.ensures.printed (λ printed files.
    subst (λ x. Obeys files c.args.number command e text x text2) (sym c.reply.ensures.script_host)
    (guest_obeyed files c.args.number command reply e c.ask-answer.new.self text text2
    (λ settings m s. c.ask-answer.ensures.obeys settings files c.args.number m c.args.inst.now s (c.in-Some.ensures.named settings m s))
    (printed ∙ ap (λ r. text ++ reply_text r) c.reply_to.ensures)))
