use Rattle.std.proofs.Common.{subst, sym, string_bytes}
use Rattle.wh_engine.proofs.Printings.{on_ok_then}
use Rattle.wh_engine.proofs.Runs.{stays_same}
use Rattle.wh_script_model.specs.Commands as asked_of
use Rattle.wh_script.specs.Answering.{Obeys}
use Rattle.wh_params.specs.View.{view_params}
use Rattle.wh_replies.specs.View.{reply_of}
use Rattle.wh_script.proofs.Within.{some_number, no_number}
use Rattle.wh_script.proofs.Obeyed.{module_isnt_there, guest_is_taken, guest_came, is_wanted, some_guest, none_guest}
use Rattle.wh_script.proofs.session.Session.admit.Goals as goal

pub returns-in_default-clause-obeys : goal.returns-in_default-clause-obeys
returns-in_default-clause-obeys g c =
    let e = c.args.self.now.script_host in
    let text = string_bytes c.args.self.now.text in
    let text2 = string_bytes c.complain.new.self.text in
    let p = view_params c.args.given in
    on_ok_then c.complain.result c.complain.ensures.printed (λ printed files.
    subst (λ x. Obeys files c.args.number (asked_of.admit c.args.inst.now c.args.name.now p) e text x text2) (sym c.complain.ensures.script_host)
    (module_isnt_there files c.args.number c.args.inst.now c.args.name.now p e text text2 c.in_default.ensures.named printed))

pub returns-then-is_some-clause-obeys : goal.returns-then-is_some-clause-obeys
returns-then-is_some-clause-obeys g c =
    let e = c.args.self.now.script_host in
    let text = string_bytes c.args.self.now.text in
    let text2 = string_bytes c.complain-then-is_some.new.self.text in
    let p = view_params c.args.given in
    let found = some_number c.instance_number.result c.if-is_some.ensures in
    on_ok_then c.complain-then-is_some.result c.complain-then-is_some.ensures.printed (λ printed files.
    subst (λ x. Obeys files c.args.number (asked_of.admit c.args.inst.now c.args.name.now p) e text x text2) (sym c.complain-then-is_some.ensures.script_host)
    (guest_is_taken files c.args.number c.in-Some.of found.0 c.args.inst.now c.args.name.now p e text text2 c.in-Some.ensures.named
    (λ settings m s. some_guest c.instance_number.result m found.0 c.args.inst.now found.1 (c.instance_number.ensures.named settings m s)) printed))

pub returns-in-Ok-clause-obeys : goal.returns-in-Ok-clause-obeys
returns-in-Ok-clause-obeys g c =
    let e = c.args.self.now.script_host in
    let text = string_bytes c.args.self.now.text in
    let text2 = string_bytes c.reply.new.self.text in
    let p = view_params c.args.given in
    let none = no_number c.instance_number.result c.if-is_some.ensures in
    on_ok_then c.reply.result c.reply.ensures.printed (λ printed files.
    subst (λ x. Obeys files c.args.number (asked_of.admit c.args.inst.now c.args.name.now p) e text x text2) (sym c.reply.ensures.script_host)
    (guest_came files c.args.number c.in-Some.of c.args.inst.now c.args.name.now p (reply_of c.in-Ok.reply) e c.admit.new.self text text2 c.in-Some.ensures.named
    (λ settings m s. none_guest c.instance_number.result m c.args.inst.now none (c.instance_number.ensures.named settings m s)) c.in-Ok.ensures.ok printed))

pub returns-in-Err-clause-obeys : goal.returns-in-Err-clause-obeys
returns-in-Err-clause-obeys g c =
    let e = c.args.self.now.script_host in
    let text = string_bytes c.args.self.now.text in
    let text2 = string_bytes c.complain-in-Err.new.self.text in
    let command = asked_of.admit c.args.inst.now c.args.name.now (view_params c.args.given) in
    on_ok_then c.complain-in-Err.result c.complain-in-Err.ensures.printed (λ printed files.
    subst (λ x. Obeys files c.args.number command e text x text2) (sym c.complain-in-Err.ensures.script_host)
    (is_wanted files c.args.number command e c.admit.new.self text text2 (stays_same e c.admit.new.self c.in-Err.ensures.err) printed))
