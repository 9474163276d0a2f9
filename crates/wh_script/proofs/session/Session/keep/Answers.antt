use Rattle.std.proofs.Common.{subst, sym, string_bytes}
use Rattle.wh_engine.proofs.Printings.{on_ok_then}
use Rattle.wh_engine.proofs.Runs.{stays_same}
use Rattle.wh_script.specs.Answering.{Obeys}
use Rattle.std.proofs.Common.{None}
use Rattle.wh_replies.specs.View.{reply_of}
use Rattle.wh_engine.proofs.LookedUp.{module_named}
use Rattle.wh_script.proofs.Obeyed.{module_came, is_wanted}
use Rattle.wh_script.proofs.session.Session.keep.Goals as goal

pub returns-in-Ok-clause-obeys : goal.returns-in-Ok-clause-obeys
returns-in-Ok-clause-obeys g c =
    let e = c.args.self.now.script_host in
    let text = string_bytes c.args.self.now.text in
    let text2 = string_bytes c.reply.new.self.text in
    on_ok_then c.reply.result c.reply.ensures.printed (λ printed files asked names brings.
    subst (λ x. Obeys files c.args.number asked e text x text2) (sym c.reply.ensures.script_host)
    (module_came files c.args.number asked c.args.name.now c.args.bytes.now (reply_of c.in-Ok.reply) e c.keep.new.self text text2
    (λ settings m s. module_named e.module_names m c.args.name.now None s.stands.module_names (sym c.requires.free)) names brings c.in-Ok.ensures.ok printed))

pub returns-in-Err-clause-obeys : goal.returns-in-Err-clause-obeys
returns-in-Err-clause-obeys g c =
    let e = c.args.self.now.script_host in
    let text = string_bytes c.args.self.now.text in
    let text2 = string_bytes c.complain.new.self.text in
    on_ok_then c.complain.result c.complain.ensures.printed (λ printed files asked names brings.
    subst (λ x. Obeys files c.args.number asked e text x text2) (sym c.complain.ensures.script_host)
    (is_wanted files c.args.number asked e c.keep.new.self text text2 (stays_same e c.keep.new.self c.in-Err.ensures.err) printed))
