use Rattle.std.proofs.Common.{refl, subst, sym, string_bytes}
use Rattle.wh_engine.proofs.Printings.{on_ok_then}
use Rattle.wh_script_model.specs.Commands as asked_of
use Rattle.wh_script.specs.Answering.{Obeys}
use Rattle.wh_script.proofs.Within.{some_number}
use Rattle.wh_script.proofs.Obeyed.{module_is_taken, some_module}
use Rattle.wh_script.proofs.session.Session.module.Goals as goal

pub returns-then-is_some-clause-obeys : goal.returns-then-is_some-clause-obeys
returns-then-is_some-clause-obeys g c =
    let e = c.args.self.now.script_host in
    let text = string_bytes c.args.self.now.text in
    let text2 = string_bytes c.complain.new.self.text in
    let found = some_number c.module_number.result c.if-is_some.ensures in
    on_ok_then c.complain.result c.complain.ensures.printed (λ printed files.
    subst (λ x. Obeys files c.args.number (asked_of.keep c.args.name.now c.args.bytes.now) e text x text2) (sym c.complain.ensures.script_host)
    (module_is_taken files c.args.number found.0 (asked_of.keep c.args.name.now c.args.bytes.now) c.args.name.now e text text2 refl
    (λ settings m s. some_module c.module_number.result m found.0 c.args.name.now found.1 (c.module_number.ensures.named settings m s)) printed))

pub returns-clause-obeys : goal.returns-clause-obeys
returns-clause-obeys g c =
    on_ok_then c.keep.result c.keep.ensures.obeys (λ obeys files.
    obeys files (asked_of.keep c.args.name.now c.args.bytes.now) refl refl)
