use Rattle.std.proofs.Common.{refl, subst, sym, string_bytes}
use Rattle.wh_engine.proofs.Printings.{on_ok_then}
use Rattle.wh_script_model.specs.Commands as asked_of
use Rattle.wh_script.specs.Answering.{Obeys}
use Rattle.wh_script.proofs.Within.{some_number, no_number}
use Rattle.wh_script.proofs.Obeyed.{module_is_taken, no_such_file, is_wanted, some_module, none_module}
use Rattle.wh_script.proofs.session.Session.load.Goals as goal

pub returns-then-is_some-clause-obeys : goal.returns-then-is_some-clause-obeys
returns-then-is_some-clause-obeys g c =
    let e = c.args.self.now.script_host in
    let text = string_bytes c.args.self.now.text in
    let text2 = string_bytes c.complain.new.self.text in
    let files = g.S.Source.files c.args.source.now in
    let command = asked_of.load c.args.name.now c.args.path.now in
    let found = some_number c.module_number.result c.if-is_some.ensures in
    on_ok_then c.complain.result c.complain.ensures.printed (λ printed.
    subst (λ x. Obeys files c.args.number command e text x text2) (sym c.complain.ensures.script_host)
    (module_is_taken files c.args.number found.0 command c.args.name.now e text text2 refl
    (λ settings m s. some_module c.module_number.result m found.0 c.args.name.now found.1 (c.module_number.ensures.named settings m s)) printed))

pub returns-in-Err-Unreadable-clause-obeys : goal.returns-in-Err-Unreadable-clause-obeys
returns-in-Err-Unreadable-clause-obeys g c =
    let e = c.args.self.now.script_host in
    let text = string_bytes c.args.self.now.text in
    let text2 = string_bytes c.complain-in-Err-Unreadable.new.self.text in
    let files = g.S.Source.files c.args.source.now in
    let command = asked_of.load c.args.name.now c.args.path.now in
    let none = no_number c.module_number.result c.if-is_some.ensures in
    on_ok_then c.complain-in-Err-Unreadable.result c.complain-in-Err-Unreadable.ensures.printed (λ printed.
    subst (λ x. Obeys files c.args.number command e text x text2) (sym c.complain-in-Err-Unreadable.ensures.script_host)
    (no_such_file files c.args.number c.args.name.now c.args.path.now e text text2
    (λ settings m s. none_module c.module_number.result m c.args.name.now none (c.module_number.ensures.named settings m s)) (c.in-Err-Unreadable.ensures.none c.in-Err-Unreadable.field-0-is) printed))

pub returns-in-Err-Memory-clause-obeys : goal.returns-in-Err-Memory-clause-obeys
returns-in-Err-Memory-clause-obeys g c =
    let e = c.args.self.now.script_host in
    let text = string_bytes c.args.self.now.text in
    let text2 = string_bytes c.complain-in-Err-Memory.new.self.text in
    let files = g.S.Source.files c.args.source.now in
    let command = asked_of.load c.args.name.now c.args.path.now in
    on_ok_then c.complain-in-Err-Memory.result c.complain-in-Err-Memory.ensures.printed (λ printed.
    subst (λ x. Obeys files c.args.number command e text x text2) (sym c.complain-in-Err-Memory.ensures.script_host)
    (is_wanted files c.args.number command e e text text2 (λ settings m s. s) printed))
