use Rattle.std.proofs.Common.{map, subst, ◌∙◌}
use Rattle.wh_syntax.specs.View.{view_module}
use Rattle.wh_bodies.specs.View.{view_side}
use Rattle.wh_validate.specs.CheckedBodies.{IsChecked}
use Rattle.wh_imports.specs.Resolving.{IsResolved}
use Rattle.wh_initial.specs.Begins.{first_store}
use Rattle.bench_machine.proofs.Callable.{represented}
use Rattle.bench_machine.proofs.calls.time_on.Goals as goal

pub call-end-requires : goal.call-end-requires
call-end-requires g c =
    let l = c.args.linked.now in
    let given = c.requires.begun.0 in
    let b = c.requires.begun.1 in
    let same = c.module-module.ensures.same in
    let sound = subst (λ m. IsChecked (view_module m) (map view_side l.valid.tables)) same c.module-module.ensures.sound in
    let resolved = subst (λ m. IsResolved (view_module m) l.funcs l.globals) same c.module-module.ensures.resolved in
    let memory = c.write_segments.new.memory in
    let flat = g.M.LinearMem.bytes memory in
    let around = represented l sound resolved given c.args.begun.now b flat (g.M.LinearMem.limit memory) (c.write_segments.ensures ∙ c.requires.limit) in
    let suits = c.if-not-can_call.ensures sound.context b.inst around.instance in
    record { context = sound.context; inst = b.inst; s = record (first_store (view_module l.valid.decoded) given b.globals b.elements) { bytes = flat }; around = around; type = suits.0; body = suits.1; vs = suits.2; suits = suits.3 }
