use Rattle.std.proofs.Common.{rules, ◌<◌, ◌^◌, map, refl, sym, ap, subst, ◌∙◌}
use Rattle.wh_model.specs.Execution.{AreGiven, fragments, with_pieces}
use Rattle.wh_syntax.specs.declared.module.Module.{Module}
use Rattle.wh_syntax.specs.View.{view_module}
use Rattle.wh_bodies.specs.View.{view_side}
use Rattle.wh_validate.specs.CheckedBodies.{IsChecked}
use Rattle.wh_imports.specs.Resolving.{IsResolved}
use Rattle.wh_initial.specs.Given.{view_parameters}
use Rattle.wh_initial.specs.Begins.{first_store}
use Rattle.wh_machine.specs.MachineRuns.{linked_parts, RepresentsInstance}
use Rattle.wh_alone.specs.InstanceStates.{Kept}
use Rattle.wh_alone.specs.Journal.{IsAtStanding}
use Rattle.wh_alone.specs.FirstStages.{IsFresh}
use Rattle.wh_alone.proofs.Present.{record_of}
use Rattle.wh_alone.proofs.Fresh.{begun_at}
use Rattle.std.specs.List.{AllByRecursion}
use Rattle.wh_call.proofs.Starting.{start_called}
use Rattle.wh_alone.proofs.Beginning.{pieces_ready, stands_written}
use Rattle.wh_alone.proofs.instance.Instance.new.Goals as goal

pub write_segments-requires : goal.write_segments-requires
write_segments-requires c =
    let l = c.in_ok-linked.linked in
    let b = c.in-Ok.ensures.ok in
    let ready = pieces_ready l (view_parameters c.args.parameters) c.in-Ok.begun b c.deref-2.result.now c.deref-3.result.now c.in-Ok-new-2.memory.bytes (c.deref-2.ensures.value ∙ ap (λ (m : Module). m.segments.items) c.module.ensures.same) c.deref-3.ensures.value c.in-Ok-new-2.ensures.bytes in
    (b.segments, ready.0, ready.1)

pub invariant_of-result : goal.invariant_of-result
invariant_of-result c =
    let l = c.in_ok-linked.linked in
    let p = view_parameters c.args.parameters in
    let b = c.in-Ok.ensures.ok in
    let same = c.module.ensures.same in
    let sound = subst (λ m. IsChecked (view_module m) (map view_side l.valid.tables)) same c.module.ensures.sound in
    let resolved = subst (λ m. IsResolved (view_module m) l.funcs l.globals) same c.module.ensures.resolved in
    let flat = c.in-Ok-new-2.memory.bytes in
    let flat2 = c.write_segments.new.memory.bytes in
    let ready = pieces_ready l p c.in-Ok.begun b c.deref-2.result.now c.deref-3.result.now flat (c.deref-2.ensures.value ∙ ap (λ (m : Module). m.segments.items) same) c.deref-3.ensures.value c.in-Ok-new-2.ensures.bytes in
    let written = c.write_segments.ensures.bytes b.segments ready.0 ready.1 in
    let limit = c.write_segments.ensures.limit ∙ c.in-Ok-new-2.ensures.limit in
    let first = first_store (view_module l.valid.decoded) p b.globals b.elements in
    let around = subst (λ n. RepresentsInstance (linked_parts l) c.in-Ok.begun.store flat2 n sound.context b.inst (with_pieces first (fragments b.segments))) (sym limit) (stands_written l sound resolved p c.in-Ok.begun b flat flat2 c.in-Ok-new-2.ensures.bytes written) in
    let k : Kept = record { linked = l; store = c.in-Ok.begun.store; memory = c.write_segments.new.memory; machine = c.in-Ok-new.machine } in
    let base : p.base < 2 ^ 32 = search rules in
    let salt : p.salt < 2 ^ 64 = search rules in
    let given : AreGiven p = record { base = base; salt = salt; inputs = subst (AllByRecursion (λ n. n < 2 ^ 64)) c.deref.ensures.value c.are_words.ensures } in
    let start = c.module-2.result.now.start in
    let x = begun_at k (view_module l.valid.decoded) p b.inst first (fragments b.segments) start refl given b.is_initial (sound.context, around) (ap (λ (m : Module). m.start) (sym c.module-2.ensures.same))
    (λ y e. start_called (view_module l.valid.decoded) (linked_parts l) sound.context b.inst y sound.valid around.instance (ap (λ (m : Module). m.start) (sym c.module-2.ensures.same) ∙ e)) in
    let is_at = subst (λ s. IsAtStanding (record_of k s) (view_module l.valid.decoded) p x.ended x.current x.z) (sym c.first_stage-stage.ensures) x.is_at in
    record { m = view_module l.valid.decoded; p = p; ended = x.ended; current = x.current; z = x.z; is_at = is_at }

pub returns-clause-ok : goal.returns-clause-ok
returns-clause-ok c =
    let l = c.in_ok-linked.linked in
    let p = view_parameters c.args.parameters in
    let b = c.in-Ok.ensures.ok in
    let same = c.module.ensures.same in
    let sound = subst (λ m. IsChecked (view_module m) (map view_side l.valid.tables)) same c.module.ensures.sound in
    let resolved = subst (λ m. IsResolved (view_module m) l.funcs l.globals) same c.module.ensures.resolved in
    let flat = c.in-Ok-new-2.memory.bytes in
    let flat2 = c.write_segments.new.memory.bytes in
    let ready = pieces_ready l p c.in-Ok.begun b c.deref-2.result.now c.deref-3.result.now flat (c.deref-2.ensures.value ∙ ap (λ (m : Module). m.segments.items) same) c.deref-3.ensures.value c.in-Ok-new-2.ensures.bytes in
    let written = c.write_segments.ensures.bytes b.segments ready.0 ready.1 in
    let limit = c.write_segments.ensures.limit ∙ c.in-Ok-new-2.ensures.limit in
    let first = first_store (view_module l.valid.decoded) p b.globals b.elements in
    let around = subst (λ n. RepresentsInstance (linked_parts l) c.in-Ok.begun.store flat2 n sound.context b.inst (with_pieces first (fragments b.segments))) (sym limit) (stands_written l sound resolved p c.in-Ok.begun b flat flat2 c.in-Ok-new-2.ensures.bytes written) in
    let k : Kept = record { linked = l; store = c.in-Ok.begun.store; memory = c.write_segments.new.memory; machine = c.in-Ok-new.machine } in
    let base : p.base < 2 ^ 32 = search rules in
    let salt : p.salt < 2 ^ 64 = search rules in
    let given : AreGiven p = record { base = base; salt = salt; inputs = subst (AllByRecursion (λ n. n < 2 ^ 64)) c.deref.ensures.value c.are_words.ensures } in
    let x = begun_at k (view_module l.valid.decoded) p b.inst first (fragments b.segments) c.module-2.result.now.start refl given b.is_initial (sound.context, around) (ap (λ (m : Module). m.start) (sym c.module-2.ensures.same))
    (λ y e. start_called (view_module l.valid.decoded) (linked_parts l) sound.context b.inst y sound.valid around.instance (ap (λ (m : Module). m.start) (sym c.module-2.ensures.same) ∙ e)) in
    let is_at = subst (λ s. IsAtStanding (record_of k s) (view_module l.valid.decoded) p x.ended x.current x.z) (sym c.first_stage-stage.ensures) x.is_at in
    record { m = view_module l.valid.decoded; accepted = c.in_ok-linked.ensures.ok; ended = x.ended; current = x.current; z = x.z; is_at = is_at; fresh = subst (λ s. IsFresh s x.ended x.current) (ap (λ (m : Module). m.start) c.module-2.ensures.same) x.fresh }
