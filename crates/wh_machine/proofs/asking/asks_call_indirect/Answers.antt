use Rattle.std.proofs.Common.{◌≡◌, ◌∷◌, ℕ, List, Option, Some, slice_get, ap, sym, subst, ◌∙◌, length, arith}
use Rattle.wh_model.specs.Format.{call_indirect}
use Rattle.wh_syntax.specs.declared.instr.Instr.TheVariants.{CallIndirect}
use Rattle.wh_control.proofs.Constructs.{at_now}
use Rattle.wh_machine.specs.declared.calling.TableElement.{TableElement}
use Rattle.wh_machine.specs.declared.calling.TableElement.TheVariants.{Func}
use Rattle.wh_machine.specs.declared.machine.Stack.{Stack}
use Rattle.wh_machine.specs.Entering.{HasElement}
use Rattle.wh_machine.specs.Looking.{Looks}
use Rattle.wh_machine.specs.Program.{parts_in}
use Rattle.wh_machine.specs.Executing.{IsReady}
use Rattle.wh_machine.proofs.Seeing.{host_looks, index_there, unnamed_asks_nothing, own_entry_asks_nothing, mistyped_asks_nothing, no_entry}
use Rattle.wh_machine.proofs.Finding.{before_indirect, back}
use Rattle.wh_machine.proofs.Hosted.{has_operands}
use Rattle.wh_machine.proofs.OwnCalls.{wanted_there}
use Rattle.wh_machine.proofs.ExecutingLemmas.{here}
use Rattle.wh_machine.proofs.asking.asks_call_indirect.Goals as goal

-- the function that the table names at the topmost word
named : {table seen : List (Option ℕ)} {w top x : ℕ} (e : TableElement) → top ≡ w → seen ≡ table → HasElement seen top e → e ≡ Func x → slice_get table w ≡ Some (Some x)
named {table} {seen} {w} {top} {x} e is same at func = ap (slice_get table) (sym is) ∙ ap (λ t. slice_get t top) (sym same) ∙ subst (HasElement seen top) func at

pub top-requires : goal.top-requires
top-requires g c = let l = ap length (index_there c.args.type_index c.requires.1).2 in omega (arith, l)

pub returns-in_default : goal.returns-in_default
returns-in_default g c =
    let r = c.requires.1 in
    let i = index_there c.args.type_index r in
    let top = c.top.ensures i.0 i.1 i.2 in
    unnamed_asks_nothing c.args.type_index i.0 i.1 r i.2 (λ x at. no_entry c.deref.result.now c.top.result c.element_at.result c.element_at.ensures c.in_default.not-Func x (ap (slice_get c.deref.result.now) top ∙ ap (λ t. slice_get t i.0) c.deref.ensures.value ∙ at))

pub returns-then-index-program : goal.returns-then-index-program
returns-then-index-program g c =
    let r = c.requires.1 in
    let i = index_there c.args.type_index r in
    let entry = named c.element_at.result (c.top.ensures i.0 i.1 i.2) c.deref.ensures.value c.element_at.ensures c.in-Func.is in
    own_entry_asks_nothing c.args.type_index i.0 c.in-Func.func i.1 r i.2 entry c.if-index-program.true

pub host_has_type-requires : goal.host_has_type-requires
host_has_type-requires g c =
    let r = c.requires.1 in
    let st = r.sound.stands in
    let ty = (at_now st.running (call_indirect c.args.type_index) (here r)).op_type in
    wanted_there st c.args.type_index ty.1 ty.3

pub returns-then-not-host_has_type : goal.returns-then-not-host_has_type
returns-then-not-host_has_type g c =
    let r = c.requires.1 in
    let i = index_there c.args.type_index r in
    let entry = named c.element_at.result (c.top.ensures i.0 i.1 i.2) c.deref.ensures.value c.element_at.ensures c.in-Func.is in
    mistyped_asks_nothing c.args.type_index i.0 c.in-Func.func c.host_at-host.result i.1 r i.2 entry c.host_at-host.ensures c.if-not-host_has_type.ensures

pub host_reads_beneath-requires : goal.host_reads_beneath-requires
host_reads_beneath-requires g c =
    let p = parts_in c.args.program.now in
    let m = c.args.stack.now in
    let k = c.args.store.now in
    let flat = g.M.LinearMem.bytes c.args.memory.now in
    let most = g.M.LinearMem.limit c.args.memory.now in
    let y = c.args.type_index in
    let r = c.requires.1 in
    let i = index_there y r in
    let beneath : Stack = record m { words = i.1 } in
    let r2 = subst (λ z. IsReady p c.requires.0 z k flat most (CallIndirect y)) (back m i.1 i.0 i.2) r in
    let u = r2.sound in
    let entry = named c.element_at.result (c.top.ensures i.0 i.1 i.2) c.deref.ensures.value c.element_at.ensures c.in-Func.is in
    (i.0, i.1, i.2, has_operands c.host_at-host.result (before_indirect p beneath c.requires.0 k flat most i.0 c.in-Func.func y c.host_at-host.result r2 entry c.host_at-host.ensures c.if-not-host_has_type.ensures u.context u.inst u.out u.s u.a u.ws u.stands).1)

pub returns : goal.returns
returns g c =
    let code = c.requires.0 in
    let r = c.requires.1 in
    let p = parts_in c.args.program.now in
    let m = c.args.stack.now in
    let k = c.args.store.now in
    let flat = g.M.LinearMem.bytes c.args.memory.now in
    let most = g.M.LinearMem.limit c.args.memory.now in
    let y = c.args.type_index in
    let i = index_there y r in
    let beneath : Stack = record m { words = i.1 } in
    let e = back m i.1 i.0 i.2 in
    let r2 = subst (λ z. IsReady p code z k flat most (CallIndirect y)) e r in
    let entry = named c.element_at.result (c.top.ensures i.0 i.1 i.2) c.deref.ensures.value c.element_at.ensures c.in-Func.is in
    let seen = c.host_reads_beneath.result in
    subst (λ z. Looks p z k flat most seen) (sym e)
    (host_looks c.host_at-host.result p (record beneath { words = i.0 ∷ i.1 }) k flat most (call_indirect y) i.1 seen
    (before_indirect p beneath code k flat most i.0 c.in-Func.func y c.host_at-host.result r2 entry c.host_at-host.ensures c.if-not-host_has_type.ensures) (c.host_reads_beneath.ensures i.0 i.1 i.2))
