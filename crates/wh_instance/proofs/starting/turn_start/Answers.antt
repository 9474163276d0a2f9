use Rattle.std.proofs.Common.{◌≡◌, ℕ, List, [], None, Some, sym, ap, subst, ◌∙◌}
use Rattle.wh_syntax.specs.declared.module.Data.{Data}
use Rattle.wh_syntax.specs.declared.module.Module.{Module}
use Rattle.wh_machine.specs.CallStates.{setting_of, call_state}
use Rattle.wh_instance.specs.Pieces.{pieces_left, HasWritten, NextWaits}
use Rattle.wh_instance.specs.Computed.{ComputesWithin}
use Rattle.wh_instance.proofs.Beginnings.{other_bytes, can_begin, has_begun, waits_now, ends_now, started_now}
use Rattle.wh_instance.proofs.starting.turn_start.Goals as goal

pub returns-in-Some-clause-turns : goal.returns-in-Some-clause-turns
returns-in-Some-clause-turns g c inst call r func given st =
    let bytes = g.M.LinearMem.bytes in
    let ready = g.M.LinearMem.ready in
    let keeps = g.M.LinearMem.keeps in
    let w = setting_of c.args.linked.now bytes ready keeps (g.M.LinearMem.limit c.args.memory.now) in
    let p = c.write_pieces-pieces in
    let places = c.args.places.now in
    let ds = c.args.linked.now.valid.decoded.segments.items in
    let same : c.as_slice.result.now ≡ ds = c.as_slice.ensures.value ∙ ap (λ (m : Module). m.segments.items) c.module-module.ensures.same in
    let written = subst (λ (z : List Data). HasWritten bytes ready keeps (pieces_left z places c.args.cursor.now) c.args.memory.now p.result.0 (pieces_left z places p.new.cursor) p.new.memory) same p.ensures.written in
    let waits = subst (λ (z : List Data). NextWaits (ready p.new.memory) (pieces_left z places p.new.cursor) p.result.1) same p.ensures.waits in
    waits_now w inst c.args.q call r (call_state c.args.machine.now c.args.store.now c.args.memory.now) p.new.memory (pieces_left ds places c.args.cursor.now) (pieces_left ds places p.new.cursor) p.result.0 c.in-Some.need p.result.1 st written waits c.in-Some.is p.ensures.size

pub returns-in_default-start-clause-turns : goal.returns-in_default-start-clause-turns
returns-in_default-start-clause-turns g c inst call r func given st =
    let bytes = g.M.LinearMem.bytes in
    let ready = g.M.LinearMem.ready in
    let keeps = g.M.LinearMem.keeps in
    let w = setting_of c.args.linked.now bytes ready keeps (g.M.LinearMem.limit c.args.memory.now) in
    let p = c.write_pieces-pieces in
    let places = c.args.places.now in
    let ds = c.args.linked.now.valid.decoded.segments.items in
    let same : c.as_slice.result.now ≡ ds = c.as_slice.ensures.value ∙ ap (λ (m : Module). m.segments.items) c.module-module.ensures.same in
    let written = subst (λ (z : List Data). HasWritten bytes ready keeps (pieces_left z places c.args.cursor.now) c.args.memory.now p.result.0 (pieces_left z places p.new.cursor) p.new.memory) same p.ensures.written in
    let waits = subst (λ (z : List Data). NextWaits (ready p.new.memory) (pieces_left z places p.new.cursor) p.result.1) same p.ensures.waits in
    let none : call.func ≡ None = func ∙ sym (ap (λ (m : Module). m.start) c.module-module.ensures.same) ∙ c.in_default-start.is in
    ends_now w inst c.args.q call r (call_state c.args.machine.now c.args.store.now c.args.memory.now) p.new.memory (pieces_left ds places c.args.cursor.now) (pieces_left ds places p.new.cursor) p.result.0 p.result.1 st written waits c.in_default.is none

pub begin-requires : goal.begin-requires
begin-requires g c =
    let w = setting_of c.args.linked.now g.M.LinearMem.bytes g.M.LinearMem.ready g.M.LinearMem.keeps (g.M.LinearMem.limit c.args.memory.now) in
    let (inst, call, r, func, st) = c.requires.starting in
    let x = c.in-Some-start.func in
    let some : call.func ≡ Some x = func ∙ sym (ap (λ (m : Module). m.start) c.module-module.ensures.same) ∙ c.in-Some-start.is in
    let (type, body, suits) = st.calls_own x some in
    can_begin w (call_state c.args.machine.now c.args.store.now c.args.memory.now) inst r x [] type body [] st.store suits

pub compute-came-requires : goal.compute-came-requires
compute-came-requires g c =
    let w = setting_of c.args.linked.now g.M.LinearMem.bytes g.M.LinearMem.ready g.M.LinearMem.keeps (g.M.LinearMem.limit c.args.memory.now) in
    let m2 = c.write_pieces-pieces.new.memory in
    let (inst, call, r, func, st) = c.requires.starting in
    let x = c.in-Some-start.func in
    let some : call.func ≡ Some x = func ∙ sym (ap (λ (m : Module). m.start) c.module-module.ensures.same) ∙ c.in-Some-start.is in
    let (type, body, suits) = st.calls_own x some in
    let store = other_bytes w (call_state c.args.machine.now c.args.store.now c.args.memory.now) c.begin.new.machine m2 inst r st.store in
    rw c.write_pieces-pieces.ensures.limit (has_begun w (call_state c.begin.new.machine c.args.store.now m2) inst r x [] type body [] store suits c.begin.ensures.begun c.begin.ensures.settled)

pub returns-clause-turns : goal.returns-clause-turns
returns-clause-turns g c inst call r func given st =
    let bytes = g.M.LinearMem.bytes in
    let ready = g.M.LinearMem.ready in
    let keeps = g.M.LinearMem.keeps in
    let w = setting_of c.args.linked.now bytes ready keeps (g.M.LinearMem.limit c.args.memory.now) in
    let p = c.write_pieces-pieces in
    let places = c.args.places.now in
    let ds = c.args.linked.now.valid.decoded.segments.items in
    let same : c.as_slice.result.now ≡ ds = c.as_slice.ensures.value ∙ ap (λ (m : Module). m.segments.items) c.module-module.ensures.same in
    let written = subst (λ (z : List Data). HasWritten bytes ready keeps (pieces_left z places c.args.cursor.now) c.args.memory.now p.result.0 (pieces_left z places p.new.cursor) p.new.memory) same p.ensures.written in
    let waits = subst (λ (z : List Data). NextWaits (ready p.new.memory) (pieces_left z places p.new.cursor) p.result.1) same p.ensures.waits in
    let x = c.in-Some-start.func in
    let some : call.func ≡ Some x = func ∙ sym (ap (λ (m : Module). m.start) c.module-module.ensures.same) ∙ c.in-Some-start.is in
    let mid = call_state c.begin.new.machine c.args.store.now p.new.memory in
    let k = c.compute-came in
    let after = call_state k.new.machine k.new.store k.new.memory in
    let limited = subst (λ (n : ℕ). ComputesWithin (setting_of c.args.linked.now bytes ready keeps n) mid c.args.q c.args.fuel k.result.0 k.result.1 after) p.ensures.limit k.ensures.computes in
    let computes = subst (λ (n : ℕ). ComputesWithin w mid c.args.q n k.result.0 k.result.1 after) (sym given) limited in
    started_now w inst c.args.q call r (call_state c.args.machine.now c.args.store.now c.args.memory.now) after c.begin.new.machine p.new.memory (pieces_left ds places c.args.cursor.now) (pieces_left ds places p.new.cursor) p.result.0 k.result.1 x k.result.0 p.result.1 st written waits c.in_default.is some c.begin.ensures.begun computes
