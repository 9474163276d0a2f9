use Rattle.std.proofs.Common.{◌-◌, refl, sym, subst, arith, length}
use Rattle.wh_machine.specs.Program.{parts_in}
use Rattle.wh_machine.specs.Opening.{CanBegin, BeginsCall}
use Rattle.wh_machine.specs.MachineRuns.{IsSettledIn}
use Rattle.wh_machine.proofs.Reaching.{func_now}
use Rattle.wh_machine.proofs.Running.{running_with}
use Rattle.wh_machine.proofs.Opened.{own_of, own_at, has_params, has_few, opens_with, open_sound, begins_so, settled_with}
use Rattle.wh_machine.proofs.opening.begin.Goals as goal

pub overflow_sub-own : goal.overflow_sub-own
overflow_sub-own c =
    let can = subst (λ z. CanBegin z c.args.func c.args.args.now) (sym c.program_of-program.ensures.parts) c.requires in
    let index = (own_of can.around can.suits).index in
    omega (arith, index)

pub open-requires-clause-there : goal.open-requires-clause-there
open-requires-clause-there c =
    let can = subst (λ z. CanBegin z c.args.func c.args.args.now) (sym c.program_of-program.ensures.parts) c.requires in
    ((own_of can.around can.suits).g, own_at can (c.args.func - length c.program_of-program.result.hosts.now) refl)

pub open-requires-clause-named : goal.open-requires-clause-named
open-requires-clause-named c =
    let can = subst (λ z. CanBegin z c.args.func c.args.args.now) (sym c.program_of-program.ensures.parts) c.requires in
    can.around.instance.named

pub open-requires-clause-params : goal.open-requires-clause-params
open-requires-clause-params c g at =
    let can = subst (λ z. CanBegin z c.args.func c.args.args.now) (sym c.program_of-program.ensures.parts) c.requires in
    has_params can (c.args.func - length c.program_of-program.result.hosts.now) refl g at

pub open-requires-clause-few : goal.open-requires-clause-few
open-requires-clause-few c g at =
    let can = subst (λ z. CanBegin z c.args.func c.args.args.now) (sym c.program_of-program.ensures.parts) c.requires in
    has_few can (c.args.func - length c.program_of-program.result.hosts.now) g at

pub code_of-code-requires : goal.code_of-code-requires
code_of-code-requires c =
    let q = parts_in c.program_of-program.result in
    let can = subst (λ z. CanBegin z c.args.func c.args.args.now) (sym c.program_of-program.ensures.parts) c.requires in
    let opens = opens_with q c.args.func c.args.args.now c.open.new.stack (c.args.func - length q.hosts) refl c.open.ensures in
    record { there = func_now (open_sound q c.args.func c.args.args.now c.open.new.stack opens can) }

pub settle-machine-inside-requires-clause-sound : goal.settle-machine-inside-requires-clause-sound
settle-machine-inside-requires-clause-sound c =
    let q = parts_in c.program_of-program.result in
    let can = subst (λ z. CanBegin z c.args.func c.args.args.now) (sym c.program_of-program.ensures.parts) c.requires in
    let opens = opens_with q c.args.func c.args.args.now c.open.new.stack (c.args.func - length q.hosts) refl c.open.ensures in
    (can.kept, can.flat, can.most, open_sound q c.args.func c.args.args.now c.open.new.stack opens can)

pub returns-clause-begun : goal.returns-clause-begun
returns-clause-begun c =
    let q = parts_in c.program_of-program.result in
    let m = running_with c.settle-machine-inside.new.stack c.settle-machine-inside.result in
    let opens = opens_with q c.args.func c.args.args.now c.open.new.stack (c.args.func - length q.hosts) refl c.open.ensures in
    subst (λ z. BeginsCall z c.args.func c.args.args.now m) c.program_of-program.ensures.parts
    (begins_so q c.args.func c.args.args.now c.open.new.stack c.settle-machine-inside.new.stack c.settle-machine-inside.result opens c.settle-machine-inside.ensures)

pub returns-clause-settled : goal.returns-clause-settled
returns-clause-settled c =
    let q = parts_in c.program_of-program.result in
    let can = subst (λ z. CanBegin z c.args.func c.args.args.now) (sym c.program_of-program.ensures.parts) c.requires in
    let opens = opens_with q c.args.func c.args.args.now c.open.new.stack (c.args.func - length q.hosts) refl c.open.ensures in
    let sound = open_sound q c.args.func c.args.args.now c.open.new.stack opens can in
    subst (λ z. IsSettledIn z (running_with c.settle-machine-inside.new.stack c.settle-machine-inside.result)) c.program_of-program.ensures.parts
    (settled_with q c.open.new.stack c.settle-machine-inside.new.stack c.settle-machine-inside.result can.kept can.flat can.most (c.settle-machine-inside.ensures can.kept can.flat can.most sound))
