-- Whatever lines have made, each instance began as its module says.
use Rattle.std.proofs.Common.{◌≡◌, ℕ, zero, suc, ◌+◌, Bool, List, [], ◌∷◌, slice_get, slice_set, Some, None, ℤ, sym, subst}
use Rattle.std.proofs.lemmas.Option.{none-some, same_Some}
use Rattle.std.specs.List.{AllZip, AllByRecursion}
use Rattle.wh_model.specs.Execution.{Call}
use Rattle.wh_host_model.specs.{Params}
use Rattle.wh_model.specs.Format.{Module}
use Rattle.wh_script_model.specs.Settings.{Settings}
use Rattle.wh_script_model.specs.{Command, Reply, NamedInstance, with_instance, RunsAlone, is_gone, has_run, PrintsStart, has_none, has_one, PrintStarts, ReceivesModule, module_is_kept, module_isnt_kept, module_out_of_memory, ReceivesInstance, is_admitted, isnt_admitted, admission_out_of_memory, ReceivesCall, instance_is_gone, isnt_invoked, is_invoked, call_out_of_memory, Files, IsObeyed, module_name_is_taken, no_file, module_comes, no_such_module, instance_name_is_taken, instance_comes, no_such_instance, is_drained, is_scanned, is_reported, is_refueled, no_one_to_refuel, no_call_to_refuel, is_cancelled, no_one_to_cancel, no_call_to_cancel, is_retried, no_one_to_retry, no_fault_to_retry, is_released, no_one_to_release, AnswersLine, skipped, invoked, obeyed, too_long, no_command, line_out_of_memory, AnswersLines, HasBegun, LinesBegin}
use Rattle.wh_script_model.specs.ScriptState.{ScriptState}
use Rattle.wh_script_model.specs.Drains.{Drains}
use Rattle.wh_host_model.proofs.Host.Entries.{all_join}

abbrev AllBegun : ScriptState → Type 0
AllBegun w = AllByRecursion HasBegun w.instances

-- ---- one instance changes

pub is_one : {A : Type 0} (P : A → Type 0) (xs : List A) (i : ℕ) (x : A) → AllByRecursion P xs → slice_get xs i ≡ Some x → P x
is_one P [] i x h e = absurd (none-some x e)
is_one P (y ∷ xs) zero x h e = subst P (same_Some y x e) h.0
is_one P (y ∷ xs) (suc i) x h e = is_one P xs i x h.1 e

pub with_one : {A : Type 0} (P : A → Type 0) (xs : List A) (i : ℕ) (x : A) → AllByRecursion P xs → P x
    → AllByRecursion P (slice_set xs i x)
with_one P [] i x h p = tt
with_one P (y ∷ xs) zero x h p = (p, h.1)
with_one P (y ∷ xs) (suc i) x h p = (h.0, with_one P xs i x h.1 p)

-- to other calls
calls_changed : (w : ScriptState) (i : ℕ) (g : NamedInstance) (calls : List Call) → AllBegun w → slice_get w.instances i ≡ Some g
    → AllBegun (with_instance w i (record g { calls = calls }))
calls_changed w i g calls h e = with_one HasBegun w.instances i (record g { calls = calls }) h (is_one HasBegun w.instances i g h e)

-- ---- a drain

one_run : (g k : NamedInstance) → RunsAlone g k → HasBegun g → HasBegun k
one_run g k (is_gone e) h = h
one_run g k (has_run e a r q) h = h

one_said : (g k : NamedInstance) (lines : List Reply) → PrintsStart g lines k → HasBegun g → HasBegun k
one_said g k lines (has_none p q) h = h
one_said g k lines (has_one n e x) h = h

run_begun : (gs hs : List NamedInstance) → AllZip RunsAlone gs hs → AllByRecursion HasBegun gs → AllByRecursion HasBegun hs
run_begun [] [] x h = tt
run_begun [] (g ∷ hs) x h = absurd x
run_begun (g ∷ gs) [] x h = absurd x
run_begun (g ∷ gs) (k ∷ hs) x h = (one_run g k x.0 h.0, run_begun gs hs x.1 h.1)

said_begun : (gs hs : List NamedInstance) (lines : List Reply) → PrintStarts gs lines hs → AllByRecursion HasBegun gs
    → AllByRecursion HasBegun hs
said_begun [] hs lines x h = subst (AllByRecursion HasBegun) (sym x.1) tt
said_begun (g ∷ gs) hs lines (here, rest, k, ks, e, f, x, more) h =
    subst (AllByRecursion HasBegun) (sym f) (one_said g k here x h.0, said_begun gs ks rest more h.1)

drained_begun : (w w2 : ScriptState) (lines : List Reply) → Drains w lines w2 → AllBegun w → AllBegun w2
drained_begun w w2 lines x h =
    subst AllBegun (sym x.after) (said_begun x.run x.instances x.starts x.print_starts (run_begun w.instances x.run x.each_runs h))

-- ---- what comes

module_begun : (may_run_out : Bool) (w w2 : ScriptState) (name bytes : List ℕ) (reply : Reply)
    → ReceivesModule may_run_out w name bytes reply w2 → AllBegun w → AllBegun w2
module_begun may_run_out w w2 name bytes reply (module_is_kept a f) h = h
module_begun may_run_out w w2 name bytes reply (module_isnt_kept r) h = h
module_begun may_run_out w w2 name bytes reply (module_out_of_memory s r) h = h

guest_begun : (may_run_out : Bool) (settings : Settings) (w w2 : ScriptState) (name : List ℕ) (m : Module) (p : Params) (reply : Reply)
    → ReceivesInstance may_run_out settings w name m p reply w2 → AllBegun w → AllBegun w2
guest_begun may_run_out settings w w2 name m p reply (is_admitted {s = s} n initial) h =
    all_join HasBegun w.instances (_ ∷ []) h ((s, initial), tt)
guest_begun may_run_out settings w w2 name m p reply (isnt_admitted fault f) h = h
guest_begun may_run_out settings w w2 name m p reply (admission_out_of_memory s n) h = h

call_begun : (may_run_out : Bool) (w w2 : ScriptState) (i : ℕ) (g : NamedInstance) (name : List ℕ) (fuel : ℕ) (given : List ℤ)
    → slice_get w.instances i ≡ Some g → ReceivesCall may_run_out w i g name fuel given w2 → AllBegun w → AllBegun w2
call_begun may_run_out w w2 i g name fuel given e (instance_is_gone r) h = h
call_begun may_run_out w w2 i g name fuel given e (isnt_invoked fault l f) h = h
call_begun may_run_out w w2 i g name fuel given e (is_invoked vs l n x a) h = calls_changed w i g _ h e
call_begun may_run_out w w2 i g name fuel given e (call_out_of_memory s l n) h = h

obeyed_begun : (may_run_out : Bool) (settings : Settings) (files : Files) (w w2 : ScriptState) (number : ℕ) (command : Command)
    (replies : List Reply) → IsObeyed may_run_out settings files w number command replies w2 → AllBegun w → AllBegun w2
obeyed_begun may_run_out settings files w w2 number command replies (module_name_is_taken n m) h = h
obeyed_begun may_run_out settings files w w2 number command replies (no_file n f) h = h
obeyed_begun may_run_out settings files w w2 number command replies (module_comes {name = name} {bytes = bytes} {reply = reply} n f b x) h =
    module_begun may_run_out w w2 name bytes reply x h
obeyed_begun may_run_out settings files w w2 number command replies (no_such_module n) h = h
obeyed_begun may_run_out settings files w w2 number command replies (instance_name_is_taken i m g) h = h
obeyed_begun may_run_out settings files w w2 number command replies (instance_comes {inst = inst} {p = p} {m = m} {reply = reply} n f x) h =
    guest_begun may_run_out settings w w2 inst m p reply x h
obeyed_begun may_run_out settings files w w2 number command replies (no_such_instance f n) h = h
obeyed_begun may_run_out settings files w w2 number command replies is_drained h = h
obeyed_begun may_run_out settings files w w2 number command replies is_scanned h = h
obeyed_begun may_run_out settings files w w2 number command replies is_reported h = h
obeyed_begun may_run_out settings files w w2 number command replies (is_refueled i {g = g} n l f) h = calls_changed w i g _ h n.0
obeyed_begun may_run_out settings files w w2 number command replies (no_one_to_refuel i n l) h = h
obeyed_begun may_run_out settings files w w2 number command replies (no_call_to_refuel i n l f) h = h
obeyed_begun may_run_out settings files w w2 number command replies (is_cancelled i {g = g} n l f) h =
    with_one HasBegun w.instances i _ h (is_one HasBegun w.instances i g h n.0)
obeyed_begun may_run_out settings files w w2 number command replies (no_one_to_cancel i n l) h = h
obeyed_begun may_run_out settings files w w2 number command replies (no_call_to_cancel i n l f) h = h
obeyed_begun may_run_out settings files w w2 number command replies (no_one_to_retry i n l) h = h
obeyed_begun may_run_out settings files w w2 number command replies (is_retried i {g = g} n l f) h =
    with_one HasBegun w.instances i (record g { at_fault = None }) h (is_one HasBegun w.instances i g h n.0)
obeyed_begun may_run_out settings files w w2 number command replies (no_fault_to_retry i n l f) h = h
obeyed_begun may_run_out settings files w w2 number command replies (is_released i {g = g} z n l r) h =
    with_one HasBegun w.instances i _ h (is_one HasBegun w.instances i g h n.0)
obeyed_begun may_run_out settings files w w2 number command replies (no_one_to_release i n l) h = h

-- ---- lines

line_begun : (may_run_out : Bool) (settings : Settings) (files : Files) (w w2 : ScriptState) (number : ℕ) (line : List ℕ)
    (replies : List Reply) → AnswersLine Drains may_run_out settings files w number line replies w2 → AllBegun w → AllBegun w2
line_begun may_run_out settings files w w2 number line replies (skipped e) h = h
line_begun may_run_out settings files w w2 number line replies (invoked {export = export} {fuel = fuel} {args = args} i {g = g} r a n x) h =
    call_begun may_run_out w w2 i g export fuel args n.0 x h
line_begun may_run_out settings files w w2 number line replies (obeyed {command = command} {lines = lines} {replies = given} {w1 = w1} r a d x) h =
    obeyed_begun may_run_out settings files w1 w2 number command given x (drained_begun w w1 lines d h)
line_begun may_run_out settings files w w2 number line replies (too_long {lines = lines} e l d) h = drained_begun w w2 lines d h
line_begun may_run_out settings files w w2 number line replies (no_command {lines = lines} r n d) h = drained_begun w w2 lines d h
line_begun may_run_out settings files w w2 number line replies (line_out_of_memory {lines = lines} s r d) h = drained_begun w w2 lines d h

lines_begun : (may_run_out : Bool) (settings : Settings) (files : Files) (w w2 : ScriptState) (number : ℕ) (lines : List (List ℕ))
    (replies : List Reply) → AnswersLines Drains may_run_out settings files w number lines replies w2 → AllBegun w → AllBegun w2
lines_begun may_run_out settings files w w2 number [] replies x h = subst AllBegun (sym x.1) h
lines_begun may_run_out settings files w w2 number (line ∷ lines) replies (here, rest, between, e, x, more) h =
    lines_begun may_run_out settings files between w2 (number + 1) lines rest more
    (line_begun may_run_out settings files w between number line here x h)

pub lines_begin : LinesBegin
lines_begin may_run_out settings files number lines replies w x =
    lines_begun may_run_out settings files _ w number lines replies x tt
