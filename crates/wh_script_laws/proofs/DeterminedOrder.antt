-- Whatever lines make, each name is given once, and modules are valid.
use Rattle.std.proofs.Common.{◌≡◌, ℕ, Bool, true, List, slice_get, slice_set, Some, ℤ, refl, Option, None}
use Rattle.wh_model.specs.Format.{Module}
use Rattle.wh_model.specs.Execution.{Call}
use Rattle.wh_model.specs.Validity.Valid.{Valid}
use Rattle.wh_host_model.specs.{Params}
use Rattle.wh_script_model.specs.Settings.{Settings}
use Rattle.wh_script_model.specs.{Command, Reply, NamedInstance, Invoked, NoModule, LacksInstance, with_instance, ReceivesModule, module_is_kept, module_isnt_kept, module_out_of_memory, new_instance, ReceivesInstance, is_admitted, isnt_admitted, admission_out_of_memory, ReceivesCall, instance_is_gone, isnt_invoked, is_invoked, call_out_of_memory, Files, IsObeyed, module_name_is_taken, no_file, module_comes, no_such_module, instance_name_is_taken, instance_comes, no_such_instance, is_drained, is_scanned, is_reported, is_refueled, no_one_to_refuel, no_call_to_refuel, is_cancelled, no_one_to_cancel, no_call_to_cancel, is_retried, no_one_to_retry, no_fault_to_retry, is_released, no_one_to_release, AnswersLine, skipped, invoked, obeyed, too_long, no_command, line_out_of_memory}
use Rattle.wh_script_model.specs.ScriptState.{ScriptState}
use Rattle.wh_script_model.specs.Drains.{Drains}
use Rattle.wh_script_laws.proofs.DeterminedNames.{IsOrderly, valid_there, module_orderly, guest_orderly, Stays, stay_orderly, one_stays, all_stay, drain_orderly}

-- ---- one instance changes

calls_orderly : (w : ScriptState) (i : ℕ) (g : NamedInstance) (calls : List Call) (stands : Option ℕ) (vs : List Invoked) → slice_get w.instances i ≡ Some g → IsOrderly w
    → IsOrderly (record w { instances = slice_set w.instances i (record g { calls = calls; at_fault = stands }); invoked = vs })
calls_orderly w i g calls stands vs at o =
    let stays : Stays g (record g { calls = calls; at_fault = stands }) = record { name = refl; well = λ s. record { begun = s.begun; valid = s.valid } } in
    stay_orderly w (slice_set w.instances i (record g { calls = calls; at_fault = stands })) vs (one_stays w.instances i g (record g { calls = calls; at_fault = stands }) at stays) o

released_orderly : (w : ScriptState) (i : ℕ) (g : NamedInstance) → slice_get w.instances i ≡ Some g → IsOrderly w
    → IsOrderly (with_instance w i (record g { is_released = true }))
released_orderly w i g at o =
    let stays : Stays g (record g { is_released = true }) = record { name = refl; well = λ s. record { begun = s.begun; valid = s.valid } } in
    stay_orderly w (slice_set w.instances i (record g { is_released = true })) w.invoked (one_stays w.instances i g (record g { is_released = true }) at stays) o

-- ---- what comes

module_comes_orderly : (may_run_out : Bool) (w w2 : ScriptState) (name bytes : List ℕ) (reply : Reply) → NoModule w name
    → ReceivesModule may_run_out w name bytes reply w2 → IsOrderly w → IsOrderly w2
module_comes_orderly may_run_out w w2 name bytes reply none (module_is_kept {m = m} accepted room) o = module_orderly w name m o none accepted.valid
module_comes_orderly may_run_out w w2 name bytes reply none (module_isnt_kept why) o = o
module_comes_orderly may_run_out w w2 name bytes reply none (module_out_of_memory s why) o = o

guest_comes_orderly : (may_run_out : Bool) (settings : Settings) (w w2 : ScriptState) (name : List ℕ) (m : Module) (p : Params) (reply : Reply)
    → LacksInstance w name → Valid m → ReceivesInstance may_run_out settings w name m p reply w2 → IsOrderly w → IsOrderly w2
guest_comes_orderly may_run_out settings w w2 name m p reply none valid (is_admitted {inst = inst} {s = s} {pieces = pieces} limit initial) o =
    guest_orderly w (new_instance name m p inst pieces) o none (record { begun = (s, initial); valid = valid })
guest_comes_orderly may_run_out settings w w2 name m p reply none valid (isnt_admitted fault first) o = o
guest_comes_orderly may_run_out settings w w2 name m p reply none valid (admission_out_of_memory s limit) o = o

call_orderly : (may_run_out : Bool) (w w2 : ScriptState) (i : ℕ) (g : NamedInstance) (name : List ℕ) (fuel : ℕ) (given : List ℤ)
    → slice_get w.instances i ≡ Some g → ReceivesCall may_run_out w i g name fuel given w2 → IsOrderly w → IsOrderly w2
call_orderly may_run_out w w2 i g name fuel given at (instance_is_gone gone) o = stay_orderly w w.instances _ (all_stay w.instances) o
call_orderly may_run_out w w2 i g name fuel given at (isnt_invoked fault live first) o = stay_orderly w w.instances _ (all_stay w.instances) o
call_orderly may_run_out w w2 i g name fuel given at (is_invoked vs live none exports args) o = calls_orderly w i g _ g.at_fault _ at o
call_orderly may_run_out w w2 i g name fuel given at (call_out_of_memory s live none) o = stay_orderly w w.instances _ (all_stay w.instances) o

-- ---- a line

module _ (may_run_out : Bool) (settings : Settings) (files : Files) where
  command_orderly : (w w2 : ScriptState) (number : ℕ) (command : Command) (replies : List Reply)
      → IsObeyed may_run_out settings files w number command replies w2 → IsOrderly w → IsOrderly w2
  command_orderly w w2 number command replies (module_name_is_taken names has) o = o
  command_orderly w w2 number command replies (no_file none file) o = o
  command_orderly w w2 number command replies (module_comes {name = name} {bytes = bytes} {reply = reply} names none brings x) o =
      module_comes_orderly may_run_out w w2 name bytes reply none x o
  command_orderly w w2 number command replies (no_such_module none) o = o
  command_orderly w w2 number command replies (instance_name_is_taken i has taken) o = o
  command_orderly w w2 number command replies (instance_comes {inst = inst} {of = of} {p = p} {m = m} {reply = reply} has none x) o =
      guest_comes_orderly may_run_out settings w w2 inst m p reply none (valid_there w of m o has) x o
  command_orderly w w2 number command replies (no_such_instance is none) o = o
  command_orderly w w2 number command replies is_drained o = o
  command_orderly w w2 number command replies is_scanned o = o
  command_orderly w w2 number command replies is_reported o = o
  command_orderly w w2 number command replies (is_refueled i {g = g} has live one) o = calls_orderly w i g _ g.at_fault w.invoked has.0 o
  command_orderly w w2 number command replies (no_one_to_refuel i has gone) o = o
  command_orderly w w2 number command replies (no_call_to_refuel i has live none) o = o
  command_orderly w w2 number command replies (is_cancelled i {g = g} has live one) o = calls_orderly w i g _ None w.invoked has.0 o
  command_orderly w w2 number command replies (no_one_to_cancel i has gone) o = o
  command_orderly w w2 number command replies (no_call_to_cancel i has live none) o = o
  command_orderly w w2 number command replies (no_one_to_retry i has gone) o = o
  command_orderly w w2 number command replies (is_retried i {g = g} has live stands) o = calls_orderly w i g g.calls None w.invoked has.0 o
  command_orderly w w2 number command replies (no_fault_to_retry i has live none) o = o
  command_orderly w w2 number command replies (is_released i {g = g} z has live replay) o = released_orderly w i g has.0 o
  command_orderly w w2 number command replies (no_one_to_release i has gone) o = o

  pub line_orderly : (w w2 : ScriptState) (number : ℕ) (line : List ℕ) (replies : List Reply)
      → AnswersLine Drains may_run_out settings files w number line replies w2 → IsOrderly w → IsOrderly w2
  line_orderly w w2 number line replies (skipped e) o = o
  line_orderly w w2 number line replies (invoked {export = export} {fuel = fuel} {args = args} i {g = g} read asks has x) o =
      call_orderly may_run_out w w2 i g export fuel args has.0 x o
  line_orderly w w2 number line replies (obeyed {command = command} {lines = lines} {replies = rest} {w1 = w1} read asks d x) o =
      command_orderly w1 w2 number command rest x (drain_orderly w w1 lines d o)
  line_orderly w w2 number line replies (too_long {lines = lines} e long d) o = drain_orderly w w2 lines d o
  line_orderly w w2 number line replies (no_command {lines = lines} read none d) o = drain_orderly w w2 lines d o
  line_orderly w w2 number line replies (line_out_of_memory {lines = lines} s read d) o = drain_orderly w w2 lines d o
