-- An engine that keeps of all that was made what it kept, on another host.
use Rattle.std.proofs.Common.{ℕ, Bool, true, [], ◌∷◌}
use Rattle.wh_script_model.specs.Settings.{Settings}
use Rattle.wh_script_model.specs.{Command, Reply, Files, IsObeyed}
use Rattle.wh_script_model.specs.ScriptState.{ScriptState}
use Rattle.wh_scheduler.specs.InHand.{OwnedState}
use Rattle.wh_engine.specs.Obeying.{ObeysCommand}
use Rattle.wh_engine.specs.RepresentedScript.{ScriptHostState, RepresentsScript, RepresentsWhole, WholeState, whole_on}
use Rattle.wh_engine.proofs.Asked.{ObeysWhole, on_host}

-- all that was made, of a script for which an engine stands
abbrev pub whole_in : {D : Type 0} {settings : Settings} {e : ScriptHostState D} {m : ScriptState} → RepresentsScript settings e m → WholeState
whole_in {e = e} s = whole_on e s.instances s.invoked

-- what represents the script, of all that was made, on another host
pub stands_again : {D : Type 0} (settings : Settings) (e : ScriptHostState D) (m m2 : ScriptState) (o2 : OwnedState D) (s : RepresentsScript settings e m)
    → RepresentsWhole settings (on_host (whole_on e s.instances s.invoked) o2.host) m2 → RepresentsScript settings (record e { host = o2 }) m2
stands_again settings e m m2 o2 s stands = record {
  instances = s.instances;
  invoked = s.invoked;
  kept = s.kept;
  pending = s.pending;
  asked = s.asked;
  stands = stands;
}

-- no script knows whether threads were lacking
pub stands_told : {D : Type 0} (settings : Settings) (e : ScriptHostState D) (m : ScriptState) (lacked : Bool) → RepresentsScript settings e m
    → RepresentsScript settings (record e { lacked_threads = lacked }) m
stands_told settings e m lacked s = record {
  instances = s.instances;
  invoked = s.invoked;
  kept = s.kept;
  pending = s.pending;
  asked = s.asked;
  stands = s.stands;
}

pub obeyed_again : {D : Type 0} (settings : Settings) (files : Files) (m : ScriptState) (line : ℕ) (command : Command) (reply : Reply) (e : ScriptHostState D) (o2 : OwnedState D) (s : RepresentsScript settings e m)
    → ObeysWhole settings files m line command reply (on_host (whole_on e s.instances s.invoked) o2.host) → ObeysCommand settings files m line command reply (record e { host = o2 })
obeyed_again settings files m line command reply e o2 s obeys = (obeys.0, obeys.1, stands_again settings e m obeys.0 o2 s obeys.2)

-- of an instance that isn't kept nothing is asked of the host
pub obeyed_gone : {D : Type 0} (settings : Settings) (files : Files) (m : ScriptState) (line : ℕ) (command : Command) (reply : Reply) (e : ScriptHostState D)
    → IsObeyed true settings files m line command (reply ∷ []) m → RepresentsScript settings e m → ObeysCommand settings files m line command reply e
obeyed_gone settings files m line command reply e obeyed s = (m, obeyed, s)
