-- What commands get, and for which script an engine stands then.
use Rattle.std.specs.Prelude.{◌≡◌, ℕ, ℤ, true, List, [], ◌∷◌, slice_get, Some, Result, Ok, Err}
use Rattle.std.specs.Global.{Vec}
use Rattle.wh_host_model.specs.Owners.{Params}
use Rattle.wh_script_model.specs.Settings.{Settings}
use Rattle.wh_script_model.specs.Commands.{Command}
use Rattle.wh_script_model.specs.Texts.{Reply, refuel_ok, refuel_refused, cancel_ok, cancel_refused, retry_ok, retry_refused, release_ok, release_refused}
use Rattle.wh_script_model.specs.ScriptState.{NamedModule, NamedInstance, ScriptState, HasInstance}
use Rattle.wh_script_model.specs.Receiving.{ReceivesModule, ReceivesInstance, ReceivesCall}
use Rattle.wh_script_model.specs.Answers.{Files, IsObeyed}
use Rattle.wh_commands.specs.declared.command.CallAction.{CallAction}
use Rattle.wh_commands.specs.declared.command.CallAction.TheVariants.{Refuel, Cancel, Retry}
use Rattle.wh_host.specs.CallRequests.{host_number}
use Rattle.wh_host.specs.declared.error.HostError.{HostError}
use Rattle.wh_engine.specs.RepresentedScript.{ScriptHostState, RepresentsScript}

-- the instance of this number has the name
abbrev pub IsNamed : ScriptState → ℕ → List ℕ → Type 0
IsNamed m i name = (g : NamedInstance) × HasInstance m name i g

-- and the module of this number
abbrev pub IsModuleNamed : ScriptState → ℕ → List ℕ → Type 0
IsModuleNamed m k name = (named : NamedModule) × (slice_get m.modules k ≡ Some named) × (named.name ≡ name)

-- a module whose name is free got this reply
abbrev pub TakesModule : {D : Type 0} → Settings → ScriptState → (name bytes : List ℕ) → Reply → ScriptHostState D → Type 0
TakesModule settings m name bytes reply e2 =
    (m2 : ScriptState) × ReceivesModule true m name bytes reply m2 × RepresentsScript settings e2 m2

-- an instance whose name is free, of the module of this number
abbrev pub TakesInstance : {D : Type 0} → Settings → ScriptState → (name : List ℕ) (k : ℕ) (p : Params) → Reply → ScriptHostState D → Type 0
TakesInstance settings m name k p reply e2 =
    (named : NamedModule) × (slice_get m.modules k ≡ Some named)
    × (m2 : ScriptState) × ReceivesInstance true settings m name named.m p reply m2 × RepresentsScript settings e2 m2

-- a call was asked of the instance of this number
abbrev pub TakesInvoke : {D : Type 0} → Settings → ScriptState → (i : ℕ) (export : List ℕ) (fuel : ℕ) (given : List ℤ) → ScriptHostState D → Type 0
TakesInvoke settings m i export fuel given e2 =
    (g : NamedInstance) × (slice_get m.instances i ≡ Some g)
    × (m2 : ScriptState) × ReceivesCall true m i g export fuel given m2 × RepresentsScript settings e2 m2

-- and a command this one
abbrev pub ObeysCommand : {D : Type 0} → Settings → Files → ScriptState → (line : ℕ) → Command → Reply → ScriptHostState D → Type 0
ObeysCommand settings files m line command reply e2 =
    (m2 : ScriptState) × IsObeyed true settings files m line command (reply ∷ []) m2 × RepresentsScript settings e2 m2

-- what a release gets
abbrev pub reply_to_release : (name : List ℕ) → Result (Vec ℕ) HostError → Reply
reply_to_release name (Ok output) = release_ok name output.items
reply_to_release name (Err error) = release_refused name (host_number error)

-- and what is asked of the present call of an instance
abbrev pub reply_to_action : (name : List ℕ) → CallAction → Result Unit HostError → Reply
reply_to_action name (Refuel fuel) (Ok done) = refuel_ok name
reply_to_action name (Refuel fuel) (Err error) = refuel_refused name (host_number error)
reply_to_action name Cancel (Ok done) = cancel_ok name
reply_to_action name Cancel (Err error) = cancel_refused name (host_number error)
reply_to_action name Retry (Ok done) = retry_ok name
reply_to_action name Retry (Err error) = retry_refused name (host_number error)
