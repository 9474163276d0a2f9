-- What an engine keeps, and for which script it stands.
use Rattle.std.specs.Prelude.{◌≡◌, ℕ, ◌+◌, ◌&&◌, ◌||◌, ◌↔◌, Bool, true, false, not, List, [], ◌∷◌, map, length, Option, Some, None, option_map, string_bytes}
use Rattle.wh_host_model.specs.Host.Worlds.{World}
use Rattle.wh_script_model.specs.Settings.{Settings}
use Rattle.wh_script_model.specs.ScriptState as script
use Rattle.wh_script_model.specs.ScriptState.{call_rejected, call_accepted, ScriptState}
use Rattle.wh_host.specs.Hosting.{HostState, IsHost, IsReached}
use Rattle.wh_scheduler.specs.InHand.{OwnedState}
use Rattle.wh_replies.specs.View.{status_of}
use Rattle.wh_replies.specs.declared.call.Status.{Status}
use Rattle.wh_script_laws.specs.Following.{Knows}
use Rattle.wh_script_laws.specs.Printed.{is_final}
use Rattle.wh_names.specs.NamePlaces.{AreNamedOnce}
use Rattle.wh_names.specs.declared.names.Names.{Names}
use Rattle.wh_engine.specs.declared.parts.NamedInstance.{NamedInstance}
use Rattle.wh_engine.specs.declared.parts.Invoked.{Invoked}
use Rattle.wh_engine.specs.declared.parts.InvokeOutcome.{InvokeOutcome}
use Rattle.wh_engine.specs.declared.parts.InvokeOutcome.TheVariants.{Rejected, Accepted}

-- ---- the engine and its host

-- What a script has made, with the host on which it runs, its device and its books: the names of its modules and of its
-- instances, what is still kept of instances and of each `invoke`, how often a call was asked for, and whether threads were lacking.
pub record ScriptHostState (D : Type 0) : Type 0 where
  pub host : OwnedState D
  pub module_names : Names
  pub instance_names : Names
  pub instances : List NamedInstance
  pub invoked : List Invoked
  pub asked : ℕ
  pub lacked_threads : Bool

-- the same with all that was ever made, as it was when it was last kept
pub record WholeState : Type 0 where
  pub host : HostState
  pub module_names : Names
  pub instance_names : Names
  pub instances : List NamedInstance
  pub invoked : List Invoked

abbrev pub whole_on : {D : Type 0} → ScriptHostState D → List NamedInstance → List Invoked → WholeState
whole_on e instances invoked = record {
  host = e.host.host;
  module_names = e.module_names;
  instance_names = e.instance_names;
  instances = instances;
  invoked = invoked;
}

-- ---- what is kept

-- what is kept are all but some of those that pass the test, in their order
pub data LeavesOut {A : Type 0} (over : A → Bool) : List A → List A → Type 0 where
  none_there : LeavesOut over [] []
  keeps_it : {x : A} {kept all : List A} → LeavesOut over kept all → LeavesOut over (x ∷ kept) (x ∷ all)
  leaves_it : {x : A} {kept all : List A} → over x ≡ true → LeavesOut over kept all → LeavesOut over kept (x ∷ all)

-- it was last said to have ended
abbrev pub was_final : Option Status → Bool
was_final None = false
was_final (Some status) = is_final (status_of status)

-- the instance is released, and its start was said to have ended, if it has one
abbrev pub is_over : NamedInstance → Bool
is_over x = x.is_released && (not x.has_start || was_final x.last_printed)

-- the call of the `invoke` was said to have ended
abbrev pub is_settled : Invoked → Bool
is_settled x = was_final x.last_printed

-- ---- the script

-- the instance is the one of this number
pub record IsNamedInstance (i : ℕ) (x : NamedInstance) (g : script.NamedInstance) : Type 0 where
  pub number : x.id.number ≡ i
  pub name : string_bytes x.name ≡ g.name
  pub starts : (x.has_start ≡ true) ↔ ¬ ((g.pieces ≡ []) × (g.m.start ≡ None))
  pub released : x.is_released ≡ g.is_released
  pub last_printed : option_map status_of x.last_printed ≡ g.last_printed

-- one after the other, the first having this number
abbrev pub AreNamedInstances : ℕ → List NamedInstance → List script.NamedInstance → Type 0
AreNamedInstances number [] [] = Unit {0}
AreNamedInstances number (x ∷ xs) (g ∷ gs) = IsNamedInstance number x g × AreNamedInstances (number + 1) xs gs
AreNamedInstances number xs gs = ⊥

abbrev pub invoke_outcome_of : InvokeOutcome → script.InvokeOutcome
invoke_outcome_of (Rejected fault) = call_rejected fault
invoke_outcome_of (Accepted instance place) = call_accepted instance place

-- the `invoke` is the one of this number
pub record IsInvokedAs (n : ℕ) (x : Invoked) (v : script.Invoked) : Type 0 where
  pub number : x.number ≡ n
  pub outcome : invoke_outcome_of x.outcome ≡ v.outcome
  pub last_printed : option_map status_of x.last_printed ≡ v.last_printed

-- one after the other, the first having this number
abbrev pub AreInvoked : ℕ → List Invoked → List script.Invoked → Type 0
AreInvoked number [] [] = Unit {0}
AreInvoked number (x ∷ xs) (v ∷ vs) = IsInvokedAs number x v × AreInvoked (number + 1) xs vs
AreInvoked number xs vs = ⊥

-- the host represents this one, and events alone lead to it: no swap device gave other bytes than were written to it
abbrev pub IsLed : HostState → World → Type 0
IsLed h w = IsHost h w × IsReached w

-- All that was made represents the script: the host on which it runs knows it, the names are those of the script, and what was
-- kept of instances and of calls is so. No two instances have one name.
pub record RepresentsWhole (settings : Settings) (e : WholeState) (m : ScriptState) : Type 0 where
  pub world : World
  pub is : IsLed e.host world
  pub knows : Knows settings world m (map (λ (x : NamedInstance). x.id.place) e.instances)
  pub module_names : e.module_names ≡ map (λ (n : script.NamedModule). n.name) m.modules
  pub instance_names : e.instance_names ≡ map (λ (g : script.NamedInstance). g.name) m.instances
  pub apart : AreNamedOnce e.instance_names
  pub instances : AreNamedInstances 0 e.instances m.instances
  pub invoked : AreInvoked 1 e.invoked m.invoked

-- The engine represents what the script has made: of all that was made it keeps the instances that live or whose start
-- has a line to come, and the calls that weren't said to have ended.
pub record RepresentsScript {D : Type 0} (settings : Settings) (e : ScriptHostState D) (m : ScriptState) : Type 0 where
  pub instances : List NamedInstance
  pub invoked : List Invoked
  pub kept : LeavesOut is_over e.instances instances
  pub pending : LeavesOut is_settled e.invoked invoked
  pub asked : e.asked ≡ length invoked
  pub stands : RepresentsWhole settings (whole_on e instances invoked) m
