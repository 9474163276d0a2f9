-- Of a stranger's things a desk replies as of none.
use Rattle.std.specs.Prelude.{◌≡◌, None}
use Rattle.wh_space_model.specs.declared.plain.InstId.{InstId}
use Rattle.wh_host_model.specs.Host.Worlds.{World, loaded_of}
use Rattle.wh_host_model.specs.Host.Happens.{NoInstance}
use Rattle.wh_host.specs.declared.parts.ModuleId.{ModuleId}
use Rattle.wh_host.specs.Hosting.{HostState, IsHost}
use Rattle.wh_desk.specs.declared.trace.Question.{Question}
use Rattle.wh_desk.specs.declared.trace.Question.TheVariants.{Load, Unload, Admit, Fork, Invoke, InvokeAt, Refuel, Cancel, Retry, Release, BeginEpoch, Status, Report, Usage, UsageOf, Transcript, Output, Ends, Exports, Read}
use Rattle.wh_desk.specs.Permits.{refusal}
use Rattle.wh_desk.specs.Replying.{HostReplies}

-- the question is about this instance
abbrev pub IsAbout : Question → InstId → Type 0
IsAbout (Load bytes) id = ⊥
IsAbout (Unload of) id = ⊥
IsAbout (Admit of params) id = ⊥
IsAbout (Fork asked quota) id = asked ≡ id
IsAbout (Invoke asked name given fuel) id = asked ≡ id
IsAbout (InvokeAt asked at given fuel) id = asked ≡ id
IsAbout (Refuel asked fuel) id = asked ≡ id
IsAbout (Cancel asked) id = asked ≡ id
IsAbout (Retry asked) id = asked ≡ id
IsAbout (Release asked) id = asked ≡ id
IsAbout BeginEpoch id = ⊥
IsAbout (Status asked at) id = asked ≡ id
IsAbout Report id = ⊥
IsAbout Usage id = ⊥
IsAbout (UsageOf asked) id = asked ≡ id
IsAbout (Transcript asked) id = asked ≡ id
IsAbout (Output asked from most) id = asked ≡ id
IsAbout (Ends asked from most) id = asked ≡ id
IsAbout (Exports of) id = ⊥
IsAbout (Read asked at length) id = asked ≡ id

-- the question is for this module
abbrev pub IsForModule : Question → ModuleId → Type 0
IsForModule (Unload asked) of = asked ≡ of
IsForModule (Admit asked params) of = asked ≡ of
IsForModule (Exports asked) of = asked ≡ of
IsForModule question of = ⊥

-- Where there is no such instance, a host replies what a desk replies to who may not ask about it.
abbrev pub InstancesAsNone : Type 0
InstancesAsNone =
    (h : HostState) (id : InstId) (question : Question) → IsAbout question id
    → ((w : World) → IsHost h w → NoInstance w id) → HostReplies h question (refusal question) h

-- And where there is no such module.
abbrev pub ModulesAsNone : Type 0
ModulesAsNone =
    (h : HostState) (of : ModuleId) (question : Question) → IsForModule question of
    → ((w : World) → IsHost h w → loaded_of w of.number ≡ None) → HostReplies h question (refusal question) h
