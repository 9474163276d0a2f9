-- What is asked of an instance, and what the host answers.
use Rattle.std.specs.Prelude.{◌≡◌, ◌≢◌, ℕ, ℤ, List, Option, Some, None, Result, Ok, Err, slice_get}
use Rattle.wh_space_model.specs.declared.plain.InstId.{InstId}
use Rattle.wh_model.specs.Format.Syntax.{Export, Module}
use Rattle.wh_host_model.specs.Host.Worlds.{Loaded, Tenant, World, loaded_of}
use Rattle.wh_host_model.specs.Host.Happens.{CallAnswer, call_ok, call_no_instance, call_no_call, InvokeAnswer, invoke_ok, invoke_no_instance, invoke_refused, invoke_out_of_memory, IsInvoke, IsLive}
use Rattle.wh_host_model.specs.Owners.{InvokeFault}
use Rattle.wh_instance.specs.Invoked.{invoke_number, refusal_of}
use Rattle.wh_host.specs.declared.error.HostError.{HostError}
use Rattle.wh_host.specs.declared.error.HostError.TheVariants.{NoInstance, Invoke, NoCall, Memory}
use Rattle.wh_host.specs.Hosting.{HostState, IsHost}
use Rattle.wh_host.specs.ModuleExports.{exported_funcs}

-- an error has the number by which the definitions order it
abbrev pub host_number : HostError → ℕ
host_number NoInstance = 1
host_number (Invoke e) = invoke_number e
host_number NoCall = 8
host_number Memory = 7

-- the result is this answer to what is asked of the present call of an instance
abbrev pub IsCallAnswer : Result Unit HostError → CallAnswer → Type 0
IsCallAnswer (Ok done) answer = answer ≡ call_ok
IsCallAnswer (Err NoInstance) answer = answer ≡ call_no_instance
IsCallAnswer (Err (Invoke e)) answer = ⊥
IsCallAnswer (Err NoCall) answer = answer ≡ call_no_call
IsCallAnswer (Err Memory) answer = ⊥

-- for whatever host it stands, this is answered so, and leaves a host for which it stands then
abbrev pub AnswersCall : HostState → (World → CallAnswer → World → Type 0) → Result Unit HostError → HostState → Type 0
AnswersCall h asks result h2 =
    (w : World) → IsHost h w
    → (answer : CallAnswer) × (w2 : World) × IsCallAnswer result answer × asks w answer w2 × IsHost h2 w2

-- a fault of the call, or out of memory
abbrev pub refusal_answer : Option InvokeFault → InvokeAnswer
refusal_answer (Some fault) = invoke_refused fault
refusal_answer None = invoke_out_of_memory

-- the result is this answer to a call that is asked for
abbrev pub IsInvokeAnswer : Result ℕ HostError → InvokeAnswer → Type 0
IsInvokeAnswer (Ok at) answer = answer ≡ invoke_ok at
IsInvokeAnswer (Err NoInstance) answer = answer ≡ invoke_no_instance
IsInvokeAnswer (Err (Invoke e)) answer = answer ≡ refusal_answer (refusal_of e)
IsInvokeAnswer (Err NoCall) answer = ⊥
IsInvokeAnswer (Err Memory) answer = ⊥

abbrev pub AnswersInvoke : HostState → InstId → List ℕ → List ℤ → ℕ → Result ℕ HostError → HostState → Type 0
AnswersInvoke h id name given fuel result h2 =
    (w : World) → IsHost h w
    → (answer : InvokeAnswer) × (w2 : World) × IsInvokeAnswer result answer
    × IsInvoke w id name given fuel answer w2 × IsHost h2 w2

-- ---- by the place of a function among those that a module exports

-- by this name it is exported; or there is none, and nothing is exported by this name
abbrev pub NamesExport : Module → List ℕ → Option Export → Type 0
NamesExport m name (Some e) = name ≡ e.name
NamesExport m name None = (i : ℕ) (e : Export) → slice_get m.exports i ≡ Some e → e.name ≢ name

-- it is asked for by the name of the function at this place of those that the instance's module exports
abbrev pub IsAskedAt : World → InstId → ℕ → List ℕ → Type 0
IsAskedAt w id at name =
    (t : Tenant) (l : Loaded) → IsLive w id t → loaded_of w t.of ≡ Some l
    → NamesExport l.m name (slice_get (exported_funcs l.m) at)

-- what is answered to a call that is asked for so
abbrev pub AnswersInvokeAt : HostState → InstId → ℕ → List ℤ → ℕ → Result ℕ HostError → HostState → Type 0
AnswersInvokeAt h id at given fuel result h2 =
    (w : World) → IsHost h w
    → (name : List ℕ) × IsAskedAt w id at name × (answer : InvokeAnswer) × (w2 : World) × IsInvokeAnswer result answer
    × IsInvoke w id name given fuel answer w2 × IsHost h2 w2
