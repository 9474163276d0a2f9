-- What a host answers where an instance is to go.
use Rattle.std.specs.Prelude.{◌≡◌, ℕ, List, Option, Some, None, Result, Ok, Err}
use Rattle.std.specs.Global.{Vec}
use Rattle.wh_space_model.specs.declared.plain.InstId.{InstId}
use Rattle.wh_host_model.specs.Host.Worlds.{World}
use Rattle.wh_host_model.specs.Host.Happens.{IsRelease}
use Rattle.wh_host.specs.declared.error.HostError.{HostError}
use Rattle.wh_host.specs.declared.error.HostError.TheVariants.{NoInstance, Invoke, NoCall, Memory}
use Rattle.wh_host.specs.Hosting.{HostState, IsHost}

-- the result is this output, or that there is no such instance
abbrev pub IsOutput : Result (Vec ℕ) HostError → Option (List ℕ) → Type 0
IsOutput (Ok output) answer = answer ≡ Some output.items
IsOutput (Err NoInstance) answer = answer ≡ None
IsOutput (Err (Invoke e)) answer = ⊥
IsOutput (Err NoCall) answer = ⊥
IsOutput (Err Memory) answer = ⊥

-- for whatever host it stands, this is answered so, and leaves a host for which it stands then
abbrev pub AnswersRelease : HostState → InstId → Result (Vec ℕ) HostError → HostState → Type 0
AnswersRelease h id result h2 =
    (w : World) → IsHost h w
    → (answer : Option (List ℕ)) × (w2 : World) × IsOutput result answer × IsRelease w id answer w2 × IsHost h2 w2
