-- What a hand answers where an instance is to go.
use Rattle.std.specs.Prelude.{◌≡◌, ℕ, List, Option, Some, None, Result, Ok, Err}
use Rattle.wh_space_model.specs.declared.plain.InstId.{InstId}
use Rattle.wh_host_model.specs.Host.Worlds.{World}
use Rattle.wh_host_model.specs.Host.Happens.{IsRelease}
use Rattle.wh_host.specs.declared.error.HostError.{HostError}
use Rattle.wh_host.specs.declared.error.HostError.TheVariants.{NoInstance, Invoke, NoCall, Memory}
use Rattle.wh_host.specs.Hosting.{IsHost}
use Rattle.wh_hand.specs.HandStates.{HandState}

-- the output that is kept then is this one, or there is no such instance
abbrev pub IsOutputHere : Result Unit HostError → List ℕ → Option (List ℕ) → Type 0
IsOutputHere (Ok done) output answer = answer ≡ Some output
IsOutputHere (Err NoInstance) output answer = answer ≡ None
IsOutputHere (Err (Invoke e)) output answer = ⊥
IsOutputHere (Err NoCall) output answer = ⊥
IsOutputHere (Err Memory) output answer = ⊥

-- for whatever host it stands, this is answered so, and leaves a host for which it stands then
abbrev pub AnswersReleaseHere : HandState → InstId → Result Unit HostError → HandState → Type 0
AnswersReleaseHere a id result b =
    (w : World) → IsHost a.host w
    → (answer : Option (List ℕ)) × (w2 : World) × IsOutputHere result b.output answer × IsRelease w id answer w2
    × IsHost b.host w2
