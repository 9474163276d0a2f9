-- A step that is ready is taken.
use Rattle.std.specs.Prelude.{◌≡◌, ℕ, ◌+◌, ◌<◌, ◌≤◌, List, [], ◌∷◌, length, slice_get, Some}
use Rattle.wh_model.specs.declared.memory.Need.{Need}
use Rattle.wh_model.specs.Execution.Configuration.{Term, Config, config}
use Rattle.wh_model.specs.Execution.Reduction.{After, IsNext}
use Rattle.wh_model.specs.Execution.Asking.{Asks}
use Rattle.wh_model.specs.Execution.Memory.{writing}
use Rattle.wh_model.specs.Execution.Instance.{Piece}
use Rattle.wh_host_model.specs.declared.plain.TurnEnd.{TurnEnd}
use Rattle.wh_space_model.specs.Parts.{Space}
use Rattle.wh_space_model.specs.Ready.{Ready}
use Rattle.wh_host_model.specs.Host.Worlds.{has_left, computing, Tenant, journal, store_in}
use Rattle.wh_host_model.specs.Owners.{Entry}
use Rattle.wh_host_model.specs.Host.CallAnswers.{Turn}

-- In a turn of q charges the next step of the present call may be taken: it is a piece that is ready; or, q and fuel
-- allowing, a charged reduction of which all that it asks for is ready. Uncharged reductions may come before it.
pub data IsStepReady (q : ℕ) (s : Space) (t : Tenant) (e : Entry) : Type 0 where
  piece_is_ready : {p : Piece} {ps : List Piece}
      → t.doing ≡ has_left (p ∷ ps) → Ready s t.place (writing p.at (length p.items)) → IsStepReady q s t e
  charge_is_ready : {term : Term} {c : Config}
      → t.doing ≡ computing term → After t.inst (config (store_in s t) [] term) 0 c → IsNext t.inst c
      → e.call.charges < e.call.fuel → 1 ≤ q → ((need : Need) → Asks t.inst c need → Ready s t.place need)
      → IsStepReady q s t e

-- the call has written more pieces than this one had, or taken more charges
abbrev pub HasGoneOn : Tenant → Tenant → Entry → Type 0
HasGoneOn t t2 e =
    (e2 : Entry) × (slice_get (journal t2) (length t.ended) ≡ Some e2)
    × (e.call.fragments + e.call.charges < e2.call.fragments + e2.call.charges)

-- so a turn takes it, whatever it answers
abbrev pub ReadyStepsAreTaken : Type 0
ReadyStepsAreTaken =
    (q : ℕ) (s s2 : Space) (t t2 : Tenant) (answer : TurnEnd) (e : Entry) (es : List Entry) → t.open_calls ≡ e ∷ es
    → IsStepReady q s t e → Turn q s t answer s2 t2 → HasGoneOn t t2 e
