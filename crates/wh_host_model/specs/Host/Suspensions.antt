-- For what the present call of an instance stands, and whether that is right.
use Rattle.std.specs.Prelude.{◌≡◌, ◌≢◌, ◌<◌, ◌⊎◌, List, [], ◌∷◌, length, Option, Some, None}
use Rattle.wh_model.specs.declared.memory.Need.{Need}
use Rattle.wh_model.specs.Execution.Store.{Instance, Store}
use Rattle.wh_model.specs.Execution.Configuration.{Term, config}
use Rattle.wh_model.specs.Execution.Reduction.{IsNext}
use Rattle.wh_model.specs.Execution.Asking.{Asks}
use Rattle.wh_model.specs.Execution.Memory.{writing}
use Rattle.wh_model.specs.Execution.Instance.{Piece}
use Rattle.wh_model.specs.Execution.Replay.{Call}
use Rattle.wh_space_model.specs.Parts.{Space, wants}
use Rattle.wh_host_model.specs.Host.Worlds.{Doing, has_left, computing, Suspension, for_fuel, for_frame, Tenant, store_in}
use Rattle.wh_host_model.specs.Owners.{Entry}

-- The next step over this store reads or writes these bytes: it writes the next piece; or fuel is left, and it is a
-- charged reduction that asks for them.
pub data NextAsks (inst : Instance) (s : Store) (call : Call) : Doing → Need → Type 0 where
  a_piece : {p : Piece} {ps : List Piece} → NextAsks inst s call (has_left (p ∷ ps)) (writing p.at (length p.items))
  a_step : {term : Term} {need : Need}
      → call.charges < call.fuel → IsNext inst (config s [] term) → Asks inst (config s [] term) need
      → NextAsks inst s call (computing term) need

-- Where the call waits for fuel, all is used, and a charged reduction is next. Where it waits for a frame, or for a
-- device fault, the bytes that are wanted in memory are those of its next step. Else none are.
abbrev pub WaitsDuly : Instance → Store → Doing → Call → Option Need → Option Suspension → Type 0
WaitsDuly inst s d call wanted None = wanted ≡ None
WaitsDuly inst s d call wanted (Some for_fuel) =
    (wanted ≡ None) × (call.charges ≡ call.fuel)
    × ((term : Term) × (d ≡ computing term) × IsNext inst (config s [] term))
WaitsDuly inst s d call wanted (Some other) = (need : Need) × (wanted ≡ Some need) × NextAsks inst s call d need

-- the first open call does so; without one the instance waits for nothing
abbrev pub FirstWaitsDuly : Instance → Store → Doing → List Entry → Option Need → Option Suspension → Type 0
FirstWaitsDuly inst s d [] wanted o = (wanted ≡ None) × (o ≡ None)
FirstWaitsDuly inst s d (e ∷ es) wanted o = WaitsDuly inst s d e.call wanted o

abbrev pub WaitsRightly : Space → Tenant → Type 0
WaitsRightly s t = FirstWaitsDuly t.inst (store_in s t) t.doing t.open_calls (wants s t.place) t.waiting_for

-- a turn or a provision can make it progress: a call is open, and waits neither for fuel nor for a device fault
abbrev pub CanGoOn : Tenant → Type 0
CanGoOn t = (t.open_calls ≢ []) × ((t.waiting_for ≡ None) ⊎ (t.waiting_for ≡ Some for_frame))
