-- What an instance begins with: its start function is to be called, or there is none and it has started.
use Rattle.std.specs.Prelude.{◌≡◌, ℕ, List, [], ◌∷◌, Option, Some, None}
use Rattle.wh_model.specs.Format.Syntax.{Module}
use Rattle.wh_model.specs.Execution.Instance.{Parameters}
use Rattle.wh_model.specs.Execution.Replay.{Call, returned, pending, Standing}
use Rattle.wh_model.specs.Linking.Accepting.{IsAccepted}
use Rattle.wh_alone.specs.Journal.{InstanceState, IsAtStanding}

-- the start that has written n fragments, where there is no start function
abbrev pub written_start : ℕ → Call
written_start n = record { func = None; args = []; fuel = 0; fragments = n; charges = 0; outcome = returned [] }

-- and the start function at its invocation
abbrev pub open_start : ℕ → ℕ → Call
open_start x n = record { func = Some x; args = []; fuel = 0; fragments = n; charges = 0; outcome = pending }

abbrev pub IsFresh : Option ℕ → List Call → Option Call → Type 0
IsFresh None ended current = (n : ℕ) × (ended ≡ written_start n ∷ []) × (current ≡ None)
IsFresh (Some x) ended current = (n : ℕ) × (ended ≡ []) × (current ≡ Some (open_start x n))

-- The bytes are accepted, their module has an instance with these parameters, and this is it, its data segments written
-- and nothing called.
pub record BeginsInstance (bytes : List ℕ) (p : Parameters) (i : InstanceState) : Type 0 where
  pub m : Module
  pub accepted : IsAccepted bytes m
  pub ended : List Call
  pub current : Option Call
  pub z : Standing
  pub is_at : IsAtStanding i m p ended current z
  pub fresh : IsFresh m.start ended current
