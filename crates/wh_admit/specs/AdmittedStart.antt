-- What an instance that is admitted begins with, and why none begins.
use Rattle.std.specs.Prelude.{◌≡◌, ◌≤◌, false, List, Option, Some}
use Rattle.wh_model.specs.Format.Syntax.{Module}
use Rattle.wh_model.specs.Execution.Store.{Instance, Store}
use Rattle.wh_model.specs.Execution.Instance.{AreGiven, Piece, IsInitial, memory_min, segment_bounds, begins}
use Rattle.wh_host_model.specs.Owners.{Params, given_of, most_fuel}
use Rattle.wh_initial.specs.Begins.{Instantiates}
use Rattle.wh_admit.specs.declared.outcome.Admitted.{Admitted}
use Rattle.wh_admit.specs.declared.error.AdmitError.{AdmitError}
use Rattle.wh_admit.specs.declared.error.AdmitError.TheVariants.{MemoryMin, SegmentBounds, Memory}
use Rattle.wh_admit.specs.AdmissionNumbers.{AreShares, AreFrames}

-- What is handed out is what an instance of the module begins with (4.5.4), and what its owner gave it; its machine
-- runs nothing.
pub record BeginsAs (m : Module) (p : Params) (a : Admitted) : Type 0 where
  pub instantiates : Instantiates m (given_of p) a.begun
  pub inputs : a.begun.store.inputs.items ≡ p.inputs
  pub given : AreGiven (given_of p)
  pub shares : a.shares ≡ p.shares
  pub min : a.min ≡ p.min
  pub max : a.max ≡ p.max
  pub fuel : a.fuel ≡ p.fuel
  pub are_shares : AreShares a.shares
  pub are_frames : AreFrames a.min a.max
  pub can_count : p.fuel ≤ most_fuel
  pub at_rest : a.machine.running ≡ false

-- there is a module, and so an instance of it begins
abbrev pub BeginsAdmitted : Option Module → Params → Admitted → Type 0
BeginsAdmitted o p a = (m : Module) × (o ≡ Some m) × BeginsAs m p a

-- why none begins; memory runs out only where the definition has an instance
abbrev pub RefusesBeginning : Module → Params → AdmitError → Type 0
RefusesBeginning m p MemoryMin = IsInitial m (given_of p) memory_min
RefusesBeginning m p SegmentBounds = IsInitial m (given_of p) segment_bounds
RefusesBeginning m p Memory =
    (inst : Instance) × (s : Store) × (to_write : List Piece) × IsInitial m (given_of p) (begins inst s to_write)
RefusesBeginning m p _ = ⊥
