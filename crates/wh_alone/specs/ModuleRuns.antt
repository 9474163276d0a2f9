-- One call of a module, from its bytes to its outcome.
use Rattle.std.specs.Prelude.{◌≡◌, ℕ, ◌≤◌, List, [], ◌∷◌, Option, Some, map}
use Rattle.wh_model.specs.Format.Syntax.{Module}
use Rattle.wh_model.specs.Execution.Instance.{Parameters, Piece, IsInitial, begins}
use Rattle.wh_model.specs.Execution.Replay.{Call, Standing, store_at, Replay}
use Rattle.wh_model.specs.Execution.Store.{Instance, Store}
use Rattle.wh_syntax.specs.View.{view_module}
use Rattle.wh_control.specs.Represents.{bits_of}
use Rattle.wh_alone.specs.declared.outcome.Outcome.{Outcome}
use Rattle.wh_alone.specs.declared.outcome.Outcome.TheVariants.{Returned}
use Rattle.wh_alone.specs.declared.outcome.CallResult.{CallResult}
use Rattle.wh_alone.specs.declared.outcome.CallResult.TheVariants.{Start, NoCall, Call as Called}
use Rattle.wh_model.specs.Linking.Accepting.{IsAccepted}
use Rattle.wh_call.specs.Arguments.{HasCall}
use Rattle.wh_alone.specs.Journal.{InstanceState, IsOutcome, HasResults}

-- the journal's call had this outcome after these charges, within this fuel
pub record CameTo (call : Call) (fuel : ℕ) (outcome : Outcome) (charges : ℕ) : Type 0 where
  pub is_outcome : IsOutcome outcome call.outcome
  pub charges_are : call.charges ≡ charges
  pub within : charges ≤ fuel

-- it is the call of this function with these words as arguments, and has results of its function's types if it has
-- returned
pub record IsCallOf (inst : Instance) (call : Call) (func : ℕ) (args : List ℕ) (fuel : ℕ) : Type 0 where
  pub func_is : call.func ≡ Some func
  pub args_are : map bits_of call.args ≡ args
  pub fuel_is : call.fuel ≡ fuel
  pub results : HasResults inst call

-- the answer isn't that it has returned
abbrev pub IsStopped : Outcome → Type 0
IsStopped (Returned result) = ⊥
IsStopped outcome = Unit {0}

-- what is seen of the instance is this store: the bytes of its memory, its globals without their types, its table, what
-- `input` reads, and what was put out
pub record ShowsStore (i : InstanceState) (s : Store) : Type 0 where
  pub bytes : i.kept.memory.bytes ≡ s.bytes
  pub globals : i.kept.store.globals.items ≡ map bits_of s.globals
  pub table : i.kept.store.table.items ≡ s.table
  pub inputs : i.kept.store.inputs.items ≡ s.inputs
  pub output : i.kept.store.output.items ≡ s.output

-- What came of a call, as a journal of the instance: its start, which hasn't returned; or its start, which has, and
-- there is no such function with such arguments; or its start, which has, and the call. And what is seen of the
-- instance is the store to which the journal leads.
abbrev pub AloneFrom : Module → Parameters → Instance → ℕ → List ℕ → ℕ → CallResult → InstanceState → Type 0
AloneFrom m p inst func args fuel (Start outcome n) i =
    (start : Call) × (z : Standing) × Replay m p (start ∷ []) z × ShowsStore i (store_at z)
    × CameTo start fuel outcome n × IsStopped outcome
AloneFrom m p inst func args fuel (NoCall n) i =
    (start : Call) × (z : Standing) × Replay m p (start ∷ []) z × ShowsStore i (store_at z)
    × (result : Option ℕ) × CameTo start fuel (Returned result) n × ¬ (HasCall inst func args)
AloneFrom m p inst func args fuel (Called started outcome n) i =
    (start call : Call) × (z : Standing) × Replay m p (start ∷ call ∷ []) z × ShowsStore i (store_at z)
    × (result : Option ℕ) × CameTo start fuel (Returned result) started × IsCallOf inst call func args fuel
    × CameTo call fuel outcome n

-- The bytes are a module that is accepted, it is the instance's, it begins so with these parameters, and that comes of
-- the call.
pub record RunsModule (bytes : List ℕ) (p : Parameters) (func : ℕ) (args : List ℕ) (fuel : ℕ) (alone : CallResult)
    (i : InstanceState)
    : Type 0 where
  pub m : Module
  pub accepted : IsAccepted bytes m
  pub module_is : m ≡ view_module i.kept.linked.valid.decoded
  pub inst : Instance
  pub s : Store
  pub ps : List Piece
  pub initial : IsInitial m p (begins inst s ps)
  pub comes : AloneFrom m p inst func args fuel alone i
