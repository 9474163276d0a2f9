-- What owners of instances give and ask, in plain words: parameters, arguments, limits, and faults by their numbers.
use Rattle.std.specs.Prelude.{ℕ, ◌/◌, ◌+◌, List, ◌-◌, ◌≢◌, ◌≡◌, ◌^◌, [], ◌∷◌, slice_get, Some, ℤ, pos, negsuc, ◌≤ℤ◌, Option, Bool, true, false, if◌then◌else◌, None}
use Rattle.wh_model.specs.Execution.Instance.{Parameters}
use Rattle.wh_model.specs.declared.faults.ValidKind.{ValidKind}
use Rattle.wh_model.specs.declared.faults.ValidKind.TheVariants.{Memory as NoRoomToCheck}
use Rattle.wh_model.specs.declared.ValType.{ValType}
use Rattle.wh_model.specs.declared.ValType.TheVariants.{I32, I64}
use Rattle.wh_model.specs.declared.ExternKind.TheVariants.{Func}
use Rattle.wh_model.specs.Format.Syntax.{FuncType, Body, Module}
use Rattle.wh_model.specs.Execution.Numbers.{unsigned}
use Rattle.wh_model.specs.Execution.Store.{Value, value, own, Instance}
use Rattle.wh_model.specs.Execution.Replay.{Call, Outcome, pending, returned, stopped, cancelled, dead}

-- ---- instances

-- What the owner of an instance gives it: its shares of memory, the least and the greatest number of frames, the fuel
-- of its start, and what the host's module is to offer it.
pub record Params : Type 0 where
  pub shares : ℕ
  pub min : ℕ
  pub max : ℕ
  pub fuel : ℕ
  pub base : ℕ
  pub salt : ℕ
  pub inputs : List ℕ

-- what instantiation is given (4.5.4): 16 frames are one page of 65536 bytes
abbrev pub given_of : Params → Parameters
given_of p = record { base = p.base; salt = p.salt; inputs = p.inputs; page_limit = p.max / 16 }

-- how many modules a host keeps at most
abbrev pub most_modules : ℕ
most_modules = 1024

-- how many instances are live at most
abbrev pub most_instances : ℕ
most_instances = 4096

-- why an instance isn't admitted
pub data AdmitFault : Type 0 where
  no_module : AdmitFault
  shares : AdmitFault
  min_max : AdmitFault
  frames : AdmitFault
  swap : AdmitFault
  instances : AdmitFault
  memory : AdmitFault
  segments : AdmitFault

-- replies name it A and this number; they are looked at in this order
abbrev pub admit_rank : AdmitFault → ℕ
admit_rank no_module = 1
admit_rank shares = 2
admit_rank min_max = 3
admit_rank frames = 4
admit_rank swap = 5
admit_rank instances = 6
admit_rank memory = 7
admit_rank segments = 8

-- What the owner of a copy of an instance gives it. All else that was given to the instance is given to its copy.
pub record Quota : Type 0 where
  pub shares : ℕ
  pub min : ℕ
  pub max : ℕ

abbrev pub with_quota : Params → Quota → Params
with_quota p q = record p { shares = q.shares; min = q.min; max = q.max }

-- Why an instance isn't copied: one of its calls is open; its start has failed; an instance with this quota wouldn't be
-- admitted; its copy's memory couldn't grow just as far, or would be greater than its maximum; or one of its pages
-- isn't in memory, or is on its way.
pub data ForkFault : Type 0 where
  call_open : ForkFault
  start_failed : ForkFault
  not_admitted : AdmitFault → ForkFault
  other_limit : ForkFault
  page_away : ForkFault

-- they are looked at in this order
abbrev pub fork_rank : ForkFault → ℕ
fork_rank call_open = 0
fork_rank start_failed = 1
fork_rank (not_admitted fault) = 1 + admit_rank fault
fork_rank other_limit = 10
fork_rank page_away = 11

-- what the validator may find wrong: all of its kinds but out of memory
abbrev pub IsValidFault : ValidKind → Type 0
IsValidFault kind = kind ≢ NoRoomToCheck

-- ---- calls

-- how many calls of an instance may be open at once, its start not counted
abbrev pub most_open : ℕ
most_open = 1024

-- how many calls an instance may have had, its start among them
abbrev pub most_calls : ℕ
most_calls = 65536

-- how much fuel a call may be given in all
abbrev pub most_fuel : ℕ
most_fuel = 2 ^ 64 - 1

-- a number that may be given for a parameter, signed or unsigned, and the value that it represents
abbrev pub IsArgument : ValType → ℤ → Value → Type 0
IsArgument I32 n v =
    (negsuc 2147483647 ≤ℤ n) × (n ≤ℤ pos 4294967295) × (v ≡ value I32 (unsigned 32 n))
IsArgument I64 n v =
    (negsuc 9223372036854775807 ≤ℤ n) × (n ≤ℤ pos 18446744073709551615) × (v ≡ value I64 (unsigned 64 n))

-- one for each parameter
abbrev pub AreArguments : List ValType → List ℤ → List Value → Type 0
AreArguments [] [] vs = vs ≡ []
AreArguments (t ∷ ts) (n ∷ ns) vs =
    (v : Value) × (rest : List Value) × IsArgument t n v × (vs ≡ v ∷ rest) × AreArguments ts ns rest
AreArguments ts ns vs = ⊥

-- the module exports one of its own functions by this name
pub record ExportsOwn (m : Module) (inst : Instance) (name : List ℕ) (x : ℕ) (type : FuncType) (body : Body)
    : Type 0 where
  pub place : ℕ
  pub exported : slice_get m.exports place ≡ Some (record { name = name; kind = Func; index = x })
  pub is_own : slice_get inst.funcs x ≡ Some (own type body)

-- why a call is refused
pub data InvokeFault : Type 0 where
  no_export : InvokeFault
  arguments : InvokeFault
  queue_full : InvokeFault
  instance_dead : InvokeFault
  journal_full : InvokeFault

-- replies name it H and this number; they are looked at in this order
abbrev pub rank : InvokeFault → ℕ
rank no_export = 2
rank arguments = 3
rank queue_full = 4
rank instance_dead = 5
rank journal_full = 6

-- a call as the journal has it, and the arguments as its owner gave them
pub record Entry : Type 0 where
  pub call : Call
  pub given : List ℤ

-- the start of an instance, as its journal has it
abbrev pub start_entry : Option ℕ → ℕ → Outcome → Entry
start_entry func fuel outcome =
    record {
      call = record { func = func; args = []; fuel = fuel; fragments = 0; charges = 0; outcome = outcome };
      given = [];
    }

-- the call as it is accepted
abbrev pub new_entry : ℕ → List Value → List ℤ → ℕ → Entry
new_entry x vs given fuel =
    record {
      call = record { func = Some x; args = vs; fuel = fuel; fragments = 0; charges = 0; outcome = pending };
      given = given;
    }

abbrev pub is_open : Outcome → Bool
is_open (returned results) = false
is_open (stopped trap) = false
is_open cancelled = false
is_open dead = false
is_open pending = true

abbrev pub first_open : List Call → Option Call
first_open [] = None
first_open (call ∷ calls) = if is_open call.outcome then Some call else first_open calls
