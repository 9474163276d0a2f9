-- What a turn makes of the present call of an instance.
use Rattle.std.specs.Prelude.{◌≡◌, ◌<◌, ◌^◌, ℕ, List, [], Some, length, map, reverse, slice_get, true}
use Rattle.std.specs.List.{AllByRecursion}
use Rattle.wh_model.specs.Format.Syntax.{FuncType, Body}
use Rattle.wh_model.specs.Execution.Store.{own, Instance}
use Rattle.wh_model.specs.Execution.Configuration.{Term, config}
use Rattle.wh_model.specs.Execution.Reduction.{IsSettled}
use Rattle.wh_model.specs.Execution.Instance.{Piece, Within}
use Rattle.wh_model.specs.Execution.Replay.{returned, stopped, Call, Invocation}
use Rattle.wh_model.specs.Laws.ReplayLaws.{InOnePage}
use Rattle.wh_host_model.specs.Host.Worlds.{Rest, Doing, resting, has_left, computing, store_with}
use Rattle.wh_host_model.specs.Host.Turns.{Upshot, to_end, out_of_fuel, to_wait, to_go_on, Proceeds}
use Rattle.wh_control.specs.Represents.{bits_of, result_of}
use Rattle.wh_machine.specs.Opening.{IsOwnCall}
use Rattle.wh_machine.specs.MachineRuns.{IsSettledIn}
use Rattle.wh_machine.specs.CallStates.{CallState, Setting, RepresentsConfig}
use Rattle.wh_call.specs.Ends.{HasStoreIn}
use Rattle.wh_instance.specs.declared.computing.TurnOutcome.{TurnOutcome}
use Rattle.wh_instance.specs.declared.computing.TurnOutcome.TheVariants as came

-- ---- where a call is

-- store and memory of the state are those of the instance, the rest of whose store this is
abbrev pub HasRest : {M : Type 0} → Setting M → CallState M → Instance → Rest → Type 0
HasRest w state inst r = HasStoreIn w state inst (store_with (w.bytes state.memory) r)

-- It is a start that has these pieces left, each in one page of 4096 bytes, which end within the memory, and can be
-- counted. Its function, if it has one, is the instance's own and takes nothing.
pub record IsStarting {M : Type 0} (w : Setting M) (state : CallState M) (inst : Instance) (call : Call) (r : Rest)
    (ps : List Piece) : Type 0 where
  pub store : HasRest w state inst r
  pub within : Within (length (w.bytes state.memory)) ps
  pub in_pages : AllByRecursion InOnePage ps
  pub few : length ps < 2 ^ 64
  pub no_args : call.args ≡ []
  pub no_charges : call.charges ≡ 0
  pub calls_own : (x : ℕ) → call.func ≡ Some x → (type : FuncType) × (body : Body) × IsOwnCall inst x [] type body []

-- It is at its invocation (4.5.5), which is this term: of the function of this index, with these words as arguments.
pub record IsFaced {M : Type 0} (w : Setting M) (state : CallState M) (inst : Instance) (call : Call) (r : Rest)
    (func : ℕ) (args : List ℕ) (t : Term) : Type 0 where
  pub store : HasRest w state inst r
  pub invocation : Invocation inst (store_with (w.bytes state.memory) r) call
      (config (store_with (w.bytes state.memory) r) [] t)
  pub calls : call.func ≡ Some func
  pub words : map bits_of call.args ≡ args
  pub no_charges : call.charges ≡ 0

-- It is under way at this term, where no uncharged reduction is next: for that the state stands, and runs. Its function
-- is the instance's own.
pub record IsComputing {M : Type 0} (w : Setting M) (state : CallState M) (inst : Instance) (call : Call) (r : Rest)
    (t : Term) : Type 0 where
  pub index : ℕ
  pub type : FuncType
  pub body : Body
  pub calls : call.func ≡ Some index
  pub is_own : slice_get inst.funcs index ≡ Some (own type body)
  pub stands : RepresentsConfig w state (result_of type) inst (config (store_with (w.bytes state.memory) r) [] t)
  pub runs : state.machine.running ≡ true
  pub settled_in : IsSettledIn w.program state.machine
  pub settled : IsSettled inst (config (store_with (w.bytes state.memory) r) [] t)

-- ---- what a turn does

-- the answer is the call's outcome; the result, if there is one, is the last value
abbrev pub IsCame : TurnOutcome → Upshot → Type 0
IsCame (came.Returned result) (to_end (returned vs)) = result ≡ slice_get (map bits_of (reverse vs)) 0
IsCame (came.Trapped x) (to_end (stopped y)) = x ≡ y
IsCame came.Fuel out_of_fuel = Unit {0}
IsCame (came.Frame need) (to_wait other) = need ≡ other
IsCame came.Again to_go_on = Unit {0}
IsCame answer to = ⊥

-- the state represents where the call is then, and these pieces are left, if it is a start
abbrev pub IsThere : {M : Type 0} → Setting M → CallState M → Instance → Call → Rest → List Piece → Doing → Type 0
IsThere w state inst call r left resting = HasRest w state inst r
IsThere w state inst call r left (has_left ps) = IsStarting w state inst call r ps × (ps ≡ left)
IsThere w state inst call r left (computing t) = IsComputing w state inst call r t × (left ≡ [])

-- In a turn of q charges the call gets so far, as the host's definitions say; the answer says the outcome, and the state
-- represents where it is then.
pub record Turns {M : Type 0} (w : Setting M) (inst : Instance) (q : ℕ) (call : Call) (before : M) (r : Rest)
    (d : Doing) (answer : TurnOutcome) (pieces charges : ℕ) (after : CallState M) (left : List Piece) : Type 0 where
  pub to : Upshot
  pub rest : Rest
  pub doing : Doing
  pub proceeds : Proceeds w.bytes w.ready w.keeps inst q call before r d to pieces charges after.memory rest doing
  pub is_came : IsCame answer to
  pub store : HasRest w after inst rest
  pub is_there : IsThere w after inst call rest left doing
