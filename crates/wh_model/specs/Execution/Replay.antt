-- The outcome of an instance by its journal: the calls in order, each with what it was given and how far it got.
use Rattle.std.specs.Prelude.{◌≡◌, ◌<◌, ◌≤◌, ℕ, Bool, true, false, List, [], ◌∷◌, length, take, drop, reverse, map, slice_get, Option, Some, None}
use Rattle.std.specs.Bool.{MatchBool}
use Rattle.std.specs.List.{AllByRecursion}
use Rattle.wh_model.specs.declared.Trap.{Trap}
use Rattle.wh_model.specs.Format.Syntax.{nothing, FuncType, Body, Module}
use Rattle.wh_model.specs.Execution.Store.{Value, type_of, InRange, own, Instance, Store, written}
use Rattle.wh_model.specs.Execution.Configuration.{code, called, Config, config, trapped, store_of}
use Rattle.wh_model.specs.Execution.Reduction.{After, IsNext}
use Rattle.wh_model.specs.Execution.Instance.{Parameters, AreGiven, Piece, begins, IsInitial}

-- ---- the journal

-- how a call has ended, if it has
pub data Outcome : Type 0 where
  returned : (results : List Value) → Outcome
  stopped : (trap : Trap) → Outcome
  cancelled : Outcome
  dead : Outcome
  pending : Outcome

-- A call: its function, if any, its arguments in order, the fuel that it was given, how many fragments it has written,
-- how many charges it took, and its outcome. The first call of an instance is its start: it alone writes fragments, and
-- it need not have a function.
pub record Call : Type 0 where
  pub func : Option ℕ
  pub args : List Value
  pub fuel : ℕ
  pub fragments : ℕ
  pub charges : ℕ
  pub outcome : Outcome

-- ---- one call

-- the store with these pieces written to its memory, in order
abbrev pub with_pieces : Store → List Piece → Store
with_pieces s [] = s
with_pieces s (p ∷ ps) = with_pieces (record s { bytes = written s.bytes p.at p.items }) ps

-- The call is at its invocation over this store (4.5.5): of one of the module's own functions, with a value for each of
-- its parameters.
pub record Invocation (inst : Instance) (s : Store) (call : Call) (c : Config) : Type 0 where
  pub index : ℕ
  pub type : FuncType
  pub body : Body
  pub calls : call.func ≡ Some index
  pub is_own : slice_get inst.funcs index ≡ Some (own type body)
  pub types : map type_of call.args ≡ type.params
  pub fit : AllByRecursion InRange call.args
  pub begins : c ≡ config s [] (called type body (reverse call.args) [] nothing)

-- what the first open call stands at; without one, the store alone
pub data Standing : Type 0 where
  idle : (s : Store) → Standing
  writing : (s : Store) (rest : List Piece) → Standing
  running : (c : Config) → Standing

-- the store there
abbrev pub store_at : Standing → Store
store_at (idle s) = s
store_at (writing s rest) = s
store_at (running c) = store_of c

-- An open call, which has these pieces to write first: it has some of them left; or it is at its invocation; or it is
-- where its charges lead it, within its fuel, and a charged reduction is next.
pub data Stands (inst : Instance) (s : Store) (ps : List Piece) (call : Call) : Standing → Type 0 where
  has_pieces : call.fragments < length ps → call.charges ≡ 0
      → Stands inst s ps call (writing (with_pieces s (take call.fragments ps)) (drop call.fragments ps))
  is_invoked : {c : Config}
      → call.fragments ≡ length ps → call.charges ≡ 0 → Invocation inst (with_pieces s ps) call c
      → Stands inst s ps call (running c)
  is_under_way : {c c2 : Config}
      → call.fragments ≡ length ps → call.charges ≤ call.fuel → Invocation inst (with_pieces s ps) call c
      → After inst c call.charges c2 → IsNext inst c2 → Stands inst s ps call (running c2)

-- a call that has ended leads from one store to another; these pieces are what it has to write first
pub data Ends (inst : Instance) (s : Store) (ps : List Piece) (call : Call) : Store → Type 0 where
  -- its invocation, after its charges, is done with these values, or has trapped
  has_returned : {s2 : Store} {vs : List Value} {c : Config}
      → call.outcome ≡ returned vs → call.fragments ≡ length ps → call.charges ≤ call.fuel
      → Invocation inst (with_pieces s ps) call c → After inst c call.charges (config s2 [] (code (reverse vs) nothing))
      → Ends inst s ps call s2
  has_trapped : {s2 : Store} {x : Trap} {c : Config}
      → call.outcome ≡ stopped x → call.fragments ≡ length ps → call.charges ≤ call.fuel
      → Invocation inst (with_pieces s ps) call c → After inst c call.charges (trapped s2 x) → Ends inst s ps call s2
  -- a start without a function has ended when its pieces are written
  has_written : call.outcome ≡ returned [] → call.func ≡ None → call.fragments ≡ length ps → call.charges ≡ 0
      → Ends inst s ps call (with_pieces s ps)
  -- a call that was cancelled ends where it stood
  was_cancelled : {z : Standing}
      → call.outcome ≡ cancelled → Stands inst s ps call z → Ends inst s ps call (store_at z)
  -- a call after a start that has trapped or was cancelled does nothing
  never_began : call.outcome ≡ dead → call.fragments ≡ 0 → call.charges ≡ 0 → Ends inst s ps call s

-- a call after an open one hasn't begun
pub record Waits (call : Call) : Type 0 where
  pub outcome : call.outcome ≡ pending
  pub fragments : call.fragments ≡ 0
  pub charges : call.charges ≡ 0

-- ---- the whole journal

-- each call begins at the store that the ones before it leave
pub data Replays (inst : Instance) : Store → List Piece → List Call → Standing → Type 0 where
  at_rest : {s : Store} {ps : List Piece} → Replays inst s ps [] (idle s)
  ended : {s s2 : Store} {ps : List Piece} {call : Call} {calls : List Call} {z : Standing}
      → Ends inst s ps call s2 → Replays inst s2 [] calls z → Replays inst s ps (call ∷ calls) z
  at_work : {s : Store} {ps : List Piece} {call : Call} {calls : List Call} {z : Standing}
      → call.outcome ≡ pending → Stands inst s ps call z → AllByRecursion Waits calls
      → Replays inst s ps (call ∷ calls) z

-- whether a start so ended leaves its instance dead
abbrev pub fails : Outcome → Bool
fails (returned vs) = false
fails (stopped trap) = true
fails cancelled = true
fails dead = false
fails pending = false

abbrev pub NamesFunction : Call → Type 0
NamesFunction call = ¬ (call.func ≡ None)

abbrev pub IsDead : Call → Type 0
IsDead call = call.outcome ≡ dead

abbrev pub IsNotDead : Call → Type 0
IsNotDead call = ¬ (call.outcome ≡ dead)

-- The calls of an instance. The first is its module's start, without arguments, and isn't dead. Those after it name functions,
-- and are dead exactly where the start has trapped or was cancelled.
pub record IsJournal (m : Module) (start : Call) (calls : List Call) : Type 0 where
  pub func : start.func ≡ m.start
  pub args : start.args ≡ []
  pub not_dead : IsNotDead start
  pub names : AllByRecursion NamesFunction calls
  pub behind : MatchBool (fails start.outcome) (AllByRecursion IsDead calls) (AllByRecursion IsNotDead calls)

-- the journal, from the beginning of an instance of the module
abbrev pub Replay : Module → Parameters → List Call → Standing → Type 0
Replay m p [] z = ⊥
Replay m p (start ∷ calls) z = AreGiven p × IsJournal m start calls
    × ((inst : Instance) × (s : Store) × (ps : List Piece) × IsInitial m p (begins inst s ps)
    × Replays inst s ps (start ∷ calls) z)
