-- How far the present call of an instance comes in a turn, over any memory of which it is known what is ready.
use Rattle.std.specs.Prelude.{◌≡◌, ℕ, ◌+◌, ◌<◌, ◌≤◌, List, [], ◌∷◌, ◌++◌, length, map, reverse, slice_get, Some, None}
use Rattle.std.specs.List.{AllByRecursion}
use Rattle.wh_model.specs.declared.Trap.{Trap}
use Rattle.wh_model.specs.declared.memory.Need.{Need}
use Rattle.wh_model.specs.Format.Syntax.{nothing, FuncType, Body}
use Rattle.wh_model.specs.Execution.Store.{Value, type_of, InRange, own, Instance}
use Rattle.wh_model.specs.Execution.Configuration.{Term, code, Config, config, trapped}
use Rattle.wh_model.specs.Execution.Reduction.{After, IsNext}
use Rattle.wh_model.specs.Execution.Asking.{Asks}
use Rattle.wh_model.specs.Execution.Memory.{writing}
use Rattle.wh_model.specs.Execution.Instance.{Piece}
use Rattle.wh_model.specs.Execution.Replay.{Outcome, returned, stopped, Call, Invocation}
use Rattle.wh_model.specs.Execution.Taking.{Writes, Takes}
use Rattle.wh_host_model.specs.Host.Worlds.{Rest, Doing, resting, has_left, computing, store_with}

-- The call is opened: all pieces that it has left are written, and counted; and it is at its invocation with the uncharged
-- reductions after it, or where it was.
pub data Opens {M : Type 0} (bytes : M → List ℕ) (ready : M → Need → Type 0) (keeps : M → M → Type 0)
    (inst : Instance) (call : Call) (m : M) (r : Rest) : Doing → ℕ → M → Config → Type 0 where
  by_invocation : {ps : List Piece} {m1 : M} {c c1 : Config}
      → Writes bytes ready keeps m ps m1 → Invocation inst (store_with (bytes m1) r) call c → After inst c 0 c1
      → Opens bytes ready keeps inst call m r (has_left ps) (length ps) m1 c1
  as_it_was : {term : Term} {c1 : Config}
      → After inst (config (store_with (bytes m) r) [] term) 0 c1
      → Opens bytes ready keeps inst call m r (computing term) 0 m c1

-- In a turn of q charges the call is opened, and takes `charges` charges within its fuel.
pub record Computes {M : Type 0} (bytes : M → List ℕ) (ready : M → Need → Type 0) (keeps : M → M → Type 0)
    (inst : Instance) (q : ℕ) (call : Call) (m : M) (r : Rest) (d : Doing)
    (pieces charges : ℕ) (m2 : M) (c2 : Config) : Type 0 where
  pub between : M
  pub opened : Config
  pub opens : Opens bytes ready keeps inst call m r d pieces between opened
  pub takes : Takes bytes ready keeps inst between opened charges m2 c2
  pub in_turn : charges ≤ q
  pub in_fuel : call.charges + charges ≤ call.fuel

-- the values have the types that the call's function declares for its results
pub record HaveTypes (inst : Instance) (call : Call) (results : List Value) : Type 0 where
  pub index : ℕ
  pub type : FuncType
  pub body : Body
  pub calls : call.func ≡ Some index
  pub is_own : slice_get inst.funcs index ≡ Some (own type body)
  pub types : map type_of results ≡ type.results
  pub fit : AllByRecursion InRange results

-- what a turn makes of the call
pub data Upshot : Type 0 where
  to_end : (o : Outcome) → Upshot
  out_of_fuel : Upshot
  to_wait : (need : Need) → Upshot
  to_go_on : Upshot

-- In a turn of q charges the call gets so far, with more pieces and charges; the memory, the rest of the store and where it is
-- then. Fuel is looked at before what is ready, and both before q.
pub data Proceeds {M : Type 0} (bytes : M → List ℕ) (ready : M → Need → Type 0) (keeps : M → M → Type 0)
    (inst : Instance) (q : ℕ) (call : Call) (m : M) (r : Rest) (d : Doing)
    : Upshot → ℕ → ℕ → M → Rest → Doing → Type 0 where
  -- it returns values of its result types, its charges with it
  returns : {k n : ℕ} {m2 : M} {r2 : Rest} {vs : List Value}
      → Computes bytes ready keeps inst q call m r d k n m2
      (config (store_with (bytes m2) r2) [] (code (reverse vs) nothing))
      → HaveTypes inst call vs
      → Proceeds bytes ready keeps inst q call m r d (to_end (returned vs)) k n m2 r2 resting
  -- or its last charge traps
  traps : {k n : ℕ} {m2 : M} {r2 : Rest} {x : Trap}
      → Computes bytes ready keeps inst q call m r d k n m2 (trapped (store_with (bytes m2) r2) x)
      → Proceeds bytes ready keeps inst q call m r d (to_end (stopped x)) k n m2 r2 resting
  -- or it is a start without a function, and all its pieces are written
  writes_all : {ps : List Piece} {m2 : M}
      → d ≡ has_left ps → call.func ≡ None → Writes bytes ready keeps m ps m2
      → Proceeds bytes ready keeps inst q call m r d (to_end (returned [])) (length ps) 0 m2 r resting
  -- all fuel is used, and what comes next has a charge
  uses_fuel : {k n : ℕ} {m2 : M} {r2 : Rest} {term : Term}
      → Computes bytes ready keeps inst q call m r d k n m2 (config (store_with (bytes m2) r2) [] term)
      → IsNext inst (config (store_with (bytes m2) r2) [] term) → call.charges + n ≡ call.fuel
      → Proceeds bytes ready keeps inst q call m r d out_of_fuel k n m2 r2 (computing term)
  -- fuel is left, and what comes next reads or writes bytes that aren't ready
  waits : {k n : ℕ} {m2 : M} {r2 : Rest} {term : Term} {need : Need}
      → Computes bytes ready keeps inst q call m r d k n m2 (config (store_with (bytes m2) r2) [] term)
      → IsNext inst (config (store_with (bytes m2) r2) [] term) → call.charges + n < call.fuel
      → Asks inst (config (store_with (bytes m2) r2) [] term) need → ¬ (ready m2 need)
      → Proceeds bytes ready keeps inst q call m r d (to_wait need) k n m2 r2 (computing term)
  -- or the next piece isn't ready
  waits_to_write : {ps more : List Piece} {p : Piece} {m2 : M}
      → d ≡ has_left (ps ++ p ∷ more) → Writes bytes ready keeps m ps m2 → ¬ (ready m2 (writing p.at (length p.items)))
      → Proceeds bytes ready keeps inst q call m r d (to_wait (writing p.at (length p.items)))
      (length ps) 0 m2 r (has_left (p ∷ more))
  -- the turn's charges are taken, fuel is left, and what comes next is ready
  has_had_its_turn : {k n : ℕ} {m2 : M} {r2 : Rest} {term : Term}
      → Computes bytes ready keeps inst q call m r d k n m2 (config (store_with (bytes m2) r2) [] term)
      → IsNext inst (config (store_with (bytes m2) r2) [] term) → n ≡ q → call.charges + n < call.fuel
      → ((need : Need) → Asks inst (config (store_with (bytes m2) r2) [] term) need → ready m2 need)
      → Proceeds bytes ready keeps inst q call m r d to_go_on k n m2 r2 (computing term)
