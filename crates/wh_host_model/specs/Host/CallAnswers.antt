-- What a turn of an instance does, and what it answers.
use Rattle.std.specs.Prelude.{◌≡◌, ◌≢◌, ℕ, zero, ◌+◌, ◌<◌, Bool, true, false, List, [], ◌∷◌, ◌++◌, map, Option, Some, None}
use Rattle.wh_model.specs.declared.memory.Need.{Need}
use Rattle.wh_model.specs.Execution.Store.{Instance, Store}
use Rattle.wh_model.specs.Execution.Configuration.{Term, config}
use Rattle.wh_model.specs.Execution.Reduction.{IsNext}
use Rattle.wh_model.specs.Execution.Asking.{Asks}
use Rattle.wh_model.specs.Execution.Replay.{Outcome, dead, fails, Invocation}
use Rattle.wh_space_model.specs.declared.plain.SwapError.{SwapError}
use Rattle.wh_host_model.specs.declared.plain.TurnEnd.{TurnEnd}
use Rattle.wh_host_model.specs.declared.plain.TurnEnd.TheVariants.{Idle, Again, Fuel, Frame, Ended}
use Rattle.wh_space_model.specs.Parts.{Space, view}
use Rattle.wh_space_model.specs.Ready.{Ready}
use Rattle.wh_host_model.specs.Host.Spaces.{StepsAlone, WaitsAlone, PinsEndAfter}
use Rattle.wh_host_model.specs.Host.Worlds.{Rest, Doing, resting, computing, Suspension, for_fuel, for_frame, for_device, Tenant, store_with, store_in}
use Rattle.wh_host_model.specs.Owners.{Entry}
use Rattle.wh_host_model.specs.Host.Turns.{Upshot, to_end, out_of_fuel, to_wait, to_go_on, Proceeds}

-- ---- calls that go on, and that end

-- the call has written `pieces` more pieces and taken `charges` more charges
abbrev pub gone_further : Entry → ℕ → ℕ → Entry
gone_further e pieces charges =
    record e { call = record e.call { fragments = e.call.fragments + pieces; charges = e.call.charges + charges } }

abbrev pub ended_by : Entry → Outcome → Entry
ended_by e o = record e { call = record e.call { outcome = o } }

-- it goes on, and is where the term says
abbrev pub gone_on : Tenant → Entry → List Entry → Rest → Doing → Option Suspension → Tenant
gone_on t e waiting r d o = record t { rest = r; doing = d; open_calls = e ∷ waiting; waiting_for = o }

-- the next call is at its invocation (4.5.5) over this store
abbrev pub Faces : Instance → Store → List Entry → Doing → Type 0
Faces inst s [] d = d ≡ resting
Faces inst s (e ∷ es) d = (t : Term) × (d ≡ computing t) × Invocation inst s e.call (config s [] t)

-- after these ended calls a call has ended so: whether it is a start that leaves the instance dead
abbrev pub dies : List Entry → Outcome → Bool
dies [] o = fails o
dies (e ∷ es) o = false

-- The present call has ended, and leaves this of the store: the next one is faced; or it is a start that has trapped
-- or was cancelled, and the waiting calls end as dead.
pub data Closes (s : Space) (t : Tenant) (e : Entry) (waiting : List Entry) (r : Rest) : Tenant → Type 0 where
  faces_next : {d : Doing}
      → dies t.ended e.call.outcome ≡ false → Faces t.inst (store_with (view s t.place) r) waiting d
      → Closes s t e waiting r (record t {
        rest = r;
        doing = d;
        ended = t.ended ++ e ∷ [];
        open_calls = waiting;
        waiting_for = None;
      })
  is_dead : dies t.ended e.call.outcome ≡ true
      → Closes s t e waiting r (record t {
        rest = r;
        doing = resting;
        ended = t.ended ++ e ∷ map (λ w. ended_by w dead) waiting;
        open_calls = [];
        waiting_for = None;
        dead = true;
      })

-- ---- what a turn answers

-- It waits for a frame after n steps: a device fault is kept with the call until a step is taken.
abbrev pub at_frame : ℕ → Option Suspension → Option Suspension
at_frame zero (Some (for_device fault)) = Some (for_device fault)
at_frame n o = Some for_frame

-- a step was taken, or there is no device fault to keep
abbrev pub KeepsNoFault : ℕ → Option Suspension → Type 0
KeepsNoFault steps o = steps ≡ 0 → (fault : SwapError) → o ≢ Some (for_device fault)

-- the present call of an instance, over what it sees
abbrev pub ProceedsIn : ℕ → Space → Tenant → Entry → Upshot → ℕ → ℕ → Space → Rest → Doing → Type 0
ProceedsIn q s t e =
    Proceeds (λ x. view x t.place) (λ x. Ready x t.place) (StepsAlone t.place) t.inst q e.call s t.rest t.doing

-- A turn of q charges of an instance: what it answers, the memory, and the instance.
pub data Turn (q : ℕ) (s : Space) (t : Tenant) : TurnEnd → Space → Tenant → Type 0 where
  is_idle : t.open_calls ≡ [] → Turn q s t Idle s t
  has_ended : {e : Entry} {es : List Entry} {o : Outcome} {k n : ℕ} {s2 s3 : Space} {r : Rest} {d : Doing} {t2 : Tenant}
      → t.open_calls ≡ e ∷ es → ProceedsIn q s t e (to_end o) k n s2 r d
      → WaitsAlone t.place None s2 s3 → PinsEndAfter (k + n) s3 t.place
      → Closes s3 t (ended_by (gone_further e k n) o) es r t2 → Turn q s t Ended s3 t2
  has_no_fuel : {e : Entry} {es : List Entry} {k n : ℕ} {s2 s3 : Space} {r : Rest} {d : Doing}
      → t.open_calls ≡ e ∷ es → ProceedsIn q s t e out_of_fuel k n s2 r d
      → WaitsAlone t.place None s2 s3 → PinsEndAfter (k + n) s3 t.place
      → Turn q s t Fuel s3 (gone_on t (gone_further e k n) es r d (Some for_fuel))
  has_no_frame : {e : Entry} {es : List Entry} {need : Need} {k n : ℕ} {s2 s3 : Space} {r : Rest} {d : Doing}
      → t.open_calls ≡ e ∷ es → ProceedsIn q s t e (to_wait need) k n s2 r d
      → WaitsAlone t.place (Some need) s2 s3 → PinsEndAfter (k + n) s3 t.place
      → Turn q s t Frame s3 (gone_on t (gone_further e k n) es r d (at_frame (k + n) t.waiting_for))
  can_go_on : {e : Entry} {es : List Entry} {k n : ℕ} {s2 s3 : Space} {r : Rest} {d : Doing}
      → t.open_calls ≡ e ∷ es → ProceedsIn q s t e to_go_on k n s2 r d
      → WaitsAlone t.place None s2 s3 → PinsEndAfter (k + n) s3 t.place → KeepsNoFault (k + n) t.waiting_for
      → Turn q s t Again s3 (gone_on t (gone_further e k n) es r d None)
  -- a turn without charges of a call with a device fault, whose bytes are ready now: nothing was tried again, and
  -- nothing changes
  keeps_its_fault : {e : Entry} {es : List Entry} {fault : SwapError} {term : Term}
      → t.open_calls ≡ e ∷ es → t.waiting_for ≡ Some (for_device fault) → t.doing ≡ computing term → q ≡ 0
      → IsNext t.inst (config (store_in s t) [] term) → e.call.charges < e.call.fuel
      → ((need : Need) → Asks t.inst (config (store_in s t) [] term) need → Ready s t.place need)
      → Turn q s t Again s t
