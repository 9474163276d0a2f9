-- What a turn of an instance does to it, over any memory.
use Rattle.std.specs.Prelude.{◌≡◌, ◌≢◌, ◌+◌, ◌<◌, ◌≤◌, ◌^◌, ◌⊎◌, ℕ, Bool, List, [], ◌∷◌, Some, None, length}
use Rattle.std.specs.Bool.{MatchBool}
use Rattle.wh_model.specs.declared.memory.Need.{Need}
use Rattle.wh_model.specs.Execution.Configuration.{Term, config}
use Rattle.wh_model.specs.Execution.Reduction.{IsNext}
use Rattle.wh_model.specs.Execution.Asking.{Asks}
use Rattle.wh_space_model.specs.declared.plain.SwapError.{SwapError}
use Rattle.wh_space_model.specs.Parts.{Space, view}
use Rattle.wh_host_model.specs.Host.Worlds.{Rest, Doing, resting, computing, for_fuel, for_device, Tenant, store_with}
use Rattle.wh_host_model.specs.Owners.{Entry}
use Rattle.wh_host_model.specs.Host.Turns.{Upshot, to_end, out_of_fuel, to_wait, to_go_on, Proceeds}
use Rattle.wh_host_model.specs.Host.CallAnswers.{gone_further, ended_by, gone_on, Closes, at_frame, KeepsNoFault}
use Rattle.wh_machine.specs.CallStates.{Setting}
use Rattle.wh_instance.specs.declared.computing.TurnOutcome.{TurnOutcome}
use Rattle.wh_instance.specs.declared.stages.CallStage.TheVariants.{Faced}
use Rattle.wh_instance.specs.declared.stages.TurnResult.{TurnResult}
use Rattle.wh_instance.specs.declared.stages.TurnResult.TheVariants as turned
use Rattle.wh_instance.specs.Turned.{HasRest, IsCame}
use Rattle.wh_instance.specs.Tenancy.{HostInstanceState, state_over, IsWhere, RepresentsTenant}

-- it represents some instance with an open call
abbrev pub HasOpenCall : {M : Type 0} → Setting M → HostInstanceState → M → Type 0
HasOpenCall w x m = (t : Tenant) × (t.open_calls ≢ []) × RepresentsTenant w x m t

-- ---- before the journal is written

-- In a turn of q charges the present call of this instance gets so far, with these pieces and charges; the answer says the
-- outcome. It has begun, and where it hasn't ended the code's instance has it where it is then.
pub record AdvancesTenant {M : Type 0} (w : Setting M) (q : ℕ) (m : M) (t : Tenant) (e : Entry) (es : List Entry)
    (answer : TurnOutcome) (pieces charges : ℕ) (x2 : HostInstanceState) (m2 : M) : Type 0 where
  pub to : Upshot
  pub rest : Rest
  pub doing : Doing
  pub proceeds : Proceeds w.bytes w.ready w.keeps t.inst q e.call m t.rest t.doing to pieces charges m2 rest doing
  pub is_came : IsCame answer to
  pub store : HasRest w (state_over x2 m2) t.inst rest
  pub begun : x2.progress ≢ Faced
  pub is_where : doing ≢ resting → IsWhere w x2 m2 t.inst rest doing (gone_further e pieces charges ∷ es)
  pub few_pieces : e.call.fragments + pieces < 2 ^ 64
  pub in_fuel : e.call.charges + charges ≤ e.call.fuel

-- what stays of the code's instance meanwhile
pub record StaysBut (x x2 : HostInstanceState) : Type 0 where
  pub places : x2.places ≡ x.places
  pub journal : x2.journal ≡ x.journal
  pub waiting_for : x2.waiting_for ≡ x.waiting_for
  pub dead : x2.dead ≡ x.dead

-- whatever instance with an open call it represents does so
abbrev pub AdvancesAny : {M : Type 0} → Setting M → ℕ → HostInstanceState → M → TurnOutcome → ℕ → ℕ → HostInstanceState → M → Type 0
AdvancesAny w q x m answer pieces charges x2 m2 =
    (t : Tenant) (e : Entry) (es : List Entry) → t.open_calls ≡ e ∷ es → RepresentsTenant w x m t
    → AdvancesTenant w q m t e es answer pieces charges x2 m2

-- ---- the whole turn

-- Nothing was done: it was a turn without charges, and a device fault is kept.
pub record KeepsItsFault {M : Type 0} (w : Setting M) (q : ℕ) (m : M) (t : Tenant) (e : Entry) (m2 : M) : Type 0 where
  pub fault : SwapError
  pub term : Term
  pub waiting_for : t.waiting_for ≡ Some (for_device fault)
  pub doing : t.doing ≡ computing term
  pub no_charges : q ≡ 0
  pub same : m2 ≡ m
  pub next : IsNext t.inst (config (store_with (w.bytes m) t.rest) [] term)
  pub fuel_left : e.call.charges < e.call.fuel
  pub ready : (need : Need) → Asks t.inst (config (store_with (w.bytes m) t.rest) [] term) need → w.ready m need

-- these bytes are in a memory with these ones, and are at most 4096
abbrev pub IsInMemory : List ℕ → Need → Type 0
IsInMemory bytes need = (need.at + need.length ≤ length bytes) × (need.length ≤ 4096)

-- the answer is this one, and says whether no step was taken
abbrev pub SaysStill : TurnResult → ℕ → (Bool → TurnResult) → Type 0
SaysStill answer steps which =
    (still : Bool) × (answer ≡ which still) × MatchBool still (steps ≡ 0) (¬ (steps ≡ 0))

-- So the turn leaves the instance, by its outcome. A call that has ended is closed over whatever space shows this memory.
abbrev pub LeavesTenant : {M : Type 0} → Setting M → ℕ → M → Tenant → Entry → List Entry → ℕ → ℕ → Rest → Doing
    → TurnResult → HostInstanceState → M → Upshot → Type 0
LeavesTenant w q m t e es k n r d answer x2 m2 (to_end o) =
    (answer ≡ turned.Ended) × ((s : Space) → view s t.place ≡ w.bytes m2
    → (t2 : Tenant) × Closes s t (ended_by (gone_further e k n) o) es r t2 × RepresentsTenant w x2 m2 t2)
LeavesTenant w q m t e es k n r d answer x2 m2 out_of_fuel =
    (answer ≡ turned.Fuel) × RepresentsTenant w x2 m2 (gone_on t (gone_further e k n) es r d (Some for_fuel))
LeavesTenant w q m t e es k n r d answer x2 m2 (to_wait need) =
    SaysStill answer (k + n) (turned.Frame need) × IsInMemory (w.bytes m2) need
    × RepresentsTenant w x2 m2 (gone_on t (gone_further e k n) es r d (at_frame (k + n) t.waiting_for))
LeavesTenant w q m t e es k n r d answer x2 m2 to_go_on =
    (SaysStill answer (k + n) turned.Again × KeepsNoFault (k + n) t.waiting_for
    × RepresentsTenant w x2 m2 (gone_on t (gone_further e k n) es r d None))
    ⊎ ((answer ≡ turned.Kept) × KeepsItsFault w q m t e m2 × RepresentsTenant w x2 m2 t)

-- In a turn of q charges the present call of this instance gets so far, and takes n charges, as the host's definitions say, and
-- the instance is left so.
pub record TurnsTenant {M : Type 0} (w : Setting M) (q : ℕ) (m : M) (t : Tenant) (e : Entry) (es : List Entry)
    (answer : TurnResult) (charges : ℕ) (x2 : HostInstanceState) (m2 : M) : Type 0 where
  pub to : Upshot
  pub pieces : ℕ
  pub rest : Rest
  pub doing : Doing
  pub proceeds : Proceeds w.bytes w.ready w.keeps t.inst q e.call m t.rest t.doing to pieces charges m2 rest doing
  pub leaves : LeavesTenant w q m t e es pieces charges rest doing answer x2 m2 to

abbrev pub TurnsAny : {M : Type 0} → Setting M → ℕ → HostInstanceState → M → TurnResult → ℕ → HostInstanceState → M → Type 0
TurnsAny w q x m answer charges x2 m2 =
    (t : Tenant) (e : Entry) (es : List Entry) → t.open_calls ≡ e ∷ es → RepresentsTenant w x m t
    → TurnsTenant w q m t e es answer charges x2 m2
