-- One call of a module, as a journal.
use Rattle.std.proofs.Common.{◌≡◌, ◌≤◌, false, ℕ, List, [], ◌∷◌, ◌++◌, Option, Some, None, refl, sym, ap, subst, arith}
use Rattle.std.specs.List.{AllByRecursion}
use Rattle.wh_model.specs.Format.{Module}
use Rattle.wh_model.specs.Execution.Store.{Instance, Store}
use Rattle.wh_model.specs.Execution.{Parameters, AreGiven, Piece, IsInitial, begins, Call, returned, stopped, cancelled, dead, pending, is_invoked, is_under_way, Standing, Stands, Replays, at_rest, at_work}
use Rattle.wh_model.specs.Execution.Replay as model
use Rattle.wh_model.specs.Execution.Replay.{Replay}
use Rattle.wh_model.specs.Laws.{WithinFuel}
use Rattle.wh_model.proofs.Histories.{replays_then}
use Rattle.wh_model.proofs.Journals.{fuel_suffices}
use Rattle.wh_alone.specs.declared.outcome.Outcome.{Outcome}
use Rattle.wh_alone.specs.declared.outcome.Outcome.TheVariants.{Returned, Trapped, OutOfFuel}
use Rattle.wh_alone.specs.declared.outcome.CallResult.TheVariants as alone
use Rattle.wh_alone.specs.declared.outcome.Stage.{Stage}
use Rattle.wh_alone.specs.declared.outcome.Stage.TheVariants as stages
use Rattle.wh_alone.specs.declared.outcome.CallRefusal.{CallRefusal}
use Rattle.wh_alone.specs.declared.outcome.CallRefusal.TheVariants as refusals
use Rattle.wh_model.specs.Linking.{IsAccepted}
use Rattle.wh_call.specs.Arguments.{HasCall}
use Rattle.wh_alone.specs.InstanceStates.{Kept, HasStore}
use Rattle.wh_alone.specs.Journal.{InstanceState, IsOutcome, HasResults, ended_as, open_as, listed, IsStage, IsJournalOf, IsAtStanding, further, called_so, GoesOnWith, CallEnds}
use Rattle.wh_alone.specs.Stages.{IsOpen, RefusesCall}
use Rattle.wh_alone.specs.FirstStages.{written_start, open_start, IsFresh, BeginsInstance}
use Rattle.wh_alone.specs.ModuleRuns.{CameTo, IsStopped, ShowsStore, RunsModule}
use Rattle.wh_machine.specs.MachineRuns.{IsInstanceOf}

-- ---- a journal replays

now_replays : (stage : Stage) (k : Kept) (inst : Instance) (s : Store) (ps : List Piece) (ended : List Call) (current : Option Call) (z : Standing) → IsStage stage k inst s ps ended current z → Replays inst s ps (listed current) z
now_replays stages.Fresh k inst s ps ended current z (none, call, is, f) = subst (λ c. Replays inst s ps (listed c) z) (sym is) (at_work f.is_open (subst (Stands inst s ps call) (sym f.stands) (is_invoked f.all_written f.no_charges f.invocation)) tt)
now_replays stages.Starting k inst s ps ended current z (none, call, is, f) = let spent = f.spent in subst (λ c. Replays inst s ps (listed c) z) (sym is) (at_work f.is_open (subst (Stands inst s ps call) (sym f.stands) (is_under_way f.all_written (omega (arith, spent)) f.invocation f.after f.next)) tt)
now_replays stages.Calling k inst s ps ended current z (started, none, call, is, f) = let spent = f.spent in subst (λ c. Replays inst s ps (listed c) z) (sym is) (at_work f.is_open (subst (Stands inst s ps call) (sym f.stands) (is_under_way f.all_written (omega (arith, spent)) f.invocation f.after f.next)) tt)
now_replays stages.Idle k inst s ps ended current z (started, none, is, there) = subst (λ c. Replays inst s ps (listed c) z) (sym is) (subst (Replays inst s ps []) (sym there) at_rest)
now_replays stages.Dead k inst s ps ended current z (failed, is, there) = subst (λ c. Replays inst s ps (listed c) z) (sym is) (subst (Replays inst s ps []) (sym there) at_rest)

replay_of : (m : Module) (p : Parameters) (calls : List Call) (z : Standing) (inst : Instance) (s : Store) (ps : List Piece) → AreGiven p → IsJournalOf m calls → IsInitial m p (begins inst s ps) → Replays inst s ps calls z → Replay m p calls z
replay_of m p [] z inst s ps given journal initial replays = absurd journal
replay_of m p (start ∷ calls) z inst s ps given journal initial replays = (given, journal, (inst, s, ps, initial, replays))

-- where an instance is, its journal leads
pub replays_at : (i : InstanceState) (m : Module) (p : Parameters) (ended : List Call) (current : Option Call) (z : Standing) → IsAtStanding i m p ended current z → Replay m p (ended ++ listed current) z
replays_at i m p ended current z at = replay_of m p (ended ++ listed current) z at.inst at.first at.pieces at.given at.journal at.initial (replays_then at.past (now_replays i.stage i.kept at.inst at.s at.ps ended current z at.stage))

-- ---- the start, and a call behind it

within_last : (xs : List Call) (call : Call) → AllByRecursion WithinFuel (xs ++ call ∷ []) → call.charges ≤ call.fuel
within_last [] call h = h.0
within_last (x ∷ xs) call h = within_last xs call h.1

-- the last call of a journal took no more charges than it had fuel
pub within : (m : Module) (p : Parameters) (ended : List Call) (call : Call) (z : Standing) → Replay m p (ended ++ call ∷ []) z → call.charges ≤ call.fuel
within m p [] call z (given, journal, (inst, s, ps, initial, replays)) = (fuel_suffices inst s ps (call ∷ []) z replays).0
within m p (start ∷ rest) call z (given, journal, (inst, s, ps, initial, replays)) = within_last rest call (fuel_suffices inst s ps (start ∷ rest ++ call ∷ []) z replays).1

-- a call that has ended and one that is open are the same list
whole : (call : Call) (o : model.Outcome) → ended_as call o ++ listed (open_as call o) ≡ call ∷ []
whole call (returned vs) = refl
whole call (stopped x) = refl
whole call cancelled = refl
whole call dead = refl
whole call pending = refl

open_stage : (stage : Stage) (k : Kept) (inst : Instance) (s : Store) (ps : List Piece) (ended : List Call) (current : Option Call) (call : Call) (z : Standing) → current ≡ Some call → IsStage stage k inst s ps ended current z → IsOpen stage
open_stage stages.Fresh k inst s ps ended current call z e st = tt
open_stage stages.Starting k inst s ps ended current call z e st = tt
open_stage stages.Calling k inst s ps ended current call z e st = tt
open_stage stages.Idle k inst s ps ended current call z e st = let none = st.2 in absurd (cc (e, none))
open_stage stages.Dead k inst s ps ended current call z e st = let none = st.1 in absurd (cc (e, none))

idle_stage : (stage : Stage) (k : Kept) (inst : Instance) (s : Store) (ps : List Piece) (start : Call) (rest : List Call) (z : Standing) → model.fails start.outcome ≡ false → IsStage stage k inst s ps (start ∷ rest) None z → stage ≡ stages.Idle
idle_stage stages.Fresh k inst s ps start rest z e st = let some = st.2 in absurd (cc some)
idle_stage stages.Starting k inst s ps start rest z e st = let some = st.2 in absurd (cc some)
idle_stage stages.Calling k inst s ps start rest z e st = let some = st.3 in absurd (cc some)
idle_stage stages.Idle k inst s ps start rest z e st = refl
idle_stage stages.Dead k inst s ps start rest z e st = let failed = st.0.0 in absurd (cc (e, failed))

-- ---- the start has come so far

-- it is all that the instance has done
pub record Began (m : Module) (p : Parameters) (i : InstanceState) (fuel : ℕ) (outcome : Outcome) (n : ℕ) : Type 0 where
  pub start : Call
  pub z : Standing
  pub is_at : IsAtStanding i m p (ended_as start start.outcome) (open_as start start.outcome) z
  pub came : CameTo start fuel outcome n

came_to : (m : Module) (p : Parameters) (start : Call) (z : Standing) (fuel n : ℕ) (outcome : Outcome) → IsOutcome outcome start.outcome → start.charges ≡ n → start.fuel ≡ fuel → Replay m p (start ∷ []) z → CameTo start fuel outcome n
came_to m p start z fuel n outcome is charges fuel_is r = let low = within m p [] start z r in record { is_outcome = is; charges_are = charges; within = omega (arith, low, charges, fuel_is) }

start_replays : {m : Module} {p : Parameters} {i : InstanceState} (start : Call) (o : model.Outcome) (z : Standing) → IsAtStanding i m p (ended_as start o) (open_as start o) z → Replay m p (start ∷ []) z
start_replays {m} {p} {i} start o z at = subst (λ cs. Replay m p cs z) (whole start o) (replays_at i m p (ended_as start o) (open_as start o) z at)

begins_by : (m : Module) (p : Parameters) (i i2 : InstanceState) (fuel n : ℕ) (outcome : Outcome) (start : Option ℕ) (ended : List Call) (current : Option Call) (z : Standing) → IsFresh start ended current → IsAtStanding i m p ended current z → IsOpen i.stage → GoesOnWith i fuel outcome n i2 → Began m p i2 fuel outcome n
begins_by m p i i2 fuel n outcome None ended current z (k, one, none) at is goes =
    absurd (closed i.stage i.kept at.inst at.s at.ps ended current z none is at.stage)
  where
    closed : (stage : Stage) (k : Kept) (inst : Instance) (s : Store) (ps : List Piece) (ended : List Call) (current : Option Call) (z : Standing) → current ≡ None → IsOpen stage → IsStage stage k inst s ps ended current z → ⊥
    closed stages.Fresh k inst s ps ended current z e is st = let some = st.2 in cc
    closed stages.Starting k inst s ps ended current z e is st = let some = st.2 in cc
    closed stages.Calling k inst s ps ended current z e is st = let some = st.3 in cc
    closed stages.Idle k inst s ps ended current z e is st = is
    closed stages.Dead k inst s ps ended current z e is st = is
begins_by m p i i2 fuel n outcome (Some x) ended current z (k, none, one) at is goes =
    let call = open_start x k in
    let r = goes m p ended call z (subst (λ c. IsAtStanding i m p ended c z) one at) in
    let o = r.0 in
    let start = further call fuel n o in
    let at2 = subst (λ es. IsAtStanding i2 m p (es ++ ended_as start o) (open_as start o) r.1) none r.3 in
    record { start = start; z = r.1; is_at = at2; came = came_to m p start r.1 fuel n outcome r.2 (omega arith) (omega arith) (start_replays start o r.1 at2) }

pub began_some : (bytes : List ℕ) (p : Parameters) (i i2 : InstanceState) (fuel n : ℕ) (outcome : Outcome) (b : BeginsInstance bytes p i) → IsOpen i.stage → GoesOnWith i fuel outcome n i2 → Began b.m p i2 fuel outcome n
began_some bytes p i i2 fuel n outcome b is goes = begins_by b.m p i i2 fuel n outcome b.m.start b.ended b.current b.z b.fresh b.is_at is goes

none_by : (m : Module) (p : Parameters) (i : InstanceState) (fuel : ℕ) (start : Option ℕ) (ended : List Call) (current : Option Call) (z : Standing) → IsFresh start ended current → IsAtStanding i m p ended current z → ¬ (IsOpen i.stage) → Began m p i fuel (Returned None) 0
none_by m p i fuel None ended current z (k, one, none) at never =
    let start = written_start k in
    let at2 = subst (λ c. IsAtStanding i m p (start ∷ []) c z) none (subst (λ es. IsAtStanding i m p es current z) one at) in
    record { start = start; z = z; is_at = at2; came = record { is_outcome = refl; charges_are = refl; within = omega arith } }
none_by m p i fuel (Some x) ended current z (k, none, one) at never = absurd (never (open_stage i.stage i.kept at.inst at.s at.ps ended current (open_start x k) z one at.stage))

pub began_none : (bytes : List ℕ) (p : Parameters) (i : InstanceState) (fuel : ℕ) (b : BeginsInstance bytes p i) → ¬ (IsOpen i.stage) → Began b.m p i fuel (Returned None) 0
began_none bytes p i fuel b never = none_by b.m p i fuel b.m.start b.ended b.current b.z b.fresh b.is_at never

-- ---- what comes of it

shows : {i : InstanceState} {inst : Instance} {s : Store} → HasStore i.kept inst s → ShowsStore i s
shows (c, is) = record { bytes = sym is.store.bytes; globals = sym is.store.globals; table = sym is.store.table; inputs = sym is.store.inputs; output = sym is.store.output }

pub stopped_start : (bytes : List ℕ) (p : Parameters) (i : InstanceState) (func : ℕ) (args : List ℕ) (fuel n : ℕ) (outcome : Outcome) (m : Module) → IsAccepted bytes m → Began m p i fuel outcome n → ((result : Option ℕ) → outcome ≡ Returned result → ⊥) → RunsModule bytes p func args fuel (alone.Start outcome n) i
stopped_start bytes p i func args fuel n outcome m accepted b never =
    let at = b.is_at in
    record {
      m = m;
      accepted = accepted;
      module_is = at.module_is;
      inst = at.inst;
      s = at.first;
      ps = at.pieces;
      initial = at.initial;
      comes = (b.start, b.z, start_replays b.start b.start.outcome b.z at, shows at.store, b.came, stopped_by outcome never);
    }
  where
    stopped_by : (o : Outcome) → ((result : Option ℕ) → o ≡ Returned result → ⊥) → IsStopped o
    stopped_by (Returned result) never = never result refl
    stopped_by (Trapped x) never = tt
    stopped_by OutOfFuel never = tt

-- a start that has returned
record HasReturned (m : Module) (p : Parameters) (i : InstanceState) (start : Call) (z : Standing) : Type 0 where
  at_one : IsAtStanding i m p (start ∷ []) None z
  alive : model.fails start.outcome ≡ false

has_returned : {m : Module} {p : Parameters} {i : InstanceState} {fuel n : ℕ} {result : Option ℕ} (b : Began m p i fuel (Returned result) n) → HasReturned m p i b.start b.z
has_returned {m} {p} {i} {result = result} b = by_outcome b.start.outcome refl b.came.is_outcome
  where
    by_outcome : (o : model.Outcome) → b.start.outcome ≡ o → IsOutcome (Returned result) o → HasReturned m p i b.start b.z
    by_outcome (returned vs) e is = record { at_one = subst (λ o. IsAtStanding i m p (ended_as b.start o) (open_as b.start o) b.z) e b.is_at; alive = ap model.fails e }
    by_outcome (stopped x) e is = absurd is
    by_outcome cancelled e is = absurd is
    by_outcome dead e is = absurd is
    by_outcome pending e is = absurd is

pub no_call : (bytes : List ℕ) (p : Parameters) (i : InstanceState) (func : ℕ) (args : List ℕ) (fuel n : ℕ) (result : Option ℕ) (m : Module) (e : CallRefusal) → IsAccepted bytes m → Began m p i fuel (Returned result) n → RefusesCall i func args e → RunsModule bytes p func args fuel (alone.NoCall n) i
no_call bytes p i func args fuel n result m e accepted b refuses =
    let h = has_returned b in
    let at = h.at_one in
    let is = idle_stage i.stage i.kept at.inst at.s at.ps b.start [] b.z h.alive at.stage in
    record {
      m = m;
      accepted = accepted;
      module_is = at.module_is;
      inst = at.inst;
      s = at.first;
      ps = at.pieces;
      initial = at.initial;
      comes = (b.start, b.z, replays_at i m p (b.start ∷ []) None b.z at, shows at.store, result, b.came, never e is refuses at.store.0 at.inst at.store.1.instance);
    }
  where
    never : (e : CallRefusal) → i.stage ≡ stages.Idle → RefusesCall i func args e → (c : _) (inst : Instance) → IsInstanceOf i.kept.linked c inst → ¬ (HasCall inst func args)
    never refusals.Busy is r = absurd (subst IsOpen is r)
    never refusals.Dead is r = absurd (cc (is, r))
    never refusals.NoCall is r = r.1

last_results : (inst : Instance) (call : Call) (o : model.Outcome) → call.outcome ≡ o → AllByRecursion (HasResults inst) (ended_as call o) → HasResults inst call
last_results inst call (returned vs) e all = all.0
last_results inst call (stopped x) e all = λ y type body vs p q r. absurd (cc (e, r))
last_results inst call cancelled e all = λ y type body vs p q r. absurd (cc (e, r))
last_results inst call dead e all = λ y type body vs p q r. absurd (cc (e, r))
last_results inst call pending e all = λ y type body vs p q r. absurd (cc (e, r))

pub one_call : (bytes : List ℕ) (p : Parameters) (i i2 : InstanceState) (func : ℕ) (args : List ℕ) (fuel started n : ℕ) (result : Option ℕ) (outcome : Outcome) (m : Module) → IsAccepted bytes m → Began m p i fuel (Returned result) started → CallEnds i func args fuel outcome n i2
    → RunsModule bytes p func args fuel (alone.Call started outcome n) i2
one_call bytes p i i2 func args fuel started n result outcome m accepted b called =
    let h = has_returned b in
    let r = called m p (b.start ∷ []) b.z h.at_one in
    let o = r.1 in
    let call = called_so func r.0 fuel n o in
    let at = r.5 in
    let replay = subst (λ cs. Replay m p (b.start ∷ cs) r.2) (whole call o) (replays_at i2 m p (b.start ∷ ended_as call o) (open_as call o) r.2 at) in
    record {
      m = m;
      accepted = accepted;
      module_is = at.module_is;
      inst = at.inst;
      s = at.first;
      ps = at.pieces;
      initial = at.initial;
      comes = (
        b.start,
        call,
        r.2,
        replay,
        shows at.store,
        result,
        b.came,
        record { func_is = refl; args_are = r.3; fuel_is = refl; results = last_results at.inst call o refl at.results.1 },
        record { is_outcome = r.4; charges_are = refl; within = within m p (b.start ∷ []) call r.2 replay },
      );
    }
