-- Where an instance is once its open call, or its next one, has come further.
use Rattle.std.proofs.Common.{◌≡◌, ◌⊎◌, inl, inr, Bool, true, false, ℕ, ◌+◌, List, [], ◌∷◌, ◌++◌, length, append-nil, Option, Some, None, slice_get, map, reverse, refl, sym, ap, subst, ◌∙◌, arith}
use Rattle.std.specs.List.{AllByRecursion}
use Rattle.wh_model.specs.declared.ValType.{ValType}
use Rattle.wh_model.specs.Format.{nothing, FuncType, Module}
use Rattle.wh_model.specs.Validity.{Context, operand}
use Rattle.wh_model.specs.Execution.Store.{Instance, Store}
use Rattle.wh_model.specs.Execution.{Value, type_of, own, code, called, Config, config, store_of, After, Parameters, AreGiven, Piece, IsInitial, begins, Past, none_yet, one_more, Call, returned, stopped, cancelled, pending, dead, with_pieces, Invocation, Stands, is_invoked, is_under_way, Ends, has_returned, has_trapped, Standing, idle, running, store_at}
use Rattle.wh_model.specs.Execution.Replay as model
use Rattle.wh_model.proofs.Histories.{past_then}
use Rattle.wh_model.proofs.Journals.{functions_same, cancelled_stays}
use Rattle.wh_syntax.specs.View.{view_module}
use Rattle.wh_control.specs.Represents.{bits_of, result_of, IsFunc}
use Rattle.wh_control.proofs.Jumps.{all_at}
use Rattle.wh_control.specs.Parts.{funcs_in}
use Rattle.wh_machine.specs.Opening.{IsOwnCall}
use Rattle.wh_machine.specs.MachineRuns.{linked_parts, IsInstanceOf}
use Rattle.wh_machine.proofs.Opened.{own_of}
use Rattle.wh_imports.specs.LinkedState.{LinkedState}
use Rattle.wh_alone.specs.declared.outcome.Outcome.{Outcome}
use Rattle.wh_alone.specs.declared.outcome.Outcome.TheVariants.{Returned, Trapped, OutOfFuel}
use Rattle.wh_alone.specs.declared.outcome.Stage.{Stage}
use Rattle.wh_alone.specs.declared.outcome.Stage.TheVariants as stages
use Rattle.wh_call.specs.Arguments.{HasCall}
use Rattle.wh_alone.specs.InstanceStates.{Kept, HasStore, EndsBy, ContinuesTo, InvocationEnds}
use Rattle.wh_alone.specs.Journal.{IsOutcome, HasResults, ended_as, open_as, HasStarted, HasFailed, IsInvoked, IsUnderWay, IsStage, IsJournalOf, IsAtStanding, IsSomewhere, InstanceState, further, called_so, GoesOnWith, CallEnds, GivenUp}
use Rattle.wh_alone.specs.Stages.{after_start, after_call, IsOpen}
use Rattle.wh_alone.proofs.Journals.{all_join, change_last, add_last, started_then}
use Rattle.wh_alone.proofs.Ending.{ends_from}

-- ---- calls

-- the result of a function that is called
declared : (k : Kept) {inst : Instance} {s w : Store} {call : Call} {c : Config} → HasStore k inst s → (i : Invocation inst w call c) → i.type.results ≡ operand (result_of i.type)
declared k {inst} {call = call} (cx, st) i =
    let u : IsOwnCall inst i.index (map bits_of call.args) i.type i.body call.args = record { is_own = i.is_own; types = i.types; fit = i.fit; words = refl } in
    let o = own_of st u in
    let f = all_at (IsFunc cx) (funcs_in (linked_parts k.linked)) o.y o.g st.instance.program.each o.at in
    subst (λ (t : FuncType). t.results ≡ operand (result_of t)) (sym o.is_type) f.results

-- one value at most is its own reverse
short_reverse : (us : List Value) (t : Option ValType) → map type_of us ≡ operand t → reverse us ≡ us
short_reverse [] t e = refl
short_reverse (u ∷ []) t e = refl
short_reverse (u ∷ v ∷ us) None e = absurd (cc e)
short_reverse (u ∷ v ∷ us) (Some t) e = absurd (cc e)

-- a call with other fuel, charges and outcome
abbrev pub come_to : Call → ℕ → ℕ → model.Outcome → Call
come_to call fuel n o = record call { fuel = fuel; charges = n; outcome = o }

abbrev again : {inst : Instance} {w : Store} {call : Call} {c : Config} (fuel n : ℕ) (o : model.Outcome) → Invocation inst w call c → Invocation inst w (come_to call fuel n o) c
again fuel n o i = record { index = i.index; type = i.type; body = i.body; calls = i.calls; is_own = i.is_own; types = i.types; fit = i.fit; begins = i.begins }

-- ---- what is known before a call comes further

pub record Before (k2 : Kept) (m : Module) (p : Parameters) (ended : List Call) (call : Call) : Type 0 where
  pub module_is : m ≡ view_module k2.linked.valid.decoded
  pub given : AreGiven p
  pub journal : IsJournalOf m (ended ++ call ∷ [])
  pub inst : Instance
  pub first : Store
  pub pieces : List Piece
  pub initial : IsInitial m p (begins inst first pieces)
  pub results : AllByRecursion (HasResults inst) ended
  pub s : Store
  pub ps : List Piece
  pub past : Past inst first pieces ended s ps
  pub written : call.fragments ≡ length ps

-- the call is the start, or one behind it
abbrev pub Begun : Bool → List Call → List Piece → Type 0
Begun true ended ps = ended ≡ []
Begun false ended ps = HasStarted ended × (ps ≡ [])

abbrev pub after_by : Bool → Outcome → Stage
after_by true outcome = after_start outcome
after_by false outcome = after_call outcome

has_begun : (starting : Bool) (ended : List Call) (ps : List Piece) → Begun starting ended ps → (ended ≡ []) ⊎ HasStarted ended
has_begun true ended ps b = inl b
has_begun false ended ps b = inr b.0

-- ---- the call has ended

at_end : {k2 : Kept} {m : Module} {p : Parameters} {ended : List Call} {call : Call} (b : Before k2 m p ended call) (starting : Bool) (stage : Stage) (fuel n : ℕ) (o : model.Outcome) (s2 : Store) → Begun starting ended b.ps → ¬ (o ≡ dead)
    → Ends b.inst b.s b.ps (come_to call fuel n o) s2 → HasResults b.inst (come_to call fuel n o) → HasStore k2 b.inst s2
    → IsStage stage k2 b.inst s2 [] (ended ++ come_to call fuel n o ∷ []) None (idle s2)
    → IsAtStanding (record { kept = k2; stage = stage }) m p (ended ++ come_to call fuel n o ∷ []) None (idle s2)
at_end {k2} {m} {p} {ended} {call} b starting stage fuel n o s2 begun alive ends results store is = record {
  module_is = b.module_is;
  given = b.given;
  journal = subst (λ cs. IsJournalOf m cs) (sym (append-nil (ended ++ come_to call fuel n o ∷ []))) (change_last m ended call (come_to call fuel n o) refl refl alive (has_begun starting ended b.ps begun) b.journal);
  inst = b.inst;
  first = b.first;
  pieces = b.pieces;
  initial = b.initial;
  results = all_join (HasResults b.inst) ended (come_to call fuel n o ∷ []) b.results (results, tt);
  s = s2;
  ps = [];
  past = past_then b.past (one_more ends none_yet);
  store = store;
  stage = is;
}

idle_then : (k2 : Kept) (inst : Instance) (s2 : Store) (starting : Bool) (ended : List Call) (call : Call) (ps : List Piece) (vs : List Value) → call.outcome ≡ returned vs → Begun starting ended ps → (result : Option ℕ) → IsStage (after_by starting (Returned result)) k2 inst s2 [] (ended ++ call ∷ []) None (idle s2)
idle_then k2 inst s2 true ended call ps vs e begun result = (subst (λ cs. HasStarted (cs ++ call ∷ [])) (sym begun) (ap model.fails e), refl, refl, refl)
idle_then k2 inst s2 false ended call ps vs e begun result = (started_then ended (call ∷ []) begun.0, refl, refl, refl)

failed_then : (k2 : Kept) (inst : Instance) (s2 : Store) (starting : Bool) (ended : List Call) (call : Call) (ps : List Piece) (x : _) → call.outcome ≡ stopped x → Begun starting ended ps → IsStage (after_by starting (Trapped x)) k2 inst s2 [] (ended ++ call ∷ []) None (idle s2)
failed_then k2 inst s2 true ended call ps x e begun = (subst (λ cs. HasFailed (cs ++ call ∷ [])) (sym begun) (ap model.fails e, refl), refl, refl)
failed_then k2 inst s2 false ended call ps x e begun = (started_then ended (call ∷ []) begun.0, refl, refl, refl)

no_results : (inst : Instance) (call : Call) → ((vs : List Value) → call.outcome ≡ returned vs → ⊥) → HasResults inst call
no_results inst call never x type body vs e f g = absurd (never vs g)

-- ---- it goes on

at_open : {k2 : Kept} {m : Module} {p : Parameters} {ended : List Call} {call : Call} (b : Before k2 m p ended call) (starting : Bool) (stage : Stage) (fuel n : ℕ) (c : Config) → Begun starting ended b.ps → HasStore k2 b.inst (store_of c)
    → IsStage stage k2 b.inst b.s b.ps ended (Some (come_to call fuel n pending)) (running c)
    → IsAtStanding (record { kept = k2; stage = stage }) m p (ended ++ []) (Some (come_to call fuel n pending)) (running c)
at_open {k2} {m} {p} {ended} {call} b starting stage fuel n c begun store is =
    let call2 = come_to call fuel n pending in
    subst (λ cs. IsAtStanding (record { kept = k2; stage = stage }) m p cs (Some call2) (running c)) (sym (append-nil ended)) (record {
      module_is = b.module_is;
      given = b.given;
      journal = change_last m ended call call2 refl refl (λ e. cc) (has_begun starting ended b.ps begun) b.journal;
      inst = b.inst;
      first = b.first;
      pieces = b.pieces;
      initial = b.initial;
      results = b.results;
      s = b.s;
      ps = b.ps;
      past = b.past;
      store = store;
      stage = is;
    })

open_then : (k2 : Kept) (inst : Instance) (s : Store) (ps : List Piece) (starting : Bool) (ended : List Call) (call : Call) (z : Standing) → Begun starting ended ps → IsUnderWay k2 inst s ps call z → IsStage (after_by starting OutOfFuel) k2 inst s ps ended (Some call) z
open_then k2 inst s ps true ended call z begun way = (begun, call, refl, way)
open_then k2 inst s ps false ended call z begun way = (begun.0, begun.1, call, refl, way)

-- ---- both

-- what its invocation comes to is where the journal leads
pub comes_further : {k2 : Kept} {m : Module} {p : Parameters} {ended : List Call} {call : Call} (b : Before k2 m p ended call) (starting : Bool) (fuel n : ℕ) (outcome : Outcome) (s2 : Store) (invoked : Config) → Begun starting ended b.ps
    → (i : Invocation b.inst (with_pieces b.s b.ps) call invoked) → EndsBy k2 (result_of i.type) b.inst invoked fuel outcome n s2 → HasStore k2 b.inst s2
    → (o : model.Outcome) × (z : Standing) × IsOutcome outcome o × IsAtStanding (record { kept = k2; stage = after_by starting outcome }) m p (ended ++ ended_as (come_to call fuel n o) o) (open_as (come_to call fuel n o) o) z
comes_further {k2} {m} {p} {ended} {call} b starting fuel n (Returned result) s2 invoked begun i (low, us, types, top, after) store =
    let same = short_reverse us (result_of i.type) types.0 in
    let call2 = come_to call fuel n (returned us) in
    let results : HasResults b.inst call2 = λ x type body vs e f g.
    let values : us ≡ vs = cc g in
    let func = functions_same i x type body e f in
    ap (map type_of) (sym values) ∙ types.0 ∙ sym (declared k2 store i) ∙ ap (λ (t : FuncType). t.results) func.0 in (
      returned us,
      idle s2,
      top ∙ ap (λ vs. slice_get (map bits_of vs) 0) (sym same),
      at_end b starting (after_by starting (Returned result)) fuel n (returned us) s2 begun (λ e. cc)
          (has_returned refl b.written low (again fuel n (returned us) i) (subst (λ vs. After b.inst invoked n (config s2 [] (code vs nothing))) (sym same) after))
          results store (idle_then k2 b.inst s2 starting ended call2 b.ps us refl begun result),
    )
comes_further {k2} {m} {p} {ended} {call} b starting fuel n (Trapped x) s2 invoked begun i (low, after) store =
    let call2 = come_to call fuel n (stopped x) in (
      stopped x,
      idle s2,
      refl,
      at_end b starting (after_by starting (Trapped x)) fuel n (stopped x) s2 begun (λ e. cc)
          (has_trapped refl b.written low (again fuel n (stopped x) i) after)
          (no_results b.inst call2 (λ vs e. cc)) store (failed_then k2 b.inst s2 starting ended call2 b.ps x refl begun),
    )
comes_further {k2} {m} {p} {ended} {call} b starting fuel n OutOfFuel s2 invoked begun i (all, (c2, after, next, is, machine, runs, settled)) store =
    let way : IsUnderWay k2 b.inst b.s b.ps (come_to call fuel n pending) (running c2) = record {
      first = invoked;
      at = c2;
      stands = refl;
      is_open = refl;
      all_written = b.written;
      spent = all;
      invocation = again fuel n pending i;
      after = after;
      next = next;
      machine = machine;
      runs = runs;
      settled = settled;
    } in (
      pending,
      running c2,
      tt,
      at_open b starting (after_by starting OutOfFuel) fuel n c2 begun (subst (HasStore k2 b.inst) is store) (open_then k2 b.inst b.s b.ps starting ended (come_to call fuel n pending) (running c2) begun way),
    )

-- ---- what instances do

same_call : {call call2 : Call} → Some call ≡ Some call2 → call ≡ call2
same_call e = cc e

abbrev before_at : {k k2 : Kept} {stage : Stage} {m : Module} {p : Parameters} {ended : List Call} {call : Call} {z : Standing} (at : IsAtStanding (record { kept = k; stage = stage }) m p ended (Some call) z) → k2.linked ≡ k.linked → call.fragments ≡ length at.ps → Before k2 m p ended call
before_at at linked written = record {
  module_is = at.module_is ∙ ap (λ (l : LinkedState). view_module l.valid.decoded) (sym linked);
  given = at.given;
  journal = at.journal;
  inst = at.inst;
  first = at.first;
  pieces = at.pieces;
  initial = at.initial;
  results = at.results;
  s = at.s;
  ps = at.ps;
  past = at.past;
  written = written;
}

-- a call that is under way goes on
under_way_on : {k k2 : Kept} {stage : Stage} {m : Module} {p : Parameters} {ended : List Call} {call : Call} {z : Standing} (fuel n : ℕ) (outcome : Outcome) (starting : Bool) (at : IsAtStanding (record { kept = k; stage = stage }) m p ended (Some call) z) → k2.linked ≡ k.linked → Begun starting ended at.ps
    → IsUnderWay k at.inst at.s at.ps call z → ContinuesTo k fuel outcome n k2
    → (o : model.Outcome) × (z2 : Standing) × IsOutcome outcome o × IsAtStanding (record { kept = k2; stage = after_by starting outcome }) m p (ended ++ ended_as (further call fuel n o) o) (open_as (further call fuel n o) o) z2
under_way_on {k} {k2} {call = call} fuel n outcome starting at linked begun way goes =
    let out = result_of way.invocation.type in
    let x = goes out at.inst way.at way.machine way.after.1 in
    let ends = ends_from k2 out at.inst way.first way.at call.charges fuel (call.fuel + fuel) n (call.charges + n) outcome x.0 (omega (arith, way.spent)) refl way.after x.1 in
    comes_further (before_at at linked way.all_written) starting (call.fuel + fuel) (call.charges + n) outcome x.0 way.first begun way.invocation ends x.2

pub starting_on : (k k2 : Kept) (fuel n : ℕ) (outcome : Outcome) → k2.linked ≡ k.linked → ContinuesTo k fuel outcome n k2 → GoesOnWith (record { kept = k; stage = stages.Starting }) fuel outcome n (record { kept = k2; stage = after_start outcome })
starting_on k k2 fuel n outcome linked goes m p ended call z at =
    let st = at.stage in
    under_way_on fuel n outcome true at linked st.0 (subst (λ c. IsUnderWay k at.inst at.s at.ps c z) (sym (same_call st.2)) st.3) goes

pub calling_on : (k k2 : Kept) (fuel n : ℕ) (outcome : Outcome) → k2.linked ≡ k.linked → ContinuesTo k fuel outcome n k2 → GoesOnWith (record { kept = k; stage = stages.Calling }) fuel outcome n (record { kept = k2; stage = after_call outcome })
calling_on k k2 fuel n outcome linked goes m p ended call z at =
    let st = at.stage in
    under_way_on fuel n outcome false at linked (st.0, st.1) (subst (λ c. IsUnderWay k at.inst at.s at.ps c z) (sym (same_call st.3)) st.4) goes

-- the start function is called
pub start_comes : (k k2 : Kept) (func fuel n : ℕ) (outcome : Outcome) → k2.linked ≡ k.linked → (view_module k.linked.valid.decoded).start ≡ Some func → InvocationEnds k func [] fuel outcome n k2 → GoesOnWith (record { kept = k; stage = stages.Fresh }) fuel outcome n (record { kept = k2; stage = after_start outcome })
start_comes k k2 func fuel n outcome linked start comes m p ended call z at =
    let st = at.stage in
    let face = subst (λ c. IsInvoked at.inst at.s at.ps c z) (sym (same_call st.2)) st.3 in
    let i = face.invocation in
    let first : call.func ≡ m.start = (subst (λ es. IsJournalOf m (es ++ call ∷ [])) st.0 at.journal).func in
    let index : i.index ≡ func = index_of (sym i.calls ∙ first ∙ ap (λ (w : Module). w.start) at.module_is ∙ start) in
    let w = store_at z in
    let store_is : w ≡ with_pieces at.s at.ps = ap store_at face.stands ∙ ap store_of i.begins in
    let suits : IsOwnCall at.inst func [] i.type i.body call.args = record { is_own = subst (λ x. slice_get at.inst.funcs x ≡ Some (own i.type i.body)) index i.is_own; types = i.types; fit = i.fit; words = ap (map bits_of) face.no_args } in
    let x = comes at.store.0 at.inst w i.type i.body call.args at.store.1 suits in
    let invoked = config w [] (called i.type i.body (reverse call.args) [] nothing) in
    let j : Invocation at.inst (with_pieces at.s at.ps) call invoked = record { index = i.index; type = i.type; body = i.body; calls = i.calls; is_own = i.is_own; types = i.types; fit = i.fit; begins = ap (λ v. config v [] (called i.type i.body (reverse call.args) [] nothing)) store_is } in
    let ends = ends_total k2 (result_of i.type) at.inst invoked fuel (call.fuel + fuel) n (call.charges + n) outcome x.0 (omega (arith, face.no_fuel)) (omega (arith, face.no_charges)) x.1 in
    comes_further (before_at at linked face.all_written) true (call.fuel + fuel) (call.charges + n) outcome x.0 invoked st.0 j ends x.2
  where
    index_of : {x y : ℕ} → Some x ≡ Some y → x ≡ y
    index_of e = cc e

    ends_total : (k2 : Kept) (out : Option ValType) (inst : Instance) (c : Config) (fuel fuel2 n n2 : ℕ) (outcome : Outcome) (s : Store) → fuel ≡ fuel2 → n ≡ n2 → EndsBy k2 out inst c fuel outcome n s → EndsBy k2 out inst c fuel2 outcome n2 s
    ends_total k2 out inst c fuel fuel2 n n2 outcome s e f x = subst (λ a. EndsBy k2 out inst c fuel2 outcome a s) f (subst (λ a. EndsBy k2 out inst c a outcome n s) e x)

-- another function is called
pub call_comes : (k k2 : Kept) (func : ℕ) (args : List ℕ) (fuel n : ℕ) (outcome : Outcome) → k2.linked ≡ k.linked → ((c : Context) (inst : Instance) → IsInstanceOf k.linked c inst → HasCall inst func args) → InvocationEnds k func args fuel outcome n k2
    → CallEnds (record { kept = k; stage = stages.Idle }) func args fuel outcome n (record { kept = k2; stage = after_call outcome })
call_comes k k2 func args fuel n outcome linked can comes m p ended z at =
    let st = at.stage in
    let (type, body, vs, suits) = can at.store.0 at.inst at.store.1.instance in
    let w = store_at z in
    let store_is : w ≡ with_pieces at.s at.ps = ap store_at st.3 ∙ ap (with_pieces at.s) (sym st.1) in
    let x = comes at.store.0 at.inst w type body vs at.store.1 suits in
    let call0 = called_so func vs 0 0 pending in
    let invoked = config w [] (called type body (reverse vs) [] nothing) in
    let i : Invocation at.inst (with_pieces at.s at.ps) call0 invoked = record { index = func; type = type; body = body; calls = refl; is_own = suits.is_own; types = suits.types; fit = suits.fit; begins = ap (λ v. config v [] (called type body (reverse vs) [] nothing)) store_is } in
    let before : Before k2 m p ended call0 = record {
      module_is = at.module_is ∙ ap (λ (l : LinkedState). view_module l.valid.decoded) (sym linked);
      given = at.given;
      journal = add_last m ended call0 (λ e. cc) (λ e. cc) st.0 at.journal;
      inst = at.inst;
      first = at.first;
      pieces = at.pieces;
      initial = at.initial;
      results = at.results;
      s = at.s;
      ps = at.ps;
      past = at.past;
      written = ap length (sym st.1);
    } in
    let r = comes_further before false fuel n outcome x.0 invoked (st.0, st.1) i x.1 x.2 in
    (vs, r.0, r.1, suits.words, r.2, r.3)

-- ---- calls that are given up

given_up : {k : Kept} {stage : Stage} {m : Module} {p : Parameters} {ended : List Call} {call : Call} {z : Standing} (stage2 : Stage) (starting : Bool) (at : IsAtStanding (record { kept = k; stage = stage }) m p ended (Some call) z) → call.fragments ≡ length at.ps → Begun starting ended at.ps → Stands at.inst at.s at.ps call z
    → IsStage stage2 k at.inst (store_at z) [] (ended ++ record call { outcome = cancelled } ∷ []) None (idle (store_at z))
    → IsAtStanding (record { kept = k; stage = stage2 }) m p (ended ++ record call { outcome = cancelled } ∷ []) None (idle (store_at z))
given_up {k} {call = call} {z = z} stage2 starting at written begun stands is =
    at_end (before_at {k2 = k} at refl written) starting stage2 call.fuel call.charges cancelled (store_at z) begun (λ e. cc)
    (cancelled_stays at.inst at.s at.ps call z stands) (no_results at.inst (record call { outcome = cancelled }) (λ vs e. cc)) at.store is

invoked_stands : {inst : Instance} {s : Store} {ps : List Piece} {call : Call} {z : Standing} → IsInvoked inst s ps call z → Stands inst s ps call z
invoked_stands {inst} {s} {ps} {call} f = subst (Stands inst s ps call) (sym f.stands) (is_invoked f.all_written f.no_charges f.invocation)

way_stands : {k : Kept} {inst : Instance} {s : Store} {ps : List Piece} {call : Call} {z : Standing} → IsUnderWay k inst s ps call z → Stands inst s ps call z
way_stands {inst = inst} {s = s} {ps = ps} {call = call} f = let spent = f.spent in subst (Stands inst s ps call) (sym f.stands) (is_under_way f.all_written (omega (arith, spent)) f.invocation f.after f.next)

dead_then : (k : Kept) (inst : Instance) (s : Store) (ended : List Call) (call : Call) → ended ≡ [] → IsStage stages.Dead k inst s [] (ended ++ record call { outcome = cancelled } ∷ []) None (idle s)
dead_then k inst s ended call e = (subst (λ cs. HasFailed (cs ++ record call { outcome = cancelled } ∷ [])) (sym e) (refl, refl), refl, refl)

pub fresh_up : (k : Kept) → GivenUp (record { kept = k; stage = stages.Fresh }) (record { kept = k; stage = stages.Dead })
fresh_up k m p ended call z at =
    let st = at.stage in
    let face = subst (λ c. IsInvoked at.inst at.s at.ps c z) (sym (same_call st.2)) st.3 in
    given_up stages.Dead true at face.all_written st.0 (invoked_stands face) (dead_then k at.inst (store_at z) ended call st.0)

pub starting_up : (k : Kept) → GivenUp (record { kept = k; stage = stages.Starting }) (record { kept = k; stage = stages.Dead })
starting_up k m p ended call z at =
    let st = at.stage in
    let way = subst (λ c. IsUnderWay k at.inst at.s at.ps c z) (sym (same_call st.2)) st.3 in
    given_up stages.Dead true at way.all_written st.0 (way_stands way) (dead_then k at.inst (store_at z) ended call st.0)

pub calling_up : (k : Kept) → GivenUp (record { kept = k; stage = stages.Calling }) (record { kept = k; stage = stages.Idle })
calling_up k m p ended call z at =
    let st = at.stage in
    let way = subst (λ c. IsUnderWay k at.inst at.s at.ps c z) (sym (same_call st.3)) st.4 in
    given_up stages.Idle false at way.all_written (st.0, st.1) (way_stands way) (started_then ended (record call { outcome = cancelled } ∷ []) st.0, refl, refl, refl)

-- ---- the invariant

-- the call that is open, by the stage
opened : (stage : Stage) (k : Kept) (inst : Instance) (s : Store) (ps : List Piece) (ended : List Call) (current : Option Call) (z : Standing) → IsOpen stage → IsStage stage k inst s ps ended current z → (call : Call) × (current ≡ Some call)
opened stages.Fresh k inst s ps ended current z is st = (st.1, st.2)
opened stages.Starting k inst s ps ended current z is st = (st.1, st.2)
opened stages.Calling k inst s ps ended current z is st = (st.2, st.3)
opened stages.Idle k inst s ps ended current z is st = absurd is
opened stages.Dead k inst s ps ended current z is st = absurd is

pub somewhere_on : (i i2 : InstanceState) (fuel n : ℕ) (outcome : Outcome) → IsOpen i.stage → GoesOnWith i fuel outcome n i2 → IsSomewhere i → IsSomewhere i2
somewhere_on i i2 fuel n outcome is goes w =
    let at = w.is_at in
    let call = opened i.stage i.kept at.inst at.s at.ps w.ended w.current w.z is at.stage in
    let x = goes w.m w.p w.ended call.0 w.z (subst (λ current. IsAtStanding i w.m w.p w.ended current w.z) call.1 at) in
    record { m = w.m; p = w.p; ended = _; current = _; z = x.1; is_at = x.3 }

pub somewhere_called : (i i2 : InstanceState) (func : ℕ) (args : List ℕ) (fuel n : ℕ) (outcome : Outcome) → i.stage ≡ stages.Idle → CallEnds i func args fuel outcome n i2 → IsSomewhere i → IsSomewhere i2
somewhere_called i i2 func args fuel n outcome is called w =
    let at = w.is_at in
    let st = subst (λ s. IsStage s i.kept at.inst at.s at.ps w.ended w.current w.z) is at.stage in
    let x = called w.m w.p w.ended w.z (subst (λ current. IsAtStanding i w.m w.p w.ended current w.z) st.2 at) in
    record { m = w.m; p = w.p; ended = _; current = _; z = x.2; is_at = x.5 }

pub somewhere_up : (i i2 : InstanceState) → IsOpen i.stage → GivenUp i i2 → IsSomewhere i → IsSomewhere i2
somewhere_up i i2 is up w =
    let at = w.is_at in
    let call = opened i.stage i.kept at.inst at.s at.ps w.ended w.current w.z is at.stage in
    let x = up w.m w.p w.ended call.0 w.z (subst (λ current. IsAtStanding i w.m w.p w.ended current w.z) call.1 at) in
    record { m = w.m; p = w.p; ended = _; current = _; z = _; is_at = x }
