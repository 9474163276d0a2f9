-- What is known of an instance by its stage.
use Rattle.std.proofs.Common.{◌≡◌, ℕ, List, [], ◌∷◌, ◌++◌, Some, None, slice_get, map, sym, ap, subst, ◌∙◌}
use Rattle.wh_model.specs.Format.{Module}
use Rattle.wh_model.specs.Execution.Store.{Instance, Store}
use Rattle.wh_model.specs.Execution.{own, Piece, Call, Standing, store_at}
use Rattle.wh_syntax.specs.View.{view_module}
use Rattle.wh_control.specs.Represents.{bits_of, result_of}
use Rattle.wh_alone.specs.declared.outcome.Stage.{Stage}
use Rattle.wh_alone.specs.declared.outcome.Stage.TheVariants as stages
use Rattle.wh_call.specs.Ends.{CanCall}
use Rattle.wh_alone.specs.InstanceStates.{Kept, HasStore, RepresentsSomewhere, setting_in, state_in}
use Rattle.wh_alone.specs.Journal.{InstanceState, IsInvoked, IsUnderWay, IsJournalOf, IsSomewhere, listed}

same_call : {call call2 : Call} → Some call ≡ Some call2 → call ≡ call2
same_call e = cc e

same_index : {x y : ℕ} → Some x ≡ Some y → x ≡ y
same_index e = cc e

-- ---- a start function at its invocation

pub record Face (k : Kept) : Type 0 where
  pub call : Call
  pub inst : Instance
  pub s : Store
  pub ps : List Piece
  pub z : Standing
  pub invoked : IsInvoked inst s ps call z
  pub store : HasStore k inst (store_at z)
  pub start : call.func ≡ (view_module k.linked.valid.decoded).start

face_of : (k : Kept) → IsSomewhere (record { kept = k; stage = stages.Fresh }) → Face k
face_of k w =
    let at = w.is_at in
    let st = at.stage in
    let journal = subst (λ es. IsJournalOf w.m (es ++ st.1 ∷ [])) st.0 (subst (λ current. IsJournalOf w.m (w.ended ++ listed current)) st.2 at.journal) in
    record { call = st.1; inst = at.inst; s = at.s; ps = at.ps; z = w.z; invoked = st.3; store = at.store; start = journal.func ∙ ap (λ (m : Module). m.start) at.module_is }

pub can_start : (k : Kept) (func : ℕ) → IsSomewhere (record { kept = k; stage = stages.Fresh }) → (view_module k.linked.valid.decoded).start ≡ Some func → CanCall (setting_in k) (state_in k) func []
can_start k func w start =
    let f = face_of k w in
    let i = f.invoked.invocation in
    let index = same_index (sym i.calls ∙ f.start ∙ start) in
    record {
      context = f.store.0;
      inst = f.inst;
      s = store_at f.z;
      around = f.store.1;
      type = i.type;
      body = i.body;
      vs = f.call.args;
      suits = record { is_own = subst (λ x. slice_get f.inst.funcs x ≡ Some (own i.type i.body)) index i.is_own; types = i.types; fit = i.fit; words = ap (map bits_of) f.invoked.no_args };
    }

pub has_start : (k : Kept) → IsSomewhere (record { kept = k; stage = stages.Fresh }) → (view_module k.linked.valid.decoded).start ≡ None → ⊥
has_start k w none =
    let f = face_of k w in
    let calls = f.invoked.invocation.calls in
    let start = f.start in
    cc

-- ---- a call that is under way

way_stands : {k : Kept} {inst : Instance} {s : Store} {ps : List Piece} {call : Call} {z : Standing} → IsUnderWay k inst s ps call z → RepresentsSomewhere k
way_stands {inst = inst} way = record { out = result_of way.invocation.type; inst = inst; cfg = way.at; stands = way.machine; settled = way.settled }

pub starting_stands : (k : Kept) → IsSomewhere (record { kept = k; stage = stages.Starting }) → RepresentsSomewhere k
starting_stands k w = way_stands w.is_at.stage.3

pub calling_stands : (k : Kept) → IsSomewhere (record { kept = k; stage = stages.Calling }) → RepresentsSomewhere k
calling_stands k w = way_stands w.is_at.stage.4

-- ---- what contracts see

-- the parts of an instance at this stage
abbrev pub record_of : Kept → Stage → InstanceState
record_of k stage = record { kept = k; stage = stage }

pub at_stage : (k : Kept) (stage stage2 : Stage) (i : InstanceState) → stage ≡ stage2 → record_of k stage ≡ i → record_of k stage2 ≡ i
at_stage k stage stage2 i e view = ap (λ s. record_of k s) (sym e) ∙ view
