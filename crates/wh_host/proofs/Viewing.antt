-- The memory of one instance, lent from that of all, and an instance over either.
use Rattle.std.proofs.Common.{◌≡◌, ℕ, List, [], Option, length, refl, sym, ap, subst, ◌∙◌, rules}
use Rattle.wh_model.specs.declared.memory.Need.{Need}
use Rattle.wh_model.specs.Validity.{Context}
use Rattle.wh_model.specs.declared.ValType.{ValType}
use Rattle.wh_model.specs.Execution.Store.{Instance, Store}
use Rattle.wh_model.specs.Execution.{Config, Term, config, trapped, Piece, Within, Call, Invocation, IsSettled}
use Rattle.wh_model.specs.Focus.Focused.{Focused}
use Rattle.wh_model.specs.Focus.{running, finished, stopped, plug}
use Rattle.wh_space_model.specs.{Space, view, IsSound}
use Rattle.wh_space_model.specs.Ready.{Ready}
use Rattle.wh_host_model.specs.Host.{StepsAlone, Rest, Doing, Tenant, store_with}
use Rattle.wh_host_model.specs.{Entry}
use Rattle.wh_control.specs.Parts.{ProgramParts, funcs_in}
use Rattle.wh_control.specs.Represents.{CallsState, Func, RepresentsCalls, result_of}
use Rattle.wh_control.specs.declared.store.Store as code_store
use Rattle.wh_machine.specs.declared.machine.Machine.{Machine}
use Rattle.wh_machine.specs.MachineRuns.{RepresentsInstance, RepresentsMachine, calls_in}
use Rattle.wh_machine.specs.CallStates.{Setting, call_state, parts_setting}
use Rattle.wh_machine.proofs.Coming.{standing_settled}
use Rattle.wh_instance.specs.Turned.{IsStarting, IsFaced, IsComputing}
use Rattle.wh_instance.specs.Tenancy.{HostInstanceState, IsWhere, rests, writes, is_faced, is_under_way, RepresentsTenant}
use Rattle.wh_space.specs.declared.view.View.{View}
use Rattle.wh_space.specs.StepViews.{KeepsRest, keeps_on}
use Rattle.wh_host.proofs.Lending.{Lent}

-- ---- steps

pub steps_alone : (i : ℕ) (s s2 : Space) → IsSound s → KeepsRest i s s2 → StepsAlone i s s2
steps_alone i s s2 sound keeps = search rules

abbrev pub KeepsView : View → View → Type 0
KeepsView v w = (v.memory.ghost_name ≡ w.memory.ghost_name) × (w.place ≡ v.place) × (w.page_limit ≡ v.page_limit)
    × KeepsRest v.place v.memory.now w.memory.now

abbrev pub view_bytes : View → List ℕ
view_bytes v = view v.memory.now v.place

abbrev pub ViewReady : View → Need → Type 0
ViewReady v need = Ready v.memory.now v.place need

-- what is lent is a part of the whole
pub lent : (first : View) → IsSound first.memory.now → Lent view_bytes ViewReady KeepsView (λ s. view s first.place) (λ s need. Ready s first.place need) (StepsAlone first.place) (λ v. v.memory.now) first
lent first sound = record {
  then = λ a b c h k. (h.0 ∙ k.0, k.1 ∙ h.1, k.2 ∙ h.2, keeps_on a.place b.place a.memory.now b.memory.now c.memory.now h.1 h.3 k.3);
  bytes_are = λ x h. ap (view x.memory.now) (sym h.1);
  ready_there = λ x need h r. subst (λ i. Ready x.memory.now i need) h.1 r;
  ready_here = λ x need h r. subst (λ i. Ready x.memory.now i need) (sym h.1) r;
  kept = λ x y h k. steps_alone first.place x.memory.now y.memory.now (h.3.sound sound) (subst (λ i. KeepsRest i x.memory.now y.memory.now) h.1 k.3);
}

-- ---- over another memory with the same bytes

module _ {M N : Type 0} (p : ProgramParts) (n : ℕ) (bytes : M → List ℕ) (ready : M → Need → Type 0) (keeps : M → M → Type 0) (bytes2 : N → List ℕ) (ready2 : N → Need → Type 0) (keeps2 : N → N → Type 0) (m : M) (m2 : N) (same : bytes2 m2 ≡ bytes m) where
  pub store_over : (k : code_store.Store) (inst : Instance) (r : Rest) → (c : Context) × RepresentsInstance p k (bytes m) n c inst (store_with (bytes m) r) → (c : Context) × RepresentsInstance p k (bytes2 m2) n c inst (store_with (bytes2 m2) r)
  store_over k inst r = subst (λ b. (c : Context) × RepresentsInstance p k b n c inst (store_with b r)) (sym same)

  starting_over : (machine : Machine) (k : code_store.Store) (inst : Instance) (call : Call) (r : Rest) (ps : List Piece) → IsStarting (parts_setting p bytes ready keeps n) (call_state machine k m) inst call r ps → IsStarting (parts_setting p bytes2 ready2 keeps2 n) (call_state machine k m2) inst call r ps
  starting_over machine k inst call r ps st = record {
    store = store_over k inst r st.store;
    within = subst (λ b. Within (length b) ps) (sym same) st.within;
    in_pages = st.in_pages;
    few = st.few;
    no_args = st.no_args;
    no_charges = st.no_charges;
    calls_own = st.calls_own;
  }

  faced_over : (machine : Machine) (k : code_store.Store) (inst : Instance) (call : Call) (r : Rest) (func : ℕ) (args : List ℕ) (t : Term) → IsFaced (parts_setting p bytes ready keeps n) (call_state machine k m) inst call r func args t → IsFaced (parts_setting p bytes2 ready2 keeps2 n) (call_state machine k m2) inst call r func args t
  faced_over machine k inst call r func args t f = record {
    store = store_over k inst r f.store;
    invocation = subst (λ b. Invocation inst (store_with b r) call (config (store_with b r) [] t)) (sym same) f.invocation;
    calls = f.calls;
    words = f.words;
    no_charges = f.no_charges;
  }

  computing_over : (machine : Machine) (k : code_store.Store) (inst : Instance) (call : Call) (r : Rest) (t : Term) → IsComputing (parts_setting p bytes ready keeps n) (call_state machine k m) inst call r t → IsComputing (parts_setting p bytes2 ready2 keeps2 n) (call_state machine k m2) inst call r t
  computing_over machine k inst call r t f = record {
    index = f.index;
    type = f.type;
    body = f.body;
    calls = f.calls;
    is_own = f.is_own;
    stands = subst (λ b. RepresentsMachine p machine k b n (result_of f.type) inst (config (store_with b r) [] t)) (sym same) f.stands;
    runs = f.runs;
    settled_in = f.settled_in;
    settled = subst (λ b. IsSettled inst (config (store_with b r) [] t)) (sym same) f.settled;
  }

  pub where_over : (x : HostInstanceState) (inst : Instance) (r : Rest) (d : Doing) (es : List Entry) → IsWhere (parts_setting p bytes ready keeps n) x m inst r d es → IsWhere (parts_setting p bytes2 ready2 keeps2 n) x m2 inst r d es
  where_over x inst r d es (rests at) = rests at
  where_over x inst r d es (writes {ps = ps} {e = e} at some func st left few) = writes at some func (starting_over x.machine x.store inst e.call r ps st) left few
  where_over x inst r d es (is_faced {func = func} {term = term} {e = e} at f) = is_faced at (faced_over x.machine x.store inst e.call r func _ term f)
  where_over x inst r d es (is_under_way {term = term} {e = e} at c within) = is_under_way at (computing_over x.machine x.store inst e.call r term c) within

  pub represents_over : (x : HostInstanceState) (t : Tenant) → RepresentsTenant (parts_setting p bytes ready keeps n) x m t → RepresentsTenant (parts_setting p bytes2 ready2 keeps2 n) x m2 t
  represents_over x t rep = record {
    store = store_over x.store t.inst t.rest rep.store;
    ended = rep.ended;
    open_calls = rep.open_calls;
    is_where = where_over x t.inst t.rest t.doing t.open_calls rep.is_where;
    waiting = rep.waiting;
    counted = rep.counted;
    waiting_for = rep.waiting_for;
    fresh = rep.fresh;
    dead = rep.dead;
  }

-- ---- over a memory of other bytes, as many

abbrev setting_by : ProgramParts → ℕ → Setting (List ℕ)
setting_by p n = parts_setting p (λ b. b) (λ b need. Unit {0}) (λ b b2. Unit {0}) n

abbrev config_over : List ℕ → Config → Config
config_over b (config s f t) = config (record s { bytes = b }) f t
config_over b (trapped s x) = trapped (record s { bytes = b }) x

abbrev over_bytes : List ℕ → Focused → Focused
over_bytes b (running s a ws) = running (record s { bytes = b }) a ws
over_bytes b (finished s vs) = finished (record s { bytes = b }) vs
over_bytes b (stopped s x) = stopped (record s { bytes = b }) x

plug_over : (b : List ℕ) (to : Focused) → plug (over_bytes b to) ≡ config_over b (plug to)
plug_over b (running s a ws) = refl
plug_over b (finished s vs) = refl
plug_over b (stopped s x) = refl

term_of : {s s2 : Store} {t u : Term} → config s [] t ≡ config s2 [] u → t ≡ u
term_of e = cc e

module _ (p : ProgramParts) (n : ℕ) (b b2 : List ℕ) (same : length b2 ≡ length b) where
  instance_on : (k : code_store.Store) (c : Context) (inst : Instance) (s : Store) → RepresentsInstance p k b n c inst s → RepresentsInstance p k b2 n c inst (record s { bytes = b2 })
  instance_on k c inst s r =
      let is = r.store in
      record {
        instance = r.instance;
        store = record { bytes = refl; limit = is.limit; globals = is.globals; global_types = is.global_types; globals_fit = is.globals_fit; table = is.table; named = is.named; inputs = is.inputs; output = is.output; small = is.small; room = is.room };
      }

  store_on : (k : code_store.Store) (inst : Instance) (r : Rest) → (c : Context) × RepresentsInstance p k b n c inst (store_with b r) → (c : Context) × RepresentsInstance p k b2 n c inst (store_with b2 r)
  store_on k inst r (c, is) = (c, instance_on k c inst (store_with b r) is)

  starting_on : (machine : Machine) (k : code_store.Store) (inst : Instance) (call : Call) (r : Rest) (ps : List Piece) → IsStarting (setting_by p n) (call_state machine k b) inst call r ps → IsStarting (setting_by p n) (call_state machine k b2) inst call r ps
  starting_on machine k inst call r ps st = record {
    store = store_on k inst r st.store;
    within = subst (λ l. Within l ps) (sym same) st.within;
    in_pages = st.in_pages;
    few = st.few;
    no_args = st.no_args;
    no_charges = st.no_charges;
    calls_own = st.calls_own;
  }

  faced_on : (machine : Machine) (k : code_store.Store) (inst : Instance) (call : Call) (r : Rest) (func : ℕ) (args : List ℕ) (t : Term) → IsFaced (setting_by p n) (call_state machine k b) inst call r func args t → IsFaced (setting_by p n) (call_state machine k b2) inst call r func args t
  faced_on machine k inst call r func args t f =
      let i = f.invocation in
      record {
        store = store_on k inst r f.store;
        invocation = record { index = i.index; type = i.type; body = i.body; calls = i.calls; is_own = i.is_own; types = i.types; fit = i.fit; begins = ap (config (store_with b2 r) []) (term_of i.begins) };
        calls = f.calls;
        words = f.words;
        no_charges = f.no_charges;
      }

  calls_on : (c : Context) (funcs : List Func) (out : Option ValType) (m : CallsState) (s : Store) (to : Focused) → RepresentsCalls c funcs out m s to → RepresentsCalls c funcs out m (record s { bytes = b2 }) (over_bytes b2 to)
  calls_on c funcs out m s (running s2 a ws) r = (ap (λ (z : Store). record z { bytes = b2 }) r.0, r.1, r.2)
  calls_on c funcs out m s (finished s2 vs) r = (ap (λ (z : Store). record z { bytes = b2 }) r.0, r.1, r.2, r.3, r.4, r.5)
  calls_on c funcs out m s (stopped s2 x) r = r

  machine_on : (m : Machine) (k : code_store.Store) (out : Option ValType) (inst : Instance) (r : Rest) (t : Term) → RepresentsMachine p m k b n out inst (config (store_with b r) [] t) → RepresentsMachine p m k b2 n out inst (config (store_with b2 r) [] t)
  machine_on m k out inst r t is =
      record {
        context = is.context;
        s = record is.s { bytes = b2 };
        focused = over_bytes b2 is.focused;
        around = instance_on k is.context inst is.s is.around;
        calls = calls_on is.context (funcs_in p) out (calls_in m) is.s is.focused is.calls;
        nested = ap (config_over b2) is.nested ∙ sym (plug_over b2 is.focused);
      }

  computing_on : (machine : Machine) (k : code_store.Store) (inst : Instance) (call : Call) (r : Rest) (t : Term) → IsComputing (setting_by p n) (call_state machine k b) inst call r t → IsComputing (setting_by p n) (call_state machine k b2) inst call r t
  computing_on machine k inst call r t f =
      let stands = machine_on machine k (result_of f.type) inst r t f.stands in
      record {
        index = f.index;
        type = f.type;
        body = f.body;
        calls = f.calls;
        is_own = f.is_own;
        stands = stands;
        runs = f.runs;
        settled_in = f.settled_in;
        settled = standing_settled p machine k b2 n (result_of f.type) inst (config (store_with b2 r) [] t) stands f.settled_in;
      }

  where_on : (x : HostInstanceState) (inst : Instance) (r : Rest) (d : Doing) (es : List Entry) → IsWhere (setting_by p n) x b inst r d es → IsWhere (setting_by p n) x b2 inst r d es
  where_on x inst r d es (rests at) = rests at
  where_on x inst r d es (writes {ps = ps} {e = e} at some func st left few) = writes at some func (starting_on x.machine x.store inst e.call r ps st) left few
  where_on x inst r d es (is_faced {func = func} {term = term} {e = e} at f) = is_faced at (faced_on x.machine x.store inst e.call r func _ term f)
  where_on x inst r d es (is_under_way {term = term} {e = e} at c within) = is_under_way at (computing_on x.machine x.store inst e.call r term c) within

  -- an instance that saw these bytes sees the other ones
  pub represents_on : (x : HostInstanceState) (t : Tenant) → RepresentsTenant (setting_by p n) x b t → RepresentsTenant (setting_by p n) x b2 t
  represents_on x t rep = record {
    store = store_on x.store t.inst t.rest rep.store;
    ended = rep.ended;
    open_calls = rep.open_calls;
    is_where = where_on x t.inst t.rest t.doing t.open_calls rep.is_where;
    waiting = rep.waiting;
    counted = rep.counted;
    waiting_for = rep.waiting_for;
    fresh = rep.fresh;
    dead = rep.dead;
  }
