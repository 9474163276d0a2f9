-- An instance has begun with what its owner gave it, whatever befalls its host; and with any quota its segments lie
-- within its table and its memory.
use Rattle.std.proofs.Common.{◌≡◌, ◌<◌, ◌≤◌, ℕ, ℤ, inl, inr, List, [], ◌∷◌, Option, Some, refl, sym, subst, ◌∙◌}
use Rattle.wh_model.specs.declared.memory.Need.{Need}
use Rattle.wh_model.specs.Format.{FuncType, Import, Module}
use Rattle.wh_model.specs.Execution.Store.{Instance, Store}
use Rattle.wh_model.specs.Execution.{FuncInst, Value, Beginning, Imported, ImportsGlobal, IsInitial, Parameters, Piece, Prepares, begins, first_size, in_bounds, last_size, memory_min, needs_more, out_of_bounds, segment_bounds}
use Rattle.wh_model.proofs.Instance.{one_beginning}
use Rattle.wh_space_model.specs.declared.Tax.{Tax}
use Rattle.wh_space_model.proofs.Chained.{empty_sound}
use Rattle.wh_space_model.specs.{Space}
use Rattle.wh_host_model.specs.declared.plain.TurnEnd.{TurnEnd}
use Rattle.wh_host_model.specs.{Entry, given_of}
use Rattle.wh_host_model.specs.Host.{Closes, Turn, can_go_on, faces_next, has_ended, has_no_frame, has_no_fuel, is_dead, is_idle, keeps_its_fault, AllBefall, AllSeeAsMany, Befalls, ComesAbout, Step, by_event, by_misreading, Cancels, Refuels, Retries, TakesCall, has_more, may_try, Loaded, Rest, Tenant, World, empty_world, loaded_of, tenant}
use Rattle.wh_host_model.specs.Host.OwnerCalls as requests
use Rattle.wh_host_model.proofs.Host.Limits.{initial_still}
use Rattle.wh_host_model.proofs.Host.Running.{IsGoodBy, IsKeptUp, events_keep}

-- it began so, of this module
abbrev pub HasBegun : Module → Parameters → Instance → Type 0
HasBegun m p inst = (s : Store) × (ps : List Piece) × IsInitial m p (begins inst s ps)

abbrev KeepsBeginning : Module → Parameters → Tenant → List ℕ → Option Need → Type 0
KeepsBeginning m p t bytes want = HasBegun m p t.inst

closes_begun : {m : Module} {p : Parameters} {s : Space} {t t2 : Tenant} {e : Entry} {es : List Entry} {r : Rest} → Closes s t e es r t2 → HasBegun m p t.inst → HasBegun m p t2.inst
closes_begun (faces_next a f) has = has
closes_begun (is_dead d) has = has

turn_begun : {m : Module} {p : Parameters} {q : ℕ} {s s2 : Space} {t t2 : Tenant} {answer : TurnEnd} → Turn q s t answer s2 t2 → HasBegun m p t.inst → HasBegun m p t2.inst
turn_begun (is_idle none) has = has
turn_begun (has_ended a g l p c) has = closes_begun c has
turn_begun (has_no_fuel a g l p) has = has
turn_begun (has_no_frame a g l p) has = has
turn_begun (can_go_on a g l p f) has = has
turn_begun (keeps_its_fault a b c d e f g) has = has

cancel_begun : {m : Module} {p : Parameters} {s s2 : Space} {t t2 : Tenant} → Cancels s t s2 t2 → HasBegun m p t.inst → HasBegun m p t2.inst
cancel_begun (requests.ends x l p c) has = closes_begun c has

refuel_begun : {m : Module} {p : Parameters} {n : ℕ} {t t2 : Tenant} → Refuels t n t2 → HasBegun m p t.inst → HasBegun m p t2.inst
refuel_begun (has_more a b) has = has

retry_begun : {m : Module} {p : Parameters} {t t2 : Tenant} → Retries t t2 → HasBegun m p t.inst → HasBegun m p t2.inst
retry_begun (may_try a b) has = has

accept_begun : {m mm : Module} {p : Parameters} {s : Space} {t t2 : Tenant} {name : List ℕ} {given : List ℤ} {fuel at : ℕ} → TakesCall mm s t name given fuel at t2 → HasBegun m p t.inst → HasBegun m p t2.inst
accept_begun {m = m} {p = p} a has = subst (λ (z : Tenant). HasBegun m p z.inst) (sym a.after) has

begun_up : IsKeptUp KeepsBeginning
begun_up = record {
  turned = λ has x. turn_begun x has;
  cancelled = λ has x. cancel_begun x has;
  refuelled = λ has x. refuel_begun x has;
  faulted = λ has some a b. has;
  retried = λ has x. retry_begun x has;
  accepted = λ s has x. accept_begun x has;
  begun = λ m place of params p inst s ps fuel given initial few starts. (s, ps, initial);
  forked = λ {m} {p} {p2} {t} has none same place params. (has.0, has.1, initial_still m p p2 t.inst has.0 has.1 has.2 same);
}

begun_empty : (frames slots : ℕ) (tax : Tax) → IsGoodBy KeepsBeginning (empty_world frames slots tax)
begun_empty frames slots tax = record {
  sound = empty_sound frames slots tax;
  modules = λ k l x. absurd (cc x);
  apart = λ i j a b x y e. absurd (cc x);
  owned = λ place c e. absurd (cc e);
  each = λ i t x. absurd (cc x);
}

misread_begun : (w : World) (s2 : Space) → IsGoodBy KeepsBeginning w → AllSeeAsMany w.space s2 → IsGoodBy KeepsBeginning (record w { space = s2 })
misread_begun w s2 good same = record {
  sound = same.1;
  modules = good.modules;
  apart = good.apart;
  owned = λ place c e. let alike = same.0 place in good.owned place c (sym alike.claim ∙ e);
  each = λ i t x.
      let f = good.each i t x in
      let alike = same.0 t.place in
      record { loaded = f.loaded; is_loaded = f.is_loaded; claimed = alike.claim ∙ f.claimed; kept = f.kept };
}

step_begun : (w w2 : World) (x : Step) → IsGoodBy KeepsBeginning w → Befalls w x w2 → IsGoodBy KeepsBeginning w2
step_begun w w2 (by_event e) good h = events_keep KeepsBeginning begun_up w w2 e good h
step_begun w w2 by_misreading good h = subst (IsGoodBy KeepsBeginning) (sym h.2) (misread_begun w h.0 good h.1)

all_begun : (xs : List Step) (w w2 : World) → IsGoodBy KeepsBeginning w → AllBefall w xs w2 → IsGoodBy KeepsBeginning w2
all_begun [] w w2 good r = subst (IsGoodBy KeepsBeginning) (sym r) good
all_begun (x ∷ xs) w w2 good r = all_begun xs r.0 w2 (step_begun w r.0 x good r.1) r.2

-- it did, of the module that its number means
pub has_begun : (w : World) (i : ℕ) (t : Tenant) → ComesAbout w → tenant w i ≡ Some t → (l : Loaded) × (loaded_of w t.of ≡ Some l) × HasBegun l.m (given_of t.params) t.inst
has_begun w i t c there =
    let good = all_begun c.steps (empty_world c.frames c.slots c.tax) w (begun_empty c.frames c.slots c.tax) c.befall in
    let fine = good.each i t there in
    (fine.loaded, fine.is_loaded, fine.kept)

-- ---- with another limit

global_still : (p p2 : Parameters) (i : Import) (v : Value) → p2.base ≡ p.base → p2.salt ≡ p.salt → ImportsGlobal p2 i v → ImportsGlobal p i v
global_still p p2 i v base salt (from, inl (name, desc, is)) = (from, inl (name, desc, rw (← base) is))
global_still p p2 i v base salt (from, inr (name, desc, is)) = (from, inr (name, desc, rw (← salt) is))

imported_still : (types : List FuncType) (p p2 : Parameters) (is : List Import) (fs : List FuncInst) (vs : List Value) → p2.base ≡ p.base → p2.salt ≡ p.salt → Imported types p2 is fs vs → Imported types p is fs vs
imported_still types p p2 [] fs vs base salt h = h
imported_still types p p2 (i ∷ is) fs vs base salt (inl (f, rest, one, same, more)) = inl (f, rest, one, same, imported_still types p p2 is rest vs base salt more)
imported_still types p p2 (i ∷ is) fs vs base salt (inr (v, rest, one, same, more)) = inr (v, rest, global_still p p2 i v base salt one, same, imported_still types p p2 is fs rest base salt more)

prepared_still : (m : Module) (p p2 : Parameters) (inst : Instance) (globals : List Value) (elements segments : List Piece) → p2.base ≡ p.base → p2.salt ≡ p.salt → Prepares m p2 inst globals elements segments
    → Prepares m p (record inst { page_limit = last_size m.memories p.page_limit }) globals elements segments
prepared_still m p p2 inst globals elements segments base salt pr = record {
  types = pr.types;
  page_limit = refl;
  hosts = pr.hosts;
  owns = pr.owns;
  imported = pr.imported;
  begun = pr.begun;
  imports = imported_still m.types p p2 m.imports pr.hosts pr.imported base salt pr.imports;
  defines = pr.defines;
  funcs = pr.funcs;
  begins = pr.begins;
  globals_are = pr.globals_are;
  elements_at = pr.elements_at;
  segments_at = pr.segments_at;
}

fits_at_first : (m : Module) (p : Parameters) (inst : Instance) (s : Store) (ps : List Piece) (b : Beginning) → b ≡ begins inst s ps → IsInitial m p b → first_size m.memories ≤ p.page_limit
fits_at_first m p inst s ps b e (needs_more lt) = absurd (cc e)
fits_at_first m p inst s ps b e (out_of_bounds le pr never) = absurd (cc e)
fits_at_first m p inst s ps b e (in_bounds le pr e1 e2) = le

refused_still : (m : Module) (p p2 : Parameters) (b : Beginning) → p2.base ≡ p.base → p2.salt ≡ p.salt → first_size m.memories ≤ p.page_limit → b ≡ segment_bounds → IsInitial m p2 b → IsInitial m p segment_bounds
refused_still m p p2 b base salt fits e (needs_more lt) = absurd (cc e)
refused_still m p p2 b base salt fits e (out_of_bounds {inst = inst} {globals = globals} {elements = elements} {segments = segments} le pr never) =
    out_of_bounds fits (prepared_still m p p2 inst globals elements segments base salt pr) never
refused_still m p p2 b base salt fits e (in_bounds le pr e1 e2) = absurd (cc e)

-- whatever its limit is, an instance that has begun has no segment out of bounds
pub in_bounds_still : (m : Module) (p p2 : Parameters) (inst : Instance) → HasBegun m p inst → p2.base ≡ p.base → p2.salt ≡ p.salt → ¬ (IsInitial m p2 segment_bounds)
in_bounds_still m p p2 inst (s, ps, initial) base salt out =
    let never : begins inst s ps ≡ segment_bounds = one_beginning m p (begins inst s ps) segment_bounds initial (refused_still m p p2 segment_bounds base salt (fits_at_first m p inst s ps (begins inst s ps) refl initial) refl out) in
    absurd (cc never)

-- and its memory begins with too many pages only where the limit is less than they are
few_at_first : (m : Module) (p : Parameters) (b : Beginning) → b ≡ memory_min → IsInitial m p b → p.page_limit < first_size m.memories
few_at_first m p b e (needs_more lt) = lt
few_at_first m p b e (out_of_bounds le pr never) = absurd (cc e)
few_at_first m p b e (in_bounds le pr e1 e2) = absurd (cc e)

pub too_many_at_first : (m : Module) (p : Parameters) → IsInitial m p memory_min → p.page_limit < first_size m.memories
too_many_at_first m p is = few_at_first m p memory_min refl is
