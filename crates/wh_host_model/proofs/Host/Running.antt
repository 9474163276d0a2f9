-- Every event keeps every instance what its journal comes to.
use Rattle.std.proofs.Common.{◌≡◌, ◌≢◌, ℕ, ℤ, zero, suc, ◌*◌, ◌/◌, ◌<◌, ◌≤◌, ◌⊎◌, ⊎_elim, inl, inr, Option, Some, None, List, [], ◌∷◌, ◌++◌, length, get_or, slice_get, slice_set, replicate, refl, sym, ap, subst, ◌∙◌, arith, rules}
use Rattle.std.proofs.lemmas.List.{get_or-set_same, get_or-set_other, length-replicate}
use Rattle.wh_model.specs.declared.memory.Need.{Need}
use Rattle.wh_model.specs.Format.{Module}
use Rattle.wh_model.specs.Execution.Store.{Instance, Store}
use Rattle.wh_model.specs.Execution.{AreGiven, Parameters, Piece, Beginning, IsInitial, needs_more, out_of_bounds, in_bounds, begins, first_size, last_size}
use Rattle.wh_host_model.specs.declared.plain.TurnEnd.{TurnEnd}
use Rattle.wh_space_model.specs.declared.plain.InstId.{InstId}
use Rattle.wh_space_model.specs.declared.plain.SwapError.{SwapError}
use Rattle.wh_space_model.specs.{Space, Claimed, Occupant, view, claim, claim_of, wants, IsSound, IsFreePlace}
use Rattle.wh_host_model.specs.Host.{LeftAlone, AllLeftAlone, ArrivesSeeing, Doing, Rest, Suspension, Tenant, Loaded, World, for_device, for_fuel, loaded_of, promised, tenant, with_tenant, Closes, faces_next, is_dead, Turn, is_idle, has_ended, has_no_fuel, has_no_frame, can_go_on, keeps_its_fault, TakesCall, Refuels, has_more, Cancels, Retries, may_try, LoadsModule, LetsIn, LetsGo, LetsModuleGo, StartsAs, Forks, MeetsForkFault, Event, turn, load, admit, invoke, refuel, cancel, retry, release, fork, unload, offer, evict_begin, evict_commit, fetch_begin, fetch_commit, provide, epoch, IsTurn, of_none, of_one, AwaitsFrame, AwaitsFrameFor, MovesPages, moved, has_failed, OnlyMoves, AllHappen}
use Rattle.wh_host_model.specs.{Entry, ForkFault, Params, Quota, call_open, given_of, memory, most_fuel, not_admitted, other_limit, with_quota}
use Rattle.wh_host_model.specs.Host.OwnerCalls as requests
use Rattle.wh_model.specs.Linking.{IsAccepted}
use Rattle.wh_host_model.specs.Host.Happens as happens
use Rattle.wh_host_model.specs.Host.Happens.{Happens}
use Rattle.wh_host_model.proofs.Host.Opening.{Apart, apart_none, apart_then, apart_steps, proceeds_apart}
use Rattle.wh_host_model.proofs.Host.Keeping.{Kept, turn_kept, cancel_kept, refuel_kept, faulted_kept, retry_kept, accept_kept, begins_kept, beginner, fork_kept}
use Rattle.wh_host_model.proofs.Host.Limits.{SameLimit}
use Rattle.wh_host_model.proofs.Host.Arriving.{copies_arrive}

-- ---- what is kept of an instance

-- over the bytes of its memory, and what it wants there
abbrev pub Keeping : Type 1
Keeping = Module → Parameters → Tenant → List ℕ → Option Need → Type 0

-- everything that touches an instance keeps it
pub record IsKeptUp (K : Keeping) : Type 0 where
  pub turned : {m : Module} {p : Parameters} {q : ℕ} {s s2 : Space} {t t2 : Tenant} {answer : TurnEnd} → K m p t (view s t.place) (wants s t.place) → Turn q s t answer s2 t2 → K m p t2 (view s2 t.place) (wants s2 t.place)
  pub cancelled : {m : Module} {p : Parameters} {s s2 : Space} {t t2 : Tenant} → K m p t (view s t.place) (wants s t.place) → Cancels s t s2 t2 → K m p t2 (view s2 t.place) (wants s2 t.place)
  pub refuelled : {m : Module} {p : Parameters} {n : ℕ} {t t2 : Tenant} {bytes : List ℕ} {want : Option Need} → K m p t bytes want → Refuels t n t2 → K m p t2 bytes want
  pub faulted : {m : Module} {p : Parameters} {t : Tenant} {bytes : List ℕ} {want : Option Need} {a b : Suspension} → K m p t bytes want → t.waiting_for ≡ Some a → a ≢ for_fuel → b ≢ for_fuel → K m p (record t { waiting_for = Some b }) bytes want
  pub retried : {m : Module} {p : Parameters} {t t2 : Tenant} {bytes : List ℕ} {want : Option Need} → K m p t bytes want → Retries t t2 → K m p t2 bytes want
  pub accepted : {m mm : Module} {p : Parameters} {t t2 : Tenant} {name : List ℕ} {given : List ℤ} {fuel at : ℕ} (s : Space) → K m p t (view s t.place) (wants s t.place) → TakesCall mm s t name given fuel at t2 → K m p t2 (view s t.place) (wants s t.place)
  pub begun : (m : Module) (place of : ℕ) (params : Params) (p : Parameters) (inst : Instance) (s : Store) (ps : List Piece) (fuel : ℕ) {d : Doing} {es os : List Entry} → AreGiven p → IsInitial m p (begins inst s ps) → fuel ≤ most_fuel → StartsAs inst s ps m.start fuel d es os → K m p (beginner place of params inst s d es os) s.bytes None
  pub forked : {m : Module} {p p2 : Parameters} {t : Tenant} {bytes : List ℕ} {want : Option Need} → K m p t bytes want → t.open_calls ≡ [] → SameLimit m p p2 t.inst → (place : ℕ) (params : Params) → K m p2 (record t { place = place; params = params; copied = length t.ended; waiting_for = None }) bytes None

-- ---- what is kept of a host

-- one instance: its module is there, it has what was promised to it, and it is what its journal comes to
pub record IsFineBy (K : Keeping) (modules : List (Option Loaded)) (s : Space) (i : ℕ) (t : Tenant) : Type 0 where
  pub loaded : Loaded
  pub is_loaded : get_or modules t.of None ≡ Some loaded
  pub claimed : claim s t.place ≡ Some (promised i t.params)
  pub kept : K loaded.m (given_of t.params) t (view s t.place) (wants s t.place)

-- what was promised was promised to a live instance
abbrev pub IsOwned : World → Type 0
IsOwned w = (place : ℕ) (c : Claimed) → claim w.space place ≡ Some c → (i : ℕ) × (t : Tenant) × (tenant w i ≡ Some t) × (t.place ≡ place)

-- all instances; and no two lie at one place
pub record IsGoodBy (K : Keeping) (w : World) : Type 0 where
  pub sound : IsSound w.space
  pub modules : (k : ℕ) (l : Loaded) → loaded_of w k ≡ Some l → IsAccepted l.bytes l.m
  pub apart : (i j : ℕ) (a b : Tenant) → tenant w i ≡ Some a → tenant w j ≡ Some b → a.place ≡ b.place → i ≡ j
  pub owned : IsOwned w
  pub each : (i : ℕ) (t : Tenant) → tenant w i ≡ Some t → IsFineBy K w.modules w.space i t

-- ---- numbers

same_or_not : (m n : ℕ) → (m ≡ n) ⊎ (m ≢ n)
same_or_not zero zero = inl refl
same_or_not zero (suc n) = inr (λ e. absurd (omega arith))
same_or_not (suc m) zero = inr (λ e. absurd (omega arith))
same_or_not (suc m) (suc n) = ⊎_elim (λ e. inl (ap suc e)) (λ never. inr (λ e. never (omega arith))) (same_or_not m n)

some_within : {A : Type 0} (xs : List (Option A)) (i : ℕ) (x : A) → get_or xs i None ≡ Some x → i < length xs
some_within [] i x e = absurd (cc e)
some_within (y ∷ xs) zero x e = omega arith
some_within (y ∷ xs) (suc i) x e = let h = some_within xs i x e in omega (arith, h)

one_value : {A : Type 0} (x y : A) → Some x ≡ Some y → x ≡ y
one_value x y e = cc e

-- the instances after one of them was changed, or is gone
at_place : {A : Type 0} (xs : List (Option A)) (i j : ℕ) (o : Option A) (x a : A) → get_or xs i None ≡ Some x → get_or (slice_set xs i o) j None ≡ Some a → ((j ≡ i) × (o ≡ Some a)) ⊎ ((j ≢ i) × (get_or xs j None ≡ Some a))
at_place xs i j o x a there e = search (rules, ⊎_elim, some_within, get_or-set_same, get_or-set_other, same_or_not)

-- another instance is still there
elsewhere : (w : World) (i j : ℕ) (t u : Tenant) (o : Option Tenant) → tenant w i ≡ Some t → tenant w j ≡ Some u → u.place ≢ t.place → get_or (slice_set w.tenants i o) j None ≡ Some u
elsewhere w i j t u o there here far = search rules

-- ---- what belongs to the owner

pub record SameOwner (t t2 : Tenant) : Type 0 where
  pub place : t2.place ≡ t.place
  pub of : t2.of ≡ t.of
  pub params : t2.params ≡ t.params

owner_same : (t : Tenant) → SameOwner t t
owner_same t = record { place = refl; of = refl; params = refl }

closes_owner : {s : Space} {t t2 : Tenant} {e : Entry} {es : List Entry} {r : Rest} → Closes s t e es r t2 → SameOwner t t2
closes_owner (faces_next a f) = record { place = refl; of = refl; params = refl }
closes_owner (is_dead d) = record { place = refl; of = refl; params = refl }

turn_owner : {q : ℕ} {s s2 : Space} {t t2 : Tenant} {answer : TurnEnd} → Turn q s t answer s2 t2 → SameOwner t t2
turn_owner {t = t} (is_idle none) = owner_same t
turn_owner (has_ended a g l p c) = closes_owner c
turn_owner (has_no_fuel a g l p) = record { place = refl; of = refl; params = refl }
turn_owner (has_no_frame a g l p) = record { place = refl; of = refl; params = refl }
turn_owner (can_go_on a g l p f) = record { place = refl; of = refl; params = refl }
turn_owner {t = t} (keeps_its_fault a b c d e f g) = owner_same t

pub turn_apart : {q : ℕ} {s s2 : Space} {t t2 : Tenant} {answer : TurnEnd} → IsSound s → Turn q s t answer s2 t2 → Apart t.place s s2 × IsSound s2
turn_apart {s = s} {t = t} sound (is_idle none) = (apart_none t.place s, sound)
turn_apart {t = t} sound (has_ended {e = e} a g l p c) = let steps = l.steps in (apart_then (proceeds_apart t e g) (apart_steps steps), steps.sound)
turn_apart {t = t} sound (has_no_fuel {e = e} a g l p) = let steps = l.steps in (apart_then (proceeds_apart t e g) (apart_steps steps), steps.sound)
turn_apart {t = t} sound (has_no_frame {e = e} a g l p) = let steps = l.steps in (apart_then (proceeds_apart t e g) (apart_steps steps), steps.sound)
turn_apart {t = t} sound (can_go_on {e = e} a g l p f) = let steps = l.steps in (apart_then (proceeds_apart t e g) (apart_steps steps), steps.sound)
turn_apart {s = s} {t = t} sound (keeps_its_fault a b c d e f g) = (apart_none t.place s, sound)

module _ (K : Keeping) (up : IsKeptUp K) where
  fine_elsewhere : {modules : List (Option Loaded)} {s s2 : Space} {i : ℕ} {t : Tenant} → IsFineBy K modules s i t → LeftAlone t.place s s2 → IsFineBy K modules s2 i t
  fine_elsewhere {s = s} {s2 = s2} {t = t} f alike = record {
    loaded = f.loaded;
    is_loaded = f.is_loaded;
    claimed = alike.claim ∙ f.claimed;
    kept =
        subst (λ w. K f.loaded.m (given_of t.params) t (view s2 t.place) w) (sym alike.wants)
        (subst (λ b. K f.loaded.m (given_of t.params) t b (wants s t.place)) (sym alike.view) f.kept);
  }

  -- ---- one instance changes, and the others see what they saw

  abbrev KeptAt : Module → Params → Tenant → Space → ℕ → Type 0
  KeptAt m p t s place = K m (given_of p) t (view s place) (wants s place)

  fine_changed : (modules : List (Option Loaded)) (s s2 : Space) (i : ℕ) (t t2 : Tenant) → IsFineBy K modules s i t → SameOwner t t2 → Apart t.place s s2
      → ((m : Module) → KeptAt m t.params t s t.place → KeptAt m t.params t2 s2 t.place) → IsFineBy K modules s2 i t2
  fine_changed modules s s2 i t t2 fine owner apart keeps =
      let kept = keeps fine.loaded.m fine.kept in
      let kept2 : KeptAt fine.loaded.m t2.params t2 s2 t.place = subst (λ p. KeptAt fine.loaded.m p t2 s2 t.place) (sym owner.params) kept in
      record {
        loaded = fine.loaded;
        is_loaded = ap (λ n. get_or modules n None) owner.of ∙ fine.is_loaded;
        claimed = ap (claim s2) owner.place ∙ apart.claim ∙ fine.claimed ∙ ap (λ (p : Params). Some (promised i p)) (sym owner.params);
        kept = subst (λ n. KeptAt fine.loaded.m t2.params t2 s2 n) (sym owner.place) kept2;
      }

  changed_owned : (w : World) (i : ℕ) (t t2 : Tenant) (s2 : Space) → IsGoodBy K w → tenant w i ≡ Some t → SameOwner t t2 → Apart t.place w.space s2 → IsOwned (with_tenant w i (Some t2) s2)
  changed_owned w i t t2 s2 good there owner apart place c e =
      ⊎_elim
      (λ (same : place ≡ t.place). (i, t2, get_or-set_same w.tenants i (Some t2) None (some_within w.tenants i t there), owner.place ∙ sym same))
      (λ (other : place ≢ t.place).
      let alike = apart.others place other in
      let was = good.owned place c (sym alike.claim ∙ e) in
      (was.0, was.1, elsewhere w i was.0 t was.1 (Some t2) there was.2 (λ at. other (sym was.3 ∙ at)), was.3))
      (same_or_not place t.place)

  changed : (w : World) (i : ℕ) (t t2 : Tenant) (s2 : Space) → IsGoodBy K w → tenant w i ≡ Some t → SameOwner t t2 → Apart t.place w.space s2 → IsSound s2
      → ((m : Module) → KeptAt m t.params t w.space t.place → KeptAt m t.params t2 s2 t.place) → (IsGoodBy K) (with_tenant w i (Some t2) s2)
  changed w i t t2 s2 good there owner apart sound keeps = record {
    sound = sound;
    modules = good.modules;
    apart = λ j k a b x y e.
        ⊎_elim
        (λ (p : (j ≡ i) × (Some t2 ≡ Some a)).
        ⊎_elim
        (λ (q : (k ≡ i) × (Some t2 ≡ Some b)). p.0 ∙ sym q.0)
        (λ (q : (k ≢ i) × (get_or w.tenants k None ≡ Some b)). absurd (q.0 (good.apart k i b t q.1 there (sym e ∙ sym (ap (λ (z : Tenant). z.place) (one_value t2 a p.1)) ∙ owner.place))))
        (at_place w.tenants i k (Some t2) t b there y))
        (λ (p : (j ≢ i) × (get_or w.tenants j None ≡ Some a)).
        ⊎_elim
        (λ (q : (k ≡ i) × (Some t2 ≡ Some b)). absurd (p.0 (good.apart j i a t p.1 there (e ∙ sym (ap (λ (z : Tenant). z.place) (one_value t2 b q.1)) ∙ owner.place))))
        (λ (q : (k ≢ i) × (get_or w.tenants k None ≡ Some b)). good.apart j k a b p.1 q.1 e)
        (at_place w.tenants i k (Some t2) t b there y))
        (at_place w.tenants i j (Some t2) t a there x);
    owned = changed_owned w i t t2 s2 good there owner apart;
    each = λ j a x.
        ⊎_elim
        (λ (p : (j ≡ i) × (Some t2 ≡ Some a)).
        subst (λ n. IsFineBy K w.modules s2 n a) (sym p.0) (subst (IsFineBy K w.modules s2 i) (one_value t2 a p.1) (fine_changed w.modules w.space s2 i t t2 (good.each i t there) owner apart keeps)))
        (λ (p : (j ≢ i) × (get_or w.tenants j None ≡ Some a)).
        let far : a.place ≢ t.place = λ e. p.0 (good.apart j i a t p.1 there e) in
        fine_elsewhere (good.each j a p.1) (apart.others a.place far))
        (at_place w.tenants i j (Some t2) t a there x);
  }

  -- ---- pages move

  same_space : (w : World) (s2 : Space) → IsGoodBy K w → AllLeftAlone w.space s2 → (IsGoodBy K) (record w { space = s2 })
  same_space w s2 good same = record {
    sound = same.1;
    modules = good.modules;
    apart = good.apart;
    owned = λ place c e. let alike = same.0 place in good.owned place c (sym alike.claim ∙ e);
    each = λ i t x. fine_elsewhere (good.each i t x) (same.0 t.place);
  }

  same_apart : (i : ℕ) (s s2 : Space) → AllLeftAlone s s2 → Apart i s s2
  same_apart i s s2 same = let alike = same.0 i in record { others = λ j n. same.0 j; claim = alike.claim }

  moves_good : (w w2 : World) (id : InstId) (awaits : Tenant → Type 0) (fault : Option SwapError) → ((t : Tenant) → awaits t → AwaitsFrame t) → IsGoodBy K w → MovesPages w id awaits fault w2 → IsGoodBy K w2
  moves_good w w2 id awaits fault await good (moved {s2 = s2} same which) = same_space w s2 good same
  moves_good w w2 id awaits fault await good (has_failed {t = t} {e = f} {s2 = s2} same is live waits) =
      let alike = same.0 t.place in
      changed w id.number t (record t { waiting_for = Some (for_device f) }) s2 good live.0 (record { place = refl; of = refl; params = refl }) (same_apart t.place w.space s2 same) same.1
      (λ m k.
      let there : K m (given_of t.params) t (view s2 t.place) (wants s2 t.place) =
      subst (λ x. K m (given_of t.params) t (view s2 t.place) x) (sym alike.wants) (subst (λ b. K m (given_of t.params) t b (wants w.space t.place)) (sym alike.view) k) in
      up.faulted there (await t waits) (λ e. cc e) (λ e. cc e))

  only_moves : (w w2 : World) → IsGoodBy K w → OnlyMoves w w2 → IsGoodBy K w2
  only_moves w w2 good h = subst (IsGoodBy K) (sym h.2) (same_space w h.0 good h.1)

  -- ---- modules come

  at_end : {A : Type 0} (xs : List (Option A)) (o : Option A) (j : ℕ) (a : A) → get_or (xs ++ o ∷ []) j None ≡ Some a → (get_or xs j None ≡ Some a) ⊎ ((j ≡ length xs) × (o ≡ Some a))
  at_end [] o zero a e = inr (refl, e)
  at_end [] o (suc j) a e = absurd (cc e)
  at_end (x ∷ xs) o zero a e = inl e
  at_end (x ∷ xs) o (suc j) a e = ⊎_elim (λ h. inl h) (λ (h : (j ≡ length xs) × (o ≡ Some a)). inr (omega (arith, h.0), h.1)) (at_end xs o j a e)

  -- who was there is, and who has come
  still_there : {A : Type 0} (xs : List (Option A)) (o : Option A) (j : ℕ) (a : A) → get_or xs j None ≡ Some a → get_or (xs ++ o ∷ []) j None ≡ Some a
  still_there [] o j a e = absurd (cc e)
  still_there (x ∷ xs) o zero a e = e
  still_there (x ∷ xs) o (suc j) a e = still_there xs o j a e

  has_come : {A : Type 0} (xs : List (Option A)) (o : Option A) → get_or (xs ++ o ∷ []) (length xs) None ≡ o
  has_come [] o = refl
  has_come (x ∷ xs) o = has_come xs o

  loads_good : (w w2 : World) (bytes : List ℕ) (number : ℕ) → IsGoodBy K w → LoadsModule w bytes number w2 → IsGoodBy K w2
  loads_good w w2 bytes number good l =
      let new : Loaded = record { bytes = bytes; m = l.m } in
      subst (IsGoodBy K) (sym l.after) (record {
        sound = good.sound;
        modules = λ k x e.
            ⊎_elim
            (λ (h : get_or w.modules k None ≡ Some x). good.modules k x h)
            (λ (h : (k ≡ length w.modules) × (Some new ≡ Some x)). subst (λ (z : Loaded). IsAccepted z.bytes z.m) (one_value new x h.1) l.accepted)
            (at_end w.modules (Some new) k x e);
        apart = good.apart;
        owned = good.owned;
        each = λ i t x. let f = good.each i t x in record { loaded = f.loaded; is_loaded = still_there w.modules (Some new) t.of f.loaded f.is_loaded; claimed = f.claimed; kept = f.kept };
      })

  unloads_good : (w w2 : World) (k : ℕ) → IsGoodBy K w → LetsModuleGo w k w2 → IsGoodBy K w2
  unloads_good w w2 k good l =
      subst (IsGoodBy K) (sym l.after) (record {
        sound = good.sound;
        modules = λ j x e.
            ⊎_elim
            (λ (h : (j ≡ k) × (None ≡ Some x)). absurd (cc h.1))
            (λ (h : (j ≢ k) × (get_or w.modules j None ≡ Some x)). good.modules j x h.1)
            (at_place w.modules k j None l.loaded x l.is_loaded e);
        apart = good.apart;
        owned = good.owned;
        each = λ i t x. let f = good.each i t x in record { loaded = f.loaded; is_loaded = get_or-set_other w.modules k t.of None None (l.unused i t x) ∙ f.is_loaded; claimed = f.claimed; kept = f.kept };
      })

  -- ---- instances come and go

  abbrev bytes_of_beginning : Beginning → List ℕ
  bytes_of_beginning (begins inst s ps) = s.bytes
  bytes_of_beginning b = []

  zeros_from : {m : Module} {p : Parameters} {b : Beginning} (inst : Instance) (s : Store) (ps : List Piece) → IsInitial m p b → b ≡ begins inst s ps → s.bytes ≡ replicate (length s.bytes) 0
  zeros_from inst s ps (needs_more lt) e = absurd (cc e)
  zeros_from inst s ps (out_of_bounds le pr never) e = absurd (cc e)
  zeros_from {m} inst s ps (in_bounds {globals = globals} {elements = elements} le pr e1 e2) e =
      let same : s.bytes ≡ replicate (first_size m.memories * 65536) 0 = sym (ap bytes_of_beginning e) in
      same ∙ ap (λ n. replicate n 0) (sym (ap length same ∙ length-replicate (first_size m.memories * 65536) 0))

  none_there : (xs : List (Option Occupant)) (i : ℕ) → (slice_get xs i ≡ Some None) ⊎ (i ≡ length xs) → get_or xs i None ≡ None
  none_there [] i h = refl
  none_there (x ∷ xs) zero h = ⊎_elim (λ (e : Some x ≡ Some None). one_value x None e) (λ e. absurd (omega (arith, e))) h
  none_there (x ∷ xs) (suc i) h = none_there xs i (⊎_elim (λ e. inl e) (λ e. inr (omega (arith, e))) h)

  vacant : (s : Space) (i : ℕ) → IsFreePlace s i → claim s i ≡ None
  vacant s i free = ap claim_of (none_there s.occupants i free)

  -- one more is there, at a place of its own
  arrived_good : (w : World) (space : Space) (place : ℕ) (c : Claimed) (bytes : List ℕ) (t : Tenant) → IsGoodBy K w → t.place ≡ place → ArrivesSeeing place c bytes w.space space
      → ((j : ℕ) (b : Tenant) → tenant w j ≡ Some b → b.place ≢ place) → IsFineBy K w.modules space (length w.tenants) t → IsGoodBy K (record w { tenants = w.tenants ++ Some t ∷ []; space = space })
  arrived_good w space place c0 bytes t good at_it arrives far fine =
      let n : ℕ = length w.tenants in
      record {
        sound = arrives.sound;
        modules = good.modules;
        apart = λ i j b c x y e.
            ⊎_elim
            (λ (u : get_or w.tenants i None ≡ Some b).
            ⊎_elim
            (λ (v : get_or w.tenants j None ≡ Some c). good.apart i j b c u v e)
            (λ (v : (j ≡ n) × (Some t ≡ Some c)). absurd (far i b u (e ∙ (sym (ap (λ (z : Tenant). z.place) (one_value t c v.1)) ∙ at_it))))
            (at_end w.tenants (Some t) j c y))
            (λ (u : (i ≡ n) × (Some t ≡ Some b)).
            ⊎_elim
            (λ (v : get_or w.tenants j None ≡ Some c). absurd (far j c v (sym e ∙ (sym (ap (λ (z : Tenant). z.place) (one_value t b u.1)) ∙ at_it))))
            (λ (v : (j ≡ n) × (Some t ≡ Some c)). u.0 ∙ sym v.0)
            (at_end w.tenants (Some t) j c y))
            (at_end w.tenants (Some t) i b x);
        owned = λ place2 c e.
            ⊎_elim
            (λ (same : place2 ≡ place). (n, t, has_come w.tenants (Some t), at_it ∙ sym same))
            (λ (other : place2 ≢ place).
            let alike = arrives.others place2 other in
            let was = good.owned place2 c (sym alike.claim ∙ e) in
            (was.0, was.1, still_there w.tenants (Some t) was.0 was.1 was.2, was.3))
            (same_or_not place2 place);
        each = λ i b x.
            ⊎_elim
            (λ (u : get_or w.tenants i None ≡ Some b). fine_elsewhere (good.each i b u) (arrives.others b.place (far i b u)))
            (λ (u : (i ≡ n) × (Some t ≡ Some b)). subst (λ j. IsFineBy K w.modules space j b) (sym u.0) (subst (IsFineBy K w.modules space n) (one_value t b u.1) fine))
            (at_end w.tenants (Some t) i b x);
      }

  admits_good : (w w2 : World) (k : ℕ) (p : Params) (place number : ℕ) → IsGoodBy K w → LetsIn w k p place number w2 → IsGoodBy K w2
  admits_good w w2 k p place number good a =
      let arrives = a.arrives in
      let t : Tenant = beginner place k p a.inst a.s a.doing a.ended a.open_calls in
      let n : ℕ = length w.tenants in
      let free : claim w.space place ≡ None = vacant w.space place arrives.free in
      let far : (j : ℕ) (b : Tenant) → tenant w j ≡ Some b → b.place ≢ place =
      λ j b x e. let f = good.each j b x in absurd (let no : None ≡ Some (promised j b.params) = sym free ∙ ap (claim w.space) (sym e) ∙ f.claimed in cc no) in
      let kept : K a.loaded.m (given_of p) t a.s.bytes None = up.begun a.loaded.m place k p (given_of p) a.inst a.s a.pieces p.fuel a.given a.initial a.can_count a.starts in
      let seen : a.s.bytes ≡ view a.space place = zeros_from a.inst a.s a.pieces a.initial refl ∙ sym arrives.view in
      let here : K a.loaded.m (given_of p) t (view a.space place) (wants a.space place) =
      subst (λ x. K a.loaded.m (given_of p) t (view a.space place) x) (sym arrives.wants) (subst (λ b. K a.loaded.m (given_of p) t b None) seen kept) in
      let fine : IsFineBy K w.modules a.space n t = record {
        loaded = a.loaded;
        is_loaded = a.is_loaded;
        claimed = arrives.claim ∙ ap (λ i. Some (promised i p)) a.next;
        kept = here;
      } in
      subst (IsGoodBy K) (sym a.after) (arrived_good w a.space place (promised number p) (replicate (length a.s.bytes) 0) t good refl arrives far fine)

  no_call : (w : World) (t : Tenant) (q : Quota) → ((fault : ForkFault) → ¬ (MeetsForkFault w t q fault)) → t.open_calls ≡ []
  no_call w t q none = empty_or t.open_calls (none call_open) where
    empty_or : (es : List Entry) → ¬ (es ≢ []) → es ≡ []
    empty_or [] some = refl
    empty_or (e ∷ es) some = absurd (some (λ bad. cc bad))

  same_beginning : (w : World) (t : Tenant) (q : Quota) (l : Loaded) → ((fault : ForkFault) → ¬ (MeetsForkFault w t q fault)) → loaded_of w t.of ≡ Some l → SameLimit l.m (given_of t.params) (given_of (with_quota t.params q)) t.inst
  same_beginning w t q l none is = record {
    base = refl;
    salt = refl;
    inputs = refl;
    limit = equal_or (last_size l.m.memories (q.max / 16)) t.inst.page_limit (λ other. none other_limit (inl (l, is, other)));
    small = λ small. none (not_admitted memory) (l, is, small);
  } where
    equal_or : (m n : ℕ) → ¬ (m ≢ n) → m ≡ n
    equal_or m n never = ⊎_elim (λ e. e) (λ other. absurd (never other)) (same_or_not m n)

  -- a copy
  forks_good : (w w2 : World) (t : Tenant) (i : ℕ) (q : Quota) (place number : ℕ) → IsGoodBy K w → tenant w i ≡ Some t → Forks w t q place number w2 → IsGoodBy K w2
  forks_good w w2 t i q place number good there f =
      let arrives = copies_arrive w.space t.place place (promised number (with_quota t.params q)) f.space good.sound f.copies in
      let p : Params = with_quota t.params q in
      let new : Tenant = record t { place = place; params = p; copied = length t.ended; waiting_for = None } in
      let n : ℕ = length w.tenants in
      let fine_parent = good.each i t there in
      let free : claim w.space place ≡ None = vacant w.space place arrives.free in
      let far : (j : ℕ) (b : Tenant) → tenant w j ≡ Some b → b.place ≢ place =
      λ j b x e. let f = good.each j b x in absurd (let no : None ≡ Some (promised j b.params) = sym free ∙ ap (claim w.space) (sym e) ∙ f.claimed in cc no) in
      let same = same_beginning w t q fine_parent.loaded f.no_fault fine_parent.is_loaded in
      let kept : K fine_parent.loaded.m (given_of p) new (view w.space t.place) None = up.forked fine_parent.kept (no_call w t q f.no_fault) same place p in
      let here : K fine_parent.loaded.m (given_of p) new (view f.space place) (wants f.space place) =
      subst (λ x. K fine_parent.loaded.m (given_of p) new (view f.space place) x) (sym arrives.wants) (subst (λ b. K fine_parent.loaded.m (given_of p) new b None) (sym arrives.view) kept) in
      let fine : IsFineBy K w.modules f.space n new = record {
        loaded = fine_parent.loaded;
        is_loaded = fine_parent.is_loaded;
        claimed = arrives.claim ∙ ap (λ i. Some (promised i p)) f.next;
        kept = here;
      } in
      subst (IsGoodBy K) (sym f.after) (arrived_good w f.space place (promised number p) (view w.space t.place) new good refl arrives far fine)

  releases_good : (w w2 : World) (i : ℕ) (t : Tenant) (output : List ℕ) → IsGoodBy K w → tenant w i ≡ Some t → LetsGo w i t output w2 → IsGoodBy K w2
  releases_good w w2 i t output good there r =
      let departs = r.departs in
      subst (IsGoodBy K) (sym r.after) (record {
        sound = departs.sound;
        modules = good.modules;
        apart = λ j k a b x y e.
            ⊎_elim
            (λ (p : (j ≡ i) × (None ≡ Some a)). absurd (cc p.1))
            (λ (p : (j ≢ i) × (get_or w.tenants j None ≡ Some a)).
            ⊎_elim
            (λ (q : (k ≡ i) × (None ≡ Some b)). absurd (cc q.1))
            (λ (q : (k ≢ i) × (get_or w.tenants k None ≡ Some b)). good.apart j k a b p.1 q.1 e)
            (at_place w.tenants i k None t b there y))
            (at_place w.tenants i j None t a there x);
        owned = λ place c e.
            ⊎_elim
            (λ (same : place ≡ t.place). absurd (let no : None ≡ Some c = sym departs.claim ∙ ap (claim r.space) (sym same) ∙ e in cc no))
            (λ (other : place ≢ t.place).
            let alike = departs.others place other in
            let was = good.owned place c (sym alike.claim ∙ e) in
            (was.0, was.1, elsewhere w i was.0 t was.1 None there was.2 (λ at. other (sym was.3 ∙ at)), was.3))
            (same_or_not place t.place);
        each = λ j a x.
            ⊎_elim
            (λ (p : (j ≡ i) × (None ≡ Some a)). absurd (cc p.1))
            (λ (p : (j ≢ i) × (get_or w.tenants j None ≡ Some a)). fine_elsewhere (good.each j a p.1) (departs.others a.place (λ e. p.0 (good.apart j i a t p.1 there e))))
            (at_place w.tenants i j None t a there x);
      })

  -- ---- requests of an owner

  refuels_owner : {n : ℕ} {t t2 : Tenant} → Refuels t n t2 → SameOwner t t2
  refuels_owner (has_more x y) = record { place = refl; of = refl; params = refl }

  retries_owner : {t t2 : Tenant} → Retries t t2 → SameOwner t t2
  retries_owner (may_try x y) = record { place = refl; of = refl; params = refl }

  cancels_owner : {s s2 : Space} {t t2 : Tenant} → Cancels s t s2 t2 → SameOwner t t2
  cancels_owner (requests.ends x l p c) = closes_owner c

  cancels_apart : {s s2 : Space} {t t2 : Tenant} → Cancels s t s2 t2 → Apart t.place s s2 × IsSound s2
  cancels_apart (requests.ends x l p c) = let steps = l.steps in (apart_steps steps, steps.sound)

  accepts_owner : {m : Module} {s : Space} {t t2 : Tenant} {name : List ℕ} {given : List ℤ} {fuel at : ℕ} → TakesCall m s t name given fuel at t2 → SameOwner t t2
  accepts_owner {t = t} a = subst (SameOwner t) (sym a.after) (record { place = refl; of = refl; params = refl })

  turns_good : (w w2 : World) (id : InstId) (q : ℕ) (answer : TurnEnd) → IsGoodBy K w → IsTurn w id q answer w2 → IsGoodBy K w2
  turns_good w w2 id q answer good (of_none none) = good
  turns_good w w2 id q answer good (of_one {t = t} {t2 = t2} {s2 = s2} there turned) =
      let a = turn_apart good.sound turned in
      changed w id.number t t2 s2 good there.0 (turn_owner turned) a.0 a.1 (λ m k. up.turned k turned)

  load_good : (w w2 : World) (bytes : List ℕ) (answer : happens.LoadAnswer) → IsGoodBy K w → happens.IsLoad w bytes answer w2 → IsGoodBy K w2
  load_good w w2 bytes answer good (happens.is_loaded {number = n} l) = loads_good w w2 bytes n good l
  load_good w w2 bytes answer good (happens.isnt_loaded r) = good
  load_good w w2 bytes answer good (happens.no_memory_to_load r) = good

  admit_good : (w w2 : World) (k : ℕ) (p : Params) (answer : happens.AdmitAnswer) → IsGoodBy K w → happens.IsAdmit w k p answer w2 → IsGoodBy K w2
  admit_good w w2 k p answer good (happens.is_admitted {id = id} a) = admits_good w w2 k p id.place id.number good a
  admit_good w w2 k p answer good (happens.isnt_admitted r) = good
  admit_good w w2 k p answer good (happens.no_memory_to_admit r) = good

  invoke_good : (w w2 : World) (id : InstId) (name : List ℕ) (given : List ℤ) (fuel : ℕ) (answer : happens.InvokeAnswer) → IsGoodBy K w → happens.IsInvoke w id name given fuel answer w2 → IsGoodBy K w2
  invoke_good w w2 id name given fuel answer good (happens.is_invoked {t = t} {t2 = t2} there l a) =
      changed w id.number t t2 w.space good there.0 (accepts_owner a) (apart_none t.place w.space) good.sound (λ m k. up.accepted w.space k a)
  invoke_good w w2 id name given fuel answer good (happens.has_no_instance n) = good
  invoke_good w w2 id name given fuel answer good (happens.isnt_invoked a l f) = good
  invoke_good w w2 id name given fuel answer good (happens.no_memory_to_invoke a l f) = good

  refuel_good : (w w2 : World) (id : InstId) (n : ℕ) (answer : happens.CallAnswer) → IsGoodBy K w → happens.IsRefuel w id n answer w2 → IsGoodBy K w2
  refuel_good w w2 id n answer good (happens.is_refueled {t = t} {t2 = t2} there r) =
      changed w id.number t t2 w.space good there.0 (refuels_owner r) (apart_none t.place w.space) good.sound (λ m k. up.refuelled k r)
  refuel_good w w2 id n answer good (happens.no_one_to_refuel x) = good
  refuel_good w w2 id n answer good (happens.no_call_to_refuel x y) = good

  cancel_good : (w w2 : World) (id : InstId) (answer : happens.CallAnswer) → IsGoodBy K w → happens.IsCancel w id answer w2 → IsGoodBy K w2
  cancel_good w w2 id answer good (happens.is_cancelled {t = t} {t2 = t2} {s2 = s2} there c) =
      let a = cancels_apart c in
      changed w id.number t t2 s2 good there.0 (cancels_owner c) a.0 a.1 (λ m k. up.cancelled k c)
  cancel_good w w2 id answer good (happens.no_one_to_cancel x) = good
  cancel_good w w2 id answer good (happens.no_call_to_cancel x y) = good

  retry_good : (w w2 : World) (id : InstId) (answer : happens.CallAnswer) → IsGoodBy K w → happens.IsRetry w id answer w2 → IsGoodBy K w2
  retry_good w w2 id answer good (happens.is_retried {t = t} {t2 = t2} there r) =
      changed w id.number t t2 w.space good there.0 (retries_owner r) (apart_none t.place w.space) good.sound (λ m k. up.retried k r)
  retry_good w w2 id answer good (happens.no_one_to_retry x) = good
  retry_good w w2 id answer good (happens.no_fault_to_retry x y) = good

  release_good : (w w2 : World) (id : InstId) (answer : Option (List ℕ)) → IsGoodBy K w → happens.IsRelease w id answer w2 → IsGoodBy K w2
  release_good w w2 id answer good (happens.is_released {t = t} {output = output} there r) = releases_good w w2 id.number t output good there.0 r
  release_good w w2 id answer good (happens.no_one_to_release x) = good

  fork_good : (w w2 : World) (id : InstId) (q : Quota) (answer : happens.ForkAnswer) → IsGoodBy K w → happens.IsFork w id q answer w2 → IsGoodBy K w2
  fork_good w w2 id q answer good (happens.is_forked {t = t} {new = new} there f) = forks_good w w2 t id.number q new.place new.number good there.0 f
  fork_good w w2 id q answer good (happens.no_one_to_fork x) = good
  fork_good w w2 id q answer good (happens.isnt_forked x y) = good
  fork_good w w2 id q answer good (happens.no_memory_to_fork x y) = good

  unload_good : (w w2 : World) (k : ℕ) (answer : happens.UnloadAnswer) → IsGoodBy K w → happens.IsUnload w k answer w2 → IsGoodBy K w2
  unload_good w w2 k answer good (happens.is_unloaded l) = unloads_good w w2 k good l
  unload_good w w2 k answer good (happens.no_module_to_unload none) = good
  unload_good w w2 k answer good (happens.is_in_use i l x y) = good

  -- ---- every event, and every run

  pub events_keep : (w w2 : World) (e : Event) → IsGoodBy K w → Happens w e w2 → IsGoodBy K w2
  events_keep w w2 (turn id q) good h = turns_good w w2 id q h.0 good h.1
  events_keep w w2 (load bytes) good h = load_good w w2 bytes h.0 good h.1
  events_keep w w2 (admit k p) good h = admit_good w w2 k p h.0 good h.1
  events_keep w w2 (invoke id name given fuel) good h = invoke_good w w2 id name given fuel h.0 good h.1
  events_keep w w2 (refuel id n) good h = refuel_good w w2 id n h.0 good h.1
  events_keep w w2 (cancel id) good h = cancel_good w w2 id h.0 good h.1
  events_keep w w2 (retry id) good h = retry_good w w2 id h.0 good h.1
  events_keep w w2 (release id) good h = release_good w w2 id h.0 good h.1
  events_keep w w2 (fork id q) good h = fork_good w w2 id q h.0 good h.1
  events_keep w w2 (unload k) good h = unload_good w w2 k h.0 good h.1
  events_keep w w2 (offer page hash) good h = only_moves w w2 good h
  events_keep w w2 (evict_begin id) good h = only_moves w w2 good h
  events_keep w w2 (evict_commit id call fault) good h = moves_good w w2 id (AwaitsFrameFor call) fault (λ t x. x.0) good h
  events_keep w w2 (fetch_begin id) good h = only_moves w w2 good h
  events_keep w w2 (fetch_commit id call fault) good h = moves_good w w2 id (AwaitsFrameFor call) fault (λ t x. x.0) good h
  events_keep w w2 (provide id fault) good h = moves_good w w2 id AwaitsFrame fault (λ t x. x) good h
  events_keep w w2 epoch good h = only_moves w w2 good h

  pub runs_keep : (events : List Event) (w w2 : World) → IsGoodBy K w → AllHappen w events w2 → IsGoodBy K w2
  runs_keep [] w w2 good r = subst (IsGoodBy K) (sym r) good
  runs_keep (e ∷ events) w w2 good r = runs_keep events r.0 w2 (events_keep w r.0 e good r.1) r.2

-- ---- what its journal comes to

pub kept_up : IsKeptUp Kept
kept_up = search (rules, turn_kept, cancel_kept, refuel_kept, faulted_kept, retry_kept, accept_kept, fork_kept, begins_kept)

abbrev pub IsGood : World → Type 0
IsGood w = IsGoodBy Kept w

pub good_run : (events : List Event) (w w2 : World) → IsGood w → AllHappen w events w2 → IsGood w2
good_run = runs_keep Kept kept_up
