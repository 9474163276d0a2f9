-- Each module and each instance of a host is somebody's, as long as only its desk asks.
use Rattle.std.proofs.Common.{◌≡◌, ◌≢◌, ◌⊎◌, ⊎_elim, inl, inr, ℕ, ℤ, zero, suc, ◌<◌, ◌≤◌, ◌+◌, ◌==◌, not, Bool, true, false, List, [], ◌∷◌, ◌++◌, length, Option, Some, None, get_or, slice_set, filter, refl, rules, sym, ap, subst, ◌∙◌, arith}
use Rattle.wh_space_model.specs.declared.plain.InstId.{InstId}
use Rattle.wh_space_model.specs.declared.plain.SwapError.{SwapError}
use Rattle.wh_space_model.specs.{Space}
use Rattle.wh_host_model.specs.declared.plain.TurnEnd.{TurnEnd}
use Rattle.wh_host_model.specs.{Params, Quota, instances as many_instances, not_admitted}
use Rattle.wh_host_model.specs.Host.{Tenant as Instance, Loaded, World, tenant, with_tenant, live_count, module_count, IsInvoke, InvokeAnswer, is_invoked, has_no_instance, isnt_invoked, no_memory_to_invoke, CallAnswer, IsRefuel, is_refueled, no_one_to_refuel, no_call_to_refuel, IsCancel, is_cancelled, no_one_to_cancel, no_call_to_cancel, IsRetry, is_retried, no_one_to_retry, no_fault_to_retry, IsRelease, is_released, no_one_to_release, IsFork, ForkAnswer, fork_ok, is_forked, no_one_to_fork, isnt_forked, no_memory_to_fork, IsUnload, UnloadAnswer, unload_ok, is_unloaded, no_module_to_unload, is_in_use, IsLoad, LoadAnswer, load_ok, is_loaded, isnt_loaded, no_memory_to_load, IsAdmit, AdmitAnswer, admit_ok, is_admitted, isnt_admitted, no_memory_to_admit, IsTurn, of_none, of_one, OnlyMoves, MovesPages, moved, has_failed, Step, by_event, by_misreading, Befalls}
use Rattle.wh_host_model.specs.Host.Events.{turn, load, admit, invoke, refuel, cancel, retry, release, fork, unload, offer, evict_begin, evict_commit, fetch_begin, fetch_commit, provide, epoch}
use Rattle.wh_host.specs.declared.parts.ModuleId.{ModuleId}
use Rattle.wh_host.proofs.Hosts.{as_many, at_place, one_fewer, one_more}
use Rattle.wh_cell.specs.Going.{AllWorkAnyhow, IsWorkOrMisread}
use Rattle.wh_desk.specs.declared.ownership.OwnedInstance.{OwnedInstance}
use Rattle.wh_desk.specs.declared.ownership.OwnedModule.{OwnedModule}
use Rattle.wh_desk.specs.Bounded.{OneHasNumber, IsSomebodys, OwnsEach}
use Rattle.wh_desk.specs.Permits.{is_other, is_other_module}

-- ---- work

module _ (modules : List OwnedModule) (instances : List OwnedInstance) where
  abbrev Owns : World → Type 0
  Owns w = OwnsEach modules instances w

  over : (w : World) (s2 : Space) → Owns w → Owns (record w { space = s2 })
  over w s2 o = record { few = o.few; live = o.live; all_modules = o.all_modules; all = o.all }

  pub changed : (w : World) (i : ℕ) (t t2 : Instance) (s2 : Space) → tenant w i ≡ Some t → Owns w → Owns (with_tenant w i (Some t2) s2)
  changed w i t t2 s2 there o = record {
    few = o.few;
    live = subst (λ (n : ℕ). length instances ≤ n) (sym (as_many w.tenants i t t2 there)) o.live;
    all_modules = o.all_modules;
    all = λ j u e.
        ⊎_elim
        (λ (same : (j ≡ i) × (Some t2 ≡ Some u)). subst (IsSomebodys instances) (sym same.0) (o.all i t there))
        (λ (other : (j ≢ i) × (get_or w.tenants j None ≡ Some u)). o.all j u other.1)
        (at_place w.tenants i j (Some t2) t u there e);
  }

  moves : (w w2 : World) → OnlyMoves w w2 → Owns w → Owns w2
  moves w w2 m o = subst Owns (sym m.2) (over w m.0 o)

  moves_pages : (w w2 : World) (id : InstId) (awaits : Instance → Type 0) (fault : Option SwapError) → MovesPages w id awaits fault w2 → Owns w → Owns w2
  moves_pages w w2 id awaits fault (moved {s2 = s2} alone none) o = over w s2 o
  moves_pages w w2 id awaits fault (has_failed {t = t} {s2 = s2} alone is live waits) o = changed w id.number t _ s2 live.0 o

  turns : (w w2 : World) (id : InstId) (q : ℕ) (answer : TurnEnd) → IsTurn w id q answer w2 → Owns w → Owns w2
  turns w w2 id q answer (of_none none) o = o
  turns w w2 id q answer (of_one {t = t} {t2 = t2} {s2 = s2} live turned) o = changed w id.number t t2 s2 live.0 o

  works : (w w2 : World) (x : Step) → IsWorkOrMisread w x → Befalls w x w2 → Owns w → Owns w2
  works w w2 by_misreading work b o = subst Owns (sym b.2) (over w b.0 o)
  works w w2 (by_event (turn id q)) work b o = turns w w2 id q b.0 b.1 o
  works w w2 (by_event (offer page hash)) work b o = moves w w2 b o
  works w w2 (by_event (evict_begin id)) work b o = moves w w2 b o
  works w w2 (by_event (evict_commit id call fault)) work b o = moves_pages w w2 id _ fault b o
  works w w2 (by_event (fetch_begin id)) work b o = moves w w2 b o
  works w w2 (by_event (fetch_commit id call fault)) work b o = moves_pages w w2 id _ fault b o
  works w w2 (by_event (provide id fault)) work b o = moves_pages w w2 id _ fault b o
  works w w2 (by_event (load bytes)) work b o = absurd work
  works w w2 (by_event (admit k p)) work b o = absurd work
  works w w2 (by_event (invoke id name given fuel)) work b o = absurd work
  works w w2 (by_event (refuel id n)) work b o = absurd work
  works w w2 (by_event (cancel id)) work b o = absurd work
  works w w2 (by_event (retry id)) work b o = absurd work
  works w w2 (by_event (release id)) work b o = absurd work
  works w w2 (by_event (fork id q)) work b o = absurd work
  works w w2 (by_event (unload k)) work b o = absurd work
  works w w2 (by_event epoch) work b o = absurd work

  pub works_on : (w w2 : World) (xs : List Step) → AllWorkAnyhow w xs w2 → Owns w → Owns w2
  works_on w w2 [] e o = subst Owns (sym e) o
  works_on w w2 (x ∷ xs) e o = works_on e.0 w2 xs e.3 (works w e.0 x e.1 e.2 o)

  -- ---- what is asked of one instance

  pub invoked : (w w2 : World) (id : InstId) (name : List ℕ) (given : List ℤ) (fuel : ℕ) (answer : InvokeAnswer) → IsInvoke w id name given fuel answer w2 → Owns w → Owns w2
  invoked w w2 id name given fuel answer (is_invoked {t = t} {t2 = t2} live loaded takes) o = changed w id.number t t2 w.space live.0 o
  invoked w w2 id name given fuel answer (has_no_instance none) o = o
  invoked w w2 id name given fuel answer (isnt_invoked live loaded first) o = o
  invoked w w2 id name given fuel answer (no_memory_to_invoke live loaded none) o = o

  pub refueled : (w w2 : World) (id : InstId) (n : ℕ) (answer : CallAnswer) → IsRefuel w id n answer w2 → Owns w → Owns w2
  refueled w w2 id n answer (is_refueled {t = t} {t2 = t2} live has) o = changed w id.number t t2 w.space live.0 o
  refueled w w2 id n answer (no_one_to_refuel none) o = o
  refueled w w2 id n answer (no_call_to_refuel live none) o = o

  pub cancelled : (w w2 : World) (id : InstId) (answer : CallAnswer) → IsCancel w id answer w2 → Owns w → Owns w2
  cancelled w w2 id answer (is_cancelled {t = t} {t2 = t2} {s2 = s2} live has) o = changed w id.number t t2 s2 live.0 o
  cancelled w w2 id answer (no_one_to_cancel none) o = o
  cancelled w w2 id answer (no_call_to_cancel live none) o = o

  pub retried : (w w2 : World) (id : InstId) (answer : CallAnswer) → IsRetry w id answer w2 → Owns w → Owns w2
  retried w w2 id answer (is_retried {t = t} {t2 = t2} live has) o = changed w id.number t t2 w.space live.0 o
  retried w w2 id answer (no_one_to_retry none) o = o
  retried w w2 id answer (no_fault_to_retry live none) o = o

  pub only_moves : (w w2 : World) → OnlyMoves w w2 → Owns w → Owns w2
  only_moves w w2 m o = moves w w2 m o

-- ---- who has a number

module _ {A : Type 0} (number_of : A → ℕ) where
  -- one has it still, and the new one has its own
  had_still : (xs ys : List A) (n : ℕ) → OneHasNumber number_of xs n → OneHasNumber number_of (xs ++ ys) n
  had_still [] ys n s = absurd s
  had_still (x ∷ xs) ys n (inl same) = inl same
  had_still (x ∷ xs) ys n (inr s) = inr (had_still xs ys n s)

  had_new : (xs : List A) (x : A) (n : ℕ) → number_of x ≡ n → OneHasNumber number_of (xs ++ x ∷ []) n
  had_new [] x n same = inl same
  had_new (y ∷ xs) x n same = inr (had_new xs x n same)

  module _ (gone : ℕ) where
    abbrev is_not : A → Bool
    is_not x = not (number_of x == gone)

    abbrev others : List A → List A
    others xs = filter is_not xs

    kept_first : (x : A) (xs : List A) → is_not x ≡ true → others (x ∷ xs) ≡ x ∷ others xs
    kept_first x xs e = simp e refl

    gone_first : (x : A) (xs : List A) → is_not x ≡ false → others (x ∷ xs) ≡ others xs
    gone_first x xs e = simp e refl

    is_it : (x : A) → is_not x ≡ false → number_of x ≡ gone
    is_it x e = grind rules

    itself : (x : A) → number_of x ≡ gone → is_not x ≡ false
    itself x e = grind rules

    still : (xs : List A) (n : ℕ) → n ≢ gone → OneHasNumber number_of xs n → OneHasNumber number_of (others xs) n
    still [] n other s = s
    still (x ∷ xs) n other s = by_test (is_not x) refl (still xs n other) where
      by_test : (b : Bool) → is_not x ≡ b → (OneHasNumber number_of xs n → OneHasNumber number_of (others xs) n) → OneHasNumber number_of (others (x ∷ xs)) n
      by_test true e rest = subst (λ z. OneHasNumber number_of z n) (sym (kept_first x xs e)) (⊎_elim (λ (same : number_of x ≡ n). inl same) (λ (r : OneHasNumber number_of xs n). inr (rest r)) s)
      by_test false e rest = subst (λ z. OneHasNumber number_of z n) (sym (gone_first x xs e)) (⊎_elim (λ (same : number_of x ≡ n). absurd (other (sym same ∙ is_it x e))) rest s)

    no_longer : (xs : List A) → length (others xs) ≤ length xs
    no_longer [] = omega arith
    no_longer (x ∷ xs) = by_test (is_not x) refl (no_longer xs) where
      by_test : (b : Bool) → is_not x ≡ b → length (others xs) ≤ length xs → length (others (x ∷ xs)) ≤ length (x ∷ xs)
      by_test true e rest = let l = ap (λ (z : List A). length z) (kept_first x xs e) in omega (arith, l, rest)
      by_test false e rest = let l = ap (λ (z : List A). length z) (gone_first x xs e) in omega (arith, l, rest)

    shorter : (xs : List A) → OneHasNumber number_of xs gone → suc (length (others xs)) ≤ length xs
    shorter [] s = absurd s
    shorter (x ∷ xs) s = by_test (is_not x) refl (shorter xs) where
      by_test : (b : Bool) → is_not x ≡ b → (OneHasNumber number_of xs gone → suc (length (others xs)) ≤ length xs) → suc (length (others (x ∷ xs))) ≤ length (x ∷ xs)
      by_test true e rest =
          ⊎_elim
          (λ (same : number_of x ≡ gone). (let bad : true ≡ false = sym e ∙ itself x same in absurd (cc bad)))
          (λ (r : OneHasNumber number_of xs gone). (let l = ap (λ (z : List A). length z) (kept_first x xs e) in let less = rest r in omega (arith, l, less)))
          s
      by_test false e rest = let l = ap (λ (z : List A). length z) (gone_first x xs e) in let less = no_longer xs in omega (arith, l, less)

abbrev number_of_module : OwnedModule → ℕ
number_of_module x = x.id.number

abbrev number_of_instance : OwnedInstance → ℕ
number_of_instance x = x.id.number

old_or_new : {A : Type 0} (xs : List (Option A)) (o : Option A) (j : ℕ) (u : A) → get_or (xs ++ o ∷ []) j None ≡ Some u → (get_or xs j None ≡ Some u) ⊎ (j ≡ length xs)
old_or_new [] o zero u e = inr refl
old_or_new [] o (suc j) u e = absurd (cc e)
old_or_new (x ∷ xs) o zero u e = inl e
old_or_new (x ∷ xs) o (suc j) u e = ⊎_elim (λ there. inl there) (λ (same : j ≡ length xs). inr (ap suc same)) (old_or_new xs o j u e)

-- ---- modules

one_module_more : (ls : List (Option Loaded)) (l : Loaded) → module_count (ls ++ Some l ∷ []) ≡ suc (module_count ls)
one_module_more [] l = refl
one_module_more (None ∷ ls) l = one_module_more ls l
one_module_more (Some z ∷ ls) l = let more = one_module_more ls l in omega (arith, more)

length_append : {A : Type 0} (xs : List A) (x : A) → length (xs ++ x ∷ []) ≡ suc (length xs)
length_append [] x = refl
length_append (y ∷ xs) x = ap suc (length_append xs x)

pub loaded_one : (modules : List OwnedModule) (one : OwnedModule) (instances : List OwnedInstance) (w w2 : World) (bytes : List ℕ) (answer : LoadAnswer) → IsLoad w bytes answer w2 → answer ≡ load_ok one.id.number → OwnsEach modules instances w → OwnsEach (modules ++ one ∷ []) instances w2
loaded_one modules one instances w w2 bytes answer (is_loaded {number = number} loads) is o =
    subst (OwnsEach (modules ++ one ∷ []) instances) (sym loads.after)
    (let few = o.few in
    let more = one_module_more w.modules (record { bytes = bytes; m = loads.m }) in
    let longer = length_append modules one in
    let same : number ≡ one.id.number = cc is in record {
      few = omega (arith, few, more, longer);
      live = o.live;
      all_modules = λ k l e.
          ⊎_elim
          (λ (there : get_or w.modules k None ≡ Some l). had_still number_of_module modules (one ∷ []) k (o.all_modules k l there))
          (λ (new : k ≡ length w.modules). had_new number_of_module modules one k (sym same ∙ loads.next ∙ sym new))
          (old_or_new w.modules _ k l e);
      all = o.all;
    })
loaded_one modules one instances w w2 bytes answer (isnt_loaded fault) is o = absurd (cc is)
loaded_one modules one instances w w2 bytes answer (no_memory_to_load want) is o = absurd (cc is)

pub few_modules : (modules : List OwnedModule) (instances : List OwnedInstance) (w w2 : World) (bytes : List ℕ) (answer : LoadAnswer) (n : ℕ) → IsLoad w bytes answer w2 → answer ≡ load_ok n → OwnsEach modules instances w → length modules < 1024
few_modules modules instances w w2 bytes answer n (is_loaded loads) is o =
    let less = loads.few in
    let few = o.few in
    omega (arith, less, few)
few_modules modules instances w w2 bytes answer n (isnt_loaded fault) is o = absurd (cc is)
few_modules modules instances w w2 bytes answer n (no_memory_to_load want) is o = absurd (cc is)

one_module_fewer : (ls : List (Option Loaded)) (k : ℕ) (l : Loaded) → get_or ls k None ≡ Some l → module_count ls ≡ 1 + module_count (slice_set ls k None)
one_module_fewer [] k l e = absurd (cc e)
one_module_fewer (None ∷ ls) zero l e = absurd (cc e)
one_module_fewer (Some u ∷ ls) zero l e = refl
one_module_fewer (None ∷ ls) (suc k) l e = one_module_fewer ls k l e
one_module_fewer (Some u ∷ ls) (suc k) l e = ap (λ n. 1 + n) (one_module_fewer ls k l e)

pub unloaded_one : (of : ModuleId) (modules : List OwnedModule) (instances : List OwnedInstance) (w w2 : World) (answer : UnloadAnswer) → IsUnload w of.number answer w2 → answer ≡ unload_ok → OwnsEach modules instances w → OwnsEach (filter (is_other_module of) modules) instances w2
unloaded_one of modules instances w w2 answer (is_unloaded goes) is o =
    subst (OwnsEach (filter (is_other_module of) modules) instances) (sym goes.after)
    (let had = o.few in
    let one = one_module_fewer w.modules of.number goes.loaded goes.is_loaded in
    let less : suc (length (filter (is_other_module of) modules)) ≤ length modules = shorter number_of_module of.number modules (o.all_modules of.number goes.loaded goes.is_loaded) in record {
      few = omega (arith, had, one, less);
      live = o.live;
      all_modules = λ k l e.
          ⊎_elim
          (λ (same : (k ≡ of.number) × (None ≡ Some l)). absurd (let bad = same.1 in cc bad))
          (λ (other : (k ≢ of.number) × (get_or w.modules k None ≡ Some l)). still number_of_module of.number modules k other.0 (o.all_modules k l other.1))
          (at_place w.modules of.number k None goes.loaded l goes.is_loaded e);
      all = o.all;
    })
unloaded_one of modules instances w w2 answer (no_module_to_unload none) is o = absurd (cc is)
unloaded_one of modules instances w w2 answer (is_in_use i loaded there uses) is o = absurd (cc is)

-- ---- admissions

comes : (modules : List OwnedModule) (instances : List OwnedInstance) (one : OwnedInstance) (w w2 : World) (t : Instance) (s : Space) → w2 ≡ record w { tenants = w.tenants ++ Some t ∷ []; space = s } → one.id.number ≡ length w.tenants → OwnsEach modules instances w → OwnsEach modules (instances ++ one ∷ []) w2
comes modules instances one w w2 t s after next o =
    subst (OwnsEach modules (instances ++ one ∷ [])) (sym after)
    (let live = o.live in
    let more = one_more w.tenants t in
    let longer = length_append instances one in record {
      few = o.few;
      live = omega (arith, live, more, longer);
      all_modules = o.all_modules;
      all = λ j u e.
          ⊎_elim
          (λ (there : get_or w.tenants j None ≡ Some u). had_still number_of_instance instances (one ∷ []) j (o.all j u there))
          (λ (same : j ≡ length w.tenants). had_new number_of_instance instances one j (next ∙ sym same))
          (old_or_new w.tenants (Some t) j u e);
    })

same_number : (a b : InstId) → admit_ok a ≡ admit_ok b → b.number ≡ a.number
same_number a b e = let same : a ≡ b = cc e in ap (λ (z : InstId). z.number) (sym same)

pub admitted_one : (modules : List OwnedModule) (instances : List OwnedInstance) (one : OwnedInstance) (w w2 : World) (k : ℕ) (p : Params) (answer : AdmitAnswer) → IsAdmit w k p answer w2 → answer ≡ admit_ok one.id → OwnsEach modules instances w → OwnsEach modules (instances ++ one ∷ []) w2
admitted_one modules instances one w w2 k p answer (is_admitted {id = id} lets) is o =
    comes modules instances one w w2 _ lets.space lets.after (same_number id one.id is ∙ lets.next) o
admitted_one modules instances one w w2 k p answer (isnt_admitted fault) is o = absurd (cc is)
admitted_one modules instances one w w2 k p answer (no_memory_to_admit none) is o = absurd (cc is)

fewer : (n m : ℕ) → n ≤ m → ¬ (4096 ≤ m) → n < 4096
fewer n m less few = omega (arith, less, few)

pub few_instances : (modules : List OwnedModule) (instances : List OwnedInstance) (w w2 : World) (k : ℕ) (p : Params) (answer : AdmitAnswer) (id : InstId) → IsAdmit w k p answer w2 → answer ≡ admit_ok id → OwnsEach modules instances w → length instances < 4096
few_instances modules instances w w2 k p answer id (is_admitted lets) is o =
    let live = o.live in
    fewer (length instances) (live_count w.tenants) live (lets.no_fault many_instances)
few_instances modules instances w w2 k p answer id (isnt_admitted fault) is o = absurd (cc is)
few_instances modules instances w w2 k p answer id (no_memory_to_admit none) is o = absurd (cc is)

same_copy : (a b : InstId) → fork_ok a ≡ fork_ok b → b.number ≡ a.number
same_copy a b e = let same : a ≡ b = cc e in ap (λ (z : InstId). z.number) (sym same)

pub forked_one : (modules : List OwnedModule) (instances : List OwnedInstance) (one : OwnedInstance) (w w2 : World) (id : InstId) (q : Quota) (answer : ForkAnswer) → IsFork w id q answer w2 → answer ≡ fork_ok one.id → OwnsEach modules instances w → OwnsEach modules (instances ++ one ∷ []) w2
forked_one modules instances one w w2 id q answer (is_forked {new = new} live f) is o =
    comes modules instances one w w2 _ f.space f.after (same_copy new one.id is ∙ f.next) o
forked_one modules instances one w w2 id q answer (no_one_to_fork none) is o = absurd (cc is)
forked_one modules instances one w w2 id q answer (isnt_forked live first) is o = absurd (cc is)
forked_one modules instances one w w2 id q answer (no_memory_to_fork live none) is o = absurd (cc is)

pub few_to_fork : (modules : List OwnedModule) (instances : List OwnedInstance) (w w2 : World) (id : InstId) (q : Quota) (answer : ForkAnswer) (copy : InstId) → IsFork w id q answer w2 → answer ≡ fork_ok copy → OwnsEach modules instances w → length instances < 4096
few_to_fork modules instances w w2 id q answer copy (is_forked live f) is o =
    let few = o.live in
    fewer (length instances) (live_count w.tenants) few (f.no_fault (not_admitted many_instances))
few_to_fork modules instances w w2 id q answer copy (no_one_to_fork none) is o = absurd (cc is)
few_to_fork modules instances w w2 id q answer copy (isnt_forked live first) is o = absurd (cc is)
few_to_fork modules instances w w2 id q answer copy (no_memory_to_fork live none) is o = absurd (cc is)

-- ---- releases

pub released_one : (id : InstId) (modules : List OwnedModule) (instances : List OwnedInstance) (w w2 : World) (answer : Option (List ℕ)) (output : List ℕ) → IsRelease w id answer w2 → answer ≡ Some output → OwnsEach modules instances w → OwnsEach modules (filter (is_other id) instances) w2
released_one id modules instances w w2 answer output (is_released {t = t} live goes) is o =
    subst (OwnsEach modules (filter (is_other id) instances)) (sym goes.after)
    (let had = o.live in
    let one = one_fewer w.tenants id.number t live.0 in
    let less : suc (length (filter (is_other id) instances)) ≤ length instances = shorter number_of_instance id.number instances (o.all id.number t live.0) in record {
      few = o.few;
      live = omega (arith, had, one, less);
      all_modules = o.all_modules;
      all = λ j u e.
          ⊎_elim
          (λ (same : (j ≡ id.number) × (None ≡ Some u)). absurd (let bad = same.1 in cc bad))
          (λ (other : (j ≢ id.number) × (get_or w.tenants j None ≡ Some u)). still number_of_instance id.number instances j other.0 (o.all j u other.1))
          (at_place w.tenants id.number j None t u live.0 e);
    })
released_one id modules instances w w2 answer output (no_one_to_release none) is o = absurd (cc is)
