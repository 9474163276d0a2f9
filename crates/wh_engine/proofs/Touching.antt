-- The instances of a script, one of which has other calls.
use Rattle.std.proofs.Common.{arith, ◌≡◌, ℕ, ◌+◌, zero, suc, List, [], ◌∷◌, map, slice_get, slice_set, true, Some, refl, ap, sym, subst, ◌∙◌, Option, None}
use Rattle.wh_model.specs.Execution.{Call}
use Rattle.wh_script_model.specs.ScriptState as script
use Rattle.wh_script_model.specs.ScriptState.{ScriptState}
use Rattle.wh_script_model.specs.{with_instance, refuel, cancel, retry, Reply, Files, IsObeyed, module_name_is_taken, module_comes, no_such_instance, is_refueled, no_one_to_refuel, no_call_to_refuel, is_cancelled, no_one_to_cancel, no_call_to_cancel, is_retried, no_one_to_retry, no_fault_to_retry}
use Rattle.wh_script_model.specs.Settings.{Settings}
use Rattle.wh_engine.specs.declared.parts.NamedInstance.{NamedInstance}
use Rattle.wh_engine.specs.RepresentedScript.{IsNamedInstance, AreNamedInstances}

-- ---- what commands change

-- nothing; or one instance has other calls, or is blocked on another fault, or for none
pub data TouchesCalls (m : ScriptState) : ScriptState → Type 0 where
  nothing : TouchesCalls m m
  calls_of : (i : ℕ) (g : script.NamedInstance) (calls : List Call) (stands : Option ℕ) → slice_get m.instances i ≡ Some g
      → TouchesCalls m (with_instance m i (record g { calls = calls; at_fault = stands }))

pub refuel_touches : {settings : Settings} {files : Files} {m : ScriptState} {line : ℕ} {name : List ℕ} {n : ℕ} {replies : List Reply} {m2 : ScriptState}
    → IsObeyed true settings files m line (refuel name n) replies m2 → TouchesCalls m m2
refuel_touches (module_name_is_taken names has) = absurd names
refuel_touches (module_comes names free brings receives) = absurd names
refuel_touches (no_such_instance for none) = nothing
refuel_touches (is_refueled i {g} has live first) = calls_of i g _ g.at_fault has.0
refuel_touches (no_one_to_refuel i has gone) = nothing
refuel_touches (no_call_to_refuel i has live none) = nothing

pub cancel_touches : {settings : Settings} {files : Files} {m : ScriptState} {line : ℕ} {name : List ℕ} {replies : List Reply} {m2 : ScriptState}
    → IsObeyed true settings files m line (cancel name) replies m2 → TouchesCalls m m2
cancel_touches (module_name_is_taken names has) = absurd names
cancel_touches (module_comes names free brings receives) = absurd names
cancel_touches (no_such_instance for none) = nothing
cancel_touches (is_cancelled i {g} has live first) = calls_of i g _ None has.0
cancel_touches (no_one_to_cancel i has gone) = nothing
cancel_touches (no_call_to_cancel i has live none) = nothing

pub retry_touches : {settings : Settings} {files : Files} {m : ScriptState} {line : ℕ} {name : List ℕ} {replies : List Reply} {m2 : ScriptState}
    → IsObeyed true settings files m line (retry name) replies m2 → TouchesCalls m m2
retry_touches (module_name_is_taken names has) = absurd names
retry_touches (module_comes names free brings receives) = absurd names
retry_touches (no_such_instance for none) = nothing
retry_touches (no_one_to_retry i has gone) = nothing
retry_touches (is_retried i {g} has live stands) = calls_of i g g.calls None has.0
retry_touches (no_fault_to_retry i has live none) = nothing

-- ---- and what stays

abbrev name_of : script.NamedInstance → List ℕ
name_of g = g.name

pub names_stay : (gs : List script.NamedInstance) (i : ℕ) (g h : script.NamedInstance) → slice_get gs i ≡ Some g → h.name ≡ g.name
    → map (λ (x : script.NamedInstance). x.name) (slice_set gs i h) ≡ map (λ (x : script.NamedInstance). x.name) gs
names_stay [] i g h e same = absurd (cc e)
names_stay (x ∷ gs) zero g h e same =
    let is : x ≡ g = cc e in
    ap (λ n. n ∷ map (λ (x : script.NamedInstance). x.name) gs) (same ∙ sym (ap name_of is))
names_stay (x ∷ gs) (suc i) g h e same = ap (λ ns. x.name ∷ ns) (names_stay gs i g h e same)

-- with other calls it is the same instance
pub guests_stay : (k : ℕ) (xs : List NamedInstance) (gs : List script.NamedInstance) (i : ℕ) (g : script.NamedInstance) (calls : List Call) (stands : Option ℕ) → AreNamedInstances k xs gs → slice_get gs i ≡ Some g
    → AreNamedInstances k xs (slice_set gs i (record g { calls = calls; at_fault = stands }))
guests_stay k [] [] i g calls stands are e = absurd (cc e)
guests_stay k [] (y ∷ gs) i g calls stands are e = absurd are
guests_stay k (x ∷ xs) [] i g calls stands are e = absurd are
guests_stay k (x ∷ xs) (y ∷ gs) zero g calls stands are e =
    let is : y ≡ g = cc e in
    let same : IsNamedInstance k x g = subst (IsNamedInstance k x) is are.0 in
    (record { number = same.number; name = same.name; starts = same.starts; released = same.released; last_printed = same.last_printed }, are.1)
guests_stay k (x ∷ xs) (y ∷ gs) (suc i) g calls stands are e = (are.0, guests_stay (k + 1) xs gs i g calls stands are.1 e)

abbrev number_of_guest : NamedInstance → ℕ
number_of_guest x = x.id.number

-- the number of the one at a place, and where it is
pub guest_at : (k : ℕ) (xs : List NamedInstance) (gs : List script.NamedInstance) (i : ℕ) (x : NamedInstance) → AreNamedInstances k xs gs → slice_get xs i ≡ Some x → x.id.number ≡ k + i
guest_at k [] gs i x are e = absurd (cc e)
guest_at k (y ∷ xs) [] i x are e = absurd are
guest_at k (y ∷ xs) (g ∷ gs) zero x are e = let is : y ≡ x = cc e in let n : y.id.number ≡ k = are.0.number in omega (arith, ap number_of_guest is, n)
guest_at k (y ∷ xs) (g ∷ gs) (suc i) x are e = let n : x.id.number ≡ (k + 1) + i = guest_at (k + 1) xs gs i x are.1 e in omega (arith, n)

pub placed_at : (xs : List NamedInstance) (i : ℕ) (x : NamedInstance) → slice_get xs i ≡ Some x → slice_get (map (λ (y : NamedInstance). y.id.place) xs) i ≡ Some x.id.place
placed_at [] i x e = absurd (cc e)
placed_at (y ∷ xs) zero x e = let is : y ≡ x = cc e in ap (λ (z : NamedInstance). Some z.id.place) is
placed_at (y ∷ xs) (suc i) x e = placed_at xs i x e

pub guest_of : (k : ℕ) (xs : List NamedInstance) (gs : List script.NamedInstance) (i : ℕ) (x : NamedInstance) → AreNamedInstances k xs gs → slice_get xs i ≡ Some x → (g : script.NamedInstance) × (slice_get gs i ≡ Some g)
guest_of k [] gs i x are e = absurd (cc e)
guest_of k (y ∷ xs) [] i x are e = absurd are
guest_of k (y ∷ xs) (g ∷ gs) zero x are e = (g, refl)
guest_of k (y ∷ xs) (g ∷ gs) (suc i) x are e = guest_of (k + 1) xs gs i x are.1 e

-- ---- where calls are touched

pub touched_modules : (m m1 : ScriptState) → TouchesCalls m m1 → m1.modules ≡ m.modules
touched_modules m _ nothing = refl
touched_modules m _ (calls_of i g calls stands at) = refl

pub touched_names : (m m1 : ScriptState) → TouchesCalls m m1 → map (λ (x : script.NamedInstance). x.name) m1.instances ≡ map (λ (x : script.NamedInstance). x.name) m.instances
touched_names m _ nothing = refl
touched_names m _ (calls_of i g calls stands at) = names_stay m.instances i g (record g { calls = calls; at_fault = stands }) at refl

pub touched_guests : (xs : List NamedInstance) (m m1 : ScriptState) → TouchesCalls m m1 → AreNamedInstances 0 xs m.instances → AreNamedInstances 0 xs m1.instances
touched_guests xs m _ nothing are = are
touched_guests xs m _ (calls_of i g calls stands at) are = guests_stay 0 xs m.instances i g calls stands are at
