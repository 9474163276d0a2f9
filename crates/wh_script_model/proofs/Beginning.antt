-- An instance of a module with one function: what it begins with, and that it is admitted.
use Rattle.std.proofs.Common.{◌≡◌, ℕ, inl, inr, Bool, true, false, List, [], ◌∷◌, slice_get, Some, codes, refl, sym, ap, ◌∙◌, arith}
use Rattle.std.proofs.lemmas.Bool.{false≢true}
use Rattle.std.proofs.lemmas.Option.{none-some}
use Rattle.wh_model.specs.declared.ValType.{ValType}
use Rattle.wh_model.specs.Format.{Code, FuncType, Body}
use Rattle.wh_model.specs.Execution.Store.{Instance, Store}
use Rattle.wh_model.specs.Execution.{own, Beginning, memory_min, segment_bounds, begins, Prepares, IsInitial, in_bounds}
use Rattle.wh_model.proofs.Instance.{one_beginning}
use Rattle.wh_host_model.specs.{given_of, no_module, shares, min_max, frames, swap, instances, memory, segments, ExportsOwn}
use Rattle.wh_script_model.specs.{default_settings, admit, admit_ok, NamedInstance, MeetsNoLimit, new_instance, is_admitted, instance_comes, one_function, only_module, some_params, IsObeyedHere}
use Rattle.wh_script_model.specs.ScriptState.{ScriptState}

abbrev pub type_with : List ValType → FuncType
type_with results = record { params = []; results = results }

abbrev pub body_of : Code → Body
body_of body = record { locals = []; code = body }

abbrev pub instance_of : List ValType → Code → Instance
instance_of results body =
    record { types = type_with results ∷ []; funcs = own (type_with results) (body_of body) ∷ []; page_limit = 0 }

abbrev pub no_store : Store
no_store = record { bytes = []; globals = []; table = []; inputs = []; output = [] }

prepares : (results : List ValType) (body : Code)
    → Prepares (one_function results body) (given_of some_params) (instance_of results body) [] [] []
prepares results body = record {
  types = refl;
  page_limit = refl;
  hosts = [];
  owns = own (type_with results) (body_of body) ∷ [];
  imported = [];
  begun = [];
  imports = (refl, refl);
  defines = (type_with results, body_of body, [], [], refl, refl, refl, (refl, refl));
  funcs = refl;
  begins = refl;
  globals_are = refl;
  elements_at = refl;
  segments_at = refl;
}

pub initial : (results : List ValType) (body : Code)
    → IsInitial (one_function results body) (given_of some_params) (begins (instance_of results body) no_store [])
initial results body = in_bounds (omega arith) (prepares results body) tt tt

true_or_false : (b : Bool) → true ≡ b → b ≡ false → ⊥
true_or_false b p q = false≢true (sym (p ∙ q))

none_yet : (i : ℕ) (g : NamedInstance) → slice_get {X = NamedInstance} [] i ≡ Some g → ⊥
none_yet i g h = none-some g h

-- it begins, and isn't refused
abbrev begins_so : Beginning → Bool
begins_so memory_min = false
begins_so segment_bounds = false
begins_so (begins inst s pieces) = true

isnt_refused : (results : List ValType) (body : Code) (b : Beginning) → begins_so b ≡ false
    → IsInitial (one_function results body) (given_of some_params) b → ⊥
isnt_refused results body b e h =
    let same : begins (instance_of results body) no_store [] ≡ b =
    one_beginning (one_function results body) (given_of some_params) _ _ (initial results body) h in
    true_or_false (begins_so b) (ap begins_so same) e

no_limit : (results : List ValType) (body : Code)
    → MeetsNoLimit default_settings (only_module (one_function results body)) (one_function results body) some_params
no_limit results body no_module h = h
no_limit results body shares (inl h) = omega (arith, h)
no_limit results body shares (inr h) = omega (arith, h)
no_limit results body min_max (inl h) = omega (arith, h)
no_limit results body min_max (inr (inl h)) = omega (arith, h)
no_limit results body min_max (inr (inr h)) = omega (arith, h)
no_limit results body frames h = omega (arith, h)
no_limit results body swap h = omega (arith, h)
no_limit results body instances h = omega (arith, h)
no_limit results body memory h = isnt_refused results body memory_min refl h
no_limit results body segments h = isnt_refused results body segment_bounds refl h

-- the instance `a`, and the host with it
abbrev pub guest_a : List ValType → Code → NamedInstance
guest_a results body =
    new_instance (codes "a") (one_function results body) some_params (instance_of results body) []

abbrev pub with_a : List ValType → Code → ScriptState
with_a results body = record (only_module (one_function results body)) { instances = guest_a results body ∷ [] }

pub is_admitted_so : (results : List ValType) (body : Code)
    → IsObeyedHere (only_module (one_function results body)) 2 (admit (codes "a") (codes "m") some_params)
    (admit_ok (codes "a") 0 ∷ []) (with_a results body)
is_admitted_so results body =
    instance_comes (0, refl) (λ i g h. none_yet i g h.0) (is_admitted (no_limit results body) (initial results body))

-- ---- its export

pub exports_f : (results : List ValType) (body : Code)
    → ExportsOwn (one_function results body) (instance_of results body) (codes "f") 0 (type_with results) (body_of body)
exports_f results body = record { place = 0; exported = refl; is_own = refl }
