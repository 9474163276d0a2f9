-- What names represent.
use Rattle.std.proofs.Common.{◌≡◌, ◌∙◌, ℕ, zero, suc, ◌<◌, List, [], ◌∷◌, map, length, slice_get, Option, Some, None, IfSome, MatchOption, refl, sym, ap}
use Rattle.std.proofs.lemmas.Option.{same_Some, slice_get_within}
use Rattle.wh_script_model.specs.ScriptState as script
use Rattle.wh_script_model.specs.ScriptState.{ScriptState}
use Rattle.wh_script_model.specs.{NamedModule, LacksInstance, NoModule}
use Rattle.wh_names.specs.NamePlaces.{place_of_name}
use Rattle.wh_names.proofs.Places.{found, none_there}
use Rattle.wh_engine.specs.Obeying.{IsModuleNamed, IsNamed}

came_from : {A B : Type 0} (f : A → B) (xs : List A) (k : ℕ) (y : B) → slice_get (map f xs) k ≡ Some y → (x : A) × (slice_get xs k ≡ Some x) × (f x ≡ y)
came_from f [] k y e = absurd (cc e)
came_from f (x ∷ xs) zero y e = (x, refl, same_Some (f x) y e)
came_from f (x ∷ xs) (suc k) y e = came_from f xs k y e

goes_to : {A B : Type 0} (f : A → B) (xs : List A) (k : ℕ) (x : A) → slice_get xs k ≡ Some x → slice_get (map f xs) k ≡ Some (f x)
goes_to f [] k x e = absurd (cc e)
goes_to f (z ∷ xs) zero x e = ap (λ w. Some (f w)) (same_Some z x e)
goes_to f (z ∷ xs) (suc k) x e = goes_to f xs k x e

abbrev module_label : NamedModule → List ℕ
module_label n = n.name

abbrev guest_label : script.NamedInstance → List ℕ
guest_label g = g.name

pub module_named : (names : List (List ℕ)) (m : ScriptState) (name : List ℕ) (o : Option ℕ) → names ≡ map (λ (n : NamedModule). n.name) m.modules → o ≡ place_of_name names name
    → MatchOption o (NoModule m name) (λ k. IsModuleNamed m k name)
module_named names m name None are e =
    λ spelled has. none_there names name (sym e) has.0 (ap (λ (ns : List (List ℕ)). slice_get ns has.0) are ∙ goes_to module_label m.modules has.0 _ has.1)
module_named names m name (Some k) are e =
    came_from module_label m.modules k name (ap (λ (ns : List (List ℕ)). slice_get ns k) (sym are) ∙ found names name k (sym e))

pub guest_named : (names : List (List ℕ)) (m : ScriptState) (name : List ℕ) (o : Option ℕ) → names ≡ map (λ (g : script.NamedInstance). g.name) m.instances → o ≡ place_of_name names name
    → MatchOption o (LacksInstance m name) (λ k. IsNamed m k name)
guest_named names m name None are e =
    λ i g has. none_there names name (sym e) i (ap (λ (ns : List (List ℕ)). slice_get ns i) are ∙ goes_to guest_label m.instances i g has.0 ∙ ap (λ n. Some n) has.1)
guest_named names m name (Some k) are e =
    let d = came_from guest_label m.instances k name (ap (λ (ns : List (List ℕ)). slice_get ns k) (sym are) ∙ found names name k (sym e)) in (d.0, (d.1, d.2))

pub place_within : (names : List (List ℕ)) (name : List ℕ) (o : Option ℕ) → o ≡ place_of_name names name → IfSome o (λ k. k < length names)
place_within names name None e = tt
place_within names name (Some k) e = slice_get_within names k name (found names name k (sym e))
