-- At most one import is the first without its item, for one cause, and then the module doesn't link.
use Rattle.std.proofs.Common.{◌≡◌, ℕ, zero, suc, inl, inr, List, [], ◌∷◌, take, Some, slice_get, ap, subst, rules}
use Rattle.std.specs.List.{AllByRecursion}
use Rattle.wh_model.specs.Format.{FuncType, Import, Module}
use Rattle.wh_model.specs.Execution.{Parameters, ImportsGlobal}
use Rattle.wh_model.specs.declared.host.HostGlobal.{HostGlobal}
use Rattle.wh_model.specs.declared.host.HostGlobal.TheVariants.{Base, Salt}
use Rattle.wh_model.specs.declared.host.HostItem.{HostItem}
use Rattle.wh_model.specs.declared.host.HostItem.TheVariants.{Func, Global}
use Rattle.wh_model.specs.declared.faults.ImportFault.{ImportFault}
use Rattle.wh_model.specs.declared.faults.ImportFault.TheVariants.{UnknownImport, ImportType}
use Rattle.wh_model.specs.Linking.{value_of, ImportsItem, HasItem, IsKnown, LacksItem, Links, IsFirstFault}

-- what an owner may give
pub some_parameters : Parameters
some_parameters = record { base = 0; salt = 0; inputs = []; page_limit = 0 }

known_global : (p : Parameters) (i : Import) (g : HostGlobal) → ImportsGlobal p i (value_of p g) → IsKnown i
known_global p i g (from, inl is) = (from, Global Base, is.0)
known_global p i g (from, inr is) = (from, Global Salt, is.0)

known_item : (types : List FuncType) (i : Import) (item : HostItem) → ImportsItem types i item → IsKnown i
known_item types i (Func h) is = (is.0, Func h, is.1)
known_item types i (Global g) is = known_global some_parameters i g (is some_parameters)

pub has_not_lacks : (types : List FuncType) (i : Import) (fault : ImportFault) → HasItem types i → LacksItem types i fault → ⊥
has_not_lacks types i UnknownImport has lacks = lacks (known_item types i has.0 has.1)
has_not_lacks types i ImportType has lacks = lacks.1 has

some_same : {X : Type 0} (x y : X) → Some x ≡ Some y → x ≡ y
some_same x y e = cc e

no_item : (types : List FuncType) (i a : Import) (fault : ImportFault) → Some i ≡ Some a → HasItem types i → LacksItem types a fault → ⊥
no_item types i a fault e has lacks = has_not_lacks types a fault (subst (HasItem types) (some_same i a e) has) lacks

one_place : (types : List FuncType) (is : List Import) (f g : ImportFault) (p q : ℕ) (a b : Import) → slice_get is p ≡ Some a → slice_get is q ≡ Some b → LacksItem types a f → LacksItem types b g
    → AllByRecursion (HasItem types) (take p is) → AllByRecursion (HasItem types) (take q is) → (f ≡ g) × (p ≡ q)
one_place types [] f g p q a b at bt lf lg before others = absurd (cc at)
one_place types (i ∷ is) f g zero zero a b at bt lf lg before others = search rules
one_place types (i ∷ is) f g zero (suc q) a b at bt lf lg before others = absurd (no_item types i a f at others.0 lf)
one_place types (i ∷ is) f g (suc p) zero a b at bt lf lg before others = absurd (no_item types i b g bt before.0 lg)
one_place types (i ∷ is) f g (suc p) (suc q) a b at bt lf lg before others =
    let rest = one_place types is f g p q a b at bt lf lg before.1 others.1 in
    (rest.0, ap suc rest.1)

pub one_first_fault : (m : Module) (f g : ImportFault) (p q : ℕ) → IsFirstFault m f p → IsFirstFault m g q → (f ≡ g) × (p ≡ q)
one_first_fault m f g p q x y = one_place m.types m.imports f g p q x.at y.at x.stands y.stands x.lacks y.lacks x.before y.before

all_have : (types : List FuncType) (is : List Import) (p : ℕ) (a : Import) → slice_get is p ≡ Some a → AllByRecursion (HasItem types) is → HasItem types a
all_have types [] p a at all = absurd (cc at)
all_have types (i ∷ is) zero a at all = subst (HasItem types) (some_same i a at) all.0
all_have types (i ∷ is) (suc p) a at all = all_have types is p a at all.1

-- a module that links has no such import
pub links_no_fault : (m : Module) (f : ImportFault) (p : ℕ) → Links m → IsFirstFault m f p → ⊥
links_no_fault m f p links x = has_not_lacks m.types x.at f (all_have m.types m.imports p x.at x.stands links) x.lacks
