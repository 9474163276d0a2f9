-- An item is known by its name, and what has an item asks for its kind and type.
use Rattle.std.proofs.Common.{◌≡◌, ℕ, ◌==◌, cond, inl, inr, List, [], ◌∷◌, refl, sym, ap, subst, ◌∙◌}
use Rattle.wh_model.specs.declared.host.HostFunc.TheVariants.{Input, Put, Emit}
use Rattle.wh_model.specs.Format.{FuncType, Import}
use Rattle.wh_model.specs.Execution.{ImportsGlobal}
use Rattle.wh_model.specs.declared.host.HostGlobal.{HostGlobal}
use Rattle.wh_model.specs.declared.host.HostGlobal.TheVariants.{Base, Salt}
use Rattle.wh_model.specs.declared.host.HostItem.{HostItem}
use Rattle.wh_model.specs.declared.host.HostItem.TheVariants.{Func, Global}
use Rattle.wh_model.specs.Linking.{item_name, value_of, ImportsItem, HasItem}
use Rattle.wh_model.proofs.LinkingLemmas.{some_parameters}
use Rattle.wh_imports.specs.Typed.{IsTyped}

first : List ℕ → ℕ
first [] = 0
first (b ∷ bs) = b

-- the names differ in their first letters
by_letter : ℕ → HostItem
by_letter b = cond (b == 105) (Func Input) (cond (b == 112) (Func Put) (cond (b == 101) (Func Emit) (cond (b == 98) (Global Base) (Global Salt))))

named_back : (item : HostItem) → by_letter (first (item_name item)) ≡ item
unfolding first by_letter
named_back (Func Input) = refl
named_back (Func Put) = refl
named_back (Func Emit) = refl
named_back (Global Base) = refl
named_back (Global Salt) = refl

one_name : (a b : HostItem) → item_name a ≡ item_name b → a ≡ b
one_name a b e = sym (named_back a) ∙ ap (λ w. by_letter (first w)) e ∙ named_back b

typed_by_name : (types : List FuncType) (i : Import) (a b : HostItem) → i.name ≡ item_name a → i.name ≡ item_name b → IsTyped types i.desc a → IsTyped types i.desc b
typed_by_name types i a b p q typed = subst (IsTyped types i.desc) (one_name a b (sym p ∙ q)) typed

typed_global : (types : List FuncType) (i : Import) (g : HostGlobal) (item : HostItem) → i.name ≡ item_name item → ImportsGlobal some_parameters i (value_of some_parameters g) → IsTyped types i.desc item
typed_global types i g item name (from, inl is) = typed_by_name types i (Global Base) item is.0 name is.1
typed_global types i g item name (from, inr is) = typed_by_name types i (Global Salt) item is.0 name is.1

typed_item : (types : List FuncType) (i : Import) (found item : HostItem) → i.name ≡ item_name item → ImportsItem types i found → IsTyped types i.desc item
typed_item types i (Func h) item name is = typed_by_name types i (Func h) item is.1 name (is.2, is.3, is.4)
typed_item types i (Global g) item name is = typed_global types i g item name (is some_parameters)

pub typed_has : (types : List FuncType) (i : Import) (item : HostItem) → i.name ≡ item_name item → HasItem types i → IsTyped types i.desc item
typed_has types i item name has = typed_item types i has.0 item name has.1
