-- Which functions can be called.
use Rattle.std.proofs.Common.{◌≡◌, Bool, true, false, ℕ, ◌+◌, ◌-◌, ◌<◌, ◌≤◌, List, [], ◌∷◌, zero, suc, length, map, Some, slice_get, unwrap_or, refl, sym, ap, subst, ◌∙◌, arith}
use Rattle.std.specs.Bool.{MatchBool}
use Rattle.std.specs.List.{AllByRecursion}
use Rattle.std.proofs.lemmas.Option.{slice_get_within}
use Rattle.std.proofs.lemmas.List.{length-map}
use Rattle.wh_model.specs.Format.Syntax as model
use Rattle.wh_model.specs.Format.{Body}
use Rattle.wh_model.specs.Validity.{Context, no_type}
use Rattle.wh_model.specs.Execution.Store.{Instance}
use Rattle.wh_model.specs.Execution.{own}
use Rattle.wh_syntax.specs.declared.module.FuncType.{FuncType}
use Rattle.wh_syntax.specs.View.{view_module, view_type}
use Rattle.wh_bodies.specs.SideTables.{Table}
use Rattle.wh_bodies.specs.View.{view_side, type_at}
use Rattle.wh_validate.specs.CheckedBodies.{Checked, IsChecked}
use Rattle.wh_imports.specs.LinkedState.{LinkedState}
use Rattle.wh_control.specs.Represents.{Func}
use Rattle.wh_control.proofs.Calling.{own_at}
use Rattle.wh_control.proofs.Entries.{Callee, of_host, of_module, callee}
use Rattle.wh_control.specs.Parts.{ProgramParts, funcs_of, funcs_in, IsInstance}
use Rattle.wh_machine.specs.MachineRuns.{linked_parts, IsInstanceOf}
use Rattle.wh_machine.proofs.Lookups.{parts_of, all_of}
use Rattle.wh_call.specs.Arguments.{Arguments, HasCall, IsOwnType, LacksOwn}
use Rattle.wh_call.proofs.Lists.{values_of, arguments_of, mapped_to}

-- ---- the functions that a module defines

some_same : {A : Type 0} {x y : A} → Some x ≡ Some y → x ≡ y
some_same e = cc

own_type : {t u : model.FuncType} {b d : Body} → own t b ≡ own u d → t ≡ u
own_type e = cc

-- where a function is the module's own, it stands behind those of the host
pub record OwnIndex (p : ProgramParts) (func : ℕ) (type : model.FuncType) : Type 0 where
  pub g : Func
  pub y : ℕ
  pub index : func ≡ length p.hosts + y
  pub at : slice_get (funcs_in p) y ≡ Some g
  pub is_type : type ≡ g.type

own_index_by : (p : ProgramParts) (func : ℕ) (type : model.FuncType) (body : Body) → Callee p.hosts (funcs_in p) func (own type body) → OwnIndex p func type
own_index_by p func type body (of_host k at is) = absurd (cc is)
own_index_by p func type body (of_module g y index at is) = record { g = g; y = y; index = index; at = at; is_type = own_type is }

own_index : (p : ProgramParts) (c : Context) (inst : Instance) (func : ℕ) (type : model.FuncType) (body : Body) → IsInstance p c inst → slice_get inst.funcs func ≡ Some (own type body) → OwnIndex p func type
own_index p c inst func type body is at = own_index_by p func type body (callee p.hosts (funcs_in p) func (own type body) (ap (λ fs. slice_get fs func) (sym is.program.funcs_are) ∙ at))

-- ---- what is known of checked functions

pub checked_named : (c : Context) (xs : List ℕ) (bs : List Body) (ts : List Table) → Checked c xs bs ts → AllByRecursion (λ x. x < length c.types) xs
checked_named c [] bs ts h = tt
checked_named c (x ∷ xs) bs ts (b, rest, f, more, eb, et, at, valid, fits, later) = (slice_get_within c.types x f at, checked_named c xs rest more later)

checked_at : (c : Context) (types : List model.FuncType) (xs : List ℕ) (bs : List Body) (ts : List Table) (y x : ℕ) → Checked c xs bs ts → slice_get xs y ≡ Some x → (g : Func) × (slice_get (funcs_of types xs bs ts) y ≡ Some g) × (g.type ≡ type_at types x)
checked_at c types [] bs ts y x h e = cc
checked_at c types (z ∷ xs) bs ts zero x (b, rest, f, more, eb, et, at, valid, fits, later) e =
    let same : z ≡ x = cc in
    subst (λ w. (g : Func) × (slice_get (funcs_of types (z ∷ xs) w ts) 0 ≡ Some g) × (g.type ≡ type_at types x)) (sym eb)
    (subst (λ w. (g : Func) × (slice_get (funcs_of types (z ∷ xs) (b ∷ rest) w) 0 ≡ Some g) × (g.type ≡ type_at types x)) (sym et) (_, refl, ap (type_at types) same))
checked_at c types (z ∷ xs) bs ts (suc y) x (b, rest, f, more, eb, et, at, valid, fits, later) e =
    subst (λ w. (g : Func) × (slice_get (funcs_of types (z ∷ xs) w ts) (suc y) ≡ Some g) × (g.type ≡ type_at types x)) (sym eb)
    (subst (λ w. (g : Func) × (slice_get (funcs_of types (z ∷ xs) (b ∷ rest) w) (suc y) ≡ Some g) × (g.type ≡ type_at types x)) (sym et) (checked_at c types xs rest more y x later e))

-- ---- of a linked module, by the clauses of its parts

-- no function of the host is the module's own
pub refused_low : (l : LinkedState) (func : ℕ) → func < length l.funcs → LacksOwn l func
refused_low l func low c inst is type body at =
    let o = own_index (linked_parts l) c inst func type body is at in
    absurd (omega (arith, low, o.index))

-- and none behind the last one
pub refused_high : (l : LinkedState) (func : ℕ) → length l.valid.decoded.funcs.items ≤ func - length l.funcs
    → LacksOwn l func
refused_high l func high c inst is type body at =
    let o = own_index (linked_parts l) c inst func type body is at in
    let parts = parts_of _ _ _ _ o.y o.g o.at in
    let within = slice_get_within l.valid.decoded.funcs.items o.y parts.x parts.x_at in
    absurd (omega (arith, high, o.index, within))

pub type_there : (l : LinkedState) (sound : IsChecked (view_module l.valid.decoded) (map view_side l.valid.tables)) (place x : ℕ) → slice_get l.valid.decoded.funcs.items place ≡ Some x → x < length l.valid.decoded.types.items
type_there l sound place x at =
    let low = all_of (λ y. y < length sound.context.types) l.valid.decoded.funcs.items place x (checked_named sound.context l.valid.decoded.funcs.items _ _ sound.checked) at in
    let same = ap length sound.valid.context.types in
    let mapped = length-map l.valid.decoded.types.items view_type in
    omega (arith, low, same, mapped)

-- the function of a place has the type that is named there
pub typed_at : (l : LinkedState) (sound : IsChecked (view_module l.valid.decoded) (map view_side l.valid.tables))
    (func place x : ℕ) (ft : FuncType) → func ≡ length l.funcs + place
    → slice_get l.valid.decoded.funcs.items place ≡ Some x → slice_get l.valid.decoded.types.items x ≡ Some ft
    → IsOwnType l func (view_type ft)
typed_at l sound func place x ft index at_x at_type c inst is =
    let types = map view_type l.valid.decoded.types.items in
    let found = checked_at sound.context types l.valid.decoded.funcs.items _ _ place x sound.checked at_x in
    let is_type = found.2 ∙ ap (λ o. unwrap_or o no_type)
    (mapped_to view_type l.valid.decoded.types.items x ft at_type) in (
      found.0.body,
      own_at c inst l.funcs (funcs_in (linked_parts l)) func place found.0 is.program found.1 index
          ∙ ap (λ t. Some (own t found.0.body)) is_type,
    )

-- ---- calls

-- the function of an index is called with arguments of its parameters
pub calls_by : (l : LinkedState) (func : ℕ) (type : model.FuncType) (args : List ℕ) → IsOwnType l func type
    → (b : Bool) → MatchBool b (Arguments type.params args) (¬ (Arguments type.params args))
    → (c : Context) (inst : Instance) → IsInstanceOf l c inst
    → MatchBool b (HasCall inst func args) (¬ (HasCall inst func args))
calls_by l func type args owned true h c inst is =
    let v = values_of type.params args h in
    let o = owned c inst is in
    (type, o.0, v.0, record { is_own = o.1; types = v.1; fit = v.2; words = v.3 })
calls_by l func type args owned false h c inst is = λ (other, body, vs, u).
    let same : other ≡ type = own_type (some_same (sym u.is_own ∙ (owned c inst is).1)) in
    h (arguments_of vs type.params args (u.types ∙ ap (λ (t : model.FuncType). t.params) same) u.fit u.words)

pub no_call : (l : LinkedState) (func : ℕ) (args : List ℕ) → LacksOwn l func → (c : Context) (inst : Instance)
    → IsInstanceOf l c inst → ¬ (HasCall inst func args)
no_call l func args lacks c inst is = λ (type, body, vs, u). lacks c inst is type body u.is_own
