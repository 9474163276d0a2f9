-- Exports of one name.
use Rattle.std.proofs.Common.{◌≡◌, ℕ, zero, suc, List, [], ◌∷◌, map, Some, None, slice_get, refl, sym, ap, subst, ◌∙◌, rules}
use Rattle.wh_model.specs.declared.ExternKind.{ExternKind}
use Rattle.wh_model.specs.declared.ExternKind.TheVariants.{Func}
use Rattle.wh_model.specs.Format.Syntax as model
use Rattle.wh_model.specs.Format.{FuncType, Body}
use Rattle.wh_model.specs.Validity.{DifferentNames}
use Rattle.wh_model.specs.Execution.Store.{Instance}
use Rattle.wh_model.specs.Execution.{own}
use Rattle.wh_host_model.specs.{ExportsOwn}
use Rattle.wh_syntax.specs.declared.module.Export.{Export}
use Rattle.wh_syntax.specs.View.{view_export, view_module}
use Rattle.wh_syntax.specs.declared.module.Module.{Module as Decoded}
use Rattle.wh_bodies.specs.View.{view_side}
use Rattle.wh_validate.specs.CheckedBodies.{IsChecked}
use Rattle.wh_imports.specs.LinkedState.{LinkedState}
use Rattle.wh_machine.proofs.Lookups.{all_of}
use Rattle.wh_call.specs.Exports.{Exports, LacksFunc}
use Rattle.wh_call.specs.Arguments.{IsOwnType, LacksOwn}
use Rattle.wh_call.proofs.Lists.{mapped_from, mapped_to}
use Rattle.wh_instance.specs.CallsByName.{NamesOwn, NamesOnly, NamesNone}

-- ---- names that differ

some_same : {A : Type 0} {x y : A} → Some x ≡ Some y → x ≡ y
some_same e = cc

same_export : (es : List model.Export) → DifferentNames es → (i j : ℕ) (a b : model.Export) → slice_get es i ≡ Some a
    → slice_get es j ≡ Some b → a.name ≡ b.name → a ≡ b
same_export [] d i j a b at bt same = cc
same_export (e ∷ es) d zero zero a b at bt same = some_same (sym at ∙ bt)
same_export (e ∷ es) d zero (suc j) a b at bt same = search (rules, some_same, all_of)
same_export (e ∷ es) d (suc i) zero a b at bt same = search (rules, some_same, all_of)
same_export (e ∷ es) d (suc i) (suc j) a b at bt same = same_export es d.1 i j a b at bt same

-- ---- what was found

-- it stands among the module's exports
record Found (es : List Export) (name : List ℕ) (index : ℕ) : Type 0 where
  pub place : ℕ
  pub exported : slice_get (map view_export es) place ≡ Some (record { name = name; kind = Func; index = index })

abbrev export_of : List ℕ → ExternKind → ℕ → model.Export
export_of name kind index = record { name = name; kind = kind; index = index }

record_is : (name other : List ℕ) (kind : ExternKind) (index x : ℕ) → kind ≡ Func → other ≡ name → index ≡ x
    → export_of other kind x ≡ export_of name Func index
record_is name other kind index x k n e = cc

found : (es : List Export) (name : List ℕ) (index : ℕ) → Exports es name index → Found es name index
found es name index (at, e, there, is, same) = record {
  place = at;
  exported = search (rules, mapped_to, record_is);
}

-- ---- of a linked module

pub names_differ : (l : LinkedState) (m : Decoded) → m ≡ l.valid.decoded
    → IsChecked (view_module m) (map view_side l.valid.tables) → DifferentNames (view_module l.valid.decoded).exports
names_differ l m same sound = subst (λ z. DifferentNames (view_module z).exports) same sound.valid.names

pub named_own : (l : LinkedState) (name : List ℕ) (index : ℕ) (type : FuncType)
    → Exports l.valid.decoded.exports.items name index → IsOwnType l index type → NamesOwn l name index
named_own l name index type h owned c inst is =
    let o = owned c inst is in
    let f = found l.valid.decoded.exports.items name index h in
    (type, o.0, record { place = f.place; exported = f.exported; is_own = o.1 })

index_is : (l : LinkedState) (name : List ℕ) (index x : ℕ) (inst : Instance) (type : FuncType) (body : Body)
    → DifferentNames (view_module l.valid.decoded).exports → Exports l.valid.decoded.exports.items name index
    → ExportsOwn (view_module l.valid.decoded) inst name x type body → index ≡ x
index_is l name index x inst type body d h u =
    let f = found l.valid.decoded.exports.items name index h in ap (λ (z : model.Export). z.index)
    (same_export (view_module l.valid.decoded).exports d f.place u.place _ _ f.exported u.exported refl)

pub named_only : (l : LinkedState) (name : List ℕ) (index : ℕ) → DifferentNames (view_module l.valid.decoded).exports
    → Exports l.valid.decoded.exports.items name index → NamesOnly l name (Some index)
named_only l name index d h c inst x type body is u = ap Some (index_is l name index x inst type body d h u)

-- a function of the host is exported by the name
pub named_host : (l : LinkedState) (name : List ℕ) (index : ℕ) → DifferentNames (view_module l.valid.decoded).exports
    → Exports l.valid.decoded.exports.items name index → LacksOwn l index → NamesNone l name
named_host l name index d h lacks c inst x type body is = λ u. lacks c inst is type body
    (subst (λ z. slice_get inst.funcs z ≡ Some (own type body))
    (sym (index_is l name index x inst type body d h u)) u.is_own)

-- no function is
pub named_none : (l : LinkedState) (name : List ℕ) → LacksFunc l.valid.decoded.exports.items name → NamesNone l name
named_none l name lacks c inst x type body is = search (rules, mapped_from)

pub none_only : (l : LinkedState) (name : List ℕ) → NamesNone l name → NamesOnly l name None
none_only l name lacks c inst x type body is u = absurd (lacks c inst x type body is u)
