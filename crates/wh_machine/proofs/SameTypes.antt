-- Equal function types.
use Rattle.std.proofs.Common.{◌≡◌, ◌≢◌, ℕ, Some, slice_get, List, Bool, true, false, refl, sym, ap, ◌∙◌}
use Rattle.std.specs.Bool.{MatchBool, Decides}
use Rattle.std.proofs.lemmas.Slice.Eq.{slice_eq-Decides}
use lib.Pointwise.{pointwise}
use Rattle.wh_model.specs.declared.ValType.{ValType}
use Rattle.wh_model.specs.declared.ValType.TheVariants.{I32, I64}
use Rattle.wh_model.specs.contracts.ValTypePartialEq.TheImpl.{eq-value}
use Rattle.wh_model.specs.Format.{FuncType}

type_decides : (a b : ValType) → Decides (eq-value.it a b) (a ≡ b)
type_decides I32 I32 = (λ e. refl, λ e. refl)
type_decides I32 I64 = (λ e. cc, λ e. cc)
type_decides I64 I32 = (λ e. cc, λ e. cc)
type_decides I64 I64 = (λ e. refl, λ e. refl)

-- parameters and results are compared
pub same_types : (xs ys us vs : List ValType) (r : Bool) → true ≡ pointwise eq-value.it xs ys → r ≡ pointwise eq-value.it us vs
    → MatchBool r (◌≡◌ {A = FuncType} (record { params = xs; results = us }) (record { params = ys; results = vs })) (◌≢◌ {A = FuncType} (record { params = xs; results = us }) (record { params = ys; results = vs }))
same_types xs ys us vs true p q =
    let a : xs ≡ ys = (slice_eq-Decides type_decides xs ys true p).0 refl in
    let b : us ≡ vs = (slice_eq-Decides type_decides us vs true q).0 refl in
    cc (a, b)
same_types xs ys us vs false p q = λ e. let b : us ≡ vs = ap (λ (t : FuncType). t.results) e in let z : false ≡ true = (slice_eq-Decides type_decides us vs false q).1 b in cc

pub other_types : (xs ys us vs : List ValType) → false ≡ pointwise eq-value.it xs ys → ◌≢◌ {A = FuncType} (record { params = xs; results = us }) (record { params = ys; results = vs })
other_types xs ys us vs p e = let b : xs ≡ ys = ap (λ (t : FuncType). t.params) e in let z : false ≡ true = (slice_eq-Decides type_decides xs ys false p).1 b in cc

-- the type at an index is that of a function, or another
pub type_matches : (types : List FuncType) (y : ℕ) (left right type : FuncType) (r : Bool) → left ≡ type → slice_get types y ≡ Some right → MatchBool r (left ≡ right) (left ≢ right) → MatchBool r (slice_get types y ≡ Some type) (slice_get types y ≢ Some type)
type_matches types y left right type true e at same = at ∙ ap (λ t. Some t) (sym same ∙ e)
type_matches types y left right type false e at other = λ there. other (e ∙ (let z : Some right ≡ Some type = sym at ∙ there in let w : right ≡ type = cc in sym w))
