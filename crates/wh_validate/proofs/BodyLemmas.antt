-- One body more is checked; and what is known of checked bodies.
use Rattle.std.proofs.Common.{◌≡◌, ℕ, zero, suc, ◌+◌, ◌<◌, List, [], ◌∷◌, ◌++◌, length, map, drop, get_or, Some, slice_get, refl, sym, ap, subst, arith, ◌∙◌, append_assoc, append-nil, ◌≤◌, min, ◌-◌, ◌^◌}
use Rattle.std.proofs.Math.ListN.{drop_of_length-le}
use Rattle.wh_model.specs.Format.{FuncType, Body}
use Rattle.wh_model.specs.Validity.{Context, ValidBody, ValidBodies, FitsBody, FitBodies}
use Rattle.wh_syntax.specs.View.{view_body}
use Rattle.wh_syntax.specs.declared.module.Body.{Body as Given}
use Rattle.wh_bodies.specs.SideTables.{Table, table_of}
use Rattle.wh_validate.specs.CheckedBodies.{Checked}
use Rattle.wh_model.specs.declared.faults.ValidKind.{ValidKind}
use Rattle.wh_bodies.specs.BodyFaults.{IsOfBody, HasInstr}
use Rattle.wh_validate.specs.declared.error.ValidError.{ValidError}
use Rattle.wh_validate.specs.Blaming.{IsBadBody, Blames}
use Rattle.wh_validate.proofs.Lists.{get_there, get_mapped}

abbrev pub Rests : Context → List ℕ → List Given → ℕ → List Table → Type 0
Rests c fs bs k ts = (rest : List Table) → Checked c (drop k fs) (map view_body (drop k bs)) rest → Checked c fs (map view_body bs) (ts ++ rest)

drop_first : {X : Type 0} (xs : List X) (k : ℕ) (d : X) → k < length xs → drop k xs ≡ get_or xs k d ∷ drop (k + 1) xs
drop_first [] k d lt = absurd (omega (arith, lt))
drop_first (x ∷ xs) zero d lt = refl
drop_first (x ∷ xs) (suc k) d lt = let e : suc k + 1 ≡ suc (k + 1) = omega arith in drop_first xs k d (omega (arith, lt)) ∙ ap (λ n. get_or xs k d ∷ drop n (x ∷ xs)) (sym e)

pub one_more_checked : (c : Context) (fs : List ℕ) (bs : List Given) (k x d : ℕ) (b : Given) (f : FuncType) (t : Table) (ts : List Table) → k < length fs → k < length bs → x ≡ get_or fs k d → b ≡ get_or bs k b
    → slice_get c.types x ≡ Some f → ValidBody c f (view_body b) → FitsBody c f (view_body b) → t ≡ table_of c f (view_body b) → Rests c fs bs k ts → Rests c fs bs (k + 1) (ts ++ t ∷ [])
one_more_checked c fs bs k x d b f t ts lf lb atf atb type valid fits table rests = λ rest checked.
    let whole : Checked c (x ∷ drop (k + 1) fs) (view_body b ∷ map view_body (drop (k + 1) bs)) (t ∷ rest) = (view_body b, map view_body (drop (k + 1) bs), f, rest, refl, ap (λ w. w ∷ rest) table, type, valid, fits, checked) in
    let ef : x ∷ drop (k + 1) fs ≡ drop k fs = ap (λ y. y ∷ drop (k + 1) fs) atf ∙ sym (drop_first fs k d lf) in
    let eb : view_body b ∷ map view_body (drop (k + 1) bs) ≡ map view_body (drop k bs) = ap (λ (y : Given). view_body y ∷ map view_body (drop (k + 1) bs)) atb ∙ ap (λ w. map view_body w) (sym (drop_first bs k b lb)) in
    let moved = rests (t ∷ rest) (subst (λ w. Checked c (drop k fs) w (t ∷ rest)) eb (subst (λ w. Checked c w (view_body b ∷ map view_body (drop (k + 1) bs)) (t ∷ rest)) ef whole)) in
    subst (λ w. Checked c fs (map view_body bs) w) (sym (append_assoc ts (t ∷ []) rest)) moved

pub valid_checked : (c : Context) (fs : List ℕ) (bs : List Body) (ts : List Table) → Checked c fs bs ts → ValidBodies c fs bs
valid_checked c [] bs ts h = h.0
valid_checked c (x ∷ fs) bs ts (b, rest, f, more, eb, et, type, valid, fits, h) = (b, rest, eb, f, type, valid, valid_checked c fs rest more h)

pub fit_checked : (c : Context) (fs : List ℕ) (bs : List Body) (ts : List Table) → Checked c fs bs ts → FitBodies c fs bs
fit_checked c [] bs ts h = h.0
fit_checked c (x ∷ fs) bs ts (b, rest, f, more, eb, et, type, valid, fits, h) = (b, rest, eb, f, type, fits, fit_checked c fs rest more h)

pub all_checked : (c : Context) (fs : List ℕ) (bs : List Given) (k : ℕ) (ts : List Table) → length fs ≤ k → length bs ≤ k → Rests c fs bs k ts → Checked c fs (map view_body bs) ts
all_checked c fs bs k ts lf lb rests =
    let no_more : Checked c (drop k fs) (map view_body (drop k bs)) [] = subst (λ (w : List ℕ). Checked c w (map view_body (drop k bs)) []) (sym (drop_of_length-le fs lf)) (ap (λ w. map view_body w) (drop_of_length-le bs lb), refl) in
    subst (λ w. Checked c fs (map view_body bs) w) (append-nil ts) (rests [] no_more)

-- ---- a body of bodies that are valid and fit

body_valid : (c : Context) (fs : List ℕ) (bs : List Given) (k d : ℕ) (e : Given) (f : FuncType) → k < length fs → ValidBodies c fs (map view_body bs) → slice_get c.types (get_or fs k d) ≡ Some f → ValidBody c f (view_body (get_or bs k e))
body_valid c [] bs k d e f lt all type = absurd (omega (arith, lt))
body_valid c (x ∷ fs) [] k d e f lt (b, rest, eb, t, at, valid, more) type = absurd (cc eb)
body_valid c (x ∷ fs) (g ∷ bs) zero d e f lt (b, rest, eb, t, at, valid, more) type =
    let same : t ≡ f = cc (at, type) in
    let body : b ≡ view_body g = cc eb in
    subst (λ w. ValidBody c w (view_body g)) same (subst (λ w. ValidBody c t w) body valid)
body_valid c (x ∷ fs) (g ∷ bs) (suc k) d e f lt (b, rest, eb, t, at, valid, more) type =
    let others : rest ≡ map view_body bs = cc eb in
    body_valid c fs bs k d e f (omega (arith, lt)) (subst (λ w. ValidBodies c fs w) others more) type

body_fits : (c : Context) (fs : List ℕ) (bs : List Given) (k d : ℕ) (e : Given) (f : FuncType) → k < length fs → FitBodies c fs (map view_body bs) → slice_get c.types (get_or fs k d) ≡ Some f → FitsBody c f (view_body (get_or bs k e))
body_fits c [] bs k d e f lt all type = absurd (omega (arith, lt))
body_fits c (x ∷ fs) [] k d e f lt (b, rest, eb, t, at, fits, more) type = absurd (cc eb)
body_fits c (x ∷ fs) (g ∷ bs) zero d e f lt (b, rest, eb, t, at, fits, more) type =
    let same : t ≡ f = cc (at, type) in
    let body : b ≡ view_body g = cc eb in
    subst (λ w. FitsBody c w (view_body g)) same (subst (λ w. FitsBody c t w) body fits)
body_fits c (x ∷ fs) (g ∷ bs) (suc k) d e f lt (b, rest, eb, t, at, fits, more) type =
    let others : rest ≡ map view_body bs = cc eb in
    body_fits c fs bs k d e f (omega (arith, lt)) (subst (λ w. FitBodies c fs w) others more) type

pub body_right : (c : Context) (fs : List ℕ) (bs : List Given) (k d : ℕ) (b : Given) (f : FuncType) → k < length fs → b ≡ get_or bs k b → slice_get c.types (get_or fs k d) ≡ Some f
    → ValidBodies c fs (map view_body bs) × FitBodies c fs (map view_body bs) → ValidBody c f (view_body b) × FitsBody c f (view_body b)
body_right c fs bs k d b f lt at type all =
    subst (λ (w : Given). ValidBody c f (view_body w) × FitsBody c f (view_body w)) (sym at) (body_valid c fs bs k d b f lt all.0 type, body_fits c fs bs k d b f lt all.1 type)

-- ---- a body that was refused

pub bad_body : (c : Context) (fs : List ℕ) (bs : List Given) (k d : ℕ) (b : Given) (f : FuncType) (instr : ℕ) → k < length fs → k < length bs → b ≡ get_or bs k b → slice_get c.types (get_or fs k d) ≡ Some f
    → ¬ (ValidBody c f (view_body b) × FitsBody c f (view_body b)) → HasInstr (view_body b) instr → IsBadBody c fs (map view_body bs) k instr
bad_body c fs bs k d b f instr lf lb at type refused place = record {
  index = get_or fs k d;
  type = f;
  body = view_body b;
  named = get_there fs k d lf;
  typed = type;
  there = get_mapped view_body bs k b lb ∙ ap (λ (w : Given). Some (view_body w)) (sym at);
  refused = refused;
  has_instr = place;
}

-- a fault of the body at k
pub blamed : (c : Context) (imported : ℕ) (fs : List ℕ) (bs : List Body) (k instr : ℕ) (kind : ValidKind) (e : ValidError) → e ≡ record { func = Some (min (imported + k) (2 ^ 32 - 1)); instr = instr; kind = kind } → IsOfBody kind → IsBadBody c fs bs k instr
    → Blames c imported fs bs e.func e.instr e.kind
blamed c imported fs bs k instr kind e is listed bad = subst (λ (w : ValidError). Blames c imported fs bs w.func w.instr w.kind) (sym is) (listed, k, refl, bad)
