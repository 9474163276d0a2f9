-- A body that is valid and fits is not refused.
use Rattle.std.proofs.Common.{◌≡◌, ℕ, ◌+◌, ◌≤◌, List, [], ◌∷◌, ◌++◌, length, Option, Some, None, Ok, Err, refl, sym, ap, ◌∙◌, arith, append-nil, length-append, rules}
use Rattle.std.specs.Prelude.{slice_get}
use Rattle.wh_model.specs.declared.ValType.{ValType}
use Rattle.wh_model.specs.declared.Open.TheVariants.{Other}
use Rattle.wh_model.specs.Format.{Code, Instr, end_mark, flatten, expression, FuncType, Body}
use Rattle.wh_model.specs.Validity.{Context, operand, HasType, ValidBody, operands, greatest, body_height}
use Rattle.wh_bodies.specs.declared.fault.BodyFault.{BodyFault}
use Rattle.wh_bodies.specs.declared.marks.ConstructEnd.{ConstructEnd}
use Rattle.wh_bodies.specs.ConstructEnds.{all_marks}
use Rattle.wh_bodies.specs.Opened.{around}
use Rattle.wh_bodies.specs.CheckSteps.{State, run}
use Rattle.wh_bodies.specs.CheckEnds.{nothing_known, body_label, started, whole_run}
use Rattle.wh_bodies.proofs.Places.{own_marks}
use Rattle.wh_bodies.proofs.ConstructsForward.{run_on, can_end}
use Rattle.wh_bodies.proofs.Complete.{can, can_ran}
use Rattle.wh_bodies.proofs.Bodies.{place_of, greatest_same, body_at, own_are}

few_operands : (t : Option ValType) → 0 + operands t ≤ 256
few_operands None = omega arith
few_operands (Some t) = omega arith

pub goes_through : (d : Context) (code : Code) (of : Option ValType) (n : ℕ) → n ≡ length (flatten code) + 1 → greatest (around (body_label of n ∷ []) d) 0 0 code ≤ 256 → HasType (around (body_label of n ∷ []) d) code [] (operand of)
    → (last : State) × (run d 0 (expression code) (started of n (all_marks 0 (expression code)).done) ≡ Ok last)
goes_through d code of n size low typed =
    let ms : List ConstructEnd = (all_marks 0 (expression code)).done in
    let s = started of n ms in
    let l = body_label of n in
    let here = body_at of n ms in
    let marks : ms ≡ own_marks 0 code ++ [] = own_are code ∙ sym (append-nil (own_marks 0 code)) in
    let b = can d code (l ∷ []) 0 0 0 [] s [] (operand of) here marks low refl typed in
    let r = can_ran d code (l ∷ []) 0 0 0 [] s (operand of) here marks b in
    let e = can_end d code [] nothing_known Other of of n 0 0 0 [] s b.next [] refl (omega arith) refl refl here r.0 r.1 b.fit refl (few_operands of) refl in
    let x = b.runs 0 (end_mark ∷ []) in
    (e.next, x.1 ∙ run_on d x.0 end_mark [] b.next e.next e.is)

first_of : (t : Option ValType) (rs : List ValType) → rs ≡ operand t → slice_get rs 0 ≡ t
first_of None rs e = ap (λ (x : List ValType). slice_get x 0) e
first_of (Some t) rs e = ap (λ (x : List ValType). slice_get x 0) e

passes : (c : Context) (f : FuncType) (b : Body) → ValidBody c f b → body_height c f b ≤ 256 → (last : State) × (whole_run (place_of c f b) (expression b.code) ≡ Ok last)
passes c f b valid low = search (rules, first_of, place_of, greatest_same, goes_through, length-append)

pub not_refused : (c : Context) (f : FuncType) (b : Body) (d : Context) (is : List Instr) (e : BodyFault) → d ≡ place_of c f b → is ≡ expression b.code → whole_run d is ≡ Err e → ValidBody c f b → body_height c f b ≤ 256 → ⊥
not_refused c f b d is e place code refused valid low = search (rules, passes, place_of, ◌≡◌)
