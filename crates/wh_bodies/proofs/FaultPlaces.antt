-- The instruction at which a fault lies.
use Rattle.std.proofs.Common.{◌≡◌, ℕ, suc, ◌+◌, ◌<◌, List, [], ◌∷◌, length, Result, Ok, Err, arith, rules}
use Rattle.wh_model.specs.Format.{Instr, expression, Body}
use Rattle.wh_model.specs.Validity.{Context}
use Rattle.wh_model.specs.declared.faults.ValidKind.{ValidKind}
use Rattle.wh_bodies.specs.declared.fault.BodyFault.{BodyFault}
use Rattle.wh_bodies.specs.BodyFaults.{follow, HasInstr}
use Rattle.wh_bodies.specs.CheckSteps.{State, step, at_instr, run}
use Rattle.wh_bodies.specs.CheckEnds.{whole_run}

same_fault : {A : Type 0} (f g : BodyFault) → ◌≡◌ {A = Result A BodyFault} (Err f) (Err g) → f ≡ g
same_fault f g e = cc

place_of_step : (n : ℕ) (x : Result State ValidKind) (is : List Instr) (c : Context) (e : BodyFault) → ((next : State) → run c (n + 1) is next ≡ Err e → e.instr < n + 1 + length is)
    → follow {B = State} (at_instr n x) (λ next. run c (n + 1) is next) ≡ Err e → e.instr < n + suc (length is)
place_of_step n (Ok s) is c e q h = let lt = q s h in omega (arith, lt)
place_of_step n (Err kind) is c e q h = search rules

-- a run fails at one of its instructions
pub run_place : (c : Context) (n : ℕ) (is : List Instr) (s : State) (e : BodyFault) → run c n is s ≡ Err e → e.instr < n + length is
run_place c n [] s e h = absurd (cc h)
run_place c n (i ∷ is) s e h = place_of_step n (step c i s) is c e (λ next g. run_place c (n + 1) is next e g) h

-- of a context and instructions that are those of a body
pub whole_place : (c d : Context) (is : List Instr) (b : Body) (e : BodyFault) → c ≡ d → is ≡ expression b.code → whole_run c is ≡ Err e → HasInstr b e.instr
whole_place c d is b e around code h = search (rules, run_place)
