-- What a chain of steps that passes went through.
use Rattle.std.proofs.Common.{◌≡◌, refl, Result, Ok, Err, Option, Some, None, Bool, true, false, cond, IsTrue, rules}
use Rattle.wh_model.specs.declared.faults.ValidKind.{ValidKind}
use Rattle.wh_bodies.specs.BodyFaults.{follow}
use Rattle.wh_bodies.specs.CheckSteps.{found}

pub ok_is : {A E : Type 0} (x y : A) → ◌≡◌ {A = Result A E} (Ok x) (Ok y) → x ≡ y
ok_is x y e = cc

pub follow_ok : {A B E : Type 0} (x : Result A E) (next : A → Result B E) (r : B) → follow x next ≡ Ok r → (y : A) × (x ≡ Ok y) × (next y ≡ Ok r)
follow_ok (Ok y) next r e = (y, refl, e)
follow_ok (Err k) next r e = cc

pub found_ok : {A B : Type 0} (x : Option A) (next : A → Result B ValidKind) (r : B) → found x next ≡ Ok r → (y : A) × (x ≡ Some y) × (next y ≡ Ok r)
found_ok (Some y) next r e = (y, refl, e)
found_ok None next r e = cc

pub cond_ok : {A E : Type 0} (b : Bool) (x : Result A E) (k : E) (r : A) → cond b x (Err k) ≡ Ok r → (b ≡ true) × (x ≡ Ok r)
cond_ok true x k r e = (refl, e)
cond_ok false x k r e = cc

pub by_test : {P : Type 0} (b : Bool) → (b ≡ true → P) → (b ≡ false → P) → P
by_test true f g = f refl
by_test false f g = g refl

pub true_of : {b : Bool} → b ≡ true → IsTrue b
true_of e = rw e (search rules)
