use Rattle.std.proofs.Common.{◌≡◌, List, [], ◌∷◌, Ok, refl, ap, ◌∙◌, false, true, nat_lt, length, reverse, rules}
use Rattle.std.proofs.lemmas.Bool.Decides.{nat_tests}
use Rattle.std.proofs.lemmas.List.{length-reverse}
use Rattle.wh_model.specs.declared.ValType.{ValType}
use Rattle.wh_bodies.specs.BodyFaults.{follow}
use Rattle.wh_bodies.specs.Known.{Known, take_one, take_all}
use Rattle.wh_bodies.proofs.operands.take_all.Goals as goal

-- where any operands may lie on the floor, all can be taken
any_taken : (k : Known) → nat_lt k.floor (length k.types) ≡ false → k.dead ≡ true → (ts : List ValType) → take_all k ts ≡ Ok k
any_taken k low dead [] = refl
any_taken k low dead (t ∷ ts) =
    let one : take_one k t ≡ Ok k = rw low (rw dead refl) in
    ap (λ r. follow r (λ left. take_all left ts)) one ∙ any_taken k low dead ts

pub returns-then-operands-len : goal.returns-then-operands-len
returns-then-operands-len c = search (rules, length-reverse, nat_tests, any_taken, reverse)
