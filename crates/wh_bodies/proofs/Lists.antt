-- Lists that are taken from behind.
use Rattle.std.proofs.Common.{◌≡◌, ℕ, ◌-◌, List, ◌++◌, reverse, length, take, drop, sym, ap, ◌∙◌, arith, length-drop}
use Rattle.std.proofs.lemmas.List.{reverse-append, length-reverse, take-append-drop}
use Rattle.std.proofs.Math.Seq.{drop-append_seam}

drop_front : {A : Type 0} (n : ℕ) (front back : List A) → n ≡ length front → drop n (front ++ back) ≡ back
drop_front n front back e = rw e (drop-append_seam front back)

-- the first ones are the last ones of the reversed list
pub reverse-take : {A : Type 0} (n : ℕ) (xs : List A) → reverse (take n xs) ≡ drop (length (reverse xs) - n) (reverse xs)
reverse-take {A} n xs =
    let parts : reverse xs ≡ reverse (drop n xs) ++ reverse (take n xs) = ap reverse (sym (take-append-drop n xs)) ∙ reverse-append (take n xs) (drop n xs) in
    let here : length (reverse xs) - n ≡ length (reverse (drop n xs)) = omega (arith, length-reverse xs, length-reverse (drop n xs), length-drop n xs) in
    sym (ap (drop (length (reverse xs) - n)) parts ∙ drop_front (length (reverse xs) - n) (reverse (drop n xs)) (reverse (take n xs)) here)
