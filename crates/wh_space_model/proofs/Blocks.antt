-- Bytes that are written over a list of blocks of 4096.
use Rattle.std.proofs.Common.{◌≡◌, ℕ, ◌+◌, ◌*◌, ◌≤◌, ◌++◌, List, [], ◌∷◌, Some, length, take, drop, slice_get, slice_set, zero, suc, refl, sym, ap, ◌∙◌, arith, length-append, append_assoc, rules}
use Rattle.std.proofs.Math.Seq.{take-append-add, drop-append-add}
use Rattle.std.proofs.lemmas.List.{take-append-le, drop-append-le, drop-drop, length-take-le}
use Rattle.wh_model.specs.Execution.{written}
use Rattle.wh_space_model.specs.{joined}

pub written_before : (x y : List ℕ) (k : ℕ) (g : List ℕ) → k + length g ≤ length x → written (x ++ y) k g ≡ written x k g ++ y
written_before x y k g fits = search (rules, take-append-le, drop-append-le, append_assoc)

pub written_after : (x y : List ℕ) (k : ℕ) (g : List ℕ) → written (x ++ y) (length x + k) g ≡ x ++ written y k g
written_after x y k g = search (rules, take-append-add, drop-append-add, append_assoc)

-- in one block
pub written_block : (xss : List (List ℕ)) → ((q : ℕ) (x : List ℕ) → slice_get xss q ≡ Some x → length x ≡ 4096) → (p : ℕ) (x : List ℕ) → slice_get xss p ≡ Some x → (r : ℕ) (g : List ℕ) → r + length g ≤ 4096
    → written (joined xss) (4096 * p + r) g ≡ joined (slice_set xss p (written x r g))
written_block [] each p x there r g fits = absurd (cc there)
written_block (y ∷ xss) each zero x there r g fits =
    let e : y ≡ x = cc in
    let long = each 0 y refl in
    let zeros : 4096 * 0 + r ≡ r = omega arith in
    rw (zeros, ← e) (written_before y (joined xss) r g (omega arith))
written_block (y ∷ xss) each (suc p) x there r g fits =
    let long = each 0 y refl in
    let e : 4096 * suc p + r ≡ length y + (4096 * p + r) = omega arith in
    let rest = written_block xss (λ q z at_it. each (suc q) z at_it) p x there r g fits in
    rw e (written_after y (joined xss) (4096 * p + r) g ∙ ap (λ z. y ++ z) rest)

pub joined_length : (xss : List (List ℕ)) → ((q : ℕ) (x : List ℕ) → slice_get xss q ≡ Some x → length x ≡ 4096) → length (joined xss) ≡ 4096 * length xss
joined_length [] each = refl
joined_length (x ∷ xss) each =
    let one = each 0 x refl in
    let rest = joined_length xss (λ q z at_it. each (suc q) z at_it) in
    let both = length-append x (joined xss) in
    omega arith

-- two parts, one behind the other
pub written_parts : (xs : List ℕ) (k : ℕ) (a b : List ℕ) → k + length a ≤ length xs → written xs k (a ++ b) ≡ written (written xs k a) (k + length a) b
written_parts xs k a b fits =
    let u : List ℕ = take k xs in
    let d : List ℕ = drop (k + length a) xs in
    let long : length u ≡ k = length-take-le k xs (omega arith) in
    let both = length-append u a in
    let all : u ++ (a ++ d) ≡ (u ++ a) ++ d = sym (append_assoc u a d) in
    let place : k + length a ≡ length (u ++ a) + 0 = omega arith in
    let after : written ((u ++ a) ++ d) (length (u ++ a) + 0) b ≡ (u ++ a) ++ written d 0 b = written_after (u ++ a) d 0 b in
    let ab = length-append a b in
    let e : k + length (a ++ b) ≡ (k + length a) + length b = omega arith in
    let zero_b : 0 + length b ≡ length b = omega arith in
    let last : written d 0 b ≡ b ++ drop (length b) d = rw zero_b refl in
    let twice : drop (length b) d ≡ drop ((k + length a) + length b) xs = drop-drop (length b) (k + length a) xs in
    let now : written (u ++ (a ++ d)) (k + length a) b ≡ (u ++ a) ++ (b ++ drop ((k + length a) + length b) xs) = search rules in
    rw e (sym (now ∙ (append_assoc u a (b ++ drop ((k + length a) + length b) xs) ∙ ap (λ z. u ++ z) (sym (append_assoc a b (drop ((k + length a) + length b) xs))))))
