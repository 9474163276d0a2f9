-- Blocks of bytes under exclusive or and or.
use Rattle.std.proofs.Common.{ℕ, ◌≡◌, ◌+◌, ◌-◌, ◌*◌, ◌≤◌, List, [], ◌∷◌, ◌++◌, length, take, replicate, zero, suc, refl, sym, ◌∙◌, ap, arith}
use Rattle.std.specs.Int.Bits.{bit_xor, bit_or, xor_assoc, xor_self, xor_zero_l, xor_zero_r}
use Rattle.std.proofs.Math.Seq.{take-add}
use Rattle.std.proofs.lemmas.List.{replicate-append-replicate, take_all, drop-replicate, take-replicate, length-replicate}
use Rattle.std.proofs.lemmas.Nat.{le_or_l, le_or_r}
use Rattle.std.proofs.lemmas.Simd.{length-chunk}
use lib.Lanes.{zip2, fold_l, chunk}

-- two numbers that agree in each bit are equal
same_from_xor : (x y : ℕ) → bit_xor x y ≡ 0 → x ≡ y
same_from_xor x y e = sym (sym (xor_zero_l y) ∙ ap (λ n. bit_xor n y) (sym e) ∙ xor_assoc x y y ∙ ap (bit_xor x) (xor_self y) ∙ xor_zero_r x)

-- where the or of all is 0, each is 0
pub zeros_from_or : (a : ℕ) (xs : List ℕ) → fold_l bit_or a xs ≡ 0 → (a ≡ 0) × (xs ≡ replicate (length xs) 0)
zeros_from_or a [] e = (e, refl)
zeros_from_or a (x ∷ xs) e =
    let rest = zeros_from_or (bit_or a x) xs e in
    let first : x ≡ 0 = omega (arith, le_or_r a x, rest.0) in
    (omega (arith, le_or_l a x, rest.0), rw first (ap (λ l. 0 ∷ l) rest.1))

-- the or of zeros is 0
pub or_of_zeros : (n : ℕ) → fold_l bit_or 0 (replicate n 0) ≡ 0
or_of_zeros zero = refl
or_of_zeros (suc n) = or_of_zeros n

-- two lists are equal where their exclusive or is zero in each place
pub same_from_zeros : (xs ys : List ℕ) → length xs ≡ length ys → zip2 bit_xor xs ys ≡ replicate (length (zip2 bit_xor xs ys)) 0 → xs ≡ ys
same_from_zeros [] [] l e = refl
same_from_zeros [] (y ∷ ys) l e = absurd (omega arith)
same_from_zeros (x ∷ xs) [] l e = absurd (omega arith)
same_from_zeros (x ∷ xs) (y ∷ ys) l e =
    let head : bit_xor x y ≡ 0 = cc in
    let tail : zip2 bit_xor xs ys ≡ replicate (length (zip2 bit_xor xs ys)) 0 = cc in
    let first = same_from_xor x y head in
    let rest = same_from_zeros xs ys (omega arith) tail in
    cc

-- the exclusive or of a list with itself
pub zeros_from_same : (xs : List ℕ) → zip2 bit_xor xs xs ≡ replicate (length xs) 0
zeros_from_same [] = refl
zeros_from_same (x ∷ xs) = rw (xor_self x, zeros_from_same xs) refl

-- one more block that is equal
pub same_more : (xs ys : List ℕ) (part : ℕ) → take (64 * part) xs ≡ take (64 * part) ys → chunk (64 * part) 64 xs ≡ chunk (64 * part) 64 ys → take (64 * (part + 1)) xs ≡ take (64 * (part + 1)) ys
same_more xs ys part front block =
    let next : 64 * (part + 1) ≡ 64 * part + 64 = omega arith in
    rw (next, take-add (64 * part) 64 xs, take-add (64 * part) 64 ys, front, block) refl

-- one more block of zeros
pub zeros_more : (xs : List ℕ) (part : ℕ) → take (64 * part) xs ≡ replicate (64 * part) 0 → chunk (64 * part) 64 xs ≡ replicate (length (chunk (64 * part) 64 xs)) 0 → 64 * part + 64 ≤ length xs → take (64 * (part + 1)) xs ≡ replicate (64 * (part + 1)) 0
zeros_more xs part front block within =
    let next : 64 * (part + 1) ≡ 64 * part + 64 = omega arith in
    let zeros : chunk (64 * part) 64 xs ≡ replicate 64 0 = block ∙ ap (λ (n : ℕ). replicate n 0) (length-chunk (64 * part) 64 xs within) in
    rw (next, take-add (64 * part) 64 xs, front) (ap (λ (l : List ℕ). replicate (64 * part) 0 ++ l) zeros ∙ replicate-append-replicate (64 * part) 64 0)

-- all blocks
pub zeros_whole : (xs : List ℕ) (n k : ℕ) → length xs ≡ n → k ≡ n → take k xs ≡ replicate k 0 → xs ≡ replicate n 0
zeros_whole xs n k long all zeros = sym (take_all k xs (omega arith)) ∙ zeros ∙ ap (λ (m : ℕ). replicate m 0) all

-- a block of zeros is zeros
pub block_of_zeros : (xs : List ℕ) (n i : ℕ) → i + 64 ≤ n → xs ≡ replicate n 0 → chunk i 64 xs ≡ replicate (length (chunk i 64 xs)) 0
block_of_zeros xs n i within zeros =
    let block : chunk i 64 xs ≡ replicate 64 0 = ap (chunk i 64) zeros ∙ ap (take 64) (drop-replicate i n 0) ∙ take-replicate 64 (n - i) 0 (omega arith) in
    block ∙ sym (ap (λ (m : ℕ). replicate m 0) (ap length block ∙ length-replicate {A = ℕ} 64 0))
