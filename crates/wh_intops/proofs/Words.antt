-- What the machine's instructions on words of 64 and 32 bits give, in the terms of the definitions: signs, sums, differences and products, and the bounds of every result.
use Rattle.std.proofs.Common.{◌≡◌, ◌==◌, ◌∙◌, ap, ℕ, suc, ◌+◌, ◌-◌, ◌*◌, ◌%◌, ◌^◌, ◌<◌, ltb, ℤ, pos, negsuc, w8, w16, w32, w64, to_z, of_z, SFits, refl, sym, arith, ⊎_elim, le-ltb, lt-ltb, lt_of_le_of_lt, neg_ℤ, ◌≤ℤ◌, ◌<ℤ◌}
use Rattle.std.proofs.lemmas.Bool.{cases_lt}
use Rattle.std.proofs.lemmas.Int.{ints}
use Rattle.std.proofs.lemmas.Nat.{and_le_l, or_lt, xor_lt}
use Rattle.std.specs.Prelude.{bit_and, bit_or, bit_xor}
use Rattle.wh_model.proofs.Numbers.{signed-low, signed-high, signed-bounds, bits-pos, iadd-lt, isub-lt, imul-lt, idiv_u-lt, idiv_s-lt, irem_u-lt, irem_s-lt, ishl-lt, ishr_u-lt, ishr_s-lt, irotl-lt, irotr-lt, iclz-lt, ictz-lt, ipopcnt-lt, iextend_s-lt}
use Rattle.wh_model.specs.Execution.{bits, signed, unsigned, test, truth, iadd, isub, imul, ishr_s, irotl, irotr, wrap, extend_s, iextend_s, unary}
use Rattle.wh_model.specs.declared.ValType.{ValType}
use Rattle.wh_model.specs.declared.ValType.TheVariants.{I32, I64}
use Rattle.wh_model.specs.declared.TestOp.{TestOp}
use Rattle.wh_model.specs.declared.TestOp.TheVariants.{Eqz}
use Rattle.wh_model.specs.declared.UnaryOp.{UnaryOp}
use Rattle.wh_model.specs.declared.UnaryOp.TheVariants.{Extend8S, Extend16S, Extend32S}
use Rattle.std.specs.Int.Signed.{mag}
use Rattle.std.proofs.lemmas.Int.{to_z-of_z}
use Rattle.wh_intops.proofs.Counts.{counts}
use mir.Val.{sel}

-- ---- signs

-- a machine word of N bits, read as signed
pub read-signed : (N i : ℕ) → i < 2 ^ N → sel (ltb i (2 ^ (N - 1))) (pos i) (negsuc (2 ^ N - suc i)) ≡ signed N i
read-signed N i fits = ⊎_elim
    (λ low. rw (lt-ltb i (2 ^ (N - 1)) low) (sym (signed-low N i low)))
    (λ high. rw (le-ltb i (2 ^ (N - 1)) high) (sym (signed-high N i high fits)))
    (cases_lt i (2 ^ (N - 1)))

pub to_z-I32 : (t : ValType) (i : ℕ) → t ≡ I32 → i < 2 ^ bits t → to_z w32 i ≡ signed (bits t) i
to_z-I32 I32 i e fits = read-signed 32 i fits
to_z-I32 I64 i e fits = cc

pub to_z-I64 : (t : ValType) (i : ℕ) → t ≡ I64 → i < 2 ^ bits t → to_z w64 i ≡ signed (bits t) i
to_z-I64 I32 i e fits = cc
to_z-I64 I64 i e fits = read-signed 64 i fits

-- the machine word of a signed number, cut to the type's bits
pub unsigned-of_z : (t : ValType) (z : ℤ) → SFits w64 z → of_z w64 z % 2 ^ bits t ≡ unsigned (bits t) z
unfolding unsigned
unsigned-of_z t (pos n) fits = refl
unsigned-of_z I32 (negsuc n) fits = omega arith
unsigned-of_z I64 (negsuc n) fits = omega arith

pub ruleset signs = (ints, to_z-I32, to_z-I64, unsigned-of_z)

-- a machine word of 8 or 16 bits, read as signed
pub to_z-8 : (i : ℕ) → to_z w8 (i % 2 ^ 8) ≡ signed 8 (i % 2 ^ 8)
to_z-8 i = read-signed 8 (i % 2 ^ 8) (omega arith)

pub to_z-16 : (i : ℕ) → to_z w16 (i % 2 ^ 16) ≡ signed 16 (i % 2 ^ 16)
to_z-16 i = read-signed 16 (i % 2 ^ 16) (omega arith)

pub ruleset narrow_signs = (ints, to_z-8, to_z-16)

-- the low K bits x as a signed number, and the word that the code makes of it
extended : (K : ℕ) (t : ValType) (i : ℕ) (x : ℤ) (word : ℕ) → mag x < 2 ^ 63 → x ≡ signed K (i % 2 ^ K)
    → word ≡ unsigned (bits t) (to_z w64 (of_z w64 x)) → word ≡ iextend_s K (bits t) i
unfolding iextend_s extend_s wrap
extended K t i x word fits low result = result ∙ ap (unsigned (bits t)) (to_z-of_z w64 x (record { sfits = fits })) ∙ ap (unsigned (bits t)) low

-- the same for each operator that extends
pub extends : (op : UnaryOp) (K : ℕ) → ((t : ValType) (i : ℕ) → iextend_s K (bits t) i ≡ unary t op i) → (t : ValType) (i : ℕ) (x : ℤ) (word : ℕ) (it : UnaryOp)
    → it ≡ op → mag x < 2 ^ 63 → x ≡ signed K (i % 2 ^ K) → word ≡ unsigned (bits t) (to_z w64 (of_z w64 x))
    → (word ≡ unary t it i) × (word < 2 ^ bits t)
extends op K means t i x word it is fits low result =
    let e : word ≡ iextend_s K (bits t) i = extended K t i x word fits low result in
    (e ∙ means t i ∙ ap (λ o. unary t o i) (sym is), rw e (iextend_s-lt K t i))

pub means_8 : (t : ValType) (i : ℕ) → iextend_s 8 (bits t) i ≡ unary t Extend8S i
unfolding unary
means_8 t i = refl

pub means_16 : (t : ValType) (i : ℕ) → iextend_s 16 (bits t) i ≡ unary t Extend16S i
unfolding unary
means_16 t i = refl

pub means_32 : (t : ValType) (i : ℕ) → iextend_s 32 (bits t) i ≡ unary t Extend32S i
unfolding unary
means_32 t i = refl

-- a signed number of either type is one of 64 bits
pub within-word : (t : ValType) (z : ℤ) → neg_ℤ (pos (2 ^ (bits t - 1))) ≤ℤ z → z <ℤ pos (2 ^ (bits t - 1)) → SFits w64 z
within-word I32 (pos n) low high = record { sfits = omega (arith, ints) }
within-word I32 (negsuc n) low high = record { sfits = omega (arith, ints) }
within-word I64 (pos n) low high = record { sfits = omega (arith, ints) }
within-word I64 (negsuc n) low high = record { sfits = omega (arith, ints) }

pub signed-fits : (t : ValType) (i : ℕ) → i < 2 ^ bits t → SFits w64 (signed (bits t) i)
signed-fits t i fits = let range = signed-bounds (bits t) i (bits-pos t) fits in within-word t (signed (bits t) i) range.0 range.1

-- ---- sums, differences and products

-- to cut to 64 bits on the way changes nothing
pub mod-word : (t : ValType) (n : ℕ) → n % 2 ^ 64 % 2 ^ bits t ≡ n % 2 ^ bits t
mod-word I32 n = omega arith
mod-word I64 n = omega arith

pub add-word : (t : ValType) (a b : ℕ) → (a + b) % 2 ^ 64 % 2 ^ bits t ≡ iadd (bits t) a b
unfolding iadd
add-word t a b = mod-word t (a + b)

pub sub-word : (t : ValType) (a b : ℕ) → b < 2 ^ bits t → (a + (2 ^ 64 - b)) % 2 ^ 64 % 2 ^ bits t ≡ isub (bits t) a b
unfolding isub
sub-word I32 a b right = omega arith
sub-word I64 a b right = omega arith

pub mul-word : (t : ValType) (a b : ℕ) → (a * b) % 2 ^ 64 % 2 ^ bits t ≡ imul (bits t) a b
unfolding imul
mul-word t a b = mod-word t (a * b)

pub ruleset sums = (add-word, sub-word, mul-word)

-- ---- bounds

pub and-lt : (t : ValType) (a b : ℕ) → a < 2 ^ bits t → bit_and a b < 2 ^ bits t
and-lt t a b fits = lt_of_le_of_lt (and_le_l a b) fits

pub or-lt : (t : ValType) (a b : ℕ) → a < 2 ^ bits t → b < 2 ^ bits t → bit_or a b < 2 ^ bits t
or-lt t a b left right = or_lt (bits t) a b left right

pub xor-lt : (t : ValType) (a b : ℕ) → a < 2 ^ bits t → b < 2 ^ bits t → bit_xor a b < 2 ^ bits t
xor-lt t a b left right = xor_lt (bits t) a b left right

pub rotl-lt : (t : ValType) (a b : ℕ) → a < 2 ^ bits t → irotl (bits t) a b < 2 ^ bits t
rotl-lt t a b fits = irotl-lt (bits t) a b (bits-pos t) fits

pub rotr-lt : (t : ValType) (a b : ℕ) → a < 2 ^ bits t → irotr (bits t) a b < 2 ^ bits t
rotr-lt t a b fits = irotr-lt (bits t) a b (bits-pos t) fits

pub shr_s-lt : (t : ValType) (a b : ℕ) → a < 2 ^ bits t → ishr_s (bits t) a b < 2 ^ bits t
shr_s-lt t a b fits = ishr_s-lt (bits t) a b (bits-pos t) fits

pub ruleset results = (iadd-lt, isub-lt, imul-lt, idiv_u-lt, idiv_s-lt, irem_u-lt, irem_s-lt, ishl-lt, ishr_u-lt, shr_s-lt, rotl-lt, rotr-lt, and-lt, or-lt, xor-lt)

pub ruleset unary_results = (counts, iclz-lt, ictz-lt, ipopcnt-lt)

-- ---- the one test

pub tests_zero : (op : TestOp) (i : ℕ) → test op i ≡ truth (i == 0)
unfolding test
tests_zero Eqz i = refl
