-- Laws of the integer operators of specs/Numbers.antt: each result is an integer of its type, `signed` and `unsigned` are inverse, and so are rotations to the left and to the right.
use Rattle.std.proofs.Common.{◌≡◌, ℕ, zero, suc, ◌+◌, ◌-◌, ◌*◌, ◌/◌, ◌%◌, ◌^◌, ◌<◌, ◌≤◌, ◌⊎◌, Bool, true, false, ℤ, pos, negsuc, ◌-ℤ◌, ◌*ℤ◌, neg_ℤ, ◌≤ℤ◌, ◌<ℤ◌, refl, ap, ap₂, ◌∙◌, subst, arith, ⊎_elim, inl, inr, mod-lt, pow_pos, pow-add, sub-one, mul_comm, lt_of_le_of_lt, lit<, zero-le, Result, Ok, Err, rules}
use Rattle.std.specs.Prelude.{◌==◌, if◌then◌else◌, IfOk}
use Rattle.std.proofs.Math.Nat.{add_comm, pow-suc, div-le_self}
use Rattle.std.proofs.lemmas.Nat.{shr_below, mul-add-lt, mod_low, shr_high, div-add-mod', and_le_l, or_lt, xor_lt}
use Rattle.std.proofs.lemmas.Bool.{cases_lt}
use Rattle.std.proofs.lemmas.Bool.Decides.{nat_tests}
use Rattle.std.proofs.lemmas.Int.{ints}
use Rattle.wh_model.specs.Execution.{bits, signed, unsigned, iadd, isub, imul, idiv_u, idiv_s, irem_u, irem_s, ishl, ishr_u, ishr_s, irotl, irotr, count_below, iclz, ictz, ipopcnt, wrap, extend_u, extend_s, iextend_s, truth, unary, binary, test, holds, compare, operand_type, result_type, convert}
use Rattle.wh_model.specs.declared.Trap.{Trap}
use Rattle.wh_model.specs.declared.Trap.TheVariants.{DivideByZero}
use Rattle.wh_model.specs.declared.ValType.{ValType}
use Rattle.wh_model.specs.declared.ValType.TheVariants.{I32, I64}
use Rattle.wh_model.specs.declared.UnaryOp.{UnaryOp}
use Rattle.wh_model.specs.declared.UnaryOp.TheVariants.{Clz, Ctz, Popcnt, Extend8S, Extend16S, Extend32S}
use Rattle.wh_model.specs.declared.BinaryOp.{BinaryOp}
use Rattle.wh_model.specs.declared.BinaryOp.TheVariants.{Add, Sub, Mul, DivS, DivU, RemS, RemU, And, Or, Xor, Shl, ShrS, ShrU, Rotl, Rotr}
use Rattle.wh_model.specs.declared.TestOp.{TestOp}
use Rattle.wh_model.specs.declared.TestOp.TheVariants.{Eqz}
use Rattle.wh_model.specs.declared.CompareOp.{CompareOp}
use Rattle.wh_model.specs.declared.ConvertOp.{ConvertOp}
use Rattle.wh_model.specs.declared.ConvertOp.TheVariants.{WrapI64, ExtendI32S, ExtendI32U}

-- ---- signs

-- `signed` by cases: below 2 ^ (N - 1), where i represents itself, and from there on, where it represents i - 2 ^ N
pub signed-low : (N i : ℕ) → i < 2 ^ (N - 1) → signed N i ≡ pos i
unfolding signed
signed-low N i low = grind (arith, nat_tests)

sub_large : (a b : ℕ) → a < b → pos a -ℤ pos b ≡ negsuc (b - suc a)
sub_large a b h = omega (arith, ints)

pub signed-high : (N i : ℕ) → 2 ^ (N - 1) ≤ i → i < 2 ^ N → signed N i ≡ negsuc (2 ^ N - suc i)
unfolding signed
signed-high N i high fits = let e = sub_large i (2 ^ N) fits in grind (arith, nat_tests)

-- 2 ^ N is twice 2 ^ (N - 1)
pub pow-half : (N : ℕ) → 0 < N → 2 ^ N ≡ 2 ^ (N - 1) + 2 ^ (N - 1)
pow-half zero h = absurd (omega arith)
pow-half (suc N) h = rw (sub-one, pow-suc) (omega arith)

-- the signed numbers of N bits are those from -2 ^ (N - 1) to below 2 ^ (N - 1)
pub signed-bounds : (N i : ℕ) → 0 < N → i < 2 ^ N → (neg_ℤ (pos (2 ^ (N - 1))) ≤ℤ signed N i) × (signed N i <ℤ pos (2 ^ (N - 1)))
signed-bounds N i some fits = search (rules, pow-half, ⊎_elim, signed-low, signed-high, cases_lt)

-- any number modulo 2 ^ N is an integer
pub unsigned-lt : (N : ℕ) (z : ℤ) → unsigned N z < 2 ^ N
unfolding unsigned
unsigned-lt N (pos n) = mod-lt n (pow_pos N)
unsigned-lt N (negsuc n) = let p = pow_pos N in omega arith

bit_cases : (s : ℕ) → s < 2 → (s ≡ 0) ⊎ (s ≡ 1)
bit_cases s h = ⊎_elim (λ e. inl (omega arith)) (λ e. inr (omega arith)) (cases_lt s 1)

-- ---- rotations and the shift that copies the sign

-- of j + k bits, the j low ones before the k high ones: each rotation is one such exchange
exchanged : ℕ → ℕ → ℕ → ℕ
exchanged j k a = a % 2 ^ j * 2 ^ k + a / 2 ^ j

exchanged-lt : (j k a : ℕ) → a < 2 ^ (j + k) → exchanged j k a < 2 ^ (j + k)
unfolding exchanged
exchanged-lt j k a fits = search (rules, mod-lt, pow_pos, shr_below, add_comm, pow-add, mul_comm, mul-add-lt)

exchanged-exchanged : (j k a : ℕ) → a < 2 ^ (j + k) → exchanged k j (exchanged j k a) ≡ a
unfolding exchanged
exchanged-exchanged j k a fits = search (rules, shr_below, add_comm, ap₂, mod_low, shr_high, div-add-mod')

irotl-exchanged : (N a b : ℕ) → irotl N a b ≡ exchanged (N - b % N) (b % N) a
unfolding irotl exchanged
irotl-exchanged N a b = refl

irotr-exchanged : (N a b : ℕ) → irotr N a b ≡ exchanged (b % N) (N - b % N) a
unfolding irotr exchanged
irotr-exchanged N a b = refl

module _ (N a b : ℕ) (some : 0 < N) (fits : a < 2 ^ N) where
  parted : N - b % N + b % N ≡ N
  parted = let below = mod-lt b some in omega arith

  parted' : b % N + (N - b % N) ≡ N
  parted' = let below = mod-lt b some in omega arith

  pub irotl-lt : irotl N a b < 2 ^ N
  irotl-lt = rw irotl-exchanged (subst (λ m. exchanged (N - b % N) (b % N) a < 2 ^ m) parted (exchanged-lt (N - b % N) (b % N) a (rw parted fits)))

  pub irotr-lt : irotr N a b < 2 ^ N
  irotr-lt = rw irotr-exchanged (subst (λ m. exchanged (b % N) (N - b % N) a < 2 ^ m) parted' (exchanged-lt (b % N) (N - b % N) a (rw parted' fits)))

  -- rotations by one count, to the left and to the right, undo each other
  pub irotr-irotl : irotr N (irotl N a b) b ≡ a
  irotr-irotl = irotr-exchanged N (irotl N a b) b ∙ ap (exchanged (b % N) (N - b % N)) (irotl-exchanged N a b) ∙ exchanged-exchanged (N - b % N) (b % N) a (rw parted fits)

  pub irotl-irotr : irotl N (irotr N a b) b ≡ a
  irotl-irotr = irotl-exchanged N (irotr N a b) b ∙ ap (exchanged (N - b % N) (b % N)) (irotr-exchanged N a b) ∙ exchanged-exchanged (b % N) (N - b % N) a (rw parted' fits)

  -- k copies of the sign bit before the N - k high bits
  pub ishr_s-lt : ishr_s N a b < 2 ^ N
  unfolding ishr_s
  ishr_s-lt =
      let sign : a / 2 ^ (N - 1) < 2 = shr_below a 1 (N - 1) (let e : 1 + (N - 1) ≡ N = omega arith in rw e fits) in
      let some_ones = pow_pos (b % N) in
      let copies : a / 2 ^ (N - 1) * (2 ^ (b % N) - 1) < 2 ^ (b % N) = ⊎_elim
      (λ e. rw e (omega arith))
      (λ e. rw e (omega arith))
      (bit_cases (a / 2 ^ (N - 1)) sign) in
      let high : a / 2 ^ (b % N) < 2 ^ (N - b % N) = shr_below a (N - b % N) (b % N) (rw parted fits) in
      subst (λ m. a / 2 ^ (N - 1) * (2 ^ (b % N) - 1) * 2 ^ (N - b % N) + a / 2 ^ (b % N) < 2 ^ m) parted
      (rw pow-add (mul-add-lt (a / 2 ^ (N - 1) * (2 ^ (b % N) - 1)) (2 ^ (N - b % N)) (a / 2 ^ (b % N)) (2 ^ (b % N)) copies high))

-- ---- counts

-- of n numbers no more than n pass a test
one_more : (b : Bool) (c n : ℕ) → c ≤ n → c + (if b then 1 else 0) ≤ suc n
one_more true c n h = omega arith
one_more false c n h = omega arith

count_below-le : (n : ℕ) (p : ℕ → Bool) → count_below n p ≤ n
unfolding count_below
count_below-le zero p = zero-le
count_below-le (suc n) p = let ih = count_below-le n p in one_more (p n) (count_below n p) n ih

-- a type has some bits, and an integer can count them
pub bits-lt : (t : ValType) → bits t < 2 ^ bits t
bits-lt I32 = lit< tt
bits-lt I64 = lit< tt

pub bits-pos : (t : ValType) → 0 < bits t
bits-pos I32 = lit< tt
bits-pos I64 = lit< tt

-- ---- each operator's result is an integer of its type

pub iadd-lt : (N a b : ℕ) → iadd N a b < 2 ^ N
unfolding iadd
iadd-lt N a b = mod-lt (a + b) (pow_pos N)

pub isub-lt : (N a b : ℕ) → isub N a b < 2 ^ N
unfolding isub
isub-lt N a b = mod-lt (a + 2 ^ N - b) (pow_pos N)

pub imul-lt : (N a b : ℕ) → imul N a b < 2 ^ N
unfolding imul
imul-lt N a b = mod-lt (a * b) (pow_pos N)

-- a result after a test that decides between it and a trap
after_test : (n : ℕ) (c : Bool) (e : Trap) (r : Result ℕ Trap) → IfOk r (λ m. m < n) → IfOk (if c then Err e else r) (λ m. m < n)
after_test n true e r h = tt
after_test n false e r h = h

before_test : (n : ℕ) (c : Bool) (e : Trap) (r : Result ℕ Trap) → IfOk r (λ m. m < n) → IfOk (if c then r else Err e) (λ m. m < n)
before_test n true e r h = h
before_test n false e r h = tt

pub idiv_u-lt : (N a b : ℕ) → a < 2 ^ N → IfOk (idiv_u a b) (λ m. m < 2 ^ N)
unfolding idiv_u
idiv_u-lt N a b fits = after_test (2 ^ N) (b == 0) DivideByZero (Ok (a / b)) (lt_of_le_of_lt (div-le_self a b) fits)

pub idiv_s-lt : (N a b : ℕ) → IfOk (idiv_s N a b) (λ m. m < 2 ^ N)
unfolding idiv_s
idiv_s-lt N a b = search (rules, before_test, pos, unsigned-lt, after_test)

pub irem_u-lt : (N a b : ℕ) → a < 2 ^ N → IfOk (irem_u a b) (λ m. m < 2 ^ N)
unfolding irem_u
irem_u-lt N a b fits = after_test (2 ^ N) (b == 0) DivideByZero (Ok (a - b * (a / b))) (omega arith)

pub irem_s-lt : (N a b : ℕ) → IfOk (irem_s N a b) (λ m. m < 2 ^ N)
unfolding irem_s
irem_s-lt N a b = search (rules, after_test, unsigned-lt)

pub ishl-lt : (N a b : ℕ) → ishl N a b < 2 ^ N
unfolding ishl
ishl-lt N a b = mod-lt (a * 2 ^ (b % N)) (pow_pos N)

pub ishr_u-lt : (N a b : ℕ) → a < 2 ^ N → ishr_u N a b < 2 ^ N
unfolding ishr_u
ishr_u-lt N a b fits = lt_of_le_of_lt (div-le_self a (2 ^ (b % N))) fits

pub binary-lt : (t : ValType) (op : BinaryOp) (a b : ℕ) → a < 2 ^ bits t → b < 2 ^ bits t → IfOk (binary t op a b) (λ m. m < 2 ^ bits t)
unfolding binary
binary-lt t Add a b left right = iadd-lt (bits t) a b
binary-lt t Sub a b left right = isub-lt (bits t) a b
binary-lt t Mul a b left right = imul-lt (bits t) a b
binary-lt t DivS a b left right = idiv_s-lt (bits t) a b
binary-lt t DivU a b left right = idiv_u-lt (bits t) a b left
binary-lt t RemS a b left right = irem_s-lt (bits t) a b
binary-lt t RemU a b left right = irem_u-lt (bits t) a b left
binary-lt t And a b left right = lt_of_le_of_lt (and_le_l a b) left
binary-lt t Or a b left right = or_lt (bits t) a b left right
binary-lt t Xor a b left right = xor_lt (bits t) a b left right
binary-lt t Shl a b left right = ishl-lt (bits t) a b
binary-lt t ShrS a b left right = ishr_s-lt (bits t) a b (bits-pos t) left
binary-lt t ShrU a b left right = ishr_u-lt (bits t) a b left
binary-lt t Rotl a b left right = irotl-lt (bits t) a b (bits-pos t) left
binary-lt t Rotr a b left right = irotr-lt (bits t) a b (bits-pos t) left

pub iclz-lt : (t : ValType) (i : ℕ) → iclz (bits t) i < 2 ^ bits t
unfolding iclz
iclz-lt t i = lt_of_le_of_lt (count_below-le (bits t) (λ k. i / 2 ^ k == 0)) (bits-lt t)

pub ictz-lt : (t : ValType) (i : ℕ) → ictz (bits t) i < 2 ^ bits t
unfolding ictz
ictz-lt t i = lt_of_le_of_lt (count_below-le (bits t) (λ k. i % 2 ^ (k + 1) == 0)) (bits-lt t)

pub ipopcnt-lt : (t : ValType) (i : ℕ) → ipopcnt (bits t) i < 2 ^ bits t
unfolding ipopcnt
ipopcnt-lt t i = lt_of_le_of_lt (count_below-le (bits t) (λ k. i / 2 ^ k % 2 == 1)) (bits-lt t)

pub extend_s-lt : (K N i : ℕ) → extend_s K N i < 2 ^ N
unfolding extend_s
extend_s-lt K N i = unsigned-lt N (signed K i)

pub iextend_s-lt : (K : ℕ) (t : ValType) (i : ℕ) → iextend_s K (bits t) i < 2 ^ bits t
unfolding iextend_s
iextend_s-lt K t i = extend_s-lt K (bits t) (wrap K i)

pub unary-lt : (t : ValType) (op : UnaryOp) (i : ℕ) → unary t op i < 2 ^ bits t
unfolding unary
unary-lt t Clz i = iclz-lt t i
unary-lt t Ctz i = ictz-lt t i
unary-lt t Popcnt i = ipopcnt-lt t i
unary-lt t Extend8S i = iextend_s-lt 8 t i
unary-lt t Extend16S i = iextend_s-lt 16 t i
unary-lt t Extend32S i = iextend_s-lt 32 t i

truth-lt : (b : Bool) → truth b < 2 ^ bits I32
unfolding truth
truth-lt true = lit< tt
truth-lt false = lit< tt

pub test-lt : (op : TestOp) (a : ℕ) → test op a < 2 ^ bits I32
unfolding test
test-lt Eqz a = truth-lt (a == 0)

pub compare-lt : (t : ValType) (op : CompareOp) (a b : ℕ) → compare t op a b < 2 ^ bits I32
unfolding compare
compare-lt t op a b = truth-lt (holds t op a b)

pub wrap-lt : (N i : ℕ) → wrap N i < 2 ^ N
unfolding wrap
wrap-lt N i = mod-lt i (pow_pos N)

pub convert-lt : (op : ConvertOp) (a : ℕ) → a < 2 ^ bits (operand_type op) → convert op a < 2 ^ bits (result_type op)
unfolding convert extend_u
convert-lt WrapI64 a fits = wrap-lt 32 a
convert-lt ExtendI32S a fits = extend_s-lt 32 64 a
convert-lt ExtendI32U a fits = omega arith
