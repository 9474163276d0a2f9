-- The integer operators, as the W3C WebAssembly Core Specification 1.0 states them in section 4.3, "Numerics": its
-- parts 4.3.2, "Integer Operations", and 4.3.4, "Conversions". An operator has the name that it has there.  N is the
-- number of bits. An integer is a number i with 0 ≤ i < 2 ^ N, and so is every result. Bits are counted from the low
-- end: bit k of i is `i / 2 ^ k % 2`. Where the standard writes i as high bits d₁ and then k low bits d₂, d₁ is `i / 2
-- ^ k` and d₂ is `i % 2 ^ k`; back, k bits e and then N - k bits d are `e * 2 ^ (N - k) + d`.
use Rattle.std.specs.Prelude.{ℕ, zero, suc, ◌+◌, ◌-◌, ◌*◌, ◌/◌, ◌%◌, ◌^◌, Bool, not, if◌then◌else◌, ◌==◌, nat_lt, nat_le, ℤ, pos, negsuc, ◌-ℤ◌, ◌*ℤ◌, int_lt, int_le, int_div, bit_and, bit_or, bit_xor, Result}
use Rattle.std.specs.declared.result.Result.TheVariants.{Ok, Err}
use Rattle.wh_model.specs.declared.Trap.{Trap}
use Rattle.wh_model.specs.declared.Trap.TheVariants.{DivideByZero, Overflow}
use Rattle.wh_model.specs.declared.ValType.{ValType}
use Rattle.wh_model.specs.declared.ValType.TheVariants.{I32, I64}
use Rattle.wh_model.specs.declared.UnaryOp.{UnaryOp}
use Rattle.wh_model.specs.declared.UnaryOp.TheVariants.{Clz, Ctz, Popcnt, Extend8S, Extend16S, Extend32S}
use Rattle.wh_model.specs.declared.BinaryOp.{BinaryOp}
use Rattle.wh_model.specs.declared.BinaryOp.TheVariants.{Add, Sub, Mul, DivS, DivU, RemS, RemU, And, Or, Xor, Shl, ShrS, ShrU, Rotl, Rotr}
use Rattle.wh_model.specs.declared.TestOp.{TestOp}
use Rattle.wh_model.specs.declared.TestOp.TheVariants.{Eqz}
use Rattle.wh_model.specs.declared.CompareOp.{CompareOp}
use Rattle.wh_model.specs.declared.CompareOp.TheVariants.{Eq, Ne, LtS, LtU, GtS, GtU, LeS, LeU, GeS, GeU}
use Rattle.wh_model.specs.declared.ConvertOp.{ConvertOp}
use Rattle.wh_model.specs.declared.ConvertOp.TheVariants.{WrapI64, ExtendI32S, ExtendI32U}

-- ---- widths and signs

-- the number of bits of a value type
abbrev pub bits : ValType → ℕ
bits I32 = 32
bits I64 = 64

-- the signed number that i represents: i below 2 ^ (N - 1), and i - 2 ^ N from there on
unfoldable pub signed : ℕ → ℕ → ℤ
signed N i = if nat_lt i (2 ^ (N - 1)) then pos i else pos i -ℤ pos (2 ^ N)

-- a signed number modulo 2 ^ N, where `negsuc n` is -(n + 1): the integer that represents it
unfoldable pub unsigned : ℕ → ℤ → ℕ
unsigned N (pos n) = n % 2 ^ N
unsigned N (negsuc n) = 2 ^ N - 1 - n % 2 ^ N

-- ---- arithmetic

-- the sum modulo 2 ^ N
unfoldable pub iadd : ℕ → ℕ → ℕ → ℕ
iadd N a b = (a + b) % 2 ^ N

-- the difference modulo 2 ^ N
unfoldable pub isub : ℕ → ℕ → ℕ → ℕ
isub N a b = (a + 2 ^ N - b) % 2 ^ N

-- the product modulo 2 ^ N
unfoldable pub imul : ℕ → ℕ → ℕ → ℕ
imul N a b = (a * b) % 2 ^ N

-- the quotient towards zero; by 0 it is a trap
unfoldable pub idiv_u : ℕ → ℕ → Result ℕ Trap
idiv_u a b = if b == 0 then Err DivideByZero else Ok (a / b)

-- the signed quotient towards zero
unfoldable pub quotient : ℕ → ℕ → ℕ → ℤ
quotient N a b = int_div (signed N a) (signed N b)

-- the signed quotient; by 0 it is a trap, and so is 2 ^ (N - 1), the one quotient that is no signed number of N bits
unfoldable pub idiv_s : ℕ → ℕ → ℕ → Result ℕ Trap
idiv_s N a b =
    if b == 0 then Err DivideByZero else
    (if int_lt (quotient N a b) (pos (2 ^ (N - 1))) then Ok (unsigned N (quotient N a b)) else Err Overflow)

-- the remainder: the dividend less the divisor times the quotient; by 0 it is a trap
unfoldable pub irem_u : ℕ → ℕ → Result ℕ Trap
irem_u a b = if b == 0 then Err DivideByZero else Ok (a - b * (a / b))

-- the signed remainder, likewise, so it has the dividend's sign
unfoldable pub irem_s : ℕ → ℕ → ℕ → Result ℕ Trap
irem_s N a b = if b == 0 then Err DivideByZero else Ok (unsigned N (signed N a -ℤ signed N b *ℤ quotient N a b))

-- ---- shifts and rotations, by k, the count modulo N

-- the N - k low bits, and then k zeros
unfoldable pub ishl : ℕ → ℕ → ℕ → ℕ
ishl N a b = let k = b % N in (a * 2 ^ k) % 2 ^ N

-- k zeros, and then the N - k high bits
unfoldable pub ishr_u : ℕ → ℕ → ℕ → ℕ
ishr_u N a b = let k = b % N in a / 2 ^ k

-- k copies of the sign bit, which is the highest, and then the N - k high bits
unfoldable pub ishr_s : ℕ → ℕ → ℕ → ℕ
ishr_s N a b = let k = b % N in let sign = a / 2 ^ (N - 1) in sign * (2 ^ k - 1) * 2 ^ (N - k) + a / 2 ^ k

-- the N - k low bits, and then the k high bits
unfoldable pub irotl : ℕ → ℕ → ℕ → ℕ
irotl N a b = let k = b % N in a % 2 ^ (N - k) * 2 ^ k + a / 2 ^ (N - k)

-- the k low bits, and then the N - k high bits
unfoldable pub irotr : ℕ → ℕ → ℕ → ℕ
irotr N a b = let k = b % N in a % 2 ^ k * 2 ^ (N - k) + a / 2 ^ k

-- ---- counts of bits

-- how many numbers below n pass a test
unfoldable pub count_below : ℕ → (ℕ → Bool) → ℕ
count_below zero p = 0
count_below (suc n) p = count_below n p + (if p n then 1 else 0)

-- the zero bits at the high end: the places k where bit k and all above it are 0
unfoldable pub iclz : ℕ → ℕ → ℕ
iclz N i = count_below N (λ k. i / 2 ^ k == 0)

-- the zero bits at the low end: the places k where bit k and all below it are 0
unfoldable pub ictz : ℕ → ℕ → ℕ
ictz N i = count_below N (λ k. i % 2 ^ (k + 1) == 0)

-- the bits that are 1
unfoldable pub ipopcnt : ℕ → ℕ → ℕ
ipopcnt N i = count_below N (λ k. i / 2 ^ k % 2 == 1)

-- ---- conversions

-- modulo 2 ^ N
unfoldable pub wrap : ℕ → ℕ → ℕ
wrap N i = i % 2 ^ N

-- from K bits to N, the same number
unfoldable pub extend_u : ℕ → ℕ
extend_u i = i

-- from K bits to N, the same signed number
unfoldable pub extend_s : ℕ → ℕ → ℕ → ℕ
extend_s K N i = unsigned N (signed K i)

-- the low K bits, as the same signed number of N bits (version 2.0, iextendK_s)
unfoldable pub iextend_s : ℕ → ℕ → ℕ → ℕ
iextend_s K N i = extend_s K N (wrap K i)

-- ---- the instructions' operators, by type

-- 1 for true, and 0 for false
unfoldable pub truth : Bool → ℕ
truth b = if b then 1 else 0

-- an operator on one integer
unfoldable pub unary : ValType → UnaryOp → ℕ → ℕ
unary t Clz i = iclz (bits t) i
unary t Ctz i = ictz (bits t) i
unary t Popcnt i = ipopcnt (bits t) i
unary t Extend8S i = iextend_s 8 (bits t) i
unary t Extend16S i = iextend_s 16 (bits t) i
unary t Extend32S i = iextend_s 32 (bits t) i

-- an operator on two integers, where `bit_and`, `bit_or` and `bit_xor` go bit by bit
unfoldable pub binary : ValType → BinaryOp → ℕ → ℕ → Result ℕ Trap
binary t Add a b = Ok (iadd (bits t) a b)
binary t Sub a b = Ok (isub (bits t) a b)
binary t Mul a b = Ok (imul (bits t) a b)
binary t DivS a b = idiv_s (bits t) a b
binary t DivU a b = idiv_u a b
binary t RemS a b = irem_s (bits t) a b
binary t RemU a b = irem_u a b
binary t And a b = Ok (bit_and a b)
binary t Or a b = Ok (bit_or a b)
binary t Xor a b = Ok (bit_xor a b)
binary t Shl a b = Ok (ishl (bits t) a b)
binary t ShrS a b = Ok (ishr_s (bits t) a b)
binary t ShrU a b = Ok (ishr_u (bits t) a b)
binary t Rotl a b = Ok (irotl (bits t) a b)
binary t Rotr a b = Ok (irotr (bits t) a b)

-- a test of one integer
unfoldable pub test : TestOp → ℕ → ℕ
test Eqz i = truth (i == 0)

-- whether a comparison of two integers holds
unfoldable pub holds : ValType → CompareOp → ℕ → ℕ → Bool
holds t Eq a b = a == b
holds t Ne a b = not (a == b)
holds t LtS a b = int_lt (signed (bits t) a) (signed (bits t) b)
holds t LtU a b = nat_lt a b
holds t GtS a b = int_lt (signed (bits t) b) (signed (bits t) a)
holds t GtU a b = nat_lt b a
holds t LeS a b = int_le (signed (bits t) a) (signed (bits t) b)
holds t LeU a b = nat_le a b
holds t GeS a b = int_le (signed (bits t) b) (signed (bits t) a)
holds t GeU a b = nat_le b a

-- a comparison of two integers
unfoldable pub compare : ValType → CompareOp → ℕ → ℕ → ℕ
compare t op a b = truth (holds t op a b)

-- the type of the integer that a conversion takes
abbrev pub operand_type : ConvertOp → ValType
operand_type WrapI64 = I64
operand_type ExtendI32S = I32
operand_type ExtendI32U = I32

-- the type of the integer that it gives
abbrev pub result_type : ConvertOp → ValType
result_type WrapI64 = I32
result_type ExtendI32S = I64
result_type ExtendI32U = I64

-- a conversion of one integer
unfoldable pub convert : ConvertOp → ℕ → ℕ
convert WrapI64 i = wrap 32 i
convert ExtendI32S i = extend_s 32 64 i
convert ExtendI32U i = extend_u i
