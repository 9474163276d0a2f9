-- Integers, section 5.2.2 of the standard (LEB128), and vectors, section 5.1.3. One definition for all widths.
use Rattle.std.specs.Prelude.{◌≡◌, ℕ, ◌+◌, ◌-◌, ◌*◌, ◌^◌, ◌≤◌, ◌<◌, ◌⊎◌, List, [], ◌∷◌, ℤ, pos, ◌+ℤ◌, ◌*ℤ◌}
use Rattle.wh_model.specs.declared.faults.FaultKind.{FaultKind}
use Rattle.wh_model.specs.declared.faults.FaultKind.TheVariants.{Truncated, Leb}
use Rattle.wh_model.specs.Format.Grammar.{Grammar, ◌>>=◌, up_to, times}

-- uN: a byte below 2^7 and 2^N is itself; a byte from 2^7 on, if N is above 7, is followed by m of N-7 bits, and the
-- number is the byte - 2^7 + 2^7 * m.
abbrev pub IsUnsigned : ℕ → List ℕ → ℕ → Type 0
IsUnsigned bits [] n = ⊥
IsUnsigned bits (b ∷ []) n = (b < 128) × (b < 2 ^ bits) × (n ≡ b)
IsUnsigned bits (b ∷ c ∷ bs) n =
    (128 ≤ b) × (7 < bits) × (m : ℕ) × (n + 128 ≡ b + 128 * m) × IsUnsigned (bits - 7) (c ∷ bs) m

-- It breaks where the bytes end, or at the last byte that there may be, where that one continues or has unused bits
-- set.
abbrev pub BreaksUnsigned : ℕ → List ℕ → FaultKind → ℕ → Type 0
BreaksUnsigned bits [] kind k = (kind ≡ Truncated) × (k ≡ 0)
BreaksUnsigned bits (b ∷ bs) kind k = ((bits ≤ 7) × (2 ^ bits ≤ b) × (kind ≡ Leb) × (k ≡ 0))
    ⊎ ((128 ≤ b) × (7 < bits) × (j : ℕ) × (k ≡ 1 + j) × BreaksUnsigned (bits - 7) bs kind j)

-- The last byte of an sN: below 2^6 and 2^(N-1) it is itself; from 2^6 to below 2^7, and from 2^7 - 2^(N-1) on, it is
-- the byte - 2^7.
abbrev pub IsSignedByte : ℕ → ℕ → ℤ → Type 0
IsSignedByte bits b n = ((b < 64) × (b < 2 ^ (bits - 1)) × (n ≡ pos b))
    ⊎ ((64 ≤ b) × (b < 128) × (128 ≤ b + 2 ^ (bits - 1)) × (n +ℤ pos 128 ≡ pos b))

-- sN: a last byte; or a byte from 2^7 on, if N is above 7, and after it m of N-7 bits: the byte - 2^7 + 2^7 * m.
abbrev pub IsSigned : ℕ → List ℕ → ℤ → Type 0
IsSigned bits [] n = ⊥
IsSigned bits (b ∷ []) n = IsSignedByte bits b n
IsSigned bits (b ∷ c ∷ bs) n =
    (128 ≤ b) × (7 < bits) × (m : ℤ) × (n +ℤ pos 128 ≡ pos b +ℤ pos 128 *ℤ m) × IsSigned (bits - 7) (c ∷ bs) m

-- It breaks where the bytes end, or at the last byte that there may be, where that one continues or has unused bits
-- that aren't copies of the sign bit.
abbrev pub BreaksSigned : ℕ → List ℕ → FaultKind → ℕ → Type 0
BreaksSigned bits [] kind k = (kind ≡ Truncated) × (k ≡ 0)
BreaksSigned bits (b ∷ bs) kind k =
    ((bits ≤ 7) × (2 ^ (bits - 1) ≤ b) × ((128 ≤ b) ⊎ (b + 2 ^ (bits - 1) < 128)) × (kind ≡ Leb) × (k ≡ 0))
    ⊎ ((128 ≤ b) × (7 < bits) × (j : ℕ) × (k ≡ 1 + j) × BreaksSigned (bits - 7) bs kind j)

abbrev pub unsigned : ℕ → Grammar ℕ
unsigned bits =
    record { spells = λ n b. IsUnsigned bits b n; within = λ n b. IsUnsigned bits b n; breaks = BreaksUnsigned bits }

abbrev pub signed : ℕ → Grammar ℤ
signed bits =
    record { spells = λ n b. IsSigned bits b n; within = λ n b. IsSigned bits b n; breaks = BreaksSigned bits }

-- indices, sizes and counts; constants
abbrev pub u32 : Grammar ℕ
u32 = unsigned 32

abbrev pub s32 : Grammar ℤ
s32 = signed 32

abbrev pub s64 : Grammar ℤ
s64 = signed 64

-- vec(g): a count, and that many
abbrev pub vec : {A : Type 0} → Grammar A → Grammar (List A)
vec g = do
  n ← u32
  times n g

-- a vector whose count is limited, which is looked at before its items
abbrev pub vec_up_to : {A : Type 0} → ℕ → Grammar A → Grammar (List A)
vec_up_to limit g = do
  n ← up_to limit u32
  times n g
