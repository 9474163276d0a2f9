-- Signed numbers of 8, 16 and 32 bits, and the bytes of a number.
use Rattle.std.proofs.lemmas.Int.{to_z-of_z}
use Rattle.std.proofs.Common.{◌≡◌, ◌∙◌, ℕ, suc, ◌^◌, ◌%◌, ◌/◌, ◌<◌, ℤ, pos, negsuc, w8, w16, w32, w64, to_z, of_z, arith, SFits, length, zero, refl, ap}
use Rattle.std.proofs.lemmas.Int.{ints}
use Rattle.wh_model.specs.Execution.{signed, unsigned, bytes_of}
use Rattle.wh_intops.proofs.Words.{read-signed}

-- machine words, read as signed
pub signed_8 : (i : ℕ) → i < 256 → to_z w8 i ≡ signed 8 i
signed_8 i fits = read-signed 8 i fits

pub signed_16 : (i : ℕ) → i < 2 ^ 16 → to_z w16 i ≡ signed 16 i
signed_16 i fits = read-signed 16 i fits

pub signed_32 : (i : ℕ) → i < 2 ^ 32 → to_z w32 i ≡ signed 32 i
signed_32 i fits = read-signed 32 i fits

-- the machine word of a signed number, and its low half
pub unsigned_32 : (z : ℤ) → SFits w64 z → of_z w64 z % 2 ^ 32 ≡ unsigned 32 z
unfolding unsigned
unsigned_32 (pos n) fits = refl
unsigned_32 (negsuc n) fits = omega arith

pub unsigned_64 : (z : ℤ) → SFits w64 z → of_z w64 z ≡ unsigned 64 z
unfolding unsigned
unsigned_64 (pos n) fits = omega arith
unsigned_64 (negsuc n) fits = omega arith

-- and the word of one of 32 bits
pub narrow_32 : (z : ℤ) → SFits w32 z → of_z w32 z ≡ unsigned 32 z
unfolding unsigned
narrow_32 (pos n) fits = omega arith
narrow_32 (negsuc n) fits = omega arith

pub ruleset signs = (ints, signed_8, signed_16, signed_32, unsigned_32, unsigned_64)

-- they are as many as were asked for
pub length_bytes_of : (k n : ℕ) → length (bytes_of k n) ≡ k
length_bytes_of zero n = refl
length_bytes_of (suc k) n = ap suc (length_bytes_of k (n / 256))

-- a signed number that was handed on is that number
pub handed_64 : (x : ℤ) (r : ℕ) → SFits w64 x → r ≡ unsigned 64 (to_z w64 (of_z w64 x)) → r ≡ unsigned 64 x
handed_64 x r fits e = e ∙ ap (unsigned 64) (to_z-of_z w64 x fits)

pub handed_32 : (x : ℤ) (r : ℕ) → SFits w32 x → r ≡ unsigned 32 (to_z w32 (of_z w32 x)) → r ≡ unsigned 32 x
handed_32 x r fits e = e ∙ ap (unsigned 32) (to_z-of_z w32 x fits)
