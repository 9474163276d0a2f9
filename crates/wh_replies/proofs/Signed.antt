-- Words as signed numbers.
use Rattle.std.proofs.Common.{◌≡◌, ℕ, suc, ◌-◌, ◌<◌, ◌^◌, ltb, pos, negsuc, w32, w64, to_z, sym, ⊎_elim, le-ltb, lt-ltb}
use Rattle.std.proofs.lemmas.Bool.{cases_lt}
use Rattle.std.proofs.lemmas.Int.{ints}
use Rattle.wh_model.proofs.Numbers.{signed-low, signed-high}
use Rattle.wh_model.specs.Execution.{bits, signed}
use Rattle.wh_model.specs.declared.ValType.{ValType}
use Rattle.wh_model.specs.declared.ValType.TheVariants.{I32, I64}
use mir.Val.{sel}

-- a machine word of n bits, read as signed
read_signed : (width i : ℕ) → i < 2 ^ width
    → sel (ltb i (2 ^ (width - 1))) (pos i) (negsuc (2 ^ width - suc i)) ≡ signed width i
read_signed width i fits = ⊎_elim
    (λ low. rw (lt-ltb i (2 ^ (width - 1)) low) (sym (signed-low width i low)))
    (λ high. rw (le-ltb i (2 ^ (width - 1)) high) (sym (signed-high width i high fits)))
    (cases_lt i (2 ^ (width - 1)))

pub signed_narrow : (t : ValType) (i : ℕ) → t ≡ I32 → i < 2 ^ bits t → to_z w32 i ≡ signed (bits t) i
signed_narrow I32 i e fits = read_signed 32 i fits
signed_narrow I64 i e fits = cc

pub signed_wide : (t : ValType) (i : ℕ) → t ≡ I64 → i < 2 ^ bits t → to_z w64 i ≡ signed (bits t) i
signed_wide I32 i e fits = cc
signed_wide I64 i e fits = read_signed 64 i fits

pub ruleset signs = (ints, signed_narrow, signed_wide)
