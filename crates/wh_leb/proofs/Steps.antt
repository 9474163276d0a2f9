-- One byte of a signed number that goes on.
use Rattle.std.proofs.Common.{◌≡◌, ℕ, ◌+◌, ◌-◌, ◌<◌, List, ◌∷◌, Ok, ℤ, pos, ◌+ℤ◌, ◌*ℤ◌, length, drop, get_or, refl}
use Rattle.std.proofs.lemmas.List.{drop_more}
use Rattle.std.proofs.lemmas.Bool.{lt-ltb}
use Rattle.wh_leb.specs.Reading.{signed_of}

signed_more : (bits b : ℕ) (bs : List ℕ) (at : ℕ) (high : ℤ) (next : ℕ) → 127 < b → 7 < bits → Ok (high, next) ≡ signed_of (bits - 7) bs (at + 1)
    → Ok (pos (b - 128) +ℤ pos 128 *ℤ high, next) ≡ signed_of bits (b ∷ bs) at
signed_more bits b bs at high next byte more e = rw (lt-ltb 127 b byte, lt-ltb 7 bits more, ← e) refl

pub signed_step : (bits : ℕ) (bytes : List ℕ) (at : ℕ) (high total : ℤ) (next : ℕ) → at < length bytes → 127 < get_or bytes at 0 → 7 < bits
    → Ok (high, next) ≡ signed_of (bits - 7) (drop (at + 1) bytes) (at + 1) → total ≡ pos (get_or bytes at 0 - 128) +ℤ pos 128 *ℤ high → Ok (total, next) ≡ signed_of bits (drop at bytes) at
signed_step bits bytes at high total next inside byte more e t =
    rw (t, drop_more bytes at 0 inside) (signed_more bits (get_or bytes at 0) (drop (at + 1) bytes) at high next byte more e)
