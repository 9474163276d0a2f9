-- Digests in hexadecimal digits.
use Rattle.std.proofs.Common.{◌≡◌, ◌≢◌, ℕ, ◌<◌, suc, zero, List, [], ◌∷◌, length, All, Result, Ok, Err, sym, ap, ◌∙◌, arith}
use Rattle.std.specs.List.{AllByRecursion}
use Rattle.std.proofs.lemmas.List.Elements.{recursion_from_All, All-from_get_or}
use Rattle.hex.specs.Hex.{encode_lower, decode_sized, IsBytes}
use Rattle.hex.specs.declared.error.FromHexError.{FromHexError}
use Rattle.hex.proofs.HexLemmas.{decode_sized-encode_lower, decode_sized-ok, decode_sized-twice, decode_of-ok}
use Rattle.wh_routes.specs.Readings.{SpellsDigest}

bytes_by : (d : List ℕ) → AllByRecursion (λ b. b < 256) d → IsBytes d
bytes_by [] h i = omega arith
bytes_by (b ∷ bs) h zero = h.0
bytes_by (b ∷ bs) h (suc i) = bytes_by bs h.1 i

pub are_bytes : (d : List ℕ) → All (λ b. b < 256) d → IsBytes d
are_bytes d h = bytes_by d (recursion_from_All (λ b. b < 256) d h)

-- what is spelled is read
pub reads : (text d : List ℕ) → SpellsDigest text d → decode_sized text 32 ≡ Ok d
reads text d h = ap (λ t. decode_sized t 32) h.spelled ∙ decode_sized-encode_lower d 32 h.sized (are_bytes d h.bytes)

pub hex_none : (text : List ℕ) (r : Result (List ℕ) FromHexError) (e : FromHexError) → r ≡ decode_sized text 32 → r ≡ Err e
    → (d : List ℕ) → ¬ (SpellsDigest text d)
hex_none text r e given is d h = let x = reads text d h in cc

pub other_letters : (text again digest : List ℕ) (r : Result (List ℕ) FromHexError) → r ≡ decode_sized text 32 → r ≡ Ok digest
    → again ≡ encode_lower digest → text ≢ again → (d : List ℕ) → ¬ (SpellsDigest text d)
other_letters text again digest r given is written other d h =
    let x = reads text d h in
    let y = h.spelled in
    let same : d ≡ digest = cc in
    other (y ∙ (ap encode_lower same ∙ sym written))

-- what is read has 32 bytes
pub read_bytes : (text digest : List ℕ) (r : Result (List ℕ) FromHexError) → r ≡ decode_sized text 32 → r ≡ Ok digest
    → (length digest ≡ 32) × All (λ b. b < 256) digest
read_bytes text digest r given is =
    let ok : decode_sized text 32 ≡ Ok digest = sym given ∙ is in
    let len = decode_sized-ok text 32 digest ok in
    let d = decode_of-ok text digest (sym (decode_sized-twice text 32 len) ∙ ok) in
    (omega (arith, len, d.2), All-from_get_or (λ b. b < 256) digest 0 (λ i h. d.3 i))
