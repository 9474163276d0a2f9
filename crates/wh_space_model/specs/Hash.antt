-- The hash FNV-1a of 64 bits, by which pages with equal bytes are looked for.
use Rattle.std.specs.Prelude.{ℕ, ◌*◌, ◌%◌, ◌^◌, List, fold, bit_xor}

-- the hash so far and one more byte: exclusive or with it, then times the prime, modulo 2^64
abbrev pub fnv_step : ℕ → ℕ → ℕ
fnv_step hash byte = (bit_xor hash byte * 1099511628211) % 2 ^ 64

-- the hash of a list of bytes
abbrev pub fnv64 : List ℕ → ℕ
fnv64 bytes = fold fnv_step 14695981039346656037 bytes
