-- Bytes that are all there, and whether they are text.
use Rattle.std.proofs.Common.{◌≡◌, ℕ, ◌+◌, ◌≤◌, cond, List, length, take, drop, Ok, refl}
use Rattle.std.proofs.lemmas.Bool.{le-ltb}
use Rattle.std.specs.Str.{is_utf8}
use Rattle.wh_model.specs.declared.faults.FaultKind.TheVariants.{Utf8}
use Rattle.wh_leb.specs.Reading.{fail, only_at, read_bytes_at}

pub whole_text : (b : List ℕ) (at n : ℕ) → at + n ≤ length b → only_at is_utf8 Utf8 (read_bytes_at n) b at ≡ cond (is_utf8 (take n (drop at b))) (Ok (take n (drop at b), at + n)) (fail Utf8 at)
whole_text b at n le = rw (le-ltb (length b) (at + n) le) refl
