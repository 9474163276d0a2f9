-- A number for each stop that falls on the way back.
use Rattle.std.proofs.Common.{ℕ, ◌+◌, ◌*◌, ◌<◌, inl, inr, List, Option, Some, None, get_or, arith}
use Rattle.wh_tables.specs.declared.page_id.PageId.{PageId}
use Rattle.wh_tables.specs.Order.{ComesBefore}

abbrev pub key_of : List ℕ → Option PageId → ℕ
key_of numbers None = 0
key_of numbers (Some id) = 1 + ((get_or numbers id.place 0 * 4294967296 + id.place) * 4294967296 + id.page)

pub key_falls : (numbers : List ℕ) (x y : PageId) → x.place < 4294967296 → x.page < 4294967296 → ComesBefore numbers x y → key_of numbers (Some x) < key_of numbers (Some y)
key_falls numbers x y place page (inl less) = omega arith
key_falls numbers x y place page (inr (e, inl less)) = omega arith
key_falls numbers x y place page (inr (e, inr (f, less))) = omega arith
