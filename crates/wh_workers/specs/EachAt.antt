-- A fact of each element of a list and its place.
use Rattle.std.specs.Prelude.{◌≡◌, ℕ, List, Some, slice_get}

abbrev pub EachAt : {H : Type 0} → List H → (ℕ → H → Type 0) → Type 0
EachAt {H} xs P = (i : ℕ) (h : H) → slice_get xs i ≡ Some h → P i h
