-- Texts one after the other.
use Rattle.std.specs.Prelude.{ℕ, ◌≡◌, ◌<◌, ◌≤◌, ◌^◌, List, [], ◌∷◌, length, slice_range}
use Rattle.wh_names.specs.declared.texts.Texts.TheInside.{Inside}

-- the texts in these bytes, the first from a place on, each to where it ends
abbrev pub cut_texts : List ℕ → ℕ → List ℕ → List (List ℕ)
cut_texts bytes start [] = []
cut_texts bytes start (end ∷ ends) = slice_range bytes start end ∷ cut_texts bytes end ends

abbrev pub texts_of : Inside → List (List ℕ)
texts_of a = cut_texts a.bytes.items 0 a.ends.items

-- from this place on the ends rise to the last one, which is that of all bytes
abbrev pub AreEnds : (whole start : ℕ) → List ℕ → Type 0
AreEnds whole start [] = start ≡ whole
AreEnds whole start (end ∷ ends) = (start ≤ end) × AreEnds whole end ends

-- the texts end so, and where they end are numbers of 32 bits
pub record AreCut (a : Inside) : Type 0 where
  pub ends : AreEnds (length a.bytes.items) 0 a.ends.items
  pub few : length a.bytes.items < 2 ^ 32
