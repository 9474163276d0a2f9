-- The pool of frames, each of 4096 bytes, on which all linear memories lie.
use Rattle.std.specs.Prelude.{ℕ, ◌≡◌, ◌+◌, ◌<◌, ◌≤◌, ◌==◌, ◌++◌, cond, List, [], ◌∷◌, length}

-- the sum of what w gives for each element of a list
abbrev pub tally : {X : Type 0} → (X → ℕ) → List X → ℕ
tally w [] = 0
tally w (x ∷ xs) = w x + tally w xs

-- 1 for this number, and 0 for another: its tally counts how often the number stands in a list
abbrev pub one_if : ℕ → ℕ → ℕ
one_if f g = cond (f == g) 1 0

-- the bytes of each frame, and the numbers of the free ones
pub record Pool : Type 0 where
  pub frames : List (List ℕ)
  pub free : List ℕ

-- frame f is there, and isn't free
abbrev pub IsTaken : Pool → ℕ → Type 0
IsTaken pool f = (f < length pool.frames) × (tally (one_if f) pool.free ≡ 0)

-- no frame is free twice, and only frames that are there are free
pub record HasDistinctFree (pool : Pool) : Type 0 where
  pub once : (f : ℕ) → tally (one_if f) pool.free ≤ 1
  pub there : (f : ℕ) → length pool.frames ≤ f → tally (one_if f) pool.free ≡ 0

-- one free frame is taken: it isn't free any more, all others stay as they were, and so do the bytes of all frames
pub record TakesFreeFrame (old : Pool) (f : ℕ) (new : Pool) : Type 0 where
  pub frames : new.frames ≡ old.frames
  pub free : old.free ≡ new.free ++ f ∷ []
