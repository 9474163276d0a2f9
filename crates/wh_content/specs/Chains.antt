-- Chains through the frames: each has those whose hashes fall into one bucket, the greatest first.
use Rattle.std.specs.Prelude.{ℕ, ◌≡◌, ◌+◌, ◌<◌, ◌≤◌, ◌%◌, ◌⊎◌, List, Option, Some, None, slice_get, slice_index}
use Rattle.wh_space_model.specs.declared.states.Mark.{Mark}
use Rattle.wh_space_model.specs.Sound.{HasHash}

-- a link to a frame is its number and 1, and 0 where there is none
abbrev pub link_to : Option ℕ → ℕ
link_to None = 0
link_to (Some frame) = frame + 1

-- each link leads to a frame before the place where it stands
abbrev pub IsFalling : List ℕ → Type 0
IsFalling links = (place : ℕ) → slice_index links place ≤ place

-- the hash of a mark falls into this bucket, one of `count`; that of a frame's mark does
abbrev pub IsOfBucket : ℕ → ℕ → Option Mark → Type 0
IsOfBucket count bucket mark = (hash : ℕ) × HasHash mark hash × (hash % count ≡ bucket)

abbrev pub IsIn : ℕ → List Mark → ℕ → ℕ → Type 0
IsIn count marks bucket frame = IsOfBucket count bucket (slice_get marks frame)

-- the places of a bucket: its frames, and its head, after all frames
abbrev pub IsPlace : ℕ → List Mark → ℕ → ℕ → Type 0
IsPlace count marks bucket place = IsIn count marks bucket place ⊎ (place ≡ count + bucket)

-- the link from a place leads to the bucket's last frame before it
pub record LeadsOn (count : ℕ) (marks : List Mark) (bucket place link : ℕ) : Type 0 where
  pub there : (frame : ℕ) → link ≡ frame + 1 → IsIn count marks bucket frame
  pub nearest : (frame : ℕ) → link ≤ frame → frame < place → ¬ IsIn count marks bucket frame

-- the links from all places of all buckets do
pub record AreChains (count : ℕ) (marks : List Mark) (links : List ℕ) : Type 0 where
  pub each : (bucket place : ℕ) → bucket < count → IsPlace count marks bucket place
      → LeadsOn count marks bucket place (slice_index links place)
