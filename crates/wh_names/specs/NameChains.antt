-- Chains through the names: each has those of one bucket, the last one first.
use Rattle.std.specs.Prelude.{ℕ, ◌≡◌, ◌≢◌, ◌+◌, ◌<◌, ◌≤◌, List, length, slice_index}

-- The link leads to the last name of the bucket before a place: to it and 1, or to 0 where there is none.
pub record LeadsToName (bucket_of : ℕ → ℕ) (bucket place link : ℕ) : Type 0 where
  pub there : (k : ℕ) → link ≡ k + 1 → (k < place) × (bucket_of k ≡ bucket)
  pub nearest : (k : ℕ) → link ≤ k → k < place → bucket_of k ≢ bucket

-- So the head of each bucket leads on from after all names, and the link of each name from where this is.
pub record AreNameChains (bucket_of : ℕ → ℕ) (heads links : List ℕ) : Type 0 where
  pub from_head : (bucket : ℕ) → bucket < length heads
      → LeadsToName bucket_of bucket (length links) (slice_index heads bucket)
  pub from_name : (k : ℕ) → k < length links → LeadsToName bucket_of (bucket_of k) k (slice_index links k)
