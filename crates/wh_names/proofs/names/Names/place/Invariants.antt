use Rattle.std.proofs.Common.{◌≡◌, ◌≢◌, ℕ, ◌+◌, ◌<◌, ◌≤◌, length, slice_get, Some}
use Rattle.wh_names.specs.NameHash.{bucket_at}
use Rattle.wh_names.proofs.names.Names.place.Given as goal

-- the link is to a name of the bucket or to none, and no name from there on is the one
abbrev pub invariant-loop-before : goal.invariant-loop-before
invariant-loop-before l = record {
  there : (k : ℕ) → l.link ≡ k + 1
      → (k < length l.self-inside.texts)
      × (bucket_at l.self-inside.texts (length l.self-inside.chains.heads.items) k ≡ l.bucket);
  without : (k : ℕ) → l.link ≤ k → slice_get l.self-inside.texts k ≢ Some l.name-2;
}

abbrev pub decreases-loop-before : goal.decreases-loop-before
decreases-loop-before l = l.link
