-- The hash of a name, and its bucket.
use Rattle.std.specs.Prelude.{ℕ, ◌%◌, List, [], get_or}
use Rattle.std.specs.Hash.FoldHasher as folding

-- the hash of a name
unfoldable pub hash_of : List ℕ → ℕ
hash_of name = folding.finish (folding.write folding.initial name)

-- the bucket of the name at a place, one of `buckets`
abbrev pub bucket_at : List (List ℕ) → ℕ → ℕ → ℕ
bucket_at names buckets place = hash_of (get_or names place []) % buckets
