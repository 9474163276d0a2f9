-- Words of 64 bits.
use Rattle.std.proofs.Common.{ℕ, suc, ◌^◌, ◌<◌, List, [], ◌∷◌, get_or}
use Rattle.std.specs.List.{AllByRecursion}

pub all_words : (xs : List ℕ) → ((k : ℕ) → get_or xs k 0 < 2 ^ 64) → AllByRecursion (λ n. n < 2 ^ 64) xs
all_words [] each = tt
all_words (x ∷ xs) each = (each 0, all_words xs (λ k. each (suc k)))
