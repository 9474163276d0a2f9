-- Which helpers of a call of `serve` were started.
use Rattle.std.specs.Prelude.{◌≡◌, ℕ, Option, Some, None}
use Rattle.wh_threads.specs.Counting.{ThreadCountsState}

-- A helper was started and went on from this count, and one part of its ledger is lent; or it wasn't, and none is.
abbrev pub IsLent : Option ℕ → ℕ → ℕ → Type 0
IsLent (Some from) count out = (from ≡ count) × (out ≡ 1)
IsLent None count out = out ≡ 0

-- the scanner and the reclaimer, of which each went on from such a count where it was started
pub record AreLent (scanner reclaimer : Option ℕ) (l : ThreadCountsState) : Type 0 where
  pub offers : IsLent scanner l.offers l.scanners_out
  pub evictions : IsLent reclaimer l.evictions l.reclaimers_out
