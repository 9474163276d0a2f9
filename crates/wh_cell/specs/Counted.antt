-- What the code counts of provisions, evictions and offers.
use Rattle.std.specs.Prelude.{◌≡◌, ℕ, ◌+◌, ◌-◌, ◌^◌, min, Option, None, Some, Result, Ok, Err}
use Rattle.wh_space_model.specs.declared.plain.SwapError.{SwapError}
use Rattle.wh_space_model.specs.declared.states.EvictEnd.{EvictEnd}
use Rattle.wh_space_model.specs.declared.states.EvictEnd.TheVariants.{Evicted}
use Rattle.wh_threads.specs.Counting.{HelperState}

-- how many pages left in a provision; at a fault none is counted
abbrev pub evictions_of : Result ℕ SwapError → ℕ
evictions_of (Ok gone) = gone
evictions_of (Err fault) = 0

-- by the outcome of an eviction
abbrev pub evictions_at : EvictEnd → ℕ
evictions_at Evicted = 1
evictions_at other = 0

-- `gone` evictions are counted by a reclaimer and in the book, as far as the reclaimer can count them in 64 bits
pub record CountsEvictions (gone : ℕ) (reclaimer : HelperState) (book : ℕ) (reclaimer2 : HelperState) (book2 : ℕ)
    : Type 0 where
  pub counted : ℕ
  pub as_many : counted ≡ min gone (2 ^ 64 - 1 - reclaimer.count)
  pub reclaimer_is : reclaimer2 ≡ record reclaimer { count = reclaimer.count + counted }
  pub book_is : book2 ≡ book + counted

-- how many pages were offered in a pass; where it wasn't done, none were
abbrev pub offers_of : Option ℕ → ℕ
offers_of None = 0
offers_of (Some n) = n

-- how many of `more` more can be counted after a count, in 64 bits
abbrev pub countable : (count more : ℕ) → ℕ
countable count more = min more (2 ^ 64 - 1 - count)

-- the offers are counted after a scanner's count, and in the book, as far as the scanner can count them in 64 bits
pub record CountsOn (offered : Option ℕ) (count book count2 book2 : ℕ) : Type 0 where
  pub count_is : count2 ≡ count + countable count (offers_of offered)
  pub book_is : book2 ≡ book + countable count (offers_of offered)
