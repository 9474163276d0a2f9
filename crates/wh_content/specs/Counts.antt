-- How many frames are shared, and by how many pages.
use Rattle.std.specs.Prelude.{ℕ, ◌≡◌, ◌<◌, ◌^◌, List, length}
use Rattle.std.specs.List.{All}
use Rattle.wh_space_model.specs.Frames.{tally}
use Rattle.wh_space_model.specs.declared.states.Mark.{Mark}
use Rattle.wh_space_model.specs.declared.states.Mark.TheVariants.{Plain, Hint, Sharers, Unlisted}

-- 1 where pages share the frame that has this entry, and how many they are
abbrev pub is_shared : Mark → ℕ
is_shared Plain = 0
is_shared (Hint hash i p) = 0
is_shared (Sharers hash n) = 1
is_shared (Unlisted n) = 1

abbrev pub sharers_in : Mark → ℕ
sharers_in Plain = 0
sharers_in (Hint hash i p) = 0
sharers_in (Sharers hash n) = n
sharers_in (Unlisted n) = n

-- within the crate: the counts are those of the marks, whose sharers count in 32 bits
pub record AreCounted (marks : List Mark) (frames pages : ℕ) : Type 0 where
  pub few : length marks < 2 ^ 32
  pub small : All (λ mark. sharers_in mark < 2 ^ 32) marks
  pub shared : frames ≡ tally is_shared marks
  pub sharers : pages ≡ tally sharers_in marks
