-- What holds of page tables of which anything can be asked.
use Rattle.std.specs.Prelude.{ℕ, ◌≡◌, ◌+◌, ◌<◌, ◌≤◌, ◌%◌, length, get_or}
use Rattle.wh_tables.specs.Tables.{TablesState}

-- There are ten frames, and each instance may have six pages. Its number tells its place.
pub record MayBeAsked (turn : ℕ) (s : TablesState) : Type 0 where
  pub some : 1 ≤ turn
  pub frames : s.frames ≡ 10
  pub numbers : length s.numbers ≡ length s.pages
  pub limits : length s.limits ≡ length s.pages
  pub tells : (j : ℕ) → j < length s.pages → (get_or s.numbers j 0 + 2) % turn ≡ j
  pub room : (j : ℕ) → j < length s.pages → get_or s.limits j 0 ≡ 6
