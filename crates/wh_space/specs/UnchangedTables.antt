-- What stays of the page tables of all instances while their pages and marks change.
use Rattle.std.specs.Prelude.{ℕ, List}
use Rattle.wh_tables.specs.Tables.{TablesState}

-- the limits of all tables, the numbers of their instances, and how many frames there are
pub record Fixed : Type 0 where
  pub limits : List ℕ
  pub numbers : List ℕ
  pub frames : ℕ

abbrev pub fixed_in : TablesState → Fixed
fixed_in tables = record { limits = tables.limits; numbers = tables.numbers; frames = tables.frames }
