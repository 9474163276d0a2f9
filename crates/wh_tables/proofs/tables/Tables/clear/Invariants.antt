use Rattle.std.proofs.Common.{◌≡◌, ℕ, ◌<◌, [], Some, length, get_or, slice_set}
use Rattle.wh_space_model.specs.declared.states.Page.TheVariants.{Untouched}
use Rattle.wh_space_model.specs.{page_at}
use Rattle.wh_tables.proofs.tables.Tables.clear.Given as goal

-- the first pages are untouched, and all else is as it was
abbrev pub invariant-loop-number : goal.invariant-loop-number
invariant-loop-number l = record {
  pages : slice_set l.self.pages l.fn.place [] ≡ slice_set l.fn.self.pages l.fn.place [];
  long : length (get_or l.self.pages l.fn.place []) ≡ length (get_or l.fn.self.pages l.fn.place []);
  places : length l.self.pages ≡ length l.fn.self.pages;
  marks : l.self.marks ≡ l.fn.self.marks;
  limits : l.self.limits ≡ l.fn.self.limits;
  numbers : l.self.numbers ≡ l.fn.self.numbers;
  frames : l.self.frames ≡ l.fn.self.frames;
  done : (p : ℕ) → p < l.number → page_at l.self.pages l.fn.place p ≡ Some Untouched;
}
