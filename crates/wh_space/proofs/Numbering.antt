-- Instances by number, as the page tables know them and as the memory does.
use Rattle.std.proofs.Common.{◌<◌, ◌^◌, ℕ, Option, sym, subst, rules}
use Rattle.std.proofs.lemmas.List.{length-map}
use Rattle.wh_space_model.specs.declared.plain.InstId.{InstId}
use Rattle.wh_tables.specs.Line.{ComesLater, IsAbove, IsNextIn}
use Rattle.wh_tables.proofs.Lines.{has_row}
use Rattle.wh_space.specs.declared.memory.Memory.TheInside.{Inside}
use Rattle.wh_space.specs.Numbered.{ComesAfter, IsNextInstance}
use Rattle.wh_space.specs.Parts.{IsWell, space_of}
use Rattle.wh_space.proofs.Charged.{number_same}

comes_later : (a : Inside) (after : Option ℕ) (i : ℕ) → IsWell a → ComesAfter (space_of a) after i → ComesLater a.tables.pages a.tables.numbers after i
comes_later a after i was comes = (comes.0, subst (IsAbove after) (sym (number_same a i was comes.0)) comes.1)

pub next_now : (a : Inside) (after : Option ℕ) (id : InstId) → IsWell a → IsNextIn a.tables.pages a.tables.numbers after id → IsNextInstance (space_of a) after id
next_now a after id was next = search (rules, number_same, comes_later)

pub next_small : (a : Inside) (after : Option ℕ) (id : InstId) → IsWell a → IsNextIn a.tables.pages a.tables.numbers after id → id.place < 2 ^ 32
next_small a after id was next = search (rules, has_row, length-map)

pub none_now : (a : Inside) (after : Option ℕ) → IsWell a → ((i : ℕ) → ¬ ComesLater a.tables.pages a.tables.numbers after i) → (i : ℕ) → ¬ ComesAfter (space_of a) after i
none_now a after was none i comes = none i (comes_later a after i was comes)
