-- The size of a table: what the standard asks, and this host's own limit.
use Rattle.wh_model.specs.Format.Syntax.{Limits}
use Rattle.wh_model.specs.Validity.Valid.{WithinBound, most_entries}
use Rattle.wh_model.specs.Validity.Heights.{FitsTable}

abbrev pub IsTable : Limits → Type 0
IsTable l = FitsTable l × WithinBound most_entries l
