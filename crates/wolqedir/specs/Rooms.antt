-- What is in the caller's room.
use Rattle.std.specs.Prelude.{List, ◌++◌, length, take, drop}

-- as many of these as there is room for, and after them what was there
abbrev pub laid_in : {A : Type 0} → List A → List A → List A
laid_in items room = take (length room) items ++ drop (length items) room
