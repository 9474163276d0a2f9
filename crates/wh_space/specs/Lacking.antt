-- What a step lacks.
use Rattle.std.specs.Prelude.{ℕ, Option, Some, None}
use Rattle.wh_space_model.specs.declared.states.Page.{Page}
use Rattle.wh_space_model.specs.declared.states.Page.TheVariants.{Untouched, Private, Shared, Leaving, LeavingShared, Coming, Swapped}

-- the slot in which a page lies, and waits for no device
abbrev pub slot_under : Page → Option ℕ
slot_under Untouched = None
slot_under (Private f) = None
slot_under (Shared f) = None
slot_under (Leaving f) = None
slot_under (LeavingShared f) = None
slot_under (Coming k) = None
slot_under (Swapped k) = Some k
