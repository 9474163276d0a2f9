-- Which frame has an entry under a hash.
use Rattle.std.specs.Prelude.{ℕ, ◌≡◌, ◌+◌, ◌<◌, ◌^◌, List, slice_get}
use Rattle.wh_space_model.specs.declared.states.Mark.{Mark}
use Rattle.wh_space_model.specs.declared.states.Mark.TheVariants.{Plain, Hint, Sharers, Unlisted}
use Rattle.wh_space_model.specs.Sound.{HasHash}
use Rattle.wh_content.specs.declared.entry.ContentEntry.{ContentEntry}
use Rattle.wh_content.specs.declared.entry.ContentEntry.TheVariants as entry

-- the frame of an entry, and its mark, with the hash under which it was found
abbrev pub frame_of_entry : ContentEntry → ℕ
frame_of_entry (entry.Hint frame place page) = frame
frame_of_entry (entry.Shared frame sharers) = frame

abbrev pub mark_of_entry : ℕ → ContentEntry → Mark
mark_of_entry hash (entry.Hint frame place page) = Hint hash place page
mark_of_entry hash (entry.Shared frame sharers) = Sharers hash sharers

-- no frame but this one has an entry under the hash
abbrev pub IsOnlyWith : List Mark → ℕ → ℕ → Type 0
IsOnlyWith marks frame hash = (other : ℕ) → HasHash (slice_get marks other) hash → other ≡ frame

-- no frame has one
abbrev pub IsWithout : List Mark → ℕ → Type 0
IsWithout marks hash = (frame : ℕ) → ¬ HasHash (slice_get marks frame) hash

-- no two frames have entries under one hash
abbrev pub AreApart : List Mark → Type 0
AreApart marks = (frame hash : ℕ) → HasHash (slice_get marks frame) hash → IsOnlyWith marks frame hash

-- the reference count of a frame with this mark can be one higher in 32 bits
abbrev pub HasRoomForOne : Mark → Type 0
HasRoomForOne Plain = Unit {0}
HasRoomForOne (Hint hash i p) = Unit {0}
HasRoomForOne (Sharers hash n) = n + 1 < 2 ^ 32
HasRoomForOne (Unlisted n) = n + 1 < 2 ^ 32
