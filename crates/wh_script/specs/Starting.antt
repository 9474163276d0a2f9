-- The device for a new host.
use Rattle.std.specs.Prelude.{◌≡◌, ℕ, List, [], replicate}

-- a device with `slots` slots, to none of which anything was written
abbrev pub IsEmptyDevice : (slots : ℕ) (held : List (List ℕ)) → Type 0
IsEmptyDevice slots held = held ≡ replicate slots []
