-- What calls of a swap device leave of what is known of it.
use Rattle.std.specs.Prelude.{◌≡◌, ◌++◌, List, [], ◌∷◌, Result, Ok, Err}
use Rattle.wh_space_model.specs.declared.plain.SwapError.{SwapError}

-- the fault of the call that failed, if one did
abbrev pub call_faults : {X : Type 0} → Result X SwapError → List SwapError
call_faults (Ok done) = []
call_faults (Err fault) = fault ∷ []

-- If the device has read right so far, it had before; if it keeps what is written to it, it goes on to, and goes on to
-- read right; and its calls failed so, the last one first.
pub record ServesOn {D : Type 0} (keeps honest : D → Type 0) (faults : D → List SwapError) (device : D)
    (more : List SwapError) (device2 : D) : Type 0 where
  pub was_honest : honest device2 → honest device
  pub goes_on : keeps device → keeps device2
  pub stays_honest : keeps device → honest device → honest device2
  pub added : faults device2 ≡ more ++ faults device
