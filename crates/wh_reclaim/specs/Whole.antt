-- What a provision leaves of the memory of all.
use Rattle.std.specs.Prelude.{◌≡◌, length}
use Rattle.wh_space_model.specs.Parts.{Space}

-- there are as many frames and slots as before, and the same tax
pub record IsAsWhole (s s2 : Space) : Type 0 where
  pub frames : length s2.pool.frames ≡ length s.pool.frames
  pub slots : length s2.slots.uses ≡ length s.slots.uses
  pub tax : s2.tax ≡ s.tax
