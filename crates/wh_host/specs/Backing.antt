-- What calls leave of what lies after the memory of all.
use Rattle.std.specs.Prelude.{◌≡◌, length}
use Rattle.wh_space_model.specs.Errands.{pass_of}
use Rattle.wh_space_model.specs.Parts.{Space}

-- No ticket comes or goes, and slots hold what they held. There are as many frames and slots, and the same tax.
pub record KeepsBacking (s s2 : Space) : Type 0 where
  pub pass : pass_of s2 ≡ pass_of s
  pub frames : length s2.pool.frames ≡ length s.pool.frames
  pub slots : length s2.slots.uses ≡ length s.slots.uses
  pub tax : s2.tax ≡ s.tax
