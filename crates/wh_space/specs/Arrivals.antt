-- A memory in which nobody is yet, and what instances are promised.
use Rattle.std.specs.Prelude.{ℕ, ◌≡◌, ◌<◌, List, length, replicate}
use Rattle.wh_space_model.specs.declared.Tax.{Tax}
use Rattle.wh_space_model.specs.Frames.{tally, one_if}
use Rattle.wh_space_model.specs.Pages.{zero_page}
use Rattle.wh_space_model.specs.Parts.{Claimed, Space, empty_space}
use Rattle.wh_space.specs.declared.occupant_entry.Promise.{Promise}

-- the frames and slots are there, and nobody is; the free frames are in some order
pub record IsNew (s : Space) (frames slots : ℕ) (tax : Tax) : Type 0 where
  pub free : List ℕ
  pub many : length free ≡ frames
  pub each : (f : ℕ) → f < frames → tally (one_if f) free ≡ 1
  pub is : s ≡ record (empty_space frames slots tax) {
    pool = record { frames = replicate frames zero_page; free = free };
  }

-- what an instance claims by its promise
abbrev pub claimed : Promise → Claimed
claimed p = record { number = p.number; shares = p.shares; min = p.min; max = p.max }
