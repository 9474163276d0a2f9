-- The numbers by which replies name faults of frames. They are this project's own.
use Rattle.std.specs.Prelude.{ℕ}
use Rattle.wh_frames.specs.declared.FrameError.{FrameError}
use Rattle.wh_frames.specs.declared.FrameError.TheVariants.{NoFrame, Memory}

-- a fault of frames is named F and this number
abbrev pub frame_number : FrameError → ℕ
frame_number NoFrame = 1
frame_number Memory = 2
