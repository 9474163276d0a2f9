-- A frame that is lent to be written.
use Rattle.std.specs.Prelude.{ℕ, List, slice_set}
use Rattle.std.specs.Borrow.{Lends, MutBor, Fml, Array, u8}
use Rattle.wh_space_model.specs.Frames.{Pool}
use Rattle.wh_frames.specs.contracts.pool.FramePool.{the_row}

-- the pool with other bytes in one frame
abbrev pub with_bytes : Pool → ℕ → List ℕ → Pool
with_bytes pool f bytes = record pool { frames = slice_set pool.frames f bytes }

-- the pool ends with the frame's bytes as they were last written, and with all else as it was
abbrev pub LendsFrame : MutBor Pool → ℕ → MutBor (List ℕ) → Fml
LendsFrame pool f bytes = Lends the_row (Array u8 4096) pool bytes (with_bytes pool.now f)
