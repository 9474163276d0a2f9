-- What holds of the definitions.
use Rattle.std.specs.Prelude.{◌≡◌, List, All}
use Rattle.wh_multiplex.specs.declared.frame.StreamFrame.{StreamFrame}
use Rattle.wh_multiplex.specs.StreamFrames.{IsFrame, stream_bytes}

-- what spells frames spells no others
abbrev pub BytesTellFrames : Type 0
BytesTellFrames =
    (xs ys : List StreamFrame) → All IsFrame xs → All IsFrame ys → stream_bytes xs ≡ stream_bytes ys → xs ≡ ys
