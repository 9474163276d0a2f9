-- What the decoder is told to do, in three words: which bytes spell which module (section 5 of the standard), when a
-- module is within this host's limits (section 7.2), and which fault is the first one of bytes that are neither.
use Rattle.std.specs.Prelude.{◌≡◌, ℕ, ◌≤◌, ◌<◌, ◌⊎◌, List, length, All}
use Rattle.wh_model.specs.declared.faults.FaultKind.{FaultKind}
use Rattle.wh_model.specs.declared.faults.FaultKind.TheVariants.{Limit}
use Rattle.wh_model.specs.Format.Syntax.{Module}
use Rattle.wh_model.specs.Format.Limits.{most_bytes, SmallModule}
use Rattle.wh_model.specs.Format.Modules.{«module»}

-- byte lists (5.2.1)
unfoldable pub AreBytes : List ℕ → Type 0
AreBytes b = All (λ n. n < 256) b

-- the bytes are a spelling of the module
unfoldable pub Spells : List ℕ → Module → Type 0
Spells b m = AreBytes b × «module».spells m b

-- neither the bytes nor the module pass a limit
unfoldable pub Small : List ℕ → Module → Type 0
Small b m = (length b ≤ most_bytes) × SmallModule m

-- The bytes break in this way at this offset: too many bytes are a fault before all others; else a front of them, in
-- whole items and within the limits, is a front of a spelling, and the next item breaks there in that way.
unfoldable pub IsBroken : List ℕ → FaultKind → ℕ → Type 0
IsBroken b kind offset = AreBytes b × (((most_bytes < length b) × (kind ≡ Limit) × (offset ≡ most_bytes))
    ⊎ ((length b ≤ most_bytes) × «module».breaks b kind offset))
