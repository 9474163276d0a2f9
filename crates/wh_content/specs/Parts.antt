-- What the parts of a content table are.
use Rattle.std.specs.Prelude.{◌≡◌, ◌+◌, ◌<◌, ◌^◌, length}
use Rattle.wh_content.specs.declared.table.Table.TheInside.{Inside}
use Rattle.wh_content.specs.Chains.{AreChains}
use Rattle.wh_content.specs.Marks.{AreApart}

-- There is a mark for each frame, and no two have one hash. There are as many buckets as frames, and a chain for each.
pub record IsIndexed (a : Inside) : Type 0 where
  pub few : a.frames < 2 ^ 32
  pub many : length a.marks ≡ a.frames
  pub apart : AreApart a.marks
  pub places : length a.chains ≡ a.frames + a.frames
  pub chains : AreChains a.frames a.marks a.chains
