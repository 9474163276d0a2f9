-- What a thread was told before it began.
use Rattle.std.specs.Prelude.{◌≡◌, ℕ, ◌<◌, Bool, List, [], sum_by, true}
use Rattle.atomic_table.specs.declared.badge.Badge.{Badge}
use Rattle.crossbeam_channel.specs.declared.flavors.array.Key.{Key}
use Rattle.crossbeam_channel.specs.declared.flavors.array.Doing.{Doing}
use Rattle.crossbeam_channel.specs.declared.flavors.array.Rows.{Rows}
use Rattle.crossbeam_channel.specs.Claims.{Pass, view, IsSeatAt}
use Rattle.wh_threads.specs.declared.channel.Traffic.{Traffic}
use Rattle.wh_threads.specs.declared.gate.Sign.{Sign}
use Rattle.wh_threads.specs.declared.gate.Sign.TheVariants.{Begin, Stay}
use Rattle.wh_threads.specs.Handover.{traffic}

-- it tells a thread to begin
abbrev pub begins : Sign → ℕ
begins Begin = 1
begins Stay = 0

-- how often a thread was told to begin
abbrev pub begins_in : List Sign → ℕ
begins_in signs = sum_by begins signs

module _ {Q M L A : Type 0} (ring : Rows (Badge (Key Sign)) (Doing Sign (Traffic Sign)) Q M (Key Sign) L A) where
  -- through its pass a thread was told something, and it has begun only where it was told to
  pub record IsTold (slip : Pass Sign (Traffic Sign)) (has_begun : Bool) : Type 0 where
    pub channel : IsSeatAt ring slip
    pub received : view slip ≡ traffic 1 [] (view slip).received
    pub begun : has_begun ≡ true → 0 < begins_in (view slip).received
