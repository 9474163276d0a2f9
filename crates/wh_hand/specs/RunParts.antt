-- Parts of a run.
use Rattle.std.specs.Prelude.{◌≡◌, ◌-◌, ◌≤◌, ◌⊎◌, ℕ}
use Rattle.wh_host_model.specs.Host.Worlds.{World}
use Rattle.wh_host.specs.Hosting.{HostState, IsHost, IsReached}
use Rattle.wh_hand.specs.Running.{RunsByEvents, AnyGoesOn, most_turns, turns_among}

-- how many charges each turn has at most
abbrev pub quantum : ℕ
quantum = 1000

-- whatever host it represents to which events alone lead, that one runs on for these charges, and at least these turns
abbrev pub RunsPart : HostState → (charges turns : ℕ) → HostState → Type 0
RunsPart h charges turns h2 =
    (w : World) → IsHost h w → IsReached w
    → (w2 : World) × (r : RunsByEvents quantum w charges w2) × (turns ≤ turns_among r.events) × IsHost h2 w2

-- of the charges that were given `left` are left: none, or nobody can go on, or there were very many turns
abbrev pub LeavesOf : HostState → (given left : ℕ) → HostState → Type 0
LeavesOf h given left h2 =
    (w : World) → IsHost h w → IsReached w
    → (w2 : World) × (r : RunsByEvents quantum w (given - left) w2)
    × ((left ≡ 0) ⊎ ((¬ (AnyGoesOn w2)) ⊎ (most_turns ≤ turns_among r.events))) × IsHost h2 w2
