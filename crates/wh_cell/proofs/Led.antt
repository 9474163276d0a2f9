-- Events that lead on from a host to which events alone led.
use Rattle.std.proofs.Common.{List, [], ◌∷◌, refl}
use Rattle.wh_space_model.specs.declared.plain.SwapError.{SwapError}
use Rattle.wh_host_model.specs.Host.{Event, AllHappen, World, empty_world}
use Rattle.wh_host.specs.Hosting.{HostState, IsReached}
use Rattle.wh_host.specs.Requests.{LeadsByRequest}
use Rattle.wh_host.specs.Showing.{RepresentsReached}
use Rattle.wh_cell.specs.LeftByOwner.{WorksOn}
use Rattle.wh_cell.proofs.Going.{happen_both, work_happens}

reached_by : (w w2 : World) (events : List Event) → IsReached w → AllHappen w events w2 → IsReached w2
reached_by w w2 events r happen = record {
  frames = r.frames;
  slots = r.slots;
  tax = r.tax;
  events = _;
  happen = happen_both (empty_world r.frames r.slots r.tax) w w2 r.events events r.happen happen;
}

-- by work
pub led_by_work : (h h2 : HostState) (faults : List SwapError) → WorksOn h faults h2 → RepresentsReached h → RepresentsReached h2
led_by_work h h2 faults works led =
    let x = works led.0 led.1 in (x.0, x.2, reached_by led.0 x.0 x.1.events led.2 (work_happens led.0 x.0 x.1.events x.1.work))

-- by a request
pub led_by_request : (h h2 : HostState) → LeadsByRequest h h2 → RepresentsReached h → RepresentsReached h2
led_by_request h h2 leads led =
    let x = leads led.0 led.1 in (x.1, x.4, reached_by led.0 x.1 (x.0 ∷ []) led.2 (x.1, x.3, refl))
