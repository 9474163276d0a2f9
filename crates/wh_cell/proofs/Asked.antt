-- The book still fits a host of which something was asked, and one that had a turn.
use Rattle.std.proofs.Common.{ℕ, ◌+◌, arith}
use Rattle.wh_space_model.specs.declared.plain.InstId.{InstId}
use Rattle.wh_host_model.specs.declared.plain.TurnEnd.{TurnEnd}
use Rattle.wh_host_model.specs.Host.{World, Event, load, admit, invoke, refuel, cancel, retry, release, fork, unload, epoch, IsTurn}
use Rattle.wh_host_model.specs.Host.Happens.{Happens}
use Rattle.wh_host.specs.Hosting.{HostState, IsHost}
use Rattle.wh_host.specs.Requests.{IsRequest, LeadsByRequest}
use Rattle.wh_host.specs.Series.{HasSpent}
use Rattle.wh_cell.specs.Charging.{FitsBook}
use Rattle.wh_cell.specs.LeftByOwner.{FitsHost, HasNoCharge, HasTakenOn}
use Rattle.wh_cell.proofs.Alike.{fits_each, fits_on, taken_each}
use Rattle.wh_cell.proofs.Counted.{fits_taken, turn_taken}
use Rattle.wh_cell.proofs.Requested.{HasCopiedEnded, admit_fits, cancel_fits, fork_fits, invoke_fits, load_fits, moves_fit, refuel_fits, release_fits, retry_fits, unload_fits}
use Rattle.wh_host_model.proofs.Host.Copied.{copied_stay_ended}

-- the calls that were copied have ended
pub copied_ended : (h : HostState) (w : World) → IsHost h w → HasCopiedEnded w
copied_ended h w st = copied_stay_ended w st.comes

-- ---- a turn

pub turned_taken : (h h2 : HostState) (id : InstId) (q n : ℕ) (answer : TurnEnd) → (w : World) × IsHost h w
    → ((w : World) → IsHost h w → (w2 : World) × IsTurn w id q answer w2 × HasSpent w id n w2 × IsHost h2 w2) → HasTakenOn h n h2
turned_taken h h2 id q n answer some turns =
    let w = some.0 in
    let (w2, turn, spent, st2) = turns w some.1 in
    taken_each h h2 w w2 n some.1 st2 (turn_taken w w2 id q n answer turn spent (λ t live. copied_ended h w some.1 id.number t live.0))

pub fits_turned : (h h2 : HostState) (total n : ℕ) → (w : World) × IsHost h w → (w : World) × IsHost h2 w → FitsHost h total → HasTakenOn h n h2 → FitsHost h2 (total + n)
fits_turned h h2 total n some some2 f taken =
    fits_each h2 some2.0 (total + n) some2.1 (fits_taken some.0 some2.0 n total (taken some.0 some2.0 some.1 some2.1) (f some.0 some.1))

pub fits_nothing : (h : HostState) → HasNoCharge h → FitsHost h 0
fits_nothing h none = fits_each h none.0 0 none.1 (record { least = omega (arith, none.2); whole = λ all. none.2 })

-- ---- requests

request_fits : (w w2 : World) (e : Event) (total : ℕ) → HasCopiedEnded w → IsRequest e → Happens w e w2 → FitsBook w total → FitsBook w2 total
request_fits w w2 (load bytes) total had is happens f = load_fits w w2 bytes happens.0 total happens.1 f
request_fits w w2 (admit k p) total had is happens f = admit_fits w w2 k p happens.0 total happens.1 f
request_fits w w2 (invoke id name given fuel) total had is happens f = invoke_fits w w2 id name given fuel happens.0 total had happens.1 f
request_fits w w2 (refuel id n) total had is happens f = refuel_fits w w2 id n happens.0 total had happens.1 f
request_fits w w2 (cancel id) total had is happens f = cancel_fits w w2 id happens.0 total had happens.1 f
request_fits w w2 (retry id) total had is happens f = retry_fits w w2 id happens.0 total happens.1 f
request_fits w w2 (release id) total had is happens f = release_fits w w2 id happens.0 total happens.1 f
request_fits w w2 (fork id q) total had is happens f = fork_fits w w2 id q happens.0 total happens.1 f
request_fits w w2 (unload k) total had is happens f = unload_fits w w2 k happens.0 total happens.1 f
request_fits w w2 epoch total had is happens f = moves_fit w w2 total happens f
request_fits w w2 other total had is happens f = absurd is

pub fits_requested : (h h2 : HostState) (total : ℕ) → (w : World) × IsHost h w → FitsHost h total → LeadsByRequest h h2 → FitsHost h2 total
fits_requested h h2 total some f leads =
    let x = leads some.0 some.1 in
    fits_on h h2 some.0 total total some.1 f (x.1, x.4, request_fits some.0 x.1 x.0 total (copied_ended h some.0 some.1) x.2 x.3)
