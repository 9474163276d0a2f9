-- What a host shows of the output of one of its instances.
use Rattle.std.specs.Prelude.{◌≡◌, ℕ, List, Some}
use Rattle.wh_model.specs.Execution.Replay.{Replay, Standing, store_at}
use Rattle.wh_space_model.specs.declared.plain.InstId.{InstId}
use Rattle.wh_host_model.specs.Host.Worlds.{Tenant, Loaded, World, journal, journal_calls, loaded_of}
use Rattle.wh_host_model.specs.Host.Happens.{IsLive, NoInstance as NobodyThere}
use Rattle.wh_host_model.specs.Owners.{given_of}
use Rattle.wh_host.specs.declared.error.HostError.{HostError}
use Rattle.wh_host.specs.declared.error.HostError.TheVariants.{NoInstance}
use Rattle.wh_host.specs.Hosting.{HostState, IsHost, IsReached}

-- the instance has put out these bytes: its release would give them
abbrev pub HasPutOut : World → InstId → List ℕ → Type 0
HasPutOut w id output = (t : Tenant) × IsLive w id t × (output ≡ t.rest.output)

-- for whatever host it stands
abbrev pub ShowsOutput : HostState → InstId → List ℕ → Type 0
ShowsOutput h id output = (w : World) → IsHost h w → HasPutOut w id output

-- They are what its journal gives: from the beginning of its module its calls lead to a store with this output.
pub record IsJournalOutput (w : World) (id : InstId) (output : List ℕ) : Type 0 where
  pub t : Tenant
  pub live : IsLive w id t
  pub loaded : Loaded
  pub is_loaded : loaded_of w t.of ≡ Some loaded
  pub standing : Standing
  pub replay : Replay loaded.m (given_of t.params) (journal_calls (journal t)) standing
  pub written : output ≡ (store_at standing).output

-- for whatever host it stands to which events alone lead
abbrev pub ShowsJournalOutput : HostState → InstId → List ℕ → Type 0
ShowsJournalOutput h id output = (w : World) → IsHost h w → IsReached w → IsJournalOutput w id output

-- the error says that there is no such instance, and there is none
abbrev pub SaysNoInstance : HostState → InstId → HostError → Type 0
SaysNoInstance h id error = (error ≡ NoInstance) × ((w : World) → IsHost h w → NobodyThere w id)
