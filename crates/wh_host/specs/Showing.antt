-- What a host shows of one of its instances.
use Rattle.std.specs.Prelude.{◌≡◌, ◌++◌, ℕ, List, Some, Result, Ok, Err}
use Rattle.wh_space_model.specs.declared.plain.InstId.{InstId}
use Rattle.wh_host_model.specs.Host.Worlds.{Tenant, Loaded, World, journal, loaded_of}
use Rattle.wh_host_model.specs.Owners.{Params}
use Rattle.wh_host_model.specs.Host.Happens.{IsLive, NoInstance as NobodyThere}
use Rattle.wh_instance.specs.Tenancy.{RepresentsEach, suspension_of}
use Rattle.wh_transcript.specs.Transcripts.{TranscriptState}
use Rattle.wh_host.specs.declared.parts.StoredParams.{StoredParams}
use Rattle.wh_host.specs.declared.parts.InstanceEntry.{InstanceEntry}
use Rattle.wh_host.specs.declared.error.HostError.{HostError}
use Rattle.wh_host.specs.declared.error.HostError.TheVariants.{NoInstance, Invoke, NoCall, Memory}
use Rattle.wh_host.specs.Hosting.{HostState, IsHost, IsReached}

-- what the owner of an instance gave it, with the words of its input
abbrev pub given_with : StoredParams → List ℕ → Params
given_with g inputs = record {
  shares = g.shares;
  min = g.min;
  max = g.max;
  fuel = g.fuel;
  base = g.base;
  salt = g.salt;
  inputs = inputs;
}

-- what the code has of an instance, with the bytes of its module
abbrev pub shown_of : InstanceEntry → List ℕ → TranscriptState
shown_of x bytes = record {
  bytes = bytes;
  params = given_with x.given x.tenant.store.inputs.items;
  calls = x.tenant.journal.ended ++ x.tenant.journal.open_calls;
  copied = x.copied;
  waiting_for = x.tenant.waiting_for;
}

-- a transcript shows this instance of a module with these bytes: what it was given, its whole journal, how many calls of it were
-- copied, and what its present call is blocked on
pub record Shows (s : TranscriptState) (bytes : List ℕ) (t : Tenant) : Type 0 where
  pub bytes_are : s.bytes ≡ bytes
  pub params : s.params ≡ t.params
  pub calls : RepresentsEach s.calls (journal t)
  pub copied : s.copied ≡ t.copied
  pub waiting_for : t.waiting_for ≡ suspension_of s.waiting_for

-- it shows the instance, or there is none; or memory ran out
abbrev pub IsTranscript : World → InstId → Result TranscriptState HostError → Type 0
IsTranscript w id (Ok s) =
    (t : Tenant) × (loaded : Loaded) × IsLive w id t × (loaded_of w t.of ≡ Some loaded)
    × Shows s loaded.bytes t
IsTranscript w id (Err NoInstance) = NobodyThere w id
IsTranscript w id (Err Memory) = Unit {0}
IsTranscript w id (Err (Invoke e)) = ⊥
IsTranscript w id (Err NoCall) = ⊥

-- events alone lead to a host for which it stands
abbrev pub RepresentsReached : HostState → Type 0
RepresentsReached h = (w : World) × IsHost h w × IsReached w

-- for whatever host it stands
abbrev pub ShowsInstance : HostState → InstId → Result TranscriptState HostError → Type 0
ShowsInstance h id result = (w : World) → IsHost h w → IsTranscript w id result
