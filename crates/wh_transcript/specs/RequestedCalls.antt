-- What an owner asked of an instance, and which transcripts are of that.
use Rattle.std.specs.Prelude.{◌≡◌, Option, Some, None}
use Rattle.std.specs.List.{AllZip}
use Rattle.wh_journal.specs.Calls.{JournalCallState}
use Rattle.wh_params.specs.View.{view_params}
use Rattle.wh_transcript.specs.declared.requests.Ending.{Ending}
use Rattle.wh_transcript.specs.declared.requests.RequestedCall.{RequestedCall}
use Rattle.wh_transcript.specs.declared.requests.Requests.{Requests}
use Rattle.wh_transcript.specs.Transcripts.{TranscriptState}

-- the call has ended so, where that was said
abbrev pub EndsAsSaid : Option Ending → JournalCallState → Type 0
EndsAsSaid None c = Unit {0}
EndsAsSaid (Some e) c = (c.pieces ≡ e.pieces) × (c.charges ≡ e.charges) × (c.end ≡ e.end)

-- it is the call that was asked for
abbrev pub IsCallAsked : RequestedCall → JournalCallState → Type 0
IsCallAsked r c = (c.func ≡ r.func) × (c.given ≡ r.given.items) × (c.fuel ≡ r.fuel) × EndsAsSaid r.ending c

-- the transcript is of these requests: the same module, given the same, and each call the one that was asked for
pub record IsOfRequests (r : Requests) (t : TranscriptState) : Type 0 where
  pub bytes : t.bytes ≡ r.bytes.value.items
  pub params : t.params ≡ view_params r.params
  pub calls : AllZip IsCallAsked r.calls.items t.calls
