-- A transcript as words.
use Rattle.std.specs.Prelude.{◌≡◌, ◌++◌, ◌^◌, ◌-◌, ℕ, List, [], ◌∷◌, length, flat_map, Option, Some, None, Result, IfOk}
use Rattle.wh_model.specs.Format.Numbering.{trap_number}
use Rattle.wh_space_model.specs.declared.plain.InstId.{InstId}
use Rattle.wh_journal.specs.Calls.{JournalCallState}
use Rattle.wh_journal.specs.declared.calls.CallEnd.{CallEnd}
use Rattle.wh_journal.specs.declared.calls.CallEnd.TheVariants.{Open, Returned, Trapped, Cancelled, Dead}
use Rattle.wh_transcript.specs.Transcripts.{IsReplayable, TranscriptState}
use Rattle.wh_host.specs.declared.error.HostError.{HostError}
use Rattle.wh_host.specs.Showing.{ShowsInstance}
use Rattle.wh_hand.specs.HandStates.{HandState}
use Rattle.wolqedir.specs.Codes.{code_by, host_error_code}
use Rattle.wolqedir.specs.Rooms.{laid_in}
use Rattle.wolqedir.specs.ExportContracts.{TellsCaller}

-- a function's index; none is 2^64 - 1
abbrev pub func_word : Option ℕ → ℕ
func_word (Some func) = func
func_word None = 2 ^ 64 - 1

-- the kind of a status, 0 for an open call; how many results; the result, or the number of a trap
abbrev pub end_words : CallEnd → List ℕ
end_words Open = 0 ∷ 0 ∷ 0 ∷ []
end_words (Returned None) = 6 ∷ 0 ∷ 0 ∷ []
end_words (Returned (Some word)) = 6 ∷ 1 ∷ word ∷ []
end_words (Trapped trap) = 7 ∷ 0 ∷ trap_number trap ∷ []
end_words Cancelled = 8 ∷ 0 ∷ 0 ∷ []
end_words Dead = 9 ∷ 0 ∷ 0 ∷ []

-- its function, its fuel in all, the pieces of data that it wrote, its charges, how it has ended, and its arguments after their
-- number
abbrev pub entry_words : JournalCallState → List ℕ
entry_words c =
    (func_word c.func ∷ c.fuel ∷ c.pieces ∷ c.charges ∷ []) ++ end_words c.end ++ (length c.words ∷ c.words)

abbrev pub all_words : List JournalCallState → List ℕ
all_words calls = flat_map entry_words calls

-- what is told of an instance: its calls
pub record ExportTellsTranscript (id : InstId) (room room2 : List ℕ) (len len2 code : ℕ) (h h2 : HandState) : Type 0 where
  pub answer : Result TranscriptState HostError
  pub answered : code ≡ code_by host_error_code answer
  pub same : h2 ≡ h
  pub shows : ShowsInstance h.host id answer
  pub replays : IfOk answer (λ shown. IsReplayable shown)
  pub laid : TellsCaller (λ shown. laid_in (all_words shown.calls) room) answer room room2
  pub counted : TellsCaller (λ shown. length (all_words shown.calls)) answer len len2
