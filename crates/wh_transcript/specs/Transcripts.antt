-- What contracts see of a transcript, and what it shows of an instance.
use Rattle.std.specs.Prelude.{ℕ, ◌++◌, ◌≤◌, Bool, List, Option, length}
use Rattle.wh_model.specs.declared.memory.Need.{Need}
use Rattle.wh_model.specs.Format.Syntax.{Module}
use Rattle.wh_model.specs.Linking.Accepting.{IsAccepted}
use Rattle.wh_model.specs.Execution.Store.{Instance, Store}
use Rattle.wh_model.specs.Execution.Instance.{Piece, begins, IsInitial}
use Rattle.wh_model.specs.Execution.Replay.{Replay}
use Rattle.wh_host_model.specs.Host.Worlds.{Rest, Doing, journal_calls, store_with, standing_with}
use Rattle.wh_host_model.specs.Owners.{Entry}
use Rattle.wh_host_model.specs.Owners.{Params, given_of}
use Rattle.wh_host_model.specs.Host.Journals.{InOrder}
use Rattle.wh_host_model.specs.Host.Suspensions.{FirstWaitsDuly}
use Rattle.wh_journal.specs.Calls.{JournalCallState}
use Rattle.wh_instance.specs.declared.stages.Suspension.{Suspension}
use Rattle.wh_instance.specs.Tenancy.{RepresentsEach, suspension_of}

-- The bytes of a module, what the owner of an instance of it gave, its calls in the order of their coming, how many of the first
-- ones were copied with it, and what the first open one is blocked on.
pub record TranscriptState : Type 0 where
  pub bytes : List ℕ
  pub params : Params
  pub calls : List JournalCallState
  pub copied : ℕ
  pub waiting_for : Option Suspension

-- The bytes spell a module that is accepted. An instance of it, which is given that, has these calls: those that have ended, all
-- that were copied among them, and then the open ones. They lead to this store, at which the first open one is there, and what it
-- is blocked on is right, where bytes of memory are wanted, if they are.
pub record IsReplayable (t : TranscriptState) : Type 0 where
  pub m : Module
  pub accepted : IsAccepted t.bytes m
  pub inst : Instance
  pub first : Store
  pub pieces : List Piece
  pub initial : IsInitial m (given_of t.params) (begins inst first pieces)
  pub ended : List Entry
  pub open_calls : List Entry
  pub dead : Bool
  pub in_order : InOrder m inst dead ended open_calls
  pub represents : RepresentsEach t.calls (ended ++ open_calls)
  pub copied : t.copied ≤ length ended
  pub seen : List ℕ
  pub rest : Rest
  pub doing : Doing
  pub replay : Replay m (given_of t.params) (journal_calls (ended ++ open_calls)) (standing_with seen rest doing)
  pub wanted : Option Need
  pub stands : FirstWaitsDuly inst (store_with seen rest) doing open_calls wanted (suspension_of t.waiting_for)
