-- How the end of a turn is written down in the code's instance.
use Rattle.std.specs.Prelude.{◌≡◌, ◌+◌, ◌&&◌, ℕ, Bool, true, false, cond, List, [], ◌∷◌, ◌++◌, map, Option, Some, None}
use Rattle.std.specs.Bool.{MatchBool}
use Rattle.wh_journal.specs.Calls.{JournalCallState, with_end, with_progress}
use Rattle.wh_journal.specs.declared.calls.CallEnd.{CallEnd}
use Rattle.wh_journal.specs.declared.calls.CallEnd.TheVariants as end
use Rattle.wh_instance.specs.declared.computing.TurnOutcome.{TurnOutcome}
use Rattle.wh_instance.specs.declared.computing.TurnOutcome.TheVariants.{Returned, Trapped, Fuel, Frame, Again}
use Rattle.wh_instance.specs.declared.stages.CallStage.TheVariants.{Faced}
use Rattle.wh_instance.specs.declared.stages.Suspension.{Suspension}
use Rattle.wh_instance.specs.declared.stages.Suspension.TheVariants as stop
use Rattle.wh_instance.specs.declared.stages.TurnResult.{TurnResult}
use Rattle.wh_instance.specs.declared.stages.TurnResult.TheVariants as turned
use Rattle.wh_instance.specs.Tenancy.{HostInstanceState}

-- ---- the end of the present call

-- a start that so ends leaves its instance dead
abbrev pub has_failed : CallEnd → Bool
has_failed end.Open = false
has_failed (end.Returned result) = false
has_failed (end.Trapped x) = true
has_failed end.Cancelled = true
has_failed end.Dead = false

-- and it is a start where no call has ended yet
abbrev pub is_fatal : List JournalCallState → CallEnd → Bool
is_fatal [] how = has_failed how
is_fatal (c ∷ cs) how = false

-- The present call has ended so, and these wait: the next one is faced; or they end as dead, and so does the instance.
abbrev pub closed : HostInstanceState → CallEnd → JournalCallState → List JournalCallState → HostInstanceState
closed x how c cs =
    cond (is_fatal x.journal.ended how)
    (record x {
      journal = record {
        ended = x.journal.ended ++ with_end c how ∷ map (λ w. with_end w end.Dead) cs;
        open_calls = [];
      };
      progress = Faced;
      waiting_for = None;
      dead = true;
    })
    (record x {
      journal = record { ended = x.journal.ended ++ with_end c how ∷ []; open_calls = cs };
      progress = Faced;
      waiting_for = None;
    })

-- ---- the end of a turn

abbrev pub is_fault : Option Suspension → Bool
is_fault (Some (stop.Device fault)) = true
is_fault other = false

-- of what the present call is blocked on after a turn that ends at a frame: a fault is kept where no step was taken
abbrev pub frame_or_fault : Bool → Option Suspension → Option Suspension
frame_or_fault still stands = cond (still && is_fault stands) stands (Some stop.Frame)

-- what the turn answers, and what it leaves, `still` saying that no step was taken
abbrev pub answered : HostInstanceState → TurnOutcome → Bool → TurnResult
answered x (Returned result) still = turned.Ended
answered x (Trapped trap) still = turned.Ended
answered x Fuel still = turned.Fuel
answered x (Frame need) still = turned.Frame need still
answered x Again still = cond (still && is_fault x.waiting_for) turned.Kept (turned.Again still)

abbrev pub settled_to : HostInstanceState → TurnOutcome → Bool → JournalCallState → List JournalCallState → HostInstanceState
settled_to x (Returned result) still c cs = closed x (end.Returned result) c cs
settled_to x (Trapped trap) still c cs = closed x (end.Trapped trap) c cs
settled_to x Fuel still c cs = record x { waiting_for = Some stop.Fuel }
settled_to x (Frame need) still c cs = record x { waiting_for = frame_or_fault still x.waiting_for }
settled_to x Again still c cs = cond (still && is_fault x.waiting_for) x (record x { waiting_for = None })

-- its present call has written k pieces more, and taken n charges more
abbrev pub brought_on : HostInstanceState → JournalCallState → List JournalCallState → ℕ → ℕ → HostInstanceState
brought_on x c cs k n = record x { journal = record x.journal { open_calls = with_progress c k n ∷ cs } }

-- So a turn of k pieces and n charges with this outcome is recorded, with this call as the present one.
pub record IsFinished (x : HostInstanceState) (came : TurnOutcome) (k n : ℕ) (c : JournalCallState)
    (cs : List JournalCallState) (answer : TurnResult) (x2 : HostInstanceState) : Type 0 where
  pub still : Bool
  pub steps : MatchBool still (k + n ≡ 0) (¬ (k + n ≡ 0))
  pub is_answer : answer ≡ answered (brought_on x c cs k n) came still
  pub leaves : x2 ≡ settled_to (brought_on x c cs k n) came still (with_progress c k n) cs
