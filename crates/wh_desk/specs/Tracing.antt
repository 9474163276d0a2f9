-- The trace of a desk: one order of all replies in which each is right, and between any two of which only work happened.
use Rattle.std.specs.Prelude.{◌≡◌, ℕ, List, [], ◌∷◌, Some}
use Rattle.wh_space_model.specs.declared.plain.SwapError.{SwapError}
use Rattle.wh_space_model.specs.declared.Tax.{Tax}
use Rattle.wh_host.specs.Hosting.{IsNewHost}
use Rattle.wh_host.specs.Showing.{RepresentsReached}
use Rattle.wh_cell.specs.LeftByOwner.{LeftState, no_host}
use Rattle.wh_cell.specs.Owning.{ComesOn}
use Rattle.wh_desk.specs.declared.principal.Principal.{Principal}
use Rattle.wh_desk.specs.declared.request.DeskReply.{DeskReply}
use Rattle.wh_desk.specs.declared.trace.Question.{Question}
use Rattle.wh_desk.specs.declared.trace.Trace.{Trace}
use Rattle.wh_desk.specs.declared.trace.TraceEntry.{TraceEntry}
use Rattle.wh_desk.specs.Others.{KeepsOthersOf}
use Rattle.wh_desk.specs.Permits.{OwnershipState, nothing_owned, owned_after}
use Rattle.wh_desk.specs.Replying.{IsRight}

module _ {D : Type 0} where
  -- somebody asked this, and was replied so, by a host that was so then and so afterwards
  abbrev pub entry : Principal → Question → DeskReply → LeftState D → LeftState D → TraceEntry D
  entry who question reply at left =
      record { who = who; question = question; reply = reply; at = at; left = left }

  -- a trace with one more entry
  abbrev pub with_entry : TraceEntry D → Trace D → Trace D
  with_entry e t = record t { entries = e ∷ t.entries }

  -- nothing was replied, of a host that began so
  abbrev pub trace_from : LeftState D → Trace D
  trace_from first = record { first = first; entries = [] }

  -- of a host that nobody left
  abbrev pub no_trace : Trace D
  no_trace = trace_from no_host

  -- how the last reply left the host
  abbrev pub left_by : LeftState D → List (TraceEntry D) → LeftState D
  left_by first [] = first
  left_by first (e ∷ earlier) = e.left

  -- whose is what, after these replies
  abbrev pub owned_in : List (TraceEntry D) → OwnershipState
  owned_in [] = nothing_owned
  owned_in (e ∷ earlier) = owned_after e.who e.question e.reply (owned_in earlier)

-- where the device has read right, events alone lead to it
pub record IsLedThere {D : Type 0} (honest : D → Type 0) (at : LeftState D) : Type 0 where
  pub device : D
  pub has : at.device ≡ Some device
  pub led : honest device → RepresentsReached at.host

module _ {D : Type 0} (keeps honest : D → Type 0) (faults : D → List SwapError) where
  -- by work alone the host came from how the reply before had left it, and then this reply was right
  pub record Follows (first : LeftState D) (earlier : List (TraceEntry D)) (e : TraceEntry D) : Type 0 where
    pub came : ComesOn keeps honest faults (left_by first earlier) e.at
    pub led : IsLedThere honest e.at
    pub right : IsRight keeps honest faults (owned_in earlier) e

  -- each reply was, the first having found the host as it began
  abbrev pub AllFollow : LeftState D → List (TraceEntry D) → Type 0
  AllFollow first [] = Unit {0}
  AllFollow first (e ∷ earlier) = Follows first earlier e × AllFollow first earlier

  -- it began as a new host, and all its replies follow
  pub record IsTrace (t : Trace D) : Type 0 where
    pub frames : ℕ
    pub slots : ℕ
    pub tax : Tax
    pub new : IsNewHost t.first.host frames slots tax
    pub all : AllFollow t.first t.entries

  -- This was asked and replied: the trace has one entry more, which follows; and where a tenant asked, what isn't its own is as it
  -- was.
  pub record Replies (t : Trace D) (who : Principal) (question : Question) (reply : DeskReply) (t2 : Trace D) : Type 0 where
    pub at : LeftState D
    pub left : LeftState D
    pub entered : t2 ≡ with_entry (entry who question reply at left) t
    pub follows : Follows t.first t.entries (entry who question reply at left)
    pub own : KeepsOthersOf (owned_in t.entries) who at.host left.host
