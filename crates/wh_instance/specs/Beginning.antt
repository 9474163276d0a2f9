-- What an instance begins with, as the host's definitions have it.
use Rattle.std.specs.Prelude.{◌≡◌, ℕ, ◌*◌, Bool, true, false, cond, List, [], ◌∷◌, Option, Some, None, replicate}
use Rattle.wh_model.specs.Execution.Store.{Instance}
use Rattle.wh_model.specs.Execution.Instance.{Parameters, fragments}
use Rattle.wh_host_model.specs.Host.Worlds.{Rest, Doing, Tenant}
use Rattle.wh_host_model.specs.Owners.{Entry}
use Rattle.wh_host_model.specs.Host.Admission.{StartsAs, rest_of}
use Rattle.wh_syntax.specs.View.{view_module}
use Rattle.wh_imports.specs.LinkedState.{LinkedState}
use Rattle.wh_initial.specs.declared.outcome.Instantiated.{Instantiated}
use Rattle.wh_initial.specs.Begins.{Instantiates, first_store}
use Rattle.wh_journal.specs.Calls.{JournalCallState, JournalState}
use Rattle.wh_journal.specs.declared.calls.CallEnd.{CallEnd}
use Rattle.wh_journal.specs.declared.calls.CallEnd.TheVariants as end
use Rattle.wh_instance.specs.Tenancy.{HostInstanceState, IsTenant}

-- ---- the first journal

-- a start has nothing to do where it has neither pieces nor a function
abbrev pub has_nothing : Bool → Option ℕ → Bool
has_nothing has_pieces (Some x) = false
has_nothing true None = false
has_nothing false None = true

abbrev pub start_call : Option ℕ → ℕ → CallEnd → JournalCallState
start_call start fuel how =
    record { func = start; given = []; words = []; fuel = fuel; pieces = 0; charges = 0; end = how }

-- it has the start alone, which has ended already, or is open
abbrev pub journal_at_first : Option ℕ → ℕ → Bool → JournalState
journal_at_first start fuel over =
    cond over (record { ended = start_call start fuel (end.Returned None) ∷ []; open_calls = [] })
    (record { ended = []; open_calls = start_call start fuel end.Open ∷ [] })

-- ---- the instance

-- it is this instance with this rest of its store; its present call is there, and these calls have ended, and are open
pub record IsBegun (t : Tenant) (inst : Instance) (r : Rest) (d : Doing) (ended open_calls : List Entry) : Type 0 where
  pub inst_is : t.inst ≡ inst
  pub rest : t.rest ≡ r
  pub doing : t.doing ≡ d
  pub ended_are : t.ended ≡ ended
  pub open_are : t.open_calls ≡ open_calls
  pub waiting_for : t.waiting_for ≡ None
  pub dead : t.dead ≡ false

-- Whatever it was given, its start begins as the definition of an admission says; and with a memory of zeros the code's instance
-- represents one that has begun so.
abbrev pub BeginsTenant : LinkedState → Instantiated → ℕ → HostInstanceState → Type 0
BeginsTenant l begun fuel x =
    (p : Parameters) (i : Instantiates (view_module l.valid.decoded) p begun)
    → (d : Doing) × (ended : List Entry) × (open_calls : List Entry)
    × StartsAs i.inst (first_store (view_module l.valid.decoded) p i.globals i.elements) (fragments i.segments)
    (view_module l.valid.decoded).start fuel d ended open_calls
    × ((t : Tenant)
    → IsBegun t i.inst (rest_of (first_store (view_module l.valid.decoded) p i.globals i.elements)) d ended open_calls
    → IsTenant l begun.page_limit x (replicate (begun.pages * 65536) 0) t)
