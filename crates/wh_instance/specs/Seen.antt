-- What a host sees of an instance.
use Rattle.std.specs.Prelude.{◌≡◌, ◌≢◌, ℕ, Bool, true, false, List, [], ◌∷◌, length, Option, Some, None}
use Rattle.std.specs.Bool.{MatchBool}
use Rattle.wh_model.specs.Execution.Configuration.{Term}
use Rattle.wh_host_model.specs.Owners.{Entry}
use Rattle.wh_host_model.specs.Host.Happens.{AwaitsFrame}
use Rattle.wh_host_model.specs.Host.Suspensions.{CanGoOn}
use Rattle.wh_host_model.specs.Host.Worlds.{Tenant, computing}
use Rattle.wh_instance.specs.declared.stages.Suspension.{Suspension}
use Rattle.wh_instance.specs.declared.stages.Suspension.TheVariants as stop
use Rattle.wh_instance.specs.Tenancy.{HostInstanceState}
use Rattle.wh_instance.specs.OwnerRequests.{OfAnyTenant}

-- so it is answered whether a turn can make it progress
abbrev pub CanTurn : HostInstanceState → Bool → Type 0
CanTurn x can = OfAnyTenant x (λ l limit bytes t. MatchBool can (CanGoOn t) (¬ (CanGoOn t)))

-- and whether no call of it is open
abbrev pub IsIdle : HostInstanceState → Bool → Type 0
IsIdle x idle = OfAnyTenant x (λ l limit bytes t. MatchBool idle (t.open_calls ≡ []) (t.open_calls ≢ []))

-- a call waits for a frame
abbrev pub waits_at_frame : Option Suspension → Bool
waits_at_frame (Some stop.Frame) = true
waits_at_frame other = false

-- and whether its present call does
abbrev pub WaitsForFrame : HostInstanceState → Bool → Type 0
WaitsForFrame x waits = OfAnyTenant x (λ l limit bytes t. MatchBool waits (AwaitsFrame t) (¬ (AwaitsFrame t)))

-- `call` calls of it have ended
abbrev pub IsPresent : HostInstanceState → ℕ → Type 0
IsPresent x call = OfAnyTenant x (λ l limit bytes t. length t.ended ≡ call)

-- these bytes are the output of its store
abbrev pub HasOutput : HostInstanceState → List ℕ → Type 0
HasOutput x output = OfAnyTenant x (λ l limit bytes t. output ≡ t.rest.output)

-- its present call is at a term, and waits for nothing
pub record IsAtTerm (t : Tenant) : Type 0 where
  pub entry : Entry
  pub others : List Entry
  pub term : Term
  pub calls : t.open_calls ≡ entry ∷ others
  pub doing : t.doing ≡ computing term
  pub waits : t.waiting_for ≡ None

-- and whether it does
abbrev pub IsComputingNow : HostInstanceState → Bool → Type 0
IsComputingNow x computes = OfAnyTenant x (λ l limit bytes t. MatchBool computes (IsAtTerm t) (¬ (IsAtTerm t)))
