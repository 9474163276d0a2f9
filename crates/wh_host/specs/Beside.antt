-- How an instance runs against an overlay, and what its turns are answered once all is written back.
use Rattle.std.specs.Prelude.{◌≡◌, ◌⊎◌, ℕ, ◌+◌, ◌≤◌, min, List, [], ◌∷◌, length}
use Rattle.wh_host_model.specs.declared.plain.TurnEnd.{TurnEnd}
use Rattle.wh_host_model.specs.Host.Worlds.{Tenant}
use Rattle.wh_host_model.specs.Owners.{Entry}
use Rattle.wh_space_model.specs.Parts.{Space}
use Rattle.wh_space_model.specs.Ready.{Ready}
use Rattle.wh_imports.specs.LinkedState.{LinkedState}
use Rattle.wh_machine.specs.CallStates.{Setting, setting_of}
use Rattle.wh_instance.specs.Advancing.{AdvancesTenant, StaysBut}
use Rattle.wh_instance.specs.Seen.{IsAtTerm}
use Rattle.wh_instance.specs.Tenancy.{HostInstanceState}
use Rattle.wh_instance.specs.declared.computing.TurnOutcome.{TurnOutcome}
use Rattle.wh_instance.specs.declared.computing.TurnOutcome.TheVariants as came
use Rattle.wh_overlay.specs.LaidPages.{OverlayPagesState}
use Rattle.wh_overlay.specs.LaidBack.{LooksSame}
use Rattle.wh_overlay.specs.Over.{IsOverSame, IsReadyOver, IsWholeOver, OverlayState, sees}
use Rattle.wh_space.specs.Steps.{page_limit}
use Rattle.wh_host.specs.Lying.{LiesAt}
use Rattle.wh_host.specs.Lent.{TurnsTo}
use Rattle.wh_host.specs.Series.{IsWholeOrCut}

-- the memory of the instance at a place, with this written in the overlay
abbrev pub memory_with : Space → ℕ → ℕ → OverlayPagesState → OverlayState
memory_with s place limit u = record { lower = s; place = place; page_limit = limit; upper = u }

-- the setting of its calls
abbrev pub beside_setting : LinkedState → ℕ → Space → ℕ → Setting OverlayState
beside_setting l limit s place = setting_of l sees IsReadyOver IsOverSame (min limit (page_limit s place))

-- Over this memory the present call of an instance gets so far in a turn of q charges, with nothing written in the overlay before
-- it; then this is written there.
pub record RunsBeside (l : LinkedState) (limit q : ℕ) (s : Space) (place : ℕ) (x : HostInstanceState) (t : Tenant)
    (answer : TurnOutcome) (pieces charges : ℕ) (x1 : HostInstanceState) (u : OverlayPagesState) : Type 0 where
  pub computes : IsAtTerm t
  pub first : OverlayPagesState
  pub no_pages : first.pages ≡ []
  pub not_grown : first.grown ≡ 0
  pub none_taken : first.taken ≡ 0
  pub no_reads : first.reads ≡ []
  pub lent : u.lent ≡ first.lent
  pub whole : IsWholeOver s place u
  pub stays : StaysBut x x1
  pub advances : (e : Entry) (es : List Entry) → t.open_calls ≡ e ∷ es
      → AdvancesTenant (beside_setting l limit s place) q (memory_with s place limit first) t e es answer pieces charges x1
      (memory_with s place limit u)

-- The outcome of a turn that took n of q charges, in the memory in which all is written back, and of how many charges it was:
-- where the bytes are ready there that weren't in the overlay, of those that it took.
abbrev pub CameThere : Space → ℕ → TurnOutcome → ℕ → ℕ → TurnOutcome → ℕ → Type 0
CameThere s place (came.Frame need) n q answer q2 =
    (Ready s place need × (answer ≡ came.Again) × (q2 ≡ n))
    ⊎ ((¬ (Ready s place need)) × (answer ≡ came.Frame need) × (q2 ≡ q))
CameThere s place (came.Returned result) n q answer q2 = (answer ≡ came.Returned result) × (q2 ≡ q)
CameThere s place (came.Trapped trap) n q answer q2 = (answer ≡ came.Trapped trap) × (q2 ≡ q)
CameThere s place came.Fuel n q answer q2 = (answer ≡ came.Fuel) × (q2 ≡ q)
CameThere s place came.Again n q answer q2 = (answer ≡ came.Again) × (q2 ≡ q)

-- An instance that is in this memory so has run over one that is as good for it, and the frames that are lent to it are free.
pub record HasRun (l : LinkedState) (limit q : ℕ) (s0 s : Space) (place : ℕ) (x : HostInstanceState) (t : Tenant)
    (answer : TurnOutcome) (pieces charges : ℕ) (x1 : HostInstanceState) (u : OverlayPagesState) : Type 0 where
  pub runs : RunsBeside l limit q s0 place x t answer pieces charges x1 u
  pub looks : LooksSame place s0 s
  pub frames : u.lent ≤ length s.pool.free
  pub lies : LiesAt l limit x s place t

-- A turn of q charges, or one that was cut short, which took n, is answered so, and leaves this memory, in which the instance is.
abbrev pub EndsTurn : LinkedState → ℕ → ℕ → ℕ → Space → Tenant → TurnEnd → ℕ → HostInstanceState → Space → Type 0
EndsTurn l limit q n s t end place x2 s2 =
    (few : ℕ) × IsWholeOrCut q few n end × TurnsTo l limit few s t end n place x2 s2

-- the room with nothing in it
abbrev pub with_nothing : OverlayPagesState → OverlayPagesState
with_nothing u = record u { pages = []; reads = []; grown = 0; room = u.room + length u.pages; taken = 0 }

-- a call that came to this can go on, once all is written back
abbrev pub CanGoOnFrom : TurnOutcome → Type 0
CanGoOnFrom (came.Frame need) = Unit {0}
CanGoOnFrom came.Again = Unit {0}
CanGoOnFrom (came.Returned result) = ⊥
CanGoOnFrom (came.Trapped trap) = ⊥
CanGoOnFrom came.Fuel = ⊥
