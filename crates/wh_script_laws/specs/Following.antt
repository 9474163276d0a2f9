-- What a script knows of the host that runs its calls.
use Rattle.std.specs.Prelude.{◌≡◌, ◌⊎◌, ℕ, ◌+◌, ◌-◌, true, List, ◌∷◌, length, Option, Some, None}
use Rattle.std.specs.List.{AllZip, Contains}
use Rattle.wh_model.specs.Execution.Replay.{Call}
use Rattle.wh_host_model.specs.Owners.{Entry}
use Rattle.wh_space_model.specs.SwapFaults.{swap_number}
use Rattle.wh_space_model.specs.Errands.{tickets}
use Rattle.wh_space_model.specs.Parts.{Space, minima, spreads}
use Rattle.wh_host_model.specs.Host.Worlds.{Suspension, for_device, Tenant, Loaded, World, journal, journal_calls}
use Rattle.wh_script_model.specs.Settings.{Settings}
use Rattle.wh_script_model.specs.ScriptState.{NamedModule, NamedInstance, ScriptState, live_sum, MayUseFuel}
use Rattle.wh_script_model.specs.Drains.{ComesTo}
use Rattle.wh_script_model.specs.Failing.{LosesNothing, ZipAmid}
use Rattle.wh_script_model.specs.Served.{IsTenantOf}

-- how the calls that a script knows and those of a journal go together: they are the same, or those of the journal have
-- come further, and none has gone back
abbrev pub AreSame : List Call → List Call → Type 0
AreSame known calls = known ≡ calls

abbrev pub ComesFurther : Call → Call → Type 0
ComesFurther c c2 = ComesTo c c2 × LosesNothing c c2

abbrev pub ComeFurther : List Call → List Call → Type 0
ComeFurther = AllZip ComesFurther

-- the number of the fault of a device for which a call stands, if it does
abbrev pub device_fault : Option Suspension → Option ℕ
device_fault (Some (for_device fault)) = Some (swap_number fault)
device_fault other = None

-- it is blocked on the same fault as the script knows, or on none
abbrev pub IsAtSameFault : NamedInstance → Tenant → Type 0
IsAtSameFault g t = g.at_fault ≡ device_fault t.waiting_for

-- where its present call waits for nothing, it has fuel left, or took no charge
abbrev pub IsFueled : Tenant → Type 0
IsFueled t = (e : Entry) (es : List Entry) → t.open_calls ≡ e ∷ es → t.waiting_for ≡ None → MayUseFuel e.call

-- it stands as the script knows
abbrev pub StandsSame : NamedInstance → Tenant → Type 0
StandsSame g t = IsAtSameFault g t × IsFueled t

-- it was blocked on a fault, and is blocked on it where it was
abbrev pub StandsYet : NamedInstance → Tenant → Type 0
StandsYet g t =
    (fault : ℕ) × (g.at_fault ≡ Some fault) × (device_fault t.waiting_for ≡ Some fault)
    × (g.calls ≡ journal_calls (journal t))

-- it was blocked on none, and is blocked on one of these, or on none
abbrev pub MayStand : (faults : List ℕ) → NamedInstance → Tenant → Type 0
MayStand faults g t =
    (g.at_fault ≡ None) × ((fault : ℕ) → device_fault t.waiting_for ≡ Some fault → Contains faults fault)

-- while calls of the device had these faults for it
abbrev pub StandsAmid : (faults : List ℕ) → NamedInstance → Tenant → Type 0
StandsAmid faults g t = MayStand faults g t ⊎ StandsYet g t

-- An instance of a script is that of the host, whose present call stands as the script knows; or it was released.
pub data IsFollowed (come : List Call → List Call → Type 0) (stands : NamedInstance → Tenant → Type 0) (w : World)
    (g : NamedInstance) : Option Tenant → Type 0 where
  is_there : {t : Tenant} → IsTenantOf w t g → come g.calls (journal_calls (journal t)) → stands g t
      → IsFollowed come stands w g (Some t)
  is_gone : g.is_released ≡ true → IsFollowed come stands w g None

-- an instance that is there has this place
abbrev pub IsPlaced : ℕ → Option Tenant → Type 0
IsPlaced place None = Unit {0}
IsPlaced place (Some t) = t.place ≡ place

-- the module of a number is there, and is that of the script
abbrev pub IsModuleKept : NamedModule → Option Loaded → Type 0
IsModuleKept named None = ⊥
IsModuleKept named (Some loaded) = named.m ≡ loaded.m

-- The host has the modules of the script and its instances, each by its number, at these places; it has as many frames
-- and slots as the settings say, and their tax on idle pages, and promised what the instances were given; and no page is
-- on its way.
pub record FollowsScript (follows : World → List NamedInstance → List (Option Tenant) → Type 0)
    (settings : Settings) (w : World) (m : ScriptState) (places : List ℕ) : Type 0 where
  pub frames : length w.space.pool.frames ≡ settings.frames
  pub slots : length w.space.slots.uses ≡ settings.slots
  pub tax_num : w.space.tax.num ≡ settings.num
  pub tax_den : w.space.tax.den ≡ settings.den
  pub none_out : tickets w.space ≡ 0
  pub minima : minima w.space ≡ live_sum (λ p. p.min) m.instances
  pub spreads : spreads w.space ≡ live_sum (λ p. (p.max - p.min) + 1) m.instances
  pub modules : AllZip IsModuleKept m.modules w.modules
  pub instances : follows w m.instances w.tenants
  pub placed : AllZip IsPlaced places w.tenants

-- and each instance's calls are as the script knows them
abbrev pub FollowsSame : World → List NamedInstance → List (Option Tenant) → Type 0
FollowsSame w = AllZip (IsFollowed AreSame StandsSame w)

abbrev pub Knows : Settings → World → ScriptState → List ℕ → Type 0
Knows = FollowsScript FollowsSame

-- or have come further, while calls of the device had these faults, each of them for one instance at most
abbrev pub IsRunAmid : World → (own : List ℕ) → NamedInstance → Option Tenant → Type 0
IsRunAmid w own = IsFollowed ComeFurther (StandsAmid own) w

abbrev pub AreRunAmid : (faults : List ℕ) → World → List NamedInstance → List (Option Tenant) → Type 0
AreRunAmid faults w = ZipAmid (IsRunAmid w) faults

abbrev pub RunsKnown : (faults : List ℕ) → Settings → World → ScriptState → List ℕ → Type 0
RunsKnown faults = FollowsScript (AreRunAmid faults)

-- no page begins or ends its way, there are as many frames and slots as before, and the tax is what it was
pub record StaysWhole (s s2 : Space) : Type 0 where
  pub frames : length s2.pool.frames ≡ length s.pool.frames
  pub slots : length s2.slots.uses ≡ length s.slots.uses
  pub tax : s2.tax ≡ s.tax
  pub none_out : tickets s2 ≡ tickets s
