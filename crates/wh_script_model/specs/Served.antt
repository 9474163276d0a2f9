-- What a host has of an instance, and what a script knows of it: where no call can go on, each has been run alone.
use Rattle.std.specs.Prelude.{◌≡◌, ℕ, ◌⊎◌, false, [], Some}
use Rattle.std.specs.List.{AllZip}
use Rattle.wh_host_model.specs.Host.Worlds.{for_fuel, Tenant, Loaded, World, journal, journal_calls, loaded_of, tenant}
use Rattle.wh_host_model.specs.Host.Laws.{AfterEvents}
use Rattle.wh_script_model.specs.ScriptState.{NamedInstance}
use Rattle.wh_script_model.specs.Drains.{ComesTo, RunsAlone}

-- the instance of a host is that of a script: of one module, given the same, and the same calls were asked of it, which
-- have come so far
pub record IsTenantOf (w : World) (t : Tenant) (g : NamedInstance) : Type 0 where
  pub loaded : Loaded
  pub is_loaded : loaded_of w t.of ≡ Some loaded
  pub of_one : g.m ≡ loaded.m
  pub params : g.params ≡ t.params
  pub inst : g.inst ≡ t.inst
  pub is_live : g.is_released ≡ false
  pub calls : AllZip ComesTo g.calls (journal_calls (journal t))

-- it has no open call, or its present one waits for fuel
abbrev pub GoesNoFurther : Tenant → Type 0
GoesNoFurther t = (t.open_calls ≡ []) ⊎ (t.waiting_for ≡ Some for_fuel)

-- Whatever has happened to a host, and in whatever order turns came: where an instance is served, its journal is what
-- its calls come to alone.
abbrev pub ServedAsAlone : Type 0
ServedAsAlone =
    AfterEvents (λ w. (i : ℕ) (t : Tenant) (g : NamedInstance) → tenant w i ≡ Some t → GoesNoFurther t → IsTenantOf w t g
    → RunsAlone g (record g { calls = journal_calls (journal t) }))
