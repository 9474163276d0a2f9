-- Where a call can go on, the script has one that may.
use Rattle.std.proofs.Common.{◌≡◌, ◌⊎◌, inl, inr, Result, Ok, Err, IfErr, sym, subst, map}
use Rattle.wh_script_laws.proofs.Opening.{going_is_known}
use Rattle.wh_engine.specs.declared.fault.RunFault.{RunFault}
use Rattle.wh_engine.specs.declared.fault.RunFault.TheVariants.{Memory, Transcript}
use Rattle.wh_script_model.specs.Settings.{Settings}
use Rattle.wh_script_model.specs.ScriptState.{ScriptState}
use Rattle.wh_script_model.specs.{SomeCallMayGo}
use Rattle.wh_engine.specs.Draining.{SomeGoes, StopsOnlyOpen, StopsPrinting, WasOpen}
use Rattle.wh_engine.specs.RepresentedScript.{ScriptHostState, RepresentsScript}
use Rattle.wh_engine.specs.declared.parts.NamedInstance.{NamedInstance}

opens : {D : Type 0} (e : ScriptHostState D) → SomeGoes e.host.host → (settings : Settings) (m : ScriptState) → RepresentsScript settings e m → SomeCallMayGo m
opens e goes settings m s =
    let known = s.stands in
    let reached = known.is.1 in
    let going = goes.1 known.world known.is.0 in
    going_is_known reached.frames reached.slots reached.tax reached.events known.world reached.happen settings m (map (λ (x : NamedInstance). x.id.place) s.instances) goes.0.number going.0 known.knows going.1.0 going.2

pub goes_open : {D : Type 0} (e : ScriptHostState D) → SomeGoes e.host.host → WasOpen e
goes_open e goes = (goes, opens e goes)

-- what isn't printed, behind a run that was begun where a call could go on, or did nothing
pub printing_open : {D : Type 0} {A : Type 0} (e e2 : ScriptHostState D) (r : Result A RunFault) → (e2 ≡ e) ⊎ WasOpen e → IfErr r (StopsPrinting e2.host.host) → IfErr r (StopsOnlyOpen e)
printing_open e e2 (Ok x) begins stops = tt
printing_open e e2 (Err Memory) begins stops = tt
printing_open e e2 (Err Transcript) (inl same) goes = goes_open e (subst (λ x. SomeGoes x.host.host) same goes)
printing_open e e2 (Err Transcript) (inr was) goes = was

-- where nothing had happened before
pub err_before : {D : Type 0} {A : Type 0} (e e2 : ScriptHostState D) (r : Result A RunFault) → e2 ≡ e → IfErr r (StopsOnlyOpen e2) → IfErr r (StopsOnlyOpen e)
err_before e e2 r same is = subst (λ x. IfErr r (StopsOnlyOpen x)) same is

-- memory alone stops it
pub memory_open : {D : Type 0} {A : Type 0} (e : ScriptHostState D) (r : Result A RunFault) → IfErr r (λ fault. fault ≡ Memory) → IfErr r (StopsOnlyOpen e)
memory_open e (Ok x) is = tt
memory_open e (Err fault) is = subst (StopsOnlyOpen e) (sym is) tt
