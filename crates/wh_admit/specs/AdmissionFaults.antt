-- Which fault an admission meets, whatever the host is for which its module and its room stand.
use Rattle.std.specs.Prelude.{ℕ, Option, Some, None}
use Rattle.wh_model.specs.Format.Syntax.{Module}
use Rattle.wh_host_model.specs.Host.Worlds.{World}
use Rattle.wh_host_model.specs.Owners.{Params, AdmitFault}
use Rattle.wh_host_model.specs.Host.Admission.{MeetsFault, IsFirstMet}
use Rattle.wh_admit.specs.declared.room.Room.{Room}
use Rattle.wh_admit.specs.declared.error.AdmitError.{AdmitError}
use Rattle.wh_admit.specs.AdmitErrors.{fault_of}
use Rattle.wh_admit.specs.RepresentedHost.{RepresentsHost}

-- it meets none
abbrev pub MeetsNone : Option Module → Room → Params → Type 0
MeetsNone m room p =
    (w : World) (k : ℕ) → RepresentsHost w k m room → (fault : AdmitFault) → ¬ (MeetsFault w k p fault)

-- this is the first that it meets
abbrev pub MeetsFirst : Option Module → Room → Params → AdmitFault → Type 0
MeetsFirst m room p fault = (w : World) (k : ℕ) → RepresentsHost w k m room → IsFirstMet w k p fault

-- why it is refused: for its first fault, or, where it has none, out of memory
abbrev pub RefusesFor : Option Module → Room → Params → Option AdmitFault → Type 0
RefusesFor m room p (Some fault) = MeetsFirst m room p fault
RefusesFor m room p None = MeetsNone m room p

abbrev pub RefusesAdmission : Option Module → Room → Params → AdmitError → Type 0
RefusesAdmission m room p e = RefusesFor m room p (fault_of e)
