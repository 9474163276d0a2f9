-- What a host answers where an instance is to be admitted.
use Rattle.std.specs.Prelude.{◌≡◌, ℕ, Option, Some, None, Result, Ok, Err}
use Rattle.slab.specs.Slab.{Slab, get, HasRoomFor}
use Rattle.wh_space_model.specs.declared.plain.InstId.{InstId}
use Rattle.wh_space_model.specs.Parts.{Space}
use Rattle.wh_space_model.specs.Places.{Enters}
use Rattle.wh_host_model.specs.Host.Worlds.{World}
use Rattle.wh_host_model.specs.Owners.{Params, AdmitFault}
use Rattle.wh_host_model.specs.Host.Happens.{AdmitAnswer, admit_ok, admit_refused, admit_out_of_memory, IsAdmit}
use Rattle.wh_admit.specs.declared.error.AdmitError.{AdmitError}
use Rattle.wh_admit.specs.declared.outcome.Admitted.{Admitted}
use Rattle.wh_admit.specs.AdmitErrors.{fault_of}
use Rattle.wh_imports.specs.LinkedState.{LinkedState}
use Rattle.wh_instance.specs.Beginning.{BeginsTenant}
use Rattle.wh_space.specs.Arrivals.{claimed}
use Rattle.wh_space.specs.declared.occupant_entry.Promise.{Promise}
use Rattle.wh_host.specs.declared.parts.InstanceEntry.{InstanceEntry}
use Rattle.wh_host.specs.declared.parts.ModuleRef.{ModuleRef}
use Rattle.wh_host.specs.Hosting.{HostState, IsHost}

-- it is the instance of this number, of this module, with what is admitted, and base and salt
pub record BeginsEntry (l : LinkedState) (a : Admitted) (i : ℕ) (of_module : ModuleRef) (words : ℕ × ℕ) (x : InstanceEntry)
    : Type 0 where
  pub number : x.number ≡ Some i
  pub of : x.of ≡ of_module.number
  pub module_place : x.module_place ≡ of_module.place
  pub given : x.given
      ≡ record { shares = a.shares; min = a.min; max = a.max; fuel = a.fuel; base = words.0; salt = words.1 }
  pub limit : x.page_limit ≡ a.begun.page_limit
  pub copied : x.copied ≡ 0
  pub begins : BeginsTenant l a.begun a.fuel x.tenant

-- the memory has it at the next place, where there is room for it
pub record EntersNext (rs : Slab InstanceEntry) (s : Space) (p : Promise) (size place : ℕ) (rs2 : Slab InstanceEntry) (s2 : Space)
    : Type 0 where
  pub vacant : get rs place ≡ None
  pub next : rs2.vacant_key ≡ place
  pub slots : rs2.slots ≡ rs.slots
  pub room : HasRoomFor rs2 1
  pub enters : Enters s place (claimed p) size s2

-- a fault of the admission, or out of memory
abbrev pub fault_answer : Option AdmitFault → AdmitAnswer
fault_answer (Some fault) = admit_refused fault
fault_answer None = admit_out_of_memory

abbrev pub IsAdmitAnswer : Result InstId AdmitError → AdmitAnswer → Type 0
IsAdmitAnswer (Ok id) answer = answer ≡ admit_ok id
IsAdmitAnswer (Err e) answer = answer ≡ fault_answer (fault_of e)

-- for whatever host it stands, this is answered so, and leaves a host for which it stands then
abbrev pub AnswersAdmit : HostState → ℕ → Params → Result InstId AdmitError → HostState → Type 0
AnswersAdmit h k p result h2 =
    (w : World) → IsHost h w
    → (answer : AdmitAnswer) × (w2 : World) × IsAdmitAnswer result answer × IsAdmit w k p answer w2 × IsHost h2 w2
