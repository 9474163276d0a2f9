-- What a host answers where a module is to be kept.
use Rattle.std.specs.Prelude.{◌≡◌, ◌≢◌, ℕ, ◌⊎◌, ◌++◌, List, [], ◌∷◌, Option, Some, None, Result, Ok, Err}
use Rattle.wh_model.specs.declared.faults.FaultKind.TheVariants.{Memory as NoRoom}
use Rattle.wh_model.specs.declared.faults.ValidKind.TheVariants.{Memory as NoRoomToCheck}
use Rattle.wh_host_model.specs.Host.Worlds.{World}
use Rattle.wh_host_model.specs.Host.Admission.{broken, invalid, unlinked, modules_full, decoder_out_of_memory, validator_out_of_memory, linker_out_of_memory, host_out_of_memory}
use Rattle.wh_host_model.specs.Host.Happens.{LoadAnswer, load_ok, load_refused, load_out_of_memory, IsLoad}
use Rattle.wh_imports.specs.declared.error.LinkError.{LinkError}
use Rattle.wh_imports.specs.declared.error.LinkError.TheVariants.{NoItem, Memory as NoRoomToLink}
use Rattle.wh_load.specs.declared.error.LoadError.{LoadError}
use Rattle.wh_load.specs.declared.error.LoadError.TheVariants.{Decode, Valid, Link}
use Rattle.wh_imports.specs.LinkedState.{LinkedState}
use Rattle.wh_host.specs.declared.parts.LoadedModule.{LoadedModule}
use Rattle.wh_host.specs.declared.parts.ModuleId.{ModuleId}
use Rattle.wh_host.specs.declared.parts.ModuleRef.{ModuleRef}
use Rattle.wh_host.specs.declared.error.ModuleError.{ModuleError}
use Rattle.wh_host.specs.declared.error.ModuleError.TheVariants.{Bytes, ModulesFull, Memory}
use Rattle.wh_host.specs.Hosting.{HostState, IsHost, module_in}

-- a linked module of this number and its bytes have a place that was free, and are listed after the others
pub record KeepsModule (ms : List (Option LoadedModule)) (refs : List ModuleRef) (number : ℕ) (linked : LinkedState)
    (bytes : List ℕ) (ms2 : List (Option LoadedModule)) (refs2 : List ModuleRef) : Type 0 where
  pub kept : LoadedModule
  pub place : ℕ
  pub numbered : kept.number ≡ number
  pub is_linked : kept.linked ≡ linked
  pub bytes_are : kept.bytes.value.items ≡ bytes
  pub vacant : module_in ms place ≡ None
  pub lies : module_in ms2 place ≡ Some kept
  pub others : (other : ℕ) → other ≢ place → module_in ms2 other ≡ module_in ms other
  pub listed : refs2 ≡ refs ++ record { number = number; place = place } ∷ []

-- the linker's error is this answer
abbrev pub IsLinkAnswer : LinkError → LoadAnswer → Type 0
IsLinkAnswer (NoItem fault place) answer = answer ≡ load_refused (unlinked fault place)
IsLinkAnswer NoRoomToLink answer = answer ≡ load_out_of_memory linker_out_of_memory

-- so is what one of the stages says of bytes; each of them may want memory
abbrev pub IsBytesAnswer : LoadError → LoadAnswer → Type 0
IsBytesAnswer (Decode e) answer =
    ((e.kind ≢ NoRoom) × (answer ≡ load_refused (broken e.kind e.offset)))
    ⊎ ((e.kind ≡ NoRoom) × (answer ≡ load_out_of_memory decoder_out_of_memory))
IsBytesAnswer (Valid e) answer =
    ((e.kind ≢ NoRoomToCheck) × (answer ≡ load_refused invalid))
    ⊎ ((e.kind ≡ NoRoomToCheck) × (answer ≡ load_out_of_memory validator_out_of_memory))
IsBytesAnswer (Link e) answer = IsLinkAnswer e answer

abbrev pub IsLoadAnswer : Result ModuleId ModuleError → LoadAnswer → Type 0
IsLoadAnswer (Ok id) answer = answer ≡ load_ok id.number
IsLoadAnswer (Err (Bytes e)) answer = IsBytesAnswer e answer
IsLoadAnswer (Err ModulesFull) answer = answer ≡ load_refused modules_full
IsLoadAnswer (Err Memory) answer = answer ≡ load_out_of_memory host_out_of_memory

-- for whatever host it stands, this is answered so, and leaves a host for which it stands then
abbrev pub AnswersLoad : HostState → List ℕ → Result ModuleId ModuleError → HostState → Type 0
AnswersLoad h bytes result h2 =
    (w : World) → IsHost h w
    → (answer : LoadAnswer) × (w2 : World) × IsLoadAnswer result answer × IsLoad w bytes answer w2 × IsHost h2 w2
