-- What a script says of an answer of the host.
use Rattle.std.specs.Prelude.{◌≡◌, ℕ, List, Option, Some, None}
use Rattle.wh_model.specs.declared.ValidKind.{ValidKind}
use Rattle.wh_model.specs.Format.Numbering.{fault_number, valid_number, import_number}
use Rattle.wh_script_model.specs.Lines.{Place}
use Rattle.wh_host_model.specs.Owners.{IsValidFault, rank}
use Rattle.wh_host_model.specs.Host.Admission.{LoadFault, broken, invalid, unlinked, modules_full, LoadOutOfMemory, decoder_out_of_memory, validator_out_of_memory, linker_out_of_memory, host_out_of_memory}
use Rattle.wh_host_model.specs.Owners.{admit_rank}
use Rattle.wh_host_model.specs.Host.Happens.{LoadAnswer, load_ok, load_refused, load_out_of_memory, AdmitAnswer, admit_ok, admit_refused, admit_out_of_memory, InvokeAnswer, invoke_ok, invoke_no_instance, invoke_refused, invoke_out_of_memory, CallAnswer, call_ok, call_no_instance, call_no_call}
use Rattle.wh_script_model.specs.Texts as texts
use Rattle.wh_script_model.specs.Texts.{Refusal, no_link_memory, no_room, Reply, module_ok, module_refused, refuel_ok, refuel_refused, cancel_ok, cancel_refused, retry_ok, retry_refused, release_ok, release_refused}
use Rattle.wh_script_model.specs.ScriptState.{InvokeOutcome, call_rejected, call_accepted}

-- why bytes aren't kept; which fault of the validator is named, and where, is left open
abbrev pub SaysWhy : LoadFault → Refusal → Type 0
SaysWhy (broken kind offset) why = why ≡ texts.broken (fault_number kind) offset
SaysWhy invalid why =
    (kind : ValidKind) × (place : Place) × IsValidFault kind × (why ≡ texts.invalid (valid_number kind) place)
SaysWhy (unlinked fault place) why = why ≡ texts.unlinked (import_number fault) place
SaysWhy modules_full why = why ≡ texts.modules_full

-- and where memory ran out
abbrev pub SaysOutOfMemory : LoadOutOfMemory → Refusal → Type 0
SaysOutOfMemory decoder_out_of_memory why = (offset : ℕ) × (why ≡ texts.broken 13 offset)
SaysOutOfMemory validator_out_of_memory why = (place : Place) × (why ≡ texts.invalid 11 place)
SaysOutOfMemory linker_out_of_memory why = why ≡ no_link_memory
SaysOutOfMemory host_out_of_memory why = why ≡ no_room

abbrev pub SaysModule : List ℕ → LoadAnswer → Reply → Type 0
SaysModule name (load_ok number) reply = reply ≡ module_ok name
SaysModule name (load_refused fault) reply = (why : Refusal) × SaysWhy fault why × (reply ≡ module_refused name why)
SaysModule name (load_out_of_memory want) reply = (why : Refusal) × SaysOutOfMemory want why × (reply ≡ module_refused name why)

abbrev pub admit_reply : List ℕ → AdmitAnswer → Reply
admit_reply name (admit_ok id) = texts.admit_ok name id.number
admit_reply name (admit_refused fault) = texts.admit_refused name (admit_rank fault)
admit_reply name admit_out_of_memory = texts.admit_refused name 9

-- what came of a call that is asked of the instance of this number
abbrev pub invoke_outcome : ℕ → InvokeAnswer → InvokeOutcome
invoke_outcome i (invoke_ok at) = call_accepted i at
invoke_outcome i invoke_no_instance = call_rejected 1
invoke_outcome i (invoke_refused fault) = call_rejected (rank fault)
invoke_outcome i invoke_out_of_memory = call_rejected 7

abbrev pub refuel_reply : List ℕ → CallAnswer → Reply
refuel_reply name call_ok = refuel_ok name
refuel_reply name call_no_instance = refuel_refused name 1
refuel_reply name call_no_call = refuel_refused name 8

abbrev pub cancel_reply : List ℕ → CallAnswer → Reply
cancel_reply name call_ok = cancel_ok name
cancel_reply name call_no_instance = cancel_refused name 1
cancel_reply name call_no_call = cancel_refused name 8

abbrev pub retry_reply : List ℕ → CallAnswer → Reply
retry_reply name call_ok = retry_ok name
retry_reply name call_no_instance = retry_refused name 1
retry_reply name call_no_call = retry_refused name 8

abbrev pub release_reply : List ℕ → Option (List ℕ) → Reply
release_reply name (Some output) = release_ok name output
release_reply name None = release_refused name 1
