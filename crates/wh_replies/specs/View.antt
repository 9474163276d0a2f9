-- Replies as the definitions see them.
use Rattle.std.specs.Prelude.{ℕ, List, ◌++◌, codes, Some, None}
use Rattle.wh_script_model.specs.Lines as script
use Rattle.wh_script_model.specs.Lines.{in_module, in_func}
use Rattle.wh_script_model.specs.Texts as texts
use Rattle.wh_script_model.specs.Texts.{broken, invalid, unlinked, no_link_memory, modules_full, no_room, call, start, done, trapped, wants_fuel, wants_frame, queued, cancelled, released, dead, refused, error, module_ok, module_refused, admit_ok, admit_refused, refuel_ok, refuel_refused, cancel_ok, cancel_refused, retry_ok, retry_refused, scan_ok, release_refused, call_is, caller_text, status_text}
use Rattle.wh_replies.specs.declared.call.Caller.{Caller}
use Rattle.wh_replies.specs.declared.call.Caller.TheVariants.{Call as ByNumber, Start}
use Rattle.wh_replies.specs.declared.call.Status.{Status}
use Rattle.wh_replies.specs.declared.call.Status.TheVariants.{Value, Done, Trap, Fuel, Frame, Queued, Cancelled, Released, Dead, Refused}
use Rattle.wh_replies.specs.declared.call.Call.{Call as CallLine}
use Rattle.wh_replies.specs.declared.reply.FaultPlace.{FaultPlace}
use Rattle.wh_replies.specs.declared.reply.FaultPlace.TheVariants.{Module, Instr}
use Rattle.wh_replies.specs.declared.reply.ModuleRefusal.{ModuleRefusal}
use Rattle.wh_replies.specs.declared.reply.ModuleRefusal.TheVariants.{Broken, Invalid, Unlinked, NoLinkMemory, ModulesFull, NoRoom}
use Rattle.wh_replies.specs.declared.reply.Reply.{Reply}
use Rattle.wh_replies.specs.declared.reply.Reply.TheVariants.{Error, ModuleOk, ModuleRefused, AdmitOk, AdmitRefused, RefuelOk, RefuelRefused, CancelOk, CancelRefused, RetryOk, RetryRefused, ScanOk, ReleaseRefused, Call}

abbrev pub caller_of : Caller → texts.Caller
caller_of (ByNumber number) = call number
caller_of (Start inst) = start inst.now

abbrev pub status_of : Status → texts.CallStatus
status_of (Value value charges) = done (Some value) charges
status_of (Done charges) = done None charges
status_of (Trap trap charges) = trapped trap charges
status_of (Fuel charges) = wants_fuel charges
status_of (Frame fault charges) = wants_frame fault charges
status_of Queued = queued
status_of (Cancelled charges) = cancelled charges
status_of (Released charges) = released charges
status_of Dead = dead
status_of (Refused fault) = refused fault

-- the line of a call without its newline
abbrev pub call_words : CallLine → List ℕ
call_words line = caller_text (caller_of line.who) ++ codes " " ++ status_text (status_of line.is)

abbrev pub reply_place : FaultPlace → script.Place
reply_place Module = in_module
reply_place (Instr func instr) = in_func func instr

abbrev pub why_of : ModuleRefusal → texts.Refusal
why_of (Broken kind offset) = broken kind offset
why_of (Invalid kind place) = invalid kind (reply_place place)
why_of (Unlinked kind place) = unlinked kind place
why_of NoLinkMemory = no_link_memory
why_of ModulesFull = modules_full
why_of NoRoom = no_room

abbrev pub reply_of : Reply → texts.Reply
reply_of (Error cause line) = error cause line
reply_of (ModuleOk name) = module_ok name.now
reply_of (ModuleRefused name why) = module_refused name.now (why_of why)
reply_of (AdmitOk inst number) = admit_ok inst.now number
reply_of (AdmitRefused inst fault) = admit_refused inst.now fault
reply_of (RefuelOk inst) = refuel_ok inst.now
reply_of (RefuelRefused inst fault) = refuel_refused inst.now fault
reply_of (CancelOk inst) = cancel_ok inst.now
reply_of (CancelRefused inst fault) = cancel_refused inst.now fault
reply_of (RetryOk inst) = retry_ok inst.now
reply_of (RetryRefused inst fault) = retry_refused inst.now fault
reply_of ScanOk = scan_ok
reply_of (ReleaseRefused inst fault) = release_refused inst.now fault
reply_of (Call line) = call_is (caller_of line.who) (status_of line.is)
