-- The language of scripts: what a line asks for, the texts of replies, and the answers to a script.
pub mod Lines
pub mod Hex
pub mod Words
pub mod Commands
pub mod Texts
pub mod Settings
pub mod ScriptState
pub mod Drains
pub mod Receiving
pub mod Answers
pub mod Failing
pub mod WorkedScripts
pub mod AnswerLaws
pub mod Served
pub use Rattle.wh_script_model.specs.Lines.{onto_first, lines_of, is_skipped, longest_line, is_name_byte, IsName, IsWord, Place, in_module, in_func}
pub use Rattle.wh_script_model.specs.Hex.{IsDigit, numeral, lower, upper, IsPair, IsHex}
pub use Rattle.wh_script_model.specs.Words.{words_of, without_minus, AreDigits, IsNumber, IsCount, IsBits}
pub use Rattle.wh_script_model.specs.Commands.{Command, keep, load, admit, invoke, drain, refuel, cancel, retry, scan, report, release, verb}
pub use Rattle.wh_script_model.specs.Commands.{AreParams, Follow, AsksCommand}
pub use Rattle.wh_script_model.specs.Texts.{Refusal, broken, invalid, unlinked, no_link_memory, modules_full, no_room, call, start, Caller}
pub use Rattle.wh_script_model.specs.Texts.{CallStatus, done, trapped, wants_fuel, wants_frame, queued, cancelled, released, dead, refused, Reply}
pub use Rattle.wh_script_model.specs.Texts.{error, module_ok, module_refused, admit_ok, admit_refused, refuel_ok, refuel_refused, cancel_ok}
pub use Rattle.wh_script_model.specs.Texts.{cancel_refused, retry_ok, retry_refused, scan_ok, release_ok, release_refused, call_is, place_text}
pub use Rattle.wh_script_model.specs.Texts.{refusal_text, caller_text, charges_text, status_text, low_digit, hex_text, output_text, ok_text}
pub use Rattle.wh_script_model.specs.Texts.{refused_text, reply_text, frames_text, slots_text, shared_text, Row, column, row_weight, rho_text}
pub use Rattle.wh_script_model.specs.Texts.{row_text}
pub use Rattle.wh_script_model.specs.Settings.{PageHashing, by_fnv64, by_constant, default_settings}
pub use Rattle.wh_script_model.specs.ScriptState.{NamedModule, NamedInstance, InvokeOutcome, call_rejected, call_accepted, Invoked, empty_script}
pub use Rattle.wh_script_model.specs.ScriptState.{HasModule, NoModule, HasInstance, LacksInstance, with_instance, with_invoked, live_sum}
pub use Rattle.wh_script_model.specs.ScriptState.{with_first_open, open_number, open_behind, start_failed, ended_so, cancel_first, SomeCallIsOpen}
pub use Rattle.wh_script_model.specs.ScriptState.{MayUseFuel, SomeCallMayGo}
pub use Rattle.wh_script_model.specs.Drains.{ComesTo, had_ended, goes_on, AreAtRest, all_ended, used_up, RunsAlone, is_gone, has_run, signed_result}
pub use Rattle.wh_script_model.specs.Drains.{returned_value, open_status, status_by, call_status, PrintsLine, as_before, anew, PrintsStart, has_none}
pub use Rattle.wh_script_model.specs.Drains.{has_one, PrintsCall, is_refused, is_taken, PrintStarts, PrintCalls, DrainRule, DrainsBy}
pub use Rattle.wh_script_model.specs.Receiving.{RejectsModule, is_broken, is_invalid, is_unlinked, is_full, OutOfMemoryForModule}
pub use Rattle.wh_script_model.specs.Receiving.{decoder_out_of_memory, validator_out_of_memory, linker_out_of_memory, host_out_of_memory}
pub use Rattle.wh_script_model.specs.Receiving.{ReceivesModule, module_is_kept, module_isnt_kept, module_out_of_memory, MeetsLimit, MeetsNoLimit}
pub use Rattle.wh_script_model.specs.Receiving.{IsFirstLimit, first_outcome, new_instance, ReceivesInstance, is_admitted, isnt_admitted}
pub use Rattle.wh_script_model.specs.Receiving.{admission_out_of_memory, MeetsBar, MeetsNoBar, IsFirstBar, ReceivesCall, instance_is_gone}
pub use Rattle.wh_script_model.specs.Receiving.{isnt_invoked, is_invoked, call_out_of_memory}
pub use Rattle.wh_script_model.specs.Answers.{Files, no_files, NamesModule, BringsBytes, IsForInstance, with_fuel, IsObeyed, module_name_is_taken}
pub use Rattle.wh_script_model.specs.Answers.{no_file, module_comes, no_such_module, instance_name_is_taken, instance_comes, no_such_instance}
pub use Rattle.wh_script_model.specs.Answers.{is_drained, is_scanned, is_reported, is_refueled, no_one_to_refuel, no_call_to_refuel, is_cancelled}
pub use Rattle.wh_script_model.specs.Answers.{no_one_to_cancel, no_call_to_cancel, is_retried, no_one_to_retry, no_fault_to_retry, is_released}
pub use Rattle.wh_script_model.specs.Answers.{no_one_to_release, IsRead, AnswersLine, skipped, invoked, obeyed, too_long, no_command}
pub use Rattle.wh_script_model.specs.Answers.{line_out_of_memory, AnswersLines, AnswersScript, replies_text}
pub use Rattle.wh_script_model.specs.Failing.{NeedsBytes, for_a_piece, for_a_step, LosesNothing, RestsAmid, rests_alone, meets_fault, RunsAmid}
pub use Rattle.wh_script_model.specs.Failing.{gone_still, stands_still, runs_on, AreMixed, none_left, one_own, one_other, ZipAmid, DrainsAmid}
pub use Rattle.wh_script_model.specs.Failing.{DrainsAmidFaults}
pub use Rattle.wh_script_model.specs.WorkedScripts.{one_function, seven, round_and_round, only_module, some_params, IsObeyedHere, IsCalled}
pub use Rattle.wh_script_model.specs.WorkedScripts.{SevenIsAnswered, SevenIsPrinted, LoopIsAnswered, RefuelIsRefused}
pub use Rattle.wh_script_model.specs.AnswerLaws.{HasBegun, RunsOnce, DrainsOnce, LinesBegin}
pub use Rattle.wh_script_model.specs.Served.{IsTenantOf, GoesNoFurther, ServedAsAlone}
