-- The host of many instances.
pub mod Spaces
pub mod Worlds
pub mod Turns
pub mod CallAnswers
pub mod OwnerCalls
pub mod Admission
pub mod Forking
pub mod Events
pub mod Happens
pub mod Journals
pub mod Suspensions
pub mod Laws
pub mod TakenSteps
pub mod Misreading
pub mod Stuck
pub mod Bridges
pub mod Apart
pub mod Progress
pub use Rattle.wh_host_model.specs.Host.Spaces.{KeepsPromise, LeftAlone, OthersLeftAlone, OthersKeepPlaces, AllLeftAlone, StepsAlone, WaitsAlone}
pub use Rattle.wh_host_model.specs.Host.Spaces.{PinsEndAfter, ArrivesSeeing, Arrives, Departs}
pub use Rattle.wh_host_model.specs.Host.Worlds.{Rest, Doing, resting, has_left, computing, Suspension, for_fuel, for_frame, for_device, journal}
pub use Rattle.wh_host_model.specs.Host.Worlds.{Tenant, Loaded, World, promised, own_calls, journal_calls, store_with, standing_with, store_in}
pub use Rattle.wh_host_model.specs.Host.Worlds.{standing_in, loaded_of, tenant, with_tenant, empty_world}
pub use Rattle.wh_host_model.specs.Host.Turns.{Opens, by_invocation, as_it_was, Computes, HaveTypes, Upshot, to_end, out_of_fuel, to_wait, to_go_on}
pub use Rattle.wh_host_model.specs.Host.Turns.{Proceeds, returns, traps, writes_all, uses_fuel, waits, waits_to_write, has_had_its_turn}
pub use Rattle.wh_host_model.specs.Host.CallAnswers.{gone_further, ended_by, gone_on, Faces, dies, Closes, faces_next, is_dead, at_frame}
pub use Rattle.wh_host_model.specs.Host.CallAnswers.{KeepsNoFault, ProceedsIn, Turn, is_idle, has_ended, has_no_fuel, has_no_frame, can_go_on}
pub use Rattle.wh_host_model.specs.Host.CallAnswers.{keeps_its_fault}
pub use Rattle.wh_host_model.specs.Host.OwnerCalls.{open_count, Meets, IsFirst, TakesCall, more_fuel, WaitsAfter, Refuels, has_more, Cancels, Retries}
pub use Rattle.wh_host_model.specs.Host.OwnerCalls.{may_try}
pub use Rattle.wh_host_model.specs.Host.Admission.{LoadFault, broken, invalid, unlinked, modules_full, module_count, RefusesLoad, LoadOutOfMemory}
pub use Rattle.wh_host_model.specs.Host.Admission.{decoder_out_of_memory, validator_out_of_memory, linker_out_of_memory, host_out_of_memory}
pub use Rattle.wh_host_model.specs.Host.Admission.{MayRunOut, LoadsModule, IsUnused, LetsModuleGo, live_count, MeetsFault, IsFirstMet, StartsAs}
pub use Rattle.wh_host_model.specs.Host.Admission.{writes, runs, rest_of, LetsIn, LetsGo}
pub use Rattle.wh_host_model.specs.Host.Forking.{MeetsForkFault, IsFirstForkFault, Forks}
pub use Rattle.wh_host_model.specs.Host.Events.{PageId, Event, turn, load, admit, invoke, refuel, cancel, retry, release, fork, unload, offer}
pub use Rattle.wh_host_model.specs.Host.Events.{evict_begin, evict_commit, fetch_begin, fetch_commit, provide, epoch}
pub use Rattle.wh_host_model.specs.Host.Happens.{IsLive, NoInstance, IsTurn, of_none, of_one, LoadAnswer, load_ok, load_refused, load_out_of_memory}
pub use Rattle.wh_host_model.specs.Host.Happens.{IsLoad, is_loaded, isnt_loaded, no_memory_to_load, AdmitAnswer, admit_ok, admit_refused}
pub use Rattle.wh_host_model.specs.Host.Happens.{admit_out_of_memory, IsAdmit, is_admitted, isnt_admitted, no_memory_to_admit, InvokeAnswer}
pub use Rattle.wh_host_model.specs.Host.Happens.{invoke_ok, invoke_no_instance, invoke_refused, invoke_out_of_memory, IsInvoke, is_invoked}
pub use Rattle.wh_host_model.specs.Host.Happens.{has_no_instance, isnt_invoked, no_memory_to_invoke, CallAnswer, call_ok, call_no_instance}
pub use Rattle.wh_host_model.specs.Host.Happens.{call_no_call, IsRefuel, is_refueled, no_one_to_refuel, no_call_to_refuel, IsCancel, is_cancelled}
pub use Rattle.wh_host_model.specs.Host.Happens.{no_one_to_cancel, no_call_to_cancel, IsRetry, is_retried, no_one_to_retry, no_fault_to_retry}
pub use Rattle.wh_host_model.specs.Host.Happens.{IsRelease, is_released, no_one_to_release, ForkAnswer, fork_ok, fork_no_instance, fork_refused}
pub use Rattle.wh_host_model.specs.Host.Happens.{fork_out_of_memory, IsFork, is_forked, no_one_to_fork, isnt_forked, no_memory_to_fork, UnloadAnswer}
pub use Rattle.wh_host_model.specs.Host.Happens.{unload_ok, unload_no_module, unload_in_use, IsUnload, is_unloaded, no_module_to_unload, is_in_use}
pub use Rattle.wh_host_model.specs.Host.Happens.{AwaitsFrame, AwaitsFrameFor, moved, MovesPages, has_failed, OnlyMoves, AllHappen}
pub use Rattle.wh_host_model.specs.Host.Journals.{IsAsked, IsStart, ReturnsTyped, HasEnded, IsEnded, IsOpenCall, IsDeadCall, InOrder, is_starting}
pub use Rattle.wh_host_model.specs.Host.Journals.{has_started, has_died}
pub use Rattle.wh_host_model.specs.Host.Suspensions.{NextAsks, a_piece, a_step, WaitsDuly, FirstWaitsDuly, WaitsRightly, CanGoOn}
pub use Rattle.wh_host_model.specs.Host.Laws.{AfterEvents, MemoryIsSound, PlacesAreTenants, PlacesAreRight, KeepsPromises, PromisesAreKept}
pub use Rattle.wh_host_model.specs.Host.Laws.{KeepsModules, ModulesAreKept, EachHas, IsReplayed, InstancesReplay, ChargesAreWithin}
pub use Rattle.wh_host_model.specs.Host.Laws.{CopiedCallsHaveEnded, HasJournal, JournalsAreInOrder, SuspensionsAreRight, FrameIsLacking, AgainIsReady}
pub use Rattle.wh_host_model.specs.Host.Laws.{SameTurn, OneTurn}
pub use Rattle.wh_host_model.specs.Host.TakenSteps.{IsStepReady, piece_is_ready, charge_is_ready, HasGoneOn, ReadyStepsAreTaken}
pub use Rattle.wh_host_model.specs.Host.Misreading.{SeesAsMany, AllSeeAsMany, IsMisread, Step, by_event, by_misreading, Befalls, AllBefall}
pub use Rattle.wh_host_model.specs.Host.Misreading.{ComesAbout, HoldsAnyhow, MemoryStaysSound, PlacesStayRight, ModulesStayAccepted}
pub use Rattle.wh_host_model.specs.Host.Misreading.{JournalsStayInOrder, CopiedStayEnded, InputsStay, FramesAreAwaited}
pub use Rattle.wh_host_model.specs.Host.Stuck.{IsSoundlyRun, NoCallIsStuck}
pub use Rattle.wh_host_model.specs.Host.Bridges.{LoadsStep, StoresStep, GrowthSteps, WaitsWell, EndsWell, EpochsLeaveAll, OffersLeaveAll}
pub use Rattle.wh_host_model.specs.Host.Bridges.{EvictionsBegin, FetchesBegin, WritesLeaveAll, EvictionsEnd, FetchesEnd, ProvisionsLeaveAll}
pub use Rattle.wh_host_model.specs.Host.Bridges.{FailuresLeaveAll, FetchesSeeAsMany, ProvisionsSeeAsMany, FailuresSeeAsMany, EntrantsArrive}
pub use Rattle.wh_host_model.specs.Host.Bridges.{ExitsDepart, CopiesArrive}
pub use Rattle.wh_host_model.specs.Host.Apart.{asked, unanswered, call_asked, AreTreatedAlike, ComeToTheSame, NoBytesReachAnother}
pub use Rattle.wh_host_model.specs.Host.Progress.{EventsHappen, LoadsAreTaken, AdmissionsAreTaken, CallsAreTaken, ForksAreTaken, UnloadsAreTaken}
pub use Rattle.wh_host_model.specs.Host.Progress.{IdleTurnsHappen, FuelTurnsHappen, ReadyTurnsHappen}
