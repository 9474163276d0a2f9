-- The memory on which all instances lie.
pub mod SwapFaults
pub mod Frames
pub mod Hash
pub mod Pages
pub mod Tax
pub mod States
pub mod Parts
pub mod Errands
pub mod Sound
pub mod Ready
pub mod Charges
pub mod Claims
pub mod Moves
pub mod Offers
pub mod Tickets
pub mod Breaks
pub mod Stores
pub mod Storing
pub mod Places
pub mod Forks
pub mod Provide
pub mod Scanning
pub mod Laws
pub mod Sight
pub mod Kept
pub mod Chain
pub use Rattle.wh_space_model.specs.SwapFaults.{swap_number}
pub use Rattle.wh_space_model.specs.Frames.{tally, one_if, Pool, IsTaken, HasDistinctFree, TakesFreeFrame}
pub use Rattle.wh_space_model.specs.Hash.{fnv_step, fnv64}
unfoldable pub use Rattle.wh_space_model.specs.Pages.{zero_page}
pub use Rattle.wh_space_model.specs.Tax.{weight, RhoLess, RhoEqual}
pub use Rattle.wh_space_model.specs.States.{Backing, page_bytes, contents, joined, at, page_at, put, owns, shares, lies_in, comes_from, resident}
pub use Rattle.wh_space_model.specs.States.{swapped, untouched, leaving, count, count_of}
pub use Rattle.wh_space_model.specs.Parts.{Slots, Occupant, Pins, Space, backing, all_bytes, view, frame_bytes, occupant_at, Claimed, claim_of, claim}
pub use Rattle.wh_space_model.specs.Parts.{Promised, promised_to, promise_at, need_of, wants, has_number, found_at, sharers, pages_of, kept_by, kept}
pub use Rattle.wh_space_model.specs.Parts.{pinned_by, of_occupant, minima, spreads, numbers_below, empty_space}
pub use Rattle.wh_space_model.specs.Errands.{tickets, fetches_into, is_ticket, ticket_of, Errand, to_write, to_read, errand_for, Pass, pass_of}
pub use Rattle.wh_space_model.specs.Sound.{holders, Names, HasHash, FramesAreSound, IsUsed, LeavesBy, SlotsAreSound, HasTable, OccupantsAreSound}
pub use Rattle.wh_space_model.specs.Sound.{PinsAreSound, IsAdmissible, IsSound}
pub use Rattle.wh_space_model.specs.Ready.{below, pages_from, pages_of_need, among, copies, frames_for, frames_to_write, frames_in_all, may_take}
pub use Rattle.wh_space_model.specs.Ready.{IsAtHand}
pub use Rattle.wh_space_model.specs.Charges.{stands_on, standing_at, before_in, charge_in, charged_in, touched_on, touchers_in, active_in, IsOnFrame}
pub use Rattle.wh_space_model.specs.Charges.{IsFirstOn, occupant_number, IsOn, IsTouched, IsChargedFor, IsChargedPage, standing, standing_before}
pub use Rattle.wh_space_model.specs.Charges.{frame_charge, charged_of, touchers, active_of, IsOnTouched}
pub use Rattle.wh_space_model.specs.Claims.{stays, CanLeave, CanBeTaken, weight_of, MayPay, HasLess, IsEarlier, IsPayer, IsFirstIdle, IsTakenFrom}
pub use Rattle.wh_space_model.specs.Claims.{IsGiven, IsBeside, CanShed, IsShed, NobodyPays, NobodyIsShed, MustLeave, NoneMustLeave}
pub use Rattle.wh_space_model.specs.Moves.{one_fewer, departed, frame_of, evicted, Evicts, pinned, fetched, Fetches, residents, unpinned, has_pins}
pub use Rattle.wh_space_model.specs.Moves.{unpinned_of, Earmarks, IsFirstSwapped}
pub use Rattle.wh_space_model.specs.Offers.{IsPinned, IsOffered, MayBeListed, FindsNone, FindsHint, FindsShared, IsHinted, gives_up, hinted}
pub use Rattle.wh_space_model.specs.Offers.{joined_to, paired_with, MayNotMerge, OffersAlone, listed_under, listed_for, gone_from, moved_to}
pub use Rattle.wh_space_model.specs.Offers.{OffersUnlisted, OffersOf}
pub use Rattle.wh_space_model.specs.Tickets.{WaitsForBytes, Reserves, with_slot, without_slot, leaving_by, with_leaving, as_leaving, departing}
pub use Rattle.wh_space_model.specs.Tickets.{BeginsEvict, with_held, IsEvicting, IsWritten, stays_occupant, settled, as_before, without}
pub use Rattle.wh_space_model.specs.Tickets.{unpinned_page, sent_off, not_sent, CommitsEvict, sent_for, BeginsFetch, with_free, has_come, not_come}
pub use Rattle.wh_space_model.specs.Tickets.{CommitsFetch}
pub use Rattle.wh_space_model.specs.Breaks.{voided, fewer_sharers, IsTakenOf, TakesFrame, with_fewer, LeavesSharers, GetsFrame, standing_alone}
pub use Rattle.wh_space_model.specs.Breaks.{BreaksEach}
pub use Rattle.wh_space_model.specs.Stores.{touching, Touches, Fills, Overwrites, Grew, Epochs, awaiting, stood, ended}
pub use Rattle.wh_space_model.specs.Storing.{BreaksSoundly, StoresSoundly, IsOverwritten, StoresAreRight, SomeStore}
pub use Rattle.wh_space_model.specs.Places.{IsFreePlace, with_row, newcomer, HasRoomFor, Enters, released_use, released_mark, freed_by, Exits}
pub use Rattle.wh_space_model.specs.Forks.{one_more, LendsPage, Lends, LendsFirst, Copies, LendsSoundly, LendsAlone, IsCopied, CopiesAreRight}
pub use Rattle.wh_space_model.specs.Forks.{CopiesAreFree, CopiesLeavePayer, CopiesLeaveReady, IsAway}
pub use Rattle.wh_space_model.specs.Provide.{IsServing, HasPinned, HasPages, IsServed, LacksFree, Move, comes, goes, leaves, MovesOn, IsTrueTo}
pub use Rattle.wh_space_model.specs.Provide.{Serves, ServesTruly, Provides, GivesUp, far, FailsToProvide, ProvidesTruly, FailsTruly}
pub use Rattle.wh_space_model.specs.Provide.{OthersKeepMinimum, IsOnTheWay}
pub use Rattle.wh_space_model.specs.Scanning.{IsContent, IsDistinct, MadeUnder, IsUnlisted, IsHashOf, Scans, IsFullPass}
pub use Rattle.wh_space_model.specs.Laws.{ReadyIsDecided, NoBytesAreReady, FrameUse, is_free, is_owned, is_shared, is_earmarked, is_awaited, HasUse}
pub use Rattle.wh_space_model.specs.Laws.{OneUseOfAFrame, SomePageCanBeTaken, SomeSlotIsVacant, EvictionKeepsAll, FetchKeepsSound, FetchKeepsBytes}
pub use Rattle.wh_space_model.specs.Laws.{MovesAreFew, IsProvided, ProvisionIsRight, BeginsEvictSoundly, BeginsEvictQuietly, BeginsFetchQuietly}
pub use Rattle.wh_space_model.specs.Laws.{CommitsEvictQuietly, CommitsFetchQuietly, OnePageMustLeave, OneChargedPage, ChargesAddUp}
pub use Rattle.wh_space_model.specs.Sight.{OffersQuietly, WritesQuietly, KeepsBytes, StepsQuietly, GrowsAlone, GrowsByZeros, EntersAtZeros}
pub use Rattle.wh_space_model.specs.Sight.{EntersAlone, ExitsAlone, HasNoPins, PinsEnd, GoneIsSkipped, WrittenIsVoid, ReleasedIsVoid, NothingNeedless}
pub use Rattle.wh_space_model.specs.Kept.{TouchesSoundly, EpochsSoundly, WritesSoundly, WaitsSoundly, EndsSoundly, CommitsEvictSoundly, OffersSoundly}
pub use Rattle.wh_space_model.specs.Kept.{BeginsFetchSoundly, CommitsFetchSoundly, GrowsSoundly, EntersSoundly, ExitsSoundly}
pub use Rattle.wh_space_model.specs.Chain.{MayWaitFor, BefallsMemory, loads, stores, new_epoch, stands, ends, offered, begins_evict, written}
pub use Rattle.wh_space_model.specs.Chain.{commits_evict, begins_fetch, commits_fetch, provides, fails, grows, enters, exits, Follows, FailsSoundly}
pub use Rattle.wh_space_model.specs.Chain.{EmptyIsSound, StaysSound, ScansSoundly, PassesFully, ContentsAreListed, PassesListAll, OnlyLendsUnlist}
