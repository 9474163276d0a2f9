-- What the laws of these definitions say. They are proved, and nothing to believe.
pub mod ReductionLaws
pub mod FocusLaws
pub mod ReplayLaws
pub mod LinkingLaws
pub mod SoundnessLaws
pub mod Worked
pub use Rattle.wh_model.specs.Laws.ReductionLaws.{OneReduction, SmallCharges, instructions, term_size, config_size, UnchargedEnd, Settles, OneAfter}
pub use Rattle.wh_model.specs.Laws.ReductionLaws.{AfterJoins, AfterSplits, OneNeed}
pub use Rattle.wh_model.specs.Laws.FocusLaws.{Agrees, AfterAgrees, ChargedSettles, Starts}
pub use Rattle.wh_model.specs.Laws.ReplayLaws.{OneBeginning, OneEnd, Alike, OneStanding, HistoryBefore, HistorySplits, JournalGrows, StartIsCalled}
pub use Rattle.wh_model.specs.Laws.ReplayLaws.{WithinFuel, FuelSuffices, ArgumentsFit, RunningGoesOn, OthersWait, DeadDoNothing, ReturnedHasWritten}
pub use Rattle.wh_model.specs.Laws.ReplayLaws.{PiecesInOrder, CancelledStays, IsFunction, called_with, DoneReplays, TrappedReplays, FuelReplays}
pub use Rattle.wh_model.specs.Laws.ReplayLaws.{InOnePage, FragmentsInPages, LaterAtMultiples, CutAtMultiples, CutOfThree, FragmentsWithin}
pub use Rattle.wh_model.specs.Laws.ReplayLaws.{FragmentsWrite, BeginningWrites}
pub use Rattle.wh_model.specs.Laws.LinkingLaws.{OneFirstFault, LinksWithoutFault, SomeBeginning}
pub use Rattle.wh_model.specs.Laws.SoundnessLaws.{IsFinal, GoesFurther, Preservation, ThreadPreservation, Progress, NeverStuck, StoresExtend}
pub use Rattle.wh_model.specs.Laws.SoundnessLaws.{BeginsTyped, SpelledHasBytes, HasFuncType, HasArguments, HasTypedEnd, IsFirstOpen, StandsAs}
pub use Rattle.wh_model.specs.Laws.SoundnessLaws.{ReplaySoundness, NoCallSticks, AcceptedSoundness}
pub use Rattle.wh_model.specs.Laws.Worked.{invoked, Done, Trapped, StandsForFuel}
