-- Typing of what runs (7.5). The laws of soundness are said in these words.
pub mod StoreTyping
pub mod TermTyping
pub use Rattle.wh_model.specs.Soundness.StoreTyping.{IsOfType, AreOfTypes, IsByte, FuncInstType, InstanceType, EntryType, MemoryType, StoreType}
pub use Rattle.wh_model.specs.Soundness.StoreTyping.{StoreExtends, PieceType, HasBytes}
pub use Rattle.wh_model.specs.Soundness.TermTyping.{frame_context, IsInside, TermType, ConfigType, IsAlone, ThreadType}
