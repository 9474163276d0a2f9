-- Who is blamed for the end of a script.
use Rattle.std.specs.Prelude.{◌≡◌, Bool, true, Result, Ok, Err, ⊤}
use Rattle.wh_script.specs.declared.fault.ScriptFault.{ScriptFault}
use Rattle.wh_script.specs.declared.fault.ScriptFault.TheVariants.{Script, Output, Memory, Transcript}

-- It ends for its reader only where a read has failed, and for its writer only where a call of that has.
abbrev pub BlamesFailed : (reader_failed writer_failed : Bool) → Result Unit ScriptFault → Type 0
BlamesFailed reader_failed writer_failed (Ok done) = ⊤
BlamesFailed reader_failed writer_failed (Err Script) = reader_failed ≡ true
BlamesFailed reader_failed writer_failed (Err Output) = writer_failed ≡ true
BlamesFailed reader_failed writer_failed (Err Memory) = ⊤
BlamesFailed reader_failed writer_failed (Err Transcript) = ⊤
