-- What the program reads and writes.
use Rattle.std.specs.Prelude.{◌≡◌, ◌≢◌, ℕ, zero, suc, Bool, true, List, [], Option, Some, None, is_some, codes, Result, Ok, Err}
use Rattle.std.specs.Io.KnownBytes.{Keeps}
use Rattle.clap.specs.Words.{Text}
use Rattle.wh_script_model.specs.Answers.{Files}
use Rattle.wh_script_model.specs.Settings.{Settings, default_settings}
use Rattle.wh_settings.specs.Spelled.{SpellsSettings}
use Rattle.wh_engine.specs.Draining.{HasServed, HoldsAmid}
use Rattle.wh_script.specs.declared.fault.ScriptFault.{ScriptFault}
use Rattle.wh_script.specs.declared.fault.ScriptFault.TheVariants.{Memory, Output}
use Rattle.wh_script.specs.declared.session.SessionConfig.{SessionConfig}
use Rattle.wh_script.specs.RunBy.{IsRunBy}
use Rattle.wh_swap.specs.declared.stream.PageSwap.{PageSwap}
use Rattle.wh_swap.specs.Written.{HasReadRight, page_faults}
use Rattle.wh_script.specs.FailingRuns.{ScriptRunsAmid}
use Rattle.wasmhost_program.specs.declared.fault.ProgramFault.{ProgramFault}
use Rattle.wasmhost_program.specs.declared.fault.ProgramFault.TheVariants.{Settings as NoSettings, Swap, Script}
use Rattle.wasmhost_program.specs.Accepted.{CountsWorkers, line_faults, given_in}

-- the device over a file, if there is one, has given what was written to it, and no call of it failed
abbrev pub HasServedSo : {P : Type 0} → Option (PageSwap P) → Type 0
HasServedSo None = Unit {0}
HasServedSo (Some device) = HasServed (HasReadRight device) [] (page_faults device)

-- what holds of the faults that calls of it had, where it has given what was written to it
abbrev pub HoldsOver : {P : Type 0} → Option (PageSwap P) → (holds : List ℕ → Type 0) → Type 0
HoldsOver None holds = holds []
HoldsOver (Some device) holds = HoldsAmid (HasReadRight device) [] (page_faults device) holds

-- the bytes that the file of a path gives, where they are known
abbrev pub KnownFiles : Type 0
KnownFiles = (path : Text) → Option (List ℕ)

-- the settings that the bytes of this file spell; and without a file those by default
abbrev pub ReadsSettings : KnownFiles → Option Text → Settings → Type 0
ReadsSettings known None settings = settings ≡ default_settings
ReadsSettings known (Some path) settings =
    (bytes : List ℕ) × Keeps (known path) (Some bytes) × SpellsSettings bytes settings

-- why settings can't be had: they can't be read or aren't any, or memory ran out
abbrev pub IsFaultOfSettings : ProgramFault → Type 0
IsFaultOfSettings NoSettings = Unit {0}
IsFaultOfSettings Swap = ⊥
IsFaultOfSettings (Script fault) = fault ≡ Memory

-- why a device over a file can't be had
abbrev pub IsFaultOfDevice : ProgramFault → Type 0
IsFaultOfDevice NoSettings = ⊥
IsFaultOfDevice Swap = Unit {0}
IsFaultOfDevice (Script fault) = fault ≡ Memory

-- how the program ends where a script does so
abbrev pub outcome_of : Result Unit ScriptFault → Result Unit ProgramFault
outcome_of (Ok done) = Ok done
outcome_of (Err fault) = Err (Script fault)

-- what is said of a run of a script: `Runs`, or `ScriptRunsAmid` of some faults
abbrev pub RunClaim : Type 1
RunClaim = Settings → Files → (script left before after : Option (List ℕ)) → Result Unit ScriptFault → Type 0

abbrev pub runs_amid : List ℕ → RunClaim
runs_amid faults = λ settings files. ScriptRunsAmid settings files faults

-- A script was run: the one of this file, and nothing of the input was read; or the one that the input gave. What was
-- read and written of it is said by how it ended.
abbrev pub RunsScript : RunClaim → KnownFiles → Files → Settings → Option Text → (input left before after : Option (List ℕ))
    → Result Unit ScriptFault → Type 0
RunsScript claim known files settings None input left before after ended =
    claim settings files input left before after ended
RunsScript claim known files settings (Some path) input left before after ended =
    (left ≡ input) × (rest : Option (List ℕ)) × claim settings files (known path) rest before after ended

-- what became of a script, with these settings: it was run; or the file for swap that they name can't be used, and
-- nothing was read and written
pub data RunsWith (claim : RunClaim) (known : KnownFiles) (files : Files) (settings : Settings) (script : Option Text)
    (input left before after : Option (List ℕ)) : Result Unit ProgramFault → Type 0 where
  has_run : (ended : Result Unit ScriptFault) → RunsScript claim known files settings script input left before after ended
      → RunsWith claim known files settings script input left before after (outcome_of ended)
  has_no_swap : is_some settings.swap ≡ true → left ≡ input → after ≡ before
      → RunsWith claim known files settings script input left before after (Err Swap)

-- what became of what these words ask for: a script was run with the settings that they name; or the settings can't be
-- read, or memory ran out before, and nothing was read and written
pub data RunsAsked (claim : RunClaim) (known : KnownFiles) (files : Files) (settings script : Option Text)
    (input left before after : Option (List ℕ)) : Result Unit ProgramFault → Type 0 where
  has_settings : {ended : Result Unit ProgramFault} (these : Settings) → ReadsSettings known settings these
      → RunsWith claim known files these script input left before after ended
      → RunsAsked claim known files settings script input left before after ended
  has_no_settings : is_some settings ≡ true → left ≡ input → after ≡ before
      → RunsAsked claim known files settings script input left before after (Err NoSettings)
  wants_memory : left ≡ input → after ≡ before → RunsAsked claim known files settings script input left before after (Err (Script Memory))

-- so it ended, where the words are accepted; where memory ran out to read them, they may be or not
pub data EndsSo (claim : RunClaim) (known : KnownFiles) (files : Files) (words : List Text) (input left before after : Option (List ℕ))
    : Result Unit ProgramFault → Type 0 where
  is_accepted : {ended : Result Unit ProgramFault} → line_faults words ≡ []
      → RunsAsked claim known files (given_in words (codes "settings")) (given_in words (codes "SCRIPT")) input left before after
      ended
      → EndsSo claim known files words input left before after ended
  is_unread : left ≡ input → after ≡ before → EndsSo claim known files words input left before after (Err (Script Memory))

-- By the status. At 0 the script that the words name was answered whole, with the settings that they name. At 1 the
-- program stopped: what was written is a beginning, or nothing. At 2 the words aren't accepted, and nothing was read and
-- written.
abbrev pub EndsWith : RunClaim → KnownFiles → Files → (words : List Text) → (input left before after : Option (List ℕ))
    → (status : ℕ) → Type 0
EndsWith claim known files words input left before after zero = EndsSo claim known files words input left before after (Ok tt)
EndsWith claim known files words input left before after (suc zero) =
    (fault : ProgramFault) × EndsSo claim known files words input left before after (Err fault)
EndsWith claim known files words input left before after (suc (suc n)) =
    (line_faults words ≢ []) × (left ≡ input) × (after ≡ before)

-- ---- how calls are run

-- A script was begun: its calls were run as the settings say, by `workers` workers, and a device over a file has come back where
-- the settings name one, and none else. Or it wasn't begun, and the program hasn't ended well.
abbrev pub RunsSo : Settings → (workers : ℕ) → Result Unit ProgramFault → (over_file : Bool) → Option SessionConfig → Type 0
RunsSo settings workers ended over_file None = ended ≢ Ok tt
RunsSo settings workers ended over_file (Some config) =
    IsRunBy settings workers config × (over_file ≡ is_some settings.swap)

-- the same of the settings of this file
abbrev pub RunsSoBy : KnownFiles → Option Text → (workers : ℕ) → Result Unit ProgramFault → (over_file : Bool) → Option SessionConfig
    → Type 0
RunsSoBy known path workers ended over_file None = ended ≢ Ok tt
RunsSoBy known path workers ended over_file (Some config) =
    (settings : Settings) × ReadsSettings known path settings × IsRunBy settings workers config
    × (over_file ≡ is_some settings.swap)

-- and of the settings and the number of workers that words ask for, by the status
abbrev pub RunsAsWords : KnownFiles → (words : List Text) → (status : ℕ) → (over_file : Bool) → Option SessionConfig → Type 0
RunsAsWords known words status over_file None = status ≢ 0
RunsAsWords known words status over_file (Some config) =
    (settings : Settings) × (workers : ℕ) × ReadsSettings known (given_in words (codes "settings")) settings
    × CountsWorkers (given_in words (codes "workers")) workers × IsRunBy settings workers config
    × (over_file ≡ is_some settings.swap)

-- the program stops for its output only where a call of that has failed
abbrev pub StopsForOutput : (failed : Bool) → Result Unit ProgramFault → Type 0
StopsForOutput failed ended = ended ≡ Err (Script Output) → failed ≡ true
