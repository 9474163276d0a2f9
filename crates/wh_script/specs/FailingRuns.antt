-- What a run of a script reads and writes while calls of the swap device fail, as `Runs` has it where none does.
use Rattle.std.specs.Prelude.{ℕ, List, Result, Option}
use Rattle.wh_script_model.specs.Settings.{Settings}
use Rattle.wh_script_model.specs.Answers.{Files}
use Rattle.wh_script_model.specs.Failing.{DrainsAmidFaults}
use Rattle.wh_script.specs.declared.fault.ScriptFault.{ScriptFault}
use Rattle.wh_script.specs.Runs.{ScriptRuns}

-- calls of the device had these faults, the last one first
abbrev pub ScriptRunsAmid : Settings → Files → (faults : List ℕ) → Option (List ℕ) → Option (List ℕ) → Option (List ℕ)
    → Option (List ℕ) → Result Unit ScriptFault → Type 0
ScriptRunsAmid = ScriptRuns DrainsAmidFaults
