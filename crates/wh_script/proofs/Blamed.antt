-- Who is blamed for the end of a script.
use Rattle.std.proofs.Common.{◌≡◌, ◌⊎◌, inl, inr, Bool, true, List, ℕ, Option, Result, Ok, Err, OnErr, refl}
use Rattle.wh_engine.specs.declared.fault.RunFault.{RunFault}
use Rattle.wh_engine.specs.declared.fault.RunFault.TheVariants as run
use Rattle.wh_script.specs.declared.fault.ScriptFault.{ScriptFault}
use Rattle.wh_script.specs.declared.fault.ScriptFault.TheVariants.{Script, Output, Memory, Transcript}
use Rattle.wh_script.specs.Blame.{BlamesFailed}
use Rattle.wh_script.specs.Causes.{script_fault}
use Rattle.wh_script.specs.Runs.{Sent}

-- nobody is where calls don't run to their ends
pub run_fault_blames : (reader writer : Bool) (fault : RunFault) → BlamesFailed reader writer (Err (script_fault fault))
run_fault_blames reader writer run.Memory = tt
run_fault_blames reader writer run.Transcript = tt

pub read_blames : (reader writer : Bool) (fault : ScriptFault) → (fault ≡ Script) ⊎ (fault ≡ Memory) → (fault ≡ Script → reader ≡ true)
    → BlamesFailed reader writer (Err fault)
read_blames reader writer Script which blames = blames refl
read_blames reader writer Memory which blames = tt
read_blames reader writer Transcript which blames = tt
read_blames reader writer Output (inl is) blames = absurd (cc is)
read_blames reader writer Output (inr is) blames = absurd (cc is)

pub sent_blames : (reader writer : Bool) (old new : Option (List ℕ)) (r : Result Unit ScriptFault) (text : List ℕ) → Sent old new r text → OnErr r (writer ≡ true)
    → BlamesFailed reader writer r
sent_blames reader writer old new (Ok done) text sent blames = tt
sent_blames reader writer old new (Err Output) text sent blames = blames
sent_blames reader writer old new (Err Script) text sent blames = elim sent [ ]
sent_blames reader writer old new (Err Memory) text sent blames = elim sent [ ]
sent_blames reader writer old new (Err Transcript) text sent blames = elim sent [ ]
