-- How the calls of a script are run.
use Rattle.std.specs.Prelude.{◌≡◌, ℕ, Option, None, Some, Result, Err, is_some, true}
use Rattle.wh_script_model.specs.Settings.{Settings}
use Rattle.wh_settings.specs.View.{hashing_of}
use Rattle.wh_script.specs.declared.fault.ScriptFault.{ScriptFault}
use Rattle.wh_script.specs.declared.fault.ScriptFault.TheVariants.{Memory}
use Rattle.wh_script.specs.declared.session.SessionConfig.{SessionConfig}

-- as these settings say, and by this number of workers
pub record IsRunBy (settings : Settings) (workers : ℕ) (config : SessionConfig) : Type 0 where
  pub quantum : config.quantum ≡ settings.quantum
  pub hash : hashing_of config.hash ≡ settings.hash
  pub crew : config.workers.number ≡ workers

-- A script was begun: its calls were run so, and the device has come back; or memory ran out before.
abbrev pub RunsBy : {D : Type 0} → Settings → (workers : ℕ) → Result Unit ScriptFault → Option D → Option SessionConfig → Type 0
RunsBy settings workers ended device None = ended ≡ Err Memory
RunsBy settings workers ended device (Some config) = IsRunBy settings workers config × (is_some device ≡ true)
