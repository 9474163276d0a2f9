-- What was read and written by how a run ends.
use Rattle.std.proofs.Common.{◌≡◌, ◌≢◌, ◌∙◌, ℕ, Bool, true, false, ap, List, [], Option, Some, None, is_some, Result, Ok, Err, option_map, refl, subst, subst₂, sym, ◌++◌, map, zero, suc, MatchOption}
use Rattle.std.specs.Prelude.{⊤}
use Rattle.clap.specs.Words.{Text}
use Rattle.wh_space_model.specs.declared.plain.SwapError.{SwapError}
use Rattle.wh_script_model.specs.{Files}
use Rattle.wh_script_model.specs.Settings.{Settings}
use Rattle.wh_script.specs.declared.fault.ScriptFault.TheVariants.{Memory, Output}
use Rattle.wh_script.specs.declared.session.SessionConfig.{SessionConfig}
use Rattle.wh_script.specs.Blame.{BlamesFailed}
use Rattle.wh_script.specs.RunBy.{IsRunBy, RunsBy}
use Rattle.wasmhost_program.specs.declared.fault.ProgramFault.{ProgramFault}
use Rattle.wasmhost_program.specs.declared.fault.ProgramFault.TheVariants.{Settings as NoSettings, Swap, Script}
use Rattle.wh_engine.specs.Draining.{HoldsAmid}
use Rattle.wh_swap.specs.declared.stream.PageSwap.{PageSwap}
use Rattle.wh_swap.specs.Written.{HasReadRight, page_faults}
use Rattle.wh_script.proofs.FaultlessRuns.{faultless_run}
use Rattle.wh_script.proofs.Devices.{none_of}
use Rattle.wh_script.proofs.Runs.{begins_nothing}
use Rattle.wasmhost_program.specs.Accepted.{MeansArguments, line_faults}
use Rattle.wasmhost_program.specs.declared.arguments.Arguments.{Arguments}
use Rattle.wasmhost_program.specs.ProgramOutput.{HasServedSo, IsFaultOfDevice, IsFaultOfSettings, KnownFiles, RunsAsked, RunsScript, RunsWith, EndsSo, EndsWith, is_accepted, has_run, has_no_swap, has_no_settings, wants_memory, HoldsOver, RunClaim, has_settings, is_unread, outcome_of, runs_amid, ReadsSettings, RunsAsWords, RunsSo, RunsSoBy, StopsForOutput}
use Rattle.wh_space_model.specs.{swap_number}
use Rattle.wh_script.specs.declared.fault.ScriptFault.{ScriptFault}
use Rattle.wh_script.specs.Runs.{Runs}
use Rattle.wh_script.specs.FailingRuns.{ScriptRunsAmid}

-- ---- nothing was read and written

-- memory ran out before the script
pub no_memory : (known : KnownFiles) (files : Files) (settings : Settings) (script : Option Text) (input before : Option (List ℕ))
    → RunsScript (runs_amid []) known files settings script input input before before (Err Memory)
no_memory known files settings None input before = begins_nothing settings files input input before
no_memory known files settings (Some path) input before = (refl, None, begins_nothing settings files (known path) None before)

-- a device over a file can't be had
pub no_device : (known : KnownFiles) (files : Files) (settings : Settings) (script : Option Text) (input before : Option (List ℕ)) (fault : ProgramFault)
    → is_some settings.swap ≡ true → IsFaultOfDevice fault → RunsWith (runs_amid []) known files settings script input input before before (Err fault)
no_device known files settings script input before Swap named is = has_no_swap named refl refl
no_device known files settings script input before (Script fault) named is =
    subst (λ f. RunsWith (runs_amid []) known files settings script input input before before (Err (Script f))) (sym is) (has_run (Err Memory) (no_memory known files settings script input before))
no_device known files settings script input before NoSettings named is = absurd is

-- settings can't
pub no_settings : (known : KnownFiles) (files : Files) (settings script : Option Text) (input before : Option (List ℕ)) (fault : ProgramFault)
    → is_some settings ≡ true → IsFaultOfSettings fault → RunsAsked (runs_amid []) known files settings script input input before before (Err fault)
no_settings known files settings script input before NoSettings named is = has_no_settings named refl refl
no_settings known files settings script input before (Script fault) named is =
    subst (λ f. RunsAsked (runs_amid []) known files settings script input input before before (Err (Script f))) (sym is) (wants_memory refl refl)
no_settings known files settings script input before Swap named is = absurd is

-- ---- the device that came back

-- over a file
pub holds_back : {P : Type 0} (first : List SwapError) (o : Option (PageSwap P)) (Q R : List ℕ → Type 0) → first ≡ [] → ((met : List ℕ) → Q met → R met)
    → MatchOption o (Q []) (λ after. HoldsAmid (HasReadRight after) first (page_faults after) Q) → HoldsOver o R
holds_back first None Q R e so holds = so [] holds
holds_back first (Some device) Q R e so holds = λ right.
    let h = holds right in (h.0, subst (λ xs. page_faults device ≡ h.0 ++ xs) e h.1, so (map swap_number h.0) h.2)

-- the run of a file, from that of its bytes
pub matched_file : {D : Type 0} (honest : D → Type 0) (faults : D → List SwapError) (device : D) (o : Option D)
    (known : KnownFiles) (files : Files) (settings : Settings) (path : Text) (input rest before after : Option (List ℕ))
    (ended : Result Unit ScriptFault)
    → MatchOption o (ScriptRunsAmid settings files [] (known path) rest before after ended)
    (λ back. HoldsAmid (honest back) (faults device) (faults back) (λ met. ScriptRunsAmid settings files met (known path) rest before after ended))
    → MatchOption o (RunsScript (runs_amid []) known files settings (Some path) input input before after ended)
    (λ back. HoldsAmid (honest back) (faults device) (faults back)
    (λ met. RunsScript (runs_amid met) known files settings (Some path) input input before after ended))
matched_file honest faults device None known files settings path input rest before after ended holds = (refl, rest, holds)
matched_file honest faults device (Some back) known files settings path input rest before after ended holds = λ right.
    let h = holds right in (h.0, h.1, (refl, rest, h.2))

pub holds_over : {P : Type 0} (o : Option (PageSwap P)) (Q R : List ℕ → Type 0) → ((met : List ℕ) → Q met → R met) → HoldsOver o Q → HoldsOver o R
holds_over None Q R so holds = so [] holds
holds_over (Some device) Q R so holds = λ right. let h = holds right in (h.0, h.1, so (map swap_number h.0) h.2)

-- where no call of it failed
pub served_over : {P : Type 0} (o : Option (PageSwap P)) (Q : List ℕ → Type 0) → HoldsOver o Q → HasServedSo o → Q []
served_over None Q holds served = holds
served_over (Some device) Q holds served =
    let h = holds served.0 in
    subst (λ xs. Q (map swap_number xs)) (none_of h.0 [] (sym served.1 ∙ h.1)) h.2

-- in memory, which never fails
pub memory_holds : {A : Type 0} (o : Option A) (Q : List ℕ → Type 0) → MatchOption o (Q []) (λ after. HoldsAmid ⊤ [] [] Q) → Q []
memory_holds None Q holds = holds
memory_holds (Some device) Q holds = let h = holds tt in subst (λ xs. Q (map swap_number xs)) (none_of h.0 [] h.1) h.2

-- ---- where no call of a device failed

scripts_alone : (known : KnownFiles) (files : Files) (settings : Settings) (script : Option Text) (input left before after : Option (List ℕ)) (ended : Result Unit ScriptFault)
    → RunsScript (runs_amid []) known files settings script input left before after ended → RunsScript Runs known files settings script input left before after ended
scripts_alone known files settings None input left before after ended p = faultless_run settings files input left before after ended p
scripts_alone known files settings (Some path) input left before after ended p = (p.0, p.1, faultless_run settings files (known path) p.1 before after ended p.2)

runs_alone : (known : KnownFiles) (files : Files) (settings : Settings) (script : Option Text) (input left before after : Option (List ℕ)) (ended : Result Unit ProgramFault)
    → RunsWith (runs_amid []) known files settings script input left before after ended → RunsWith Runs known files settings script input left before after ended
runs_alone known files settings script input left before after _ (has_run ended runs) = has_run ended (scripts_alone known files settings script input left before after ended runs)
runs_alone known files settings script input left before after _ (has_no_swap named same kept) = has_no_swap named same kept

asked_alone : (known : KnownFiles) (files : Files) (settings script : Option Text) (input left before after : Option (List ℕ)) (ended : Result Unit ProgramFault)
    → RunsAsked (runs_amid []) known files settings script input left before after ended → RunsAsked Runs known files settings script input left before after ended
asked_alone known files settings script input left before after ended (has_settings these reads runs) = has_settings these reads (runs_alone known files these script input left before after ended runs)
asked_alone known files settings script input left before after _ (has_no_settings named same kept) = has_no_settings named same kept
asked_alone known files settings script input left before after _ (wants_memory same kept) = wants_memory same kept

ends_alone : (known : KnownFiles) (files : Files) (words : List Text) (input left before after : Option (List ℕ)) (ended : Result Unit ProgramFault)
    → EndsSo (runs_amid []) known files words input left before after ended → EndsSo Runs known files words input left before after ended
ends_alone known files words input left before after ended (is_accepted accepted asked) = is_accepted accepted (asked_alone known files _ _ input left before after ended asked)
ends_alone known files words input left before after _ (is_unread same kept) = is_unread same kept

pub ends_faultless : (known : KnownFiles) (files : Files) (words : List Text) (input left before after : Option (List ℕ)) (status : ℕ)
    → EndsWith (runs_amid []) known files words input left before after status → EndsWith Runs known files words input left before after status
ends_faultless known files words input left before after zero p = ends_alone known files words input left before after (Ok tt) p
ends_faultless known files words input left before after (suc zero) p = (p.0, ends_alone known files words input left before after (Err p.0) p.1)
ends_faultless known files words input left before after (suc (suc n)) p = p

-- ---- by the words, and by the status

module _ (claim : RunClaim) (known : KnownFiles) (files : Files) (words : List Text) (input left before after : Option (List ℕ)) where
  pub asked_ends : (a : Arguments) (ended : Result Unit ProgramFault) → line_faults words ≡ [] → MeansArguments words a
      → RunsAsked claim known files (option_map (λ p. p.now) a.settings) (option_map (λ p. p.now) a.script) input left before after ended
      → EndsSo claim known files words input left before after ended
  asked_ends a ended accepted means runs =
      is_accepted accepted (subst₂ (λ settings script. RunsAsked claim known files settings script input left before after ended) means.settings means.script runs)

  pub ends_well : (ended : Result Unit ProgramFault) (x : Unit) (status : ℕ) → ended ≡ Ok x → status ≡ 0 → EndsSo claim known files words input left before after ended
      → EndsWith claim known files words input left before after status
  ends_well ended x status is zero_is ends =
      subst (EndsWith claim known files words input left before after) (sym zero_is) (subst (EndsSo claim known files words input left before after) is ends)

  pub ends_stopped : (ended : Result Unit ProgramFault) (fault : ProgramFault) (status : ℕ) → ended ≡ Err fault → status ≡ 1
      → EndsSo claim known files words input left before after ended → EndsWith claim known files words input left before after status
  ends_stopped ended fault status is one_is ends =
      subst (EndsWith claim known files words input left before after) (sym one_is) (fault, subst (EndsSo claim known files words input left before after) is ends)

-- ---- how calls were run

-- the writer was blamed
pub output_blamed : (reader writer : Bool) (ended : Result Unit ScriptFault) → BlamesFailed reader writer ended → ended ≡ Err Output → writer ≡ true
output_blamed reader writer ended blames is = subst (BlamesFailed reader writer) is blames

pub stops_for_output : (failed : Bool) (ended : Result Unit ScriptFault) → (ended ≡ Err Output → failed ≡ true) → StopsForOutput failed (outcome_of ended)
stops_for_output failed (Ok done) blames is = absurd (cc is)
stops_for_output failed (Err fault) blames is = blames (let same : fault ≡ Output = cc is in ap (λ f. Err f) same)

pub not_for_output : (failed : Bool) (fault : ProgramFault) → ¬ (fault ≡ Script Output) → StopsForOutput failed (Err fault)
not_for_output failed fault other is = absurd (other (cc is))

pub device_fault_so : (fault : ProgramFault) → IsFaultOfDevice fault → ¬ (fault ≡ Script Output)
device_fault_so Swap is same = cc same
device_fault_so NoSettings is same = cc same
device_fault_so (Script fault) is same = let bad : Memory ≡ Output = sym is ∙ cc same in cc bad

pub settings_fault_so : (fault : ProgramFault) → IsFaultOfSettings fault → ¬ (fault ≡ Script Output)
settings_fault_so Swap is same = cc same
settings_fault_so NoSettings is same = cc same
settings_fault_so (Script fault) is same = let bad : Memory ≡ Output = sym is ∙ cc same in cc bad

-- in memory
pub in_manner : {D : Type 0} (settings : Settings) (workers : ℕ) (ended : Result Unit ScriptFault) (device : Option D) (config : Option SessionConfig) → RunsBy settings workers ended device config
    → MatchOption config (ended ≡ Err Memory) (IsRunBy settings workers)
in_manner settings workers ended device None manner = manner
in_manner settings workers ended device (Some config) manner = manner.0

not_well : (ended : Result Unit ScriptFault) → ended ≡ Err Memory → outcome_of ended ≢ Ok tt
not_well ended is well =
    let so : outcome_of (Err Memory) ≡ Ok tt = sym (ap outcome_of is) ∙ well in cc so

-- with settings that name no file
pub in_memory : (settings : Settings) (workers : ℕ) (ended : Result Unit ScriptFault) (config : Option SessionConfig) → settings.swap ≡ None
    → MatchOption config (ended ≡ Err Memory) (IsRunBy settings workers) → RunsSo settings workers (outcome_of ended) false config
in_memory settings workers ended None none manner = not_well ended manner
in_memory settings workers ended (Some config) none manner = (manner, ap is_some (sym none))

-- and with such that name one
pub over_file : {D : Type 0} (settings : Settings) (workers : ℕ) (path : Text) (ended : Result Unit ScriptFault) (device : Option D) (config : Option SessionConfig) → settings.swap ≡ Some path
    → RunsBy settings workers ended device config → RunsSo settings workers (outcome_of ended) (is_some device) config
over_file settings workers path ended device None some manner = not_well ended manner
over_file settings workers path ended device (Some config) some manner = (manner.0, manner.1 ∙ ap is_some (sym some))

-- the settings of a file
pub by_file : (known : KnownFiles) (path : Option Text) (settings : Settings) (workers : ℕ) (ended : Result Unit ProgramFault) (over : Bool) (config : Option SessionConfig) → ReadsSettings known path settings
    → RunsSo settings workers ended over config → RunsSoBy known path workers ended over config
by_file known path settings workers ended over None reads manner = manner
by_file known path settings workers ended over (Some config) reads manner = (settings, reads, manner.0, manner.1)

-- which the words name
pub as_words : (known : KnownFiles) (words : List Text) (a : Arguments) (ended : Result Unit ProgramFault) (status : ℕ) (over : Bool) (config : Option SessionConfig) → MeansArguments words a
    → (status ≡ 0 → ended ≡ Ok tt) → RunsSoBy known (option_map (λ p. p.now) a.settings) a.workers.number ended over config → RunsAsWords known words status over config
as_words known words a ended status over None means ends manner = λ zero_is. manner (ends zero_is)
as_words known words a ended status over (Some config) means ends manner =
    (manner.0, a.workers.number, subst (λ path. ReadsSettings known path manner.0) means.settings manner.1, means.workers, manner.2, manner.3)
