-- What commands get behind a drain.
use Rattle.std.proofs.Common.{◌≡◌, ◌∙◌, ℕ, true, List, [], ◌∷◌, ◌++◌, slice_get, Option, Some, None, MatchOption, refl, sym, ap, subst}
use Rattle.std.proofs.lemmas.Option.{same_Some}
use Rattle.wh_host_model.specs.{Params}
use Rattle.wh_script_model.specs.Settings.{Settings}
use Rattle.wh_script_model.specs.{Command, load, admit, drain, scan, report, Reply, error, scan_ok, reply_text, NamedModule, HasModule, NoModule, LacksInstance, ReceivesInstance, Files, NamesModule, BringsBytes, IsForInstance, IsObeyed, module_name_is_taken, no_file, module_comes, no_such_module, instance_name_is_taken, instance_comes, no_such_instance, is_drained, is_scanned, is_reported}
use Rattle.wh_script_model.specs.ScriptState.{ScriptState}
use Rattle.wh_commands.specs.declared.command.CallAction.{CallAction}
use Rattle.wh_commands.specs.declared.command.CallAction.TheVariants.{Refuel, Cancel, Retry}
use Rattle.wh_commands.specs.ParsedCommands.{action_of}
use Rattle.wh_host.specs.Reporting.{ReportState, ReportsHost}
use Rattle.wh_replies.specs.ReportTexts.{report_text}
use Rattle.wh_engine.specs.Draining.{StaysSo}
use Rattle.wh_engine.specs.Obeying.{IsNamed, IsModuleNamed, TakesModule, TakesInstance, ObeysCommand}
use Rattle.wh_engine.specs.RepresentedScript.{ScriptHostState, RepresentsScript}
use Rattle.wh_script.specs.Answering.{is_obeyed, is_wanting, adds_replies, adds_report, Obeys}
use Rattle.wh_script.proofs.Speaking.{adds_none, adds_one}
use Rattle.wh_script.proofs.Rows.{reports_script}

-- whatever script the engine represents, this is so of what it has made
abbrev pub KnowsOf : {D : Type 0} → ScriptHostState D → (ScriptState → Type 0) → Type 0
KnowsOf e fact = (settings : Settings) (m : ScriptState) → RepresentsScript settings e m → fact m

-- a report gets no reply
says_no_reply : {settings : Settings} {files : Files} {m m2 : ScriptState} {number : ℕ} {reply : Reply} → IsObeyed true settings files m number report (reply ∷ []) m2 → ⊥
says_no_reply (module_name_is_taken names has) = absurd names
says_no_reply (module_comes names free brings receives) = absurd names
says_no_reply (no_such_instance for none) = absurd for

-- the lines say nothing else than one reply
obeys_one : {D : Type 0} (files : Files) (number : ℕ) (command : Command) (e e2 : ScriptHostState D) (text text2 : List ℕ) (reply : Reply) → text2 ≡ text ++ reply_text reply
    → ((settings : Settings) (m : ScriptState) → RepresentsScript settings e m → (m2 : ScriptState) × IsObeyed true settings files m number command (reply ∷ []) m2 × RepresentsScript settings e2 m2)
    → Obeys files number command e text e2 text2
obeys_one files number command e e2 text text2 reply is does settings m s =
    let d = does settings m s in
    (reply ∷ [], d.0, is_obeyed d.1, adds_replies (adds_one reply text text2 is) (λ asked. absurd (says_no_reply (subst (λ x. IsObeyed true settings files m number x (reply ∷ []) d.0) asked d.1))), d.2)

pub is_wanted : {D : Type 0} (files : Files) (number : ℕ) (command : Command) (e e2 : ScriptHostState D) (text text2 : List ℕ)
    → ((settings : Settings) (m : ScriptState) → RepresentsScript settings e m → RepresentsScript settings e2 m)
    → text2 ≡ text ++ reply_text (error 5 number) → Obeys files number command e text e2 text2
is_wanted files number command e e2 text text2 stays is settings m s =
    (error 5 number ∷ [], m, is_wanting, adds_replies (adds_one (error 5 number) text text2 is) (λ asked. refl), stays settings m s)

-- ---- modules

has_module : (m : ScriptState) (k : ℕ) (name : List ℕ) → IsModuleNamed m k name → (x : NamedModule) × (slice_get m.modules k ≡ Some x) × HasModule m name x.m
has_module m k name is = (is.0, is.1, (k, is.1 ∙ ap (λ n. Some (record { name = n; m = is.0.m })) is.2))

pub some_module : (o : Option ℕ) (m : ScriptState) (k : ℕ) (name : List ℕ) → o ≡ Some k → MatchOption o (NoModule m name) (λ k. IsModuleNamed m k name) → IsModuleNamed m k name
some_module o m k name e p = rw e at p

pub none_module : (o : Option ℕ) (m : ScriptState) (name : List ℕ) → o ≡ None → MatchOption o (NoModule m name) (λ k. IsModuleNamed m k name) → NoModule m name
none_module o m name e p = rw e at p

pub module_is_taken : {D : Type 0} (files : Files) (number k : ℕ) (command : Command) (name : List ℕ) (e : ScriptHostState D) (text text2 : List ℕ) → NamesModule command name → KnowsOf e (λ m. IsModuleNamed m k name)
    → text2 ≡ text ++ reply_text (error 3 number) → Obeys files number command e text e text2
module_is_taken files number k command name e text text2 names named is =
    obeys_one files number command e e text text2 (error 3 number) is (λ settings m s. (m, module_name_is_taken names (has_module m k name (named settings m s)).2, s))

pub no_such_file : {D : Type 0} (files : Files) (number : ℕ) (name path : List ℕ) (e : ScriptHostState D) (text text2 : List ℕ) → KnowsOf e (λ m. NoModule m name) → files path None ≡ true
    → text2 ≡ text ++ reply_text (error 4 number) → Obeys files number (load name path) e text e text2
no_such_file files number name path e text text2 none may is =
    obeys_one files number (load name path) e e text text2 (error 4 number) is (λ settings m s. (m, no_file (none settings m s) may, s))

pub module_came : {D : Type 0} (files : Files) (number : ℕ) (command : Command) (name bytes : List ℕ) (reply : Reply) (e e2 : ScriptHostState D) (text text2 : List ℕ) → KnowsOf e (λ m. NoModule m name)
    → NamesModule command name → BringsBytes files command bytes
    → ((settings : Settings) (m : ScriptState) → RepresentsScript settings e m → TakesModule settings m name bytes reply e2)
    → text2 ≡ text ++ reply_text reply → Obeys files number command e text e2 text2
module_came files number command name bytes reply e e2 text text2 none names brings takes is =
    obeys_one files number command e e2 text text2 reply is
    (λ settings m s. let t = takes settings m s in (t.0, module_comes names (none settings m s) brings t.1, t.2))

-- ---- instances

pub some_guest : (o : Option ℕ) (m : ScriptState) (k : ℕ) (name : List ℕ) → o ≡ Some k → MatchOption o (LacksInstance m name) (λ k. IsNamed m k name) → IsNamed m k name
some_guest o m k name e p = rw e at p

pub none_guest : (o : Option ℕ) (m : ScriptState) (name : List ℕ) → o ≡ None → MatchOption o (LacksInstance m name) (λ k. IsNamed m k name) → LacksInstance m name
none_guest o m name e p = rw e at p

pub module_isnt_there : {D : Type 0} (files : Files) (number : ℕ) (inst of : List ℕ) (p : Params) (e : ScriptHostState D) (text text2 : List ℕ) → KnowsOf e (λ m. NoModule m of)
    → text2 ≡ text ++ reply_text (error 2 number) → Obeys files number (admit inst of p) e text e text2
module_isnt_there files number inst of p e text text2 none is =
    obeys_one files number (admit inst of p) e e text text2 (error 2 number) is (λ settings m s. (m, no_such_module (none settings m s), s))

pub guest_is_taken : {D : Type 0} (files : Files) (number k i : ℕ) (inst of : List ℕ) (p : Params) (e : ScriptHostState D) (text text2 : List ℕ) → KnowsOf e (λ m. IsModuleNamed m k of)
    → KnowsOf e (λ m. IsNamed m i inst) → text2 ≡ text ++ reply_text (error 3 number) → Obeys files number (admit inst of p) e text e text2
guest_is_taken files number k i inst of p e text text2 named has is =
    obeys_one files number (admit inst of p) e e text text2 (error 3 number) is
    (λ settings m s. (m, instance_name_is_taken i (has_module m k of (named settings m s)).2 (has settings m s).1, s))

pub guest_came : {D : Type 0} (files : Files) (number k : ℕ) (inst of : List ℕ) (p : Params) (reply : Reply) (e e2 : ScriptHostState D) (text text2 : List ℕ) → KnowsOf e (λ m. IsModuleNamed m k of)
    → KnowsOf e (λ m. LacksInstance m inst)
    → ((settings : Settings) (m : ScriptState) → RepresentsScript settings e m → TakesInstance settings m inst k p reply e2)
    → text2 ≡ text ++ reply_text reply → Obeys files number (admit inst of p) e text e2 text2
guest_came files number k inst of p reply e e2 text text2 named none takes is =
    obeys_one files number (admit inst of p) e e2 text text2 reply is
    (λ settings m s.
    let t = takes settings m s in
    let has = has_module m k of (named settings m s) in
    let same : t.0 ≡ has.0 = same_Some t.0 has.0 (sym t.1 ∙ has.1) in
    let received : ReceivesInstance true settings m inst has.0.m p reply t.2 = subst (λ (x : NamedModule). ReceivesInstance true settings m inst x.m p reply t.2) same t.3 in
    (t.2, instance_comes has.2 (none settings m s) received, t.4))

pub guest_isnt_there : {D : Type 0} (files : Files) (number : ℕ) (command : Command) (inst : List ℕ) (e : ScriptHostState D) (text text2 : List ℕ) → IsForInstance command inst → KnowsOf e (λ m. LacksInstance m inst)
    → text2 ≡ text ++ reply_text (error 2 number) → Obeys files number command e text e text2
guest_isnt_there files number command inst e text text2 for none is =
    obeys_one files number command e e text text2 (error 2 number) is (λ settings m s. (m, no_such_instance for (none settings m s), s))

-- what is asked of a present call is for that instance
pub action_for : (inst : List ℕ) (action : CallAction) → IsForInstance (action_of inst action) inst
action_for inst (Refuel fuel) = refl
action_for inst Cancel = refl
action_for inst Retry = refl

pub guest_obeyed : {D : Type 0} (files : Files) (number : ℕ) (command : Command) (reply : Reply) (e e2 : ScriptHostState D) (text text2 : List ℕ)
    → ((settings : Settings) (m : ScriptState) → RepresentsScript settings e m → ObeysCommand settings files m number command reply e2)
    → text2 ≡ text ++ reply_text reply → Obeys files number command e text e2 text2
guest_obeyed files number command reply e e2 text text2 obeys is = obeys_one files number command e e2 text text2 reply is obeys

-- ---- the host

pub scanned : {D : Type 0} (files : Files) (number : ℕ) (e e2 : ScriptHostState D) (text text2 : List ℕ) → StaysSo e e2 → text2 ≡ text ++ reply_text scan_ok → Obeys files number scan e text e2 text2
scanned files number e e2 text text2 stays is = obeys_one files number scan e e2 text text2 scan_ok is (λ settings m s. (m, is_scanned, stays settings m s))

pub reported : {D : Type 0} (files : Files) (number : ℕ) (e : ScriptHostState D) (text text2 : List ℕ) (shows : ReportState) → ReportsHost e.host.host shows → text2 ≡ text ++ report_text shows → Obeys files number report e text e text2
reported files number e text text2 shows reports is settings m s =
    ([], m, is_obeyed is_reported, adds_report refl refl (reports_script e shows settings m reports s) is, s)

pub only_drained : {D : Type 0} (files : Files) (number : ℕ) (e : ScriptHostState D) (text : List ℕ) → Obeys files number drain e text e text
only_drained files number e text settings m s = ([], m, is_obeyed is_drained, adds_replies (adds_none text) (λ asked. absurd (cc asked)), s)
