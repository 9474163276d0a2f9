-- What lines get.
use Rattle.std.proofs.lemmas.Option.{same_Some}
use Rattle.std.proofs.Common.{◌≡◌, ◌∙◌, ℕ, ℤ, ◌<◌, ◌⊎◌, inl, inr, true, false, List, [], ◌∷◌, ◌++◌, length, Result, Ok, Err, OnOk, OnErr, is_err, refl, sym, ap, subst, append-nil, append_assoc, true≢false, slice_index, ◌≢◌, arith}
use Rattle.wh_script_model.specs.{is_skipped, longest_line, Command, keep, load, admit, invoke, drain, refuel, cancel, retry, scan, report, release, AsksCommand, verb, Reply, error, LacksInstance, ReceivesCall, Files, IsRead, no_such_instance, AnswersLine, skipped, invoked, obeyed, too_long, no_command, line_out_of_memory, replies_text, DrainsAmid, DrainsAmidFaults}
use Rattle.wh_script_model.specs.Settings.{Settings}
use Rattle.wh_script_model.specs.ScriptState.{ScriptState}
use Rattle.wh_commands.specs.declared.error.ParseError.{ParseError}
use Rattle.wh_commands.specs.declared.error.ParseError.TheVariants.{Syntax, Memory}
use Rattle.wh_commands.specs.declared.command.ParsedLine.{ParsedLine}
use Rattle.wh_script.specs.Causes.{cause_number, line_error}
use Rattle.wh_commands.specs.ParsedCommands.{FindsAsked}
use Rattle.wh_script_laws.specs.Printed.{AllArePrinted, IsWellMade}
use Rattle.wh_script_laws.proofs.Faultless.{call_none, obeyed_none}
use Rattle.wh_script_laws.proofs.PrintedObeyed.{call_well, obeys_well}
use Rattle.wh_engine.specs.Obeying.{TakesInvoke, IsNamed}
use Rattle.wh_engine.specs.Printing.{AddsLines}
use Rattle.wh_engine.specs.RepresentedScript.{ScriptHostState, RepresentsScript}
use Rattle.wh_script.specs.declared.lines.Line.{Line}
use Rattle.wh_script.specs.declared.lines.Line.TheVariants.{Skipped, End}
use Rattle.wh_script.specs.Coming.{IsKind}
use Rattle.wh_script.specs.Answering.{HasDrained, Complains, GetsReplies, is_obeyed, is_wanting, AddsReplies, adds_replies, adds_report, Obeys, Answers, AnswersCommand}
use Rattle.wh_script.specs.Speaking.{AsksReport, EndsOutOfMemory, IsLineText, prints_replies, prints_report}
use Rattle.wh_script.proofs.Speaking.{adds_none, adds_more}
use Rattle.wh_script.proofs.Drained.{no_guest_then}
use Rattle.wh_script.proofs.DrainedLines.{drained_in_memory}

-- ---- which lines ask for a report

others_apart : (x y : List ℕ) → slice_index x 2 ≢ slice_index y 2 → x ≡ y → ⊥
others_apart x y apart same = apart (ap (λ t. slice_index t 2) same)

by_verb : (command : Command) → verb command ≡ verb report → command ≡ report
by_verb (keep name bytes) e = absurd (others_apart _ _ (λ same. omega (arith, same)) e)
by_verb (load name path) e = absurd (others_apart _ _ (λ same. omega (arith, same)) e)
by_verb (admit inst of params) e = absurd (others_apart _ _ (λ same. omega (arith, same)) e)
by_verb (invoke inst export fuel args) e = absurd (others_apart _ _ (λ same. omega (arith, same)) e)
by_verb drain e = absurd (others_apart _ _ (λ same. omega (arith, same)) e)
by_verb (refuel inst fuel) e = absurd (others_apart _ _ (λ same. omega (arith, same)) e)
by_verb (cancel inst) e = absurd (others_apart _ _ (λ same. omega (arith, same)) e)
by_verb (retry inst) e = absurd (others_apart _ _ (λ same. omega (arith, same)) e)
by_verb scan e = absurd (others_apart _ _ (λ same. omega (arith, same)) e)
by_verb report e = refl
by_verb (release inst) e = absurd (others_apart _ _ (λ same. omega (arith, same)) e)

heads : (x y : List ℕ) (xs ys : List (List ℕ)) → x ∷ xs ≡ y ∷ ys → x ≡ y
heads x y xs ys e = cc

pub one_command : (line : List ℕ) (command : Command) → AsksCommand line command → AsksCommand line report → command ≡ report
one_command line command asks other = by_verb command (heads (verb command) (verb report) asks.0 other.0 (sym asks.1 ∙ other.1))

invoke_apart : (inst export : List ℕ) (fuel : ℕ) (args : List ℤ) → invoke inst export fuel args ≡ report → ⊥
invoke_apart inst export fuel args e = absurd (cc e)

-- the text of these replies is that of a line which asks for no report, or for which memory ran out
only_replies : (settings : Settings) (number : ℕ) (line : List ℕ) (m : ScriptState) (replies : List Reply) (text text2 : List ℕ) → (AsksReport line → EndsOutOfMemory number replies)
    → AddsLines replies text text2 → (more : List ℕ) × IsLineText settings number line m replies more × (text2 ≡ text ++ more)
only_replies settings number line m replies text text2 wants adds = (replies_text replies, prints_replies wants, adds)

met_then : {faults : List ℕ} {m m2 : ScriptState} {lines : List Reply} → DrainsAmid faults m lines m2 → m2.faults_met ≡ faults ++ m.faults_met
met_then drains = ap (λ (k : ScriptState). k.faults_met) drains.after

pub is_skipped_line : {D : Type 0} (files : Files) (number : ℕ) (line : List ℕ) (e : ScriptHostState D) (text : List ℕ) → is_skipped line ≡ true → Answers files number line e text e text []
is_skipped_line files number line e text is settings m s =
    let t = only_replies settings number line m [] text text (λ asks. absurd (true≢false (sym is ∙ asks.is_read.0))) (adds_none text) in
    ([], m, t.0, skipped is, refl, t.1, t.2, s)

pub is_too_long : {D : Type 0} (files : Files) (number : ℕ) (line text text2 : List ℕ) (e e2 : ScriptHostState D) (faults : List ℕ) → is_skipped line ≡ false → longest_line < length line
    → Complains (error 1 number) e text e2 text2 faults → Answers files number line e text e2 text2 faults
is_too_long files number line text text2 e e2 faults read long complains settings m s =
    let c = complains settings m s in
    let t = only_replies settings number line c.1 (c.0 ++ error 1 number ∷ []) text text2 (λ asks. absurd (omega (arith, long, asks.is_read.1))) c.3 in
    (c.0 ++ error 1 number ∷ [], c.1, t.0, too_long read long (faults, c.2), met_then c.2, t.1, t.2, c.4)

pub is_no_command : {D : Type 0} (files : Files) (number : ℕ) (line text text2 : List ℕ) (e e2 : ScriptHostState D) (faults : List ℕ) → IsRead line → ((command : Command) → ¬ (AsksCommand line command))
    → Complains (error 1 number) e text e2 text2 faults → Answers files number line e text e2 text2 faults
is_no_command files number line text text2 e e2 faults read none complains settings m s =
    let c = complains settings m s in
    let t = only_replies settings number line c.1 (c.0 ++ error 1 number ∷ []) text text2 (λ asks. absurd (none report asks.asks)) c.3 in
    (c.0 ++ error 1 number ∷ [], c.1, t.0, no_command read none (faults, c.2), met_then c.2, t.1, t.2, c.4)

pub wants_memory : {D : Type 0} (files : Files) (number : ℕ) (line text text2 : List ℕ) (e e2 : ScriptHostState D) (faults : List ℕ) → IsRead line
    → Complains (error 5 number) e text e2 text2 faults → Answers files number line e text e2 text2 faults
wants_memory files number line text text2 e e2 faults read complains settings m s =
    let c = complains settings m s in
    let t = only_replies settings number line c.1 (c.0 ++ error 5 number ∷ []) text text2 (λ asks. (c.0, refl)) c.3 in
    (c.0 ++ error 5 number ∷ [], c.1, t.0, line_out_of_memory refl read (faults, c.2), met_then c.2, t.1, t.2, c.4)

-- a line whose command isn't found
pub isnt_found : {D : Type 0} (files : Files) (number : ℕ) (line text text2 : List ℕ) (e e2 : ScriptHostState D) (faults : List ℕ) (r : Result ParsedLine ParseError) (cause : ParseError) → r ≡ Err cause
    → ((asked : Command) → AsksCommand line asked → FindsAsked r asked) → IsRead line
    → Complains (error (cause_number (line_error cause)) number) e text e2 text2 faults → Answers files number line e text e2 text2 faults
isnt_found files number line text text2 e e2 faults r Syntax is only read complains =
    is_no_command files number line text text2 e e2 faults read (λ asked asks. subst (λ x. FindsAsked x asked) is (only asked asks)) complains
isnt_found files number line text text2 e e2 faults r Memory is only read complains = wants_memory files number line text text2 e e2 faults read complains

-- ---- commands

no_report : (line inst export : List ℕ) (fuel : ℕ) (args : List ℤ) → AsksCommand line (invoke inst export fuel args) → (replies : List Reply) {number : ℕ} → AsksReport line → EndsOutOfMemory number replies
no_report line inst export fuel args asks replies other = absurd (invoke_apart inst export fuel args (one_command line (invoke inst export fuel args) asks other.asks))

pub is_received : {D : Type 0} (files : Files) (number i : ℕ) (inst export : List ℕ) (fuel : ℕ) (args : List ℤ) (e e2 : ScriptHostState D) (text : List ℕ)
    → ((settings : Settings) (m : ScriptState) → RepresentsScript settings e m → IsNamed m i inst)
    → ((settings : Settings) (m : ScriptState) → RepresentsScript settings e m → TakesInvoke settings m i export fuel args e2)
    → AnswersCommand files number (invoke inst export fuel args) e text e2 text []
is_received files number i inst export fuel args e e2 text named takes line read asks settings m s =
    let has = named settings m s.0 in
    let took = takes settings m s.0 in
    let same : took.0 ≡ has.0 = same_Some took.0 has.0 (sym took.1 ∙ has.1.0) in
    let received : ReceivesCall true m i has.0 export fuel args took.2 = subst (λ g. ReceivesCall true m i g export fuel args took.2) same took.3 in
    let t = only_replies settings number line took.2 [] text text (no_report line inst export fuel args asks []) (adds_none text) in (
      [],
      took.2,
      t.0,
      invoked i read asks has.1 received,
      (call_none true m took.2 i has.0 export fuel args has.1.0 received).0,
      t.1,
      t.2,
      (took.4, call_well true m took.2 i has.0 export fuel args has.1.0 received s.1),
    )

pub has_no_guest : {D : Type 0} (files : Files) (number : ℕ) (inst export : List ℕ) (fuel : ℕ) (args : List ℤ) (e e2 : ScriptHostState D) (text text2 : List ℕ) (faults : List ℕ)
    → ((settings : Settings) (m : ScriptState) → RepresentsScript settings e m → LacksInstance m inst)
    → Complains (error 2 number) e text e2 text2 faults → AnswersCommand files number (invoke inst export fuel args) e text e2 text2 faults
has_no_guest files number inst export fuel args e e2 text text2 faults none complains line read asks settings m s =
    let c = complains settings m s in
    let t = only_replies settings number line c.1 (c.0 ++ error 2 number ∷ []) text text2 (no_report line inst export fuel args asks (c.0 ++ error 2 number ∷ [])) c.3 in (
      c.0 ++ error 2 number ∷ [],
      c.1,
      t.0,
      obeyed {command = invoke inst export fuel args} read asks (faults, c.2) (no_such_instance refl (no_guest_then faults m c.1 c.0 inst c.2 (none settings m s.0))),
      met_then c.2,
      t.1,
      t.2,
      c.4,
    )

pub invoke_wants : {D : Type 0} (files : Files) (number : ℕ) (command : Command) (e e1 e2 : ScriptHostState D) (text text2 : List ℕ) (faults : List ℕ)
    → ((settings : Settings) (m : ScriptState) → RepresentsScript settings e m → RepresentsScript settings e1 m)
    → Complains (error 5 number) e1 text e2 text2 faults → AnswersCommand files number command e text e2 text2 faults
invoke_wants files number command e e1 e2 text text2 faults stays complains line read asks settings m s =
    wants_memory files number line text text2 e1 e2 faults read complains settings m (stays settings m s.0, s.1)

gets_line : (settings : Settings) (files : Files) (m m1 m2 : ScriptState) (number : ℕ) (command : Command) (line : List ℕ) (lines replies : List Reply) (faults : List ℕ) → IsRead line → AsksCommand line command
    → DrainsAmid faults m lines m1 → GetsReplies settings files m1 number command replies m2 → AnswersLine DrainsAmidFaults true settings files m number line (lines ++ replies) m2 × (m2.faults_met ≡ faults ++ m.faults_met)
gets_line settings files m m1 m2 number command line lines replies faults read asks drains (is_obeyed o) = (obeyed read asks (faults, drains) o, (obeyed_none true settings files m1 m2 number command replies o).0 ∙ met_then drains)
gets_line settings files m m1 _ number command line lines _ faults read asks drains is_wanting = (line_out_of_memory refl read (faults, drains), met_then drains)

gets_well : (settings : Settings) (files : Files) (m1 m2 : ScriptState) (number : ℕ) (command : Command) (replies : List Reply) → GetsReplies settings files m1 number command replies m2
    → IsWellMade m1 → AllArePrinted m1 → IsWellMade m2
gets_well settings files m1 m2 number command replies (is_obeyed o) well all = obeys_well true settings files m1 m2 number command replies o well all
gets_well settings files m1 _ number command _ is_wanting well all = well

-- the text of a drain, and behind it what the command gets
says_both : (settings : Settings) (number : ℕ) (command : Command) (line : List ℕ) (m : ScriptState) (lines replies : List Reply) (text mid text2 : List ℕ) → IsRead line
    → AsksCommand line command → ¬ (EndsOutOfMemory number lines) → AddsLines lines text mid → AddsReplies settings number command m replies mid text2
    → (more : List ℕ) × IsLineText settings number line m (lines ++ replies) more × (text2 ≡ text ++ more)
says_both settings number command line m lines replies text mid text2 read asks enough drained (adds_replies adds wants) =
    only_replies settings number line m (lines ++ replies) text text2
    (λ other. (lines, ap (λ xs. lines ++ xs) (wants (one_command line command asks other.asks)))) (adds_more lines replies text mid text2 drained adds)
says_both settings number command line m lines replies text mid text2 read asks enough drained (adds_report {shown = shown} is none shows at) =
    let asked : AsksReport line = record { is_read = read; asks = subst (λ c. AsksCommand line c) is asks } in
    let all : lines ++ replies ≡ lines = ap (λ xs. lines ++ xs) none ∙ append-nil lines in (
      replies_text (lines ++ replies) ++ shown,
      prints_report asked (λ (ends : EndsOutOfMemory number (lines ++ replies)). enough (subst (EndsOutOfMemory number) all ends)) shows,
      at ∙ ap (λ xs. xs ++ shown) drained ∙ append_assoc text (replies_text lines) shown ∙ ap (λ (xs : List Reply). text ++ (replies_text xs ++ shown)) (sym all),
    )

pub drained_obeyed : {D : Type 0} (files : Files) (number : ℕ) (command : Command) (e e1 e2 : ScriptHostState D) (text mid text2 : List ℕ) (faults : List ℕ) → HasDrained e text e1 mid faults → Obeys files number command e1 mid e2 text2
    → AnswersCommand files number command e text e2 text2 faults
drained_obeyed files number command e e1 e2 text mid text2 faults drained obeys line read asks settings m s =
    let d = drained settings m s in
    let o = obeys settings d.1 d.4.0 in
    let got = gets_line settings files m d.1 o.1 number command line d.0 o.0 faults read asks d.2 o.2 in
    let t = says_both settings number command line o.1 d.0 o.0 text mid text2 read asks (drained_in_memory faults m d.1 d.0 number d.2) d.3 o.3 in (
      d.0 ++ o.0,
      o.1,
      t.0,
      got.0,
      got.1,
      t.1,
      t.2,
      (o.4, gets_well settings files d.1 o.1 number command o.0 o.2 d.4.1 d.5),
    )

-- ---- kinds of lines

pub skips : (kind : Line) (held line : List ℕ) → (kind ≡ End) ⊎ (kind ≡ Skipped) → IsKind kind held line → is_skipped line ≡ true
skips kind held line (inl e) is = elim (subst (λ k. IsKind k held line) e is) [ ]
skips kind held line (inr e) is = subst (λ k. IsKind k held line) e is

pub where_ok : {A E P : Type 0} (r : Result A E) → false ≡ is_err r → OnOk r P → P
where_ok (Ok x) e p = p
where_ok (Err x) e p = absurd (cc e)

pub where_err : {A E P : Type 0} (r : Result A E) → true ≡ is_err r → OnErr r P → P
where_err (Ok x) e p = absurd (cc e)
where_err (Err x) e p = p
