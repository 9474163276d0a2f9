-- Where no call of a device fails, nobody is blocked on a fault, and lines get the same.
use Rattle.std.proofs.Common.{◌≡◌, ℕ, ◌+◌, Bool, List, [], ◌∷◌, ◌++◌, slice_get, Option, Some, None, ℤ, refl, sym, ap, subst, ◌∙◌, arith, rules}
use Rattle.std.proofs.lemmas.Option.{none-some}
use Rattle.std.specs.List.{AllZip, AllByRecursion}
use Rattle.wh_model.specs.Format.{Module}
use Rattle.wh_host_model.specs.{Params}
use Rattle.wh_script_model.specs.Settings.{Settings}
use Rattle.wh_script_model.specs.{Command, Reply, NamedInstance, empty_script, RunsAlone, PrintsStart, has_none, has_one, PrintStarts, DrainsBy, ReceivesModule, module_is_kept, module_isnt_kept, module_out_of_memory, ReceivesInstance, is_admitted, isnt_admitted, admission_out_of_memory, ReceivesCall, instance_is_gone, isnt_invoked, is_invoked, call_out_of_memory, Files, IsObeyed, module_name_is_taken, no_file, module_comes, no_such_module, instance_name_is_taken, instance_comes, no_such_instance, is_drained, is_scanned, is_reported, is_refueled, no_one_to_refuel, no_call_to_refuel, is_cancelled, no_one_to_cancel, no_call_to_cancel, is_retried, no_one_to_retry, no_fault_to_retry, is_released, no_one_to_release, AnswersLine, skipped, invoked, obeyed, too_long, no_command, line_out_of_memory, AnswersLines, AnswersScript, rests_alone, meets_fault, RunsAmid, AreMixed, ZipAmid, none_left, gone_still, stands_still, runs_on, DrainsAmidFaults}
use Rattle.wh_script_model.specs.ScriptState.{ScriptState}
use Rattle.wh_script_model.specs.Drains as drains
use Rattle.wh_script_model.specs.Drains.{Drains}
use Rattle.wh_host_model.proofs.Host.Entries.{all_join}
use Rattle.wh_script_model.proofs.Begun.{is_one, with_one}
use Rattle.wh_script_laws.proofs.Mixing.{mixed_nothing}
use Rattle.wh_script_laws.specs.Faultless.{NobodyStands, LinesLeaveNobody, FaultlessLines, FaultlessScripts}

abbrev IsAtNoFault : NamedInstance → Type 0
IsAtNoFault g = g.at_fault ≡ None

-- ---- calls run

amid_alone : (g g2 : NamedInstance) → IsAtNoFault g → RunsAmid [] g g2 → RunsAlone g g2
amid_alone g _ none (gone_still gone) = drains.is_gone gone
amid_alone g _ none (stands_still {fault = fault} live stands) = absurd (none-some fault (sym none ∙ stands))
amid_alone g _ none (runs_on {calls = calls} live faultless come replay (rests_alone rest)) =
    subst (λ (o : Option ℕ). RunsAlone g (record g { calls = calls; at_fault = o })) none (drains.has_run live come replay rest)
amid_alone g _ none (runs_on live faultless come replay (meets_fault c first needs lost met)) = let bad = met.1 in absurd (omega (arith, bad))

alone_amid : (g g2 : NamedInstance) → IsAtNoFault g → RunsAlone g g2 → RunsAmid [] g g2
alone_amid g _ none (drains.is_gone gone) = gone_still gone
alone_amid g _ none (drains.has_run {calls = calls} live come replay rest) =
    subst (λ (o : Option ℕ). RunsAmid [] g (record g { calls = calls; at_fault = o })) (sym none) (runs_on live none come replay (rests_alone rest))

alone_for_none : (g g2 : NamedInstance) → IsAtNoFault g → RunsAlone g g2 → IsAtNoFault g2
alone_for_none g _ none (drains.is_gone gone) = none
alone_for_none g _ none (drains.has_run live come replay rest) = none

all_alone : (faults : List ℕ) (gs hs : List NamedInstance) → faults ≡ [] → AllByRecursion IsAtNoFault gs → ZipAmid RunsAmid faults gs hs → AllZip RunsAlone gs hs
all_alone faults [] [] e none x = tt
all_alone faults [] (h ∷ hs) e none x = absurd x
all_alone faults (g ∷ gs) [] e none x = absurd x
all_alone faults (g ∷ gs) (h ∷ hs) e none x =
    let nothing = mixed_nothing x.0 x.1 (subst (AreMixed x.0 x.1) e x.2) in
    (amid_alone g h none.0 (subst (λ own. RunsAmid own g h) nothing.0 x.3), all_alone x.1 gs hs nothing.1 none.1 x.4)

all_amid : (gs hs : List NamedInstance) → AllByRecursion IsAtNoFault gs → AllZip RunsAlone gs hs → ZipAmid RunsAmid [] gs hs
all_amid [] [] none x = tt
all_amid [] (h ∷ hs) none x = absurd x
all_amid (g ∷ gs) [] none x = absurd x
all_amid (g ∷ gs) (h ∷ hs) none x = ([], [], none_left, alone_amid g h none.0 x.0, all_amid gs hs none.1 x.1)

all_for_none : (gs hs : List NamedInstance) → AllByRecursion IsAtNoFault gs → AllZip RunsAlone gs hs → AllByRecursion IsAtNoFault hs
all_for_none [] [] none x = tt
all_for_none [] (h ∷ hs) none x = absurd x
all_for_none (g ∷ gs) [] none x = absurd x
all_for_none (g ∷ gs) (h ∷ hs) none x = (alone_for_none g h none.0 x.0, all_for_none gs hs none.1 x.1)

one_said : (g k : NamedInstance) (lines : List Reply) → PrintsStart g lines k → IsAtNoFault g → IsAtNoFault k
one_said g k lines (has_none p q) none = none
one_said g k lines (has_one n e x) none = none

said_for_none : (gs hs : List NamedInstance) (lines : List Reply) → PrintStarts gs lines hs → AllByRecursion IsAtNoFault gs
    → AllByRecursion IsAtNoFault hs
said_for_none [] hs lines x none = subst (AllByRecursion IsAtNoFault) (sym x.1) tt
said_for_none (g ∷ gs) hs lines (here, rest, k, ks, e, f, x, more) none =
    subst (AllByRecursion IsAtNoFault) (sym f) (one_said g k here x none.0, said_for_none gs ks rest more none.1)

-- the calls run in another way
drained_so : (P Q : List NamedInstance → List NamedInstance → Type 0) (faults : List ℕ) (w w2 : ScriptState) (lines : List Reply)
    → ((run : List NamedInstance) → P w.instances run → Q w.instances run) → DrainsBy P faults w lines w2 → DrainsBy Q faults w lines w2
drained_so P Q faults w w2 lines so x = search rules

-- ---- nothing more is met, and nobody comes to be blocked on a fault

abbrev pub AddsNone : ScriptState → ScriptState → Type 0
AddsNone w w2 = (w2.faults_met ≡ w.faults_met) × (NobodyStands w → NobodyStands w2)

same : (w : ScriptState) → AddsNone w w
same w = (refl, λ h. h)

none_then : (w w1 w2 : ScriptState) → AddsNone w w1 → AddsNone w1 w2 → AddsNone w w2
none_then w w1 w2 first later = (later.0 ∙ first.0, λ h. later.1 (first.1 h))

drained_none : (w w2 : ScriptState) (lines : List Reply) → Drains w lines w2 → AddsNone w w2
drained_none w w2 lines x = (
  ap (λ (k : ScriptState). k.faults_met) x.after,
  λ none. subst NobodyStands (sym x.after) (said_for_none x.run x.instances x.starts x.print_starts (all_for_none w.instances x.run none x.each_runs)),
)

module_none : (may_run_out : Bool) (w w2 : ScriptState) (name bytes : List ℕ) (reply : Reply)
    → ReceivesModule may_run_out w name bytes reply w2 → AddsNone w w2
module_none may_run_out w w2 name bytes reply (module_is_kept a f) = (refl, λ h. h)
module_none may_run_out w w2 name bytes reply (module_isnt_kept r) = same w
module_none may_run_out w w2 name bytes reply (module_out_of_memory s r) = same w

guest_none : (may_run_out : Bool) (settings : Settings) (w w2 : ScriptState) (name : List ℕ) (m : Module) (p : Params) (reply : Reply)
    → ReceivesInstance may_run_out settings w name m p reply w2 → AddsNone w w2
guest_none may_run_out settings w w2 name m p reply (is_admitted n initial) = (refl, λ h. all_join IsAtNoFault w.instances (_ ∷ []) h (refl, tt))
guest_none may_run_out settings w w2 name m p reply (isnt_admitted fault f) = same w
guest_none may_run_out settings w w2 name m p reply (admission_out_of_memory s n) = same w

pub call_none : (may_run_out : Bool) (w w2 : ScriptState) (i : ℕ) (g : NamedInstance) (name : List ℕ) (fuel : ℕ) (given : List ℤ)
    → slice_get w.instances i ≡ Some g → ReceivesCall may_run_out w i g name fuel given w2 → AddsNone w w2
call_none may_run_out w w2 i g name fuel given e (instance_is_gone r) = (refl, λ h. h)
call_none may_run_out w w2 i g name fuel given e (isnt_invoked fault l f) = (refl, λ h. h)
call_none may_run_out w w2 i g name fuel given e (is_invoked vs l n x a) = search (rules, with_one, is_one)
call_none may_run_out w w2 i g name fuel given e (call_out_of_memory s l n) = (refl, λ h. h)

pub obeyed_none : (may_run_out : Bool) (settings : Settings) (files : Files) (w w2 : ScriptState) (number : ℕ) (command : Command)
    (replies : List Reply) → IsObeyed may_run_out settings files w number command replies w2 → AddsNone w w2
obeyed_none may_run_out settings files w w2 number command replies (module_name_is_taken n m) = same w
obeyed_none may_run_out settings files w w2 number command replies (no_file n f) = same w
obeyed_none may_run_out settings files w w2 number command replies (module_comes {name = name} {bytes = bytes} {reply = reply} n f b x) =
    module_none may_run_out w w2 name bytes reply x
obeyed_none may_run_out settings files w w2 number command replies (no_such_module n) = same w
obeyed_none may_run_out settings files w w2 number command replies (instance_name_is_taken i m g) = same w
obeyed_none may_run_out settings files w w2 number command replies (instance_comes {inst = inst} {p = p} {m = m} {reply = reply} n f x) =
    guest_none may_run_out settings w w2 inst m p reply x
obeyed_none may_run_out settings files w w2 number command replies (no_such_instance f n) = same w
obeyed_none may_run_out settings files w w2 number command replies is_drained = same w
obeyed_none may_run_out settings files w w2 number command replies is_scanned = same w
obeyed_none may_run_out settings files w w2 number command replies is_reported = same w
obeyed_none may_run_out settings files w w2 number command replies (is_refueled i {g = g} n l f) = search (rules, with_one, is_one)
obeyed_none may_run_out settings files w w2 number command replies (no_one_to_refuel i n l) = same w
obeyed_none may_run_out settings files w w2 number command replies (no_call_to_refuel i n l f) = same w
obeyed_none may_run_out settings files w w2 number command replies (is_cancelled i n l f) = (refl, λ h. with_one IsAtNoFault w.instances i _ h refl)
obeyed_none may_run_out settings files w w2 number command replies (no_one_to_cancel i n l) = same w
obeyed_none may_run_out settings files w w2 number command replies (no_call_to_cancel i n l f) = same w
obeyed_none may_run_out settings files w w2 number command replies (is_retried i n l f) = (refl, λ h. with_one IsAtNoFault w.instances i _ h refl)
obeyed_none may_run_out settings files w w2 number command replies (no_one_to_retry i n l) = same w
obeyed_none may_run_out settings files w w2 number command replies (no_fault_to_retry i n l f) = same w
obeyed_none may_run_out settings files w w2 number command replies (is_released i {g = g} z n l r) = search (rules, with_one, is_one)
obeyed_none may_run_out settings files w w2 number command replies (no_one_to_release i n l) = same w

-- ---- where none was met, none was before, and each instance's calls run alone

pub both_none : (later now : List ℕ) → later ++ now ≡ [] → (later ≡ []) × (now ≡ [])
both_none [] now e = (refl, e)
both_none (x ∷ later) now e = absurd (cc e)

pub drained_alone : (w w2 : ScriptState) (lines : List Reply) → DrainsAmidFaults w lines w2 → w2.faults_met ≡ []
    → (w.faults_met ≡ []) × (NobodyStands w → Drains w lines w2)
drained_alone w w2 lines d none = search (rules, both_none, drained_so, all_alone)

drained_amid : (w w2 : ScriptState) (lines : List Reply) → NobodyStands w → Drains w lines w2 → DrainsAmidFaults w lines w2
drained_amid w w2 lines nobody d = search (rules, drained_so, all_amid)

-- ---- lines

module _ (may_run_out : Bool) (settings : Settings) (files : Files) where
  pub line_none : (w w2 : ScriptState) (number : ℕ) (line : List ℕ) (replies : List Reply)
      → AnswersLine Drains may_run_out settings files w number line replies w2 → AddsNone w w2
  line_none w w2 number line replies (skipped e) = same w
  line_none w w2 number line replies (invoked {export = export} {fuel = fuel} {args = args} i {g = g} r a n x) =
      call_none may_run_out w w2 i g export fuel args n.0 x
  line_none w w2 number line replies (obeyed {command = command} {lines = lines} {replies = given} {w1 = w1} r a d x) =
      none_then w w1 w2 (drained_none w w1 lines d) (obeyed_none may_run_out settings files w1 w2 number command given x)
  line_none w w2 number line replies (too_long {lines = lines} e l d) = drained_none w w2 lines d
  line_none w w2 number line replies (no_command {lines = lines} r n d) = drained_none w w2 lines d
  line_none w w2 number line replies (line_out_of_memory {lines = lines} s r d) = drained_none w w2 lines d

  pub line_alone : (w w2 : ScriptState) (number : ℕ) (line : List ℕ) (replies : List Reply)
      → AnswersLine DrainsAmidFaults may_run_out settings files w number line replies w2 → w2.faults_met ≡ []
      → (w.faults_met ≡ []) × (NobodyStands w → AnswersLine Drains may_run_out settings files w number line replies w2)
  line_alone w w2 number line replies (skipped e) none = (none, λ nobody. skipped e)
  line_alone w w2 number line replies (invoked {export = export} {fuel = fuel} {args = args} i {g = g} r a n x) none =
      (sym (call_none may_run_out w w2 i g export fuel args n.0 x).0 ∙ none, λ nobody. invoked i r a n x)
  line_alone w w2 number line replies (obeyed {command = command} {lines = lines} {replies = given} {w1 = w1} r a d x) none =
      let alone = drained_alone w w1 lines d (sym (obeyed_none may_run_out settings files w1 w2 number command given x).0 ∙ none) in
      (alone.0, λ nobody. obeyed r a (alone.1 nobody) x)
  line_alone w w2 number line replies (too_long {lines = lines} e l d) none =
      let alone = drained_alone w w2 lines d none in (alone.0, λ nobody. too_long e l (alone.1 nobody))
  line_alone w w2 number line replies (no_command {lines = lines} r n d) none =
      let alone = drained_alone w w2 lines d none in (alone.0, λ nobody. no_command r n (alone.1 nobody))
  line_alone w w2 number line replies (line_out_of_memory {lines = lines} s r d) none =
      let alone = drained_alone w w2 lines d none in (alone.0, λ nobody. line_out_of_memory s r (alone.1 nobody))

  line_amid : (w w2 : ScriptState) (number : ℕ) (line : List ℕ) (replies : List Reply) → NobodyStands w
      → AnswersLine Drains may_run_out settings files w number line replies w2 → AnswersLine DrainsAmidFaults may_run_out settings files w number line replies w2
  line_amid w w2 number line replies h (skipped e) = skipped e
  line_amid w w2 number line replies h (invoked i r a n x) = invoked i r a n x
  line_amid w w2 number line replies h (obeyed {lines = lines} {w1 = w1} r a d x) = obeyed r a (drained_amid w w1 lines h d) x
  line_amid w w2 number line replies h (too_long {lines = lines} e l d) = too_long e l (drained_amid w w2 lines h d)
  line_amid w w2 number line replies h (no_command {lines = lines} r n d) = no_command r n (drained_amid w w2 lines h d)
  line_amid w w2 number line replies h (line_out_of_memory {lines = lines} s r d) = line_out_of_memory s r (drained_amid w w2 lines h d)

  pub lines_none : (w w2 : ScriptState) (number : ℕ) (lines : List (List ℕ)) (replies : List Reply)
      → AnswersLines Drains may_run_out settings files w number lines replies w2 → AddsNone w w2
  lines_none w w2 number [] replies x = subst (AddsNone w) (sym x.1) (same w)
  lines_none w w2 number (line ∷ lines) replies (here, rest, between, e, x, more) =
      none_then w between w2 (line_none w between number line here x) (lines_none between w2 (number + 1) lines rest more)

  lines_alone : (w w2 : ScriptState) (number : ℕ) (lines : List (List ℕ)) (replies : List Reply)
      → AnswersLines DrainsAmidFaults may_run_out settings files w number lines replies w2 → w2.faults_met ≡ []
      → (w.faults_met ≡ []) × (NobodyStands w → AnswersLines Drains may_run_out settings files w number lines replies w2)
  lines_alone w w2 number [] replies x none = (subst (λ (k : ScriptState). k.faults_met ≡ []) x.1 none, λ nobody. x)
  lines_alone w w2 number (line ∷ lines) replies (here, rest, between, e, x, more) none =
      let later = lines_alone between w2 (number + 1) lines rest more none in
      let first = line_alone w between number line here x later.0 in
      (first.0, λ nobody. let alone = first.1 nobody in (here, rest, between, e, alone, later.1 ((line_none w between number line here alone).1 nobody)))

  lines_amid : (w w2 : ScriptState) (number : ℕ) (lines : List (List ℕ)) (replies : List Reply) → NobodyStands w
      → AnswersLines Drains may_run_out settings files w number lines replies w2
      → AnswersLines DrainsAmidFaults may_run_out settings files w number lines replies w2
  lines_amid w w2 number [] replies nobody x = x
  lines_amid w w2 number (line ∷ lines) replies nobody (here, rest, between, e, x, more) =
      (here, rest, between, e, line_amid w between number line here nobody x, lines_amid between w2 (number + 1) lines rest ((line_none w between number line here x).1 nobody) more)

  pub script_alone : (lines : List (List ℕ)) (replies : List Reply) (amid : AnswersScript DrainsAmidFaults may_run_out settings files lines replies) → amid.after.faults_met ≡ []
      → AnswersScript Drains may_run_out settings files lines replies
  script_alone lines replies x none =
      let drains = drained_alone x.before x.after x.last x.drains none in
      let answers = (lines_alone empty_script x.before 1 lines x.to_lines x.answers drains.0).1 tt in
      record {
        before = x.before;
        after = x.after;
        to_lines = x.to_lines;
        last = x.last;
        answers = answers;
        drains = drains.1 ((lines_none empty_script x.before 1 lines x.to_lines answers).1 tt);
        replies_are = x.replies_are;
      }

  script_amid : (lines : List (List ℕ)) (replies : List Reply) → AnswersScript Drains may_run_out settings files lines replies
      → (amid : AnswersScript DrainsAmidFaults may_run_out settings files lines replies) × (amid.after.faults_met ≡ [])
  script_amid lines replies x =
      let before = lines_none empty_script x.before 1 lines x.to_lines x.answers in (
        record {
          before = x.before;
          after = x.after;
          to_lines = x.to_lines;
          last = x.last;
          answers = lines_amid empty_script x.before 1 lines x.to_lines tt x.answers;
          drains = drained_amid x.before x.after x.last (before.1 tt) x.drains;
          replies_are = x.replies_are;
        },
        (drained_none x.before x.after x.last x.drains).0 ∙ before.0,
      )

pub lines_leave_nobody : LinesLeaveNobody
lines_leave_nobody may_run_out settings files lines replies w x = (lines_none may_run_out settings files empty_script w 1 lines replies x).1 tt

pub faultless_lines : FaultlessLines
faultless_lines may_run_out settings files lines replies w = (
  λ x. (lines_alone may_run_out settings files empty_script w 1 lines replies x.0 x.1).1 tt,
  λ x. (lines_amid may_run_out settings files empty_script w 1 lines replies tt x, (lines_none may_run_out settings files empty_script w 1 lines replies x).0),
)

pub faultless_scripts : FaultlessScripts
faultless_scripts may_run_out settings files lines replies =
    (λ x. script_alone may_run_out settings files lines replies x.0 x.1, script_amid may_run_out settings files lines replies)
