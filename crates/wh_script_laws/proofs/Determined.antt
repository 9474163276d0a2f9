-- The answers to a script are determined.
use Rattle.std.proofs.Common.{◌≡◌, ℕ, ◌+◌, ◌<◌, true, false, List, [], ◌∷◌, ◌++◌, length, ℤ, refl, sym, ap, subst, ◌∙◌, arith}
use Rattle.std.specs.List.{AllZip}
use Rattle.std.proofs.lemmas.Bool.{false≢true}
use Rattle.wh_script_model.specs.{is_skipped, longest_line, Command, load, invoke, AsksCommand, Reply, error, NamedInstance, empty_script, HasInstance, ReceivesCall, Files, IsObeyed, IsRead, AnswersLine, skipped, invoked, obeyed, too_long, no_command, line_out_of_memory, AnswersLines}
use Rattle.wh_script_model.specs.Settings.{Settings}
use Rattle.wh_script_model.specs.ScriptState.{ScriptState}
use Rattle.wh_script_model.specs.Drains.{Drains}
use Rattle.wh_script_model.proofs.Draining.{drains_once}
use Rattle.wh_commands.proofs.OneCommand.{one_command}
use Rattle.wh_script_laws.specs.Determined.{IsKnownFile, AreKnown, IsAlike, LinesAreDetermined, AnswersAreDetermined, AnswersOutOfMemoryAreDetermined}
use Rattle.wh_script_laws.proofs.Scarce.{wants_are_named}
use Rattle.wh_script_laws.proofs.DeterminedNames.{IsOrderly, nothing_orderly, all_begun, well_there, one_guest_named, drain_orderly, drain_names}
use Rattle.wh_script_laws.proofs.DeterminedParts.{call_once}
use Rattle.wh_script_laws.proofs.DeterminedCommands.{IsOnce, all_alike, same_once, command_once, nobody_to_invoke}
use Rattle.wh_script_laws.proofs.DeterminedOrder.{line_orderly}

-- ---- replies behind others

join_alike : (xs ys us vs : List Reply) → AllZip IsAlike xs us → AllZip IsAlike ys vs → AllZip IsAlike (xs ++ ys) (us ++ vs)
join_alike [] ys [] vs p q = q
join_alike [] ys (u ∷ us) vs p q = absurd p
join_alike (x ∷ xs) ys [] vs p q = absurd p
join_alike (x ∷ xs) ys (u ∷ us) vs p q = (p.0, join_alike xs ys us vs p.1 q)

behind : (xs ys us vs : List Reply) → xs ≡ us → AllZip IsAlike ys vs → AllZip IsAlike (xs ++ ys) (us ++ vs)
behind xs ys us vs e q = join_alike xs ys us vs (subst (AllZip IsAlike xs) e (all_alike xs)) q

-- ---- which lines exclude one another

read_or_long : (line : List ℕ) → IsRead line → longest_line < length line → ⊥
read_or_long line read long = let short = read.1 in omega (arith, short, long)

same_invoke : (inst inst2 export export2 : List ℕ) (fuel fuel2 : ℕ) (args args2 : List ℤ)
    → invoke inst export fuel args ≡ invoke inst2 export2 fuel2 args2
    → (inst ≡ inst2) × (export ≡ export2) × (fuel ≡ fuel2) × (args ≡ args2)
same_invoke inst inst2 export export2 fuel fuel2 args args2 e = (cc e, cc e, cc e, cc e)

module _ (settings : Settings) (files : Files) where
  -- if the line loads a file, what that holds is known
  abbrev AreKnownTo : List ℕ → Type 0
  AreKnownTo line = (name path : List ℕ) → AsksCommand line (load name path) → IsKnownFile files path

  -- who is there before a drain is there behind it, so that an `invoke` has no reply of its own
  not_invoked : (w w1 w2 : ScriptState) (number : ℕ) (line : List ℕ) (command : Command) (inst export : List ℕ) (fuel : ℕ) (args : List ℤ) (i : ℕ) (g : NamedInstance)
      (lines replies : List Reply) → AsksCommand line (invoke inst export fuel args) → HasInstance w inst i g → AsksCommand line command
      → Drains w lines w1 → IsObeyed false settings files w1 number command replies w2 → ⊥
  not_invoked w w1 w2 number line command inst export fuel args i g lines replies asks has asks2 d x =
      let same = one_command line command (invoke inst export fuel args) asks2 asks in
      let none = nobody_to_invoke settings files w1 number inst export fuel args replies w2
      (subst (λ (c : Command). IsObeyed false settings files w1 number c replies w2) same x) in
      drain_names w w1 lines inst i g d has none

  -- ---- a line

  invoked_once : (w a b : ScriptState) (line inst export inst2 export2 : List ℕ) (fuel fuel2 : ℕ) (args args2 : List ℤ) (i j : ℕ) (g k : NamedInstance)
      → IsOrderly w → AsksCommand line (invoke inst export fuel args) → HasInstance w inst i g → ReceivesCall false w i g export fuel args a
      → AsksCommand line (invoke inst2 export2 fuel2 args2) → HasInstance w inst2 j k → ReceivesCall false w j k export2 fuel2 args2 b → a ≡ b
  invoked_once w a b line inst export inst2 export2 fuel fuel2 args args2 i j g k o asks has x asks2 has2 y =
      let same = same_invoke inst2 inst export2 export fuel2 fuel args2 args (one_command line _ _ asks2 asks) in
      let one = one_guest_named w inst j i k g o (subst (λ n. HasInstance w n j k) same.0 has2) has in
      call_once w i g export fuel args (well_there w inst i g o has).valid x
      (subst (λ n. ReceivesCall false w n g export fuel args b) one.0
      (subst (λ (h : NamedInstance). ReceivesCall false w j h export fuel args b) one.1
      (subst (λ ns. ReceivesCall false w j k export fuel ns b) same.3
      (subst (λ n. ReceivesCall false w j k export n args2 b) same.2
      (subst (λ n. ReceivesCall false w j k n fuel2 args2 b) same.1 y)))))

  obeyed_once : (w w1 v1 a b : ScriptState) (number : ℕ) (line : List ℕ) → AreKnownTo line → (command command2 : Command) (lines lines2 replies replies2 : List Reply)
      → IsOrderly w → AsksCommand line command → Drains w lines w1 → IsObeyed false settings files w1 number command replies a
      → AsksCommand line command2 → Drains w lines2 v1 → IsObeyed false settings files v1 number command2 replies2 b
      → IsOnce (lines ++ replies) (lines2 ++ replies2) a b
  obeyed_once w w1 v1 a b number line known command command2 lines lines2 replies replies2 o asks d x asks2 d2 y =
      let drained = drains_once w w1 v1 lines lines2 (all_begun w o) d d2 in
      let same = one_command line command2 command asks2 asks in
      let once = command_once settings files w1 number command (λ name path e. known name path (subst (AsksCommand line) e asks)) replies replies2 a b (drain_orderly w w1 lines d o) x
      (subst (λ (k : ScriptState). IsObeyed false settings files k number command replies2 b) (sym drained.1)
      (subst (λ (c : Command). IsObeyed false settings files v1 number c replies2 b) same y)) in
      (behind lines replies lines2 replies2 drained.0 once.0, once.1)

  error_once : (w a b : ScriptState) (number : ℕ) (lines lines2 : List Reply) → IsOrderly w → Drains w lines a → Drains w lines2 b
      → IsOnce (lines ++ error 1 number ∷ []) (lines2 ++ error 1 number ∷ []) a b
  error_once w a b number lines lines2 o d d2 =
      let drained = drains_once w a b lines lines2 (all_begun w o) d d2 in
      same_once _ _ a b (ap (λ k. k ++ error 1 number ∷ []) drained.0) drained.1

  not_skipped : (line : List ℕ) → is_skipped line ≡ true → is_skipped line ≡ false → ⊥
  not_skipped line e f = false≢true (sym f ∙ e)

  line_once : (w : ScriptState) (number : ℕ) (line : List ℕ) → AreKnownTo line → {replies replies2 : List Reply} {a b : ScriptState} → IsOrderly w
      → AnswersLine Drains false settings files w number line replies a → AnswersLine Drains false settings files w number line replies2 b
      → IsOnce replies replies2 a b
  line_once w number line known o (line_out_of_memory s read d) y = absurd (false≢true s)
  line_once w number line known o (skipped e) (skipped f) = (tt, refl)
  line_once w number line known o (skipped e) (invoked i read asks has x) = absurd (not_skipped line e read.0)
  line_once w number line known o (skipped e) (obeyed read asks d x) = absurd (not_skipped line e read.0)
  line_once w number line known o (skipped e) (too_long f long d) = absurd (not_skipped line e f)
  line_once w number line known o (skipped e) (no_command read none d) = absurd (not_skipped line e read.0)
  line_once w number line known o (skipped e) (line_out_of_memory s read d) = absurd (false≢true s)
  line_once w number line known o (invoked i read asks has x) (skipped f) = absurd (not_skipped line f read.0)
  line_once w number line known {a = a} {b = b} o (invoked {inst = inst} {export = export} {fuel = fuel} {args = args} i {g = g} read asks has x) (invoked {inst = inst2} {export = export2} {fuel = fuel2} {args = args2} j {g = k} read2 asks2 has2 y) =
      (tt, invoked_once w a b line inst export inst2 export2 fuel fuel2 args args2 i j g k o asks has x asks2 has2 y)
  line_once w number line known {b = b} o (invoked {inst = inst} {export = export} {fuel = fuel} {args = args} i {g = g} read asks has x) (obeyed {command = command} {lines = lines} {replies = replies} {w1 = w1} read2 asks2 d y) =
      absurd (not_invoked w w1 b number line command inst export fuel args i g lines replies asks has asks2 d y)
  line_once w number line known o (invoked i read asks has x) (too_long f long d) = absurd (read_or_long line read long)
  line_once w number line known o (invoked {inst = inst} {export = export} {fuel = fuel} {args = args} i read asks has x) (no_command read2 none d) = absurd (none (invoke inst export fuel args) asks)
  line_once w number line known o (invoked i read asks has x) (line_out_of_memory s read2 d) = absurd (false≢true s)
  line_once w number line known o (obeyed read asks d x) (skipped f) = absurd (not_skipped line f read.0)
  line_once w number line known {a = a} o (obeyed {command = command} {lines = lines} {replies = replies} {w1 = w1} read asks d x) (invoked {inst = inst} {export = export} {fuel = fuel} {args = args} i {g = g} read2 asks2 has y) =
      absurd (not_invoked w w1 a number line command inst export fuel args i g lines replies asks2 has asks d x)
  line_once w number line known {a = a} {b = b} o (obeyed {command = command} {lines = lines} {replies = rest} {w1 = w1} read asks d x) (obeyed {command = command2} {lines = lines2} {replies = rest2} {w1 = v1} read2 asks2 d2 y) =
      obeyed_once w w1 v1 a b number line known command command2 lines lines2 rest rest2 o asks d x asks2 d2 y
  line_once w number line known o (obeyed read asks d x) (too_long f long d2) = absurd (read_or_long line read long)
  line_once w number line known o (obeyed {command = command} read asks d x) (no_command read2 none d2) = absurd (none command asks)
  line_once w number line known o (obeyed read asks d x) (line_out_of_memory s read2 d2) = absurd (false≢true s)
  line_once w number line known o (too_long e long d) (skipped f) = absurd (not_skipped line f e)
  line_once w number line known o (too_long e long d) (invoked i read asks has y) = absurd (read_or_long line read long)
  line_once w number line known o (too_long e long d) (obeyed read asks d2 y) = absurd (read_or_long line read long)
  line_once w number line known {a = a} {b = b} o (too_long {lines = lines} e long d) (too_long {lines = lines2} f long2 d2) = error_once w a b number lines lines2 o d d2
  line_once w number line known o (too_long e long d) (no_command read none d2) = absurd (read_or_long line read long)
  line_once w number line known o (too_long e long d) (line_out_of_memory s read d2) = absurd (false≢true s)
  line_once w number line known o (no_command read none d) (skipped f) = absurd (not_skipped line f read.0)
  line_once w number line known o (no_command read none d) (invoked {inst = inst} {export = export} {fuel = fuel} {args = args} i read2 asks has y) = absurd (none (invoke inst export fuel args) asks)
  line_once w number line known o (no_command read none d) (obeyed {command = command} read2 asks d2 y) = absurd (none command asks)
  line_once w number line known o (no_command read none d) (too_long f long d2) = absurd (read_or_long line read long)
  line_once w number line known {a = a} {b = b} o (no_command {lines = lines} read none d) (no_command {lines = lines2} read2 none2 d2) = error_once w a b number lines lines2 o d d2
  line_once w number line known o (no_command read none d) (line_out_of_memory s read2 d2) = absurd (false≢true s)

  -- ---- all lines, and the drain at the end

  lines_once : (w a b : ScriptState) (number : ℕ) (lines : List (List ℕ)) → AreKnown files lines → (replies replies2 : List Reply) → IsOrderly w
      → AnswersLines Drains false settings files w number lines replies a → AnswersLines Drains false settings files w number lines replies2 b
      → IsOnce replies replies2 a b × IsOrderly a
  lines_once w a b number [] known replies replies2 o x y =
      (same_once replies replies2 a b (x.0 ∙ sym y.0) (x.1 ∙ sym y.1), subst IsOrderly (sym x.1) o)
  lines_once w a b number (line ∷ lines) known replies replies2 o (here, rest, between, e, x, more) (here2, rest2, between2, e2, y, more2) =
      let head = line_once w number line known.0 o x y in
      let tail = lines_once between a b (number + 1) lines known.1 rest rest2 (line_orderly false settings files w between number line here x o) more
      (subst (λ (k : ScriptState). AnswersLines Drains false settings files k (number + 1) lines rest2 b) (sym head.1) more2) in
      let alike : AllZip IsAlike (here ++ rest) (here2 ++ rest2) = join_alike here rest here2 rest2 head.0 tail.0.0 in
      ((subst (λ k. AllZip IsAlike k replies2) (sym e) (subst (AllZip IsAlike (here ++ rest)) (sym e2) alike), tail.0.1), tail.1)

pub lines_are_determined : LinesAreDetermined
lines_are_determined settings files lines replies replies2 w w2 known x y =
    (lines_once settings files empty_script w w2 1 lines known replies replies2 nothing_orderly x y).0

pub answers_are_determined : AnswersAreDetermined
answers_are_determined settings files lines replies replies2 known x y =
    let all = lines_once settings files empty_script x.before y.before 1 lines known x.to_lines y.to_lines nothing_orderly x.answers y.answers in
    let drained = drains_once x.before x.after y.after x.last y.last (all_begun x.before all.1) x.drains
    (subst (λ (k : ScriptState). Drains k y.last y.after) (sym all.0.1) y.drains) in
    let ends : AllZip IsAlike x.last y.last = subst (AllZip IsAlike x.last) drained.0 (all_alike x.last) in
    let alike : AllZip IsAlike (x.to_lines ++ x.last) (y.to_lines ++ y.last) = join_alike x.to_lines x.last y.to_lines y.last all.0.0 ends in
    subst (λ k. AllZip IsAlike k replies2) (sym x.replies_are) (subst (AllZip IsAlike (x.to_lines ++ x.last)) (sym y.replies_are) alike)

pub answers_out_of_memory_are_determined : AnswersOutOfMemoryAreDetermined
answers_out_of_memory_are_determined settings files lines replies replies2 known x y plenty plenty2 =
    answers_are_determined settings files lines replies replies2 known
    (wants_are_named settings files lines replies x plenty) (wants_are_named settings files lines replies2 y plenty2)
