-- Where no reply names out of memory, no memory ran out.
use Rattle.std.proofs.Common.{◌≡◌, ℕ, ◌+◌, true, false, List, [], ◌∷◌, ◌++◌, slice_get, Some, None, zero, suc, refl, sym, subst, rules}
use Rattle.wh_script_model.specs.Settings.{Settings}
use Rattle.wh_script_model.specs.{Command, Reply, NamedInstance, Invoked, empty_script, call_rejected, as_before, anew, PrintsCall, is_refused, is_taken, PrintCalls, ReceivesModule, module_is_kept, module_isnt_kept, module_out_of_memory, decoder_out_of_memory, validator_out_of_memory, linker_out_of_memory, host_out_of_memory, ReceivesInstance, is_admitted, isnt_admitted, admission_out_of_memory, ReceivesCall, instance_is_gone, isnt_invoked, is_invoked, call_out_of_memory, Files, IsObeyed, module_name_is_taken, no_file, module_comes, no_such_module, instance_name_is_taken, instance_comes, no_such_instance, is_drained, is_scanned, is_reported, is_refueled, no_one_to_refuel, no_call_to_refuel, is_cancelled, no_one_to_cancel, no_call_to_cancel, is_retried, no_one_to_retry, no_fault_to_retry, is_released, no_one_to_release, AnswersLine, skipped, invoked, obeyed, too_long, no_command, line_out_of_memory, AnswersLines, AnswersScript}
use Rattle.wh_script_model.specs.ScriptState.{ScriptState}
use Rattle.wh_script_model.specs.Drains.{Drains}
use Rattle.wh_script_laws.specs.OutOfMemory.{IsOutOfMemory, NoneIsOutOfMemory}
use Rattle.wh_script_laws.proofs.CommandsKnown.{last_there}

first_part : (xs ys : List Reply) → NoneIsOutOfMemory (xs ++ ys) → NoneIsOutOfMemory xs
first_part [] ys h = tt
first_part (x ∷ xs) ys h = (h.0, first_part xs ys h.1)

last_part : (xs ys : List Reply) → NoneIsOutOfMemory (xs ++ ys) → NoneIsOutOfMemory ys
last_part [] ys h = h
last_part (x ∷ xs) ys h = last_part xs ys h.1

joined : (xs ys : List Reply) → NoneIsOutOfMemory xs → NoneIsOutOfMemory ys → NoneIsOutOfMemory (xs ++ ys)
joined [] ys h k = k
joined (x ∷ xs) ys h k = (h.0, joined xs ys h.1 k)

-- ---- an `invoke` for which memory ran out is said at the next drain

abbrev IsUnsaid : List Invoked → Type 0
IsUnsaid vs = (i : ℕ) × (v : Invoked) × (slice_get vs i ≡ Some v) × (v.outcome ≡ call_rejected 7) × (v.last_printed ≡ None)

line_says : (instances : List NamedInstance) (number : ℕ) (v v2 : Invoked) (lines : List Reply) → v.outcome ≡ call_rejected 7 → v.last_printed ≡ None
    → PrintsCall instances number v lines v2 → NoneIsOutOfMemory lines → ⊥
line_says instances number v v2 lines outcome last_printed (is_refused e (as_before same)) plenty = absurd (cc)
line_says instances number v v2 lines outcome last_printed (is_refused e (anew other)) plenty = plenty.0 (cc)
line_says instances number v v2 lines outcome last_printed (is_taken e g c says) plenty = absurd (cc)

calls_say : (instances : List NamedInstance) (number : ℕ) (vs after : List Invoked) (lines : List Reply) → PrintCalls instances number vs lines after
    → IsUnsaid vs → NoneIsOutOfMemory lines → ⊥
calls_say instances number [] after lines says (i, v, at, outcome, last_printed) plenty = absurd (cc)
calls_say instances number (x ∷ vs) after lines says (zero, v, at, outcome, last_printed) plenty = search (rules, line_says, first_part)
calls_say instances number (x ∷ vs) after lines says (suc i, v, at, outcome, last_printed) plenty =
    calls_say instances (number + 1) vs says.3 says.1 says.7 (i, v, at, outcome, last_printed) (last_part says.0 says.1 (subst NoneIsOutOfMemory says.4 plenty))

drain_says : (w w2 : ScriptState) (lines : List Reply) → Drains w lines w2 → IsUnsaid w.invoked → NoneIsOutOfMemory lines → ⊥
drain_says w w2 lines d unsaid plenty = calls_say d.instances 1 w.invoked d.invoked d.calls d.print_calls unsaid (last_part d.starts d.calls (subst NoneIsOutOfMemory d.lines_are plenty))

stays_unsaid : (vs : List Invoked) (v : Invoked) → IsUnsaid vs → IsUnsaid (vs ++ v ∷ [])
stays_unsaid vs v (i, x, at, outcome, last_printed) = (i, x, last_there vs v i x at, outcome, last_printed)

call_leaves : (w w2 : ScriptState) (i : ℕ) (g : NamedInstance) (name : List ℕ) (fuel : ℕ) (given : _) → ReceivesCall true w i g name fuel given w2 → IsUnsaid w.invoked → IsUnsaid w2.invoked
call_leaves w w2 i g name fuel given (instance_is_gone e) u = stays_unsaid w.invoked _ u
call_leaves w w2 i g name fuel given (isnt_invoked fault e bar) u = stays_unsaid w.invoked _ u
call_leaves w w2 i g name fuel given (is_invoked vs e bar own args) u = stays_unsaid w.invoked _ u
call_leaves w w2 i g name fuel given (call_out_of_memory s e bar) u = stays_unsaid w.invoked _ u

module _ (settings : Settings) (files : Files) where
  here_leaves : (w w2 : ScriptState) (number : ℕ) (line : List ℕ) (replies : List Reply) → AnswersLine Drains true settings files w number line replies w2 → IsUnsaid w.invoked
      → NoneIsOutOfMemory replies → IsUnsaid w2.invoked
  here_leaves w w2 number line replies (skipped e) u plenty = u
  here_leaves w w2 number line replies (invoked {inst = inst} {export = export} {fuel = fuel} {args = args} i {g = g} read asks has calls) u plenty = call_leaves w w2 i g export fuel args calls u
  here_leaves w w2 number line replies (obeyed {lines = lines} {replies = rest} {w1 = w1} read asks d is) u plenty = absurd (drain_says w w1 lines d u (first_part lines rest plenty))
  here_leaves w w2 number line replies (too_long {lines = lines} {w1 = w1} e long d) u plenty = absurd (drain_says w w1 lines d u (first_part lines _ plenty))
  here_leaves w w2 number line replies (no_command {lines = lines} {w1 = w1} read none d) u plenty = absurd (drain_says w w1 lines d u (first_part lines _ plenty))
  here_leaves w w2 number line replies (line_out_of_memory {lines = lines} {w1 = w1} s read d) u plenty = absurd (drain_says w w1 lines d u (first_part lines _ plenty))

  lines_say : (w w2 w3 : ScriptState) (number : ℕ) (lines : List (List ℕ)) (replies last : List Reply) → AnswersLines Drains true settings files w number lines replies w2
      → Drains w2 last w3 → IsUnsaid w.invoked → NoneIsOutOfMemory replies → NoneIsOutOfMemory last → ⊥
  lines_say w w2 w3 number [] replies last p d u plenty end = drain_says w2 w3 last d (subst (λ (m : ScriptState). IsUnsaid m.invoked) (sym p.1) u) end
  lines_say w w2 w3 number (line ∷ lines) replies last p d u plenty end =
      let all = subst NoneIsOutOfMemory p.3 plenty in
      lines_say p.2 w2 w3 (number + 1) lines p.1 last p.5 d (here_leaves w p.2 number line p.0 p.4 u (first_part p.0 p.1 all)) (last_part p.0 p.1 all) end

  -- ---- so it was wanted for nothing

  module_plain : (w w2 : ScriptState) (name bytes : List ℕ) (reply : Reply) → ReceivesModule true w name bytes reply w2 → ¬ (IsOutOfMemory reply)
      → ReceivesModule false w name bytes reply w2
  module_plain w w2 name bytes reply (module_is_kept accepted room) plenty = module_is_kept accepted room
  module_plain w w2 name bytes reply (module_isnt_kept why) plenty = module_isnt_kept why
  module_plain w w2 name bytes reply (module_out_of_memory s decoder_out_of_memory) plenty = absurd (plenty refl)
  module_plain w w2 name bytes reply (module_out_of_memory s (validator_out_of_memory m)) plenty = absurd (plenty refl)
  module_plain w w2 name bytes reply (module_out_of_memory s (linker_out_of_memory m valid fits)) plenty = absurd (plenty tt)
  module_plain w w2 name bytes reply (module_out_of_memory s (host_out_of_memory accepted room)) plenty = absurd (plenty tt)

  guest_plain : (w w2 : ScriptState) (name : List ℕ) (m : _) (p : _) (reply : Reply) → ReceivesInstance true settings w name m p reply w2 → ¬ (IsOutOfMemory reply)
      → ReceivesInstance false settings w name m p reply w2
  guest_plain w w2 name m p reply (is_admitted limit initial) plenty = is_admitted limit initial
  guest_plain w w2 name m p reply (isnt_admitted fault first) plenty = isnt_admitted fault first
  guest_plain w w2 name m p reply (admission_out_of_memory s limit) plenty = absurd (plenty refl)

  call_plain : (w w2 : ScriptState) (i : ℕ) (g : NamedInstance) (name : List ℕ) (fuel : ℕ) (given : _) → ReceivesCall true w i g name fuel given w2
      → ¬ (IsUnsaid w2.invoked) → ReceivesCall false w i g name fuel given w2
  call_plain w w2 i g name fuel given (instance_is_gone e) plenty = instance_is_gone e
  call_plain w w2 i g name fuel given (isnt_invoked fault e bar) plenty = isnt_invoked fault e bar
  call_plain w w2 i g name fuel given (is_invoked vs e bar own args) plenty = is_invoked vs e bar own args
  call_plain w w2 i g name fuel given (call_out_of_memory s e bar) plenty = absurd (plenty (new_last w.invoked)) where
    new_last : (vs : List Invoked) → IsUnsaid (vs ++ record { outcome = call_rejected 7; last_printed = None } ∷ [])
    new_last [] = (0, record { outcome = call_rejected 7; last_printed = None }, refl, refl, refl)
    new_last (v ∷ vs) = let more = new_last vs in (suc more.0, more.1, more.2, more.3, more.4)

  obeyed_plain : (w w2 : ScriptState) (number : ℕ) (command : Command) (replies : List Reply) → IsObeyed true settings files w number command replies w2
      → NoneIsOutOfMemory replies → IsObeyed false settings files w number command replies w2
  obeyed_plain w w2 number command replies (module_name_is_taken names has) plenty = module_name_is_taken names has
  obeyed_plain w w2 number command replies (no_file none file) plenty = no_file none file
  obeyed_plain w w2 number command replies (module_comes names none brings receives) plenty = module_comes names none brings (module_plain w w2 _ _ _ receives plenty.0)
  obeyed_plain w w2 number command replies (no_such_module none) plenty = no_such_module none
  obeyed_plain w w2 number command replies (instance_name_is_taken i has taken) plenty = instance_name_is_taken i has taken
  obeyed_plain w w2 number command replies (instance_comes has none receives) plenty = instance_comes has none (guest_plain w w2 _ _ _ _ receives plenty.0)
  obeyed_plain w w2 number command replies (no_such_instance for none) plenty = no_such_instance for none
  obeyed_plain w w2 number command replies is_drained plenty = is_drained
  obeyed_plain w w2 number command replies is_scanned plenty = is_scanned
  obeyed_plain w w2 number command replies is_reported plenty = is_reported
  obeyed_plain w w2 number command replies (is_refueled i has live open_call) plenty = is_refueled i has live open_call
  obeyed_plain w w2 number command replies (no_one_to_refuel i has gone) plenty = no_one_to_refuel i has gone
  obeyed_plain w w2 number command replies (no_call_to_refuel i has live none) plenty = no_call_to_refuel i has live none
  obeyed_plain w w2 number command replies (is_cancelled i has live open_call) plenty = is_cancelled i has live open_call
  obeyed_plain w w2 number command replies (no_one_to_cancel i has gone) plenty = no_one_to_cancel i has gone
  obeyed_plain w w2 number command replies (no_call_to_cancel i has live none) plenty = no_call_to_cancel i has live none
  obeyed_plain w w2 number command replies (no_one_to_retry i has gone) plenty = no_one_to_retry i has gone
  obeyed_plain w w2 number command replies (is_retried i has live stands) plenty = is_retried i has live stands
  obeyed_plain w w2 number command replies (no_fault_to_retry i has live none) plenty = no_fault_to_retry i has live none
  obeyed_plain w w2 number command replies (is_released i z has live replay) plenty = is_released i z has live replay
  obeyed_plain w w2 number command replies (no_one_to_release i has gone) plenty = no_one_to_release i has gone

  line_plain : (w w2 : ScriptState) (number : ℕ) (line : List ℕ) (replies : List Reply) → AnswersLine Drains true settings files w number line replies w2
      → NoneIsOutOfMemory replies → ¬ (IsUnsaid w2.invoked) → AnswersLine Drains false settings files w number line replies w2
  line_plain w w2 number line replies (skipped e) plenty unsaid = skipped e
  line_plain w w2 number line replies (invoked i read asks has calls) plenty unsaid = invoked i read asks has (call_plain w w2 _ _ _ _ _ calls unsaid)
  line_plain w w2 number line replies (obeyed {command = command} {lines = lines} {replies = rest} {w1 = w1} read asks d is) plenty unsaid =
      obeyed read asks d (obeyed_plain w1 w2 number command rest is (last_part lines rest plenty))
  line_plain w w2 number line replies (too_long e long d) plenty unsaid = too_long e long d
  line_plain w w2 number line replies (no_command read none d) plenty unsaid = no_command read none d
  line_plain w w2 number line replies (line_out_of_memory {lines = lines} s read d) plenty unsaid = absurd ((last_part lines _ plenty).0 refl)

  lines_plain : (w w2 w3 : ScriptState) (number : ℕ) (lines : List (List ℕ)) (replies last : List Reply) → AnswersLines Drains true settings files w number lines replies w2
      → Drains w2 last w3 → NoneIsOutOfMemory replies → NoneIsOutOfMemory last → AnswersLines Drains false settings files w number lines replies w2
  lines_plain w w2 w3 number [] replies last p d plenty end = p
  lines_plain w w2 w3 number (line ∷ lines) replies last p d plenty end =
      let all = subst NoneIsOutOfMemory p.3 plenty in
      let back = last_part p.0 p.1 all in (
        p.0,
        p.1,
        p.2,
        p.3,
        line_plain w p.2 number line p.0 p.4 (first_part p.0 p.1 all) (λ u. lines_say p.2 w2 w3 (number + 1) lines p.1 last p.5 d u back end),
        lines_plain p.2 w2 w3 (number + 1) lines p.1 last p.5 d back end,
      )

pub wants_are_named : (settings : Settings) (files : Files) (lines : List (List ℕ)) (replies : List Reply) → AnswersScript Drains true settings files lines replies
    → NoneIsOutOfMemory replies → AnswersScript Drains false settings files lines replies
wants_are_named settings files lines replies a plenty =
    let all = subst NoneIsOutOfMemory a.replies_are plenty in
    record {
      before = a.before;
      after = a.after;
      to_lines = a.to_lines;
      last = a.last;
      answers = lines_plain settings files empty_script a.before a.after 1 lines a.to_lines a.last a.answers a.drains (first_part a.to_lines a.last all) (last_part a.to_lines a.last all);
      drains = a.drains;
      replies_are = a.replies_are;
    }
