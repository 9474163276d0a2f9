-- The lines of a drain say of calls how they are, and nothing else.
use Rattle.std.proofs.Common.{ℕ, ◌+◌, List, [], ◌∷◌, ◌++◌, Option, subst, sym, ◌∙◌}
use Rattle.std.specs.List.{AllByRecursion}
use Rattle.wh_script_model.specs.{Reply, Caller, CallStatus, call_is, error, NamedInstance, Invoked, PrintsLine, as_before, anew, PrintsStart, has_none, has_one, PrintsCall, is_refused, is_taken, PrintStarts, PrintCalls, DrainsAmid}
use Rattle.wh_script_model.specs.ScriptState.{ScriptState}
use Rattle.wh_script.specs.Speaking.{EndsOutOfMemory}

-- it says of a call how it is
abbrev IsOfCall : Reply → Type 0
IsOfCall (call_is who status) = Unit {0}
IsOfCall other = ⊥

abbrev AreOfCalls : List Reply → Type 0
AreOfCalls lines = AllByRecursion IsOfCall lines

both_of_calls : (xs ys : List Reply) → AreOfCalls xs → AreOfCalls ys → AreOfCalls (xs ++ ys)
both_of_calls [] ys p q = q
both_of_calls (x ∷ xs) ys p q = (p.0, both_of_calls xs ys p.1 q)

line_of_call : (who : Caller) (was : Option CallStatus) (status : CallStatus) (lines : List Reply) → PrintsLine who was status lines → AreOfCalls lines
line_of_call who was status _ (as_before same) = tt
line_of_call who was status _ (anew other) = (tt, tt)

start_of_call : (g g2 : NamedInstance) (lines : List Reply) → PrintsStart g lines g2 → AreOfCalls lines
start_of_call g _ _ (has_none p q) = tt
start_of_call g _ lines (has_one n first x) = line_of_call _ _ _ lines x

call_of_call : (instances : List NamedInstance) (number : ℕ) (v v2 : Invoked) (lines : List Reply) → PrintsCall instances number v lines v2 → AreOfCalls lines
call_of_call instances number v _ lines (is_refused o x) = line_of_call _ _ _ lines x
call_of_call instances number v _ lines (is_taken o g c x) = line_of_call _ _ _ lines x

starts_of_calls : (gs gs2 : List NamedInstance) (lines : List Reply) → PrintStarts gs lines gs2 → AreOfCalls lines
starts_of_calls [] gs2 lines (none, after) = subst AreOfCalls (sym none) tt
starts_of_calls (g ∷ gs) gs2 lines (here, rest, g2, others, is, after, first, more) =
    subst AreOfCalls (sym is) (both_of_calls here rest (start_of_call g g2 here first) (starts_of_calls gs others rest more))

calls_of_calls : (instances : List NamedInstance) (number : ℕ) (vs vs2 : List Invoked) (lines : List Reply) → PrintCalls instances number vs lines vs2 → AreOfCalls lines
calls_of_calls instances number [] vs2 lines (none, after) = subst AreOfCalls (sym none) tt
calls_of_calls instances number (v ∷ vs) vs2 lines (here, rest, v2, others, is, after, first, more) =
    subst AreOfCalls (sym is)
    (both_of_calls here rest (call_of_call instances number v v2 here first) (calls_of_calls instances (number + 1) vs others rest more))

no_error_last : (before : List Reply) (number : ℕ) → AreOfCalls (before ++ error 5 number ∷ []) → ⊥
no_error_last [] number all = all.0
no_error_last (line ∷ before) number all = no_error_last before number all.1

-- so memory doesn't run out at its end
pub drained_in_memory : (faults : List ℕ) (m m2 : ScriptState) (lines : List Reply) (number : ℕ) → DrainsAmid faults m lines m2 → EndsOutOfMemory number lines → ⊥
drained_in_memory faults m m2 lines number drains (before, is) =
    let starts = starts_of_calls drains.run drains.instances drains.starts drains.print_starts in
    let calls = calls_of_calls drains.instances 1 m.invoked drains.invoked drains.calls drains.print_calls in
    no_error_last before number (subst AreOfCalls (sym drains.lines_are ∙ is) (both_of_calls drains.starts drains.calls starts calls))
