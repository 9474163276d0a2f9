-- What a run comes to, of the call that it began with.
use Rattle.std.proofs.Common.{◌≡◌, ℕ, List, [], Option, None, false, cond, slice_get, refl, sym, ap, subst, ◌∙◌}
use Rattle.std.specs.List.{AllByRecursion}
use Rattle.wh_model.specs.declared.ValType.{ValType}
use Rattle.wh_model.specs.Format.{nothing}
use Rattle.wh_model.specs.Validity.{Context}
use Rattle.wh_model.specs.Execution.Store.{Instance, Store}
use Rattle.wh_model.specs.Execution.{Value, code, Config, config, store_of}
use Rattle.wh_model.specs.Focus.Focused.{Focused}
use Rattle.wh_model.specs.Focus.{running, finished, stopped, plug}
use Rattle.wh_control.specs.Represents.{Func, InRange, CallsState, RepresentsCalls}
use Rattle.wh_control.specs.declared.store.Store as stored
use Rattle.wh_control.specs.Parts.{ProgramParts, funcs_in}
use Rattle.wh_machine.specs.declared.machine.Machine.{Machine}
use Rattle.wh_machine.specs.declared.machine.Stepped.{Stepped}
use Rattle.wh_machine.specs.declared.machine.Stepped.TheVariants as steps
use Rattle.wh_machine.specs.Executing.{calls_of, ended_calls}
use Rattle.wh_machine.specs.MachineRuns.{calls_in, RepresentsInstance, RepresentsMachine}
use Rattle.wh_machine.specs.CallStates.{CallState, Setting}
use Rattle.wh_machine.specs.Stepping.{IsRun}
use Rattle.wh_call.specs.declared.calling.RunEnd.{RunEnd}
use Rattle.wh_call.specs.declared.calling.RunEnd.TheVariants.{Returned, Trapped, OutOfFuel, NotReady}
use Rattle.wh_call.specs.Ends.{HasStoreIn, EndsWithin, TakesTo, RunEndsWithin}

-- ---- stores

store_there : (c : Context) (funcs : List Func) (out : Option ValType) (m : CallsState) (s : Store) (to : Focused) → RepresentsCalls c funcs out m s to → store_of (plug to) ≡ s
store_there c funcs out m s (running s2 a ws) h = h.0
store_there c funcs out m s (finished s2 vs) h = h.0
store_there c funcs out m s (stopped s2 x) h = absurd h

-- what the machine represents has the store of its instance
pub stands_with : {p : ProgramParts} {m : Machine} {k : stored.Store} {flat : List ℕ} {most : ℕ} {out : Option ValType} {inst : Instance} {cfg : Config} → RepresentsMachine p m k flat most out inst cfg → (c : Context) × RepresentsInstance p k flat most c inst (store_of cfg)
stands_with {p} {m} {k} {flat} {most} {out} {inst} st =
    let same = ap store_of st.nested ∙ store_there st.context (funcs_in p) out (calls_in m) st.s st.focused st.calls in
    (st.context, subst (λ s. RepresentsInstance p k flat most st.context inst s) (sym same) st.around)

-- ---- results

abbrev values_in : Config → List Value
values_in (config s f (code vs is)) = vs
values_in c = []

fit_there : (c : Context) (funcs : List Func) (out : Option ValType) (m : CallsState) (s : Store) (to : Focused) → m.now ≡ None → RepresentsCalls c funcs out m s to → AllByRecursion InRange (values_in (plug to))
fit_there c funcs out m s (running s2 a ws) none h = let now = h.2.now in absurd (cc (none, now))
fit_there c funcs out m s (finished s2 vs) none h = h.5
fit_there c funcs out m s (stopped s2 x) none h = absurd h

-- where the call has ended, its values are in range
fit_ended : {p : ProgramParts} {m : Machine} {k : stored.Store} {flat : List ℕ} {most : ℕ} {out : Option ValType} {inst : Instance} {cfg : Config} (s : Store) (us : List Value) → RepresentsMachine p m k flat most out inst cfg → m.running ≡ false → cfg ≡ config s [] (code us nothing) → AllByRecursion InRange us
fit_ended {p} {m} {out = out} s us st ended is =
    let none : (calls_in m).now ≡ None = ap (λ b. let calls : CallsState = cond b (calls_of m.stack) (ended_calls m.stack) in calls.now) ended in
    subst (AllByRecursion InRange) (ap values_in (sym st.nested ∙ is)) (fit_there st.context (funcs_in p) out (calls_in m) st.s st.focused none st.calls)

-- ---- runs

-- what is answered to what a run comes to
abbrev pub Answers : Machine → Stepped → RunEnd → Type 0
Answers m2 steps.Done end = (result : Option ℕ) × (result ≡ slice_get m2.stack.words 0) × (end ≡ Returned result)
Answers m2 (steps.Trapped trap) end = end ≡ Trapped trap
Answers m2 steps.Charged end = end ≡ OutOfFuel
Answers m2 (steps.NotReady need) end = end ≡ NotReady need

abbrev Came : {M : Type 0} → Setting M → CallState M → CallState M → Option ValType → Instance → Config → ℕ → RunEnd → ℕ → Type 0
Came w before after out inst cfg fuel end n = (s : Store) × EndsWithin w after out inst (TakesTo w inst before.memory cfg after.memory) fuel end n s × HasStoreIn w after inst s

pub runs_to : {M : Type 0} (w : Setting M) (before : CallState M) (fuel : ℕ) (stepped : Stepped) (n : ℕ) (end : RunEnd) (after : CallState M) → IsRun w before fuel stepped n after → Answers after.machine stepped end → RunEndsWithin w before fuel end n after
runs_to w before fuel steps.Done n end after went a out inst cfg st =
    let x = went.1 out inst cfg st in
    let (s, us, is, types, words) = x.3 in
    let store = stands_with x.2 in
    let top = a.1 ∙ ap (λ ws. slice_get ws 0) words in
    subst (λ o. Came w before after out inst cfg fuel o n) (sym a.2) (
      s,
      (went.0, us, (types, fit_ended s us x.2 went.2 is), top, subst (TakesTo w inst before.memory cfg after.memory n) is x.1),
      (store.0, subst (λ z. RepresentsInstance w.program after.store (w.bytes after.memory) w.limit store.0 inst z) (ap store_of is) store.1),
    )
runs_to w before fuel (steps.Trapped trap) n end after went a out inst cfg st =
    let x = went.1 out inst cfg st in
    subst (λ o. Came w before after out inst cfg fuel o n) (sym a) (x.1, (went.0, x.2), (x.0, x.3))
runs_to w before fuel steps.Charged n end after went a out inst cfg st =
    let x = went.1 out inst cfg st in
    subst (λ o. Came w before after out inst cfg fuel o n) (sym a) (store_of x.0, (went.0, (x.0, x.1, x.3, refl, x.2, went.2, went.3)), stands_with x.2)
runs_to w before fuel (steps.NotReady need) n end after went a out inst cfg st =
    let x = went.1 out inst cfg st in
    subst (λ o. Came w before after out inst cfg fuel o n) (sym a) (store_of x.0, (went.0, went.4, (x.0, x.1, x.3, refl, x.2, went.2, went.3)), stands_with x.2)
