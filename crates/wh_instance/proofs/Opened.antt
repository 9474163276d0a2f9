-- From what a turn comes to, to what the host's definitions say of it.
use Rattle.std.proofs.Common.{◌≡◌, true, ℕ, ◌+◌, ◌≤◌, List, [], ◌∷◌, Option, Some, None, map, reverse, slice_get, refl, sym, ap, subst, ◌∙◌, arith, rules}
use Rattle.wh_model.specs.declared.ValType.{ValType}
use Rattle.wh_model.specs.Format.{nothing, FuncType, Body}
use Rattle.wh_model.specs.Validity.{Context, operand}
use Rattle.wh_model.specs.Execution.Store.{Instance, Store}
use Rattle.wh_model.specs.Execution.{Value, type_of, own, Term, code, frame, Config, config, trapped, IsSettled, IsNext, Asks, Piece, returned, stopped, Call, Takes}
use Rattle.wh_model.specs.Focus.Focused.{Focused}
use Rattle.wh_model.specs.Focus.{Activation, running, finished, stopped as halted, inside, awaited, plug}
use Rattle.wh_model.proofs.Taken.{takes_after}
use Rattle.wh_host_model.specs.Host.{Rest, Doing, resting, computing, store_with, rest_of, Opens, Computes, to_end, out_of_fuel, to_wait, to_go_on, returns, traps, uses_fuel, waits, has_had_its_turn}
use Rattle.wh_control.specs.Represents.{Func, CallsState, RepresentsCalls, bits_of, result_of}
use Rattle.wh_control.specs.Parts.{ProgramParts, funcs_in, IsInstance}
use Rattle.wh_control.specs.declared.store.Store as code_store
use Rattle.wh_control.proofs.Entries.{Callee, of_host, of_module, callee}
use Rattle.wh_control.proofs.Jumps.{all_at}
use Rattle.wh_machine.specs.declared.machine.Machine.{Machine}
use Rattle.wh_machine.specs.MachineRuns.{RepresentsInstance, RepresentsMachine}
use Rattle.wh_machine.specs.CallStates.{CallState, Setting, RepresentsConfig}
use Rattle.wh_call.specs.Ends.{HasStoreIn, TakesTo}
use Rattle.wh_instance.specs.declared.computing.TurnOutcome.{TurnOutcome}
use Rattle.wh_instance.specs.declared.computing.TurnOutcome.TheVariants as came
use Rattle.wh_instance.specs.Computed.{ComesWithin}
use Rattle.wh_instance.specs.Turned.{HasRest, Turns}

-- ---- the result that a function declares

own_type : {t u : FuncType} {b d : Body} → own t b ≡ own u d → t ≡ u
own_type e = cc

declared_by : (p : ProgramParts) (c : Context) (index : ℕ) (type : FuncType) (body : Body) → ((y : ℕ) (g : Func) → slice_get (funcs_in p) y ≡ Some g → g.type.results ≡ operand (result_of g.type)) → Callee p.hosts (funcs_in p) index (own type body) → type.results ≡ operand (result_of type)
declared_by p c index type body each (of_host k at is) = absurd (cc is)
declared_by p c index type body each (of_module g y i at is) = subst (λ (t : FuncType). t.results ≡ operand (result_of t)) (sym (own_type is)) (each y g at)

pub declared_in : (p : ProgramParts) (c : Context) (inst : Instance) (index : ℕ) (type : FuncType) (body : Body) → IsInstance p c inst → slice_get inst.funcs index ≡ Some (own type body) → type.results ≡ operand (result_of type)
declared_in p c inst index type body is is_own = search (rules, declared_by, all_at, callee)

pub declared : {p : ProgramParts} {k : code_store.Store} {flat : List ℕ} {most : ℕ} {c : Context} {inst : Instance} {s : Store} (index : ℕ) (type : FuncType) (body : Body) → RepresentsInstance p k flat most c inst s → slice_get inst.funcs index ≡ Some (own type body) → type.results ≡ operand (result_of type)
declared {p} {c = c} {inst = inst} index type body st is_own = declared_in p c inst index type body st.instance is_own

-- one value at most is its own reverse
short_reverse : (us : List Value) (t : Option ValType) → map type_of us ≡ operand t → reverse us ≡ us
short_reverse [] t e = refl
short_reverse (u ∷ []) t e = refl
short_reverse (u ∷ v ∷ us) None e = absurd (cc e)
short_reverse (u ∷ v ∷ us) (Some t) e = absurd (cc e)

-- ---- the term for which a machine stands that runs

outermost : (n : ℕ) (f : List Value) (t : Term) (ws : List Activation) → (m : ℕ) × (g : List Value) × (u : Term) × (awaited n f t ws ≡ frame [] m g u nothing)
outermost n f t [] = (n, f, t, refl)
outermost n f t (a ∷ ws) = outermost a.results a.locals (inside (frame a.operands n f t a.code) a.labels) ws

under_way : (c : Context) (funcs : List Func) (out : Option ValType) (m : CallsState) (s : Store) (to : Focused) → ¬ (m.now ≡ None) → RepresentsCalls c funcs out m s to → (t : Term) × (plug to ≡ config s [] t)
under_way c funcs out m s (running s2 a ws) some h =
    let x = outermost a.results a.locals (inside (code a.operands a.code) a.labels) ws in
    (frame [] x.0 x.1 x.2 nothing, ap (λ t. config s2 [] t) x.3 ∙ ap (λ z. config z [] (frame [] x.0 x.1 x.2 nothing)) h.0)
under_way c funcs out m s (finished s2 vs) some h = absurd (some h.1)
under_way c funcs out m s (halted s2 x) some h = absurd h

runs_at : {p : ProgramParts} {m : Machine} {k : code_store.Store} {flat : List ℕ} {most : ℕ} {out : Option ValType} {inst : Instance} {cfg : Config} (st : RepresentsMachine p m k flat most out inst cfg) → m.running ≡ true → (t : Term) × (cfg ≡ config st.s [] t)
runs_at {p} {m} {out = out} st e = search rules

-- a store whose memory has these bytes
with_bytes : (s : Store) (b : List ℕ) → s.bytes ≡ b → s ≡ store_with b (rest_of s)
with_bytes s b e = ap (λ x. store_with x (rest_of s)) e

-- so it represents this term, over this rest
record On {M : Type 0} (w : Setting M) (after : CallState M) (out : Option ValType) (inst : Instance) (c : Config) : Type 0 where
  rest : Rest
  term : Term
  same : c ≡ config (store_with (w.bytes after.memory) rest) [] term
  store : HasRest w after inst rest
  stands : RepresentsConfig w after out inst (config (store_with (w.bytes after.memory) rest) [] term)

on : {M : Type 0} (w : Setting M) (after : CallState M) (out : Option ValType) (inst : Instance) (c : Config) → RepresentsConfig w after out inst c → after.machine.running ≡ true → On w after out inst c
on w after out inst c st e =
    let u = runs_at st e in
    let around = st.around in
    let b = w.bytes after.memory in
    let same_store : st.s ≡ store_with b (rest_of st.s) = with_bytes st.s b around.store.bytes in
    let same : c ≡ config (store_with b (rest_of st.s)) [] u.0 = u.1 ∙ ap (λ z. config z [] u.0) same_store in
    record {
      rest = rest_of st.s;
      term = u.0;
      same = same;
      store = (st.context, subst (λ z. RepresentsInstance w.program after.store b w.limit st.context inst z) same_store around);
      stands = subst (RepresentsConfig w after out inst) same st;
    }

-- ---- turns

computes : {M : Type 0} {bytes : M → List ℕ} {ready : M → _ → Type 0} {keeps : M → M → Type 0} {inst : Instance} {q left : ℕ} {call : Call} {mem mem1 mem2 : M} {r : Rest} {d : Doing} {pieces n : ℕ} {c c2 : Config}
    → Opens bytes ready keeps inst call mem r d pieces mem1 c → Takes bytes ready keeps inst mem1 c n mem2 c2 → n ≤ q → n ≤ left → call.charges + left ≡ call.fuel → Computes bytes ready keeps inst q call mem r d pieces n mem2 c2
computes {mem1 = mem1} {c = c} o t nq nl e = record { between = mem1; opened = c; opens = o; takes = t; in_turn = nq; in_fuel = omega (arith, nl, e) }

-- an opened call that computes so far has had such a turn
pub turns_as : {M : Type 0} (w : Setting M) (inst : Instance) (q left : ℕ) (call : Call) (m : M) (r : Rest) (d : Doing) (pieces n : ℕ) (before after : CallState M) (c : Config) (s : Store) (index : ℕ) (type : FuncType) (body : Body) (answer : TurnOutcome) (ps : List Piece) → ps ≡ []
    → Opens w.bytes w.ready w.keeps inst call m r d pieces before.memory c → IsSettled inst c → call.charges + left ≡ call.fuel → call.func ≡ Some index → slice_get inst.funcs index ≡ Some (own type body)
    → ComesWithin w after (result_of type) inst (TakesTo w inst before.memory c after.memory) q left answer n s → HasStoreIn w after inst s → Turns w inst q call m r d answer pieces n after ps
turns_as w inst q left call m r d pieces n before after c s index type body (came.Returned result) ps none o settled e calls is_own (nq, (nl, us, fit, top, takes)) (cx, st) =
    let b = w.bytes after.memory in
    let same : s ≡ store_with b (rest_of s) = with_bytes s b st.store.bytes in
    let turned : reverse us ≡ us = short_reverse us (result_of type) fit.0 in
    let there = subst (λ z. TakesTo w inst before.memory c after.memory n (config z [] (code (reverse us) nothing))) same (subst (λ vs. TakesTo w inst before.memory c after.memory n (config s [] (code vs nothing))) (sym turned) takes) in
    let store : HasRest w after inst (rest_of s) = (cx, subst (λ z. RepresentsInstance w.program after.store b w.limit cx inst z) same st) in
    record {
      to = to_end (returned us);
      rest = rest_of s;
      doing = resting;
      proceeds = returns (computes o there nq nl e) (record { index = index; type = type; body = body; calls = calls; is_own = is_own; types = fit.0 ∙ sym (declared index type body st is_own); fit = fit.1 });
      is_came = top ∙ ap (λ vs. slice_get (map bits_of vs) 0) (sym turned);
      store = store;
      is_there = store;
    }
turns_as w inst q left call m r d pieces n before after c s index type body (came.Trapped x) ps none o settled e calls is_own (nq, (nl, takes)) (cx, st) =
    let b = w.bytes after.memory in
    let same : s ≡ store_with b (rest_of s) = with_bytes s b st.store.bytes in
    let there = subst (λ z. TakesTo w inst before.memory c after.memory n (trapped z x)) same takes in
    let store : HasRest w after inst (rest_of s) = (cx, subst (λ z. RepresentsInstance w.program after.store b w.limit cx inst z) same st) in
    record {
      to = to_end (stopped x);
      rest = rest_of s;
      doing = resting;
      proceeds = traps (computes o there nq nl e);
      is_came = refl;
      store = store;
      is_there = store;
    }
turns_as w inst q left call m r d pieces n before after c s index type body came.Fuel ps none o settled e calls is_own (nq, (all, (c2, takes, next, is, stands, runs, settled_in))) store =
    let x = on w after (result_of type) inst c2 stands runs in
    let there = subst (λ z. TakesTo w inst before.memory c after.memory n z) x.same takes in
    let rested = takes_after there settled in
    record {
      to = out_of_fuel;
      rest = x.rest;
      doing = computing x.term;
      proceeds = uses_fuel (computes o there nq (omega (arith, all)) e) (subst (IsNext inst) x.same next) (omega (arith, all, e));
      is_came = tt;
      store = x.store;
      is_there = (record { index = index; type = type; body = body; calls = calls; is_own = is_own; stands = x.stands; runs = runs; settled_in = settled_in; settled = rested.1 }, none);
    }
turns_as w inst q left call m r d pieces n before after c s index type body (came.Frame need) ps none o settled e calls is_own (nq, (some, never, (c2, takes, next, is, stands, runs, settled_in))) store =
    let x = on w after (result_of type) inst c2 stands runs in
    let there = subst (λ z. TakesTo w inst before.memory c after.memory n z) x.same takes in
    let rested = takes_after there settled in
    record {
      to = to_wait need;
      rest = x.rest;
      doing = computing x.term;
      proceeds = waits (computes o there nq (omega (arith, some)) e) (subst (IsNext inst) x.same next.0) (omega (arith, some, e)) (subst (λ z. Asks inst z need) x.same next.1) never;
      is_came = refl;
      store = x.store;
      is_there = (record { index = index; type = type; body = body; calls = calls; is_own = is_own; stands = x.stands; runs = runs; settled_in = settled_in; settled = rested.1 }, none);
    }
turns_as w inst q left call m r d pieces n before after c s index type body came.Again ps none o settled e calls is_own (all, some, (c2, takes, next, is, stands, runs, settled_in)) store =
    let x = on w after (result_of type) inst c2 stands runs in
    let there = subst (λ z. TakesTo w inst before.memory c after.memory n z) x.same takes in
    let rested = takes_after there settled in
    record {
      to = to_go_on;
      rest = x.rest;
      doing = computing x.term;
      proceeds = has_had_its_turn (computes o there (omega (arith, all)) (omega (arith, some)) e) (subst (IsNext inst) x.same next.0) all (omega (arith, some, e)) (λ need asks. next.1 need (subst (λ z. Asks inst z need) (sym x.same) asks));
      is_came = tt;
      store = x.store;
      is_there = (record { index = index; type = type; body = body; calls = calls; is_own = is_own; stands = x.stands; runs = runs; settled_in = settled_in; settled = rested.1 }, none);
    }
