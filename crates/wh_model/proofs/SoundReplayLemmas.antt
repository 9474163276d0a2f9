-- In a journal of a valid module nothing gets stuck, and calls have arguments and results of their types.
use Rattle.std.proofs.Common.{◌≡◌, ℕ, ◌<◌, inl, inr, ⊎_elim, List, [], ◌∷◌, ◌++◌, length, take, drop, reverse, Option, Some, None, slice_get, refl, sym, ap, subst, arith, ◌∙◌, rules}
use Rattle.std.specs.Prelude.{◌≢◌}
use Rattle.std.proofs.lemmas.List.{length-reverse, reverse-reverse, append-nil}
use Rattle.std.specs.List.{AllByRecursion}
use Rattle.wh_model.specs.declared.ValType.{ValType}
use Rattle.wh_model.specs.Format.{nothing, FuncType, Body}
use Rattle.wh_model.specs.Validity.{Context, ValidStart}
use Rattle.wh_model.specs.Execution.Store.{Instance, Store}
use Rattle.wh_model.specs.Execution.{Value, own, written, code, called, Config, config, trapped, TakesOperands, Invokes, enter, After, Piece, pending, Call, with_pieces, Invocation, Standing, idle, running, store_at, Stands, has_pieces, is_invoked, is_under_way, Ends, has_returned, has_trapped, has_written, was_cancelled, never_began, Waits, Replays, at_rest, ended, at_work}
use Rattle.wh_model.specs.Execution.Replay.{writing}
use Rattle.wh_model.specs.Soundness.{AreOfTypes, InstanceType, StoreType, PieceType, frame_context, ThreadType}
use Rattle.wh_model.specs.Laws.{IsFinal, GoesFurther, HasFuncType, HasArguments, HasTypedEnd, StandsAs, ReplaySoundness, NoCallSticks}
use Rattle.wh_model.proofs.Fragments.{length-written}
use Rattle.wh_model.proofs.Journals.{from_beginning, not_open}
use Rattle.wh_model.proofs.StoreTypingLemmas.{types_given, types_length, types_reverse}
use Rattle.wh_model.proofs.MemoryTypingLemmas.{each_take, each_drop, memory_written}
use Rattle.wh_model.proofs.TermTypingLemmas.{parts, gives_all}
use Rattle.wh_model.proofs.PreservationLemmas.{func_typed, func_there, stored_memory, CallTyped, invokes_keep}
use Rattle.wh_model.proofs.StuckLemmas.{progress, thread_leads, never_stuck}
use Rattle.wh_model.proofs.BeginsTypedLemmas.{begins_typed}

-- ---- pieces

pieces_for : (s s2 : Store) (ps : List Piece) → length s2.bytes ≡ length s.bytes → AllByRecursion (PieceType s) ps
    → AllByRecursion (PieceType s2) ps
pieces_for s s2 [] e all = tt
pieces_for s s2 (q ∷ ps) e all = let low = all.0.0 in ((omega (arith, e, low), all.0.1), pieces_for s s2 ps e all.1)

pieces_written : (c : Context) (inst : Instance) (s : Store) (ps : List Piece) → StoreType c inst s
    → AllByRecursion (PieceType s) ps
    → StoreType c inst (with_pieces s ps) × (length (with_pieces s ps).bytes ≡ length s.bytes)
pieces_written c inst s [] t all = (t, refl)
pieces_written c inst s (q ∷ ps) t all =
    let s2 : Store = record s { bytes = written s.bytes q.at q.items } in
    let same = length-written s.bytes q.items q.at all.0.0 in
    let typed = stored_memory c inst s _ t (memory_written c inst s.bytes q.at q.items t.memory all.0.0 all.0.1) in
    let rest = pieces_written c inst s2 ps typed (pieces_for s s2 ps same all.1) in
    (rest.0, rest.1 ∙ same)

-- ---- invocations

-- a call got values of its function's parameters, and its configuration is typed by the results
pub record CallRuns (c : Context) (inst : Instance) (call : Call) (a : Config) : Type 0 where
  pub type : FuncType
  pub is_func : HasFuncType inst call type
  pub args : AreOfTypes call.args type.params
  pub typed : ThreadType c inst a (reverse type.results)

no_values : (vs : List Value) → vs ≡ vs ++ []
no_values vs = sym (append-nil vs)

call_typed : (c : Context) (inst : Instance) (s : Store) (index : ℕ) (type : FuncType) (body : Body) (args : List Value)
    → InstanceType c inst → StoreType c inst s → slice_get inst.funcs index ≡ Some (own type body)
    → AreOfTypes args type.params
    → ThreadType c inst (config s [] (called type body (reverse args) [] nothing)) (reverse type.results)
call_typed c inst s index type body args i st at given =
    let over = types_reverse args type.params given in
    let count = length-reverse args ∙ types_length args type.params given in
    let takes : TakesOperands (length type.params) (reverse args) (reverse args) [] = search (rules, no_values, reverse) in
    let call : CallTyped c (frame_context c [] None) (own type body) (reverse args) nothing (reverse type.results) =
    record {
      below = [];
      over = subst (AreOfTypes (reverse args)) (sym (append-nil (reverse type.params))) over;
      goes = gives_all (frame_context c [] None) (reverse type.results);
      is_func = (func_typed c inst index (own type body) i at).1;
    } in
    let enters : Invokes 0 s [] (own type body) (reverse args) nothing
    (config s [] (called type body (reverse args) [] nothing)) = enter takes (omega arith) in
    (invokes_keep enters c (frame_context c [] None) inst (reverse type.results) st tt call, tt)

pub invocation_runs : (c : Context) (inst : Instance) (s : Store) (call : Call) (a : Config) → InstanceType c inst
    → StoreType c inst s → Invocation inst s call a → CallRuns c inst call a
invocation_runs c inst s call a i st x =
    let given = types_given call.args x.type.params x.types x.fit in
    record {
      type = x.type;
      is_func = (x.index, own x.type x.body, x.calls, x.is_own, refl);
      args = given;
      typed = search (rules, reverse, call_typed);
    }

-- at its invocation a call goes further
invoked_goes : (c : Context) (inst : Instance) (s : Store) (call : Call) (a : Config) → InstanceType c inst
    → StoreType c inst s → Invocation inst s call a → GoesFurther inst a
invoked_goes c inst s call a i st x =
    let r = invocation_runs c inst s call a i st x in
    ⊎_elim
    (λ final. absurd (subst (λ w. IsFinal w (reverse r.type.results)) x.begins final))
    (λ further. further)
    (progress c inst a (reverse r.type.results) i r.typed)

after_runs : (c : Context) (inst : Instance) (call : Call) (n : ℕ) (a b : Config) → InstanceType c inst
    → CallRuns c inst call a → After inst a n b → CallRuns c inst call b
after_runs c inst call n a b i r x = search (rules, thread_leads, reverse)

has_arguments : (c : Context) (inst : Instance) (call : Call) (a : Config) → CallRuns c inst call a
    → HasArguments inst call
has_arguments c inst call a r = inr (r.type, r.is_func, r.args)

-- ---- an open call

abbrev OpenAs : Context → Instance → Call → Standing → Type 0
OpenAs c inst call (idle s) = ⊥
OpenAs c inst call (writing s rest) = StoreType c inst s × AllByRecursion (PieceType s) rest
OpenAs c inst call (running a) = CallRuns c inst call a × GoesFurther inst a

stands_as : {inst : Instance} {s : Store} {ps : List Piece} {call : Call} {z : Standing} → Stands inst s ps call z
    → (c : Context) → InstanceType c inst → StoreType c inst s → AllByRecursion (PieceType s) ps → OpenAs c inst call z
stands_as {inst = inst} {s = s} {ps = ps} {call = call} (has_pieces p q) c i st all =
    let first = pieces_written c inst s (take call.fragments ps) st (each_take (PieceType s) call.fragments ps all) in (
      first.0,
      pieces_for s (with_pieces s (take call.fragments ps)) (drop call.fragments ps) first.1
          (each_drop (PieceType s) call.fragments ps all),
    )
stands_as {inst = inst} {s = s} {ps = ps} {call = call} (is_invoked {c = a} p q x) c i st all =
    let t = (pieces_written c inst s ps st all).0 in
    (invocation_runs c inst (with_pieces s ps) call a i t x, invoked_goes c inst (with_pieces s ps) call a i t x)
stands_as {inst = inst} {s = s} {ps = ps} {call = call} (is_under_way {c = a} {c2 = b} p q x after next) c i st all =
    let t = (pieces_written c inst s ps st all).0 in (
      after_runs c inst call call.charges a b i (invocation_runs c inst (with_pieces s ps) call a i t x) after,
      (1, next.0, next.1),
    )

thread_store : (c : Context) (inst : Instance) (a : Config) (outs : List ValType) → ThreadType c inst a outs
    → StoreType c inst (store_at (running a))
thread_store c inst (config s f t) outs h = h.0.0
thread_store c inst (trapped s x) outs h = h

open_store : (c : Context) (inst : Instance) (call : Call) (z : Standing) → OpenAs c inst call z
    → StoreType c inst (store_at z)
open_store c inst call (idle s) h = absurd h
open_store c inst call (writing s rest) h = h.0
open_store c inst call (running a) h = thread_store c inst a (reverse (h.0).type.results) (h.0).typed

open_arguments : {inst : Instance} {s : Store} {ps : List Piece} {call : Call} {z : Standing} → Stands inst s ps call z
    → (c : Context) → (call.fragments < length ps → HasArguments inst call) → OpenAs c inst call z
    → HasArguments inst call
open_arguments (has_pieces p q) c first h = first p
open_arguments {inst = inst} {call = call} (is_invoked {c = a} p q x) c first h = has_arguments c inst call a h.0
open_arguments {inst = inst} {call = call} (is_under_way {c2 = b} p q x after next) c first h = search rules

-- ---- a call that has ended

ends_as : {inst : Instance} {s s2 : Store} {ps : List Piece} {call : Call} → Ends inst s ps call s2 → (c : Context)
    → InstanceType c inst → StoreType c inst s → AllByRecursion (PieceType s) ps
    → (call.fragments < length ps → HasArguments inst call) → StoreType c inst s2 × HasTypedEnd inst call call.outcome
ends_as {inst = inst} {s = s} {s2 = s2} {ps = ps} {call = call}
    (has_returned {vs = vs} {c = a} is all_written within x after) c i st all first =
    let t = (pieces_written c inst s ps st all).0 in
    let r = after_runs c inst call call.charges a (config s2 [] (code (reverse vs) nothing)) i
    (invocation_runs c inst (with_pieces s ps) call a i t x) after in
    let h = r.typed.0 in
    let final : AreOfTypes (reverse vs) (reverse r.type.results) =
    subst (AreOfTypes (reverse vs)) (parts h.2.2) h.2.1 in
    let results : AreOfTypes vs r.type.results =
    subst (AreOfTypes vs) (reverse-reverse r.type.results)
    (subst (λ w. AreOfTypes w (reverse (reverse r.type.results))) (reverse-reverse vs)
    (types_reverse (reverse vs) (reverse r.type.results) final)) in
    (h.0, subst (HasTypedEnd inst call) (sym is) (inr (r.type, r.is_func, r.args, results)))
ends_as {inst = inst} {s = s} {s2 = s2} {ps = ps} {call = call}
    (has_trapped {x = y} {c = a} is all_written within x after) c i st all first =
    let t = (pieces_written c inst s ps st all).0 in
    let r = after_runs c inst call call.charges a (trapped s2 y) i
    (invocation_runs c inst (with_pieces s ps) call a i t x) after in
    (r.typed, subst (HasTypedEnd inst call) (sym is) (has_arguments c inst call (trapped s2 y) r))
ends_as {inst = inst} {s = s} {ps = ps} {call = call} (has_written is none all_written free) c i st all first =
    ((pieces_written c inst s ps st all).0, subst (HasTypedEnd inst call) (sym is) (inl (none, refl)))
ends_as {inst = inst} {call = call} (was_cancelled {z = z} is at) c i st all first =
    let h = stands_as at c i st all in
    (open_store c inst call z h, subst (HasTypedEnd inst call) (sym is) (open_arguments at c first h))
ends_as {inst = inst} {call = call} (never_began is none free) c i st all first = search rules

-- ---- journals

stands_first : (c : Context) (inst : Instance) (call : Call) (calls : List Call) (z : Standing) → call.outcome ≡ pending
    → OpenAs c inst call z → StandsAs c inst (call ∷ calls) z
stands_first c inst call calls (idle s) p h = absurd h
stands_first c inst call calls (writing s rest) p h = h
stands_first c inst call calls (running a) p h =
    (call, (h.0).type, ([], calls, refl, p, tt), (h.0).is_func, (h.0).args, (h.0).typed, h.1)

stands_later : (c : Context) (inst : Instance) (before : Call) (calls : List Call) (z : Standing)
    → before.outcome ≢ pending → StandsAs c inst calls z → StandsAs c inst (before ∷ calls) z
stands_later c inst before calls (idle s) p h = h
stands_later c inst before calls (writing s rest) p h = h
stands_later c inst before calls (running a) p
    (call, type, (past, waiting, is, ends_not, all), is_func, args, typed, further) =
    (call, type, (before ∷ past, waiting, ap (λ w. before ∷ w) is, ends_not, (p, all)), is_func, args, typed, further)

waiting_ends : (inst : Instance) (calls : List Call) → AllByRecursion Waits calls
    → AllByRecursion (λ call. HasTypedEnd inst call call.outcome) calls
waiting_ends inst [] all = tt
waiting_ends inst (call ∷ calls) all = (subst (HasTypedEnd inst call) (sym all.0.outcome) tt, waiting_ends inst calls all.1)

abbrev FirstHasArguments : Instance → List Piece → List Call → Type 0
FirstHasArguments inst ps [] = Unit {0}
FirstHasArguments inst ps (call ∷ calls) = call.fragments < length ps → HasArguments inst call

no_first : (inst : Instance) (calls : List Call) → FirstHasArguments inst [] calls
no_first inst [] = tt
no_first inst (call ∷ calls) = λ low. absurd (omega (arith, low))

replays_typed : {inst : Instance} {s : Store} {ps : List Piece} {calls : List Call} {z : Standing}
    → Replays inst s ps calls z → (c : Context) → InstanceType c inst → StoreType c inst s
    → AllByRecursion (PieceType s) ps
    → FirstHasArguments inst ps calls → AllByRecursion (λ call. HasTypedEnd inst call call.outcome) calls
    × StandsAs c inst calls z
replays_typed at_rest c i st all first = (tt, st)
replays_typed {inst = inst} (ended {call = call} {calls = calls} {z = z} x r) c i st all first =
    let e = ends_as x c i st all first in
    let rest = replays_typed r c i e.0 tt (no_first inst calls) in
    ((e.1, rest.0), stands_later c inst call calls z (not_open x) rest.1)
replays_typed {inst = inst} (at_work {call = call} {calls = calls} {z = z} p x waits) c i st all first =
    search (rules, waiting_ends, stands_first, stands_as)

-- the start has no arguments, and a function that takes none
start_arguments : (c : Context) (inst : Instance) (call : Call) (start : Option ℕ) → InstanceType c inst
    → call.func ≡ start → call.args ≡ [] → ValidStart c start → HasArguments inst call
start_arguments c inst call None i func args valid = inl (func, args)
start_arguments c inst call (Some x) i func args valid =
    let h = func_there c inst x _ i valid in
    inr (record { params = []; results = [] }, (x, h.0, func, h.1, h.2), subst (λ w. AreOfTypes w []) (sym args) tt)

pub replay_soundness : ReplaySoundness
replay_soundness m c p inst s ps [] z valid bytes initial r = absurd r
replay_soundness m c p inst s ps (start ∷ calls) z valid bytes initial (given, is, (inst2, s2, ps2, initial2, r)) =
    let t = begins_typed m c p inst s ps valid bytes given initial in
    replays_typed (from_beginning m p inst inst2 s s2 ps ps2 (start ∷ calls) z initial initial2 r) c t.0 t.1 t.2
    (λ low. start_arguments c inst start m.start t.0 is.func is.args valid.start)

pub no_call_sticks : NoCallSticks
no_call_sticks m c p inst s s2 ps [] call n a b valid bytes initial r x leads = absurd r
no_call_sticks m c p inst s s2 ps (start ∷ calls) call n a b valid bytes initial r x leads =
    let t = begins_typed m c p inst s ps valid bytes r.0 initial in
    let st = (replay_soundness m c p inst s ps (start ∷ calls) (idle s2) valid bytes initial r).1 in
    let runs = invocation_runs c inst s2 call a t.0 st x in
    (runs.type, runs.is_func, (never_stuck c inst n a b (reverse runs.type.results) t.0 runs.typed leads).1)
