-- One end and one standing of a journal, and what it shows.
use Rattle.std.proofs.Common.{◌≡◌, ◌⊎◌, inl, inr, ⊎_elim, ℕ, List, [], ◌∷◌, ◌++◌, map, take, drop, Some, slice_get, refl, sym, ap, subst, arith, ◌∙◌, take-append-drop, rules}
use Rattle.std.specs.List.{AllByRecursion}
use Rattle.wh_model.specs.Format.{FuncType, Body, Module}
use Rattle.wh_model.specs.Execution.Store.{Instance, Store}
use Rattle.wh_model.specs.Execution.{type_of, InRange, own, written, Config, store_of, After, IsNext, Parameters, Piece, begins, IsInitial, Call, cancelled, Invocation, with_pieces, Ends, has_returned, has_trapped, has_written, was_cancelled, never_began, Standing, idle, running, store_at, pending, Stands, has_pieces, is_invoked, is_under_way, Waits, Replays, at_rest, ended, at_work}
use Rattle.wh_model.specs.Execution.Replay.{writing}
use Rattle.wh_model.specs.Laws.{OneEnd, Alike, OneStanding, StartIsCalled, WithinFuel, FuelSuffices, ArgumentsFit, RunningGoesOn, OthersWait, DeadDoNothing, ReturnedHasWritten, PiecesInOrder, CancelledStays, DoneReplays, TrappedReplays, FuelReplays}
use Rattle.wh_model.proofs.Chains.{one_after}
use Rattle.wh_model.proofs.Instance.{one_beginning}
use Rattle.wh_model.proofs.Opened.{opened_store}

-- ---- one invocation, and one configuration behind it

pub functions_same : {inst : Instance} {s : Store} {call : Call} {c : Config} (i : Invocation inst s call c) (x : ℕ) (type : FuncType) (body : Body) → call.func ≡ Some x → slice_get inst.funcs x ≡ Some (own type body) → (i.type ≡ type) × (i.body ≡ body)
functions_same i x type body e f = search rules

pub invocation_same : (inst : Instance) (s : Store) (call : Call) {a b : Config} → Invocation inst s call a → Invocation inst s call b → a ≡ b
invocation_same inst s call i j = search rules

pub after_same : {inst : Instance} (s : Store) (call : Call) {n : ℕ} {a b c d : Config} → Invocation inst s call a → Invocation inst s call b → After inst a n c → After inst b n d → c ≡ d
after_same {inst = inst} s call {n = n} {a = a} {c = c} {d = d} i j x y = one_after inst n a c d x (subst (λ w. After inst w n d) (sym (invocation_same inst s call i j)) y)

-- ---- one standing of a call

stands_alike : {inst : Instance} {s : Store} {ps : List Piece} {call : Call} {y z : Standing} → Stands inst s ps call y → Stands inst s ps call z → Alike inst y z
stands_alike (has_pieces p q) (has_pieces u v) = inl refl
stands_alike (has_pieces p q) (is_invoked u v w) = absurd (omega (arith, p, u))
stands_alike (has_pieces p q) (is_under_way u v w x y) = absurd (omega (arith, p, u))
stands_alike (is_invoked p q r) (has_pieces u v) = absurd (omega (arith, p, u))
stands_alike {inst = inst} {s = s} {ps = ps} {call = call} (is_invoked p q r) (is_invoked u v w) = inl (ap running (invocation_same inst (with_pieces s ps) call r w))
stands_alike {inst = inst} {s = s} {ps = ps} {call = call} (is_invoked {c = c} p q r) (is_under_way {c = d} {c2 = e} u f v w x) = search rules
stands_alike (is_under_way p l q r t) (has_pieces u v) = absurd (omega (arith, p, u))
stands_alike {inst = inst} {s = s} {ps = ps} {call = call} (is_under_way {c = d} {c2 = e} p l q r t) (is_invoked {c = c} u v w) = search rules
stands_alike {inst = inst} {s = s} {ps = ps} {call = call} (is_under_way p l q r t) (is_under_way u f v w x) = inl (ap running (after_same (with_pieces s ps) call q v r w))

alike_store : {inst : Instance} {y z : Standing} → Alike inst y z → store_at y ≡ store_at z
alike_store a = ⊎_elim (λ e. ap store_at e) (λ (c, c2, e, f, h). ap store_at e ∙ ⊎_elim (λ x. sym (opened_store x)) (λ x. opened_store x) h ∙ sym (ap store_at f)) a

-- ---- one end of a call

ends_same : {inst : Instance} {s a b : Store} {ps : List Piece} {call : Call} → Ends inst s ps call a → Ends inst s ps call b → a ≡ b
ends_same {inst = inst} {s = s} {ps = ps} {call = call} (has_returned p q l r t) (has_returned u v f w x) = ap store_of (after_same (with_pieces s ps) call r w t x)
ends_same (has_returned p q l r t) (has_trapped u v f w x) = absurd (cc (p, u))
ends_same (has_returned p q l r t) (has_written u v w x) = let e = r.calls in absurd (cc (e, v))
ends_same (has_returned p q l r t) (was_cancelled u v) = absurd (cc (p, u))
ends_same (has_returned p q l r t) (never_began u v w) = absurd (cc (p, u))
ends_same (has_trapped p q l r t) (has_returned u v f w x) = absurd (cc (p, u))
ends_same {inst = inst} {s = s} {ps = ps} {call = call} (has_trapped p q l r t) (has_trapped u v f w x) = ap store_of (after_same (with_pieces s ps) call r w t x)
ends_same (has_trapped p q l r t) (has_written u v w x) = absurd (cc (p, u))
ends_same (has_trapped p q l r t) (was_cancelled u v) = absurd (cc (p, u))
ends_same (has_trapped p q l r t) (never_began u v w) = absurd (cc (p, u))
ends_same (has_written p q r t) (has_returned u v f w x) = let e = w.calls in absurd (cc (e, q))
ends_same (has_written p q r t) (has_trapped u v f w x) = absurd (cc (p, u))
ends_same (has_written p q r t) (has_written u v w x) = refl
ends_same (has_written p q r t) (was_cancelled u v) = absurd (cc (p, u))
ends_same (has_written p q r t) (never_began u v w) = absurd (cc (p, u))
ends_same (was_cancelled p q) (has_returned u v f w x) = absurd (cc (p, u))
ends_same (was_cancelled p q) (has_trapped u v f w x) = absurd (cc (p, u))
ends_same (was_cancelled p q) (has_written u v w x) = absurd (cc (p, u))
ends_same (was_cancelled p q) (was_cancelled u v) = alike_store (stands_alike q v)
ends_same (was_cancelled p q) (never_began u v w) = absurd (cc (p, u))
ends_same (never_began p q r) (has_returned u v f w x) = absurd (cc (p, u))
ends_same (never_began p q r) (has_trapped u v f w x) = absurd (cc (p, u))
ends_same (never_began p q r) (has_written u v w x) = absurd (cc (p, u))
ends_same (never_began p q r) (was_cancelled u v) = absurd (cc (p, u))
ends_same (never_began p q r) (never_began u v w) = refl

pub one_end : OneEnd
one_end inst s a b ps call x y = ends_same x y

-- ---- one standing of a journal

pub not_open : {inst : Instance} {s s2 : Store} {ps : List Piece} {call : Call} → Ends inst s ps call s2 → call.outcome ≡ pending → ⊥
not_open (has_returned p q l r t) e = absurd (cc (p, e))
not_open (has_trapped p q l r t) e = absurd (cc (p, e))
not_open (has_written p q r t) e = absurd (cc (p, e))
not_open (was_cancelled p q) e = absurd (cc (p, e))
not_open (never_began p q r) e = absurd (cc (p, e))

pub replays_alike : {inst : Instance} {s s2 : Store} {ps : List Piece} {calls : List Call} {y z : Standing} → Replays inst s ps calls y → s ≡ s2 → Replays inst s2 ps calls z → Alike inst y z
replays_alike at_rest e at_rest = inl (ap (λ s. idle s) e)
replays_alike {inst = inst} {ps = ps} (ended {call = call} a r) e (ended {s2 = t} b u) = replays_alike r (ends_same a (subst (λ (w : Store). Ends inst w ps call t) (sym e) b)) u
replays_alike (ended a r) e (at_work u v w) = absurd (not_open a u)
replays_alike (at_work u v w) e (ended a r) = absurd (not_open a u)
replays_alike {inst = inst} {ps = ps} (at_work {call = call} u v w) e (at_work {z = z} x y t) = stands_alike v (subst (λ (w : Store). Stands inst w ps call z) (sym e) y)

begins_same : (m : Module) (p : Parameters) (inst inst2 : Instance) (s s2 : Store) (ps ps2 : List Piece) → IsInitial m p (begins inst s ps) → IsInitial m p (begins inst2 s2 ps2) → (inst ≡ inst2) × (s ≡ s2) × (ps ≡ ps2)
begins_same m p inst inst2 s s2 ps ps2 x y = let e = one_beginning m p (begins inst s ps) (begins inst2 s2 ps2) x y in (cc e, cc e, cc e)

pub from_beginning : (m : Module) (p : Parameters) (inst inst2 : Instance) (s s2 : Store) (ps ps2 : List Piece) (calls : List Call) (z : Standing) → IsInitial m p (begins inst s ps) → IsInitial m p (begins inst2 s2 ps2) → Replays inst2 s2 ps2 calls z → Replays inst s ps calls z
from_beginning m p inst inst2 s s2 ps ps2 calls z x y r = search (rules, begins_same)

pub one_standing : OneStanding
one_standing m p inst s ps [] y z initial a b = absurd a
one_standing m p inst s ps (start ∷ calls) y z initial (given, is, (inst1, s1, ps1, i1, a)) (given2, is2, (inst2, s2, ps2, i2, b)) =
    replays_alike (from_beginning m p inst inst1 s s1 ps ps1 (start ∷ calls) y initial i1 a) refl (from_beginning m p inst inst2 s s2 ps ps2 (start ∷ calls) z initial i2 b)

-- ---- what a journal shows

pub start_is_called : StartIsCalled
start_is_called m p [] z r = absurd r
start_is_called m p (start ∷ calls) z r = (start, calls, refl, r.1.func, r.1.args)

stands_within : {inst : Instance} {s : Store} {ps : List Piece} {call : Call} {z : Standing} → Stands inst s ps call z → WithinFuel call
stands_within (has_pieces p q) = omega (arith, q)
stands_within (is_invoked p q i) = omega (arith, q)
stands_within (is_under_way p q i a n) = q

ends_within : {inst : Instance} {s s2 : Store} {ps : List Piece} {call : Call} → Ends inst s ps call s2 → WithinFuel call
ends_within (has_returned p q l r t) = l
ends_within (has_trapped p q l r t) = l
ends_within (has_written p q r t) = omega (arith, t)
ends_within (was_cancelled p q) = stands_within q
ends_within (never_began p q r) = omega (arith, r)

wait_within : (calls : List Call) → AllByRecursion Waits calls → AllByRecursion WithinFuel calls
wait_within [] h = tt
wait_within (call ∷ calls) h = let none = h.0.charges in (omega (arith, none), wait_within calls h.1)

within_fuel : {inst : Instance} {s : Store} {ps : List Piece} {calls : List Call} {z : Standing} → Replays inst s ps calls z → AllByRecursion WithinFuel calls
within_fuel at_rest = tt
within_fuel (ended e r) = (ends_within e, within_fuel r)
within_fuel (at_work {calls = calls} p q w) = (stands_within q, wait_within calls w)

pub fuel_suffices : FuelSuffices
fuel_suffices inst s ps calls z r = within_fuel r

fit_by : {inst : Instance} {s : Store} {call : Call} {c : Config} (i : Invocation inst s call c) (x : ℕ) (type : FuncType) (body : Body) → call.func ≡ Some x → slice_get inst.funcs x ≡ Some (own type body) → (map type_of call.args ≡ type.params) × AllByRecursion InRange call.args
fit_by i x type body e f = (i.types ∙ ap (λ (t : FuncType). t.params) (functions_same i x type body e f).0, i.fit)

pub arguments_fit : ArgumentsFit
arguments_fit inst s s2 ps call x type body (has_returned p q l r t) e f alive all = fit_by r x type body e f
arguments_fit inst s s2 ps call x type body (has_trapped p q l r t) e f alive all = fit_by r x type body e f
arguments_fit inst s s2 ps call x type body (has_written p q r t) e f alive all = absurd (cc (q, e))
arguments_fit inst s s2 ps call x type body (was_cancelled p (has_pieces q r)) e f alive all = absurd (omega (arith, q, all))
arguments_fit inst s s2 ps call x type body (was_cancelled p (is_invoked q r i)) e f alive all = fit_by i x type body e f
arguments_fit inst s s2 ps call x type body (was_cancelled p (is_under_way q r i a n)) e f alive all = fit_by i x type body e f
arguments_fit inst s s2 ps call x type body (never_began p q r) e f alive all = absurd (alive p)

goes_on_from : {inst : Instance} {s : Store} {ps : List Piece} {call : Call} {z : Standing} → Stands inst s ps call z → (c : Config) → z ≡ running c → IsNext inst c ⊎ ((call.charges ≡ 0) × Invocation inst (with_pieces s ps) call c)
goes_on_from (has_pieces p q) c e = absurd (cc e)
goes_on_from {inst = inst} {s = s} {ps = ps} {call = call} (is_invoked {c = d} p q i) c e = let same : d ≡ c = cc e in inr (q, subst (λ w. Invocation inst (with_pieces s ps) call w) same i)
goes_on_from {inst = inst} (is_under_way {c2 = d} p q i a n) c e = let same : d ≡ c = cc e in inl (subst (λ w. IsNext inst w) same n)

pub running_goes_on : RunningGoesOn
running_goes_on inst s ps call c x = goes_on_from x c refl

others_wait_by : {inst : Instance} {s : Store} {ps : List Piece} {all : List Call} {z : Standing} → Replays inst s ps all z → (call : Call) (calls : List Call) → all ≡ call ∷ calls → call.outcome ≡ pending → AllByRecursion Waits calls
others_wait_by at_rest call calls e p = absurd (cc e)
others_wait_by (ended {call = first} x r) call calls e p = let same : first ≡ call = cc e in absurd (not_open x (ap (λ (c : Call). c.outcome) same ∙ p))
others_wait_by (at_work {calls = others} u v w) call calls e p = let same : others ≡ calls = cc e in subst (λ (cs : List Call). AllByRecursion Waits cs) same w

pub others_wait : OthersWait
others_wait inst s ps call calls z p r = others_wait_by r call calls refl p

pub dead_do_nothing : DeadDoNothing
dead_do_nothing inst s s2 ps call (has_returned p q l r t) e = absurd (cc (p, e))
dead_do_nothing inst s s2 ps call (has_trapped p q l r t) e = absurd (cc (p, e))
dead_do_nothing inst s s2 ps call (has_written p q r t) e = absurd (cc (p, e))
dead_do_nothing inst s s2 ps call (was_cancelled p q) e = absurd (cc (p, e))
dead_do_nothing inst s s2 ps call (never_began p q r) e = (r, refl)

pub returned_has_written : ReturnedHasWritten
returned_has_written inst s s2 ps call vs (has_returned p q l r t) e = q
returned_has_written inst s s2 ps call vs (has_trapped p q l r t) e = absurd (cc (p, e))
returned_has_written inst s s2 ps call vs (has_written p q r t) e = r
returned_has_written inst s s2 ps call vs (was_cancelled p q) e = absurd (cc (p, e))
returned_has_written inst s s2 ps call vs (never_began p q r) e = absurd (cc (p, e))

-- pieces that are written in two goes
pub pieces_then : (s : Store) (ps qs : List Piece) → with_pieces (with_pieces s ps) qs ≡ with_pieces s (ps ++ qs)
pieces_then s [] qs = refl
pieces_then s (p ∷ ps) qs = pieces_then (record s { bytes = written s.bytes p.at p.items }) ps qs

pieces_by : {inst : Instance} {s : Store} {ps : List Piece} {call : Call} {z : Standing} → Stands inst s ps call z → (s2 : Store) (rest : List Piece) → z ≡ writing s2 rest → (s2 ≡ with_pieces s (take call.fragments ps)) × (with_pieces s2 rest ≡ with_pieces s ps)
pieces_by {s = s} {ps = ps} {call = call} (has_pieces p q) s2 rest e = search (rules, pieces_then, take-append-drop)
pieces_by (is_invoked p q i) s2 rest e = absurd (cc e)
pieces_by (is_under_way p q i a n) s2 rest e = absurd (cc e)

pub pieces_in_order : PiecesInOrder
pieces_in_order inst s s2 ps rest call x = pieces_by x s2 rest refl

with_outcome : {inst : Instance} {s : Store} {ps : List Piece} {call : Call} {z : Standing} → Stands inst s ps call z → Stands inst s ps (record call { outcome = cancelled }) z
with_outcome (has_pieces p q) = has_pieces p q
with_outcome (is_invoked p q i) = is_invoked p q (record { index = i.index; type = i.type; body = i.body; calls = i.calls; is_own = i.is_own; types = i.types; fit = i.fit; begins = i.begins })
with_outcome (is_under_way p q i a n) = is_under_way p q (record { index = i.index; type = i.type; body = i.body; calls = i.calls; is_own = i.is_own; types = i.types; fit = i.fit; begins = i.begins }) a n

pub cancelled_stays : CancelledStays
cancelled_stays inst s ps call z x = was_cancelled refl (with_outcome x)

-- ---- runs as journals

pub done_replays : DoneReplays
done_replays inst s s2 x fuel n params results body args vs is types fit low d =
    ended (has_returned refl refl low (record { index = x; type = _; body = _; calls = refl; is_own = is; types = types; fit = fit; begins = refl }) d) at_rest

pub trapped_replays : TrappedReplays
trapped_replays inst s s2 x fuel n params results body args trap is types fit low d =
    ended (has_trapped refl refl low (record { index = x; type = _; body = _; calls = refl; is_own = is; types = types; fit = fit; begins = refl }) d) at_rest

pub fuel_replays : FuelReplays
fuel_replays inst s x fuel n params results body args is types fit low d =
    at_work refl (is_under_way refl low (record { index = x; type = _; body = _; calls = refl; is_own = is; types = types; fit = fit; begins = refl }) d.1 (d.2, d.3)) tt
