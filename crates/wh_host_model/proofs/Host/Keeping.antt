-- Each event that touches an instance keeps it what its journal comes to.
use Rattle.std.proofs.Common.{◌≡◌, ◌≢◌, ℕ, suc, zero, ◌+◌, ◌-◌, ◌<◌, ◌≤◌, ⊎_elim, false, Option, Some, None, List, [], ◌∷◌, ◌++◌, length, map, take, drop, min, refl, sym, ap, subst, ◌∙◌, arith, ℤ, append_assoc, length-append, rules}
use Rattle.std.specs.List.{AllByRecursion}
use Rattle.wh_model.specs.declared.memory.Need.{Need}
use Rattle.wh_model.specs.Format.{Module}
use Rattle.wh_model.specs.Execution.Store.{Instance, Store}
use Rattle.wh_model.specs.Execution.{Value, Piece, Parameters, AreGiven, IsInitial, begins, returned, stopped, cancelled, dead, pending, Call, with_pieces, Ends, Standing, idle, store_at, Stands, has_pieces, is_invoked, is_under_way, Waits, Writes, Past, none_yet, one_more}
use Rattle.wh_model.specs.Execution.Replay as replays
use Rattle.wh_model.specs.Execution.Replay.{writing}
use Rattle.wh_model.proofs.Journals.{pieces_then, cancelled_stays}
use Rattle.std.proofs.lemmas.List.{take-append-drop, length-drop, length-take, length-map}
use Rattle.std.proofs.Math.Seq.{take-append_seam, drop-append_seam}
use Rattle.wh_host_model.specs.declared.plain.TurnEnd.{TurnEnd}
use Rattle.wh_space_model.specs.{Space, view, wants}
use Rattle.wh_host_model.specs.Host.{WaitsAlone, Rest, Doing, resting, has_left, computing, Suspension, for_fuel, for_frame, for_device, Tenant, journal_calls, store_with, store_in, standing_with, HaveTypes, Upshot, to_end, out_of_fuel, to_wait, to_go_on, Proceeds, returns, traps, writes_all, uses_fuel, waits, waits_to_write, has_had_its_turn, gone_further, ended_by, gone_on, Faces, Closes, faces_next, is_dead, at_frame, Turn, is_idle, has_ended, has_no_fuel, has_no_frame, can_go_on, keeps_its_fault, open_count, TakesCall, WaitsAfter, Refuels, has_more, Cancels, Retries, may_try, StartsAs, writes, runs, rest_of, IsOpenCall, ReturnsTyped, HasEnded, InOrder, is_starting, has_started, NextAsks, a_piece, a_step, WaitsDuly, FirstWaitsDuly}
use Rattle.wh_host_model.specs.{Entry, start_entry, new_entry, Params, most_fuel, most_calls, most_open}
use Rattle.wh_host_model.specs.Host.OwnerCalls as requests
use Rattle.wh_host_model.specs.Host.Admission.{ends}
use Rattle.wh_host_model.proofs.Host.Entries.{Now, faces_now, past_dead, calls_join, all_join, joined, invoked_alike}
use Rattle.wh_host_model.proofs.Host.Ordered.{SameCall, order_on, order_ends, order_dies, order_comes, order_fuel}
use Rattle.wh_host_model.proofs.Host.Limits.{SameLimit, given_still, initial_still}
use Rattle.wh_host_model.proofs.Host.Opening.{computes_call, writes_view, whole, counted}

-- An instance is what its journal comes to, where its memory has these bytes and these are wanted there: in two parts, the
-- calls that have ended and those that are open.
pub record Kept (m : Module) (p : Parameters) (t : Tenant) (bytes : List ℕ) (want : Option Need) : Type 0 where
  pub given : AreGiven p
  pub s0 : Store
  pub ps0 : List Piece
  pub initial : IsInitial m p (begins t.inst s0 ps0)
  pub s1 : Store
  pub ps1 : List Piece
  pub past : Past t.inst s0 ps0 (journal_calls t.ended) s1 ps1
  pub now : Now t.inst s1 ps1 (journal_calls t.open_calls) (standing_with bytes t.rest t.doing)
  pub order : InOrder m t.inst t.dead t.ended t.open_calls
  pub few : length t.ended + length t.open_calls ≤ most_calls
  pub few_open : open_count t ≤ most_open
  pub duly : FirstWaitsDuly t.inst (store_with bytes t.rest) t.doing t.open_calls want t.waiting_for

-- what is known where a call is present
record Present (m : Module) (p : Parameters) (t : Tenant) (bytes : List ℕ) (want : Option Need) (e : Entry) (es : List Entry) : Type 0 where
  given : AreGiven p
  s0 : Store
  ps0 : List Piece
  initial : IsInitial m p (begins t.inst s0 ps0)
  s1 : Store
  ps1 : List Piece
  past : Past t.inst s0 ps0 (journal_calls t.ended) s1 ps1
  pending : e.call.outcome ≡ pending
  stands : Stands t.inst s1 ps1 e.call (standing_with bytes t.rest t.doing)
  waits : AllByRecursion Waits (journal_calls es)
  order : InOrder m t.inst t.dead t.ended (e ∷ es)
  few : length t.ended + suc (length es) ≤ most_calls
  few_open : suc (length es) - (1 - min 1 (length t.ended)) ≤ most_open
  duly : WaitsDuly t.inst (store_with bytes t.rest) t.doing e.call want t.waiting_for

present : {m : Module} {p : Parameters} {t : Tenant} {bytes : List ℕ} {want : Option Need} {e : Entry} {es : List Entry} → Kept m p t bytes want → t.open_calls ≡ e ∷ es → Present m p t bytes want e es
present {m = m} {t = t} {bytes = bytes} {want = want} k same = search rules

-- ---- the present call ends

duly_none : (inst : Instance) (s : Store) (d : Doing) {want : Option Need} (es : List Entry) → want ≡ None → FirstWaitsDuly inst s d es want None
duly_none inst s d [] none = (none, refl)
duly_none inst s d (e ∷ es) none = none

closes_kept : {m : Module} {p : Parameters} {t t2 : Tenant} {bytes : List ℕ} {want : Option Need} {e : Entry} {es : List Entry} (pr : Present m p t bytes want e es) (e2 : Entry) (s3 : Space) (r : Rest)
    → Ends t.inst pr.s1 pr.ps1 e2.call (store_with (view s3 t.place) r) → SameCall e e2 → HasEnded e2.call.outcome → ReturnsTyped t.inst e2.call e2.call.outcome → wants s3 t.place ≡ None
    → Closes s3 t e2 es r t2 → Kept m p t2 (view s3 t.place) (wants s3 t.place)
closes_kept {t = t} {es = es} pr e2 s3 r end same h typed none (faces_next {d = d} alive f) = record {
  given = pr.given;
  s0 = pr.s0;
  ps0 = pr.ps0;
  initial = pr.initial;
  s1 = store_with (view s3 t.place) r;
  ps1 = [];
  past = joined t.ended (e2 ∷ []) pr.past (one_more end none_yet);
  now = faces_now t.inst (view s3 t.place) r es d pr.waits f;
  order = order_ends e2 same h typed alive pr.order;
  few = let n = length-append t.ended (e2 ∷ []) in let few = pr.few in omega (arith, n, few);
  few_open = let n = length-append t.ended (e2 ∷ []) in let few = pr.few_open in omega (arith, n, few);
  duly = duly_none t.inst (store_with (view s3 t.place) r) d es none;
}
closes_kept {t = t} {es = es} pr e2 s3 r end same h typed none (is_dead died) = record {
  given = pr.given;
  s0 = pr.s0;
  ps0 = pr.ps0;
  initial = pr.initial;
  s1 = store_with (view s3 t.place) r;
  ps1 = [];
  past = joined t.ended (e2 ∷ map (λ w. ended_by w dead) es) pr.past (one_more end (past_dead t.inst (store_with (view s3 t.place) r) es pr.waits));
  now = (refl, refl);
  order = order_dies e2 same h died pr.order;
  few = search (rules, length-append, length-map);
  few_open = omega arith;
  duly = (none, refl);
}

-- ---- a turn

split_pieces : (ps1 ps more : List Piece) (f : ℕ) → f < length ps1 → drop f ps1 ≡ ps ++ more → (take (f + length ps) ps1 ≡ take f ps1 ++ ps) × (drop (f + length ps) ps1 ≡ more)
split_pieces ps1 ps more f lt e =
    let front = take f ps1 ++ ps in
    let whole : ps1 ≡ front ++ more = sym (take-append-drop f ps1) ∙ ap (λ x. take f ps1 ++ x) e ∙ sym (append_assoc (take f ps1) ps more) in
    let count : length front ≡ f + length ps = length-append (take f ps1) ps ∙ ap (λ n. n + length ps) ((length-take f ps1 ∙ (let h : min f (length ps1) ≡ f = omega (arith, lt) in h))) in (
      ap (λ n. take n ps1) (sym count) ∙ ap (take (length front)) whole ∙ take-append_seam front more,
      ap (λ n. drop n ps1) (sym count) ∙ ap (drop (length front)) whole ∙ drop-append_seam front more,
    )

never_none : (p : Piece) (ps : List Piece) → p ∷ ps ≢ []
never_none p ps e = cc e

some_left : (ps1 more : List Piece) (n : ℕ) → drop n ps1 ≡ more → more ≢ [] → n < length ps1
some_left ps1 [] n e some = absurd (some refl)
some_left ps1 (p ∷ more) n e some = let count = length-drop n ps1 ∙ refl in let same = ap length e in omega (arith, count, same)

more_written : {M : Type 0} {bytes : M → List ℕ} {ready : M → Need → Type 0} {keeps : M → M → Type 0} {inst : Instance} {s1 : Store} {ps1 : List Piece} {call : Call} {z : Standing} (r : Rest) (m m2 : M) (ps more : List Piece)
    → Stands inst s1 ps1 call z → z ≡ writing (store_with (bytes m) r) (ps ++ more) → more ≢ [] → Writes bytes ready keeps m ps m2
    → Stands inst s1 ps1 (record call { fragments = call.fragments + length ps; charges = call.charges + 0 }) (writing (store_with (bytes m2) r) more)
more_written {bytes = bytes} {inst = inst} {s1 = s1} {ps1 = ps1} {call = call} r m m2 ps more (has_pieces lt none) e some w =
    let left : drop call.fragments ps1 ≡ ps ++ more = cc e in
    let was : with_pieces s1 (take call.fragments ps1) ≡ store_with (bytes m) r = cc e in
    let cut = split_pieces ps1 ps more call.fragments lt left in
    let n : ℕ = call.fragments + length ps in
    let call2 : Call = record call { fragments = n; charges = call.charges + 0 } in
    let store : with_pieces s1 (take n ps1) ≡ store_with (bytes m2) r = ap (with_pieces s1) cut.0 ∙ sym (pieces_then s1 (take call.fragments ps1) ps) ∙ ap (λ x. with_pieces x ps) was ∙ sym (writes_view r w) in
    let far : n < length ps1 = some_left ps1 more n cut.1 some in
    let at : Stands inst s1 ps1 call2 (writing (with_pieces s1 (take n ps1)) (drop n ps1)) = has_pieces far (omega (arith, none)) in
    subst (λ x. Stands inst s1 ps1 call2 (writing x more)) store (subst (λ x. Stands inst s1 ps1 call2 (writing (with_pieces s1 (take n ps1)) x)) cut.1 at)
more_written r m m2 ps more (is_invoked p q i) e some w = absurd (cc e)
more_written r m m2 ps more (is_under_way p l i b z) e some w = absurd (cc e)

all_written : {M : Type 0} {bytes : M → List ℕ} {ready : M → Need → Type 0} {keeps : M → M → Type 0} {inst : Instance} {s1 : Store} {ps1 : List Piece} {call : Call} {z : Standing} (r : Rest) (m m2 : M) (ps : List Piece)
    → Stands inst s1 ps1 call z → z ≡ writing (store_with (bytes m) r) ps → Writes bytes ready keeps m ps m2 → call.func ≡ None
    → Ends inst s1 ps1 (record call { fragments = call.fragments + length ps; charges = call.charges + 0; outcome = returned [] }) (store_with (bytes m2) r)
all_written {bytes = bytes} {inst = inst} {s1 = s1} {ps1 = ps1} {call = call} r m m2 ps (has_pieces lt none) e w func =
    let left : drop call.fragments ps1 ≡ ps = cc e in
    let was : with_pieces s1 (take call.fragments ps1) ≡ store_with (bytes m) r = cc e in
    let all : with_pieces s1 ps1 ≡ store_with (bytes m2) r = sym (whole s1 ps1 ps call.fragments (sym left)) ∙ ap (λ x. with_pieces x ps) was ∙ sym (writes_view r w) in
    let call2 : Call = record call { fragments = call.fragments + length ps; charges = call.charges + 0; outcome = returned [] } in
    subst (λ x. Ends inst s1 ps1 call2 x) all (replays.has_written refl func (counted ps1 ps call.fragments (sym left) lt) (omega (arith, none)))
all_written r m m2 ps (is_invoked p q i) e w func = absurd (cc e)
all_written r m m2 ps (is_under_way p l i b z) e w func = absurd (cc e)

-- what a turn makes of a call, in the journal's words
abbrev Makes : {M : Type 0} (bytes : M → List ℕ) (inst : Instance) (s1 : Store) (ps1 : List Piece) (e : Entry) (k n : ℕ) (m2 : M) (r2 : Rest) (d2 : Doing) → Upshot → Type 0
Makes bytes inst s1 ps1 e k n m2 r2 d2 (to_end o) = Ends inst s1 ps1 (ended_by (gone_further e k n) o).call (store_with (bytes m2) r2) × HasEnded o × ReturnsTyped inst (ended_by (gone_further e k n) o).call o
Makes bytes inst s1 ps1 e k n m2 r2 d2 out_of_fuel = Stands inst s1 ps1 (gone_further e k n).call (standing_with (bytes m2) r2 d2) × WaitsDuly inst (store_with (bytes m2) r2) d2 (gone_further e k n).call None (Some for_fuel)
Makes bytes inst s1 ps1 e k n m2 r2 d2 (to_wait need) = Stands inst s1 ps1 (gone_further e k n).call (standing_with (bytes m2) r2 d2) × NextAsks inst (store_with (bytes m2) r2) (gone_further e k n).call d2 need
Makes bytes inst s1 ps1 e k n m2 r2 d2 to_go_on = Stands inst s1 ps1 (gone_further e k n).call (standing_with (bytes m2) r2 d2)

pub types_alike : {inst : Instance} {call : Call} {vs : List Value} (call2 : Call) → call2.func ≡ call.func → HaveTypes inst call vs → HaveTypes inst call2 vs
types_alike call2 f h = record { index = h.index; type = h.type; body = h.body; calls = let g = h.calls in cc (f, g); is_own = h.is_own; types = h.types; fit = h.fit }

pub some_func : {inst : Instance} {call : Call} {vs : List Value} → HaveTypes inst call vs → call.func ≡ None → vs ≡ []
some_func h none = let g = h.calls in absurd (cc (g, none))

makes : {M : Type 0} {bytes : M → List ℕ} {ready : M → Need → Type 0} {keeps : M → M → Type 0} {inst : Instance} {s1 : Store} {ps1 : List Piece} (e : Entry) {q k n : ℕ} {m m2 : M} {r r2 : Rest} {d d2 : Doing} {to : Upshot}
    → Stands inst s1 ps1 e.call (standing_with (bytes m) r d) → Proceeds bytes ready keeps inst q e.call m r d to k n m2 r2 d2 → Makes bytes inst s1 ps1 e k n m2 r2 d2 to
makes e {k = k} {n = n} st (returns {vs = vs} x typed) =
    let o = computes_call st x in
    let e2 : Entry = ended_by (gone_further e k n) (returned vs) in (
      replays.has_returned refl o.written x.in_fuel (invoked_alike e2.call o.invoked refl refl) o.after,
      tt,
      (λ none. some_func typed none, λ some. types_alike e2.call refl typed),
    )
makes e {k = k} {n = n} st (traps {x = trap} x) =
    let o = computes_call st x in
    let e2 : Entry = ended_by (gone_further e k n) (stopped trap) in
    (replays.has_trapped refl o.written x.in_fuel (invoked_alike e2.call o.invoked refl refl) o.after, tt, tt)
makes {bytes = bytes} e {m = m} {m2 = m2} {r = r} st (writes_all {ps = ps} d f w) = (all_written r m m2 ps st (ap (standing_with (bytes m) r) d) w f, tt, (λ none. refl, λ some. absurd (some f)))
makes e {k = k} {n = n} st (uses_fuel {term = term} x next u) =
    let o = computes_call st x in (is_under_way o.written x.in_fuel (invoked_alike (gone_further e k n).call o.invoked refl refl) o.after next, (refl, u, (term, refl, next)))
makes e {k = k} {n = n} st (waits x next u a v) =
    let o = computes_call st x in (is_under_way o.written x.in_fuel (invoked_alike (gone_further e k n).call o.invoked refl refl) o.after next, a_step u next a)
makes {bytes = bytes} e {m = m} {m2 = m2} {r = r} st (waits_to_write {ps = ps} {more = more} {p = p} d w v) = (more_written r m m2 ps (p ∷ more) st (ap (standing_with (bytes m) r) d) (never_none p more) w, a_piece)
makes e {k = k} {n = n} st (has_had_its_turn x next u v y) =
    let o = computes_call st x in is_under_way o.written x.in_fuel (invoked_alike (gone_further e k n).call o.invoked refl refl) o.after next

on_kept : {m : Module} {p : Parameters} {bytes : List ℕ} {want : Option Need} {s2 s3 : Space} {t : Tenant} {e : Entry} {es : List Entry} (k n : ℕ) {r : Rest} {d : Doing} (o : Option Suspension) (stands : Option Need) (pr : Present m p t bytes want e es)
    → Stands t.inst pr.s1 pr.ps1 (gone_further e k n).call (standing_with (view s2 t.place) r d)
    → WaitsDuly t.inst (store_with (view s2 t.place) r) d (gone_further e k n).call stands o → WaitsAlone t.place stands s2 s3
    → Kept m p (gone_on t (gone_further e k n) es r d o) (view s3 t.place) (wants s3 t.place)
on_kept {s2 = s2} {s3 = s3} {t = t} {e = e} k n {r = r} {d = d} o stands pr at duly leaves = search (rules, order_on)

frame_duly : {inst : Instance} {s : Store} {d : Doing} {call : Call} {need : Need} (j : ℕ) (o : Option Suspension) → NextAsks inst s call d need → WaitsDuly inst s d call (Some need) (at_frame j o)
frame_duly {need = need} zero None asks = (need, refl, asks)
frame_duly {need = need} zero (Some for_fuel) asks = (need, refl, asks)
frame_duly {need = need} zero (Some for_frame) asks = (need, refl, asks)
frame_duly {need = need} zero (Some (for_device f)) asks = (need, refl, asks)
frame_duly {need = need} (suc j) o asks = (need, refl, asks)

pub turn_kept : {m : Module} {p : Parameters} {q : ℕ} {s s2 : Space} {t t2 : Tenant} {answer : TurnEnd} → Kept m p t (view s t.place) (wants s t.place) → Turn q s t answer s2 t2 → Kept m p t2 (view s2 t.place) (wants s2 t.place)
turn_kept k (is_idle none) = k
turn_kept {t = t} k (has_ended {e = e} {es = es} {o = o} {k = pieces} {n = n} {s2 = s2} {s3 = s3} {r = r} there g leaves pins c) =
    let pr = present k there in
    let e2 : Entry = ended_by (gone_further e pieces n) o in
    let made = makes e pr.stands g in
    closes_kept pr e2 s3 r (subst (λ b. Ends t.inst pr.s1 pr.ps1 e2.call (store_with b r)) (sym leaves.view) made.0) (record { func = refl; args = refl; given = refl; fuel = λ h. h }) made.1 made.2 leaves.wants c
turn_kept {t = t} k (has_no_fuel {e = e} {k = pieces} {n = n} {r = r} {d = d} there g leaves pins) =
    let pr = present k there in let made = makes e pr.stands g in on_kept {t = t} pieces n (Some for_fuel) None pr made.0 made.1 leaves
turn_kept {t = t} k (has_no_frame {e = e} {need = need} {k = pieces} {n = n} {r = r} {d = d} there g leaves pins) =
    let pr = present k there in let made = makes e pr.stands g in on_kept {t = t} pieces n (at_frame (pieces + n) t.waiting_for) (Some need) pr made.0 (frame_duly (pieces + n) t.waiting_for made.1) leaves
turn_kept {t = t} k (can_go_on {e = e} {k = pieces} {n = n} {r = r} {d = d} there g leaves pins fault) =
    let pr = present k there in on_kept {t = t} pieces n None None pr (makes e pr.stands g) refl leaves
turn_kept k (keeps_its_fault there stands doing none next fuel now) = k

-- ---- a cancelled call

store_there : (b : List ℕ) (r : Rest) (d : Doing) → store_at (standing_with b r d) ≡ store_with b r
store_there b r resting = refl
store_there b r (has_left ps) = refl
store_there b r (computing t) = refl

pub cancel_kept : {m : Module} {p : Parameters} {s s2 : Space} {t t2 : Tenant} → Kept m p t (view s t.place) (wants s t.place) → Cancels s t s2 t2 → Kept m p t2 (view s2 t.place) (wants s2 t.place)
cancel_kept {s = s} {s2 = s2} {t = t} k (requests.ends {e = e} there leaves pins c) =
    let pr = present k there in
    let e2 : Entry = ended_by e cancelled in
    let b = view s t.place in
    let stays : Ends t.inst pr.s1 pr.ps1 e2.call (store_at (standing_with b t.rest t.doing)) = cancelled_stays t.inst pr.s1 pr.ps1 e.call (standing_with b t.rest t.doing) pr.stands in
    let end : Ends t.inst pr.s1 pr.ps1 e2.call (store_with b t.rest) = subst (λ x. Ends t.inst pr.s1 pr.ps1 e2.call x) (store_there b t.rest t.doing) stays in
    closes_kept pr e2 s2 t.rest (subst (λ b. Ends t.inst pr.s1 pr.ps1 e2.call (store_with b t.rest)) (sym leaves.view) end) (record { func = refl; args = refl; given = refl; fuel = λ h. h }) tt tt leaves.wants c

-- ---- more fuel, and another try

more_stands : {inst : Instance} {s : Store} {ps : List Piece} {call : Call} {z : Standing} (f : ℕ) → call.fuel ≤ f → Stands inst s ps call z → Stands inst s ps (record call { fuel = f }) z
more_stands f le (has_pieces p q) = has_pieces p q
more_stands {call = call} f le (is_invoked p q i) = is_invoked p q (invoked_alike (record call { fuel = f }) i refl refl)
more_stands {call = call} f le (is_under_way p l i a n) = is_under_way p (omega (arith, l, le)) (invoked_alike (record call { fuel = f }) i refl refl) a n

more_asks : {inst : Instance} {s : Store} {d : Doing} {call : Call} {need : Need} (f : ℕ) → call.fuel ≤ f → NextAsks inst s call d need → NextAsks inst s (record call { fuel = f }) d need
more_asks f le a_piece = a_piece
more_asks f le (a_step lt next a) = a_step (omega (arith, lt, le)) next a

more_duly : (inst : Instance) (s : Store) (d : Doing) (call : Call) (want : Option Need) (f : ℕ) → call.fuel ≤ f → (old o : Option Suspension) → WaitsDuly inst s d call want old → WaitsAfter (record call { fuel = f }) old o → WaitsDuly inst s d (record call { fuel = f }) want o
more_duly inst s d call want f le None o duly after = subst (λ z. WaitsDuly inst s d (record call { fuel = f }) want z) (sym after) duly
more_duly inst s d call want f le (Some for_fuel) o duly after = search rules
more_duly inst s d call want f le (Some for_frame) o duly after = subst (λ z. WaitsDuly inst s d (record call { fuel = f }) want z) (sym after) (duly.0, duly.1, more_asks f le duly.2)
more_duly inst s d call want f le (Some (for_device x)) o duly after = subst (λ z. WaitsDuly inst s d (record call { fuel = f }) want z) (sym after) (duly.0, duly.1, more_asks f le duly.2)

pub refuel_kept : {m : Module} {p : Parameters} {n : ℕ} {t t2 : Tenant} {bytes : List ℕ} {want : Option Need} → Kept m p t bytes want → Refuels t n t2 → Kept m p t2 bytes want
refuel_kept {n = n} {t = t} {bytes = bytes} {want = want} k (has_more {e = e} {o = o} there after) =
    search (rules, present, order_fuel, ℕ, min, more_stands, order_on, more_duly)

-- what is wanted stays so, whether a device has failed or not
pub faulted_kept : {m : Module} {p : Parameters} {t : Tenant} {bytes : List ℕ} {want : Option Need} {a b : Suspension} → Kept m p t bytes want → t.waiting_for ≡ Some a → a ≢ for_fuel → b ≢ for_fuel → Kept m p (record t { waiting_for = Some b }) bytes want
faulted_kept {t = t} {bytes = bytes} {want = want} {a = a} {b = b} k was from to = search rules

pub retry_kept : {m : Module} {p : Parameters} {t t2 : Tenant} {bytes : List ℕ} {want : Option Need} → Kept m p t bytes want → Retries t t2 → Kept m p t2 bytes want
retry_kept k (may_try there stands) = faulted_kept k stands (λ e. cc e) (λ e. cc e)

-- ---- a new call

new_waits : (x : ℕ) (vs : List Value) (given : List ℤ) (fuel : ℕ) → AllByRecursion Waits (journal_calls (new_entry x vs given fuel ∷ []))
new_waits x vs given fuel = (record { outcome = refl; fragments = refl; charges = refl }, tt)

idle_store : (b : List ℕ) (r : Rest) (d : Doing) (s : Store) → standing_with b r d ≡ idle s → store_with b r ≡ s
idle_store b r resting s e = cc e
idle_store b r (has_left ps) s e = absurd (cc e)
idle_store b r (computing t) s e = absurd (cc e)

accepted : {m : Module} {p : Parameters} {t : Tenant} (s : Space) (x : ℕ) (vs : List Value) (given : List ℤ) (fuel : ℕ) (d : Doing) → Kept m p t (view s t.place) (wants s t.place)
    → IsOpenCall t.inst (new_entry x vs given fuel) → t.dead ≡ false → length t.ended + length t.open_calls < most_calls → open_count t < most_open
    → (t.open_calls ≡ [] → Faces t.inst (store_in s t) (new_entry x vs given fuel ∷ []) d) → (t.open_calls ≢ [] → d ≡ t.doing)
    → (os : List Entry) → t.open_calls ≡ os → Kept m p (record t { doing = d; open_calls = os ++ new_entry x vs given fuel ∷ [] }) (view s t.place) (wants s t.place)
accepted {m = m} {t = t} s x vs given fuel d k asked alive few room first later [] none =
    let now = subst (λ xs. Now t.inst k.s1 k.ps1 (journal_calls xs) (standing_with (view s t.place) t.rest t.doing)) none k.now in
    let store : store_with (view s t.place) t.rest ≡ k.s1 = idle_store (view s t.place) t.rest t.doing k.s1 now.1 in
    let faced = faces_now t.inst (view s t.place) t.rest (new_entry x vs given fuel ∷ []) d (new_waits x vs given fuel) (first none) in
    let duly = subst (λ xs. FirstWaitsDuly t.inst (store_in s t) t.doing xs (wants s t.place) t.waiting_for) none k.duly in
    record {
      given = k.given;
      s0 = k.s0;
      ps0 = k.ps0;
      initial = k.initial;
      s1 = k.s1;
      ps1 = [];
      past = subst (λ ps. Past t.inst k.s0 k.ps0 (journal_calls t.ended) k.s1 ps) now.0 k.past;
      now = subst (λ z. Now t.inst z [] (journal_calls (new_entry x vs given fuel ∷ [])) (standing_with (view s t.place) t.rest d)) store faced;
      order = order_comes (new_entry x vs given fuel) alive asked (subst (λ xs. InOrder m t.inst t.dead t.ended xs) none k.order);
      few = omega (arith, few, ap length none);
      few_open = omega arith;
      duly = subst (λ o. WaitsDuly t.inst (store_in s t) d (new_entry x vs given fuel).call (wants s t.place) o) (sym duly.1) duly.0;
    }
accepted {m = m} {t = t} s x vs given fuel d k asked alive few room first later (e ∷ es) there =
    let pr = present k there in
    let same : d ≡ t.doing = later (λ none. let no : e ∷ es ≡ [] = sym there ∙ none in cc no) in
    record {
      given = pr.given;
      s0 = pr.s0;
      ps0 = pr.ps0;
      initial = pr.initial;
      s1 = pr.s1;
      ps1 = pr.ps1;
      past = pr.past;
      now = search (rules, calls_join, all_join, new_waits);
      order = order_comes (new_entry x vs given fuel) alive asked pr.order;
      few = let n = length-append es (new_entry x vs given fuel ∷ []) in let l = ap length there in omega (arith, few, n, l);
      few_open = let n = length-append es (new_entry x vs given fuel ∷ []) in let l = ap length there in omega (arith, room, n, l);
      duly = subst (λ z. WaitsDuly t.inst (store_in s t) z e.call (wants s t.place) t.waiting_for) (sym same) pr.duly;
    }

pub accept_kept : {m mm : Module} {p : Parameters} {t t2 : Tenant} {name : List ℕ} {given : List ℤ} {fuel at : ℕ} (s : Space) → Kept m p t (view s t.place) (wants s t.place) → TakesCall mm s t name given fuel at t2 → Kept m p t2 (view s t.place) (wants s t.place)
accept_kept {m} {p = p} {t = t} {given = given} {fuel = fuel} s k a =
    let few = a.few_calls in
    let n = length-append t.ended t.open_calls in
    let asked : IsOpenCall t.inst (new_entry a.func a.vs given fuel) = search rules in
    subst (λ z. Kept m p z (view s t.place) (wants s t.place)) (sym a.after) (accepted s a.func a.vs given fuel a.doing k asked a.alive (omega (arith, few, n)) a.few_open a.first a.later t.open_calls refl)

-- ---- an instance begins

some_pieces : (ps : List Piece) → ps ≢ [] → 0 < length ps
some_pieces [] some = absurd (some refl)
some_pieces (p ∷ ps) some = omega arith

abbrev pub beginner : ℕ → ℕ → Params → Instance → Store → Doing → List Entry → List Entry → Tenant
beginner place of p inst s d es os =
    record { place = place; of = of; params = p; inst = inst; rest = rest_of s; doing = d; ended = es; copied = 0; open_calls = os; waiting_for = None; dead = false }

pub begins_kept : (m : Module) (place of : ℕ) (params : Params) (p : Parameters) (inst : Instance) (s : Store) (ps : List Piece) (fuel : ℕ) {d : Doing} {es os : List Entry} → AreGiven p → IsInitial m p (begins inst s ps) → fuel ≤ most_fuel
    → StartsAs inst s ps m.start fuel d es os → Kept m p (beginner place of params inst s d es os) s.bytes None
begins_kept m place of params p inst s ps fuel given initial low (writes some) = record {
  given = given;
  s0 = s;
  ps0 = ps;
  initial = initial;
  s1 = s;
  ps1 = ps;
  past = none_yet;
  now = (refl, has_pieces (some_pieces ps some) refl, tt);
  order = is_starting (record { func = refl; args = refl; given = refl; fuel = low }) refl tt;
  few = omega arith;
  few_open = omega arith;
  duly = refl;
}
begins_kept m place of params p inst s ps fuel given initial low (runs {x = x} {d = d} none start f) = record {
  given = given;
  s0 = s;
  ps0 = ps;
  initial = initial;
  s1 = s;
  ps1 = [];
  past = subst (λ qs. Past inst s ps [] s qs) none none_yet;
  now = faces_now inst s.bytes (rest_of s) (start_entry m.start fuel pending ∷ []) d (record { outcome = refl; fragments = refl; charges = refl }, tt) f;
  order = is_starting (record { func = refl; args = refl; given = refl; fuel = low }) refl tt;
  few = omega arith;
  few_open = omega arith;
  duly = refl;
}
begins_kept m place of params p inst s ps fuel given initial low (ends none start) = record {
  given = given;
  s0 = s;
  ps0 = ps;
  initial = initial;
  s1 = s;
  ps1 = [];
  past = subst (λ qs. Past inst s qs (journal_calls (start_entry None fuel (returned []) ∷ [])) s []) (sym none) (one_more (replays.has_written refl refl refl refl) none_yet);
  now = (refl, refl);
  order = has_started (record { func = sym start; args = refl; given = refl; fuel = low }) tt refl (λ none. refl, λ some. absurd (some refl)) tt tt;
  few = omega arith;
  few_open = omega arith;
  duly = (refl, refl);
}

-- ---- an instance is copied

-- a copy, without an open call, is what the same journal comes to
pub fork_kept : {m : Module} {p p2 : Parameters} {t : Tenant} {bytes : List ℕ} {want : Option Need} → Kept m p t bytes want → t.open_calls ≡ [] → SameLimit m p p2 t.inst → (place : ℕ) (params : Params)
    → Kept m p2 (record t { place = place; params = params; copied = length t.ended; waiting_for = None }) bytes None
fork_kept {m = m} {p = p} {p2 = p2} {t = t} {bytes = bytes} k none same place params = search (rules, given_still, initial_still, duly_none)
