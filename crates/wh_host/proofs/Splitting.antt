-- A turn of more charges than some is a turn of n, and one of the rest.
use Rattle.std.proofs.Common.{◌≡◌, ◌≢◌, ◌∙◌, ◌⊎◌, inl, inr, ℕ, zero, suc, ◌+◌, ◌*◌, ◌-◌, ◌<◌, ◌≤◌, List, [], ◌∷◌, ◌++◌, Option, Some, None, length, reverse, slice_get, slice_set, get_or, refl, sym, ap, subst, arith, rules}
use Rattle.std.proofs.Math.Nat.{one-mul, suc-mul, zero-mul}
use Rattle.wh_model.specs.declared.memory.Need.{Need}
use Rattle.wh_model.specs.declared.Trap.{Trap}
use Rattle.wh_model.specs.Format.{Code, nothing}
use Rattle.wh_model.specs.Execution.Store.{Instance, Store}
use Rattle.wh_model.specs.Execution.{Value, FuncInst, Term, code, Config, config, trapped, store_of, Base, pure, traps as stops, get_local, set_local, tee_local, get_global, set_global, load_bytes, store_bytes, size_pages, grow_pages, grow_too_far, invoke, Invokes, enter, too_deep, input, put, put_full, emit, emit_long, emit_beyond, emit_full, Reduces, base, in_label, in_frame, trap_label, trap_frame, leave_label, leave_frame, branch, returns as reduces_return, Leads, stays, goes_on, IsSettled, After, IsNext, Asks, returned, stopped, Call, Takes, took_all, took}
use Rattle.wh_model.proofs.Opened.{opened_store}
use Rattle.wh_host_model.specs.declared.plain.TurnEnd.{TurnEnd}
use Rattle.wh_host_model.specs.declared.plain.TurnEnd.TheVariants.{Again}
use Rattle.wh_space_model.specs.{Space, Claimed, claim, IsSound, ended}
use Rattle.wh_host_model.proofs.Host.Bridges.{ends_well}
use Rattle.wh_space_model.proofs.Sent.{set_set}
use Rattle.wh_host_model.proofs.Host.Opening.{proceeds_apart}
use Rattle.wh_host_model.specs.Host.{StepsAlone, WaitsAlone, Rest, Doing, resting, computing, Tenant, journal, store_with, Suspension, for_frame, for_fuel, World, with_tenant, Opens, by_invocation, as_it_was, Computes, HaveTypes, Upshot, to_end, out_of_fuel, to_wait, to_go_on, Proceeds, returns, traps, writes_all, uses_fuel, waits, waits_to_write, has_had_its_turn, gone_further, gone_on, ended_by, Closes, faces_next, is_dead, at_frame, ProceedsIn, Turn, is_idle, has_ended, has_no_fuel, has_no_frame, can_go_on, keeps_its_fault, IsLive, of_one}
use Rattle.wh_host_model.specs.{Entry}
use Rattle.wh_space_model.specs.declared.plain.InstId.{InstId}
use Rattle.wh_host.proofs.Turns.{claimed_there}
use Rattle.wh_instance.specs.Bursts.{AreUsed}
use Rattle.wh_host.specs.Series.{HasSpent, IsWholeOrCut, SeriesOf, Spends, last_turn, turn_before}
use Rattle.wh_host.proofs.Spending.{at_seam, closed_at, spends_on}

-- ---- no frame is around what a call computes

abbrev pub IsBare : Config → Type 0
IsBare (config s f t) = f ≡ []
IsBare (trapped s x) = Unit {0}

invokes_bare : {d : ℕ} {s : Store} {f : List Value} {h : FuncInst} {vs : List Value} {is : Code} {c : Config} → Invokes d s f h vs is c → f ≡ [] → IsBare c
invokes_bare (enter a b) e = e
invokes_bare (too_deep a b) e = tt
invokes_bare input e = e
invokes_bare (put a) e = e
invokes_bare (put_full a) e = tt
invokes_bare (emit a b c) e = e
invokes_bare (emit_long a) e = tt
invokes_bare (emit_beyond a b) e = tt
invokes_bare (emit_full a b c) e = tt

base_bare : {inst : Instance} {d k : ℕ} {s : Store} {f vs : List Value} {is : Code} {c : Config} → Base inst d s f vs is k c → f ≡ [] → IsBare c
base_bare (pure a) e = e
base_bare (stops a) e = tt
base_bare (get_local a) e = e
base_bare (set_local {x = x} {v = v} a) e = ap (λ (g : List Value). slice_set g x v) e
base_bare (tee_local {x = x} {v = v} a) e = ap (λ (g : List Value). slice_set g x v) e
base_bare (get_global a) e = e
base_bare (set_global a) e = e
base_bare (load_bytes a) e = e
base_bare (store_bytes a b) e = e
base_bare size_pages e = e
base_bare (grow_pages a) e = e
base_bare (grow_too_far a) e = e
base_bare (invoke a b) e = invokes_bare b e

reduces_bare : {inst : Instance} {d k : ℕ} {a b : Config} → Reduces inst d a k b → IsBare a → IsBare b
reduces_bare (base b) e = base_bare b e
reduces_bare (in_label x) e = reduces_bare x e
reduces_bare (in_frame x) e = e
reduces_bare (trap_label x) e = tt
reduces_bare (trap_frame x) e = tt
reduces_bare leave_label e = e
reduces_bare (leave_frame p) e = e
reduces_bare (branch b j z) e = e
reduces_bare (reduces_return b z) e = e

leads_bare : {inst : Instance} {n : ℕ} {a b : Config} → Leads inst a n b → IsBare a → IsBare b
leads_bare stays e = e
leads_bare (goes_on k n x r) e = leads_bare r (reduces_bare x e)

trapped_stays : {inst : Instance} {d k : ℕ} {s : Store} {x : Trap} {c : Config} → Reduces inst d (trapped s x) k c → ⊥
trapped_stays r = elim r [ ]

trapped_has_none : {inst : Instance} {s : Store} {x : Trap} → IsNext inst (trapped s x) → ⊥
trapped_has_none next = trapped_stays next.1

-- ---- chains of steps

-- A chain of more than some steps: n lead to where a charged reduction is next, whose bytes are ready, and the rest leads on
-- from any memory that is as good.
record Cut {M : Type 0} (bytes : M → List ℕ) (ready : M → Need → Type 0) (keeps : M → M → Type 0) (inst : Instance) (m : M) (c : Config) (n k : ℕ) (m2 : M) (c2 : Config) : Type 0 where
  mid : M
  at : Config
  first : Takes bytes ready keeps inst m c n mid at
  settled : IsSettled inst at
  bare : IsBare at
  there : bytes mid ≡ (store_of at).bytes
  next : (c1 : Config) × After inst at 1 c1
  asked : (need : Need) → Asks inst at need → ready mid need
  rest : (from : M) → ((need : Need) → ready mid need → ready from need) → ((x : M) → keeps mid x → keeps from x) → Takes bytes ready keeps inst from at k m2 c2

cut : {M : Type 0} {bytes : M → List ℕ} {ready : M → Need → Type 0} {keeps : M → M → Type 0} {inst : Instance} {m m2 : M} {c c2 : Config} {i : ℕ} (n k : ℕ) → i ≡ n + suc k → Takes bytes ready keeps inst m c i m2 c2 → IsSettled inst c → IsBare c → bytes m ≡ (store_of c).bytes
    → Cut bytes ready keeps inst m c n (suc k) m2 c2
cut n k is took_all settled bare there = absurd (omega (arith, is))
cut {bytes = bytes} {ready = ready} {keeps = keeps} {inst = inst} {m = m} {m2 = m2} {c = c} {c2 = c2} zero k is (took {c1 = c1} {n = j} now one new kept rest) settled bare there =
    let same : suc j ≡ suc k = omega (arith, is) in
    record {
      mid = m;
      at = c;
      first = took_all;
      settled = settled;
      bare = bare;
      there = there;
      next = (c1, one);
      asked = now;
      rest = λ from good keep. subst (λ i. Takes bytes ready keeps inst from c i m2 c2) same (took (λ need asks. good need (now need asks)) one new (keep _ kept) rest);
    }
cut (suc n) k is (took {n = j} now one new kept rest) settled bare there =
    let less : j ≡ n + suc k = omega (arith, is) in
    let h = cut n k less rest one.1 (leads_bare one.0 bare) new in
    record { mid = h.mid; at = h.at; first = took now one new kept h.first; settled = h.settled; bare = h.bare; there = h.there; next = h.next; asked = h.asked; rest = h.rest }

next_of : {inst : Instance} {a b : Config} {n : ℕ} → Leads inst a n b → n ≡ 1 → IsSettled inst a → IsNext inst a
next_of stays e settled = absurd (omega (arith, e))
next_of {inst = inst} {a = a} (goes_on {b = b} zero n x r) e settled = absurd (settled b x)
next_of {inst = inst} {a = a} (goes_on {b = b} (suc zero) n x r) e settled = (b, x)
next_of (goes_on (suc (suc k)) n x r) e settled = absurd (omega (arith, e))

-- ---- a call comes so far in two turns

-- the call after n pieces and charges
abbrev pub later : Call → ℕ → ℕ → Call
later call k n = record call { fragments = call.fragments + k; charges = call.charges + n }

-- what is not the memory
abbrev pub rest_of : Store → Rest
rest_of s = record { globals = s.globals; table = s.table; inputs = s.inputs; output = s.output }

record Halves {M : Type 0} (bytes : M → List ℕ) (ready : M → Need → Type 0) (keeps : M → M → Type 0) (inst : Instance) (q more : ℕ) (call : Call) (m : M) (r : Rest) (d : Doing) (to : Upshot) (k n : ℕ) (m2 : M) (r2 : Rest) (d2 : Doing) : Type 0 where
  mid : M
  r1 : Rest
  term : Term
  first : Proceeds bytes ready keeps inst q call m r d to_go_on k q mid r1 (computing term)
  second : (from : M) → bytes from ≡ bytes mid → ((need : Need) → ready mid need → ready from need) → ((x : M) → keeps mid x → keeps from x)
      → Proceeds bytes ready keeps inst more (later call k q) from r1 (computing term) to 0 n m2 r2 d2

-- where it stands in between
record Standing {M : Type 0} (bytes : M → List ℕ) (ready : M → Need → Type 0) (keeps : M → M → Type 0) (inst : Instance) (q more : ℕ) (call : Call) (m : M) (r : Rest) (d : Doing) (k n : ℕ) (m2 : M) (c2 : Config) : Type 0 where
  mid : M
  r1 : Rest
  term : Term
  computes : Computes bytes ready keeps inst q call m r d k q mid (config (store_with (bytes mid) r1) [] term)
  next : IsNext inst (config (store_with (bytes mid) r1) [] term)
  asked : (need : Need) → Asks inst (config (store_with (bytes mid) r1) [] term) need → ready mid need
  behind : (from : M) → bytes from ≡ bytes mid → ((need : Need) → ready mid need → ready from need) → ((x : M) → keeps mid x → keeps from x)
      → Computes bytes ready keeps inst more (later call k q) from r1 (computing term) 0 n m2 c2

opens_bare : {M : Type 0} {bytes : M → List ℕ} {ready : M → Need → Type 0} {keeps : M → M → Type 0} {inst : Instance} {call : Call} {m m2 : M} {r : Rest} {d : Doing} {k : ℕ} {c : Config} → Opens bytes ready keeps inst call m r d k m2 c → IsSettled inst c × IsBare c × (bytes m2 ≡ (store_of c).bytes)
opens_bare {bytes = bytes} {inst = inst} {r = r} (by_invocation {m1 = m1} {c = c} {c1 = c1} w i a) = search (rules, leads_bare, opened_store)
opens_bare {bytes = bytes} {m = m} {r = r} (as_it_was {term = term} a) = (a.1, leads_bare a.0 refl, ap (λ (s : Store). s.bytes) (sym (opened_store a)))

stands_at : {M : Type 0} {bytes : M → List ℕ} {ready : M → Need → Type 0} {keeps : M → M → Type 0} {inst : Instance} {q more : ℕ} {call : Call} {m m2 : M} {r : Rest} {d : Doing} {k n : ℕ} {c2 : Config} → Computes bytes ready keeps inst (q + more) call m r d k (q + suc n) m2 c2
    → Standing bytes ready keeps inst q more call m r d k (suc n) m2 c2
stands_at {bytes = bytes} {ready = ready} {keeps = keeps} {inst = inst} {q = q} {more = more} {call = call} {m = m} {m2 = m2} {r = r} {d = d} {k = k} {n = n} {c2 = c2} x =
    let o = opens_bare x.opens in
    let z = cut q n refl x.takes o.0 o.1 o.2 in
    go z.at z (next_of z.next.1.0 refl z.settled) refl
  where
    go : (at : Config) (z : Cut bytes ready keeps inst x.between x.opened q (suc n) m2 c2) → IsNext inst z.at → z.at ≡ at → Standing bytes ready keeps inst q more call m r d k (suc n) m2 c2
    go (trapped s trap) z next is = absurd (let bad = subst (IsNext inst) is next in trapped_has_none bad)
    go (config s f term) z next is =
        let none : f ≡ [] = subst IsBare is z.bare in
        let there : bytes z.mid ≡ s.bytes = z.there ∙ ap (λ (c : Config). (store_of c).bytes) is in
        let r1 = rest_of s in
        let same : z.at ≡ config (store_with (bytes z.mid) r1) [] term = is ∙ ap (λ (g : List Value). config s g term) none ∙ ap (λ (b : List ℕ). config (store_with b r1) [] term) (sym there) in
        let fuel = x.in_fuel in
        record {
          mid = z.mid;
          r1 = r1;
          term = term;
          computes = record { between = x.between; opened = x.opened; opens = x.opens; takes = subst (λ c. Takes bytes ready keeps inst x.between x.opened q z.mid c) same z.first; in_turn = omega arith; in_fuel = omega (arith, fuel) };
          next = subst (IsNext inst) same next;
          asked = λ need asks. z.asked need (subst (λ c. Asks inst c need) (sym same) asks);
          behind = λ from sees good keep. record {
            between = from;
            opened = z.at;
            opens = as_it_was (subst (λ (b : List ℕ). After inst (config (store_with b r1) [] term) 0 z.at) (sym sees) (subst (λ c. After inst c 0 z.at) same (stays, z.settled)));
            takes = z.rest from good keep;
            in_turn = omega (arith, x.in_turn);
            in_fuel = omega (arith, fuel);
          };
        }

typed_later : {inst : Instance} {call : Call} {vs : List Value} (k n : ℕ) → HaveTypes inst call vs → HaveTypes inst (later call k n) vs
typed_later k n h = record { index = h.index; type = h.type; body = h.body; calls = h.calls; is_own = h.is_own; types = h.types; fit = h.fit }

first_half : {M : Type 0} {bytes : M → List ℕ} {ready : M → Need → Type 0} {keeps : M → M → Type 0} {inst : Instance} {q more : ℕ} {call : Call} {m m2 : M} {r : Rest} {d : Doing} {k n : ℕ} {c2 : Config} → Standing bytes ready keeps inst q more call m r d k n m2 c2 → call.charges + q < call.fuel → (to : Upshot) (r2 : Rest) (d2 : Doing)
    → ((from : M) (r1 : Rest) (d1 : Doing) → Computes bytes ready keeps inst more (later call k q) from r1 d1 0 n m2 c2 → Proceeds bytes ready keeps inst more (later call k q) from r1 d1 to 0 n m2 r2 d2) → Halves bytes ready keeps inst q more call m r d to k n m2 r2 d2
first_half s left to r2 d2 then = record { mid = s.mid; r1 = s.r1; term = s.term; first = has_had_its_turn s.computes s.next refl left s.asked; second = λ from sees good keep. then from s.r1 (computing s.term) (s.behind from sees good keep) }

halves : {M : Type 0} {bytes : M → List ℕ} {ready : M → Need → Type 0} {keeps : M → M → Type 0} {inst : Instance} {call : Call} {m m2 : M} {r r2 : Rest} {d d2 : Doing} {to : Upshot} {k i : ℕ} (q more n : ℕ) → i ≡ q + suc n → Proceeds bytes ready keeps inst (q + more) call m r d to k i m2 r2 d2 → Halves bytes ready keeps inst q more call m r d to k (suc n) m2 r2 d2
halves {bytes = bytes} {ready = ready} {keeps = keeps} {inst = inst} {call = call} {m = m} {r = r} {d = d} q more n is (returns {k = k} {m2 = m2} {r2 = r2} {vs = vs} x typed) =
    let c = config (store_with (bytes m2) r2) [] (code (reverse vs) nothing) in
    let x2 = subst (λ i. Computes bytes ready keeps inst (q + more) call m r d k i m2 c) is x in
    first_half (stands_at x2) (omega (arith, x2.in_fuel)) (to_end (returned vs)) r2 resting (λ from r1 d1 y. returns y (typed_later k q typed))
halves {bytes = bytes} {ready = ready} {keeps = keeps} {inst = inst} {call = call} {m = m} {r = r} {d = d} q more n is (traps {k = k} {m2 = m2} {r2 = r2} {x = trap} x) =
    let c = trapped (store_with (bytes m2) r2) trap in
    let x2 = subst (λ i. Computes bytes ready keeps inst (q + more) call m r d k i m2 c) is x in
    first_half (stands_at x2) (omega (arith, x2.in_fuel)) (to_end (stopped trap)) r2 resting (λ from r1 d1 y. traps y)
halves q more n is (writes_all a b w) = absurd (omega (arith, is))
halves {bytes = bytes} {ready = ready} {keeps = keeps} {inst = inst} {call = call} {m = m} {r = r} {d = d} q more n is (uses_fuel {k = k} {m2 = m2} {r2 = r2} {term = term} x next all) =
    let c = config (store_with (bytes m2) r2) [] term in
    let x2 = subst (λ i. Computes bytes ready keeps inst (q + more) call m r d k i m2 c) is x in
    first_half (stands_at x2) (omega (arith, x2.in_fuel)) out_of_fuel r2 (computing term) (λ from r1 d1 y. uses_fuel y next (omega (arith, all, is)))
halves {bytes = bytes} {ready = ready} {keeps = keeps} {inst = inst} {call = call} {m = m} {r = r} {d = d} q more n is (waits {k = k} {m2 = m2} {r2 = r2} {term = term} {need = need} x next left asks never) =
    let c = config (store_with (bytes m2) r2) [] term in
    let x2 = subst (λ i. Computes bytes ready keeps inst (q + more) call m r d k i m2 c) is x in
    first_half (stands_at x2) (omega (arith, x2.in_fuel)) (to_wait need) r2 (computing term) (λ from r1 d1 y. waits y next (omega (arith, left, is)) asks never)
halves q more n is (waits_to_write a w never) = absurd (omega (arith, is))
halves {bytes = bytes} {ready = ready} {keeps = keeps} {inst = inst} {call = call} {m = m} {r = r} {d = d} q more n is (has_had_its_turn {k = k} {m2 = m2} {r2 = r2} {term = term} x next all left asked) =
    let c = config (store_with (bytes m2) r2) [] term in
    let x2 = subst (λ i. Computes bytes ready keeps inst (q + more) call m r d k i m2 c) is x in
    first_half (stands_at x2) (omega (arith, x2.in_fuel)) to_go_on r2 (computing term) (λ from r1 d1 y. has_had_its_turn y next (omega (arith, all, is)) (omega (arith, left, is)) asked)

-- ---- two turns

-- n it has taken
as_spent : (n i : ℕ) (t t2 : Tenant) (e f : Entry) (es fs : List Entry) → t.open_calls ≡ e ∷ es → journal t2 ≡ t.ended ++ f ∷ fs → f.call.charges ≡ e.call.charges + i → Spends n t t2 → i ≡ n
as_spent n i t t2 e f es fs there now more spends =
    let s = spends.present e es there in
    let both : Some f ≡ Some s.0 = sym (at_seam t.ended fs f) ∙ ap (λ (xs : List Entry). slice_get xs (length t.ended)) (sym now ∙ s.2) ∙ at_seam t.ended s.1 s.0 in
    let same : f ≡ s.0 = cc both in
    let charges = ap (λ (x : Entry). x.call.charges) same in
    omega (arith, more, s.3, charges)

takes_sound : {bytes : Space → List ℕ} {ready : Space → Need → Type 0} {i : ℕ} {inst : Instance} {n : ℕ} {m m2 : Space} {c c2 : Config} → Takes bytes ready (StepsAlone i) inst m c n m2 c2 → 1 ≤ n → IsSound m2
takes_sound took_all some = absurd (omega (arith, some))
takes_sound (took now one new kept took_all) some = kept.sound
takes_sound (took now one new kept (took a b c d rest)) some = takes_sound (took a b c d rest) (omega arith)

turn_sound : {bytes : Space → List ℕ} {ready : Space → Need → Type 0} {i : ℕ} {inst : Instance} {q : ℕ} {call : Call} {m m2 : Space} {r r2 : Rest} {d d2 : Doing} {to : Upshot} {k n : ℕ} → Proceeds bytes ready (StepsAlone i) inst q call m r d to k n m2 r2 d2 → 1 ≤ n → IsSound m2
turn_sound (returns x typed) some = takes_sound x.takes some
turn_sound (traps x) some = takes_sound x.takes some
turn_sound (writes_all a b w) some = absurd (omega (arith, some))
turn_sound (uses_fuel x next all) some = takes_sound x.takes some
turn_sound (waits x next left asks never) some = takes_sound x.takes some
turn_sound (waits_to_write a w never) some = absurd (omega (arith, some))
turn_sound (has_had_its_turn x next all left asked) some = takes_sound x.takes some

-- ---- where it stands between them

steps_from : (i : ℕ) (s stands x : Space) → WaitsAlone i None s stands → StepsAlone i s x → StepsAlone i stands x
steps_from i s stands x w y = search rules

further_same : (e : Entry) (k q n i : ℕ) → i ≡ q + n → gone_further (gone_further e k q) 0 n ≡ gone_further e k i
further_same e k q n i is = search rules

frame_then : (n : ℕ) (o : Option Suspension) → 1 ≤ n → at_frame n o ≡ Some for_frame
frame_then zero o some = absurd (omega (arith, some))
frame_then (suc n) o some = refl

pub record TwoTurns (q more n : ℕ) (s : Space) (t : Tenant) (end : TurnEnd) (s3 : Space) (t2 : Tenant) (c : Claimed) : Type 0 where
  pub between : Space
  pub mid : Tenant
  pub place : mid.place ≡ t.place
  pub first : Turn q s t Again between mid
  pub spent : Spends q t mid
  pub second : Turn more between mid end s3 t2
  pub then : Spends n mid t2
  pub claimed : claim between mid.place ≡ Some c
  pub calls : mid.open_calls ≢ []

-- the first of them
record FirstTurn (q more : ℕ) (s : Space) (t : Tenant) (e : Entry) (es : List Entry) (to : Upshot) (k n : ℕ) (s2 : Space) (r : Rest) (d : Doing) (c : Claimed) : Type 0 where
  between : Space
  r1 : Rest
  term : Term
  first : Turn q s t Again between (gone_on t (gone_further e k q) es r1 (computing term) None)
  second : ProceedsIn more between (gone_on t (gone_further e k q) es r1 (computing term) None) (gone_further e k q) to 0 n s2 r d
  claimed : claim between t.place ≡ Some c

first_turn : (q more n i : ℕ) (s : Space) (t : Tenant) (e : Entry) (es : List Entry) (to : Upshot) (k : ℕ) (s2 : Space) (r : Rest) (d : Doing) (c : Claimed) → claim s t.place ≡ Some c → 1 ≤ q → i ≡ q + suc n → t.open_calls ≡ e ∷ es → ProceedsIn (q + more) s t e to k i s2 r d
    → FirstTurn q more s t e es to k (suc n) s2 r d c
first_turn q more n i s t e es to k s2 r d c claimed some is there goes =
    let h = halves q more n is goes in
    let at : claim h.mid t.place ≡ Some c = (proceeds_apart t e h.first).claim ∙ claimed in
    let o = claimed_there h.mid t.place c at in
    let z = ends_well h.mid t.place o.0 (turn_sound h.first some) o.1 o.2 in
    let w = z.0 in
    record {
      between = ended h.mid t.place;
      r1 = h.r1;
      term = h.term;
      first = can_go_on there h.first w (λ steps. z.1) (λ none. absurd (omega (arith, none, some)));
      second = h.second (ended h.mid t.place) w.view (λ need ready. (w.ready need).1 ready) (λ x y. steps_from t.place h.mid (ended h.mid t.place) x w y);
      claimed = w.steps.claim ∙ at;
    }

-- what the two took is what was taken
spent_then : (q n : ℕ) (t t2 mid : Tenant) (e e1 : Entry) (es : List Entry) → t.open_calls ≡ e ∷ es → mid.open_calls ≡ e1 ∷ es → mid.ended ≡ t.ended → e1.call.charges ≡ e.call.charges + q → Spends (q + n) t t2 → Spends n mid t2
spent_then q n t t2 mid e e1 es there there1 ended more spends = search rules

two_turns : (q more n : ℕ) (s : Space) (t : Tenant) (e : Entry) (es : List Entry) (to : Upshot) (k : ℕ) (s2 s3 : Space) (r : Rest) (d : Doing) (c : Claimed) (end : TurnEnd) (t2 : Tenant) → t.open_calls ≡ e ∷ es → Spends (q + suc n) t t2 → (f : FirstTurn q more s t e es to k (suc n) s2 r d c)
    → Turn more f.between (gone_on t (gone_further e k q) es f.r1 (computing f.term) None) end s3 t2 → TwoTurns q more (suc n) s t end s3 t2 c
two_turns q more n s t e es to k s2 s3 r d c end t2 there spends f second =
    let mid = gone_on t (gone_further e k q) es f.r1 (computing f.term) None in
    record {
      between = f.between;
      mid = mid;
      place = refl;
      first = f.first;
      spent = spends_on q t mid e (gone_further e k q) es es there refl refl refl;
      second = second;
      then = spent_then q (suc n) t t2 mid e (gone_further e k q) es there refl refl refl spends;
      claimed = f.claimed;
      calls = λ none. (let bad : gone_further e k q ∷ es ≡ [] = none in cc bad);
    }

closes_mid : (s : Space) (t t2 : Tenant) (e e1 : Entry) (es es1 : List Entry) (r r1 : Rest) (d : Doing) (o : Option Suspension) → Closes s t e es r t2 → Closes s (gone_on t e1 es1 r1 d o) e es r t2
closes_mid s t t2 e e1 es es1 r r1 d o (faces_next alive f) = faces_next alive f
closes_mid s t t2 e e1 es es1 r r1 d o (is_dead died) = is_dead died

pub split_turn : (q more n : ℕ) (s s3 : Space) (t t2 : Tenant) (end : TurnEnd) (c : Claimed) → claim s t.place ≡ Some c → t.open_calls ≢ [] → 1 ≤ q → Spends (q + suc n) t t2 → Turn (q + more) s t end s3 t2 → TwoTurns q more (suc n) s t end s3 t2 c
split_turn q more n s s3 t t2 end c claimed some least spends (is_idle none) = absurd (some none)
split_turn q more n s s3 t t2 end c claimed some least spends (keeps_its_fault there w d none next left asked) = absurd (omega (arith, least, none))
split_turn q more n s s3 t t2 end c claimed some least spends (has_ended {e = e} {es = es} {o = o} {k = k} {n = i} {s2 = s2} {r = r} {d = d} there goes alone pins closes) =
    let j = closed_at closes in
    let is = as_spent (q + suc n) i t t2 e (ended_by (gone_further e k i) o) es j.0 there j.1 refl spends in
    let f = first_turn q more n i s t e es (to_end o) k s2 r d c claimed least is there goes in
    let e1 = gone_further e k q in
    let mid = gone_on t e1 es f.r1 (computing f.term) None in
    let same = further_same e k q (suc n) i is in
    let closes2 : Closes s3 mid (ended_by (gone_further e1 0 (suc n)) o) es r t2 = subst (λ (x : Entry). Closes s3 mid (ended_by x o) es r t2) (sym same) (closes_mid s3 t t2 (ended_by (gone_further e k i) o) e1 es es r f.r1 (computing f.term) None closes) in
    two_turns q more n s t e es (to_end o) k s2 s3 r d c end t2 there spends f (has_ended refl f.second alone (λ steps. pins (omega (arith, is))) closes2)
split_turn q more n s s3 t t2 end c claimed some least spends (has_no_fuel {e = e} {es = es} {k = k} {n = i} {s2 = s2} {r = r} {d = d} there goes alone pins) =
    let is = as_spent (q + suc n) i t t2 e (gone_further e k i) es es there refl refl spends in
    let f = first_turn q more n i s t e es out_of_fuel k s2 r d c claimed least is there goes in
    let e1 = gone_further e k q in
    let mid = gone_on t e1 es f.r1 (computing f.term) None in
    let same = further_same e k q (suc n) i is in
    let turn : Turn more f.between mid end s3 (gone_on mid (gone_further e1 0 (suc n)) es r d (Some for_fuel)) = has_no_fuel refl f.second alone (λ steps. pins (omega (arith, is))) in
    two_turns q more n s t e es out_of_fuel k s2 s3 r d c end t2 there spends f (subst (λ (x : Entry). Turn more f.between mid end s3 (gone_on t x es r d (Some for_fuel))) same turn)
split_turn q more n s s3 t t2 end c claimed some least spends (has_no_frame {e = e} {es = es} {need = need} {k = k} {n = i} {s2 = s2} {r = r} {d = d} there goes alone pins) =
    let is = as_spent (q + suc n) i t t2 e (gone_further e k i) es es there refl refl spends in
    let f = first_turn q more n i s t e es (to_wait need) k s2 r d c claimed least is there goes in
    let e1 = gone_further e k q in
    let mid = gone_on t e1 es f.r1 (computing f.term) None in
    let same = further_same e k q (suc n) i is in
    let turn : Turn more f.between mid end s3 (gone_on mid (gone_further e1 0 (suc n)) es r d (at_frame (0 + suc n) None)) = has_no_frame refl f.second alone (λ steps. pins (omega (arith, is))) in
    let waits : at_frame (0 + suc n) None ≡ at_frame (k + i) t.waiting_for = frame_then (0 + suc n) None (omega arith) ∙ sym (frame_then (k + i) t.waiting_for (omega (arith, is))) in
    two_turns q more n s t e es (to_wait need) k s2 s3 r d c end t2 there spends f
    (subst (λ (x : Entry). Turn more f.between mid end s3 (gone_on t x es r d (at_frame (k + i) t.waiting_for))) same (subst (λ (o : Option Suspension). Turn more f.between mid end s3 (gone_on t (gone_further e1 0 (suc n)) es r d o)) waits turn))
split_turn q more n s s3 t t2 end c claimed some least spends (can_go_on {e = e} {es = es} {k = k} {n = i} {s2 = s2} {r = r} {d = d} there goes alone pins kept) =
    let is = as_spent (q + suc n) i t t2 e (gone_further e k i) es es there refl refl spends in
    let f = first_turn q more n i s t e es to_go_on k s2 r d c claimed least is there goes in
    let e1 = gone_further e k q in
    let mid = gone_on t e1 es f.r1 (computing f.term) None in
    let same = further_same e k q (suc n) i is in
    let turn : Turn more f.between mid end s3 (gone_on mid (gone_further e1 0 (suc n)) es r d None) = can_go_on refl f.second alone (λ steps. pins (omega (arith, is))) (λ none. absurd (omega (arith, none))) in
    two_turns q more n s t e es to_go_on k s2 s3 r d c end t2 there spends f (subst (λ (x : Entry). Turn more f.between mid end s3 (gone_on t x es r d None)) same turn)

-- ---- so it is a series of turns

live_then : (ts : List (Option Tenant)) (i : ℕ) (t x : Tenant) → get_or ts i None ≡ Some t → get_or (slice_set ts i (Some x)) i None ≡ Some x
live_then [] i t x there = absurd (cc there)
live_then (z ∷ ts) zero t x there = refl
live_then (z ∷ ts) (suc i) t x there = live_then ts i t x there

same_one : (w : World) (id : InstId) (a b : Tenant) → IsLive w id a → IsLive w id b → a ≡ b
same_one w id a b x y = let both : Some a ≡ Some b = sym x.0 ∙ y.0 in cc both

pub has_spent : (w : World) (id : InstId) (n : ℕ) (t t2 : Tenant) (s : Space) → IsLive w id t → Spends n t t2 → HasSpent w id n (with_tenant w id.number (Some t2) s)
has_spent w id n t t2 s live spends = search (rules, same_one, live_then)

-- of one number of charges, or of another that is the same
whole_or_cut : (q q2 few n : ℕ) (end : TurnEnd) → q2 ≡ q → IsWholeOrCut q2 few n end → IsWholeOrCut q few n end
whole_or_cut q q2 few n end same is = subst (λ i. IsWholeOrCut i few n end) same is

-- what is left of it when n charges are taken
rest_whole : (q2 left q all more n rest : ℕ) (end : TurnEnd) → q2 ≡ q + left → q + more ≡ all → q + rest ≡ n → IsWholeOrCut q2 all n end → IsWholeOrCut left more rest end
rest_whole q2 left q all more n rest end grows whole is (inl same) = inl (omega (arith, grows, whole, same))
rest_whole q2 left q all more n rest end grows whole is (inr (few, taken, again)) = inr (omega (arith, grows, whole, few), omega (arith, whole, is, taken), again)

pub series_of : (q m : ℕ) (id : InstId) (w : World) (all n : ℕ) (t t2 : Tenant) (end : TurnEnd) (s3 : Space) (c : Claimed) → IsLive w id t → claim w.space t.place ≡ Some c → t.open_calls ≢ [] → IsWholeOrCut (q + m * q) all n end → n ≤ all → (m ≡ 0) ⊎ ((1 ≤ q) × (m * q < n)) → Spends n t t2 → Turn all w.space t end s3 t2
    → SeriesOf q id w (suc m) n end (with_tenant w id.number (Some t2) s3)
series_of q zero id w all n t t2 end s3 c live claimed some most few used spends turn = last_turn (whole_or_cut q (q + 0 * q) all n end (omega (arith, zero-mul q)) most) few (of_one live turn) (has_spent w id n t t2 s3 live spends)
series_of q (suc m) id w all n t t2 end s3 c live claimed some most few (inl none) spends turn = absurd (omega (arith, none))
series_of q (suc m) id w all n t t2 end s3 c live claimed some most few (inr (least, used)) spends turn =
    let grows : suc m * q ≡ m * q + q = suc-mul m q in
    let left = n - q - 1 in
    let is : q + suc left ≡ n = omega (arith, grows, used) in
    let more = all - q in
    let whole : q + more ≡ all = omega (arith, few, is) in
    let rest_is = rest_whole (q + suc m * q) (q + m * q) q all more n (suc left) end (omega (arith, grows)) whole is most in
    let z = split_turn q more left w.space s3 t t2 end c claimed some least (subst (λ i. Spends i t t2) (sym is) spends) (subst (λ i. Turn i w.space t end s3 t2) (sym whole) turn) in
    let w1 = with_tenant w id.number (Some z.mid) z.between in
    let live1 : IsLive w1 id z.mid = (live_then w.tenants id.number t z.mid live.0, z.place ∙ live.1) in
    let rest = series_of q m id w1 more (suc left) z.mid t2 end s3 c live1 z.claimed z.calls rest_is (omega (arith, few, is, whole)) (inr (least, omega (arith, used, grows, is))) z.then z.second in
    let same : with_tenant w1 id.number (Some t2) s3 ≡ with_tenant w id.number (Some t2) s3 = ap (λ ts. (let v : World = record { modules = w.modules; tenants = ts; space = s3 } in v)) (set_set w.tenants id.number (Some z.mid) (Some t2)) in
    subst (λ i. SeriesOf q id w (suc (suc m)) i end (with_tenant w id.number (Some t2) s3)) is
    (turn_before (of_one live z.first) (has_spent w id q t z.mid z.between live z.spent) (subst (λ v. SeriesOf q id w1 (suc m) (suc left) end v) same rest))

-- n turns, all but the last of which were used up
pub series_of_turns : (q turns : ℕ) (id : InstId) (w : World) (few n : ℕ) (t t2 : Tenant) (end : TurnEnd) (s3 : Space) (c : Claimed) → IsLive w id t → claim w.space t.place ≡ Some c → t.open_calls ≢ [] → IsWholeOrCut (turns * q) few n end → n ≤ few → AreUsed q turns n → Spends n t t2 → Turn few w.space t end s3 t2
    → SeriesOf q id w turns n end (with_tenant w id.number (Some t2) s3)
series_of_turns q turns id w few n t t2 end s3 c live claimed some most least (inl one) spends turn =
    let all : turns * q ≡ q = ap (λ i. i * q) one ∙ one-mul q in
    subst (λ i. SeriesOf q id w i n end (with_tenant w id.number (Some t2) s3)) (sym one) (series_of q 0 id w few n t t2 end s3 c live claimed some (whole_or_cut (q + 0 * q) (turns * q) few n end (omega (arith, all, zero-mul q)) most) least (inl refl) spends turn)
series_of_turns q turns id w few n t t2 end s3 c live claimed some most least (inr (q_some, two, used)) spends turn =
    let m = turns - 1 in
    let is : suc m ≡ turns = omega (arith, two) in
    let grows : turns * q ≡ m * q + q = ap (λ i. i * q) (sym is) ∙ suc-mul m q in
    subst (λ i. SeriesOf q id w i n end (with_tenant w id.number (Some t2) s3)) is (series_of q m id w few n t t2 end s3 c live claimed some (whole_or_cut (q + m * q) (turns * q) few n end (omega (arith, grows)) most) least (inr (q_some, omega (arith, used, grows))) spends turn)
