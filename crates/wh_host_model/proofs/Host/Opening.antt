-- What the steps of a turn make of a call.
use Rattle.std.proofs.Common.{◌≡◌, ℕ, ◌+◌, ◌<◌, inl, List, length, take, drop, refl, sym, ap, subst, ◌∙◌, arith, rules}
use Rattle.std.proofs.lemmas.List.{take-append-drop, length-drop}
use Rattle.wh_model.specs.declared.memory.Need.{Need}
use Rattle.wh_model.specs.Execution.Store.{Instance, Store}
use Rattle.wh_model.specs.Execution.{Config, After, Piece, Call, with_pieces, Invocation, Standing, running, Stands, has_pieces, is_invoked, is_under_way, Writes, wrote_all, wrote, Takes, took_all, took}
use Rattle.wh_model.specs.Execution.Replay.{writing}
use Rattle.wh_model.proofs.Chains.{after_joins}
use Rattle.wh_model.proofs.Journals.{pieces_then}
use Rattle.wh_model.proofs.Taken.{takes_after}
use Rattle.wh_space_model.specs.{Space, claim}
use Rattle.wh_host_model.specs.Host.{OthersLeftAlone, StepsAlone, Rest, Doing, Tenant, store_with, standing_with, Opens, by_invocation, as_it_was, Computes, Upshot, Proceeds, returns, traps, writes_all, uses_fuel, waits, waits_to_write, has_had_its_turn, ProceedsIn}
use Rattle.wh_host_model.proofs.Host.Leaving.{left_then}
use Rattle.wh_host_model.specs.{Entry}

-- ---- pieces that are written

pub writes_view : {M : Type 0} {bytes : M → List ℕ} {ready : M → Need → Type 0} {keeps : M → M → Type 0} {m m2 : M} {ps : List Piece} (r : Rest) → Writes bytes ready keeps m ps m2 → store_with (bytes m2) r ≡ with_pieces (store_with (bytes m) r) ps
writes_view r wrote_all = refl
writes_view r (wrote {ps = ps} now new steps rest) = writes_view r rest ∙ ap (λ b. with_pieces (store_with b r) ps) new

-- ---- charges that are taken

joins : {inst : Instance} (m n : ℕ) {k : ℕ} {a b c : Config} → After inst a m b → After inst b n c → m + n ≡ k → After inst a k c
joins {inst} m n {a = a} {b = b} {c = c} x y e = subst (λ i. After inst a i c) e (after_joins inst m n a b c x y)

-- ---- the call is opened

-- what was written before, and what was left
pub whole : (s1 : Store) (ps1 ps : List Piece) (f : ℕ) → ps ≡ drop f ps1 → with_pieces (with_pieces s1 (take f ps1)) ps ≡ with_pieces s1 ps1
whole s1 ps1 ps f e = ap (with_pieces (with_pieces s1 (take f ps1))) e ∙ pieces_then s1 (take f ps1) (drop f ps1) ∙ ap (with_pieces s1) (take-append-drop f ps1)

pub counted : (ps1 ps : List Piece) (f : ℕ) → ps ≡ drop f ps1 → f < length ps1 → f + length ps ≡ length ps1
counted ps1 ps f e lt = let n = ap length e ∙ length-drop f ps1 in omega (arith, n, lt)

-- where its charges have led a call so far: opened
pub record Opened (inst : Instance) (s1 : Store) (ps1 : List Piece) (call : Call) (k n : ℕ) (c : Config) : Type 0 where
  pub first : Config
  pub invoked : Invocation inst (with_pieces s1 ps1) call first
  pub written : call.fragments + k ≡ length ps1
  pub after : After inst first (call.charges + n) c

opened_invoked : {M : Type 0} (bytes : M → List ℕ) (ready : M → Need → Type 0) (keeps : M → M → Type 0) {inst : Instance} {s1 : Store} {ps1 : List Piece} {call : Call} {m m2 : M} {ps : List Piece} {c c1 : Config} {z : Standing} (r : Rest)
    → Stands inst s1 ps1 call z → z ≡ writing (store_with (bytes m) r) ps → Writes bytes ready keeps m ps m2
    → Invocation inst (store_with (bytes m2) r) call c → After inst c 0 c1 → Opened inst s1 ps1 call (length ps) 0 c1
opened_invoked bytes ready keeps {inst = inst} {s1 = s1} {ps1 = ps1} {call = call} {m = m} {m2 = m2} {ps = ps} {c = c} {c1 = c1} r (has_pieces lt none) e w i a =
    let left : drop call.fragments ps1 ≡ ps = cc e in
    let was : with_pieces s1 (take call.fragments ps1) ≡ store_with (bytes m) r = cc e in
    let store : store_with (bytes m2) r ≡ with_pieces s1 ps1 = writes_view r w ∙ ap (λ z. with_pieces z ps) (sym was) ∙ whole s1 ps1 ps call.fragments (sym left) in
    record {
      first = c;
      invoked = subst (λ z. Invocation inst z call c) store i;
      written = counted ps1 ps call.fragments (sym left) lt;
      after = subst (λ n. After inst c n c1) (omega (arith, none)) a;
    }
opened_invoked bytes ready keeps r (is_invoked p q i) e w j a = absurd (cc e)
opened_invoked bytes ready keeps r (is_under_way p l i b x) e w j a = absurd (cc e)

opened_on : {inst : Instance} {s1 : Store} {ps1 : List Piece} {call : Call} {c c1 : Config} {z : Standing}
    → Stands inst s1 ps1 call z → z ≡ running c → After inst c 0 c1 → Opened inst s1 ps1 call 0 0 c1
opened_on (has_pieces lt none) e a = absurd (cc e)
opened_on {inst} {c = c} {c1 = c1} (is_invoked {c = c0} p q i) e a = search rules
opened_on {inst} {call = call} {c = c} {c1 = c1} (is_under_way {c = c0} {c2 = c2} p l i b r) e a = search (rules, joins)

opens_call : {M : Type 0} {bytes : M → List ℕ} {ready : M → Need → Type 0} {keeps : M → M → Type 0} {inst : Instance} {s1 : Store} {ps1 : List Piece} {call : Call} {k : ℕ} {m m2 : M} {r : Rest} {d : Doing} {c : Config}
    → Stands inst s1 ps1 call (standing_with (bytes m) r d) → Opens bytes ready keeps inst call m r d k m2 c → Opened inst s1 ps1 call k 0 c
opens_call {bytes = bytes} {ready = ready} {keeps = keeps} {r = r} st (by_invocation w i a) = opened_invoked bytes ready keeps r st refl w i a
opens_call st (as_it_was a) = opened_on st refl a

pub computes_call : {M : Type 0} {bytes : M → List ℕ} {ready : M → Need → Type 0} {keeps : M → M → Type 0} {inst : Instance} {s1 : Store} {ps1 : List Piece} {call : Call} {q k n : ℕ} {m m2 : M} {r : Rest} {d : Doing} {c : Config}
    → Stands inst s1 ps1 call (standing_with (bytes m) r d) → Computes bytes ready keeps inst q call m r d k n m2 c → Opened inst s1 ps1 call k n c
computes_call {call = call} {n = n} st x = search (rules, opens_call, joins, takes_after)

-- ---- what the others see

steps_then : {i : ℕ} {a b c : Space} → OthersLeftAlone i a b → OthersLeftAlone i b c → OthersLeftAlone i a c
steps_then f g j n = left_then (f j n) (g j n)

-- whatever a turn does: all but what its instance sees and where it stands is as it was
pub record Apart (i : ℕ) (s s2 : Space) : Type 0 where
  pub others : OthersLeftAlone i s s2
  pub claim : claim s2 i ≡ claim s i

pub apart_none : (i : ℕ) (s : Space) → Apart i s s
apart_none i s = record { others = λ j n. record { view = refl; wants = refl; claim = refl; promise = inl refl }; claim = refl }

pub apart_then : {i : ℕ} {a b c : Space} → Apart i a b → Apart i b c → Apart i a c
apart_then x y = record { others = steps_then x.others y.others; claim = y.claim ∙ x.claim }

pub apart_steps : {i : ℕ} {a b : Space} → StepsAlone i a b → Apart i a b
apart_steps x = record { others = x.others; claim = x.claim }

writes_apart : {bytes : Space → List ℕ} {ready : Space → Need → Type 0} (i : ℕ) {m m2 : Space} {ps : List Piece} → Writes bytes ready (StepsAlone i) m ps m2 → Apart i m m2
writes_apart i {m = m} wrote_all = apart_none i m
writes_apart i (wrote now new steps rest) = apart_then (apart_steps steps) (writes_apart i rest)

takes_apart : {bytes : Space → List ℕ} {ready : Space → Need → Type 0} (i : ℕ) {inst : Instance} {n : ℕ} {m m2 : Space} {c c2 : Config} → Takes bytes ready (StepsAlone i) inst m c n m2 c2 → Apart i m m2
takes_apart i {m = m} took_all = apart_none i m
takes_apart i (took now one new steps rest) = apart_then (apart_steps steps) (takes_apart i rest)

opens_apart : {bytes : Space → List ℕ} {ready : Space → Need → Type 0} (i : ℕ) {inst : Instance} {call : Call} {k : ℕ} {m m2 : Space} {r : Rest} {d : Doing} {c : Config} → Opens bytes ready (StepsAlone i) inst call m r d k m2 c → Apart i m m2
opens_apart i (by_invocation w j a) = writes_apart i w
opens_apart i {m = m} (as_it_was a) = apart_none i m

computes_apart : {bytes : Space → List ℕ} {ready : Space → Need → Type 0} (i : ℕ) {inst : Instance} {call : Call} {q k n : ℕ} {m m2 : Space} {r : Rest} {d : Doing} {c : Config} → Computes bytes ready (StepsAlone i) inst q call m r d k n m2 c → Apart i m m2
computes_apart i x = apart_then (opens_apart i x.opens) (takes_apart i x.takes)

turned_apart : {bytes : Space → List ℕ} {ready : Space → Need → Type 0} (i : ℕ) {inst : Instance} {call : Call} {q k n : ℕ} {m m2 : Space} {r r2 : Rest} {d d2 : Doing} {to : Upshot} → Proceeds bytes ready (StepsAlone i) inst q call m r d to k n m2 r2 d2 → Apart i m m2
turned_apart i (returns x y) = computes_apart i x
turned_apart i (traps x) = computes_apart i x
turned_apart i (writes_all d f w) = writes_apart i w
turned_apart i (uses_fuel x n u) = computes_apart i x
turned_apart i (waits x n u a v) = computes_apart i x
turned_apart i (waits_to_write d w v) = writes_apart i w
turned_apart i (has_had_its_turn x n u v y) = computes_apart i x

pub proceeds_apart : (t : Tenant) (e : Entry) {q k n : ℕ} {s s2 : Space} {r : Rest} {d : Doing} {to : Upshot} → ProceedsIn q s t e to k n s2 r d → Apart t.place s s2
proceeds_apart t e g = turned_apart t.place g
