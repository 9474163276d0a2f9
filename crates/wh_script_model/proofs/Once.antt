-- Calls that are run alone come to one end: how far each comes is determined.
use Rattle.std.proofs.Common.{◌≡◌, ℕ, suc, ◌+◌, ◌≤◌, ◌⊎◌, inl, inr, Bool, true, false, List, [], ◌∷◌, length, reverse, Some, None, refl, sym, ap, subst, ◌∙◌, arith}
use Rattle.std.proofs.lemmas.Bool.{false≢true}
use Rattle.std.proofs.lemmas.Option.{none-some, same_Some}
use Rattle.std.proofs.lemmas.List.{reverse-reverse}
use Rattle.std.specs.Bool.{MatchBool}
use Rattle.std.specs.List.{AllZip, AllByRecursion}
use Rattle.wh_model.specs.declared.Trap.{Trap}
use Rattle.wh_model.specs.Format.{nothing, Module}
use Rattle.wh_model.specs.Execution.Store.{Instance, Store}
use Rattle.wh_model.specs.Execution.{Value, code, Config, config, trapped, store_of, Leads, stays, After, IsNext, Parameters, Piece, begins, IsInitial, Outcome, returned, stopped, cancelled, dead, pending, Call, with_pieces, Invocation, Standing, running, store_at, Stands, is_invoked, is_under_way, Ends, has_returned, has_trapped, has_written, was_cancelled, never_began, Waits, Replays, ended, at_work, fails, IsDead, IsNotDead, IsJournal}
use Rattle.wh_model.specs.Execution.Replay.{Replay}
use Rattle.wh_model.proofs.Chains.{one_after}
use Rattle.wh_model.proofs.Journals.{invocation_same, one_end, from_beginning}
use Rattle.wh_host_model.specs.{given_of, is_open, first_open}
use Rattle.wh_script_model.specs.{RunsOnce, ComesTo, had_ended, goes_on, AreAtRest, all_ended, used_up, is_gone, has_run}
use Rattle.wh_host_model.proofs.Host.Stopping.{is_settled, further_on, done_stops, trap_stops, term_same, values_same, trap_same, never_trapped, done_has_no_next, trap_has_no_next, apart_by}

-- ---- one invocation stops in one way

-- n charges from a configuration on, within this fuel, it has returned, or trapped, or waits for fuel
data Halts (inst : Instance) (fuel n : ℕ) (c : Config) : Outcome → Type 0 where
  at_return : (s : Store) (vs : List Value) → c ≡ config s [] (code (reverse vs) nothing) → n ≤ fuel
      → Halts inst fuel n c (returned vs)
  at_trap : (s : Store) (x : Trap) → c ≡ trapped s x → n ≤ fuel → Halts inst fuel n c (stopped x)
  at_fuel : IsNext inst c → n ≡ fuel → Halts inst fuel n c pending

no_further : (inst : Instance) (fuel n j : ℕ) (c c2 : Config) (o : Outcome) → Halts inst fuel n c o → After inst c (suc j) c2
    → n + suc j ≤ fuel → ⊥
no_further inst fuel n j c c2 o (at_return s vs e l) a m =
    let h = done_stops (subst (λ x. Leads inst x (suc j) c2) e a.0) in omega (arith, h)
no_further inst fuel n j c c2 o (at_trap s x e l) a m =
    let h = trap_stops (subst (λ x. Leads inst x (suc j) c2) e a.0) in omega (arith, h)
no_further inst fuel n j c c2 o (at_fuel next e) a m = omega (arith, e, m)

within : (inst : Instance) (fuel n : ℕ) (c : Config) (o : Outcome) → Halts inst fuel n c o → n ≤ fuel
within inst fuel n c o (at_return s vs e l) = l
within inst fuel n c o (at_trap s x e l) = l
within inst fuel n c o (at_fuel next e) = omega (arith, e)

halt_same : (inst : Instance) (fuel n : ℕ) (c : Config) (o o2 : Outcome) → Halts inst fuel n c o → Halts inst fuel n c o2
    → o ≡ o2
halt_same inst fuel n c o o2 (at_return s vs e l) (at_return s2 us e2 l2) =
    let same = term_same s s2 [] [] (code (reverse vs) nothing) (code (reverse us) nothing) (sym e ∙ e2) in
    let values : reverse vs ≡ reverse us = values_same (reverse vs) (reverse us) nothing nothing same in
    ap (λ ws. returned ws) (sym (reverse-reverse vs) ∙ ap reverse values ∙ reverse-reverse us)
halt_same inst fuel n c o o2 (at_return s vs e l) (at_trap s2 x e2 l2) =
    absurd (never_trapped s s2 x (code (reverse vs) nothing) (sym e ∙ e2))
halt_same inst fuel n c o o2 (at_return s vs e l) (at_fuel next e2) = absurd (done_has_no_next s (reverse vs) e next)
halt_same inst fuel n c o o2 (at_trap s x e l) (at_return s2 us e2 l2) =
    absurd (never_trapped s2 s x (code (reverse us) nothing) (sym e2 ∙ e))
halt_same inst fuel n c o o2 (at_trap s x e l) (at_trap s2 y e2 l2) =
    ap (λ z. stopped z) (trap_same s s2 x y (sym e ∙ e2)).1
halt_same inst fuel n c o o2 (at_trap s x e l) (at_fuel next e2) = absurd (trap_has_no_next s x e next)
halt_same inst fuel n c o o2 (at_fuel next e) (at_return s us e2 l2) = absurd (done_has_no_next s (reverse us) e2 next)
halt_same inst fuel n c o o2 (at_fuel next e) (at_trap s x e2 l2) = absurd (trap_has_no_next s x e2 next)
halt_same inst fuel n c o o2 (at_fuel next e) (at_fuel next2 e2) = refl

-- outcome, charges and configuration are the same
record SameHalt (o o2 : Outcome) (n n2 : ℕ) (c c2 : Config) : Type 0 where
  outcomes : o ≡ o2
  charges : n ≡ n2
  configs : c ≡ c2

halts_at : (inst : Instance) (fuel n : ℕ) (first c c2 : Config) (o o2 : Outcome) → After inst first n c
    → After inst first n c2 → Halts inst fuel n c o → Halts inst fuel n c2 o2 → SameHalt o o2 n n c c2
halts_at inst fuel n first c c2 o o2 a b x y =
    let same : c ≡ c2 = one_after inst n first c c2 a b in
    record {
      outcomes = halt_same inst fuel n c o o2 x (subst (λ w. Halts inst fuel n w o2) (sym same) y);
      charges = refl;
      configs = same;
    }

halts_once : (inst : Instance) (fuel n n2 : ℕ) (first c c2 : Config) (o o2 : Outcome) → After inst first n c
    → After inst first n2 c2 → Halts inst fuel n c o → Halts inst fuel n2 c2 o2 → SameHalt o o2 n n2 c c2
halts_once inst fuel n n2 first c c2 o o2 a b x y =
    elim (apart_by n n2) [
      | inl e ↦
          let back = halts_at inst fuel n first c c2 o o2 a (subst (λ i. After inst first i c2) (sym e) b) x
          (subst (λ i. Halts inst fuel i c2 o2) (sym e) y) in
          record { outcomes = back.outcomes; charges = e; configs = back.configs }
      | inr (inl (j, e)) ↦
          let l = within inst fuel n2 c2 o2 y in
          absurd (no_further inst fuel n j c c2 o x (further_on n (suc j) n2 a b e) (omega (arith, e, l)))
      | inr (inr (j, e)) ↦
          let l = within inst fuel n c o x in
          absurd (no_further inst fuel n2 j c2 c o2 y (further_on n2 (suc j) n b a e) (omega (arith, e, l)))
    ]

-- ---- one call comes to one end

abbrev is_dead : Outcome → Bool
is_dead (returned vs) = false
is_dead (stopped x) = false
is_dead cancelled = false
is_dead dead = true
is_dead pending = false

halts_alive : (inst : Instance) (fuel n : ℕ) (c : Config) (o : Outcome) → Halts inst fuel n c o → is_dead o ≡ false
halts_alive inst fuel n c o (at_return s vs e l) = refl
halts_alive inst fuel n c o (at_trap s x e l) = refl
halts_alive inst fuel n c o (at_fuel next e) = refl

-- what an open call comes to: its outcome, the pieces and charges that it took, and the store that it leaves
data Comes (inst : Instance) (s : Store) (ps : List Piece) (c : Call) : Outcome → ℕ → ℕ → Store → Type 0 where
  by_steps : {o : Outcome} {k n : ℕ} {at : Config} (first : Config)
      → k ≡ length ps → Invocation inst (with_pieces s ps) c first → After inst first n at → Halts inst c.fuel n at o
      → Comes inst s ps c o k n (store_of at)
  by_pieces : {k : ℕ} → k ≡ length ps → c.func ≡ None → Comes inst s ps c (returned []) k 0 (with_pieces s ps)
  as_dead : Comes inst s ps c dead 0 0 s

record SameEnd (o o2 : Outcome) (k k2 n n2 : ℕ) (s s2 : Store) : Type 0 where
  outcomes : o ≡ o2
  pieces : k ≡ k2
  charges : n ≡ n2
  stores : s ≡ s2

-- both are dead, or neither is
abbrev pub ShareFate : Outcome → Outcome → Type 0
ShareFate o o2 = is_dead o ≡ is_dead o2

names_none : {inst : Instance} {s : Store} {c : Call} {first : Config} → Invocation inst s c first → c.func ≡ None → ⊥
names_none i e = none-some i.index (sym e ∙ i.calls)

comes_once : {inst : Instance} {s a b : Store} {ps : List Piece} {c : Call} {o o2 : Outcome} {k k2 n n2 : ℕ}
    → ShareFate o o2 → Comes inst s ps c o k n a → Comes inst s ps c o2 k2 n2 b → SameEnd o o2 k k2 n n2 a b
comes_once {inst} {s} {a} {b} {ps} {c} {o} {o2} {k} {k2} {n} {n2} fate (by_steps {at = at} first p i x h) (by_steps {at = at2} first2 q j y g) =
    let same : first ≡ first2 = invocation_same inst (with_pieces s ps) c i j in
    let halt = halts_once inst c.fuel n n2 first at at2 o o2 x (subst (λ w. After inst w n2 at2) (sym same) y) h g in
    record { outcomes = halt.outcomes; pieces = p ∙ sym q; charges = halt.charges; stores = ap store_of halt.configs }
comes_once fate (by_steps first p i x h) (by_pieces q e) = absurd (names_none i e)
comes_once {inst} {c = c} {o = o} {n = n} fate (by_steps {at = at} first p i x h) as_dead =
    absurd (false≢true (sym (halts_alive inst c.fuel n at o h) ∙ fate))
comes_once fate (by_pieces q e) (by_steps first p i x h) = absurd (names_none i e)
comes_once fate (by_pieces p e) (by_pieces q f) =
    record { outcomes = refl; pieces = p ∙ sym q; charges = refl; stores = refl }
comes_once fate (by_pieces p e) as_dead = absurd (false≢true fate)
comes_once {inst} {c = c} {o2 = o2} {n2 = n2} fate as_dead (by_steps {at = at} first p i x h) =
    absurd (false≢true (sym (halts_alive inst c.fuel n2 at o2 h) ∙ sym fate))
comes_once fate as_dead (by_pieces p e) = absurd (false≢true (sym fate))
comes_once fate as_dead as_dead = record { outcomes = refl; pieces = refl; charges = refl; stores = refl }

-- the call, come so far
abbrev come_to : Call → Outcome → ℕ → ℕ → Call
come_to c o k n = record c { fragments = k; charges = n; outcome = o }

come_same : (c : Call) (o o2 : Outcome) (k k2 n n2 : ℕ) → o ≡ o2 → k ≡ k2 → n ≡ n2 → come_to c o k n ≡ come_to c o2 k2 n2
come_same c o o2 k k2 n n2 p q r = rw (p, q, r)

without : {inst : Instance} {s : Store} (c : Call) (o : Outcome) (k n : ℕ) {first : Config}
    → Invocation inst s (come_to c o k n) first → Invocation inst s c first
without c o k n i = record { index = i.index; type = i.type; body = i.body; calls = i.calls; is_own = i.is_own; types = i.types; fit = i.fit; begins = i.begins }

from_end : {inst : Instance} {s s2 : Store} {ps : List Piece} (c : Call) (o : Outcome) (k n : ℕ) → ¬ (o ≡ cancelled)
    → Ends inst s ps (come_to c o k n) s2 → Comes inst s ps c o k n s2
from_end {inst} {s} {s2} {ps} c o k n alive (has_returned {vs = vs} {c = first} p q l i a) =
    subst (λ x. Comes inst s ps c x k n s2) (sym p) (by_steps first q (without c o k n i) a (at_return s2 vs refl l))
from_end {inst} {s} {s2} {ps} c o k n alive (has_trapped {x = x} {c = first} p q l i a) =
    subst (λ y. Comes inst s ps c y k n s2) (sym p) (by_steps first q (without c o k n i) a (at_trap s2 x refl l))
from_end {inst} {s} {s2} {ps} c o k n alive (has_written p f q r) =
    subst (λ x. Comes inst s ps c x k n s2) (sym p) (subst (λ m. Comes inst s ps c (returned []) k m s2) (sym r) (by_pieces q f))
from_end c o k n alive (was_cancelled p x) = absurd (alive p)
from_end {inst} {s} {s2} {ps} c o k n alive (never_began p q r) =
    subst (λ x. Comes inst s ps c x k n s2) (sym p) (subst (λ j. Comes inst s ps c dead j n s2) (sym q) (subst (λ m. Comes inst s ps c dead 0 m s2) (sym r) as_dead))

from_stand : {inst : Instance} {s : Store} {ps : List Piece} {at : Config} (c : Call) (o : Outcome) (k n : ℕ) → o ≡ pending
    → n ≡ c.fuel → IsNext inst at → Stands inst s ps (come_to c o k n) (running at) → Comes inst s ps c o k n (store_of at)
from_stand {inst} {s} {ps} {at} c o k n e f next (is_invoked p q i) =
    subst (λ x. Comes inst s ps c x k n (store_of at)) (sym e)
    (by_steps at p (without c o k n i) (subst (λ m. After inst at m at) (sym q) (stays, is_settled next)) (at_fuel next f))
from_stand {inst} {s} {ps} {at} c o k n e f next (is_under_way {c = first} p l i a x) =
    subst (λ x. Comes inst s ps c x k n (store_of at)) (sym e) (by_steps first p (without c o k n i) a (at_fuel next f))

-- ---- the first call, and those behind it

-- they begin at one store, or haven't begun
abbrev Behind : Instance → List Call → List Call → Standing → Standing → Type 0
Behind inst xs us y z =
    ((s : Store) × Replays inst s [] xs y × Replays inst s [] us z × AreAtRest inst xs y × AreAtRest inst us z)
    ⊎ (AllByRecursion Waits xs × AllByRecursion Waits us)

pub passes : (c : Call) (cs : List Call) → is_open c.outcome ≡ false → first_open (c ∷ cs) ≡ first_open cs
passes c cs e = rw e

pub stops_there : (c : Call) (cs : List Call) → is_open c.outcome ≡ true → first_open (c ∷ cs) ≡ Some c
stops_there c cs e = rw e

rest_behind : {inst : Instance} {z : Standing} (c : Call) (cs : List Call) → is_open c.outcome ≡ false
    → AreAtRest inst (c ∷ cs) z → AreAtRest inst cs z
rest_behind c cs e (all_ended f) = all_ended (sym (passes c cs e) ∙ f)
rest_behind c cs e (used_up f g next) = used_up (sym (passes c cs e) ∙ f) g next

-- an end isn't open
pub end_closed : {inst : Instance} {s s2 : Store} {ps : List Piece} {c : Call} → Ends inst s ps c s2 → is_open c.outcome ≡ false
end_closed (has_returned p q l i a) = ap is_open p
end_closed (has_trapped p q l i a) = ap is_open p
end_closed (has_written p f q r) = ap is_open p
end_closed (was_cancelled p x) = ap is_open p
end_closed (never_began p q r) = ap is_open p

-- an open call at rest
at_rest_so : {inst : Instance} {s : Store} {ps : List Piece} {z : Standing} (c : Call) (o : Outcome) (k n : ℕ) (cs : List Call)
    → o ≡ pending → Stands inst s ps (come_to c o k n) z → AreAtRest inst (come_to c o k n ∷ cs) z
    → Comes inst s ps c o k n (store_at z)
at_rest_so c o k n cs e x (all_ended f) = absurd (none-some _ (sym f ∙ stops_there (come_to c o k n) cs (ap is_open e)))
at_rest_so c o k n cs e x (used_up f g next) =
    let same = same_Some _ _ (sym (stops_there (come_to c o k n) cs (ap is_open e)) ∙ f) in
    from_stand c o k n e (ap (λ d. d.charges) same ∙ g ∙ sym (ap (λ d. d.fuel) same)) next x

ended_heads : {inst : Instance} {s : Store} {ps : List Piece} {y z : Standing} (c : Call) (xs us : List Call)
    → is_open c.outcome ≡ false → Replays inst s ps (c ∷ xs) y → Replays inst s ps (c ∷ us) z
    → AreAtRest inst (c ∷ xs) y → AreAtRest inst (c ∷ us) z → Behind inst xs us y z
ended_heads {inst} {s} {ps} {y} {z} c xs us e (ended {s2 = a} x r) (ended {s2 = b} u t) p q =
    let same : a ≡ b = one_end inst s a b ps c x u in
    inl (a, r, subst (λ w. Replays inst w [] us z) (sym same) t, rest_behind c xs e p, rest_behind c us e q)
ended_heads c xs us e (ended x r) (at_work u v w) p q = absurd (false≢true (sym e ∙ ap is_open u))
ended_heads c xs us e (at_work u v w) r p q = absurd (false≢true (sym e ∙ ap is_open u))

open_heads : {inst : Instance} {s : Store} {ps : List Piece} {y z : Standing} (c : Call) (o o2 : Outcome) (k k2 n n2 : ℕ)
    (xs us : List Call) → ¬ (o ≡ cancelled) → ¬ (o2 ≡ cancelled) → ShareFate o o2
    → Replays inst s ps (come_to c o k n ∷ xs) y → Replays inst s ps (come_to c o2 k2 n2 ∷ us) z
    → AreAtRest inst (come_to c o k n ∷ xs) y → AreAtRest inst (come_to c o2 k2 n2 ∷ us) z
    → (come_to c o k n ≡ come_to c o2 k2 n2) × Behind inst xs us y z
open_heads {inst} {s} {ps} {y} {z} c o o2 k k2 n n2 xs us alive alive2 fate (ended {s2 = a} x r) (ended {s2 = b} u t) p q =
    let same = comes_once fate (from_end c o k n alive x) (from_end c o2 k2 n2 alive2 u) in (
      come_same c o o2 k k2 n n2 same.outcomes same.pieces same.charges,
      inl (
        a,
        r,
        subst (λ w. Replays inst w [] us z) (sym same.stores) t,
        rest_behind (come_to c o k n) xs (end_closed x) p,
        rest_behind (come_to c o2 k2 n2) us (end_closed u) q,
      ),
    )
open_heads c o o2 k k2 n n2 xs us alive alive2 fate (ended x r) (at_work u v w) p q =
    let same = comes_once fate (from_end c o k n alive x) (at_rest_so c o2 k2 n2 us u v q) in
    absurd (false≢true (sym (end_closed x) ∙ ap is_open (same.outcomes ∙ u)))
open_heads c o o2 k k2 n n2 xs us alive alive2 fate (at_work u v w) (ended x r) p q =
    let same = comes_once fate (at_rest_so c o k n xs u v p) (from_end c o2 k2 n2 alive2 x) in
    absurd (false≢true (sym (end_closed x) ∙ ap is_open (sym same.outcomes ∙ u)))
open_heads c o o2 k k2 n n2 xs us alive alive2 fate (at_work u v w) (at_work u2 v2 w2) p q =
    let same = comes_once fate (at_rest_so c o k n xs u v p) (at_rest_so c o2 k2 n2 us u2 v2 q) in
    (come_same c o o2 k k2 n n2 same.outcomes same.pieces same.charges, inr (w, w2))

one_head : {inst : Instance} {s : Store} {ps : List Piece} {y z : Standing} (c a b : Call) (xs us : List Call)
    → ComesTo c a → ComesTo c b → ShareFate a.outcome b.outcome
    → Replays inst s ps (a ∷ xs) y → Replays inst s ps (b ∷ us) z
    → AreAtRest inst (a ∷ xs) y → AreAtRest inst (b ∷ us) z → (a ≡ b) × Behind inst xs us y z
one_head c a b xs us (had_ended e) (had_ended f) fate r t p q = (refl, ended_heads c xs us e r t p q)
one_head c a b xs us (had_ended e) (goes_on f alive) fate r t p q = absurd (false≢true (sym e ∙ f))
one_head c a b xs us (goes_on e alive) (had_ended f) fate r t p q = absurd (false≢true (sym f ∙ e))
one_head c a b xs us (goes_on {outcome = o} {pieces = k} {charges = n} e alive) (goes_on {outcome = o2} {pieces = k2} {charges = n2} f alive2) fate r t p q =
    open_heads c o o2 k k2 n n2 xs us alive alive2 fate r t p q

-- ---- all calls

waits_same : (c a b : Call) → ComesTo c a → ComesTo c b → Waits a → Waits b → a ≡ b
waits_same c a b (had_ended e) (had_ended f) v w = refl
waits_same c a b (had_ended e) (goes_on f alive) v w = absurd (false≢true (sym e ∙ f))
waits_same c a b (goes_on e alive) (had_ended f) v w = absurd (false≢true (sym f ∙ e))
waits_same c a b (goes_on {outcome = o} {pieces = k} {charges = n} e alive) (goes_on {outcome = o2} {pieces = k2} {charges = n2} f alive2) v w =
    come_same c o o2 k k2 n n2 (v.outcome ∙ sym w.outcome) (v.fragments ∙ sym w.fragments) (v.charges ∙ sym w.charges)

list_same : {A : Type 0} (a b : A) (xs us : List A) → a ≡ b → xs ≡ us → a ∷ xs ≡ b ∷ us
list_same a b xs us p q = rw (p, q)

wait_once : (cs xs us : List Call) → AllZip ComesTo cs xs → AllZip ComesTo cs us → AllByRecursion Waits xs
    → AllByRecursion Waits us → xs ≡ us
wait_once [] [] [] h g v w = refl
wait_once [] [] (b ∷ us) h g v w = absurd g
wait_once [] (a ∷ xs) us h g v w = absurd h
wait_once (c ∷ cs) [] us h g v w = absurd h
wait_once (c ∷ cs) (a ∷ xs) [] h g v w = absurd g
wait_once (c ∷ cs) (a ∷ xs) (b ∷ us) h g v w =
    list_same a b xs us (waits_same c a b h.0 g.0 v.0 w.0) (wait_once cs xs us h.1 g.1 v.1 w.1)

abbrev ShareFates : List Call → List Call → Type 0
ShareFates xs us = AllZip (λ a b. ShareFate a.outcome b.outcome) xs us

all_once : {inst : Instance} {s : Store} {ps : List Piece} {y z : Standing} (cs xs us : List Call)
    → AllZip ComesTo cs xs → AllZip ComesTo cs us → ShareFates xs us → Replays inst s ps xs y → Replays inst s ps us z
    → AreAtRest inst xs y → AreAtRest inst us z → xs ≡ us
all_once [] [] [] h g fates r t p q = refl
all_once [] [] (b ∷ us) h g fates r t p q = absurd g
all_once [] (a ∷ xs) us h g fates r t p q = absurd h
all_once (c ∷ cs) [] us h g fates r t p q = absurd h
all_once (c ∷ cs) (a ∷ xs) [] h g fates r t p q = absurd g
all_once (c ∷ cs) (a ∷ xs) (b ∷ us) h g fates r t p q =
    let head = one_head c a b xs us h.0 g.0 fates.0 r t p q in
    list_same a b xs us head.0 (elim head.1 [
      | inl (s, r2, t2, p2, q2) ↦ all_once cs xs us h.1 g.1 fates.1 r2 t2 p2 q2
      | inr (v, w) ↦ wait_once cs xs us h.1 g.1 v w
    ])

-- ---- a journal

not_dead_so : (o : Outcome) → ¬ (o ≡ dead) → is_dead o ≡ false
not_dead_so (returned vs) h = refl
not_dead_so (stopped x) h = refl
not_dead_so cancelled h = refl
not_dead_so dead h = absurd (h refl)
not_dead_so pending h = refl

dead_fates : (cs xs us : List Call) → AllZip ComesTo cs xs → AllZip ComesTo cs us → AllByRecursion IsDead xs
    → AllByRecursion IsDead us → ShareFates xs us
dead_fates [] [] [] h g v w = tt
dead_fates [] [] (b ∷ us) h g v w = absurd g
dead_fates [] (a ∷ xs) us h g v w = absurd h
dead_fates (c ∷ cs) [] us h g v w = absurd h
dead_fates (c ∷ cs) (a ∷ xs) [] h g v w = absurd g
dead_fates (c ∷ cs) (a ∷ xs) (b ∷ us) h g v w =
    (ap is_dead (v.0 ∙ sym w.0), dead_fates cs xs us h.1 g.1 v.1 w.1)

live_fates : (cs xs us : List Call) → AllZip ComesTo cs xs → AllZip ComesTo cs us → AllByRecursion IsNotDead xs
    → AllByRecursion IsNotDead us → ShareFates xs us
live_fates [] [] [] h g v w = tt
live_fates [] [] (b ∷ us) h g v w = absurd g
live_fates [] (a ∷ xs) us h g v w = absurd h
live_fates (c ∷ cs) [] us h g v w = absurd h
live_fates (c ∷ cs) (a ∷ xs) [] h g v w = absurd g
live_fates (c ∷ cs) (a ∷ xs) (b ∷ us) h g v w =
    (not_dead_so a.outcome v.0 ∙ sym (not_dead_so b.outcome w.0), live_fates cs xs us h.1 g.1 v.1 w.1)

fates_behind : (has_failed : Bool) (cs xs us : List Call) → AllZip ComesTo cs xs → AllZip ComesTo cs us
    → MatchBool has_failed (AllByRecursion IsDead xs) (AllByRecursion IsNotDead xs)
    → MatchBool has_failed (AllByRecursion IsDead us) (AllByRecursion IsNotDead us) → ShareFates xs us
fates_behind true cs xs us h g v w = dead_fates cs xs us h g v w
fates_behind false cs xs us h g v w = live_fates cs xs us h g v w

whole : {inst : Instance} {s : Store} {ps : List Piece} {y z : Standing} {m : Module} (c a b : Call) (cs xs us : List Call)
    → AllZip ComesTo (c ∷ cs) (a ∷ xs) → AllZip ComesTo (c ∷ cs) (b ∷ us) → IsJournal m a xs → IsJournal m b us
    → Replays inst s ps (a ∷ xs) y → Replays inst s ps (b ∷ us) z
    → AreAtRest inst (a ∷ xs) y → AreAtRest inst (b ∷ us) z → a ∷ xs ≡ b ∷ us
whole c a b cs xs us h g i j r t p q =
    let fate : ShareFate a.outcome b.outcome = not_dead_so a.outcome i.not_dead ∙ sym (not_dead_so b.outcome j.not_dead) in
    let head = one_head c a b xs us h.0 g.0 fate r t p q in
    let behind = subst (λ d. MatchBool (fails d.outcome) (AllByRecursion IsDead us) (AllByRecursion IsNotDead us)) (sym head.0) j.behind in
    let fates = fates_behind (fails a.outcome) cs xs us h.1 g.1 i.behind behind in
    all_once (c ∷ cs) (a ∷ xs) (b ∷ us) h g (fate, fates) r t p q

journals_once : (m : Module) (p : Parameters) (inst : Instance) (s : Store) (ps : List Piece) (y z : Standing)
    (cs xs us : List Call) → IsInitial m p (begins inst s ps) → AllZip ComesTo cs xs → AllZip ComesTo cs us
    → Replay m p xs y → Replay m p us z → AreAtRest inst xs y → AreAtRest inst us z → xs ≡ us
journals_once m p inst s ps y z cs [] us initial h g r t v w = absurd r
journals_once m p inst s ps y z cs (a ∷ xs) [] initial h g r t v w = absurd t
journals_once m p inst s ps y z [] (a ∷ xs) (b ∷ us) initial h g r t v w = absurd h
journals_once m p inst s ps y z (c ∷ cs) (a ∷ xs) (b ∷ us) initial h g (given, i, (inst1, s1, ps1, i1, r)) (given2, j, (inst2, s2, ps2, i2, t)) v w =
    whole c a b cs xs us h g i j
    (from_beginning m p inst inst1 s s1 ps ps1 (a ∷ xs) y initial i1 r)
    (from_beginning m p inst inst2 s s2 ps ps2 (b ∷ us) z initial i2 t) v w

pub runs_once : RunsOnce
runs_once g a b begun (is_gone e) (is_gone f) = refl
runs_once g a b begun (is_gone e) (has_run f h r p) = absurd (false≢true (sym f ∙ e))
runs_once g a b begun (has_run f h r p) (is_gone e) = absurd (false≢true (sym f ∙ e))
runs_once g a b begun (has_run {calls = xs} {z = y} e h r p) (has_run {calls = us} {z = z} f k t q) =
    ap (λ calls. record g { calls = calls })
    (journals_once g.m (given_of g.params) g.inst begun.0 g.pieces y z g.calls xs us begun.1 h k r t p q)
