-- A memory that is lent to one instance: what a call comes to over what is lent, it comes to over the whole.
use Rattle.std.proofs.Common.{◌≡◌, ℕ, List, [], length, reverse, sym, ap, subst, ◌∙◌}
use Rattle.wh_model.specs.declared.memory.Need.{Need}
use Rattle.wh_model.specs.Format.{nothing}
use Rattle.wh_model.specs.Execution.Store.{Instance}
use Rattle.wh_model.specs.Execution.{written, code, Config, config, trapped, After, IsNext, Asks, Piece, Call, Invocation, Writes, wrote_all, wrote, Takes, took_all, took}
use Rattle.wh_model.specs.Execution.Memory.{writing}
use Rattle.wh_host_model.specs.Host.{Rest, Doing, store_with, Opens, by_invocation, as_it_was, Computes, Upshot, Proceeds, returns, traps, writes_all, uses_fuel, waits, waits_to_write, has_had_its_turn}

-- from a first memory on, all that calls may lead to has the bytes and the readiness of the whole that it is a part of
pub record Lent {M N : Type 0} (bytes : M → List ℕ) (ready : M → Need → Type 0) (keeps : M → M → Type 0) (bytes2 : N → List ℕ) (ready2 : N → Need → Type 0) (keeps2 : N → N → Type 0) (f : M → N) (first : M) : Type 0 where
  pub then : (a b c : M) → keeps a b → keeps b c → keeps a c
  pub bytes_are : (x : M) → keeps first x → bytes2 (f x) ≡ bytes x
  pub ready_there : (x : M) (need : Need) → keeps first x → ready x need → ready2 (f x) need
  pub ready_here : (x : M) (need : Need) → keeps first x → ready2 (f x) need → ready x need
  pub kept : (x y : M) → keeps first x → keeps x y → keeps2 (f x) (f y)

writes_lent : {M N : Type 0} {bytes : M → List ℕ} {ready : M → Need → Type 0} {keeps : M → M → Type 0} {bytes2 : N → List ℕ} {ready2 : N → Need → Type 0} {keeps2 : N → N → Type 0} (f : M → N) (first : M) (l : Lent bytes ready keeps bytes2 ready2 keeps2 f first) {m m2 : M} {ps : List Piece} → keeps first m → Writes bytes ready keeps m ps m2 → Writes bytes2 ready2 keeps2 (f m) ps (f m2) × keeps first m2
writes_lent f first l h wrote_all = (wrote_all, h)
writes_lent {bytes2 = bytes2} f first l {m = m} h (wrote {mid = mid} {p = p} now new steps rest) =
    let k = l.then first m mid h steps in
    let r = writes_lent f first l k rest in
    (wrote (l.ready_there m (writing p.at (length p.items)) h now) (l.bytes_are mid k ∙ new ∙ ap (λ b. written b p.at p.items) (sym (l.bytes_are m h))) (l.kept m mid h steps) r.0, r.1)

takes_lent : {M N : Type 0} {bytes : M → List ℕ} {ready : M → Need → Type 0} {keeps : M → M → Type 0} {bytes2 : N → List ℕ} {ready2 : N → Need → Type 0} {keeps2 : N → N → Type 0} (f : M → N) (first : M) (l : Lent bytes ready keeps bytes2 ready2 keeps2 f first) {inst : Instance} {n : ℕ} {m m2 : M} {c c2 : Config} → keeps first m → Takes bytes ready keeps inst m c n m2 c2 → Takes bytes2 ready2 keeps2 inst (f m) c n (f m2) c2 × keeps first m2
takes_lent f first l h took_all = (took_all, h)
takes_lent f first l {m = m} h (took {mid = mid} now one new steps rest) =
    let k = l.then first m mid h steps in
    let r = takes_lent f first l k rest in
    (took (λ need asks. l.ready_there m need h (now need asks)) one (l.bytes_are mid k ∙ new) (l.kept m mid h steps) r.0, r.1)

opens_lent : {M N : Type 0} {bytes : M → List ℕ} {ready : M → Need → Type 0} {keeps : M → M → Type 0} {bytes2 : N → List ℕ} {ready2 : N → Need → Type 0} {keeps2 : N → N → Type 0} (f : M → N) (first : M) (l : Lent bytes ready keeps bytes2 ready2 keeps2 f first) {inst : Instance} {call : Call} {k : ℕ} {m m2 : M} {r : Rest} {d : Doing} {c : Config} → keeps first m → Opens bytes ready keeps inst call m r d k m2 c
    → Opens bytes2 ready2 keeps2 inst call (f m) r d k (f m2) c × keeps first m2
opens_lent f first l {inst = inst} {call = call} {r = r} h (by_invocation {m1 = m1} {c = c} w i a) =
    let x = writes_lent f first l h w in
    (by_invocation x.0 (subst (λ b. Invocation inst (store_with b r) call c) (sym (l.bytes_are m1 x.1)) i) a, x.1)
opens_lent f first l {inst = inst} {m = m} {r = r} h (as_it_was {term = term} {c1 = c1} a) =
    (as_it_was (subst (λ b. After inst (config (store_with b r) [] term) 0 c1) (sym (l.bytes_are m h)) a), h)

computes_lent : {M N : Type 0} {bytes : M → List ℕ} {ready : M → Need → Type 0} {keeps : M → M → Type 0} {bytes2 : N → List ℕ} {ready2 : N → Need → Type 0} {keeps2 : N → N → Type 0} (f : M → N) (first : M) (l : Lent bytes ready keeps bytes2 ready2 keeps2 f first) {inst : Instance} {q k n : ℕ} {call : Call} {m m2 : M} {r : Rest} {d : Doing} {c : Config} → keeps first m → Computes bytes ready keeps inst q call m r d k n m2 c
    → Computes bytes2 ready2 keeps2 inst q call (f m) r d k n (f m2) c × keeps first m2
computes_lent f first l h x =
    let o = opens_lent f first l h x.opens in
    let t = takes_lent f first l o.1 x.takes in
    (record { between = f x.between; opened = x.opened; opens = o.0; takes = t.0; in_turn = x.in_turn; in_fuel = x.in_fuel }, t.1)

pub proceeds_lent : {M N : Type 0} {bytes : M → List ℕ} {ready : M → Need → Type 0} {keeps : M → M → Type 0} {bytes2 : N → List ℕ} {ready2 : N → Need → Type 0} {keeps2 : N → N → Type 0} (f : M → N) (first : M) (l : Lent bytes ready keeps bytes2 ready2 keeps2 f first) {inst : Instance} {q k n : ℕ} {call : Call} {m m2 : M} {r r2 : Rest} {d d2 : Doing} {to : Upshot} → keeps first m → Proceeds bytes ready keeps inst q call m r d to k n m2 r2 d2
    → Proceeds bytes2 ready2 keeps2 inst q call (f m) r d to k n (f m2) r2 d2
proceeds_lent {bytes2 = bytes2} {ready2 = ready2} {keeps2 = keeps2} f first l {inst = inst} {q = q} {k = k} {n = n} {call = call} {m = m} {m2 = m2} {r = r} {d = d} h (returns {r2 = r2} {vs = vs} x typed) =
    let y = computes_lent f first l h x in
    returns (subst (λ b. Computes bytes2 ready2 keeps2 inst q call (f m) r d k n (f m2) (config (store_with b r2) [] (code (reverse vs) nothing))) (sym (l.bytes_are m2 y.1)) y.0) typed
proceeds_lent {bytes2 = bytes2} {ready2 = ready2} {keeps2 = keeps2} f first l {inst = inst} {q = q} {k = k} {n = n} {call = call} {m = m} {m2 = m2} {r = r} {d = d} h (traps {r2 = r2} {x = trap} x) =
    let y = computes_lent f first l h x in
    traps (subst (λ b. Computes bytes2 ready2 keeps2 inst q call (f m) r d k n (f m2) (trapped (store_with b r2) trap)) (sym (l.bytes_are m2 y.1)) y.0)
proceeds_lent f first l h (writes_all d func w) = let y = writes_lent f first l h w in writes_all d func y.0
proceeds_lent {bytes2 = bytes2} {ready2 = ready2} {keeps2 = keeps2} f first l {inst = inst} {q = q} {k = k} {n = n} {call = call} {m = m} {m2 = m2} {r = r} {d = d} h (uses_fuel {r2 = r2} {term = term} x next all) =
    let y = computes_lent f first l h x in
    let e = sym (l.bytes_are m2 y.1) in
    uses_fuel (subst (λ b. Computes bytes2 ready2 keeps2 inst q call (f m) r d k n (f m2) (config (store_with b r2) [] term)) e y.0) (subst (λ b. IsNext inst (config (store_with b r2) [] term)) e next) all
proceeds_lent {bytes2 = bytes2} {ready2 = ready2} {keeps2 = keeps2} f first l {inst = inst} {q = q} {k = k} {n = n} {call = call} {m = m} {m2 = m2} {r = r} {d = d} h (waits {r2 = r2} {term = term} {need = need} x next some asks never) =
    let y = computes_lent f first l h x in
    let e = sym (l.bytes_are m2 y.1) in
    waits (subst (λ b. Computes bytes2 ready2 keeps2 inst q call (f m) r d k n (f m2) (config (store_with b r2) [] term)) e y.0) (subst (λ b. IsNext inst (config (store_with b r2) [] term)) e next) some
    (subst (λ b. Asks inst (config (store_with b r2) [] term) need) e asks) (λ z. never (l.ready_here m2 need y.1 z))
proceeds_lent f first l {m2 = m2} h (waits_to_write {p = p} d w never) = let y = writes_lent f first l h w in waits_to_write d y.0 (λ z. never (l.ready_here m2 (writing p.at (length p.items)) y.1 z))
proceeds_lent {bytes2 = bytes2} {ready2 = ready2} {keeps2 = keeps2} f first l {inst = inst} {q = q} {k = k} {n = n} {call = call} {m = m} {m2 = m2} {r = r} {d = d} h (has_had_its_turn {r2 = r2} {term = term} x next all some at_hand) =
    let y = computes_lent f first l h x in
    let back = l.bytes_are m2 y.1 in
    let e = sym back in
    has_had_its_turn (subst (λ b. Computes bytes2 ready2 keeps2 inst q call (f m) r d k n (f m2) (config (store_with b r2) [] term)) e y.0) (subst (λ b. IsNext inst (config (store_with b r2) [] term)) e next) all some
    (λ need asks. l.ready_there m2 need y.1 (at_hand need (subst (λ b. Asks inst (config (store_with b r2) [] term) need) back asks)))
