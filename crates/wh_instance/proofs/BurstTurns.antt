-- What a call comes to in one turn and then in another, it comes to in one of as many charges as both.
use Rattle.std.proofs.Common.{◌≡◌, inl, inr, ℕ, ◌+◌, ◌-◌, ◌<◌, ◌≤◌, suc, refl, sym, subst, arith, rules}
use Rattle.wh_model.specs.declared.ValType.{ValType}
use Rattle.wh_model.specs.declared.memory.Need.{Need}
use Rattle.std.proofs.Common.{List, Option}
use Rattle.wh_model.specs.Execution.Store.{Instance, Store}
use Rattle.wh_model.specs.Execution.{Config, Takes, took_all, took}
use Rattle.wh_machine.specs.CallStates.{CallState, Setting, HasConfiguration}
use Rattle.wh_call.specs.Ends.{TakesTo}
use Rattle.wh_instance.specs.declared.computing.TurnOutcome.{TurnOutcome}
use Rattle.wh_instance.specs.declared.computing.TurnOutcome.TheVariants.{Returned, Trapped, Fuel, Frame, Again}
use Rattle.wh_instance.specs.Computed.{ComesWithin, ComputesWithin, IsNextReady}
use Rattle.wh_host_model.proofs.Host.Stopping.{done_has_no_next, trap_has_no_next}
use Rattle.std.proofs.lemmas.Bool.{cases_lt}

takes_join : {M : Type 0} {bytes : M → List ℕ} {ready : M → Need → Type 0} {keeps : M → M → Type 0} {inst : Instance} {m mid m2 : M} {c c1 c2 : Config} {n k : ℕ} → Takes bytes ready keeps inst m c n mid c1 → Takes bytes ready keeps inst mid c1 k m2 c2 → Takes bytes ready keeps inst m c (n + k) m2 c2
takes_join {bytes = bytes} {ready = ready} {keeps = keeps} {inst = inst} {m = m} {m2 = m2} {c = c} {c2 = c2} {k = k} took_all y = let same : k ≡ 0 + k = omega arith in subst (λ i. Takes bytes ready keeps inst m c i m2 c2) same y
takes_join {bytes = bytes} {ready = ready} {keeps = keeps} {inst = inst} {m = m} {m2 = m2} {c = c} {c2 = c2} {k = k} (took {n = n} now one is kept rest) y =
    let same : suc (n + k) ≡ suc n + k = omega arith in subst (λ i. Takes bytes ready keeps inst m c i m2 c2) same (took now one is kept (takes_join rest y))

-- what comes after n charges
comes_later : {M : Type 0} (w : Setting M) (after : CallState M) (out : Option ValType) (inst : Instance) (first then : ℕ → Config → Type 0) (n q more left k : ℕ) (came : TurnOutcome) (s : Store)
    → ((i : ℕ) (c : Config) → then i c → first (n + i) c) → n ≡ q → n < left
    → ComesWithin w after out inst then more (left - n) came k s → ComesWithin w after out inst first (q + more) left came (n + k) s
comes_later w after out inst first then n q more left k (Returned result) s leads is less (low, (fits, us, are, top, x)) = search rules
comes_later w after out inst first then n q more left k (Trapped trap) s leads is less (low, (fits, x)) = search rules
comes_later w after out inst first then n q more left k Fuel s leads is less (low, (all, (c, x, next, same, stands, runs, settled))) = search rules
comes_later w after out inst first then n q more left k (Frame need) s leads is less (low, (fits, never, (c, x, next, same, stands, runs, settled))) =
    (omega (arith, is, low), (omega (arith, less, fits), never, (c, leads k c x, next, same, stands, runs, settled)))
comes_later w after out inst first then n q more left k Again s leads is less (all, fits, (c, x, next, same, stands, runs, settled)) = search rules

pub goes_further : {M : Type 0} (w : Setting M) (before mid after : CallState M) (q more left n k : ℕ) (came : TurnOutcome) → ComputesWithin w before q left Again n mid → ComputesWithin w mid more (left - n) came k after → ComputesWithin w before (q + more) left came (n + k) after
goes_further w before mid after q more left n k came first then out inst c st =
    let (s, (is, less, (c1, x, next, same, stands, runs, settled)), store) = first out inst c st in
    let (s2, comes, store2) = then out inst c1 stands in
    (s2, comes_later w after out inst (TakesTo w inst before.memory c after.memory) (TakesTo w inst mid.memory c1 after.memory) n q more left k came s2 (λ i c2 y. takes_join x y) is less comes, store2)

-- it stands there, has fuel left, and took all its charges
pub still_there : {M : Type 0} (w : Setting M) (before mid : CallState M) (q left n : ℕ) → ComputesWithin w before q left Again n mid → HasConfiguration w before → HasConfiguration w mid × (n < left) × (n ≡ q)
still_there w before mid q left n first has =
    let (s, (is, less, (c1, x, next, same, stands, runs, settled)), store) = first has.out has.inst has.cfg has.stands in
    (record { out = has.out; inst = has.inst; cfg = c1; stands = stands; settled = settled }, less, is)

comes_in_fuel : {M : Type 0} (w : Setting M) (after : CallState M) (out : Option ValType) (inst : Instance) (leads : ℕ → Config → Type 0) (q left n : ℕ) (came : TurnOutcome) (s : Store) → ComesWithin w after out inst leads q left came n s → n ≤ left
comes_in_fuel w after out inst leads q left n (Returned result) s x = x.1.0
comes_in_fuel w after out inst leads q left n (Trapped trap) s x = x.1.0
comes_in_fuel w after out inst leads q left n Fuel s x = let all = x.1.0 in omega (arith, all)
comes_in_fuel w after out inst leads q left n (Frame need) s x = let fits = x.1.0 in omega (arith, fits)
comes_in_fuel w after out inst leads q left n Again s x = let fits = x.1 in omega (arith, fits)

-- it takes no more than the fuel that is left
pub in_fuel : {M : Type 0} (w : Setting M) (before after : CallState M) (q left n : ℕ) (came : TurnOutcome) → ComputesWithin w before q left came n after → HasConfiguration w before → n ≤ left
in_fuel w before after q left n came computes has =
    let (s, comes, store) = computes has.out has.inst has.cfg has.stands in
    comes_in_fuel w after has.out has.inst (TakesTo w has.inst before.memory has.cfg after.memory) q left n came s comes

-- ---- where a charge is next, and ready, some are taken

takes_none : {M : Type 0} {bytes : M → List ℕ} {ready : M → Need → Type 0} {keeps : M → M → Type 0} {inst : Instance} {m m2 : M} {c c2 : Config} {n : ℕ} → Takes bytes ready keeps inst m c n m2 c2 → n ≡ 0 → (m2 ≡ m) × (c2 ≡ c)
takes_none took_all none = (refl, refl)
takes_none (took {n = n} now one is kept rest) none = absurd (omega (arith, none))

none_taken : {M : Type 0} (w : Setting M) (mid after : CallState M) (out : Option ValType) (inst : Instance) (c : Config) (q left n : ℕ) (came : TurnOutcome) (s : Store) → IsNextReady (w.ready mid.memory) inst c → 1 ≤ q → 0 < left
    → ComesWithin w after out inst (TakesTo w inst mid.memory c after.memory) q left came n s → n ≡ 0 → ⊥
none_taken w mid after out inst c q left n (Returned result) s next least less (low, (fits, us, are, top, x)) none =
    done_has_no_next s us (sym (takes_none x none).1) next.0
none_taken w mid after out inst c q left n (Trapped trap) s next least less (low, (fits, x)) none = trap_has_no_next s trap (sym (takes_none x none).1) next.0
none_taken w mid after out inst c q left n Fuel s next least less x none = let all = x.1.0 in omega (arith, all, none, less)
none_taken w mid after out inst c q left n (Frame need) s next least less (low, (fits, never, (c2, x, (more, asks), same, stands, runs, settled))) none =
    search (rules, takes_none)
none_taken w mid after out inst c q left n Again s next least less x none = let all = x.0 in omega (arith, all, none, least)

pub some_taken : {M : Type 0} (w : Setting M) (before mid after : CallState M) (q more left n k : ℕ) (came : TurnOutcome) → ComputesWithin w before q left Again n mid → HasConfiguration w before → 1 ≤ more → ComputesWithin w mid more (left - n) came k after → 1 ≤ k
some_taken w before mid after q more left n k came first has least then =
    let (s, (is, less, (c1, x, next, same, stands, runs, settled)), store) = first has.out has.inst has.cfg has.stands in
    let (s2, comes, store2) = then has.out has.inst c1 stands in
    elim (cases_lt 0 k) [
      | inl some ↦ omega (arith, some)
      | inr none ↦ absurd (none_taken w mid after has.out has.inst c1 more (left - n) k came s2 next least (omega (arith, less)) comes (omega (arith, none)))
    ]
