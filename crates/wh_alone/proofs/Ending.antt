-- What a run over a flat memory comes to, by the charges that lead there.
use Rattle.std.proofs.Common.{◌≡◌, ℕ, ◌+◌, Option, sym, subst, arith}
use Rattle.wh_model.specs.declared.ValType.{ValType}
use Rattle.wh_model.specs.Execution.Store.{Instance, Store}
use Rattle.wh_model.specs.Execution.{Config, After}
use Rattle.wh_model.proofs.Chains.{after_joins}
use Rattle.wh_model.proofs.Taken.{takes_after}
use Rattle.wh_machine.specs.CallStates.{CallState, Setting}
use Rattle.wh_call.specs.declared.calling.RunEnd.{RunEnd}
use Rattle.wh_call.specs.declared.calling.RunEnd.TheVariants as run
use Rattle.wh_call.specs.Ends.{HasStoreIn, EndsWithin, TakesTo}
use Rattle.wh_flatmem.specs.FlatMemoryState.{FlatMemoryState}
use Rattle.wh_imports.specs.LinkedState.{LinkedState}
use Rattle.wh_alone.specs.declared.outcome.Outcome.{Outcome}
use Rattle.wh_alone.specs.declared.outcome.Outcome.TheVariants.{Returned, Trapped, OutOfFuel}
use Rattle.wh_alone.specs.InstanceStates.{Kept, flat_setting, run_end, IsAnswered, EndsBy}

-- ---- ways that lead there

-- it comes to the same by what the one way leads to
pub ends_leading : {M : Type 0} (w : Setting M) (after : CallState M) (out : Option ValType) (inst : Instance) (leads leads2 : ℕ → Config → Type 0) (fuel : ℕ) (end : RunEnd) (n : ℕ) (s : Store) → ((c : Config) → leads n c → leads2 n c) → EndsWithin w after out inst leads fuel end n s → EndsWithin w after out inst leads2 fuel end n s
ends_leading w after out inst leads leads2 fuel (run.Returned result) n s on (low, us, types, top, there) = (low, us, types, top, on _ there)
ends_leading w after out inst leads leads2 fuel (run.Trapped x) n s on (low, there) = (low, on _ there)
ends_leading w after out inst leads leads2 fuel run.OutOfFuel n s on (all, (c, there, next, is, stands, runs, settled)) = (all, (c, on c there, next, is, stands, runs, settled))
ends_leading w after out inst leads leads2 fuel (run.NotReady need) n s on (low, never, (c, there, asks, is, stands, runs, settled)) = (low, never, (c, on c there, asks, is, stands, runs, settled))

-- over a flat memory no run waits for bytes
pub answered : (l : LinkedState) (limit : ℕ) (after : CallState FlatMemoryState) (out : Option ValType) (inst : Instance) (leads : ℕ → Config → Type 0) (fuel : ℕ) (end : RunEnd) (n : ℕ) (s : Store) → EndsWithin (flat_setting l limit) after out inst leads fuel end n s → IsAnswered end
answered l limit after out inst leads fuel (run.Returned result) n s h = tt
answered l limit after out inst leads fuel (run.Trapped x) n s h = tt
answered l limit after out inst leads fuel run.OutOfFuel n s h = tt
answered l limit after out inst leads fuel (run.NotReady need) n s h = h.1 tt

joined : {inst : Instance} {a b c : Config} (m n k : ℕ) → m + n ≡ k → After inst a m b → After inst b n c → After inst a k c
joined {inst} {a} {b} {c} m n k e x y = subst (λ i. After inst a i c) e (after_joins inst m n a b c x y)

-- ---- over a flat memory

-- what a run comes to and leaves
abbrev Ended : LinkedState → ℕ → CallState FlatMemoryState → Option ValType → Instance → (ℕ → Config → Type 0) → ℕ → RunEnd → ℕ → Type 0
Ended l limit after out inst leads fuel end n = (s : Store) × EndsWithin (flat_setting l limit) after out inst leads fuel end n s × HasStoreIn (flat_setting l limit) after inst s

pub comes_by : (l : LinkedState) (before after : CallState FlatMemoryState) (out : Option ValType) (inst : Instance) (c : Config) (first : Config) (fuel : ℕ) (end : RunEnd) (n : ℕ) (outcome : Outcome) → after.memory.limit ≡ before.memory.limit → run_end outcome ≡ end → After inst first 0 c
    → Ended l before.memory.limit after out inst (TakesTo (flat_setting l before.memory.limit) inst before.memory c after.memory) fuel end n → Ended l after.memory.limit after out inst (After inst first) fuel (run_end outcome) n
comes_by l before after out inst c first fuel end n outcome limit is begun (s, ends, store) =
    subst (λ e. Ended l after.memory.limit after out inst (After inst first) fuel e n) (sym is)
    (subst (λ most. Ended l most after out inst (After inst first) fuel end n) (sym limit)
    (s, ends_leading (flat_setting l before.memory.limit) after out inst (TakesTo (flat_setting l before.memory.limit) inst before.memory c after.memory) (After inst first) fuel end n s (λ c2 took. joined 0 n n (omega arith) begun (takes_after took begun.1)) ends, store))

-- ---- from a configuration before

pub ends_from : (k2 : Kept) (out : Option ValType) (inst : Instance) (first cfg : Config) (m fuel fuel2 n n2 : ℕ) (outcome : Outcome) (s : Store) → m + fuel ≡ fuel2 → m + n ≡ n2 → After inst first m cfg
    → EndsBy k2 out inst cfg fuel outcome n s → EndsBy k2 out inst first fuel2 outcome n2 s
ends_from k2 out inst first cfg m fuel fuel2 n n2 (Returned result) s e f begun (low, us, types, top, after) = (omega (arith, e, f, low), us, types, top, joined m n n2 f begun after)
ends_from k2 out inst first cfg m fuel fuel2 n n2 (Trapped x) s e f begun (low, after) = (omega (arith, e, f, low), joined m n n2 f begun after)
ends_from k2 out inst first cfg m fuel fuel2 n n2 OutOfFuel s e f begun (all, (c2, after, next, is, stands, runs, settled)) = (omega (arith, e, f, all), (c2, joined m n n2 f begun after, next, is, stands, runs, settled))
