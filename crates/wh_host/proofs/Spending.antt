-- What a turn takes of the charges of an instance, as its journal says.
use Rattle.std.proofs.Common.{◌≡◌, ◌∙◌, ℕ, ◌+◌, ◌≤◌, List, [], ◌∷◌, ◌++◌, Option, Some, length, map, slice_get, refl, ap, arith, append_assoc, append-nil, rules}
use Rattle.wh_model.specs.declared.memory.Need.{Need}
use Rattle.wh_model.specs.Execution.{Call, dead}
use Rattle.wh_model.specs.Execution.Store.{Instance}
use Rattle.wh_host_model.specs.Host.{gone_further, gone_on, ended_by, Closes, faces_next, is_dead, Proceeds, Upshot, returns, traps, writes_all, uses_fuel, waits, waits_to_write, has_had_its_turn, Doing, Rest, Suspension, Tenant, journal}
use Rattle.wh_host_model.specs.{Entry}
use Rattle.wh_space_model.specs.{Space}
use Rattle.wh_host.specs.Series.{Spends, charges_each}

pub at_seam : (xs ys : List Entry) (e : Entry) → slice_get (xs ++ e ∷ ys) (length xs) ≡ Some e
at_seam [] ys e = refl
at_seam (x ∷ xs) ys e = at_seam xs ys e

-- charges are within the turn
pub within_turn : {M : Type 0} {bytes : M → List ℕ} {ready : M → Need → Type 0} {keeps : M → M → Type 0} {inst : Instance} {q k n : ℕ} (call : Call) {m m2 : M} {r r2 : Rest} {d d2 : Doing} {to : Upshot} → Proceeds bytes ready keeps inst q call m r d to k n m2 r2 d2 → n ≤ q
within_turn call (returns x typed) = x.in_turn
within_turn call (traps x) = x.in_turn
within_turn call (writes_all d func w) = omega arith
within_turn call (uses_fuel x next all) = x.in_turn
within_turn call (waits x next some asks never) = x.in_turn
within_turn call (waits_to_write d w never) = omega arith
within_turn call (has_had_its_turn x next all some at_hand) = x.in_turn

-- the present call goes further, and may end
pub spends_on : (n : ℕ) (t t2 : Tenant) (e f : Entry) (es fs : List Entry) → t.open_calls ≡ e ∷ es → journal t2 ≡ t.ended ++ f ∷ fs → f.call.charges ≡ e.call.charges + n → charges_each fs ≡ charges_each es → Spends n t t2
spends_on n t t2 e f es fs there now more rest = search rules

pub spends_further : (t : Tenant) (e : Entry) (es : List Entry) (k n : ℕ) (r : Rest) (d : Doing) (o : Option Suspension) → t.open_calls ≡ e ∷ es → Spends n t (gone_on t (gone_further e k n) es r d o)
spends_further t e es k n r d o there = spends_on n t (gone_on t (gone_further e k n) es r d o) e (gone_further e k n) es es there refl refl refl

dead_each : (es : List Entry) → charges_each (map (λ (w : Entry). ended_by w dead) es) ≡ charges_each es
dead_each [] = refl
dead_each (e ∷ es) = ap (λ ns. e.call.charges ∷ ns) (dead_each es)

-- where it has ended, the journal is that with its end
pub closed_at : {s : Space} {t t2 : Tenant} {e : Entry} {es : List Entry} {r : Rest} → Closes s t e es r t2 → (fs : List Entry) × (journal t2 ≡ t.ended ++ e ∷ fs) × (charges_each fs ≡ charges_each es)
closed_at {t = t} {e = e} {es = es} (faces_next alive f) = (es, append_assoc t.ended (e ∷ []) es, refl)
closed_at {t = t} {e = e} {es = es} (is_dead died) =
    let fs = map (λ (w : Entry). ended_by w dead) es in
    (fs ++ [], append_assoc t.ended (e ∷ fs) [], ap charges_each (append-nil fs) ∙ dead_each es)

pub spends_closed : (n : ℕ) (t t2 : Tenant) (e f : Entry) (es : List Entry) {s : Space} {r : Rest} → t.open_calls ≡ e ∷ es → Closes s t f es r t2 → f.call.charges ≡ e.call.charges + n → Spends n t t2
spends_closed n t t2 e f es there closes more = search (rules, closed_at, spends_on)

-- nothing was done
pub spends_none : (n : ℕ) (t : Tenant) → n ≡ 0 → Spends n t t
spends_none n t nothing = record {
  idle = λ none. (nothing, refl);
  present = λ e es there. (e, es, ap (λ (xs : List Entry). t.ended ++ xs) there, omega (arith, nothing), refl);
}
