-- What requests, and pages that move, make of the book that fits the charges of a host.
use Rattle.std.proofs.Common.{◌≡◌, ◌≢◌, ℕ, ◌+◌, ◌≤◌, length, List, [], ◌∷◌, ◌++◌, Option, Some, refl, sym, ap, subst, ◌∙◌, arith, ℤ}
use Rattle.std.proofs.lemmas.List.Sums.{sum_by-cons, sum_by-append}
use Rattle.wh_model.specs.Format.{Module}
use Rattle.wh_model.specs.Execution.Store.{Instance, Store}
use Rattle.wh_model.specs.Execution.{Piece, cancelled}
use Rattle.wh_space_model.specs.declared.plain.InstId.{InstId}
use Rattle.wh_space_model.specs.declared.plain.SwapError.{SwapError}
use Rattle.wh_space_model.specs.{Space}
use Rattle.wh_host_model.specs.Host.{Doing, Tenant, World, journal, own_calls, tenant, for_device, Forks, TakesCall, more_fuel, Refuels, has_more, Cancels, Retries, may_try, StartsAs, writes, runs, IsFork, ForkAnswer, is_forked, isnt_forked, no_memory_to_fork, no_one_to_fork, IsLoad, is_loaded, isnt_loaded, no_memory_to_load, LoadAnswer, IsAdmit, is_admitted, isnt_admitted, no_memory_to_admit, AdmitAnswer, IsInvoke, is_invoked, has_no_instance, isnt_invoked, no_memory_to_invoke, InvokeAnswer, CallAnswer, IsRefuel, is_refueled, no_one_to_refuel, no_call_to_refuel, IsCancel, is_cancelled, no_one_to_cancel, no_call_to_cancel, IsRetry, is_retried, no_one_to_retry, no_fault_to_retry, IsRelease, is_released, no_one_to_release, MovesPages, moved, has_failed, OnlyMoves, UnloadAnswer, IsUnload, is_unloaded, no_module_to_unload, is_in_use, IsMisread}
use Rattle.wh_host_model.specs.{Entry, new_entry, Params, Quota, call_open}
use Rattle.wh_host_model.specs.Host.OwnerCalls as calls
use Rattle.wh_host_model.specs.Host.Admission.{ends}
use Rattle.wh_host.proofs.Spending.{spends_closed, spends_on}
use Rattle.wh_cell.specs.Charging.{charges_in, FitsBook, HasTaken}
use Rattle.wh_cell.proofs.Counted.{charges_at, closed_copied, copy_has_none, own_more, own_spent, taken_by_one, fits_taken, fits_new, fits_gone}

-- the calls that were copied with an instance have ended
abbrev pub HasCopiedEnded : World → Type 0
HasCopiedEnded w = (i : ℕ) (t : Tenant) → tenant w i ≡ Some t → t.copied ≤ length t.ended

-- nothing was taken
pub fits_still : (w w2 : World) (total : ℕ) → HasTaken w 0 w2 → FitsBook w total → FitsBook w2 total
fits_still w w2 total h f = subst (FitsBook w2) (omega arith) (fits_taken w w2 0 total h f)

pub load_fits : (w w2 : World) (bytes : List ℕ) (answer : LoadAnswer) (total : ℕ) → IsLoad w bytes answer w2 → FitsBook w total → FitsBook w2 total
load_fits w w2 bytes answer total (is_loaded l) f = subst (λ z. FitsBook z total) (sym l.after) (record { least = f.least; whole = f.whole })
load_fits w w2 bytes answer total (isnt_loaded r) f = f
load_fits w w2 bytes answer total (no_memory_to_load m) f = f

pub unload_fits : (w w2 : World) (k : ℕ) (answer : UnloadAnswer) (total : ℕ) → IsUnload w k answer w2 → FitsBook w total → FitsBook w2 total
unload_fits w w2 k answer total (is_unloaded l) f = subst (λ z. FitsBook z total) (sym l.after) (record { least = f.least; whole = f.whole })
unload_fits w w2 k answer total (no_module_to_unload none) f = f
unload_fits w w2 k answer total (is_in_use i there live of) f = f

-- the start of an instance has taken none
starts_none : {inst : Instance} {s : Store} {ps : List Piece} {start : Option ℕ} {fuel : ℕ} {d : Doing} {ended open_calls : List Entry}
    → StartsAs inst s ps start fuel d ended open_calls → charges_in (ended ++ open_calls) ≡ 0
starts_none (writes some) = refl
starts_none (runs none is faces) = refl
starts_none (ends none is) = refl

pub admit_fits : (w w2 : World) (k : ℕ) (p : Params) (answer : AdmitAnswer) (total : ℕ) → IsAdmit w k p answer w2 → FitsBook w total → FitsBook w2 total
admit_fits w w2 k p answer total (is_admitted l) f = subst (λ z. FitsBook z total) (sym l.after) (fits_new w _ l.space total (starts_none l.starts) f)
admit_fits w w2 k p answer total (isnt_admitted r) f = f
admit_fits w w2 k p answer total (no_memory_to_admit n) f = f

-- a new call has taken none
asked_none : (t : Tenant) (e : Entry) → e.call.charges ≡ 0 → charges_in (t.ended ++ (t.open_calls ++ e ∷ [])) ≡ charges_in (journal t) + 0
asked_none t e none =
    omega (arith, none, sum_by-append charges_at t.ended (t.open_calls ++ e ∷ []), sum_by-append charges_at t.open_calls (e ∷ []), sum_by-append charges_at t.ended t.open_calls, sum_by-cons charges_at e [])

takes_none : {m : Module} {s : Space} {t t2 : Tenant} {name : List ℕ} {given : List ℤ} {fuel at : ℕ} → TakesCall m s t name given fuel at t2 → t.copied ≤ length t.ended → charges_in (own_calls t2) ≡ charges_in (own_calls t) + 0
takes_none {t = t} {t2 = t2} {given = given} {fuel = fuel} k had =
    let e : Entry = new_entry k.func k.vs given fuel in
    own_more t t2 0 (t.open_calls ++ e ∷ []) (ap (λ (z : Tenant). z.copied) k.after) had (ap (λ (z : Tenant). journal z) k.after) (ap (λ (z : Tenant). charges_in (journal z)) k.after ∙ asked_none t e refl)

pub invoke_fits : (w w2 : World) (id : InstId) (name : List ℕ) (given : List ℤ) (fuel : ℕ) (answer : InvokeAnswer) (total : ℕ) → HasCopiedEnded w → IsInvoke w id name given fuel answer w2 → FitsBook w total → FitsBook w2 total
invoke_fits w w2 id name given fuel answer total had (is_invoked {t = t} {t2 = t2} live is takes) f = fits_still w w2 total (taken_by_one w id.number 0 t t2 w.space live.0 (takes_none takes (had id.number t live.0))) f
invoke_fits w w2 id name given fuel answer total had (has_no_instance none) f = f
invoke_fits w w2 id name given fuel answer total had (isnt_invoked live is first) f = f
invoke_fits w w2 id name given fuel answer total had (no_memory_to_invoke live is none) f = f

refuels_none : {t : Tenant} {n : ℕ} {t2 : Tenant} → Refuels t n t2 → t.copied ≤ length t.ended → charges_in (own_calls t2) ≡ charges_in (own_calls t) + 0
refuels_none {t = t} {n = n} {t2 = t2} (has_more {e = e} {es = es} there stands) had =
    let same : (more_fuel e n).call.charges ≡ e.call.charges = refl in
    own_spent 0 t t2 (spends_on 0 t t2 e (more_fuel e n) es es there refl (omega (arith, same)) refl) refl had

pub refuel_fits : (w w2 : World) (id : InstId) (n : ℕ) (answer : CallAnswer) (total : ℕ) → HasCopiedEnded w → IsRefuel w id n answer w2 → FitsBook w total → FitsBook w2 total
refuel_fits w w2 id n answer total had (is_refueled {t = t} {t2 = t2} live has) f = fits_still w w2 total (taken_by_one w id.number 0 t t2 w.space live.0 (refuels_none has (had id.number t live.0))) f
refuel_fits w w2 id n answer total had (no_one_to_refuel none) f = f
refuel_fits w w2 id n answer total had (no_call_to_refuel live none) f = f

cancels_none : {s s2 : Space} {t t2 : Tenant} → Cancels s t s2 t2 → t.copied ≤ length t.ended → charges_in (own_calls t2) ≡ charges_in (own_calls t) + 0
cancels_none {t = t} {t2 = t2} (calls.ends {e = e} {es = es} there stands pins closes) had =
    let f : Entry = record e { call = record e.call { outcome = cancelled } } in
    let same : f.call.charges ≡ e.call.charges = refl in
    own_spent 0 t t2 (spends_closed 0 t t2 e f es there closes (omega (arith, same))) (closed_copied closes) had

pub cancel_fits : (w w2 : World) (id : InstId) (answer : CallAnswer) (total : ℕ) → HasCopiedEnded w → IsCancel w id answer w2 → FitsBook w total → FitsBook w2 total
cancel_fits w w2 id answer total had (is_cancelled {t = t} {t2 = t2} {s2 = s2} live has) f = fits_still w w2 total (taken_by_one w id.number 0 t t2 s2 live.0 (cancels_none has (had id.number t live.0))) f
cancel_fits w w2 id answer total had (no_one_to_cancel none) f = f
cancel_fits w w2 id answer total had (no_call_to_cancel live none) f = f

retries_none : {t t2 : Tenant} → Retries t t2 → charges_in (own_calls t2) ≡ charges_in (own_calls t) + 0
retries_none (may_try there stands) = omega arith

pub retry_fits : (w w2 : World) (id : InstId) (answer : CallAnswer) (total : ℕ) → IsRetry w id answer w2 → FitsBook w total → FitsBook w2 total
retry_fits w w2 id answer total (is_retried {t = t} {t2 = t2} live has) f = fits_still w w2 total (taken_by_one w id.number 0 t t2 w.space live.0 (retries_none has)) f
retry_fits w w2 id answer total (no_one_to_retry none) f = f
retry_fits w w2 id answer total (no_fault_to_retry live none) f = f

pub release_fits : (w w2 : World) (id : InstId) (answer : Option (List ℕ)) (total : ℕ) → IsRelease w id answer w2 → FitsBook w total → FitsBook w2 total
release_fits w w2 id answer total (is_released {t = t} live l) f = subst (λ z. FitsBook z total) (sym l.after) (fits_gone w id.number total t l.space live.0 f)
release_fits w w2 id answer total (no_one_to_release none) f = f

-- a copy has taken none: all its calls were copied
fork_fits_new : (w w2 : World) (t : Tenant) (q : Quota) (place number total : ℕ) → Forks w t q place number w2 → FitsBook w total → FitsBook w2 total
fork_fits_new w w2 t q place number total f fits =
    subst (λ z. FitsBook z total) (sym f.after) (fits_new w _ f.space total (copy_has_none t.ended t.open_calls (none_open t.open_calls (f.no_fault call_open))) fits) where
      none_open : (es : List Entry) → ¬ (es ≢ []) → es ≡ []
      none_open [] some = refl
      none_open (e ∷ es) some = absurd (some (λ bad. cc bad))

pub fork_fits : (w w2 : World) (id : InstId) (q : Quota) (answer : ForkAnswer) (total : ℕ) → IsFork w id q answer w2 → FitsBook w total → FitsBook w2 total
fork_fits w w2 id q answer total (is_forked {t = t} {new = new} live f) fits = fork_fits_new w w2 t q new.place new.number total f fits
fork_fits w w2 id q answer total (no_one_to_fork none) fits = fits
fork_fits w w2 id q answer total (isnt_forked live first) fits = fits
fork_fits w w2 id q answer total (no_memory_to_fork live none) fits = fits

-- ---- pages

pub moves_fit : (w w2 : World) (total : ℕ) → OnlyMoves w w2 → FitsBook w total → FitsBook w2 total
moves_fit w w2 total m f = subst (λ z. FitsBook z total) (sym m.2) (record { least = f.least; whole = f.whole })

pub misread_fits : (w w2 : World) (total : ℕ) → IsMisread w w2 → FitsBook w total → FitsBook w2 total
misread_fits w w2 total m f = subst (λ z. FitsBook z total) (sym m.2) (record { least = f.least; whole = f.whole })

pub pages_fit : (w w2 : World) (id : InstId) (awaits : Tenant → Type 0) (fault : Option SwapError) (total : ℕ) → MovesPages w id awaits fault w2 → FitsBook w total → FitsBook w2 total
pages_fit w w2 id awaits fault total (moved alone none) f = record { least = f.least; whole = f.whole }
pages_fit w w2 id awaits fault total (has_failed {t = t} {e = e} {s2 = s2} alone is live waits) f =
    fits_still w w2 total (taken_by_one w id.number 0 t (record t { waiting_for = Some (for_device e) }) s2 live.0 (omega arith)) f
