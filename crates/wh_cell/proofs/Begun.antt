-- A cell begins in step.
use Rattle.std.proofs.Common.{◌≡◌, ℕ, List, [], Option, Some, replicate, refl, sym, ap, subst, ◌∙◌}
use Rattle.std.specs.List.{sum_by}
use Rattle.wh_space_model.specs.declared.Tax.{Tax}
use Rattle.wh_space_model.specs.declared.plain.SwapError.{SwapError}
use Rattle.wh_host_model.specs.Host.{Tenant}
use Rattle.wh_space_model.specs.{Errand, Pass, pass_of, Space}
use Rattle.wh_reclaim.specs.Together.{AreTogether}
use Rattle.wh_reclaim.proofs.Together.{new_together}
use Rattle.wh_host.specs.Hosting.{HostState, IsNewHost}
use Rattle.wh_host.specs.Showing.{RepresentsReached}
use Rattle.wh_cell.specs.Charging.{charges_by}
use Rattle.wh_cell.specs.Knowing.{KnownState, NoneOut, backs, known_of}
use Rattle.wh_cell.specs.LeftByOwner.{ComesFrom, FitsHost, HasNoCharge, LeftState, left_as}
use Rattle.wh_cell.specs.Locking.{IsInStep, IsKept, LockedState}
use Rattle.wh_cell.proofs.Asked.{fits_nothing}
use Rattle.wh_cell.proofs.Followed.{left_now}
use Rattle.wh_cell.proofs.Passing.{none_there}

-- what lies under the device's lock
pub begun_kept : {D B : Type 0} (device : D) (page : B) (keeper : KnownState D) (s : Space) (held : List (List ℕ)) → AreTogether s held → keeper ≡ known_of (backs s device) → IsKept device (Some page) keeper
begun_kept {D} device page keeper s held together is =
    let out : keeper.out ≡ (pass_of s).out = ap (λ (k : KnownState D). k.out) is in
    record {
      knows = is ∙ ap (λ (z : List (Option Errand)). (let k : KnownState D = record { device = Some device; out = z } in k)) (sym out);
      none = subst NoneOut (sym out) (none_there s.slots.uses together.none_out);
      page = page;
      has = refl;
    }

pub begun_in_step : {D : Type 0} (held : D → List (List ℕ)) (keeps honest : D → Type 0) (faults : D → List SwapError) (l : LockedState D) (device : D) → HasNoCharge l.host → AreTogether l.host.space (held device)
    → (honest device → RepresentsReached l.host) → l.books.charges ≡ 0 → l.known ≡ known_of (backs l.host.space device) → l.left ≡ record { host = l.host; device = l.known.device } → IsInStep held keeps honest faults l
begun_in_step {D} held keeps honest faults l device none together led zero known is =
    let has : l.known.device ≡ Some device = ap (λ (k : KnownState D). k.device) known in
    let left : l.left ≡ left_as l.host device = is ∙ ap (λ (x : Option D). (let z : LeftState D = record { host = l.host; device = x } in z)) has in
    record {
      some = (none.0, none.1);
      fits = subst (FitsHost l.host) (sym zero) (fits_nothing l.host none);
      device = device;
      agrees = record {
        has = has;
        pass = ap (λ (z : List (List ℕ)). (let p : Pass = record { held = z; out = (pass_of l.host.space).out } in p)) together.agrees
            ∙ ap (λ (k : KnownState D). (let p : Pass = record { held = held device; out = k.out } in p)) (sym known);
      };
      led = led;
      came = subst (λ z. ComesFrom keeps honest faults z device l.host) (sym left) (left_now keeps honest faults l.host device);
    }

pub begins_as : {D : Type 0} (h h2 : HostState) (d d2 : D) → h ≡ h2 → d ≡ d2 → known_of (backs h.space d) ≡ known_of (backs h2.space d2)
begins_as h h2 d d2 a b = ap (λ (z : HostState). known_of (backs z.space d)) a ∙ ap (λ z. known_of (backs h2.space z)) b

pub leaves_as : {D : Type 0} (h h2 : HostState) (k k2 : KnownState D) (left : LeftState D) → left ≡ record { host = h; device = k.device } → h ≡ h2 → k ≡ k2 → left ≡ record { host = h2; device = k2.device }
leaves_as {D} h h2 k k2 left is a b =
    is ∙ ap (λ z. (let l : LeftState D = record { host = z; device = k.device } in l)) a ∙ ap (λ (z : KnownState D). (let l : LeftState D = record { host = h2; device = z.device } in l)) b

-- ---- a new host

pub new_uncharged : (h : HostState) (frames slots : ℕ) (tax : Tax) → IsNewHost h frames slots tax → HasNoCharge h
new_uncharged h frames slots tax new = (new.0, new.1, ap (λ (ts : List (Option Tenant)). sum_by charges_by ts) new.4)

pub new_agrees : (h : HostState) (frames slots : ℕ) (tax : Tax) → IsNewHost h frames slots tax → AreTogether h.space (replicate slots [])
new_agrees h frames slots tax new = subst (λ s. AreTogether s (replicate slots [])) (sym new.1.space) (new_together new.0.space frames slots tax new.5)

pub new_led : (h : HostState) (frames slots : ℕ) (tax : Tax) → IsNewHost h frames slots tax → RepresentsReached h
new_led h frames slots tax new = (new.0, new.1, new.2)
