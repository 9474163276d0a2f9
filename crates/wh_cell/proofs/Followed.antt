-- A host goes on from how its owner left it, and the book still fits it.
use Rattle.std.proofs.Common.{◌≡◌, ℕ, List, [], ◌++◌, Option, refl, sym, subst, ◌∙◌}
use Rattle.std.proofs.lemmas.Option.{same_Some}
use Rattle.std.specs.Prelude.{Result, Ok, Err}
use Rattle.wh_space_model.specs.declared.plain.InstId.{InstId}
use Rattle.wh_space_model.specs.declared.plain.SwapError.{SwapError}
use Rattle.wh_host_model.specs.declared.plain.TurnEnd.{TurnEnd}
use Rattle.wh_space_model.specs.{Space}
use Rattle.wh_host_model.specs.Host.{Tenant, World, Event, evict_commit, fetch_commit, offer, provide, turn, AwaitsFrame, AwaitsFrameFor, by_event, by_misreading}
use Rattle.wh_swap.specs.DeviceCalls.{ServesOn, call_faults}
use Rattle.wh_reclaim.specs.Whole.{IsAsWhole}
use Rattle.wh_reclaim.proofs.DeviceCalls.{serves_still, serves_then}
use Rattle.wh_host.specs.Backing.{KeepsBacking}
use Rattle.wh_host.specs.Hosting.{HostState, IsHost}
use Rattle.wh_host.specs.Paging.{MovesAnyhow, MovesOnly, MovesWith, provide_fault}
use Rattle.wh_cell.specs.Going.{IsPartOf, TurnsIfGoing, WorksTo, fault_or_none, has_none, has_turn}
use Rattle.wh_cell.specs.Owning.{ComesOn}
use Rattle.wh_cell.specs.LeftByOwner.{ComesFrom, FitsHost, LeftState, WorksOn, WorksAnyhowOn, left_as}
use Rattle.wh_cell.proofs.Alike.{fits_on}
use Rattle.wh_cell.proofs.Going.{anyhow_where_right, works_anyhow_by, works_anyhow_on, works_anyhow_to_itself, works_by, works_on, works_to_itself, works_within}
use Rattle.wh_cell.proofs.Requested.{misread_fits, moves_fit, pages_fit}

-- ---- work

works_by_one : (w w2 : World) (id : InstId) (q : ℕ) (answer : TurnEnd) → TurnsIfGoing w id q answer w2 → WorksTo w [] w2
works_by_one w w2 id q answer (has_turn goes turns) = works_by w w2 (turn id q) goes (answer, turns)
works_by_one w w2 id q answer (has_none rests) = works_to_itself w

pub works_by_turn : (h h2 : HostState) (id : InstId) (q : ℕ) (answer : TurnEnd) → ((w : World) → IsHost h w → (w2 : World) × TurnsIfGoing w id q answer w2 × IsHost h2 w2)
    → WorksOn h [] h2
works_by_turn h h2 id q answer turns w st = let x = turns w st in (x.0, works_by_one w x.0 id q answer x.1, x.2)

-- some page is offered
abbrev some_offer : Event
some_offer = offer (record { id = record { place = 0; number = 0 }; page = 0 }) 0

pub works_by_moves : (h h2 : HostState) → MovesOnly h h2 → WorksOn h [] h2
works_by_moves h h2 moves w st = let x = moves w st in (x.0, works_by w x.0 some_offer tt x.1, x.2)

pub works_by_provision : (h h2 : HostState) (id : InstId) (fault : Option SwapError) → MovesWith h id AwaitsFrame fault h2 → WorksOn h (fault_or_none fault) h2
works_by_provision h h2 id fault moves w st = let x = moves w st in (x.0, works_by w x.0 (provide id fault) tt x.1, x.2)

pub works_anyhow_by_provision : (h h2 : HostState) (id : InstId) (fault : Option SwapError) → MovesAnyhow h id AwaitsFrame fault h2 → WorksAnyhowOn h h2
works_anyhow_by_provision h h2 id fault moves w st =
    let x = moves w st in
    let read = works_anyhow_by w x.0 by_misreading tt x.2 in
    let then = works_anyhow_by x.0 x.1 (by_event (provide id fault)) tt x.3 in
    (x.1, works_anyhow_on w x.0 x.1 read then, x.4)

-- a page that was to leave, or to come, has its ticket back
pub works_by_eviction : (h h2 : HostState) (id : InstId) (call : ℕ) (fault : Option SwapError) (faults : List SwapError) → IsPartOf (fault_or_none fault) faults
    → MovesWith h id (AwaitsFrameFor call) fault h2 → WorksOn h faults h2
works_by_eviction h h2 id call fault faults part moves w st = let x = moves w st in (x.0, works_within w x.0 (evict_commit id call fault) faults tt part x.1, x.2)

pub works_anyhow_by_eviction : (h h2 : HostState) (id : InstId) (call : ℕ) (fault : Option SwapError) → MovesWith h id (AwaitsFrameFor call) fault h2 → WorksAnyhowOn h h2
works_anyhow_by_eviction h h2 id call fault moves w st = let x = moves w st in (x.0, works_anyhow_by w x.0 (by_event (evict_commit id call fault)) tt x.1, x.2)

pub works_by_fetch : (h h2 : HostState) (id : InstId) (call : ℕ) (fault : Option SwapError) (faults : List SwapError) → IsPartOf (fault_or_none fault) faults
    → MovesWith h id (AwaitsFrameFor call) fault h2 → WorksOn h faults h2
works_by_fetch h h2 id call fault faults part moves w st = let x = moves w st in (x.0, works_within w x.0 (fetch_commit id call fault) faults tt part x.1, x.2)

pub works_anyhow_by_fetch : (h h2 : HostState) (id : InstId) (call : ℕ) (fault : Option SwapError) → MovesAnyhow h id (AwaitsFrameFor call) fault h2 → WorksAnyhowOn h h2
works_anyhow_by_fetch h h2 id call fault moves w st =
    let x = moves w st in
    let read = works_anyhow_by w x.0 by_misreading tt x.2 in
    let then = works_anyhow_by x.0 x.1 (by_event (fetch_commit id call fault)) tt x.3 in
    (x.1, works_anyhow_on w x.0 x.1 read then, x.4)

-- ---- as many frames and slots

pub whole_still : (s : Space) → IsAsWhole s s
whole_still s = record { frames = refl; slots = refl; tax = refl }

pub whole_then : (s s2 s3 : Space) → IsAsWhole s s2 → IsAsWhole s2 s3 → IsAsWhole s s3
whole_then s s2 s3 a b = record { frames = b.frames ∙ a.frames; slots = b.slots ∙ a.slots; tax = b.tax ∙ a.tax }

pub keeps_whole : (s s2 : Space) → KeepsBacking s s2 → IsAsWhole s s2
keeps_whole s s2 k = record {
  frames = k.frames;
  slots = k.slots;
  tax = k.tax;
}

-- ---- how it was left

provided_faults : (result : Result ℕ SwapError) → call_faults result ≡ fault_or_none (provide_fault result)
provided_faults (Ok left) = refl
provided_faults (Err fault) = refl

module _ {D : Type 0} (keeps honest : D → Type 0) (faults : D → List SwapError) where
  pub left_now : (h : HostState) (d : D) → ComesFrom keeps honest faults (left_as h d) d h
  left_now h d = record {
    before = d;
    left_it = refl;
    more = [];
    serves = serves_still keeps honest faults d;
    right = λ is w st. (w, works_to_itself w, st);
    anyhow = λ w st. (w, works_anyhow_to_itself w, st);
    whole = whole_still h.space;
  }

  -- calls of the device may have failed, and it may have read other bytes
  pub comes_on_by : (left : LeftState D) (d d2 : D) (more : List SwapError) (h h2 : HostState) → ComesFrom keeps honest faults left d h
      → ServesOn keeps honest faults d more d2 → (honest d2 → WorksOn h more h2) → WorksAnyhowOn h h2 → IsAsWhole h.space h2.space
      → ComesFrom keeps honest faults left d2 h2
  comes_on_by left d d2 more h h2 c serves right anyhow whole = record {
    before = c.before;
    left_it = c.left_it;
    more = more ++ c.more;
    serves = serves_then keeps honest faults c.before d d2 c.more more c.serves serves;
    right = λ is w st. (
        let a = c.right (serves.was_honest is) w st in
        let b = right is a.0 a.2 in
        (b.0, works_on w a.0 b.0 c.more more a.1 b.1, b.2));
    anyhow = λ w st. (
        let a = c.anyhow w st in
        let b = anyhow a.0 a.2 in
        (b.0, works_anyhow_on w a.0 b.0 a.1 b.1, b.2));
    whole = whole_then left.host.space h.space h2.space c.whole whole;
  }

  -- the device was left alone
  pub comes_on_alone : (left : LeftState D) (d : D) (h h2 : HostState) → ComesFrom keeps honest faults left d h → WorksOn h [] h2 → IsAsWhole h.space h2.space
      → ComesFrom keeps honest faults left d h2
  comes_on_alone left d h h2 c works whole =
      comes_on_by left d d [] h h2 c (serves_still keeps honest faults d) (λ is. works) (λ w st. (let x = works w st in (x.0, anyhow_where_right w x.0 [] x.1, x.2))) whole

  pub comes_on_still : (left : LeftState D) (d : D) (h h2 : HostState) → ComesFrom keeps honest faults left d h → WorksOn h [] h2 → KeepsBacking h.space h2.space
      → ComesFrom keeps honest faults left d h2
  comes_on_still left d h h2 c works backing = comes_on_alone left d h h2 c works (keeps_whole h.space h2.space backing)

  pub comes_on_provided : (left : LeftState D) (d d2 : D) (h h2 : HostState) (id : InstId) (result : Result ℕ SwapError) → ComesFrom keeps honest faults left d h
      → ServesOn keeps honest faults d (call_faults result) d2
      → (honest d2 → MovesWith h id AwaitsFrame (provide_fault result) h2) → MovesAnyhow h id AwaitsFrame (provide_fault result) h2
      → IsAsWhole h.space h2.space → ComesFrom keeps honest faults left d2 h2
  comes_on_provided left d d2 h h2 id result c serves moves anyhow whole =
      let fault = provide_fault result in
      comes_on_by left d d2 (fault_or_none fault) h h2 c (subst (λ more. ServesOn keeps honest faults d more d2) (provided_faults result) serves)
      (λ is. works_by_provision h h2 id fault (moves is)) (works_anyhow_by_provision h h2 id fault anyhow) whole

  -- it came on, and came on again
  pub comes_then : (left mid now : LeftState D) → ComesOn keeps honest faults left mid → ComesOn keeps honest faults mid now
      → ComesOn keeps honest faults left now
  comes_then left mid now first next =
      let same = same_Some next.came.before first.device (sym next.came.left_it ∙ first.has) in
      record {
        device = next.device;
        has = next.has;
        came = comes_on_by left first.device next.device next.came.more mid.host now.host first.came
            (subst (λ d. ServesOn keeps honest faults d next.came.more next.device) same next.came.serves) next.came.right next.came.anyhow
            next.came.whole;
      }

-- ---- the book

pub fits_moved : (h h2 : HostState) (total : ℕ) → (w : World) × IsHost h w → FitsHost h total → MovesOnly h h2 → FitsHost h2 total
fits_moved h h2 total some f moves =
    let x = moves some.0 some.1 in
    fits_on h h2 some.0 total total some.1 f (x.0, x.2, moves_fit some.0 x.0 total x.1)

pub fits_carried : (h h2 : HostState) (total : ℕ) (id : InstId) (awaits : Tenant → Type 0) (fault : Option SwapError) → (w : World) × IsHost h w → FitsHost h total → MovesWith h id awaits fault h2 → FitsHost h2 total
fits_carried h h2 total id awaits fault some f moves =
    let x = moves some.0 some.1 in
    fits_on h h2 some.0 total total some.1 f (x.0, x.2, λ b. pages_fit some.0 x.0 id awaits fault total x.1 b)

pub fits_anyhow : (h h2 : HostState) (total : ℕ) (id : InstId) (awaits : Tenant → Type 0) (fault : Option SwapError) → (w : World) × IsHost h w → FitsHost h total → MovesAnyhow h id awaits fault h2 → FitsHost h2 total
fits_anyhow h h2 total id awaits fault some f moves =
    let x = moves some.0 some.1 in
    fits_on h h2 some.0 total total some.1 f (x.1, x.4, λ b. pages_fit x.0 x.1 id awaits fault total x.3 (misread_fits some.0 x.0 total x.2 b))
