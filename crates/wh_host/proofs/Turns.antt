-- A turn over what is lent is a turn of the host's definitions.
use Rattle.std.proofs.Common.{◌≡◌, ◌≢◌, ℕ, zero, suc, ◌+◌, ◌≤◌, ⊎_elim, Bool, true, false, List, [], ◌∷◌, Option, Some, None, min, get_or, slice_get, refl, sym, ap, subst, ◌∙◌, arith}
use Rattle.std.specs.Bool.{MatchBool}
use Rattle.std.proofs.Math.Nat.{min-eq_left}
use Rattle.wh_model.specs.declared.memory.Need.{Need}
use Rattle.wh_host_model.specs.declared.plain.TurnEnd.{TurnEnd}
use Rattle.wh_host_model.specs.declared.plain.TurnEnd.TheVariants as answer
use Rattle.wh_space_model.specs.{Space, Claimed, Occupant, claim, claim_of, occupant_at, view, MayWaitFor, IsSound, ended, stood}
use Rattle.wh_space_model.specs.Ready.{Ready}
use Rattle.wh_host_model.specs.Host.{StepsAlone, WaitsAlone, PinsEndAfter, Rest, Doing, Suspension, Tenant, for_fuel, store_with, Proceeds, Upshot, to_end, out_of_fuel, to_wait, to_go_on, gone_further, gone_on, at_frame, KeepsNoFault, ended_by, Closes, faces_next, is_dead, ProceedsIn, Turn, is_idle, has_ended, has_no_fuel, has_no_frame, can_go_on, keeps_its_fault}
use Rattle.wh_model.specs.Execution.{Asks, config, IsNext}
use Rattle.wh_host_model.specs.{Entry}
use Rattle.wh_host_model.proofs.Host.Leaving.{left_then}
use Rattle.wh_host_model.proofs.Host.Bridges.{ends_well, waits_well}
use Rattle.wh_space_model.proofs.Reading.{view_length}
use Rattle.wh_imports.specs.LinkedState.{LinkedState}
use Rattle.wh_machine.specs.MachineRuns.{linked_parts}
use Rattle.wh_machine.specs.CallStates.{Setting, setting_of}
use Rattle.wh_instance.specs.declared.stages.TurnResult.{TurnResult}
use Rattle.wh_instance.specs.declared.stages.TurnResult.TheVariants as turned
use Rattle.wh_instance.specs.Advancing.{IsInMemory, KeepsItsFault, LeavesTenant, TurnsAny, TurnsTenant}
use Rattle.wh_instance.specs.Tenancy.{HostInstanceState, RepresentsTenant, IsTenant}
use Rattle.wh_space.specs.declared.view.View.{View}
use Rattle.wh_space.specs.Steps.{limit_by, page_limit}
use Rattle.wh_space.specs.StepViews.{keeps_all}
use Rattle.wh_host.specs.Lying.{LiesAt}
use Rattle.wh_host.specs.Lent.{MayWaitAt, TurnsTo, TurnsLent}
use Rattle.wh_host.proofs.Lending.{proceeds_lent}
use Rattle.wh_host.proofs.Spending.{spends_closed, spends_further, spends_none, within_turn}
use Rattle.wh_host.proofs.Viewing.{KeepsView, ViewReady, lent, represents_over, steps_alone, view_bytes}

-- ---- places

pub claimed_there : (s : Space) (i : ℕ) (c : Claimed) → claim s i ≡ Some c → (t : Occupant) × occupant_at s i t × (t.live ≡ true)
claimed_there s i c e = rows s.occupants i e where
  live : (t : Occupant) (b : Bool) → t.live ≡ b → claim_of (Some t) ≡ Some c → t.live ≡ true
  live t true is e = is
  live t false is e = absurd (let z : claim_of (Some t) ≡ None = rw is refl in let bad : None ≡ Some c = sym z ∙ e in cc bad)

  rows : (xs : List (Option Occupant)) (i : ℕ) → claim_of (get_or xs i None) ≡ Some c → (t : Occupant) × (slice_get xs i ≡ Some (Some t)) × (t.live ≡ true)
  rows [] i e = absurd (let bad : None ≡ Some c = e in cc bad)
  rows (None ∷ xs) zero e = absurd (let bad : None ≡ Some c = e in cc bad)
  rows (Some t ∷ xs) zero e = (t, refl, live t t.live refl e)
  rows (x ∷ xs) (suc i) e = rows xs i e

-- ---- where a turn leaves the memory

-- its step was taken, and it is blocked on nothing, or on these bytes; and where none was taken
stands_on : (i : ℕ) (first second : Option Need) (a b c : Space) → WaitsAlone i first a b → WaitsAlone i second b c → WaitsAlone i second a c
stands_on i first second a b c ab bc = record {
  steps = record {
    others = λ j other. left_then (ab.steps.others j other) (bc.steps.others j other);
    places = λ j other. bc.steps.places j other ∙ ab.steps.places j other;
    claim = bc.steps.claim ∙ ab.steps.claim;
    sound = bc.steps.sound;
  };
  view = bc.view ∙ ab.view;
  wants = bc.wants;
  ready = λ need. let h = bc.ready need in let k = ab.ready need in (λ r. k.0 (h.0 r), λ r. h.1 (k.1 r));
}

-- so a turn may leave the memory: standing for these bytes, or none, its pins ended where a step was taken
pub record Leaves (i : ℕ) (stands : Option Need) (steps : ℕ) (s s2 : Space) : Type 0 where
  pub alone : WaitsAlone i stands s s2
  pub pins : PinsEndAfter steps s2 i

pub ends_here : (s : Space) (i : ℕ) (c : Claimed) (steps : ℕ) → IsSound s → claim s i ≡ Some c → Leaves i None steps s (ended s i)
ends_here s i c steps sound at =
    let o = claimed_there s i c at in
    let h = ends_well s i o.0 sound o.1 o.2 in
    record { alone = h.0; pins = λ some. h.1 }

no_need : (s : Space) (i : ℕ) (t : Occupant) (want : Need) → None ≡ Some want → MayWaitFor s i t want
no_need s i t want e = absurd (cc e)

-- no step was taken
pub stays_here : (s : Space) (i : ℕ) (c : Claimed) (steps : ℕ) → IsSound s → claim s i ≡ Some c → steps ≡ 0 → Leaves i None steps s (stood s i None)
stays_here s i c steps sound at none =
    let o = claimed_there s i c at in
    record { alone = waits_well s i o.0 None sound o.1 o.2 (no_need s i o.0); pins = λ some. absurd (omega (arith, none, some)) }

-- the bytes lie in the memory
may_stand : (s : Space) (i : ℕ) (o : Occupant) (need : Need) → IsSound s → o.live ≡ true → IsInMemory (view s i) need → (want : Need) → Some need ≡ Some want → MayWaitFor s i o want
may_stand s i o need sound live lies want e =
    let same : need ≡ want = cc e in
    subst (MayWaitFor s i o) same (live, subst (λ n. need.at + need.length ≤ n) (view_length s i sound) lies.0, lies.1)

pub waits_here : (s : Space) (i : ℕ) (c : Claimed) (need : Need) (steps : ℕ) → IsSound s → claim s i ≡ Some c → IsInMemory (view s i) need → steps ≡ 0 → Leaves i (Some need) steps s (stood s i (Some need))
waits_here s i c need steps sound at lies none =
    let o = claimed_there s i c at in
    record { alone = waits_well s i o.0 (Some need) sound o.1 o.2 (may_stand s i o.0 need sound o.2 lies); pins = λ some. absurd (omega (arith, none, some)) }

pub waits_then : (s : Space) (i : ℕ) (c : Claimed) (need : Need) (steps : ℕ) → IsSound s → claim s i ≡ Some c → IsInMemory (view s i) need → Leaves i (Some need) steps s (stood (ended s i) i (Some need))
waits_then s i c need steps sound at lies =
    let o = claimed_there s i c at in
    let h = ends_well s i o.0 sound o.1 o.2 in
    let mid : Space = ended s i in
    let o2 = claimed_there mid i c (h.0.steps.claim ∙ at) in
    let there : IsInMemory (view mid i) need = subst (λ b. IsInMemory b need) (sym h.0.view) lies in
    let k = waits_well mid i o2.0 (Some need) h.0.steps.sound o2.1 o2.2 (may_stand mid i o2.0 need h.0.steps.sound o2.2 there) in
    record { alone = stands_on i None (Some need) s mid (stood mid i (Some need)) h.0 k; pins = λ some. h.1 }

-- ---- a turn

-- a call that is closed leaves the place
closed_place : (s : Space) (t : Tenant) (e : Entry) (es : List Entry) (r : Rest) (t2 : Tenant) → Closes s t e es r t2 → t2.place ≡ t.place
closed_place s t e es r t2 (faces_next alive faces) = refl
closed_place s t e es r t2 (is_dead died) = refl

pub idle_turn : (l : LinkedState) (limit q : ℕ) (x : HostInstanceState) (s : Space) (place : ℕ) (t : Tenant) → LiesAt l limit x s place t → t.open_calls ≡ [] → TurnsTo l limit q s t answer.Idle 0 place x s
idle_turn l limit q x s place t lies none = (omega arith, t, is_idle none, spends_none 0 t refl, lies)

-- the setting in which the memory is lent
abbrev pub lent_setting : LinkedState → View → Setting View
lent_setting l v = setting_of l view_bytes ViewReady KeepsView (min v.page_limit (page_limit v.memory.now v.place))

-- it is that instance over what is lent
pub lent_open : (l : LinkedState) (x : HostInstanceState) (v : View) (t : Tenant) → LiesAt l v.page_limit x v.memory.now v.place t → RepresentsTenant (lent_setting l v) x v t
lent_open l x v t lies =
    let least : min v.page_limit (page_limit v.memory.now v.place) ≡ v.page_limit = min-eq_left lies.within in
    represents_over (linked_parts l) (min v.page_limit (page_limit v.memory.now v.place)) (λ b. b) (λ b need. Unit {0}) (λ b b2. Unit {0}) view_bytes ViewReady KeepsView (view_bytes v) v refl x t (subst (λ n. IsTenant l n x (view_bytes v) t) (sym least) lies.is)

-- What is known of a turn over a memory that shows what the instance at a place has of the whole: what it sees and what is ready
-- are that of the whole, which has changed by its steps alone, and so is what the turn comes to.
pub record Shown {M : Type 0} (w : Setting M) (l : LinkedState) (limit q : ℕ) (x x2 : HostInstanceState) (m m2 : M) (s s2 : Space) (place : ℕ) (t : Tenant) (made : TurnResult) (taken : ℕ) : Type 0 where
  pub lies : LiesAt l limit x s place t
  pub steps : StepsAlone place s s2
  pub sees : w.bytes m ≡ view s place
  pub sees2 : w.bytes m2 ≡ view s2 place
  pub ready : (need : Need) → w.ready m need → Ready s place need
  pub same : m2 ≡ m → s2 ≡ s
  pub by_bytes : (t2 : Tenant) → RepresentsTenant w x2 m2 t2 → IsTenant l limit x2 (view s2 place) t2
  pub turns : (e : Entry) (es : List Entry) → t.open_calls ≡ e ∷ es → (is : TurnsTenant w q m t e es made taken x2 m2) × ProceedsIn q s t e is.to is.pieces taken s2 is.rest is.doing

module _ {M : Type 0} (w : Setting M) (l : LinkedState) (limit q : ℕ) (x x2 : HostInstanceState) (m m2 : M) (s s2 : Space) (place : ℕ) (t : Tenant) (made : TurnResult) (taken : ℕ) (h : Shown w l limit q x x2 m m2 s s2 place t made taken) where
  claim2 : claim s2 place ≡ Some h.lies.claimed
  claim2 = h.steps.claim ∙ h.lies.claim_is

  lies_then : (stands : Option Need) (n : ℕ) (s3 : Space) (t2 : Tenant) → Leaves place stands n s2 s3 → t2.place ≡ place → RepresentsTenant w x2 m2 t2 → LiesAt l limit x2 s3 place t2
  lies_then stands n s3 t2 leaves at rep = record {
    place_is = at;
    is = subst (λ b. IsTenant l limit x2 b t2) (sym leaves.alone.view) (h.by_bytes t2 rep);
    within = subst (λ (c : Option Claimed). limit ≤ limit_by c) (sym (leaves.alone.steps.claim ∙ h.steps.claim)) h.lies.within;
    claimed = h.lies.claimed;
    claim_is = leaves.alone.steps.claim ∙ claim2;
  }

  stands_nowhere : MayWaitAt s2 place None
  stands_nowhere =
      let o = claimed_there s2 place h.lies.claimed claim2 in
      record { there = (o.0, o.1, o.2); within = λ want e. absurd (cc e); few = λ want e. absurd (cc e) }

  stands_there : (z : Space) → IsSound z → claim z place ≡ Some h.lies.claimed → (need : Need) → IsInMemory (view z place) need → MayWaitAt z place (Some need)
  stands_there z sound at need lies =
      let o = claimed_there z place h.lies.claimed at in
      let may = may_stand z place o.0 need sound o.2 lies in
      record { there = (o.0, o.1, o.2); within = λ want e. (may want e).1; few = λ want e. (may want e).2 }

  -- the call has gone further, and the instance is blocked on these bytes, or none
  gone_to : (e : Entry) (es : List Entry) (k : ℕ) (r : Rest) (d : Doing) (o : Option Suspension) (stands : Option Need) (end : TurnEnd) (s3 : Space) → t.open_calls ≡ e ∷ es → taken ≤ q → Leaves place stands (k + taken) s2 s3
      → (WaitsAlone t.place stands s2 s3 → PinsEndAfter (k + taken) s3 t.place → Turn q s t end s3 (gone_on t (gone_further e k taken) es r d o)) → RepresentsTenant w x2 m2 (gone_on t (gone_further e k taken) es r d o)
      → TurnsTo l limit q s t end taken place x2 s3
  gone_to e es k r d o stands end s3 is_open few left turns rep =
      let alone = subst (λ i. WaitsAlone i stands s2 s3) (sym h.lies.place_is) left.alone in
      let pins = subst (λ i. PinsEndAfter (k + taken) s3 i) (sym h.lies.place_is) left.pins in
      (few, gone_on t (gone_further e k taken) es r d o, turns alone pins, spends_further t e es k taken r d o is_open, lies_then stands (k + taken) s3 (gone_on t (gone_further e k taken) es r d o) left h.lies.place_is rep)

  -- bytes of its next step aren't ready
  frame_to : (e : Entry) (es : List Entry) (need : Need) (k : ℕ) (r : Rest) (d : Doing) → t.open_calls ≡ e ∷ es → ProceedsIn q s t e (to_wait need) k taken s2 r d → IsInMemory (w.bytes m2) need
      → RepresentsTenant w x2 m2 (gone_on t (gone_further e k taken) es r d (at_frame (k + taken) t.waiting_for)) → (still : Bool) → MatchBool still (k + taken ≡ 0) (¬ (k + taken ≡ 0)) → TurnsLent l limit q s t place x2 s2 (turned.Frame need still) taken
  frame_to e es need k r d is_open goes lies rep true none =
      let there = subst (λ b. IsInMemory b need) h.sees2 lies in
      let left = waits_here s2 place h.lies.claimed need (k + taken) h.steps.sound claim2 there none in
      (stands_there s2 h.steps.sound claim2 need there, gone_to e es k r d (at_frame (k + taken) t.waiting_for) (Some need) answer.Frame (stood s2 place (Some need)) is_open (within_turn e.call goes) left (λ alone pins. has_no_frame is_open goes alone pins) rep)
  frame_to e es need k r d is_open goes lies rep false some =
      let there = subst (λ b. IsInMemory b need) h.sees2 lies in
      let left = waits_then s2 place h.lies.claimed need (k + taken) h.steps.sound claim2 there in
      let o = claimed_there s2 place h.lies.claimed claim2 in
      let ends = ends_well s2 place o.0 h.steps.sound o.1 o.2 in
      let then = stands_there (ended s2 place) ends.0.steps.sound (ends.0.steps.claim ∙ claim2) need (subst (λ b. IsInMemory b need) (sym ends.0.view) there) in
      ((stands_nowhere, then), gone_to e es k r d (at_frame (k + taken) t.waiting_for) (Some need) answer.Frame (stood (ended s2 place) place (Some need)) is_open (within_turn e.call goes) left (λ alone pins. has_no_frame is_open goes alone pins) rep)

  -- it can go on
  again_to : (e : Entry) (es : List Entry) (k : ℕ) (r : Rest) (d : Doing) → t.open_calls ≡ e ∷ es → ProceedsIn q s t e to_go_on k taken s2 r d → KeepsNoFault (k + taken) t.waiting_for
      → RepresentsTenant w x2 m2 (gone_on t (gone_further e k taken) es r d None) → (still : Bool) → MatchBool still (k + taken ≡ 0) (¬ (k + taken ≡ 0)) → TurnsLent l limit q s t place x2 s2 (turned.Again still) taken
  again_to e es k r d is_open goes fault rep true none =
      (stands_nowhere, gone_to e es k r d None None answer.Again (stood s2 place None) is_open (within_turn e.call goes) (stays_here s2 place h.lies.claimed (k + taken) h.steps.sound claim2 none) (λ alone pins. can_go_on is_open goes alone pins fault) rep)
  again_to e es k r d is_open goes fault rep false some =
      (stands_nowhere, gone_to e es k r d None None answer.Again (ended s2 place) is_open (within_turn e.call goes) (ends_here s2 place h.lies.claimed (k + taken) h.steps.sound claim2) (λ alone pins. can_go_on is_open goes alone pins fault) rep)

  -- nothing was done, and a device fault is kept
  kept_to : (e : Entry) (es : List Entry) → t.open_calls ≡ e ∷ es → taken ≤ q → KeepsItsFault w q m t e m2 → RepresentsTenant w x2 m2 t → TurnsTo l limit q s t answer.Again taken place x2 s2
  kept_to e es is_open few f rep =
      let same : s ≡ s2 = sym (h.same f.same) in
      let sees : view s t.place ≡ w.bytes m = ap (view s) h.lies.place_is ∙ sym h.sees in
      let next = subst (λ z. IsNext t.inst (config (store_with z t.rest) [] f.term)) (sym sees) f.next in
      let ready : (need : Need) → Asks t.inst (config (store_with (view s t.place) t.rest) [] f.term) need → Ready s t.place need = λ need asks. subst (λ i. Ready s i need) (sym h.lies.place_is) (h.ready need (f.ready need (subst (λ z. Asks t.inst (config (store_with z t.rest) [] f.term) need) sees asks))) in
      let turn : Turn q s t answer.Again s t = keeps_its_fault is_open f.waiting_for f.doing f.no_charges next f.fuel_left ready in
      let nothing = f.no_charges in (
        few,
        t,
        subst (λ z. Turn q s t answer.Again z t) same turn,
        spends_none taken t (omega (arith, few, nothing)),
        record {
          place_is = h.lies.place_is;
          is = h.by_bytes t rep;
          within = subst (λ (c : Option Claimed). limit ≤ limit_by c) (sym h.steps.claim) h.lies.within;
          claimed = h.lies.claimed;
          claim_is = claim2;
        },
      )

  made_so : (a : TurnResult) → made ≡ a → TurnsLent l limit q s t place x2 s2 a taken → TurnsLent l limit q s t place x2 s2 made taken
  made_so a is comes = subst (λ z. TurnsLent l limit q s t place x2 s2 z taken) (sym is) comes

  comes_to : (e : Entry) (es : List Entry) (to : Upshot) (k : ℕ) (r : Rest) (d : Doing) → t.open_calls ≡ e ∷ es → ProceedsIn q s t e to k taken s2 r d → LeavesTenant w q m t e es k taken r d made x2 m2 to → TurnsLent l limit q s t place x2 s2 made taken
  comes_to e es (to_end o) k r d is_open goes leaves =
      let left = ends_here s2 place h.lies.claimed (k + taken) h.steps.sound claim2 in
      let s3 = ended s2 place in
      let alone = subst (λ i. WaitsAlone i None s2 s3) (sym h.lies.place_is) left.alone in
      let c = leaves.1 s3 (ap (view s3) h.lies.place_is ∙ left.alone.view ∙ sym h.sees2) in
      let e2 = ended_by (gone_further e k taken) o in
      made_so turned.Ended leaves.0 (stands_nowhere, (within_turn e.call goes, c.0, has_ended is_open goes alone (subst (λ i. PinsEndAfter (k + taken) s3 i) (sym h.lies.place_is) left.pins) c.1, spends_closed taken t c.0 e e2 es is_open c.1 refl, lies_then None (k + taken) s3 c.0 left (closed_place s3 t e2 es r c.0 c.1 ∙ h.lies.place_is) c.2))
  comes_to e es out_of_fuel k r d is_open goes leaves =
      made_so turned.Fuel leaves.0 (stands_nowhere, gone_to e es k r d (Some for_fuel) None answer.Fuel (ended s2 place) is_open (within_turn e.call goes) (ends_here s2 place h.lies.claimed (k + taken) h.steps.sound claim2) (λ alone pins. has_no_fuel is_open goes alone pins) leaves.1)
  comes_to e es (to_wait need) k r d is_open goes leaves =
      made_so (turned.Frame need leaves.0.0) leaves.0.1 (frame_to e es need k r d is_open goes leaves.1 leaves.2 leaves.0.0 leaves.0.2)
  comes_to e es to_go_on k r d is_open goes leaves = ⊎_elim
      (λ a. made_so (turned.Again a.0.0) a.0.1 (again_to e es k r d is_open goes a.1 a.2 a.0.0 a.0.2))
      (λ b. made_so turned.Kept b.0 (tt, kept_to e es is_open (within_turn e.call goes) b.1 b.2))
      leaves

  pub shown_turn : t.open_calls ≢ [] → TurnsLent l limit q s t place x2 s2 made taken
  shown_turn some = by_calls t.open_calls refl where
    by_calls : (es : List Entry) → t.open_calls ≡ es → TurnsLent l limit q s t place x2 s2 made taken
    by_calls [] none = absurd (some none)
    by_calls (e ∷ es) is_open =
        let (is, goes) = h.turns e es is_open in
        comes_to e es is.to is.pieces is.rest is.doing is_open goes is.leaves

-- ---- over what is lent

-- what is known of a turn over what is lent
pub record Lending (l : LinkedState) (q : ℕ) (x x2 : HostInstanceState) (v v2 : View) (t : Tenant) (made : TurnResult) (taken : ℕ) : Type 0 where
  pub sound : IsSound v.memory.now
  pub keeps : KeepsView v v2
  pub lies : LiesAt l v.page_limit x v.memory.now v.place t
  pub turns : TurnsAny (lent_setting l v) q x v made taken x2 v2

module _ (l : LinkedState) (q : ℕ) (x x2 : HostInstanceState) (v v2 : View) (t : Tenant) (made : TurnResult) (taken : ℕ) (h : Lending l q x x2 v v2 t made taken) where
  least : min v.page_limit (page_limit v.memory.now v.place) ≡ v.page_limit
  least = min-eq_left h.lies.within

  over_view : RepresentsTenant (lent_setting l v) x v t
  over_view = lent_open l x v t h.lies

  by_bytes : (t2 : Tenant) → RepresentsTenant (lent_setting l v) x2 v2 t2 → IsTenant l v.page_limit x2 (view v2.memory.now v.place) t2
  by_bytes t2 rep =
      let at_all = represents_over (linked_parts l) (min v.page_limit (page_limit v.memory.now v.place)) view_bytes ViewReady KeepsView (λ b. b) (λ b need. Unit {0}) (λ b b2. Unit {0}) v2 (view v2.memory.now v.place) (ap (view v2.memory.now) (sym h.keeps.1)) x2 t2 rep in
      subst (λ n. IsTenant l n x2 (view v2.memory.now v.place) t2) least at_all

  -- it is so of the whole
  goes_in : (e : Entry) (es : List Entry) (is : TurnsTenant (lent_setting l v) q v t e es made taken x2 v2) → ProceedsIn q v.memory.now t e is.to is.pieces taken v2.memory.now is.rest is.doing
  goes_in e es is =
      let whole = proceeds_lent (λ (z : View). z.memory.now) v (lent v h.sound) (refl, refl, refl, keeps_all v.place v.memory.now) is.proceeds in
      subst (λ i. Proceeds (λ z. view z i) (λ z. Ready z i) (StepsAlone i) t.inst q e.call v.memory.now t.rest t.doing is.to is.pieces taken v2.memory.now is.rest is.doing) (sym h.lies.place_is) whole

  shown : Shown (lent_setting l v) l v.page_limit q x x2 v v2 v.memory.now v2.memory.now v.place t made taken
  shown = record {
    lies = h.lies;
    steps = steps_alone v.place v.memory.now v2.memory.now h.sound h.keeps.3;
    sees = refl;
    sees2 = ap (view v2.memory.now) h.keeps.1;
    ready = λ need is. is;
    same = λ e. ap (λ (z : View). z.memory.now) e;
    by_bytes = by_bytes;
    turns = λ e es is_open. (let z = h.turns t e es is_open over_view in (z, goes_in e es z));
  }

  pub lent_turn : t.open_calls ≢ [] → TurnsLent l v.page_limit q v.memory.now t v.place x2 v2.memory.now made taken
  lent_turn = shown_turn (lent_setting l v) l v.page_limit q x x2 v v2 v.memory.now v2.memory.now v.place t made taken shown
