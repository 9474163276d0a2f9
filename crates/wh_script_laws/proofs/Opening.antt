-- Where an instance of the host has an open call, the script knows one.
use Rattle.std.proofs.Common.{◌≡◌, ◌≢◌, ◌∙◌, ◌⊎◌, ⊎_elim, inl, inr, ℕ, zero, suc, List, [], ◌∷◌, ◌++◌, get_or, slice_get, Option, Some, None, false, refl, sym, ap, subst, rules}
use Rattle.std.proofs.lemmas.Option.{same_Some}
use Rattle.std.specs.List.{AllZip}
use Rattle.wh_model.specs.Execution.{Call}
use Rattle.wh_host_model.specs.Host.{InOrder, HasJournal, for_frame, Tenant, World, journal, journal_calls, store_in, FirstWaitsDuly}
use Rattle.wh_host_model.specs.{Entry, first_open, given_of}
use Rattle.wh_space_model.specs.{view, wants}
use Rattle.wh_script_model.specs.{MayUseFuel, NamedInstance}
use Rattle.wh_host_model.proofs.Host.Holding.{instances_replay, journals_are_in_order, suspensions_are_right}
use Rattle.wh_script_laws.specs.Following.{IsFueled, AreSame, device_fault, IsFollowed, is_there, StandsSame}
use Rattle.wh_script_laws.specs.Laws.{GoingIsKnown, OpenIsKnown}
use Rattle.wh_script_laws.proofs.Fuel.{at_frame_may}
use Rattle.wh_script_laws.proofs.Journals.{first_is, ordered}

there_at : (w : World) (gs : List NamedInstance) (ts : List (Option Tenant)) (i : ℕ) (t : Tenant) → AllZip (IsFollowed AreSame StandsSame w) gs ts → get_or ts i None ≡ Some t
    → (g : NamedInstance) × (slice_get gs i ≡ Some g) × IsFollowed AreSame StandsSame w g (Some t)
there_at w [] [] i t h e = absurd (cc e)
there_at w [] (o ∷ ts) i t h e = absurd h
there_at w (g ∷ gs) [] i t h e = absurd h
there_at w (g ∷ gs) (o ∷ ts) zero t h e = (g, refl, subst (λ x. IsFollowed AreSame StandsSame w g x) e h.0)
there_at w (g ∷ gs) (o ∷ ts) (suc i) t h e = there_at w gs ts i t h.1 e

opened : (w : World) (t : Tenant) (os : List Entry) → HasJournal w t → t.open_calls ≡ os → os ≢ [] → (c : Call) × (first_open (journal_calls (journal t)) ≡ Some c)
opened w t [] j is some = absurd (some refl)
opened w t (e ∷ os) j is some =
    let order = ordered w t j in
    let order2 = subst (λ xs. InOrder order.0 t.inst t.dead t.ended xs) is order.1 in
    (e.call, ap (λ xs. first_open (journal_calls (t.ended ++ xs))) is ∙ first_is order2)

known_so : (w : World) (g : NamedInstance) (t : Tenant) → HasJournal w t → t.open_calls ≢ [] → IsFollowed AreSame StandsSame w g (Some t)
    → (c : Call) × (g.is_released ≡ false) × (first_open g.calls ≡ Some c)
known_so w g t j some (is_there of_one same faultless) =
    let first = opened w t t.open_calls j refl some in
    (first.0, of_one.is_live, ap first_open same ∙ first.1)

pub open_is_known : OpenIsKnown
open_is_known frames slots tax events w happens settings m places i t known there some = search (rules, there_at, known_so, journals_are_in_order)

faultless_so : (w : World) (g : NamedInstance) (t : Tenant) → IsFollowed AreSame StandsSame w g (Some t) → device_fault t.waiting_for ≡ None → g.at_fault ≡ None
faultless_so w g t (is_there of_one same stands) none = stands.0 ∙ none

fueled_so : (w : World) (g : NamedInstance) (t : Tenant) → IsFollowed AreSame StandsSame w g (Some t) → IsFueled t
fueled_so w g t (is_there of_one same stands) = stands.1

-- the present call is the first open one that the script knows
first_may : (w : World) (t : Tenant) (g : NamedInstance) (os : List Entry) (c : Call) → HasJournal w t → os ≢ [] → t.open_calls ≡ os → IsFollowed AreSame StandsSame w g (Some t)
    → first_open g.calls ≡ Some c → ((e : Entry) (es : List Entry) → t.open_calls ≡ e ∷ es → MayUseFuel e.call) → MayUseFuel c
first_may w t g os c j some is (is_there of_one same stands) first may = at_first os some is where
  at_first : (os : List Entry) → os ≢ [] → t.open_calls ≡ os → MayUseFuel c
  at_first [] some is = absurd (some refl)
  at_first (e ∷ os) some is =
      let order = ordered w t j in
      let order2 = subst (λ xs. InOrder order.0 t.inst t.dead t.ended xs) is order.1 in
      let one : e.call ≡ c = same_Some e.call c (sym (ap first_open same ∙ ap (λ xs. first_open (journal_calls (t.ended ++ xs))) is ∙ first_is order2) ∙ first) in
      subst MayUseFuel one (may e os is)

no_fault_yet : (t : Tenant) → (t.waiting_for ≡ None) ⊎ (t.waiting_for ≡ Some for_frame) → device_fault t.waiting_for ≡ None
no_fault_yet t (inl none) = ap device_fault none
no_fault_yet t (inr frame) = ap device_fault frame

pub going_is_known : GoingIsKnown
going_is_known frames slots tax events w happens settings m places i t known there going =
    let g = there_at w m.instances w.tenants i t known.instances there in
    let j = journals_are_in_order frames slots tax events w happens i t there in
    let c = known_so w g.0 t j going.0 g.2 in
    let x = instances_replay frames slots tax events w happens i t there in
    let duly = suspensions_are_right frames slots tax events w happens i t there in
    let may : (e : Entry) (es : List Entry) → t.open_calls ≡ e ∷ es → MayUseFuel e.call = λ e es are.
    ⊎_elim
    (λ (none : t.waiting_for ≡ None). fueled_so w g.0 t g.2 e es are none)
    (λ (frame : t.waiting_for ≡ Some for_frame).
    at_frame_may x.loaded.m (given_of t.params) t.ended t.open_calls (view w.space t.place) t.rest t.doing (wants w.space t.place) j.calls x.replay
    (subst (λ o. FirstWaitsDuly t.inst (store_in w.space t) t.doing t.open_calls (wants w.space t.place) o) frame duly) e es are)
    going.1 in
    (i, g.0, c.0, g.1, c.1, c.2, faultless_so w g.0 t g.2 (no_fault_yet t going.1), first_may w t g.0 t.open_calls c.0 j going.0 refl g.2 c.2 may)
