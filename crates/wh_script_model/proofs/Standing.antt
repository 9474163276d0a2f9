-- Where a call of an instance of a host is blocked on a fault of a device, it needs bytes.
use Rattle.std.proofs.Common.{◌≡◌, ℕ, Bool, List, [], ◌∷◌, ◌++◌, Option, Some, None, sym, ap, subst, ◌∙◌}
use Rattle.std.proofs.lemmas.Option.{none-some, same_Some}
use Rattle.wh_model.specs.declared.memory.Need.{Need}
use Rattle.wh_model.specs.Format.{Module}
use Rattle.wh_model.specs.Execution.Store.{Instance, Store}
use Rattle.wh_model.specs.Execution.Replay.{Replay}
use Rattle.wh_model.specs.Execution.{Call}
use Rattle.wh_space_model.specs.declared.plain.SwapError.{SwapError}
use Rattle.wh_space_model.specs.{view, wants}
use Rattle.wh_host_model.specs.Host.{Rest, Doing, Suspension, for_device, Tenant, World, journal, journal_calls, store_with, standing_with, store_in, standing_in, tenant, InOrder, AfterEvents, NextAsks, a_piece, a_step, FirstWaitsDuly}
use Rattle.wh_host_model.specs.{Entry, given_of, first_open}
use Rattle.wh_script_model.specs.{NamedInstance, IsTenantOf, NeedsBytes, for_a_piece, for_a_step}
use Rattle.wh_host_model.proofs.Host.Holding.{instances_replay, journals_are_in_order, suspensions_are_right}
use Rattle.wh_script_model.proofs.Once.{stops_there}
use Rattle.wh_script_model.proofs.Serving.{ended_closed, first_opened, open_behind_ended}

needs_so : {inst : Instance} {c : Call} {need : Need} (bytes : List ℕ) (r : Rest) (d : Doing) → NextAsks inst (store_with bytes r) c d need
    → NeedsBytes inst c (standing_with bytes r d)
needs_so bytes r d a_piece = for_a_piece
needs_so bytes r d (a_step {need = need} less next asks) = for_a_step need less next asks

-- the journal of an instance, the first open call of which needs bytes
pub record IsStuck (w : World) (t : Tenant) (g : NamedInstance) : Type 0 where
  pub replay : Replay g.m (given_of g.params) (journal_calls (journal t)) (standing_in w.space t)
  pub call : Call
  pub first : first_open (journal_calls (journal t)) ≡ Some call
  pub needs : NeedsBytes g.inst call (standing_in w.space t)

stuck_duly : (m : Module) (inst : Instance) (died : Bool) (es os : List Entry) (bytes : List ℕ) (r : Rest) (d : Doing) (wanted : Option Need)
    (fault : SwapError) → InOrder m inst died es os → FirstWaitsDuly inst (store_with bytes r) d os wanted (Some (for_device fault))
    → (c : Call) × (first_open (journal_calls (es ++ os)) ≡ Some c) × NeedsBytes inst c (standing_with bytes r d)
stuck_duly m inst died es [] bytes r d wanted fault order duly = absurd (none-some (for_device fault) (sym duly.1))
stuck_duly m inst died es (e ∷ os) bytes r d wanted fault order duly =
    (e.call, open_behind_ended es (e ∷ os) (ended_closed order) ∙ stops_there e.call (journal_calls os) (first_opened order), needs_so bytes r d duly.2)

pub is_stuck : AfterEvents (λ w. (i : ℕ) (t : Tenant) (g : NamedInstance) (fault : SwapError) → tenant w i ≡ Some t → t.waiting_for ≡ Some (for_device fault)
    → IsTenantOf w t g → IsStuck w t g)
is_stuck frames slots tax events w happens i t g fault there stands of_one =
    let r = instances_replay frames slots tax events w happens i t there in
    let j = journals_are_in_order frames slots tax events w happens i t there in
    let s = suspensions_are_right frames slots tax events w happens i t there in
    let loaded : r.loaded ≡ of_one.loaded = same_Some _ _ (sym r.is_loaded ∙ of_one.is_loaded) in
    let m : r.loaded.m ≡ g.m = ap (λ l. l.m) loaded ∙ sym of_one.of_one in
    let duly = subst (λ o. FirstWaitsDuly t.inst (store_in w.space t) t.doing t.open_calls (wants w.space t.place) o) stands s in
    let found = stuck_duly j.loaded.m t.inst t.dead t.ended t.open_calls (view w.space t.place) t.rest t.doing (wants w.space t.place) fault j.calls duly in
    record {
      replay = subst (λ p. Replay g.m (given_of p) (journal_calls (journal t)) (standing_in w.space t)) (sym of_one.params)
          (subst (λ q. Replay q (given_of t.params) (journal_calls (journal t)) (standing_in w.space t)) m r.replay);
      call = found.0;
      first = found.1;
      needs = subst (λ inst. NeedsBytes inst found.0 (standing_in w.space t)) (sym of_one.inst) found.2;
    }

-- without an open call it is blocked on nothing
rests_duly : (inst : Instance) (s : Store) (d : Doing) (os : List Entry) (wanted : Option Need) (o : Option Suspension) → os ≡ []
    → FirstWaitsDuly inst s d os wanted o → o ≡ None
rests_duly inst s d [] wanted o none duly = duly.1
rests_duly inst s d (e ∷ os) wanted o none duly = absurd (cc none)

pub at_no_fault : AfterEvents (λ w. (i : ℕ) (t : Tenant) → tenant w i ≡ Some t → t.open_calls ≡ [] → t.waiting_for ≡ None)
at_no_fault frames slots tax events w happens i t there none =
    rests_duly t.inst (store_in w.space t) t.doing t.open_calls (wants w.space t.place) t.waiting_for none (suspensions_are_right frames slots tax events w happens i t there)
