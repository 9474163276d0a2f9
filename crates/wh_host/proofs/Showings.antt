-- What the code has of an instance is its transcript.
use Rattle.std.proofs.Common.{◌≡◌, ◌≤◌, ℕ, List, Some, length, refl, sym, subst, ◌∙◌}
use Rattle.wh_model.specs.Linking.{IsAccepted}
use Rattle.wh_model.specs.Execution.{begins, IsInitial}
use Rattle.wh_model.specs.Execution.Replay.{Replay}
use Rattle.wh_space_model.specs.{view, wants}
use Rattle.wh_host_model.specs.Host.{Loaded, Tenant, World, journal, journal_calls, standing_in, store_in, tenant, loaded_of, InOrder, FirstWaitsDuly}
use Rattle.wh_host_model.specs.{Params, given_of}
use Rattle.wh_host_model.proofs.Host.Copied.{copied_calls_have_ended}
use Rattle.wh_host_model.proofs.Host.Lasting.{inputs_stay}
use Rattle.wh_host_model.proofs.Host.Holding.{instances_replay, journals_are_in_order, suspensions_are_right}
use Rattle.wh_imports.specs.LinkedState.{LinkedState}
use Rattle.wh_load.specs.Refusing.{view_linked}
use Rattle.wh_instance.specs.Tenancy.{IsTenant, HostInstanceState}
use Rattle.wh_instance.proofs.Told.{join_each}
use Rattle.wh_transcript.specs.Transcripts.{IsReplayable}
use Rattle.wh_host.specs.declared.parts.StoredParams.{StoredParams}
use Rattle.wh_host.specs.declared.parts.LoadedModule.{LoadedModule}
use Rattle.wh_host.specs.declared.parts.InstanceEntry.{InstanceEntry}
use Rattle.wh_host.specs.Hosting.{AreGivenAs, HostState, IsHost, IsReached, loaded_as, entry_at, module_in}
use Rattle.wh_host.specs.Showing.{Shows, given_with, shown_of}
use Rattle.wh_host.proofs.Hosts.{found, module_is, one_value}
use Rattle.wh_host.proofs.Requests.{module_there}

-- what it was given, by its parts
pub params_by : (g : StoredParams) (inputs : List ℕ) (p : Params) → AreGivenAs g p → inputs ≡ p.inputs → given_with g inputs ≡ p
params_by g inputs p is same = rw is.shares (rw is.min (rw is.max (rw is.fuel (rw is.base (rw is.salt (rw same refl))))))

-- the words that the code has are those that were given
pub inputs_are : (l : LinkedState) (limit : ℕ) (x : HostInstanceState) (w : World) (t : Tenant) → IsTenant l limit x (view w.space t.place) t → t.rest.inputs ≡ t.params.inputs → x.store.inputs.items ≡ t.params.inputs
inputs_are l limit x w t is same = let has = is.store in sym has.1.store.inputs ∙ same

-- who is there is shown so, by what the code has of it
pub record ShownThere (w : World) (place i : ℕ) (m : LoadedModule) (x : InstanceEntry) : Type 0 where
  pub t : Tenant
  pub live : tenant w i ≡ Some t
  pub at : t.place ≡ place
  pub of : loaded_of w t.of ≡ Some (loaded_as m)
  pub over : IsTenant m.linked x.page_limit x.tenant (view w.space t.place) t
  pub given : given_with x.given x.tenant.store.inputs.items ≡ t.params
  pub shows : Shows (shown_of x m.bytes.value.items) m.bytes.value.items t

pub shown_there : (h : HostState) (w : World) (place i : ℕ) (x : InstanceEntry) (m : LoadedModule) → IsHost h w → entry_at h.entries place ≡ Some x → x.number ≡ Some i → module_in h.modules x.module_place ≡ Some m → ShownThere w place i m x
shown_there h w place i x m st at number is =
    let f = found h w place i x st at number in
    let known : loaded_of w f.t.of ≡ Some (loaded_as m) = (module_there h w place i x m st f is).0 in
    let given = params_by x.given x.tenant.store.inputs.items f.t.params f.is.given (inputs_are f.is.loaded.linked x.page_limit x.tenant w f.t f.is.is (inputs_stay w st.comes i f.t f.live)) in
    let over = subst (λ (z : LoadedModule). IsTenant z.linked x.page_limit x.tenant (view w.space f.t.place) f.t) (module_is h w place i x m f is) f.is.is in
    let calls = join_each x.tenant.journal.ended x.tenant.journal.open_calls f.t.ended f.t.open_calls over.ended over.open_calls in
    record {
      t = f.t;
      live = f.live;
      at = f.at;
      of = known;
      over = over;
      given = given;
      shows = record { bytes_are = refl; params = given; calls = calls; copied = f.is.copied; waiting_for = over.waiting_for };
    }

-- and where events alone have led there, it is what its journal comes to
pub replays_there : (w : World) (place i : ℕ) (x : InstanceEntry) (m : LoadedModule) → IsReached w → ShownThere w place i m x → IsReplayable (shown_of x m.bytes.value.items)
replays_there w place i x m run f =
    let r = instances_replay run.frames run.slots run.tax run.events w run.happen i f.t f.live in
    let o = journals_are_in_order run.frames run.slots run.tax run.events w run.happen i f.t f.live in
    let u = suspensions_are_right run.frames run.slots run.tax run.events w run.happen i f.t f.live in
    let known = f.of in
    let given = f.given in
    let shows = f.shows in
    let mine : r.loaded ≡ loaded_as m = one_value r.loaded (loaded_as m) (sym r.is_loaded ∙ known) in
    let theirs : o.loaded ≡ loaded_as m = one_value o.loaded (loaded_as m) (sym o.is_loaded ∙ known) in
    let first = r.first in
    let pieces = r.pieces in
    let initial = subst (λ (l : Loaded). IsInitial l.m (given_of f.t.params) (begins f.t.inst first pieces)) mine r.initial in
    let replay = subst (λ (l : Loaded). Replay l.m (given_of f.t.params) (journal_calls (journal f.t)) (standing_in w.space f.t)) mine r.replay in
    record {
      m = view_linked m.linked;
      accepted = subst (λ (l : Loaded). IsAccepted l.bytes l.m) mine r.accepted;
      inst = f.t.inst;
      first = first;
      pieces = pieces;
      initial = subst (λ p. IsInitial (view_linked m.linked) (given_of p) (begins f.t.inst first pieces)) (sym given) initial;
      ended = f.t.ended;
      open_calls = f.t.open_calls;
      dead = f.t.dead;
      in_order = subst (λ (l : Loaded). InOrder l.m f.t.inst f.t.dead f.t.ended f.t.open_calls) theirs o.calls;
      represents = shows.calls;
      copied = subst (λ n. n ≤ length f.t.ended) (sym shows.copied) (copied_calls_have_ended run.frames run.slots run.tax run.events w run.happen i f.t f.live);
      seen = view w.space f.t.place;
      rest = f.t.rest;
      doing = f.t.doing;
      replay = subst (λ p. Replay (view_linked m.linked) (given_of p) (journal_calls (journal f.t)) (standing_in w.space f.t)) (sym given) replay;
      wanted = wants w.space f.t.place;
      stands = subst (λ o. FirstWaitsDuly f.t.inst (store_in w.space f.t) f.t.doing f.t.open_calls (wants w.space f.t.place) o) f.over.waiting_for u;
    }
