-- What is told of a call of who is there.
use Rattle.std.proofs.Common.{◌≡◌, ℕ, Option, Some, None, slice_get, ap, subst, ◌∙◌}
use Rattle.wh_space_model.specs.declared.plain.InstId.{InstId}
use Rattle.wh_host_model.specs.Host.{IsLive, NoInstance, Tenant, World, journal}
use Rattle.wh_host_model.proofs.Host.Lasting.{journals_stay_in_order}
use Rattle.wh_space_model.specs.{view}
use Rattle.wh_instance.specs.declared.stages.CallStatus.{CallStatus}
use Rattle.wh_instance.specs.Tenancy.{IsTenant}
use Rattle.wh_instance.specs.Told.{IsToldAt, TellsCall}
use Rattle.wh_host.specs.declared.parts.LoadedModule.{LoadedModule}
use Rattle.wh_host.specs.declared.parts.InstanceEntry.{InstanceEntry}
use Rattle.wh_host.specs.Hosting.{HostState, IsHost, entry_at, module_in}
use Rattle.wh_host.specs.Telling.{IsTold}
use Rattle.wh_host.proofs.Hosts.{found, module_is}
use Rattle.wh_host.proofs.Paged.{same_tenant}

pub none_told : (w : World) (id : InstId) (at : ℕ) → NoInstance w id → IsTold w id at None
none_told w id at none t live = absurd (none t live)

of_tenant : (w : World) (id : InstId) (at : ℕ) (t : Tenant) (told : Option CallStatus) → IsLive w id t → IsToldAt t at told → IsTold w id at told
of_tenant w id at t None live is = λ u lives. (ap (λ (z : Tenant). slice_get (journal z) at) (same_tenant w id u t lives live) ∙ is)
of_tenant w id at t (Some status) live is = (t, is.0, live, is.1, is.2)

pub told_here : (h : HostState) (w : World) (id : InstId) (at : ℕ) (x : InstanceEntry) (m : LoadedModule) (told : Option CallStatus) → IsHost h w → entry_at h.entries id.place ≡ Some x → x.number ≡ Some id.number → module_in h.modules x.module_place ≡ Some m → TellsCall m.linked x.tenant at told → IsTold w id at told
told_here h w id at x m told st there number is tells =
    let f = found h w id.place id.number x st there number in
    let o = journals_stay_in_order w st.comes id.number f.t f.live in
    let over = subst (λ (z : LoadedModule). IsTenant z.linked x.page_limit x.tenant (view w.space f.t.place) f.t) (module_is h w id.place id.number x m f is) f.is.is in
    of_tenant w id at f.t told (f.live, f.at) (tells x.page_limit (view w.space f.t.place) o.loaded.m f.t over o.calls)
