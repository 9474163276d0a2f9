-- What is told of the charges of a call of who is there.
use Rattle.std.proofs.Common.{◌≡◌, ℕ, zero, suc, ◌++◌, List, [], ◌∷◌, option_map, slice_get, Option, Some, None, refl, sym, ap, ◌∙◌}
use Rattle.wh_space_model.specs.declared.plain.InstId.{InstId}
use Rattle.wh_host_model.specs.Host.{IsLive, NoInstance, Tenant, World, journal}
use Rattle.wh_host_model.specs.{Entry}
use Rattle.wh_journal.specs.Calls.{JournalCallState}
use Rattle.wh_instance.specs.Tenancy.{RepresentsEach}
use Rattle.wh_instance.proofs.Told.{join_each}
use Rattle.wh_host.specs.declared.parts.InstanceEntry.{InstanceEntry}
use Rattle.wh_host.specs.Hosting.{HostState, IsHost, entry_at}
use Rattle.wh_host.specs.Telling.{AreChargesTold, charges_in_journal}
use Rattle.wh_host.proofs.Hosts.{found}
use Rattle.wh_host.proofs.Paged.{same_tenant}

pub no_charges : (w : World) (id : InstId) (at : ℕ) → NoInstance w id → AreChargesTold w id at None
no_charges w id at none t live = absurd (none t live)

-- the calls of a journal have the charges that the code has of them
pub charges_there : (cs : List JournalCallState) (es : List Entry) (at : ℕ) → RepresentsEach cs es
    → option_map (λ (c : JournalCallState). c.charges) (slice_get cs at) ≡ option_map (λ (e : Entry). e.call.charges) (slice_get es at)
charges_there [] [] at h = refl
charges_there [] (e ∷ es) at h = absurd h
charges_there (c ∷ cs) [] at h = absurd h
charges_there (c ∷ cs) (e ∷ es) zero h = ap Some (sym h.0.charges)
charges_there (c ∷ cs) (e ∷ es) (suc at) h = charges_there cs es at h.1

of_entry : (w : World) (id : InstId) (at : ℕ) (t : Tenant) (told : Option ℕ) (there : Option Entry) → IsLive w id t → slice_get (journal t) at ≡ there
    → told ≡ option_map (λ (e : Entry). e.call.charges) there → AreChargesTold w id at told
of_entry w id at t None None live is same = λ u lives. (ap (λ (z : Tenant). slice_get (journal z) at) (same_tenant w id u t lives live) ∙ is)
of_entry w id at t None (Some e) live is same = absurd (cc same)
of_entry w id at t (Some n) None live is same = absurd (cc same)
of_entry w id at t (Some n) (Some e) live is same = (t, e, live, is, let back : n ≡ e.call.charges = cc same in sym back)

pub charges_here : (h : HostState) (w : World) (id : InstId) (at : ℕ) (x : InstanceEntry) (told : Option ℕ) → IsHost h w → entry_at h.entries id.place ≡ Some x → x.number ≡ Some id.number
    → told ≡ charges_in_journal x.tenant.journal at → AreChargesTold w id at told
charges_here h w id at x told st there number is =
    let f = found h w id.place id.number x st there number in
    let t = f.t in
    let calls = join_each x.tenant.journal.ended x.tenant.journal.open_calls t.ended t.open_calls f.is.is.ended f.is.is.open_calls in
    of_entry w id at t told (slice_get (journal t) at) (f.live, f.at) refl (is ∙ charges_there (x.tenant.journal.ended ++ x.tenant.journal.open_calls) (journal t) at calls)
