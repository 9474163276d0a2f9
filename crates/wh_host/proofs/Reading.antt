-- Bytes of an instance that are read.
use Rattle.std.proofs.Common.{◌≡◌, ◌≤◌, ◌+◌, ◌*◌, ℕ, List, [], Some, length, get_or, ap, sym, ◌∙◌, arith}
use Rattle.wh_model.specs.Execution.{bytes_at}
use Rattle.wh_space_model.specs.declared.plain.InstId.{InstId}
use Rattle.wh_space_model.specs.{Space, view}
use Rattle.wh_space_model.proofs.Reading.{view_length}
use Rattle.wh_host_model.specs.Host.{Tenant, World, IsLive}
use Rattle.wh_host.specs.declared.parts.InstanceEntry.{InstanceEntry}
use Rattle.wh_host.specs.Hosting.{HostState, IsHost, entry_at}
use Rattle.wh_host.specs.HostReads.{SeesBytes}
use Rattle.wh_host.proofs.Hosts.{found}
use Rattle.wh_host.proofs.Requests.{sound_here}

-- whoever is there sees the memory at its place, of this size
pub record SeesThere (h : HostState) (w : World) (id : InstId) : Type 0 where
  pub t : Tenant
  pub live : IsLive w id t
  pub sees : view w.space t.place ≡ view h.space id.place
  pub long : length (view w.space t.place) ≡ 4096 * length (get_or h.space.tables id.place [])

pub sees_there : (h : HostState) (w : World) (id : InstId) (x : InstanceEntry) → IsHost h w → entry_at h.entries id.place ≡ Some x → x.number ≡ Some id.number → SeesThere h w id
sees_there h w id x st at number =
    let f = found h w id.place id.number x st at number in
    let same : view w.space f.t.place ≡ view h.space id.place = ap (view w.space) f.at ∙ ap (λ s. view s id.place) (sym st.space) in
    record {
      t = f.t;
      live = (f.live, f.at);
      sees = same;
      long = view_length w.space f.t.place (sound_here h w st)
          ∙ ap (λ i. 4096 * length (get_or w.space.tables i [])) f.at
          ∙ ap (λ (s : Space). 4096 * length (get_or s.tables id.place [])) (sym st.space);
    }

pub sees_bytes : (h : HostState) (w : World) (id : InstId) (at size : ℕ) (bytes : List ℕ) → SeesThere h w id → at + size ≤ 4096 * length (get_or h.space.tables id.place []) → length bytes ≡ size → bytes ≡ bytes_at (view h.space id.place) at size → SeesBytes w id at bytes
sees_bytes h w id at size bytes there within long is = (
  there.t,
  there.live,
  omega (arith, there.long, within, long),
  is ∙ ap (bytes_at (view h.space id.place) at) (sym long) ∙ ap (λ v. bytes_at v at (length bytes)) (sym there.sees),
)
