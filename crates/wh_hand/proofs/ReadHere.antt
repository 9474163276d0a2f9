-- Whether so many bytes of an instance are there.
use Rattle.std.proofs.Common.{◌≡◌, ◌+◌, ◌*◌, ◌<◌, ◌≤◌, ◌∙◌, ℕ, [], Some, get_or, length, sym, ap, arith}
use Rattle.wh_space_model.specs.declared.plain.InstId.{InstId}
use Rattle.wh_space_model.specs.{Space, view}
use Rattle.wh_space_model.proofs.Reading.{view_length}
use Rattle.wh_host_model.specs.Host.{Tenant, World, IsLive}
use Rattle.wh_host_model.proofs.Host.Lasting.{memory_stays_sound}
use Rattle.wh_host.specs.Hosting.{HostState, IsHost}
use Rattle.wh_host.specs.Telling.{CountsEnded}
use Rattle.wh_hand.specs.HandReads.{HasSoManyBytes, RefusesReadHere}
use Rattle.wh_hand.specs.declared.reading.BytesError.TheVariants as here

-- how long the memory of whoever is there is
seen_long : (h : HostState) (w : World) (id : InstId) (t : Tenant) → IsHost h w → IsLive w id t → length (view w.space t.place) ≡ 4096 * length (get_or h.space.tables id.place [])
seen_long h w id t st live =
    view_length w.space t.place (memory_stays_sound w st.comes)
    ∙ ap (λ i. 4096 * length (get_or w.space.tables i [])) live.1
    ∙ ap (λ (s : Space). 4096 * length (get_or s.tables id.place [])) (sym st.space)

pub refused_outside : (h : HostState) (id : InstId) (at count ended size : ℕ) → CountsEnded h id (Some ended) → length (get_or h.space.tables id.place []) ≡ 16 * size → 65536 * size < at + count
    → RefusesReadHere h id at count here.Outside
refused_outside h id at count ended size counts long less w st =
    let who = counts w st in
    let seen = seen_long h w id who.0 st who.1 in
    (who.0, who.1, omega (arith, seen, long, less))

pub has_within : (h : HostState) (id : InstId) (at count ended size : ℕ) → CountsEnded h id (Some ended) → length (get_or h.space.tables id.place []) ≡ 16 * size → at + count ≤ 65536 * size
    → HasSoManyBytes h id at count
has_within h id at count ended size counts long within w st =
    let who = counts w st in
    let seen = seen_long h w id who.0 st who.1 in
    (who.0, who.1, omega (arith, seen, long, within))
