-- What offers leave of the host for which the code's host stands.
use Rattle.std.proofs.Common.{ℕ, inl, List, [], ◌∷◌, refl, sym, subst}
use Rattle.wh_space_model.specs.declared.states.Offer.{Offer}
use Rattle.wh_space_model.specs.declared.plain.InstId.{InstId}
use Rattle.wh_space_model.specs.{OffersOf, Space, found_at, Scans, IsSound}
use Rattle.wh_host_model.specs.Host.{epoch, offer, OnlyMoves, AllLeftAlone, World}
use Rattle.wh_host_model.proofs.Host.Bridges.{offers_leave_all}
use Rattle.wh_host.specs.Hosting.{HostState, IsHost}
use Rattle.wh_host.proofs.Paged.{alone_in, alone_on, only_moved, sound_in}

pub scans_alone : (hashes : List ℕ → ℕ) (s : Space) (pages : List (ℕ × ℕ)) (s2 : Space) → IsSound s → Scans hashes s pages s2 → AllLeftAlone s s2
scans_alone hashes s [] s2 sound is = subst (AllLeftAlone s) (sym is) (λ j. record { view = refl; wants = refl; claim = refl; promise = inl refl }, sound)
scans_alone hashes s (page ∷ pages) s2 sound (hash, answer, mid, its, offered, rest) =
    let first = offers_leave_all hashes s page.0 page.1 hash answer mid sound offered in
    alone_on s mid s2 first (scans_alone hashes mid pages s2 first.1 rest)

-- pages that were offered one after the other have moved, as at any event at which pages move
pub scanned_here : (h : HostState) (w : World) (hashes : List ℕ → ℕ) (pages : List (ℕ × ℕ)) (s2 : Space) → (st : IsHost h w) → Scans hashes h.space pages s2 → (w2 : World) × OnlyMoves w w2 × IsHost (record h { space = s2 }) w2
scanned_here h w hashes pages s2 st scans = only_moved h w epoch s2 st (alone_in h w s2 st (scans_alone hashes h.space pages s2 (sound_in h w st) scans)) (λ w2 moves. moves)

pub offered_here : (h : HostState) (w : World) (hashes : List ℕ → ℕ) (id : InstId) (page hash : ℕ) (answer : Offer) (s2 : Space) → (st : IsHost h w) → OffersOf hashes h.space id.place id.number page hash answer s2 → (w2 : World) × OnlyMoves w w2 × IsHost (record h { space = s2 }) w2
offered_here h w hashes id page hash answer s2 st offers =
    only_moved h w (offer (record { id = id; page = page }) hash) s2 st (alone_in h w s2 st (offers_leave_all hashes h.space (found_at h.space id.place id.number) page hash answer s2 (sound_in h w st) offers)) (λ w2 moves. moves)
