-- Offers, and pages in transit, leave all instances alone.
use Rattle.std.proofs.Common.{◌≡◌, ◌⊎◌, ℕ, zero, suc, inl, inr, ◌==◌, cond, Bool, true, false, List, [], ◌∷◌, Option, Some, None, get_or, slice_set, refl, ap, ◌∙◌, rules}
use Rattle.wh_model.specs.declared.memory.Need.{Need}
use Rattle.wh_space_model.specs.declared.states.Offer.{Offer}
use Rattle.wh_space_model.specs.declared.states.Offer.TheVariants.{Skipped, Zeroed, Hinted, Stale, Merged, FalseMatch}
use Rattle.wh_space_model.specs.declared.states.EvictEnd.{EvictEnd}
use Rattle.wh_space_model.specs.declared.states.FetchEnd.{FetchEnd}
use Rattle.wh_space_model.specs.declared.states.Slot.TheVariants.{Vacant}
use Rattle.wh_space_model.specs.{tally, Space, Occupant, Promised, all_bytes, claim_of, need_of, promised_to, ticket_of, IsSound, OffersAlone, OffersUnlisted, Reserves, BeginsEvict, BeginsFetch, CommitsEvict, CommitsFetch, leaving_by, stays_occupant}
use Rattle.wh_space_model.specs.Offers.{Offers}
use Rattle.wh_space_model.proofs.Listed.{offers_quiet}
use Rattle.wh_space_model.proofs.Listed.{offers_soundly}
use Rattle.wh_space_model.proofs.Reserved.{begin_evict_sound}
use Rattle.wh_space_model.proofs.Awaited.{begin_fetch_sound}
use Rattle.wh_space_model.proofs.Sent.{commits_soundly}
use Rattle.wh_space_model.proofs.Come.{commits_fetch_soundly}
use Rattle.wh_space_model.proofs.Transit.{begin_evict_bytes, begin_fetch_bytes, commit_evict_bytes, commit_fetch_bytes}
use Rattle.wh_host_model.specs.Host.{AllLeftAlone}
use Rattle.wh_host_model.proofs.Host.Leaving.{alone_bytes}

-- ---- offers

own_there : (hashes : List ℕ → ℕ) (s : Space) (i p hash : ℕ) (answer : Offer) (s2 : Space) → OffersAlone hashes s i p hash answer s2 → s2.occupants ≡ s.occupants
own_there hashes s i p hash Skipped s2 (is, why) = ap (λ (a : Space). a.occupants) is
own_there hashes s i p hash FalseMatch s2 (is, why) = ap (λ (a : Space). a.occupants) is
own_there hashes s i p hash Hinted s2 (g, offered, some, none, is) = ap (λ (a : Space). a.occupants) is
own_there hashes s i p hash Stale s2 (g, f, j, q, offered, some, found, apart, other, changed, is) = ap (λ (a : Space). a.occupants) is
own_there hashes s i p hash Zeroed s2 (g, offered, zeros, is) = ap (λ (a : Space). a.occupants) is
own_there hashes s i p hash Merged s2 (g, f, offered, some, same, inl (n, found, is)) = ap (λ (a : Space). a.occupants) is
own_there hashes s i p hash Merged s2 (g, f, offered, some, same, inr (j, q, apart, hint, is)) = ap (λ (a : Space). a.occupants) is

shared_there : (hashes : List ℕ → ℕ) (s : Space) (i p hash : ℕ) (answer : Offer) (s2 : Space) → OffersUnlisted hashes s i p hash answer s2 → s2.occupants ≡ s.occupants
shared_there hashes s i p hash Skipped s2 (is, why) = ap (λ (a : Space). a.occupants) is
shared_there hashes s i p hash FalseMatch s2 (is, why) = ap (λ (a : Space). a.occupants) is
shared_there hashes s i p hash Hinted s2 (f, n, may, some, none, is) = ap (λ (a : Space). a.occupants) is
shared_there hashes s i p hash Stale s2 (f, n, g, j, q, may, some, found, offered, changed, is) = ap (λ (a : Space). a.occupants) is
shared_there hashes s i p hash Zeroed s2 (f, n, may, zeros, is) = ap (λ (a : Space). a.occupants) is
shared_there hashes s i p hash Merged s2 (f, n, g, may, some, same, inl (m, found, is)) = ap (λ (a : Space). a.occupants) is
shared_there hashes s i p hash Merged s2 (f, n, g, may, some, same, inr (j, q, hint, is)) = ap (λ (a : Space). a.occupants) is

offers_there : (hashes : List ℕ → ℕ) (s : Space) (i p hash : ℕ) (answer : Offer) (s2 : Space) → Offers hashes s i p hash answer s2 → s2.occupants ≡ s.occupants
offers_there hashes s i p hash answer s2 (inl o) = own_there hashes s i p hash answer s2 o
offers_there hashes s i p hash answer s2 (inr o) = shared_there hashes s i p hash answer s2 o

pub offers_alone : (hashes : List ℕ → ℕ) (s : Space) (i p hash : ℕ) (answer : Offer) (s2 : Space) → IsSound s → Offers hashes s i p hash answer s2 → AllLeftAlone s s2
offers_alone hashes s i p hash answer s2 sound o = search (rules, alone_bytes, offers_quiet, offers_there, offers_soundly)

-- ---- who has a place stands and claims as before

-- a promise is kept, or nobody has the place any more
abbrev Stays : Option Promised → Option Promised → Type 0
Stays x y = (x ≡ y) ⊎ (x ≡ None)

stays_then : (x y z : Option Promised) → Stays x y → Stays y z → Stays x z
stays_then x y z (inr none) kept = inr none
stays_then x y z (inl same) (inl same2) = inl (same ∙ same2)
stays_then x y z (inl same) (inr none) = inr (same ∙ none)

abbrev Alike : Option Occupant → Option Occupant → Type 0
Alike x y = (need_of x ≡ need_of y) × (claim_of x ≡ claim_of y) × Stays (promised_to x) (promised_to y)

alike_self : (x : Option Occupant) → Alike x x
alike_self x = (refl, refl, inl refl)

pub record Claims (xs ys : List (Option Occupant)) : Type 0 where
  pub each : (m : ℕ) → Alike (get_or xs m None) (get_or ys m None)

claims_then : {xs ys zs : List (Option Occupant)} → Claims xs ys → Claims ys zs → Claims xs zs
claims_then {xs} {ys} {zs} f g = record { each = λ m. (let x = f.each m in let y = g.each m in (x.0 ∙ y.0, x.1 ∙ y.1, stays_then (promised_to (get_or xs m None)) (promised_to (get_or ys m None)) (promised_to (get_or zs m None)) x.2 y.2)) }

pub claims_of : {xs ys : List (Option Occupant)} → xs ≡ ys → Claims xs ys
claims_of e = record { each = λ m. (ap (λ (zs : List (Option Occupant)). need_of (get_or zs m None)) e, ap (λ (zs : List (Option Occupant)). claim_of (get_or zs m None)) e, inl (ap (λ (zs : List (Option Occupant)). promised_to (get_or zs m None)) e)) }

pub alone_claims : (s s2 : Space) → all_bytes s2 ≡ all_bytes s → Claims s2.occupants s.occupants → IsSound s2 → AllLeftAlone s s2
alone_claims s s2 bytes same sound = search rules

leaving_at : (xs : List (Option Occupant)) (j : ℕ) (slot : Option ℕ) (m : ℕ) → Alike (get_or (slice_set xs j (leaving_by (get_or xs j None) slot)) m None) (get_or xs m None)
leaving_at [] j slot m = alike_self None
leaving_at (None ∷ xs) zero slot zero = alike_self None
leaving_at (Some t ∷ xs) zero slot zero = (refl, refl, inl refl)
leaving_at (x ∷ xs) zero slot (suc m) = alike_self (get_or xs m None)
leaving_at (x ∷ xs) (suc j) slot zero = alike_self x
leaving_at (x ∷ xs) (suc j) slot (suc m) = leaving_at xs j slot m

stays_claims : (t : Occupant) (n : ℕ) (live gone : Bool) → t.live ≡ live → (n == 0) ≡ gone
    → Alike (cond live (Some t) (cond gone None (Some t))) (Some t)
stays_claims t n true gone e h = alike_self (Some t)
stays_claims t n false true e h = (rw e refl, rw e refl, inr refl)
stays_claims t n false false e h = alike_self (Some t)

settled_at : (xs : List (Option Occupant)) (j n m : ℕ) → Alike (get_or (slice_set xs j (stays_occupant (get_or xs j None) n)) m None) (get_or xs m None)
settled_at [] j n m = alike_self None
settled_at (None ∷ xs) zero n zero = alike_self None
settled_at (Some t ∷ xs) zero n zero = stays_claims t n t.live (n == 0) refl refl
settled_at (x ∷ xs) zero n (suc m) = alike_self (get_or xs m None)
settled_at (x ∷ xs) (suc j) n zero = alike_self x
settled_at (x ∷ xs) (suc j) n (suc m) = settled_at xs j n m

leaving_claims : (xs : List (Option Occupant)) (j : ℕ) (slot : Option ℕ) → Claims (slice_set xs j (leaving_by (get_or xs j None) slot)) xs
leaving_claims xs j slot = record { each = leaving_at xs j slot }

settled_claims : (xs : List (Option Occupant)) (j n : ℕ) → Claims (slice_set xs j (stays_occupant (get_or xs j None) n)) xs
settled_claims xs j n = record { each = settled_at xs j n }

-- ---- pages in transit

pub reserves_there : (s : Space) (i : ℕ) (need : Need) (s2 : Space) → Reserves s i need s2 → s2.occupants ≡ s.occupants
reserves_there s i need s2 r = ap (λ (a : Space). a.occupants) r.leaves

pub begins_evict_alone : (s s2 : Space) (i k : ℕ) (bytes : List ℕ) → IsSound s → BeginsEvict s i (Some k) bytes s2 → AllLeftAlone s s2
begins_evict_alone s s2 i k bytes sound e = alone_claims s s2 (begin_evict_bytes s s2 i k bytes e) (go e) (begin_evict_sound s s2 i (Some k) bytes sound e) where
  go : BeginsEvict s i (Some k) bytes s2 → Claims s2.occupants s.occupants
  go (need, stands, s1, prepares, lacks, j, p, f, taken, old, new, there, on, as_it, is, others, list, moves) =
      claims_then (claims_of (ap (λ (a : Space). a.occupants) moves)) (claims_then (leaving_claims s1.occupants j (Some k)) (claims_of (reserves_there s i need s1 prepares)))

pub begins_fetch_alone : (s s2 : Space) (i k : ℕ) → IsSound s → BeginsFetch s i (Some k) s2 → AllLeftAlone s s2
begins_fetch_alone s s2 i k sound e = alone_claims s s2 (begin_fetch_bytes s s2 i k e) (go e) (begin_fetch_sound s s2 i (Some k) sound e) where
  go : BeginsFetch s i (Some k) s2 → Claims s2.occupants s.occupants
  go (need, stands, s1, prepares, p, f, first, there, others, list, moves) =
      claims_then (claims_of (ap (λ (a : Space). a.occupants) moves)) (claims_of (reserves_there s i need s1 prepares))

pub fetch_claims : (s s2 : Space) (k : ℕ) (read : Bool) (bytes : List ℕ) (end : FetchEnd) → CommitsFetch s k read bytes end s2 → Claims s2.occupants s.occupants
fetch_claims s s2 k read bytes end (inl (i, f, was, ends, moves)) = claims_then (claims_of (ap (λ (a : Space). a.occupants) moves)) (settled_claims s.occupants i (tally (ticket_of i) (slice_set s.slots.uses k Vacant)))
fetch_claims s s2 k read bytes end (inr (i, p, f, was, inl (ok, long, ends, moves))) = claims_of (ap (λ (a : Space). a.occupants) moves)
fetch_claims s s2 k read bytes end (inr (i, p, f, was, inr (failed, ends, moves))) = claims_of (ap (λ (a : Space). a.occupants) moves)

pub commits_fetch_alone : (s s2 : Space) (k : ℕ) (read : Bool) (bytes : List ℕ) (end : FetchEnd) → IsSound s → (read ≡ true → get_or s.slots.held k [] ≡ bytes) → CommitsFetch s k read bytes end s2 → AllLeftAlone s s2
commits_fetch_alone s s2 k read bytes end sound device e = alone_claims s s2 (commit_fetch_bytes s s2 k read bytes end sound device e) (fetch_claims s s2 k read bytes end e) (commits_fetch_soundly s k read bytes end s2 sound e)

pub commits_evict_alone : (s s2 : Space) (k : ℕ) (wrote : Bool) (bytes : List ℕ) (end : EvictEnd) → IsSound s → (wrote ≡ true → get_or s.slots.held k [] ≡ bytes) → CommitsEvict s k wrote bytes end s2 → AllLeftAlone s s2
commits_evict_alone s s2 k wrote bytes end sound device e =
    alone_claims s s2 (commit_evict_bytes s s2 k wrote bytes end device e) (go e) (commits_soundly s k wrote bytes end s2 sound device e) where
      go : CommitsEvict s k wrote bytes end s2 → Claims s2.occupants s.occupants
      go (inl (j, was, ends, moves)) =
          claims_then (claims_of (ap (λ (a : Space). a.occupants) moves))
          (claims_then (settled_claims (slice_set s.occupants j (leaving_by (get_or s.occupants j None) None)) j (tally (ticket_of j) (slice_set s.slots.uses k Vacant))) (leaving_claims s.occupants j None))
      go (inr (j, p, f, was, page, there, on, inl (ok, equal, ends, moves))) = claims_then (claims_of (ap (λ (a : Space). a.occupants) moves)) (leaving_claims s.occupants j None)
      go (inr (j, p, f, was, page, there, on, inr (why, old, as_it, moves))) = claims_then (claims_of (ap (λ (a : Space). a.occupants) moves)) (leaving_claims s.occupants j None)
