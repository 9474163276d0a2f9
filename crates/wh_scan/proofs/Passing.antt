-- Pages that are offered one after the other.
use Rattle.std.proofs.Common.{◌≡◌, ◌+◌, ◌≤◌, ◌++◌, ℕ, inl, inr, List, [], ◌∷◌, Option, Some, None, get_or, length, zero, suc, refl, sym, ◌∙◌, ap, subst, arith}
use Rattle.std.proofs.lemmas.List.{length-map}
use Rattle.std.proofs.lemmas.Bool.{cases_lt}
use Rattle.wh_space_model.specs.declared.states.Offer.{Offer}
use Rattle.wh_space_model.specs.declared.states.Offer.TheVariants.{Skipped, Zeroed, Hinted, Stale, Merged, FalseMatch}
use Rattle.wh_space_model.specs.declared.states.Page.{Page}
use Rattle.wh_space_model.specs.Offers.{Offers}
use Rattle.wh_space_model.specs.{OffersAlone, OffersUnlisted, Occupant, Space, backing, IsHashOf, Scans, HasTable, IsSound, Backing, contents, page_bytes}
use Rattle.wh_space_model.proofs.Chained.{scans_soundly}
use Rattle.wh_space_model.proofs.Rooms.{get_there}
use Rattle.wh_space_model.proofs.Rows.{past_there}
use Rattle.wh_space.specs.Merges.{HasFewPages}
use Rattle.wh_scan.specs.Pass.{ScansMerging, merges_by, pages_before}

-- ---- one after the other

pub few_rows : (s : Space) (i : ℕ) → IsSound s → length (get_or s.tables i []) ≤ 65536
few_rows s i sound =
    elim (cases_lt i (length s.occupants)) [
      | inl within ↦ (let t = get_there s.occupants i within in by t.0 (sound.occupants.have i t.0 t.1))
      | inr past ↦ (let l = sound.occupants.tables in let none = past_there s.tables i (omega arith) in rw none (omega arith))
    ] where
      by : (t : Option Occupant) → HasTable t (get_or s.tables i []) → length (get_or s.tables i []) ≤ 65536
      by None has = rw has (omega arith)
      by (Some t) has = let a = has.2 in let b = has.4 in omega arith

-- those that merge left out
pub scans_of : (hashes : List ℕ → ℕ) (s : Space) (xs : List (ℕ × ℕ)) (merged : ℕ) (s2 : Space) → ScansMerging hashes s xs merged s2 → Scans hashes s xs s2
scans_of hashes s [] merged s2 (none, is) = is
scans_of hashes s (x ∷ xs) merged s2 (hash, answer, mid, more, sum, is, offers, rest) = (hash, answer, mid, is, offers, scans_of hashes mid xs more s2 rest)

pub merging_on : (hashes : List ℕ → ℕ) (s : Space) (xs ys : List (ℕ × ℕ)) (m n : ℕ) (mid s2 : Space) → ScansMerging hashes s xs m mid → ScansMerging hashes mid ys n s2 → ScansMerging hashes s (xs ++ ys) (m + n) s2
merging_on hashes s [] ys m n mid s2 first second =
    let e : n ≡ m + n = (let none = first.0 in omega arith) in
    subst (λ (k : ℕ). ScansMerging hashes s ys k s2) e (subst (λ (z : Space). ScansMerging hashes z ys n s2) first.1 second)
merging_on hashes s (x ∷ xs) ys m n mid s2 (hash, answer, next, more, sum, is, offers, rest) second =
    (hash, answer, next, more + n, omega (arith, sum), is, offers, merging_on hashes next xs ys more n mid s2 rest second)

pub merging_one : (hashes : List ℕ → ℕ) (s : Space) (xs : List (ℕ × ℕ)) (i p hash m n : ℕ) (answer : Offer) (mid s2 : Space) → ScansMerging hashes s xs m mid → IsHashOf hashes mid i p hash → Offers hashes mid i p hash answer s2
    → n ≡ merges_by answer → ScansMerging hashes s (xs ++ (i, p) ∷ []) (m + n) s2
merging_one hashes s xs i p hash m n answer mid s2 first is offers one = merging_on hashes s xs ((i, p) ∷ []) m n mid s2 first (hash, answer, s2, 0, omega (arith, one), is, offers, (refl, refl))

merges_once : (answer : Offer) → merges_by answer ≤ 1
merges_once Skipped = omega arith
merges_once Zeroed = omega arith
merges_once Hinted = omega arith
merges_once Stale = omega arith
merges_once Merged = omega arith
merges_once FalseMatch = omega arith

-- no more are merged than are offered
pub merges_few : (hashes : List ℕ → ℕ) (s : Space) (xs : List (ℕ × ℕ)) (merged : ℕ) (s2 : Space) → ScansMerging hashes s xs merged s2 → merged ≤ length xs
merges_few hashes s [] merged s2 (none, is) = omega (arith, none)
merges_few hashes s (x ∷ xs) merged s2 (hash, answer, mid, more, sum, is, offers, rest) =
    let few = merges_few hashes mid xs more s2 rest in
    let once = merges_once answer in
    omega (arith, sum, few, once)

-- ---- there are as few pages

alone_few : (hashes : List ℕ → ℕ) (s : Space) (i p hash : ℕ) (answer : Offer) (s2 : Space)
    → OffersAlone hashes s i p hash answer s2 → HasFewPages s → HasFewPages s2
alone_few hashes s i p hash Skipped s2 (is, why) few = subst HasFewPages (sym is) few
alone_few hashes s i p hash FalseMatch s2 (is, why) few = subst HasFewPages (sym is) few
alone_few hashes s i p hash Zeroed s2 (g, offered, zeros, is) few = subst HasFewPages (sym is) few
alone_few hashes s i p hash Hinted s2 (g, offered, some, none, is) few = subst HasFewPages (sym is) few
alone_few hashes s i p hash Stale s2 (g, f, j, q, offered, some, found, apart, other, changed, is) few = subst HasFewPages (sym is) few
alone_few hashes s i p hash Merged s2 (g, f, offered, some, same, inl (n, found, is)) few = subst HasFewPages (sym is) few
alone_few hashes s i p hash Merged s2 (g, f, offered, some, same, inr (j, q, apart, hint, is)) few = subst HasFewPages (sym is) few

unlisted_few : (hashes : List ℕ → ℕ) (s : Space) (i p hash : ℕ) (answer : Offer) (s2 : Space)
    → OffersUnlisted hashes s i p hash answer s2 → HasFewPages s → HasFewPages s2
unlisted_few hashes s i p hash Skipped s2 (is, why) few = subst HasFewPages (sym is) few
unlisted_few hashes s i p hash FalseMatch s2 (is, why) few = subst HasFewPages (sym is) few
unlisted_few hashes s i p hash Zeroed s2 (f, n, may, zeros, is) few = subst HasFewPages (sym is) few
unlisted_few hashes s i p hash Hinted s2 (f, n, may, some, none, is) few = subst HasFewPages (sym is) few
unlisted_few hashes s i p hash Stale s2 (f, n, g, j, q, may, some, found, offered, changed, is) few = subst HasFewPages (sym is) few
unlisted_few hashes s i p hash Merged s2 (f, n, g, may, some, same, inl (m, found, is)) few = subst HasFewPages (sym is) few
unlisted_few hashes s i p hash Merged s2 (f, n, g, may, some, same, inr (j, q, hint, is)) few = subst HasFewPages (sym is) few

offers_few : (hashes : List ℕ → ℕ) (s : Space) (i p hash : ℕ) (answer : Offer) (s2 : Space)
    → Offers hashes s i p hash answer s2 → HasFewPages s → HasFewPages s2
offers_few hashes s i p hash answer s2 (inl o) few = alone_few hashes s i p hash answer s2 o few
offers_few hashes s i p hash answer s2 (inr o) few = unlisted_few hashes s i p hash answer s2 o few

pub scans_few : (hashes : List ℕ → ℕ) (s : Space) (xs : List (ℕ × ℕ)) (s2 : Space) → Scans hashes s xs s2
    → HasFewPages s → HasFewPages s2
scans_few hashes s [] s2 is few = subst HasFewPages (sym is) few
scans_few hashes s (x ∷ xs) s2 (hash, answer, mid, is, offers, rest) few = scans_few hashes mid xs s2 rest (offers_few hashes s x.0 x.1 hash answer mid offers few)

-- ---- no page comes or goes

row_of : (b : Backing) (ts : List (List Page)) (i : ℕ) → length (get_or (contents b ts) i []) ≡ length (get_or ts i [])
row_of b [] i = refl
row_of b (t ∷ ts) zero = length-map t (page_bytes b)
row_of b (t ∷ ts) (suc i) = row_of b ts i

pub scans_rows : (hashes : List ℕ → ℕ) (s : Space) (xs : List (ℕ × ℕ)) (s2 : Space) (i : ℕ) → IsSound s
    → Scans hashes s xs s2 → length (get_or s2.tables i []) ≡ length (get_or s.tables i [])
scans_rows hashes s xs s2 i sound scans =
    let same = (scans_soundly hashes s xs s2 sound scans).1 in
    sym (row_of (backing s2) s2.tables i) ∙ (ap (λ (z : List (List (List ℕ))). length (get_or z i [])) same ∙ row_of (backing s) s.tables i)

-- nor does an instance
alone_occupants : (hashes : List ℕ → ℕ) (s : Space) (i p hash : ℕ) (answer : Offer) (s2 : Space)
    → OffersAlone hashes s i p hash answer s2 → s2.occupants ≡ s.occupants
alone_occupants hashes s i p hash Skipped s2 (is, why) = ap (λ (z : Space). z.occupants) is
alone_occupants hashes s i p hash FalseMatch s2 (is, why) = ap (λ (z : Space). z.occupants) is
alone_occupants hashes s i p hash Zeroed s2 (g, offered, zeros, is) = ap (λ (z : Space). z.occupants) is
alone_occupants hashes s i p hash Hinted s2 (g, offered, some, none, is) = ap (λ (z : Space). z.occupants) is
alone_occupants hashes s i p hash Stale s2 (g, f, j, q, offered, some, found, apart, other, changed, is) = ap (λ (z : Space). z.occupants) is
alone_occupants hashes s i p hash Merged s2 (g, f, offered, some, same, inl (n, found, is)) = ap (λ (z : Space). z.occupants) is
alone_occupants hashes s i p hash Merged s2 (g, f, offered, some, same, inr (j, q, apart, hint, is)) = ap (λ (z : Space). z.occupants) is

unlisted_occupants : (hashes : List ℕ → ℕ) (s : Space) (i p hash : ℕ) (answer : Offer) (s2 : Space)
    → OffersUnlisted hashes s i p hash answer s2 → s2.occupants ≡ s.occupants
unlisted_occupants hashes s i p hash Skipped s2 (is, why) = ap (λ (z : Space). z.occupants) is
unlisted_occupants hashes s i p hash FalseMatch s2 (is, why) = ap (λ (z : Space). z.occupants) is
unlisted_occupants hashes s i p hash Zeroed s2 (f, n, may, zeros, is) = ap (λ (z : Space). z.occupants) is
unlisted_occupants hashes s i p hash Hinted s2 (f, n, may, some, none, is) = ap (λ (z : Space). z.occupants) is
unlisted_occupants hashes s i p hash Stale s2 (f, n, g, j, q, may, some, found, offered, changed, is) = ap (λ (z : Space). z.occupants) is
unlisted_occupants hashes s i p hash Merged s2 (f, n, g, may, some, same, inl (m, found, is)) = ap (λ (z : Space). z.occupants) is
unlisted_occupants hashes s i p hash Merged s2 (f, n, g, may, some, same, inr (j, q, hint, is)) = ap (λ (z : Space). z.occupants) is

offers_occupants : (hashes : List ℕ → ℕ) (s : Space) (i p hash : ℕ) (answer : Offer) (s2 : Space)
    → Offers hashes s i p hash answer s2 → s2.occupants ≡ s.occupants
offers_occupants hashes s i p hash answer s2 (inl o) = alone_occupants hashes s i p hash answer s2 o
offers_occupants hashes s i p hash answer s2 (inr o) = unlisted_occupants hashes s i p hash answer s2 o

pub scans_occupants : (hashes : List ℕ → ℕ) (s : Space) (xs : List (ℕ × ℕ)) (s2 : Space) → Scans hashes s xs s2 → s2.occupants ≡ s.occupants
scans_occupants hashes s [] s2 is = ap (λ (z : Space). z.occupants) is
scans_occupants hashes s (x ∷ xs) s2 (hash, answer, mid, is, offers, rest) = scans_occupants hashes mid xs s2 rest ∙ offers_occupants hashes s x.0 x.1 hash answer mid offers

-- ---- a table has few pages

-- ---- the next one

pub before_next : (i n : ℕ) → pages_before i (n + 1) ≡ pages_before i n ++ (i, n) ∷ []
before_next i n = let e : n + 1 ≡ suc n = omega arith in rw e refl
