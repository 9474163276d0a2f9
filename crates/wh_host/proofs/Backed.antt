-- What keeps tickets, slots, frames and the tax as they are.
use Rattle.std.proofs.Common.{◌≡◌, ℕ, ◌*◌, List, [], ◌∷◌, length, map, zero, suc, slice_get, Some, inl, inr, refl, ap, ◌∙◌, arith, rules}
use Rattle.wh_space_model.specs.declared.states.Offer.{Offer}
use Rattle.wh_space_model.specs.declared.states.Offer.TheVariants.{Skipped, Zeroed, Hinted, Stale, Merged, FalseMatch}
use Rattle.wh_space_model.specs.declared.states.Slot.{Slot}
use Rattle.wh_space_model.specs.declared.states.Slot.TheVariants.{Vacant, Taken, Evicting, EvictVoid, Fetching, FetchVoid}
use Rattle.wh_space_model.specs.Frames.{Pool}
use Rattle.wh_space_model.specs.Parts.{Slots}
use Rattle.wh_space_model.specs.{Claimed, Copies, IsSound, Pass, errand_for, pass_of, OffersAlone, OffersUnlisted, Space, Exits, released_use, Scans}
use Rattle.wh_space_model.specs.Offers.{Offers}
use Rattle.wh_space_model.proofs.Entered.{enters_soundly}
use Rattle.wh_space_model.proofs.Forked.{IsKept, lent_first}
use Rattle.wh_host.specs.Backing.{KeepsBacking}

-- there are as many slots where the same tickets are out
many_out : (xs ys : List Slot) → map errand_for ys ≡ map errand_for xs → length ys ≡ length xs
many_out [] [] same = refl
many_out [] (y ∷ ys) same = absurd (cc same)
many_out (x ∷ xs) [] same = absurd (cc same)
many_out (x ∷ xs) (y ∷ ys) same = ap suc (many_out xs ys (cc same))

backs : (s s2 : Space) → pass_of s2 ≡ pass_of s → length s2.pool.frames ≡ length s.pool.frames → s2.tax ≡ s.tax → KeepsBacking s s2
backs s s2 pass frames tax = record { pass = pass; frames = frames; slots = many_out s.slots.uses s2.slots.uses (ap (λ (p : Pass). p.out) pass); tax = tax }

-- ---- nothing, and one thing after the other

pub same_backing : (s s2 : Space) → s2 ≡ s → KeepsBacking s s2
same_backing s s2 e = backs _ _ (ap pass_of e) (ap (λ (a : Space). length a.pool.frames) e) (ap (λ (a : Space). a.tax) e)

pub then_backing : (a b c : Space) → KeepsBacking a b → KeepsBacking b c → KeepsBacking a c
then_backing a b c first second = backs _ _ (second.pass ∙ first.pass) (second.frames ∙ first.frames) (second.tax ∙ first.tax)

-- ---- standing

-- ---- steps

-- ---- who comes and goes

errand_released : (i n : ℕ) (x : Slot) → errand_for (released_use i n x) ≡ errand_for x
errand_released i n Vacant = refl
errand_released i n Taken = search rules
errand_released i n (Evicting j p) = search rules
errand_released i n (EvictVoid j) = refl
errand_released i n (Fetching j p f) = search rules
errand_released i n (FetchVoid j f) = refl

one_use : (x y : Slot) → Some x ≡ Some y → x ≡ y
one_use x y e = cc e

one_length : (m n : ℕ) → suc m ≡ suc n → m ≡ n
one_length m n e = omega (arith, e)

same_errands : (xs ys : List Slot) → length ys ≡ length xs → ((k : ℕ) (x : Slot) → slice_get xs k ≡ Some x → (y : Slot) × (slice_get ys k ≡ Some y) × (errand_for y ≡ errand_for x)) → map errand_for ys ≡ map errand_for xs
same_errands [] [] many each = refl
same_errands [] (y ∷ ys) many each = absurd (cc many)
same_errands (x ∷ xs) [] many each = absurd (cc many)
same_errands (x ∷ xs) (y ∷ ys) many each =
    let first = each zero x refl in
    let head : errand_for y ≡ errand_for x = ap errand_for (one_use y first.0 first.1) ∙ first.2 in
    let tail = same_errands xs ys (one_length (length ys) (length xs) many) (λ k z at. each (suc k) z at) in
    cc (head, tail)

pub exits_backing : (s : Space) (i : ℕ) (s2 : Space) → Exits s i s2 → KeepsBacking s s2
exits_backing s i s2 exits = search (rules, same_errands, errand_released, backs, ℕ)

-- ---- offers

alone_backing : (hashes : List ℕ → ℕ) (s : Space) (i p hash : ℕ) (answer : Offer) (s2 : Space) → OffersAlone hashes s i p hash answer s2 → KeepsBacking s s2
alone_backing hashes s i p hash Skipped s2 (is, why) = same_backing s s2 is
alone_backing hashes s i p hash FalseMatch s2 (is, why) = same_backing s s2 is
alone_backing hashes s i p hash Hinted s2 (g, offered, some, none, is) = backs _ _ (ap pass_of is) (ap (λ (a : Space). length a.pool.frames) is) (ap (λ (a : Space). a.tax) is)
alone_backing hashes s i p hash Stale s2 (g, f, j, q, offered, some, found, apart, other, changed, is) = backs _ _ (ap pass_of is) (ap (λ (a : Space). length a.pool.frames) is) (ap (λ (a : Space). a.tax) is)
alone_backing hashes s i p hash Zeroed s2 (g, offered, zeros, is) = backs _ _ (ap pass_of is) (ap (λ (a : Space). length a.pool.frames) is) (ap (λ (a : Space). a.tax) is)
alone_backing hashes s i p hash Merged s2 (g, f, offered, some, same, inl (n, found, is)) = backs _ _ (ap pass_of is) (ap (λ (a : Space). length a.pool.frames) is) (ap (λ (a : Space). a.tax) is)
alone_backing hashes s i p hash Merged s2 (g, f, offered, some, same, inr (j, q, apart, hint, is)) = backs _ _ (ap pass_of is) (ap (λ (a : Space). length a.pool.frames) is) (ap (λ (a : Space). a.tax) is)

unlisted_backing : (hashes : List ℕ → ℕ) (s : Space) (i p hash : ℕ) (answer : Offer) (s2 : Space) → OffersUnlisted hashes s i p hash answer s2 → KeepsBacking s s2
unlisted_backing hashes s i p hash Skipped s2 (is, why) = same_backing s s2 is
unlisted_backing hashes s i p hash FalseMatch s2 (is, why) = same_backing s s2 is
unlisted_backing hashes s i p hash Hinted s2 (f, n, may, some, none, is) = backs _ _ (ap pass_of is) (ap (λ (a : Space). length a.pool.frames) is) (ap (λ (a : Space). a.tax) is)
unlisted_backing hashes s i p hash Stale s2 (f, n, g, j, q, may, some, found, offered, changed, is) = backs _ _ (ap pass_of is) (ap (λ (a : Space). length a.pool.frames) is) (ap (λ (a : Space). a.tax) is)
unlisted_backing hashes s i p hash Zeroed s2 (f, n, may, zeros, is) = backs _ _ (ap pass_of is) (ap (λ (a : Space). length a.pool.frames) is) (ap (λ (a : Space). a.tax) is)
unlisted_backing hashes s i p hash Merged s2 (f, n, g, may, some, same, inl (m, found, is)) = backs _ _ (ap pass_of is) (ap (λ (a : Space). length a.pool.frames) is) (ap (λ (a : Space). a.tax) is)
unlisted_backing hashes s i p hash Merged s2 (f, n, g, may, some, same, inr (j, q, hint, is)) = backs _ _ (ap pass_of is) (ap (λ (a : Space). length a.pool.frames) is) (ap (λ (a : Space). a.tax) is)

pub offers_backing : (hashes : List ℕ → ℕ) (s : Space) (i p hash : ℕ) (answer : Offer) (s2 : Space) → Offers hashes s i p hash answer s2 → KeepsBacking s s2
offers_backing hashes s i p hash answer s2 (inl o) = alone_backing hashes s i p hash answer s2 o
offers_backing hashes s i p hash answer s2 (inr o) = unlisted_backing hashes s i p hash answer s2 o

pub scans_backing : (hashes : List ℕ → ℕ) (s : Space) (pages : List (ℕ × ℕ)) (s2 : Space) → Scans hashes s pages s2 → KeepsBacking s s2
scans_backing hashes s [] s2 is = same_backing s s2 is
scans_backing hashes s (page ∷ pages) s2 (hash, answer, mid, its, offer, rest) =
    then_backing s mid s2 (offers_backing hashes s page.0 page.1 hash answer mid offer) (scans_backing hashes mid pages s2 rest)

-- ---- a copy

pub copies_backing : (s : Space) (i j : ℕ) (c : Claimed) (s2 : Space) → IsSound s → Copies s i j c s2 → KeepsBacking s s2
copies_backing s i j c s2 sound copies =
    let mid : Space = copies.mid in
    let enters = copies.enters in
    let lent = lent_first mid i j (16 * copies.size) s2 (enters_soundly s j c copies.size mid sound enters) copies.apart copies.lends in
    let keeps : IsKept mid s2 = lent.keeps in
    let before = enters.leaves in
    let first : KeepsBacking s mid = backs s mid (ap pass_of before) (ap (λ (a : Space). length a.pool.frames) before) (ap (λ (a : Space). a.tax) before) in
    let then : KeepsBacking mid s2 = backs mid s2 (ap (λ (z : Slots). let p : Pass = record { held = z.held; out = map errand_for z.uses } in p) keeps.slots) (ap (λ (z : Pool). length z.frames) keeps.pool) keeps.tax in
    then_backing s mid s2 first then
