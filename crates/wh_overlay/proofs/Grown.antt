-- A memory that has grown where it is written back.
use Rattle.std.proofs.Common.{◌≡◌, ◌∙◌, ℕ, ◌+◌, ◌-◌, ◌*◌, ◌/◌, ◌<◌, ◌≤◌, true, List, [], ◌∷◌, ◌++◌, Option, None, Some, length, get_or, replicate, slice_get, zero, suc, refl, ap, arith, rules}
use Rattle.wh_model.specs.declared.memory.Grown.{Grown}
use Rattle.wh_model.specs.declared.memory.Grown.TheVariants.{Done, Refused}
use Rattle.wh_model.specs.Execution.{Grows}
use Rattle.wh_space_model.specs.declared.states.Page.{Page}
use Rattle.wh_space_model.specs.declared.states.Page.TheVariants.{Untouched}
use Rattle.wh_space_model.specs.{Occupant, Space, claim_of, view, IsSound, page_at}
use Rattle.wh_space_model.proofs.Putting.{is_page, there_of}
use Rattle.wh_space.specs.Steps.{LeavesGrowth, limit_by, page_limit}
use Rattle.wh_overlay.specs.LaidPages.{grown_by}
use Rattle.wh_overlay.proofs.Marks.{got_there, got_elsewhere}

pub in_front : {X : Type 0} (xs ys : List X) (i : ℕ) (x : X) → slice_get xs i ≡ Some x → slice_get (xs ++ ys) i ≡ Some x
in_front [] ys i x e = absurd (cc e)
in_front (z ∷ xs) ys zero x e = e
in_front (z ∷ xs) ys (suc i) x e = in_front xs ys i x e

-- pages stay
pub same_before : (s s2 : Space) (i n : ℕ) (grown : Grown) (number : ℕ) (state : Page) → LeavesGrowth s i n grown s2 → page_at s.tables i number ≡ Some state → page_at s2.tables i number ≡ Some state
same_before s s2 i n (Done pages) number state grew there = search (rules, is_page, got_there, replicate, in_front)
same_before s s2 i n Refused number state same there = ap (λ (z : Space). page_at z.tables i number) same ∙ there

-- and others' too
pub others_stay : (s s2 : Space) (i n j : ℕ) (grown : Grown) → LeavesGrowth s i n grown s2 → (j ≡ i → ⊥) → get_or s2.tables j [] ≡ get_or s.tables j []
others_stay s s2 i n j (Done pages) grew other = ap (λ (z : Space). get_or z.tables j []) grew ∙ got_elsewhere s.tables i j (get_or s.tables i [] ++ replicate (16 * n) Untouched) [] other
others_stay s s2 i n j Refused same other = ap (λ (z : Space). get_or z.tables j []) same

-- the limit is kept, so it grows
pub sees_grown : (s s2 : Space) (i n : ℕ) (grown : Grown) → Grows (page_limit s i) (view s i) n grown (view s2 i) → length (view s i) + n * 65536 ≤ page_limit s i * 65536 → view s2 i ≡ grown_by (view s i) n
sees_grown s s2 i n (Done pages) grows within = grows.2
sees_grown s s2 i n Refused grows within = absurd (let past = grows.0 in omega (arith, past, within))

behind : {X : Type 0} (xs ys : List X) (p : ℕ) → length xs ≤ p → slice_get (xs ++ ys) p ≡ slice_get ys (p - length xs)
behind [] ys p least = let e : p - 0 ≡ p = omega arith in rw e refl
behind (x ∷ xs) ys zero least = absurd (omega (arith, least))
behind (x ∷ xs) ys (suc p) least = let e : suc p - suc (length xs) ≡ p - length xs = omega arith in rw e (behind xs ys p (omega (arith, least)))

repeated : {X : Type 0} (n : ℕ) (x : X) (p : ℕ) → p < n → slice_get (replicate n x) p ≡ Some x
repeated zero x p less = absurd (omega (arith, less))
repeated (suc n) x zero less = refl
repeated (suc n) x (suc p) less = repeated n x p (omega (arith, less))

-- the pages by which it has grown are untouched
pub come_behind : (s s2 : Space) (i n before p : ℕ) {t : Option Occupant} → LeavesGrowth s i n (Done before) s2 → IsSound s → slice_get s.occupants i ≡ Some t → length (get_or s.tables i []) ≤ p
    → p < length (get_or s.tables i []) + 16 * n → page_at s2.tables i p ≡ Some Untouched
come_behind s s2 i n before p {t} grew sound there least less = search (rules, there_of, got_there, replicate, behind, repeated)

-- who may grow lives
pub record Lives (xs : List (Option Occupant)) (i : ℕ) : Type 0 where
  pub occupant : Occupant
  pub there : slice_get xs i ≡ Some (Some occupant)
  pub live : occupant.live ≡ true
  pub limit : limit_by (claim_of (get_or xs i None)) ≡ occupant.max / 16

pub lives : (xs : List (Option Occupant)) (i : ℕ) → 1 ≤ limit_by (claim_of (get_or xs i None)) → Lives xs i
lives [] i some = absurd (omega (arith, some))
lives (None ∷ xs) zero some = absurd (omega (arith, some))
lives (Some t ∷ xs) zero some = search rules
lives (x ∷ xs) (suc i) some =
    let rest = lives xs i some in
    record { occupant = rest.occupant; there = rest.there; live = rest.live; limit = rest.limit }

pub come_after : (s s2 : Space) (i n : ℕ) (grown : Grown) (p : ℕ) → LeavesGrowth s i n grown s2 → Grows (page_limit s i) (view s i) n grown (view s2 i) → IsSound s → 1 ≤ n → length (view s i) + n * 65536 ≤ page_limit s i * 65536
    → length (get_or s.tables i []) ≤ p → p < length (get_or s.tables i []) + 16 * n → page_at s2.tables i p ≡ Some Untouched
come_after s s2 i n (Done before) p grew grows sound some within least less =
    come_behind s s2 i n before p grew sound (lives s.occupants i (omega (arith, some, within))).there least less
come_after s s2 i n Refused p same grows sound some within least less = absurd (let past = grows.0 in omega (arith, past, within))
