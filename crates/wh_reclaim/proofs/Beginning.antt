-- What is reserved for a step, and tickets that begin.
use Rattle.std.proofs.Common.{◌≡◌, ◌∙◌, inl, inr, ℕ, ◌<◌, ◌≤◌, cond, min, Bool, true, false, List, [], ◌∷◌, Option, Some, None, length, length-append, get_or, slice_get, zero, suc, refl, sym, ap, arith}
use Rattle.wh_model.specs.declared.memory.Need.{Need}
use Rattle.wh_space_model.specs.{one_if, tally, MustLeave, IsFirstSwapped, Occupant, Space, kept_by, need_of, wants, among, frames_in_all, may_take, pages_of_need, at, page_at, swapped, BeginsEvict, BeginsFetch, Reserves, WaitsForBytes}
use Rattle.wh_space_model.proofs.Tally.{one_other}
use Rattle.wh_space_model.proofs.Putting.{cond_here, get_or_is, here_or}
use Rattle.wh_space.specs.Transits.{IsDeparting, IsSentFor}

-- ---- who waits for a frame

pub stands_wants : (s : Space) (i : ℕ) (need : Need) → WaitsForBytes s i need → wants s i ≡ Some need
stands_wants s i need (t, there, live, stands) =
    let is : get_or s.occupants i None ≡ Some t = get_or_is s.occupants i (Some t) None there in
    rw (is, live) stands

pub none_stands : (s : Space) (i : ℕ) → wants s i ≡ None → (need : Need) → ¬ WaitsForBytes s i need
none_stands s i none need stands = let some = stands_wants s i need stands in absurd (cc (none, some))

there_is : (xs : List (Option Occupant)) (i : ℕ) (t : Occupant) → get_or xs i None ≡ Some t → slice_get xs i ≡ Some (Some t)
there_is [] i t is = absurd (cc is)
there_is (x ∷ xs) zero t is = ap Some is
there_is (x ∷ xs) (suc i) t is = there_is xs i t is

pub wants_stands : (s : Space) (i : ℕ) (need : Need) → wants s i ≡ Some need → WaitsForBytes s i need
wants_stands s i need is = go (get_or s.occupants i None) refl is where
  by : (t : Occupant) (live : Bool) → t.live ≡ live → get_or s.occupants i None ≡ Some t → cond live t.stands None ≡ Some need → WaitsForBytes s i need
  by t true live e is = (t, there_is s.occupants i t e, live, is)
  by t false live e is = absurd (cc is)

  go : (o : Option Occupant) → get_or s.occupants i None ≡ o → need_of o ≡ Some need → WaitsForBytes s i need
  go None e is = absurd (cc is)
  go (Some t) e is = by t t.live refl e is

-- ---- what is reserved

one_among : (s : Space) (i p : ℕ) (ps : List ℕ) → 1 ≤ tally (one_if p) ps → at swapped (page_at s.tables i p) ≡ 1 → 1 ≤ among swapped s i ps
one_among s i p [] some one = some
one_among s i p (q ∷ ps) some one =
    elim (here_or p q) [
      | inl same ↦ (let e : at swapped (page_at s.tables i q) ≡ 1 = rw same one in omega arith)
      | inr other ↦ (let o = one_other p q (λ e. other (sym e)) in let rest = one_among s i p ps (omega arith) one in omega arith)
    ]

pub some_swapped : (s : Space) (i : ℕ) (need : Need) (p : ℕ) → IsFirstSwapped s i need p → 1 ≤ among swapped s i (pages_of_need need)
some_swapped s i need p first = one_among s i p (pages_of_need need) first.0 first.1

min_some : (n m : ℕ) → 1 ≤ m → min n m ≡ 0 → n ≡ 0
min_some n m some none = grind arith

-- where there is a frame to take, one is earmarked
pub frame_kept : (s : Space) (i : ℕ) (need : Need) (p : ℕ) (s1 : Space) → Reserves s i need s1 → IsFirstSwapped s1 i need p → ¬ (may_take s1 i ≡ 0) → 1 ≤ length (kept_by s1.pins i)
frame_kept s i need p s1 reserves first some =
    let swaps = some_swapped s1 i need p first in
    let wanted : frames_in_all s1 i need ≡ frames_in_all s i need = ap (λ (z : Space). frames_in_all z i need) reserves.leaves in
    let kept : kept_by s1.pins i ≡ reserves.frames = ap (λ (z : Space). kept_by z.pins i) reserves.leaves ∙ cond_here i reserves.frames [] in
    let many : length (kept_by s1.pins i) ≡ length reserves.frames = ap length kept in
    let free : s1.pool.free ≡ reserves.others = ap (λ (z : Space). z.pool.free) reserves.leaves in
    let left : length s1.pool.free ≡ length reserves.others = ap length free in
    let all = ap length reserves.free ∙ length-append reserves.others reserves.frames in
    let count = reserves.many in
    let not : ¬ (length reserves.frames ≡ 0) = λ none.
    (let zero_free = min_some _ (frames_in_all s i need) (omega arith) (sym count ∙ none) in some (omega arith)) in
    omega (arith, not, many)

-- ---- what begins

pub begins_evict : (s : Space) (i : ℕ) (need : Need) (s1 : Space) (j p k : ℕ) (bytes : List ℕ) (s2 : Space) → WaitsForBytes s i need → Reserves s i need s1 → may_take s1 i < frames_in_all s1 i need
    → MustLeave s1 i need j p → IsDeparting s1 j p k bytes s2 → BeginsEvict s i (Some k) bytes s2
begins_evict s i need s1 j p k bytes s2 stands reserves less must (f, old, new, page, frame, leaving, are, others, vacant, is) =
    (need, stands, s1, reserves, less, j, p, f, must, old, new, page, frame, leaving, are, others, vacant, is)

pub begins_fetch : (s : Space) (i : ℕ) (need : Need) (s1 : Space) (p k : ℕ) (s2 : Space) → WaitsForBytes s i need → Reserves s i need s1 → IsFirstSwapped s1 i need p → IsSentFor s1 i p k s2 → BeginsFetch s i (Some k) s2
begins_fetch s i need s1 p k s2 stands reserves first (f, page, others, kept, is) = (need, stands, s1, reserves, p, f, first, page, others, kept, is)
