-- What is void, and what is needless.
use Rattle.std.proofs.Common.{◌≡◌, ℕ, ◌≤◌, ◌==◌, inl, inr, cond, nat_lt, map, true, false, Bool, List, [], ◌∷◌, Some, length, slice_get, zero, suc, refl, sym, ap, ◌∙◌, subst, arith}
use Rattle.std.proofs.lemmas.Bool.Decides.{nat_tests}
use Rattle.wh_model.specs.declared.memory.Need.{Need}
use Rattle.wh_model.specs.Execution.Memory.{writing}
use Rattle.wh_space_model.specs.{tally, one_if, CommitsEvict, IsFirstSwapped, pinned, IsServed, Move, MovesOn, Serves, comes, goes, leaves, NothingNeedless, ReleasedIsVoid, WrittenIsVoid, Slots, Space, among, pages_of_need, at, leaving, page_at, swapped, count_of, lies_in, released_use, BreaksEach, GetsFrame, LeavesSharers, voided}
use Rattle.wh_space_model.proofs.Tally.{one_same, one_other}
use Rattle.wh_space_model.specs.declared.states.Slot.TheVariants.{Evicting, EvictVoid}
use Rattle.wh_space_model.specs.declared.states.EvictEnd.{EvictEnd}
use Rattle.wh_space_model.specs.declared.states.EvictEnd.TheVariants.{Void}
use Rattle.wh_space_model.specs.declared.states.Page.{Page}
use Rattle.wh_space_model.specs.declared.states.Page.TheVariants.{Untouched, Private, Shared, Leaving, LeavingShared, Coming, Swapped}
use Rattle.wh_space_model.proofs.BrokenEach.{map_voided, map_voided_none}
use Rattle.wh_space_model.proofs.Putting.{here_or}

get_mapped : {X Y : Type 0} (g : X → Y) (xs : List X) (k : ℕ) (x : X) → slice_get xs k ≡ Some x → slice_get (map g xs) k ≡ Some (g x)
get_mapped g [] k x h = cc
get_mapped g (y ∷ xs) zero x h = let e : y ≡ x = cc in cc
get_mapped g (y ∷ xs) (suc k) x h = get_mapped g xs k x h

void_commit : (s : Space) (k j : ℕ) (wrote : Bool) (bytes : List ℕ) (end : EvictEnd) (s2 : Space) → slice_get s.slots.uses k ≡ Some (EvictVoid j) → CommitsEvict s k wrote bytes end s2 → end ≡ Void
void_commit s k j wrote bytes end s2 void (inl (i, at_it, ends, is)) = ends
void_commit s k j wrote bytes end s2 void (inr (i, p, f, at_it, page, there, on, rest)) = absurd (let bad : Some (EvictVoid j) ≡ Some (Evicting i p) = sym void ∙ at_it in cc)

lt_some : (n : ℕ) → 1 ≤ n → nat_lt 0 n ≡ true
lt_some n some = grind (arith, nat_tests)

voided_is : (i p : ℕ) (pages : List ℕ) → 1 ≤ tally (one_if p) pages → voided i pages (Evicting i p) ≡ EvictVoid i
voided_is i p pages some =
    let here : nat_lt 0 (one_if i i) ≡ true = lt_some (one_if i i) (let o = one_same i i refl in omega arith) in
    let there : nat_lt 0 (tally (one_if p) pages) ≡ true = lt_some (tally (one_if p) pages) some in
    rw (here, there) refl

-- the tickets after a break, and after several
sharers_uses : (s : Space) (i f g : ℕ) (mid : Space) → LeavesSharers s i f g mid → mid.slots ≡ s.slots
sharers_uses s i f g mid (inl (one, e, is)) = ap (λ (a : Space). a.slots) is
sharers_uses s i f g mid (inr (some, inl (rest, x, is))) = ap (λ (a : Space). a.slots) is
sharers_uses s i f g mid (inr (some, inr (rest, x, is))) = ap (λ (a : Space). a.slots) is

broken_uses : (s : Space) (i p g : ℕ) (page : Page) (mid : Space) → GetsFrame s i page g mid → mid.slots ≡ s.slots
broken_uses s i p g Untouched mid (inl (rest, some, is)) = ap (λ (a : Space). a.slots) is
broken_uses s i p g Untouched mid (inr (rest, some, is)) = ap (λ (a : Space). a.slots) is
broken_uses s i p g (Private f) mid (e, is) = ap (λ (a : Space). a.slots) is
broken_uses s i p g (Leaving f) mid (e, is) = ap (λ (a : Space). a.slots) is
broken_uses s i p g (Shared f) mid left = sharers_uses s i f g mid left
broken_uses s i p g (LeavingShared f) mid left = sharers_uses s i f g mid left
broken_uses s i p g (Coming k) mid none = absurd none
broken_uses s i p g (Swapped k) mid none = absurd none

each_uses : (s : Space) (i : ℕ) (ps : List ℕ) (s2 : Space) → BreaksEach s i ps s2 → s2.slots.uses ≡ map (voided i ps) s.slots.uses
each_uses s i [] s2 is = ap (λ (a : Space). a.slots.uses) is ∙ sym (map_voided_none i s.slots.uses)
each_uses s i (p ∷ ps) s2 (mid, b, more) =
    each_uses mid i ps s2 more
    ∙ (ap (λ (a : Space). map (voided i ps) a.slots.uses) b.after
    ∙ (ap (λ (a : Slots). map (voided i ps) (map (voided i (p ∷ [])) a.uses)) (broken_uses s i p b.frame b.page b.mid b.gets) ∙ map_voided i p ps s.slots.uses))

pub written_is_void : WrittenIsVoid
written_is_void s i p at given s2 k wrote bytes end s3 leaving writes member commits =
    let pages : List ℕ = pages_of_need (writing at (length given)) in
    let all : s2.slots.uses ≡ map (voided i pages) s.slots.uses = ap (λ (a : Space). a.slots.uses) writes.fills.after ∙ each_uses s i pages writes.mid writes.breaks in
    let uses : slice_get s2.slots.uses k ≡ Some (voided i pages (Evicting i p)) = ap (λ a. slice_get a k) all ∙ get_mapped (voided i pages) s.slots.uses k (Evicting i p) leaving in
    void_commit s2 k i wrote bytes end s3 (uses ∙ ap Some (voided_is i p pages member)) commits

released_is : (i p n : ℕ) → released_use i n (Evicting i p) ≡ EvictVoid i
released_is i p n = go (i == i) refl where
  differs : (i == i) ≡ false → ⊥
  differs e = grind (arith, nat_tests)

  go : (b : Bool) → (i == i) ≡ b → cond b (EvictVoid i) (Evicting i p) ≡ EvictVoid i
  go true e = refl
  go false e = absurd (differs e)

pub released_is_void : ReleasedIsVoid
released_is_void s i p s2 k wrote bytes end s3 leaving exits commits =
    let uses = exits.uses k (Evicting i p) leaving in
    void_commit s2 k i wrote bytes end s3 (uses ∙ ap Some (released_is i p (count_of (lies_in k) s.tables i))) commits

among_some : (s : Space) (i p : ℕ) (ps : List ℕ) → 1 ≤ tally (one_if p) ps → at swapped (page_at s.tables i p) ≡ 1 → 1 ≤ among swapped s i ps
among_some s i p [] some is = absurd (omega arith)
among_some s i p (q ∷ ps) some is =
    elim (here_or p q) [
      | inl same ↦ (let e : at swapped (page_at s.tables i q) ≡ 1 = subst (λ z. at swapped (page_at s.tables i z) ≡ 1) (sym same) is in omega arith)
      | inr other ↦ (let o = one_other p q (λ e. other (sym e)) in let rest = among_some s i p ps (omega arith) is in omega arith)
    ]

-- where a step is served at once nothing moves
none_moves : (s : Space) (i : ℕ) (need : Need) (moves : List Move) (mid : Space) → IsServed (pinned s i need) i need → Serves s i need moves mid → moves ≡ []
none_moves s i need [] mid served serves = refl
none_moves s i need (move ∷ moves) mid served (before, serves, moved) =
    let empty = none_moves s i need moves before served serves in
    let is : before ≡ pinned s i need = subst (λ ms. Serves s i need ms before) empty serves in
    absurd (stuck move (subst (λ a. MovesOn a i need move mid) is moved)) where
      no_first : (p : ℕ) → IsFirstSwapped (pinned s i need) i need p → ⊥
      no_first p first = let one = among_some (pinned s i need) i p (pages_of_need need) first.0 first.1 in let none = served.0 in omega arith

      stuck : (move : Move) → MovesOn (pinned s i need) i need move mid → ⊥
      stuck (comes bytes) (p, first, fetches) = no_first p first
      stuck goes (inl (some, full), rest) = let none = served.0 in omega arith
      stuck goes (inr (all, few), rest) = let enough = served.1 in omega arith

pub nothing_needless : NothingNeedless
nothing_needless s i need n s2 served (moves, mid, serves, many, done, earmarks) =
    sym many ∙ ap (tally leaves) (none_moves s i need moves mid served serves)
