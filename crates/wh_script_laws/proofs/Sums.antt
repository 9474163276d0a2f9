-- Where no ticket is out, what was promised at each place decides how much is promised in all.
use Rattle.std.proofs.Common.{◌≡◌, ℕ, zero, suc, ◌+◌, ◌-◌, ◌≤◌, Bool, true, false, List, [], ◌∷◌, Option, Some, None, get_or, slice_get, refl, sym, ap, ◌∙◌, arith, rules}
use Rattle.std.proofs.lemmas.Bool.Decides.{nat_tests}
use Rattle.wh_space_model.specs.{tally, one_if, is_ticket, ticket_of, tickets, Space, Occupant, Claimed, claim, claim_of, of_occupant, minima, spreads, IsSound}
use Rattle.wh_space_model.specs.declared.states.Slot.{Slot}
use Rattle.wh_space_model.specs.declared.states.Slot.TheVariants.{Vacant, Taken, Evicting, EvictVoid, Fetching, FetchVoid}
use Rattle.wh_space_model.proofs.Sums.{tally_le}

-- ---- sums over two lists that are alike but at one place

pub tally_alike : {A : Type 0} (none : A) (f : A → ℕ) (xs ys : List A) → f none ≡ 0
    → ((j : ℕ) → f (get_or xs j none) ≡ f (get_or ys j none)) → tally f xs ≡ tally f ys
tally_alike none f [] [] zero_there same = refl
tally_alike none f [] (y ∷ ys) zero_there same =
    let rest = tally_alike none f [] ys zero_there (λ j. same (suc j)) in
    let first : f none ≡ f y = same 0 in
    omega (arith, rest, first, zero_there)
tally_alike none f (x ∷ xs) [] zero_there same =
    let rest = tally_alike none f xs [] zero_there (λ j. same (suc j)) in
    let first : f x ≡ f none = same 0 in
    omega (arith, rest, first, zero_there)
tally_alike none f (x ∷ xs) (y ∷ ys) zero_there same =
    let rest = tally_alike none f xs ys zero_there (λ j. same (suc j)) in
    let first : f x ≡ f y = same 0 in
    omega (arith, rest, first)

-- ---- where no ticket is out, all are live

one_most : (f g : ℕ) → one_if f g ≤ 1
one_most f g = grind (arith, nat_tests)

ticket_counts : (i : ℕ) (x : Slot) → ticket_of i x ≤ is_ticket x
ticket_counts i Vacant = omega arith
ticket_counts i Taken = omega arith
ticket_counts i (Evicting j p) = one_most i j
ticket_counts i (EvictVoid j) = one_most i j
ticket_counts i (Fetching j p g) = one_most i j
ticket_counts i (FetchVoid j g) = one_most i j

some_there : {A : Type 0} (xs : List (Option A)) (i : ℕ) (x : A) → get_or xs i None ≡ Some x → slice_get xs i ≡ Some (Some x)
some_there [] i x e = absurd (cc e)
some_there (y ∷ xs) zero x e = ap (λ z. Some z) e
some_there (y ∷ xs) (suc i) x e = some_there xs i x e

live_or_not : (b : Bool) → (b ≡ false → ⊥) → b ≡ true
live_or_not true never = refl
live_or_not false never = absurd (never refl)

all_live : (s : Space) → IsSound s → tickets s ≡ 0 → (i : ℕ) (t : Occupant) → get_or s.occupants i None ≡ Some t → t.live ≡ true
all_live s sound none i t there = search (rules, live_or_not, some_there, tally_le, ticket_counts)

-- ---- what is promised at a place

abbrev pub of_claim : (Claimed → ℕ) → Option Claimed → ℕ
of_claim v None = 0
of_claim v (Some c) = v c

abbrev amount : (Claimed → ℕ) → Occupant → ℕ
amount v t = v (record { number = t.number; shares = t.shares; min = t.min; max = t.max })

by_claim : (v : Claimed → ℕ) (o : Option Occupant) → ((t : Occupant) → o ≡ Some t → t.live ≡ true)
    → of_occupant (amount v) o ≡ of_claim v (claim_of o)
by_claim v None live = refl
by_claim v (Some t) live = rw (live t refl) refl

at_place : (v : Claimed → ℕ) (s : Space) → IsSound s → tickets s ≡ 0 → (i : ℕ)
    → of_occupant (amount v) (get_or s.occupants i None) ≡ of_claim v (claim s i)
at_place v s sound none i = by_claim v (get_or s.occupants i None) (all_live s sound none i)

same_sums : (v : Claimed → ℕ) (s s2 : Space) → IsSound s → IsSound s2 → tickets s ≡ 0 → tickets s2 ≡ 0
    → ((j : ℕ) → claim s2 j ≡ claim s j) → tally (of_occupant (amount v)) s2.occupants ≡ tally (of_occupant (amount v)) s.occupants
same_sums v s s2 sound sound2 none none2 same =
    tally_alike None (of_occupant (amount v)) s2.occupants s.occupants refl
    (λ j. at_place v s2 sound2 none2 j ∙ ap (of_claim v) (same j) ∙ sym (at_place v s sound none j))

-- ---- minima and what may go beyond

-- how much is promised in all
pub record Promises (s s2 : Space) (min spread : ℕ) : Type 0 where
  pub minima : minima s2 ≡ minima s + min
  pub spreads : spreads s2 ≡ spreads s + spread

-- the same is promised at each place
pub claims_decide : (s s2 : Space) → IsSound s → IsSound s2 → tickets s ≡ 0 → tickets s2 ≡ 0
    → ((j : ℕ) → claim s2 j ≡ claim s j) → (minima s2 ≡ minima s) × (spreads s2 ≡ spreads s)
claims_decide s s2 sound sound2 none none2 same =
    (same_sums (λ c. c.min) s s2 sound sound2 none none2 same, same_sums (λ c. (c.max - c.min) + 1) s s2 sound sound2 none none2 same)
