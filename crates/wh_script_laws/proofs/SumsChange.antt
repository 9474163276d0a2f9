-- The sums of what instances were promised, where the claim at one place is another.
use Rattle.std.proofs.Common.{◌≡◌, ◌≢◌, ℕ, ◌+◌, ◌-◌, ◌≤◌, inl, inr, true, List, [], ◌∷◌, length, get_or, slice_get, Option, Some, None, zero, suc, refl, ap, ◌∙◌, arith, rules}
use Rattle.std.proofs.lemmas.Bool.Decides.{nat_tests}
use Rattle.wh_space_model.specs.{tally, one_if, Space, Occupant, Claimed, occupant_at, claim_of, claim, of_occupant, minima, spreads, tickets, is_ticket, ticket_of, IsSound, IsFreePlace}
use Rattle.wh_space_model.specs.declared.states.Slot.{Slot}
use Rattle.wh_space_model.specs.declared.states.Slot.TheVariants.{Vacant, Taken, Evicting, EvictVoid, Fetching, FetchVoid}
use Rattle.wh_host_model.specs.Host.{OthersLeftAlone}
use Rattle.wh_space_model.proofs.Putting.{get_or_is}
use Rattle.wh_space_model.proofs.Sums.{tally_le}

-- ---- where no ticket is out, all are live

one_at_most : (i j : ℕ) → one_if i j ≤ 1
one_at_most i j = grind (arith, nat_tests)

ticket_counts : (i : ℕ) (x : Slot) → ticket_of i x ≤ is_ticket x
ticket_counts i Vacant = omega arith
ticket_counts i Taken = omega arith
ticket_counts i (Evicting j p) = one_at_most i j
ticket_counts i (EvictVoid j) = one_at_most i j
ticket_counts i (Fetching j p f) = one_at_most i j
ticket_counts i (FetchVoid j f) = one_at_most i j

all_live : (s : Space) → IsSound s → tickets s ≡ 0 → (i : ℕ) (t : Occupant) → occupant_at s i t → t.live ≡ true
all_live s sound none i t at = search (rules, tally_le, ticket_counts)

-- ---- what a claim gives

-- what f gives for who has this claim
abbrev by_claim : (Claimed → ℕ) → Option Claimed → ℕ
by_claim f None = 0
by_claim f (Some c) = f c

abbrev IsLiveThere : Option Occupant → Type 0
IsLiveThere None = Unit {0}
IsLiveThere (Some t) = t.live ≡ true

abbrev occupant_claim : Occupant → Claimed
occupant_claim t = record { number = t.number; shares = t.shares; min = t.min; max = t.max }

by_claim_of : (f : Claimed → ℕ) (o : Option Occupant) → IsLiveThere o
    → of_occupant (λ t. f (occupant_claim t)) o ≡ by_claim f (claim_of o)
by_claim_of f None live = refl
by_claim_of f (Some t) live = search rules

live_there : (s : Space) → IsSound s → tickets s ≡ 0 → (i : ℕ) → IsLiveThere (get_or s.occupants i None)
live_there s sound none i = go s.occupants i (λ t at. all_live s sound none i t at) where
  go : (os : List (Option Occupant)) (k : ℕ) → ((t : Occupant) → slice_get os k ≡ Some (Some t) → t.live ≡ true)
      → IsLiveThere (get_or os k None)
  go [] k each = tt
  go (None ∷ os) zero each = tt
  go (Some t ∷ os) zero each = each t refl
  go (o ∷ os) (suc k) each = go os k each

-- ---- sums over lists of different lengths, nobody counting nothing

sums_same : {X : Type 0} (v : Option X → ℕ) (xs ys : List (Option X)) → v None ≡ 0
    → ((k : ℕ) → v (get_or xs k None) ≡ v (get_or ys k None)) → tally v xs ≡ tally v ys
sums_same v [] [] none each = refl
sums_same v [] (y ∷ ys) none each =
    let here : v None ≡ v y = each 0 in
    let rest = sums_same v [] ys none (λ k. each (suc k)) in omega (arith, none, here, rest)
sums_same v (x ∷ xs) [] none each =
    let here : v x ≡ v None = each 0 in
    let rest = sums_same v xs [] none (λ k. each (suc k)) in omega (arith, none, here, rest)
sums_same v (x ∷ xs) (y ∷ ys) none each =
    let here : v x ≡ v y = each 0 in
    let rest = sums_same v xs ys none (λ k. each (suc k)) in omega (arith, here, rest)

sums_change : {X : Type 0} (v : Option X → ℕ) (xs ys : List (Option X)) (i : ℕ) → v None ≡ 0
    → ((k : ℕ) → k ≢ i → v (get_or xs k None) ≡ v (get_or ys k None))
    → tally v xs + v (get_or ys i None) ≡ tally v ys + v (get_or xs i None)
sums_change v [] [] i none each = refl
sums_change v [] (y ∷ ys) zero none each =
    let rest = sums_same v [] ys none (λ k. each (suc k) (λ e. omega (arith, e))) in omega (arith, none, rest)
sums_change v [] (y ∷ ys) (suc i) none each =
    let here : v None ≡ v y = each 0 (λ e. omega (arith, e)) in
    let rest = sums_change v [] ys i none (λ k other. each (suc k) (λ e. other (omega (arith, e)))) in
    omega (arith, none, here, rest)
sums_change v (x ∷ xs) [] zero none each =
    let rest = sums_same v xs [] none (λ k. each (suc k) (λ e. omega (arith, e))) in omega (arith, none, rest)
sums_change v (x ∷ xs) [] (suc i) none each =
    let here : v x ≡ v None = each 0 (λ e. omega (arith, e)) in
    let rest = sums_change v xs [] i none (λ k other. each (suc k) (λ e. other (omega (arith, e)))) in
    omega (arith, none, here, rest)
sums_change v (x ∷ xs) (y ∷ ys) zero none each =
    let rest = sums_same v xs ys none (λ k. each (suc k) (λ e. omega (arith, e))) in omega (arith, rest)
sums_change v (x ∷ xs) (y ∷ ys) (suc i) none each =
    let here : v x ≡ v y = each 0 (λ e. omega (arith, e)) in
    let rest = sums_change v xs ys i none (λ k other. each (suc k) (λ e. other (omega (arith, e)))) in
    omega (arith, here, rest)

-- ---- the two sums of a memory

-- sound, with no ticket out
pub record IsQuiet (s : Space) : Type 0 where
  pub sound : IsSound s
  pub none_out : tickets s ≡ 0

claims_change : (f : Claimed → ℕ) (s s2 : Space) (i : ℕ) → IsQuiet s → IsQuiet s2 → OthersLeftAlone i s s2
    → tally (of_occupant (λ t. f (occupant_claim t))) s.occupants + by_claim f (claim s2 i)
    ≡ tally (of_occupant (λ t. f (occupant_claim t))) s2.occupants + by_claim f (claim s i)
claims_change f s s2 i quiet quiet2 others = search (rules, ℕ, by_claim_of, live_there, sums_change)

pub minima_change : (s s2 : Space) (i : ℕ) (c c2 : Option Claimed) → IsQuiet s → IsQuiet s2 → OthersLeftAlone i s s2
    → claim s i ≡ c → claim s2 i ≡ c2
    → minima s + by_claim (λ x. x.min) c2 ≡ minima s2 + by_claim (λ x. x.min) c
minima_change s s2 i c c2 quiet quiet2 others e e2 = search (rules, claims_change)

pub spreads_change : (s s2 : Space) (i : ℕ) (c c2 : Option Claimed) → IsQuiet s → IsQuiet s2 → OthersLeftAlone i s s2
    → claim s i ≡ c → claim s2 i ≡ c2
    → spreads s + by_claim (λ x. (x.max - x.min) + 1) c2 ≡ spreads s2 + by_claim (λ x. (x.max - x.min) + 1) c
spreads_change s s2 i c c2 quiet quiet2 others e e2 = search (rules, claims_change)

-- the claim there is the same
pub minima_same : (s s2 : Space) (i : ℕ) → IsQuiet s → IsQuiet s2 → OthersLeftAlone i s s2 → claim s2 i ≡ claim s i
    → minima s2 ≡ minima s
minima_same s s2 i quiet quiet2 others e =
    let sums = minima_change s s2 i (claim s i) (claim s i) quiet quiet2 others refl e in omega (arith, sums)

pub spreads_same : (s s2 : Space) (i : ℕ) → IsQuiet s → IsQuiet s2 → OthersLeftAlone i s s2 → claim s2 i ≡ claim s i
    → spreads s2 ≡ spreads s
spreads_same s s2 i quiet quiet2 others e =
    let sums = spreads_change s s2 i (claim s i) (claim s i) quiet quiet2 others refl e in omega (arith, sums)

-- the place is taken
pub minima_more : (s s2 : Space) (i : ℕ) (c : Claimed) → IsQuiet s → IsQuiet s2 → OthersLeftAlone i s s2
    → claim s i ≡ None → claim s2 i ≡ Some c → minima s2 ≡ minima s + c.min
minima_more s s2 i c quiet quiet2 others e e2 =
    let sums = minima_change s s2 i None (Some c) quiet quiet2 others e e2 in omega (arith, sums)

pub spreads_more : (s s2 : Space) (i : ℕ) (c : Claimed) → IsQuiet s → IsQuiet s2 → OthersLeftAlone i s s2
    → claim s i ≡ None → claim s2 i ≡ Some c → spreads s2 ≡ spreads s + ((c.max - c.min) + 1)
spreads_more s s2 i c quiet quiet2 others e e2 =
    let sums = spreads_change s s2 i None (Some c) quiet quiet2 others e e2 in omega (arith, sums)

-- the place is left
pub minima_less : (s s2 : Space) (i : ℕ) (c : Claimed) → IsQuiet s → IsQuiet s2 → OthersLeftAlone i s s2
    → claim s i ≡ Some c → claim s2 i ≡ None → minima s2 + c.min ≡ minima s
minima_less s s2 i c quiet quiet2 others e e2 =
    let sums = minima_change s s2 i (Some c) None quiet quiet2 others e e2 in omega (arith, sums)

pub spreads_less : (s s2 : Space) (i : ℕ) (c : Claimed) → IsQuiet s → IsQuiet s2 → OthersLeftAlone i s s2
    → claim s i ≡ Some c → claim s2 i ≡ None → spreads s2 + ((c.max - c.min) + 1) ≡ spreads s
spreads_less s s2 i c quiet quiet2 others e e2 =
    let sums = spreads_change s s2 i (Some c) None quiet quiet2 others e e2 in omega (arith, sums)

-- nobody has a claim at a free place
pub claim_free : (s : Space) (i : ℕ) → IsFreePlace s i → claim s i ≡ None
claim_free s i (inl e) = ap claim_of (get_or_is s.occupants i None None e)
claim_free s i (inr e) = ap (λ k. claim s k) e ∙ ap claim_of (past s.occupants) where
  past : (os : List (Option Occupant)) → get_or os (length os) None ≡ None
  past [] = refl
  past (o ∷ os) = past os
