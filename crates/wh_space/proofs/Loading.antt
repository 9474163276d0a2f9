-- How loads end.
use Rattle.std.proofs.Common.{◌≡◌, ℕ, ◌+◌, ◌*◌, ◌-◌, ◌≤◌, ◌++◌, Bool, true, false, List, [], ◌∷◌, length, get_or, slice_get, None, zero, suc, refl, sym, arith, rules}
use Rattle.std.specs.Bool.{MatchBool}
use Rattle.std.specs.List.{All}
use Rattle.std.proofs.lemmas.List.Elements.{All-cons, All-head, All-nil, All-tail}
use Rattle.wh_model.specs.declared.memory.Got.TheVariants.{Value, NotReady}
use Rattle.wh_model.specs.Execution.{Loads, reading, bytes_at}
use Rattle.wh_space_model.specs.{Space, view, IsAtHand, pages_of_need, IsSound, page_at}
use Rattle.wh_space_model.specs.Ready.{Ready}
use Rattle.wh_space_model.proofs.Reading.{read_parts, view_length}

abbrev pub Hand : Space → ℕ → ℕ → Type 0
Hand s i p = IsAtHand (page_at s.tables i p)

-- the pages are at hand
pub one_hand : (s : Space) (i p : ℕ) → Hand s i p → All (λ q. Hand s i q) (p ∷ [])
one_hand s i p here = All-cons (λ q. Hand s i q) p [] here (All-nil (λ q. Hand s i q))

pub two_hands : (s : Space) (i p q : ℕ) → Hand s i p → Hand s i q → All (λ q. Hand s i q) (p ∷ q ∷ [])
two_hands s i p q here there = All-cons (λ q. Hand s i q) p (q ∷ []) here (one_hand s i q there)

-- or one isn't
pub first_away : (s : Space) (i p : ℕ) (ps : List ℕ) → ¬ Hand s i p → ¬ All (λ q. Hand s i q) (p ∷ ps)
first_away s i p ps away all = away (All-head (λ q. Hand s i q) p ps all)

pub second_away : (s : Space) (i p q : ℕ) → ¬ Hand s i q → ¬ All (λ q. Hand s i q) (p ∷ q ∷ [])
second_away s i p q away all = away (All-head (λ q. Hand s i q) q [] (All-tail (λ q. Hand s i q) p (q ∷ []) all))

pub got_value : (s : Space) (i k : ℕ) (old new ps : List ℕ) → IsSound s → k + length old ≤ 4096 * length (get_or s.tables i []) → pages_of_need (reading k (length old)) ≡ ps
    → All (λ q. Hand s i q) ps → new ≡ bytes_at (view s i) k (length old) → Loads (Ready s i) (view s i) k old Value new
got_value s i k old new ps sound fits pages hand is = search (rules, view_length)

pub got_nothing : (s : Space) (i k : ℕ) (old new ps : List ℕ) → IsSound s → k + length old ≤ 4096 * length (get_or s.tables i []) → pages_of_need (reading k (length old)) ≡ ps
    → ¬ All (λ q. Hand s i q) ps → new ≡ old → Loads (Ready s i) (view s i) k old (NotReady (reading k (length old))) new
got_nothing s i k old new ps sound fits pages away is = search (rules, view_length)

pub read_none : (bytes old : List ℕ) (k : ℕ) → length old ≡ 0 → old ≡ bytes_at bytes k (length old)
read_none bytes [] k none = let e : (k + 0) - k ≡ 0 = omega arith in rw e refl
read_none bytes (x ∷ old) k none = absurd (omega arith)

-- the answer is known where the fact is
pub is_true : (b : Bool) (P : Type 0) → MatchBool b P (¬ P) → P → b ≡ true
is_true true P which is = refl
is_true false P which is = absurd (which is)

-- two parts are the whole
pub read_over : (bytes : List ℕ) (k a b n first second : ℕ) → first ≡ k → second ≡ k + a → a + b ≡ n → bytes_at bytes first a ++ bytes_at bytes second b ≡ bytes_at bytes k n
read_over bytes k a b n first second here there whole = rw (here, there, ← whole) (sym (read_parts bytes k a b))

-- a page that isn't in the table isn't at hand
none_past : {X : Type 0} (xs : List X) (p : ℕ) → length xs ≤ p → slice_get xs p ≡ None
none_past [] p past = refl
none_past (x ∷ xs) zero past = absurd (omega arith)
none_past (x ∷ xs) (suc p) past = none_past xs p (omega arith)

pub beyond : (s : Space) (i p : ℕ) → length (get_or s.tables i []) ≤ p → ¬ Hand s i p
beyond s i p past hand = let none = none_past (get_or s.tables i []) p past in absurd (let k = rw none at hand in omega arith)
