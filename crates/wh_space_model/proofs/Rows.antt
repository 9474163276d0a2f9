-- Tables in which one row is another, and rows that are longer.
use Rattle.std.proofs.Common.{◌≡◌, ◌≢◌, ℕ, ◌+◌, ◌*◌, ◌<◌, ◌≤◌, ◌++◌, ◌⊎◌, inl, inr, cond, nat_lt, map, replicate, Bool, true, false, List, [], ◌∷◌, Option, Some, None, length, slice_get, slice_set, get_or, zero, suc, refl, sym, ap, ◌∙◌, arith, length-set, length-append, append_assoc}
use Rattle.std.proofs.lemmas.Bool.Decides.{nat_tests}
use Rattle.std.proofs.lemmas.List.{replicate-append-replicate}
use Rattle.std.proofs.Math.Nat.{mul-suc}
use Rattle.wh_space_model.specs.{zero_page, tally, with_row, Backing, count, joined, page_bytes}
use Rattle.wh_space_model.proofs.Tally.{tally-append}
use Rattle.wh_space_model.specs.declared.states.Page.{Page}
use Rattle.wh_space_model.specs.declared.states.Page.TheVariants.{Untouched}
use Rattle.wh_space_model.proofs.Rooms.{get_there}
use Rattle.wh_space_model.proofs.Sums.{set_tally}
use Rattle.wh_space_model.proofs.Putting.{set_other, set_same}

-- another row
pub rows_sum : (w : Page → ℕ) (ts : List (List Page)) (i : ℕ) (row : List Page) → i < length ts → count w (slice_set ts i row) + tally w (get_or ts i []) ≡ count w ts + tally w row
rows_sum w [] i row less = absurd (omega arith)
rows_sum w (t ∷ ts) zero row less = omega arith
rows_sum w (t ∷ ts) (suc i) row less = let k = rows_sum w ts i row (omega arith) in omega arith

pub none_of : (w : Page → ℕ) (m : ℕ) → w Untouched ≡ 0 → tally w (replicate m Untouched) ≡ 0
none_of w zero none = refl
none_of w (suc m) none = let rest = none_of w m none in omega arith

new_at : (m q : ℕ) → (slice_get (replicate m Untouched) q ≡ None) ⊎ (slice_get (replicate m Untouched) q ≡ Some Untouched)
new_at zero q = inl refl
new_at (suc m) zero = inr refl
new_at (suc m) (suc q) = new_at m q

-- a row with untouched pages behind it
pub grown_at : (row : List Page) (m q : ℕ) → (slice_get (row ++ replicate m Untouched) q ≡ slice_get row q) ⊎ ((slice_get row q ≡ None) × (slice_get (row ++ replicate m Untouched) q ≡ Some Untouched))
grown_at [] m q = elim (new_at m q) [ inl e ↦ inl e | inr e ↦ inr (refl, e) ]
grown_at (x ∷ row) m zero = inl refl
grown_at (x ∷ row) m (suc q) = grown_at row m q

-- what lies at a place is told by what is found there
or_else : {X : Type 0} → X → Option X → X
or_else none None = none
or_else none (Some x) = x

found : {X : Type 0} (xs : List X) (j : ℕ) (none : X) → get_or xs j none ≡ or_else none (slice_get xs j)
unfolding or_else
found [] j none = refl
found (x ∷ xs) zero none = refl
found (x ∷ xs) (suc j) none = found xs j none

pub same_there : {X : Type 0} (xs ys : List X) (j : ℕ) (none : X) → slice_get xs j ≡ slice_get ys j → get_or xs j none ≡ get_or ys j none
same_there xs ys j none e = found xs j none ∙ (ap (or_else none) e ∙ sym (found ys j none))

pub past_there : {X : Type 0} (xs : List (List X)) (i : ℕ) → length xs ≤ i → get_or xs i [] ≡ []
past_there [] i past = refl
past_there (x ∷ xs) zero past = absurd (omega arith)
past_there (x ∷ xs) (suc i) past = past_there xs i (omega arith)

-- a row that is put at a place, which may be the next one
pub row_is : {X : Type 0} (xs : List X) (i : ℕ) (x : X) → i ≤ length xs
    → ((i < length xs) × (with_row xs i x ≡ slice_set xs i x)) ⊎ ((i ≡ length xs) × (with_row xs i x ≡ xs ++ x ∷ []))
row_is xs i x most = go (nat_lt i (length xs)) refl where
  is_less : nat_lt i (length xs) ≡ true → i < length xs
  is_less e = grind (arith, nat_tests)

  is_last : nat_lt i (length xs) ≡ false → i ≡ length xs
  is_last e = grind (arith, nat_tests)

  go : (b : Bool) → nat_lt i (length xs) ≡ b → ((i < length xs) × (cond b (slice_set xs i x) (xs ++ x ∷ []) ≡ slice_set xs i x)) ⊎ ((i ≡ length xs) × (cond b (slice_set xs i x) (xs ++ x ∷ []) ≡ xs ++ x ∷ []))
  go true e = inl (is_less e, refl)
  go false e = inr (is_last e, refl)

last_same : {X : Type 0} (xs : List X) (x : X) → slice_get (xs ++ x ∷ []) (length xs) ≡ Some x
last_same [] x = refl
last_same (y ∷ xs) x = last_same xs x

last_other : {X : Type 0} (xs : List X) (x : X) (j : ℕ) → j ≢ length xs → slice_get (xs ++ x ∷ []) j ≡ slice_get xs j
last_other [] x zero other = absurd (other refl)
last_other [] x (suc j) other = refl
last_other (y ∷ xs) x zero other = refl
last_other (y ∷ xs) x (suc j) other = last_other xs x j (λ e. other (ap suc e))

pub row_same : {X : Type 0} (xs : List X) (i : ℕ) (x : X) → i ≤ length xs → slice_get (with_row xs i x) i ≡ Some x
row_same xs i x most = elim (row_is xs i x most) [
  | inl (less, is) ↦ ap (λ ys. slice_get ys i) is ∙ set_same xs i x less
  | inr (last, is) ↦ ap (λ ys. slice_get ys i) is ∙ (ap (λ j. slice_get (xs ++ x ∷ []) j) last ∙ last_same xs x)
]

pub row_other : {X : Type 0} (xs : List X) (i j : ℕ) (x : X) → i ≤ length xs → j ≢ i → slice_get (with_row xs i x) j ≡ slice_get xs j
row_other xs i j x most other = elim (row_is xs i x most) [
  | inl (less, is) ↦ ap (λ ys. slice_get ys j) is ∙ set_other xs i j x other
  | inr (last, is) ↦ ap (λ ys. slice_get ys j) is ∙ last_other xs x j (λ e. other (e ∙ sym last))
]

pub row_longs : {X Y : Type 0} (xs : List X) (ys : List Y) (i : ℕ) (x : X) (y : Y) → length xs ≡ length ys → i ≤ length xs → length (with_row xs i x) ≡ length (with_row ys i y)
row_longs xs ys i x y same most =
    elim (row_is xs i x most) [
      | inl (less, is) ↦ elim (row_is ys i y (let l = same in omega arith)) [
        | inl (less2, is2) ↦ ap length is ∙ (length-set xs i x ∙ (same ∙ sym (ap length is2 ∙ length-set ys i y)))
        | inr (last, is2) ↦ absurd (omega arith)
      ]
      | inr (last, is) ↦ elim (row_is ys i y (let l = same in omega arith)) [
        | inl (less2, is2) ↦ absurd (omega arith)
        | inr (last2, is2) ↦ (let a = ap length is in let b = ap length is2 in let c = length-append xs (x ∷ []) in let d = length-append ys (y ∷ []) in omega arith)
      ]
    ]

pub row_tally : {X : Type 0} (w : X → ℕ) (xs : List X) (i : ℕ) (x : X) → i ≤ length xs → ((z : X) → slice_get xs i ≡ Some z → w z ≡ 0) → tally w (with_row xs i x) ≡ tally w xs + w x
row_tally w xs i x most none = elim (row_is xs i x most) [
  | inl (less, is) ↦
      (let there = get_there xs i less in
      let a = ap (tally w) is in let b = set_tally w xs i there.0 x there.1 in let z = none there.0 there.1 in omega arith)
  | inr (last, is) ↦ (let a = ap (tally w) is in let b = tally-append w xs (x ∷ []) in omega arith)
]

-- the bytes of a row
pub bytes_at : (b : Backing) (ts : List (List Page)) (i : ℕ) → get_or (map (map (page_bytes b)) ts) i [] ≡ map (page_bytes b) (get_or ts i [])
bytes_at b [] i = refl
bytes_at b (t ∷ ts) zero = refl
bytes_at b (t ∷ ts) (suc i) = bytes_at b ts i

joined_replicas : (c m : ℕ) (z : List ℕ) → z ≡ replicate c 0 → joined (replicate m z) ≡ replicate (c * m) 0
joined_replicas c zero z e = let k : 0 ≡ c * 0 = omega arith in ap (λ n. replicate n 0) k
joined_replicas c (suc m) z e =
    let rest = joined_replicas c m z e in
    let k : c + c * m ≡ c * suc m = (let l = mul-suc c m in omega arith) in
    rw (rest, e) (replicate-append-replicate c (c * m) 0 ∙ ap (λ n. replicate n 0) k)

map_replicas : (b : Backing) (m : ℕ) → map (page_bytes b) (replicate m Untouched) ≡ replicate m zero_page
map_replicas b zero = refl
map_replicas b (suc m) = ap (λ xs. zero_page ∷ xs) (map_replicas b m)

zeros_are : zero_page ≡ replicate 4096 0
unfolding zero_page
zeros_are = refl

pub bytes_new : (b : Backing) (m : ℕ) → joined (map (page_bytes b) (replicate m Untouched)) ≡ replicate (4096 * m) 0
bytes_new b m = ap joined (map_replicas b m) ∙ joined_replicas 4096 m zero_page zeros_are

pub bytes_grown : (b : Backing) (row rest : List Page) → joined (map (page_bytes b) (row ++ rest)) ≡ joined (map (page_bytes b) row) ++ joined (map (page_bytes b) rest)
bytes_grown b [] rest = refl
bytes_grown b (x ∷ row) rest = ap (λ xs. page_bytes b x ++ xs) (bytes_grown b row rest) ∙ sym (append_assoc (page_bytes b x) (joined (map (page_bytes b) row)) (joined (map (page_bytes b) rest)))
