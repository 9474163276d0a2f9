-- The entry at i of the joined_leaves leaves stands in leaf i / 256, at i % 256.
use Rattle.std.proofs.Common.{◌≡◌, ℕ, ◌+◌, ◌-◌, ◌*◌, ◌<◌, ◌≤◌, ◌++◌, List, [], ◌∷◌, length, get_or, slice_get, slice_set, Some, sym, ◌/◌, ◌%◌, zero, suc, refl, ◌∙◌, ap, subst, arith, length-append}
use Rattle.std.specs.Global.{Vec}
use Rattle.std.specs.List.{All}
use Rattle.std.specs.Vec.{with_item}
use Rattle.std.proofs.lemmas.List.{set-append_left, set-append_right}
use Rattle.std.proofs.lemmas.Option.{get_or_from_slice_get}
use Rattle.wh_pages.specs.Leaves.{joined_leaves, HasWholeLeaves}

-- an element of the first list, and one behind it
slice_get-left : {X : Type 0} (xs ys : List X) (i : ℕ) → i < length xs → slice_get (xs ++ ys) i ≡ slice_get xs i
slice_get-left [] ys i within = absurd (omega arith)
slice_get-left (x ∷ xs) ys zero within = refl
slice_get-left (x ∷ xs) ys (suc i) within = slice_get-left xs ys i (omega arith)

slice_get-right : {X : Type 0} (xs ys : List X) (i r : ℕ) → i ≡ length xs + r → slice_get (xs ++ ys) i ≡ slice_get ys r
slice_get-right [] ys i r is = let same : i ≡ r = omega arith in rw same refl
slice_get-right (x ∷ xs) ys zero r is = absurd (omega arith)
slice_get-right (x ∷ xs) ys (suc i) r is = slice_get-right xs ys i r (omega arith)

-- the first leaf is whole, and so are the others
whole_first : {X : Type 0} (leaf : Vec X) (leaves : List (Vec X)) → HasWholeLeaves (leaf ∷ leaves) → length leaf.items ≡ 256
whole_first leaf leaves whole = whole zero leaf (omega arith)

whole_rest : {X : Type 0} (leaf : Vec X) (leaves : List (Vec X)) → HasWholeLeaves (leaf ∷ leaves) → HasWholeLeaves leaves
whole_rest leaf leaves whole = λ k d below. whole (suc k) d (omega arith)

pub length-joined_leaves : {X : Type 0} (leaves : List (Vec X)) → HasWholeLeaves leaves → length (joined_leaves leaves) ≡ 256 * length leaves
length-joined_leaves [] whole = refl
length-joined_leaves (leaf ∷ leaves) whole =
    omega (arith, length-append leaf.items (joined_leaves leaves), whole_first leaf leaves whole, length-joined_leaves leaves (whole_rest leaf leaves whole))

pub slice_get-joined_leaves : {X : Type 0} (leaves : List (Vec X)) (k j i : ℕ) (d : Vec X) → HasWholeLeaves leaves → k < length leaves → j < 256 → i ≡ 256 * k + j → slice_get (joined_leaves leaves) i ≡ slice_get (get_or leaves k d).items j
slice_get-joined_leaves [] k j i d whole there below is = absurd (omega arith)
slice_get-joined_leaves (leaf ∷ leaves) zero j i d whole there below is =
    let same : i ≡ j = omega arith in
    rw same (slice_get-left leaf.items (joined_leaves leaves) j (omega (arith, whole_first leaf leaves whole)))
slice_get-joined_leaves (leaf ∷ leaves) (suc k) j i d whole there below is =
    let rest : i ≡ length leaf.items + (256 * k + j) = omega (arith, whole_first leaf leaves whole) in
    slice_get-right leaf.items (joined_leaves leaves) i (256 * k + j) rest ∙ slice_get-joined_leaves leaves k j (256 * k + j) d (whole_rest leaf leaves whole) (omega arith) below refl

pub set-joined_leaves : {X : Type 0} (leaves : List (Vec X)) (k j i : ℕ) (d leaf : Vec X) (x : X) → HasWholeLeaves leaves → k < length leaves → j < 256 → i ≡ 256 * k + j → leaf ≡ get_or leaves k d → slice_set (joined_leaves leaves) i x ≡ joined_leaves (slice_set leaves k (with_item leaf j x))
set-joined_leaves [] k j i d leaf x whole there below is found = absurd (omega arith)
set-joined_leaves (first ∷ leaves) zero j i d leaf x whole there below is found =
    let same : i ≡ j = omega arith in
    rw (same, found) (set-append_left first.items (joined_leaves leaves) j x (omega (arith, whole_first first leaves whole)))
set-joined_leaves {X = X} (first ∷ leaves) (suc k) j i d leaf x whole there below is found =
    set-append_right first.items (joined_leaves leaves) 256 i x (whole_first first leaves whole) (omega arith)
    ∙ ap (λ (l : List X). first.items ++ l) (set-joined_leaves leaves k j (i - 256) d leaf x (whole_rest first leaves whole) (omega arith) below (omega arith) found)

-- where an entry stands there is a leaf
pub leaf_there : {X : Type 0} (leaves : List (Vec X)) (i : ℕ) → HasWholeLeaves leaves → i < length (joined_leaves leaves) → i / 256 < length leaves
leaf_there leaves i whole there = omega (arith, length-joined_leaves leaves whole)

-- it is read and written there
pub entry_read : {X : Type 0} (leaves : List (Vec X)) (i : ℕ) (leaf : Vec X) (x : X) → HasWholeLeaves leaves → i < length (joined_leaves leaves) → leaf ≡ get_or leaves (i / 256) leaf → slice_get leaf.items (i % 256) ≡ Some x → slice_get (joined_leaves leaves) i ≡ Some x
entry_read {X = X} leaves i leaf x whole there found is =
    slice_get-joined_leaves leaves (i / 256) (i % 256) i leaf whole (leaf_there leaves i whole there) (omega arith) (omega arith)
    ∙ ap (λ (v : Vec X). slice_get v.items (i % 256)) (sym found)
    ∙ is

pub entry_written : {X : Type 0} (leaves : List (Vec X)) (i : ℕ) (leaf : Vec X) (x : X) → HasWholeLeaves leaves → i < length (joined_leaves leaves) → leaf ≡ get_or leaves (i / 256) leaf → joined_leaves (slice_set leaves (i / 256) (with_item leaf (i % 256) x)) ≡ slice_set (joined_leaves leaves) i x
entry_written leaves i leaf x whole there found =
    sym (set-joined_leaves leaves (i / 256) (i % 256) i leaf leaf x whole (leaf_there leaves i whole there) (omega arith) (omega arith) found)

-- ---- all entries of a leaf

pub leaf_at : {X : Type 0} (leaves : List (Vec X)) (k : ℕ) → HasWholeLeaves leaves → 256 * k < length (joined_leaves leaves) → k < length leaves
leaf_at leaves k whole there = omega (arith, length-joined_leaves leaves whole)

pub seen_in_leaf : {X : Type 0} (P : X → Type 0) (leaves : List (Vec X)) (k q : ℕ) (leaf : Vec X) (x : X) → HasWholeLeaves leaves → 256 * k < length (joined_leaves leaves) → 256 * k ≤ q → q < 256 * k + 256
    → leaf ≡ get_or leaves k leaf → slice_get (joined_leaves leaves) q ≡ Some x → All P leaf.items → P x
seen_in_leaf {X = X} P leaves k q leaf x whole there from below found is all =
    let within = leaf_at leaves k whole there in
    let j : ℕ = q - 256 * k in
    let at : slice_get leaf.items j ≡ Some x =
    ap (λ (v : Vec X). slice_get v.items j) found ∙ sym (slice_get-joined_leaves leaves k j q leaf whole within (omega (arith, from, below)) (omega (arith, from))) ∙ is in
    let long : length leaf.items ≡ 256 = ap (λ (v : Vec X). length v.items) found ∙ whole k leaf within in
    subst P (get_or_from_slice_get leaf.items j x x at) (all j x (omega (arith, long, from, below)))
