-- Texts one behind the other: what is read of them, one more and fewer.
use Rattle.std.proofs.Common.{arith, ◌≡◌, ◌∙◌, ℕ, zero, suc, ◌+◌, ◌-◌, ◌<◌, ◌≤◌, List, [], ◌∷◌, ◌++◌, length, take, drop, get_or, slice_get, Some, refl, sym, ap}
use Rattle.std.specs.List.{slice_range}
use Rattle.std.proofs.lemmas.List.{drop_at, take_all, drop-append-le, take-append-le, length-drop, length-append, length-take-le, drop-take, take-take}
use Rattle.wh_names.specs.NameTexts.{cut_texts, AreEnds}

-- there are as many texts as ends
pub many : (bytes : List ℕ) (start : ℕ) (ends : List ℕ) → length (cut_texts bytes start ends) ≡ length ends
many bytes start [] = refl
many bytes start (end ∷ ends) = let e = many bytes end ends in omega (arith, e)

-- the text at a place goes from the end before to its own
pub read : (bytes : List ℕ) (start : ℕ) (ends : List ℕ) (k : ℕ) → k < length ends
    → slice_get (cut_texts bytes start ends) k ≡ Some (slice_range bytes (get_or (start ∷ ends) k 0) (get_or ends k 0))
read bytes start [] k less = absurd (omega arith)
read bytes start (end ∷ ends) zero less = refl
read bytes start (end ∷ ends) (suc k) less = read bytes end ends k (omega arith)

-- ---- where texts end

starts_within : (whole start : ℕ) (ends : List ℕ) → AreEnds whole start ends → start ≤ whole
starts_within whole start [] are = omega (arith, are)
starts_within whole start (end ∷ ends) are =
    let later = starts_within whole end ends are.1 in
    omega (arith, later, are.0)

pub within : (whole start : ℕ) (ends : List ℕ) (k : ℕ) → AreEnds whole start ends → k < length ends
    → (get_or (start ∷ ends) k 0 ≤ get_or ends k 0) × (get_or ends k 0 ≤ whole)
within whole start [] k are less = absurd (omega arith)
within whole start (end ∷ ends) zero are less = (are.0, starts_within whole end ends are.1)
within whole start (end ∷ ends) (suc k) are less = within whole end ends k are.1 (omega arith)

pub begins_within : (whole start : ℕ) (ends : List ℕ) (k : ℕ) → AreEnds whole start ends → k ≤ length ends
    → get_or (start ∷ ends) k 0 ≤ whole
begins_within whole start ends zero are less = starts_within whole start ends are
begins_within whole start [] (suc k) are less = absurd (omega arith)
begins_within whole start (end ∷ ends) (suc k) are less = begins_within whole end ends k are.1 (omega arith)

-- ---- one more

pub ends_more : (whole start more : ℕ) (ends : List ℕ) → AreEnds whole start ends
    → AreEnds (whole + more) start (ends ++ (whole + more) ∷ [])
ends_more whole start more [] are = (omega (arith, are), refl)
ends_more whole start more (end ∷ ends) are = (are.0, ends_more whole end more ends are.1)

last_range : (bytes text : List ℕ) (start : ℕ) → start ≡ length bytes
    → slice_range (bytes ++ text) start (length bytes + length text) ≡ text
last_range bytes text start at =
    ap (λ xs. take (length bytes + length text - start) xs) (drop_at bytes text start (sym at))
    ∙ take_all (length bytes + length text - start) text (omega arith)

same_range : (bytes text : List ℕ) (start end : ℕ) → start ≤ end → end ≤ length bytes
    → slice_range (bytes ++ text) start end ≡ slice_range bytes start end
same_range bytes text start end rise less =
    ap (λ xs. take (end - start) xs) (drop-append-le start bytes text (omega arith))
    ∙ take-append-le (end - start) (drop start bytes) text (omega (arith, length-drop start bytes))

pub cut_more : (bytes text : List ℕ) (start : ℕ) (ends : List ℕ) → AreEnds (length bytes) start ends
    → cut_texts (bytes ++ text) start (ends ++ (length bytes + length text) ∷ []) ≡ cut_texts bytes start ends ++ text ∷ []
cut_more bytes text start [] are = ap (λ x. x ∷ []) (last_range bytes text start are)
cut_more bytes text start (end ∷ ends) are =
    ap (λ x. x ∷ cut_texts (bytes ++ text) end (ends ++ (length bytes + length text) ∷ []))
    (same_range bytes text start end are.0 (starts_within (length bytes) end ends are.1))
    ∙ ap (λ xs. slice_range bytes start end ∷ xs) (cut_more bytes text end ends are.1)

-- ---- fewer

pub ends_take : (whole start : ℕ) (ends : List ℕ) (k : ℕ) → AreEnds whole start ends → k ≤ length ends
    → AreEnds (get_or (start ∷ ends) k 0) start (take k ends)
ends_take whole start ends zero are less = refl
ends_take whole start [] (suc k) are less = absurd (omega arith)
ends_take whole start (end ∷ ends) (suc k) are less = (are.0, ends_take whole end ends k are.1 (omega arith))

pub cut_take : (bytes : List ℕ) (start : ℕ) (ends : List ℕ) (k : ℕ)
    → cut_texts bytes start (take k ends) ≡ take k (cut_texts bytes start ends)
cut_take bytes start ends zero = refl
cut_take bytes start [] (suc k) = refl
cut_take bytes start (end ∷ ends) (suc k) = ap (λ xs. slice_range bytes start end ∷ xs) (cut_take bytes end ends k)

short_range : (bytes : List ℕ) (whole start end : ℕ) → start ≤ end → end ≤ whole
    → slice_range (take whole bytes) start end ≡ slice_range bytes start end
short_range bytes whole start end rise less =
    let all : start + (whole - start) ≡ whole = omega arith in
    ap (λ n. take (end - start) (drop start (take n bytes))) (sym all)
    ∙ ap (λ xs. take (end - start) xs) (drop-take start (whole - start) bytes)
    ∙ take-take (end - start) (whole - start) (drop start bytes) (omega arith)

-- bytes behind the last end don't count
pub cut_short : (bytes : List ℕ) (whole start : ℕ) (ends : List ℕ) → AreEnds whole start ends
    → cut_texts (take whole bytes) start ends ≡ cut_texts bytes start ends
cut_short bytes whole start [] are = refl
cut_short bytes whole start (end ∷ ends) are =
    ap (λ x. x ∷ cut_texts (take whole bytes) end ends)
    (short_range bytes whole start end are.0 (starts_within whole end ends are.1))
    ∙ ap (λ xs. slice_range bytes start end ∷ xs) (cut_short bytes whole end ends are.1)

-- ---- the same of what is there afterwards

-- one more text
pub ends_after : (bytes text ends bytes2 ends2 : List ℕ) (end : ℕ) → AreEnds (length bytes) 0 ends
    → bytes2 ≡ bytes ++ text → ends2 ≡ ends ++ end ∷ [] → end ≡ length bytes + length text
    → AreEnds (length bytes2) 0 ends2
ends_after bytes text ends bytes2 ends2 end are longer more at =
    let long : length bytes2 ≡ length bytes + length text = ap length longer ∙ length-append bytes text in
    let ends_are : ends2 ≡ ends ++ (length bytes + length text) ∷ [] = more ∙ ap (λ n. ends ++ n ∷ []) at in
    rw (long, ends_are) (ends_more (length bytes) 0 (length text) ends are)

pub cut_after : (bytes text ends bytes2 ends2 : List ℕ) (end : ℕ) → AreEnds (length bytes) 0 ends
    → bytes2 ≡ bytes ++ text → ends2 ≡ ends ++ end ∷ [] → end ≡ length bytes + length text
    → cut_texts bytes2 0 ends2 ≡ cut_texts bytes 0 ends ++ text ∷ []
cut_after bytes text ends bytes2 ends2 end are longer more at =
    let ends_are : ends2 ≡ ends ++ (length bytes + length text) ∷ [] = more ∙ ap (λ n. ends ++ n ∷ []) at in
    rw (longer, ends_are) (cut_more bytes text 0 ends are)

-- the first k alone
pub ends_left : (bytes ends bytes2 ends2 : List ℕ) (k start : ℕ) → AreEnds (length bytes) 0 ends → k ≤ length ends
    → start ≡ get_or (0 ∷ ends) k 0 → bytes2 ≡ take start bytes → ends2 ≡ take k ends
    → (AreEnds (length bytes2) 0 ends2) × (length bytes2 ≤ length bytes)
ends_left bytes ends bytes2 ends2 k start are less at shorter fewer =
    let few = begins_within (length bytes) 0 ends k are less in
    let short : length bytes2 ≡ start = ap length shorter ∙ length-take-le start bytes (omega (arith, few, at)) in
    let long : length bytes2 ≡ get_or (0 ∷ ends) k 0 = short ∙ at in
    (rw (long, fewer) (ends_take (length bytes) 0 ends k are less), omega (arith, long, few))

pub cut_left : (bytes ends bytes2 ends2 : List ℕ) (k start : ℕ) → AreEnds (length bytes) 0 ends → k ≤ length ends
    → start ≡ get_or (0 ∷ ends) k 0 → bytes2 ≡ take start bytes → ends2 ≡ take k ends
    → cut_texts bytes2 0 ends2 ≡ take k (cut_texts bytes 0 ends)
cut_left bytes ends bytes2 ends2 k start are less at shorter fewer =
    let short : bytes2 ≡ take (get_or (0 ∷ ends) k 0) bytes = shorter ∙ ap (λ n. take n bytes) at in
    rw (short, fewer) (cut_short bytes (get_or (0 ∷ ends) k 0) 0 (take k ends)
    (ends_take (length bytes) 0 ends k are less) ∙ cut_take bytes 0 ends k)
