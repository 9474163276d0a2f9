-- Slots of which the first ones are there.
use Rattle.std.proofs.Common.{◌≡◌, ◌≤◌, ◌<◌, ℕ, ◌+◌, ◌-◌, ◌++◌, suc, List, [], ◌∷◌, Option, Some, None, length, map, replicate, slice_set, ap, sym, ◌∙◌, arith}
use Rattle.std.proofs.lemmas.List.{append_assoc, length-append, length-map, length-replicate, length-set, map-append, map-set, replicate-append-replicate, set-append_left}
use Rattle.wh_swap.specs.MemorySwaps.{slots_held, slot_bytes}
use Rattle.wh_swap.proofs.Seen.{map-replicate}

-- more of them are there, to which nothing was written
pub more_there : (count more : ℕ) (slots : List (Option (List ℕ))) → length slots + more ≤ count
    → slots_held count (slots ++ replicate more None) ≡ slots_held count slots
more_there count more slots room =
    let long : length (slots ++ replicate {A = Option (List ℕ)} more None) ≡ length slots + more = length-append slots (replicate more None) ∙ ap (λ n. length slots + n) (length-replicate {A = Option (List ℕ)} more None) in
    let left : more + (count - (length slots + more)) ≡ count - length slots = omega (arith, room) in
    ap (λ n. map slot_bytes (slots ++ replicate more None) ++ replicate {A = List ℕ} (count - n) []) long
    ∙ ap (λ xs. xs ++ replicate {A = List ℕ} (count - (length slots + more)) []) (map-append slot_bytes slots (replicate more None) ∙ ap (λ xs. map slot_bytes slots ++ xs) (map-replicate slot_bytes more None))
    ∙ append_assoc (map slot_bytes slots) (replicate more []) (replicate (count - (length slots + more)) [])
    ∙ ap (λ xs. map slot_bytes slots ++ xs) (replicate-append-replicate {A = List ℕ} more (count - (length slots + more)) [] ∙ ap (λ n. replicate {A = List ℕ} n []) left)

-- one of them is written
pub one_written : (count : ℕ) (slots : List (Option (List ℕ))) (k : ℕ) (bytes : List ℕ) → k < length slots
    → slots_held count (slice_set slots k (Some bytes)) ≡ slice_set (slots_held count slots) k bytes
one_written count slots k bytes within =
    let long : length (slice_set slots k (Some bytes)) ≡ length slots = length-set slots k (Some bytes) in
    ap (λ n. map slot_bytes (slice_set slots k (Some bytes)) ++ replicate {A = List ℕ} (count - n) []) long
    ∙ ap (λ xs. xs ++ replicate {A = List ℕ} (count - length slots) []) (map-set slot_bytes slots k (Some bytes))
    ∙ sym (set-append_left (map slot_bytes slots) (replicate (count - length slots) []) k bytes (rw (length-map slots slot_bytes) within))

-- as many slots as there are
pub all_slots : (count : ℕ) (slots : List (Option (List ℕ))) → length slots ≤ count → length (slots_held count slots) ≡ count
all_slots count slots within =
    omega (arith, within, length-append (map slot_bytes slots) (replicate {A = List ℕ} (count - length slots) []), length-map slots slot_bytes, length-replicate {A = List ℕ} (count - length slots) [])

-- one more of them is there, of which there were to be n
pub next_there : {X : Type 0} (n : ℕ) (xs ys : List X) (x : X) → ys ≡ xs ++ x ∷ [] → length xs < n
    → ys ++ replicate (n - length ys) x ≡ xs ++ replicate (n - length xs) x
next_there {X} n xs ys x is less =
    let long : length ys ≡ suc (length xs) = ap length is ∙ length-append xs (x ∷ []) ∙ omega arith in
    let left : n - length xs ≡ suc (n - suc (length xs)) = omega (arith, less) in
    ap (λ m. ys ++ replicate (n - m) x) long ∙ ap (λ zs. zs ++ replicate (n - suc (length xs)) x) is
    ∙ append_assoc xs (x ∷ []) (replicate (n - suc (length xs)) x) ∙ ap (λ m. xs ++ replicate m x) (sym left)
