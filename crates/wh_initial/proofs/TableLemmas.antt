-- Functions written into a table, one after the other.
use Rattle.std.proofs.Common.{◌≡◌, ◌∙◌, ℕ, ◌+◌, ◌<◌, ◌≤◌, List, Option, Some, length, map, get_or, slice_set, sym, ap, arith}
use Rattle.std.proofs.lemmas.List.{length-map, get_or-map}
use Rattle.std.proofs.lemmas.List.Edits.{paste_more}
use Rattle.std.proofs.Math.Seq.{paste}

abbrev entries : List ℕ → List (Option ℕ)
entries funcs = map (λ x. Some x) funcs

-- one function more of a segment
pub one_more : (old now : List (Option ℕ)) (place : ℕ) (funcs : List ℕ) (k : ℕ) → place + length funcs ≤ length old → k < length funcs → now ≡ paste old place (entries funcs) k
    → slice_set now (place + k) (Some (get_or funcs k 0)) ≡ paste old place (entries funcs) (k + 1)
one_more old now place funcs k fits lt so_far =
    let count : length (entries funcs) ≡ length funcs = length-map funcs (λ x. Some x) in
    ap (λ t. slice_set t (place + k) (Some (get_or funcs k 0))) so_far
    ∙ ap (λ x. slice_set (paste old place (entries funcs) k) (place + k) x) (sym (get_or-map (λ x. Some x) funcs k 0 (Some 0) lt))
    ∙ paste_more old place (entries funcs) k (Some 0) (omega (arith, lt, fits)) (omega (arith, lt, count))
