-- Known bytes that grow, piece by piece.
use Rattle.std.proofs.Common.{◌≡◌, ◌<◌, ◌≤◌, ◌⊎◌, inl, inr, ℕ, ◌+◌, Bool, true, List, [], ◌++◌, take, drop, Option, Some, None, sym, ap, ◌∙◌, append-nil, append_assoc, length, ◌-◌, arith, length-append, length-take}
use Rattle.std.proofs.lemmas.List.{take-append-drop, take_rest}
use Rattle.std.specs.Io.KnownBytes.{Appends, Keeps}

pub appends_nothing : (k : Option (List ℕ)) → Appends k k []
appends_nothing None = tt
appends_nothing (Some xs) = sym (append-nil xs)

pub appends_keeps : (a b c : Option (List ℕ)) (xs : List ℕ) → Appends a b xs → Keeps b c → Appends a c xs
appends_keeps None b c xs p q = tt
appends_keeps (Some us) None c xs p q = elim p [ ]
appends_keeps (Some us) (Some vs) None xs p q = elim q [ ]
appends_keeps (Some us) (Some vs) (Some ws) xs p q = q ∙ p

pub appends_more : (a b c : Option (List ℕ)) (xs ys : List ℕ) → Appends a b xs → Appends b c ys → Appends a c (xs ++ ys)
appends_more None b c xs ys p q = tt
appends_more (Some us) None c xs ys p q = elim p [ ]
appends_more (Some us) (Some vs) None xs ys p q = elim q [ ]
appends_more (Some us) (Some vs) (Some ws) xs ys p q = q ∙ ap (λ zs. zs ++ ys) p ∙ append_assoc us xs ys

-- a piece of what is left was written
pub writes_piece : (a b c : Option (List ℕ)) (all done rest left : List ℕ) (n : ℕ) → all ≡ done ++ rest → left ≡ take (length rest - n) (drop n rest) → Appends a b done → Appends b c (take n rest)
    → (all ≡ (done ++ take n rest) ++ left) × Appends a c (done ++ take n rest)
writes_piece a b c all done rest left n e l p q =
    let whole : rest ≡ take n rest ++ left = sym (take-append-drop n rest) ∙ ap (λ xs. take n rest ++ xs) (sym (l ∙ take_rest rest n)) in
    (e ∙ ap (λ xs. done ++ xs) whole ∙ sym (append_assoc done (take n rest) left), appends_more a b c done (take n rest) p q)

-- a call has failed, or each has written some
pub watches_piece : (before after : Bool) (tried n : ℕ) (done rest : List ℕ) → 0 < n → n ≤ length rest → after ≡ before → (before ≡ true) ⊎ (tried ≤ length done)
    → (after ≡ true) ⊎ (tried + 1 ≤ length (done ++ take n rest))
watches_piece before after tried n done rest some within same (inl failed) = inl (same ∙ failed)
watches_piece before after tried n done rest some within same (inr far) =
    inr (let piece = length-take n rest in omega (arith, some, within, far, piece, length-append done (take n rest)))
