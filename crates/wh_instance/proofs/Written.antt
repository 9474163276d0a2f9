-- Pieces that are written, one after the other.
use Rattle.std.proofs.Common.{◌≡◌, ℕ, ◌+◌, ◌≤◌, List, [], ◌∷◌, ◌++◌, length, sym, ap, ◌∙◌, arith, length-append, append_assoc, rules}
use Rattle.std.specs.List.{AllByRecursion}
use Rattle.wh_model.specs.declared.memory.Need.{Need}
use Rattle.wh_model.specs.Execution.{Piece, Within, written, Writes, wrote_all, wrote}
use Rattle.wh_model.specs.Execution.Memory.{writing}
use Rattle.wh_instance.specs.Pieces.{HasWritten}

writes_last : {M : Type 0} {bytes : M → List ℕ} {ready : M → Need → Type 0} {keeps : M → M → Type 0} {m mid m2 : M} {ps : List Piece} (p : Piece) → Writes bytes ready keeps m ps mid → ready mid (writing p.at (length p.items)) → bytes m2 ≡ written (bytes mid) p.at p.items → keeps mid m2
    → Writes bytes ready keeps m (ps ++ (p ∷ [])) m2
writes_last p wrote_all now new kept = wrote now new kept wrote_all
writes_last p (wrote a b c rest) now new kept = wrote a b c (writes_last p rest now new kept)

-- one piece more
pub more_written : {M : Type 0} (bytes : M → List ℕ) (ready : M → Need → Type 0) (keeps : M → M → Type 0) (before left rest : List Piece) (m mid m2 : M) (n : ℕ) (p : Piece) → HasWritten bytes ready keeps before m n left mid → left ≡ p ∷ rest → ready mid (writing p.at (length p.items)) → bytes m2 ≡ written (bytes mid) p.at p.items → keeps mid m2
    → HasWritten bytes ready keeps before m (n + 1) rest m2
more_written bytes ready keeps before left rest m mid m2 n p (front, is, size, writes) next now new kept =
    let more = length-append front (p ∷ []) in (
      front ++ (p ∷ []),
      is ∙ ap (λ z. front ++ z) next ∙ sym (append_assoc front (p ∷ []) rest),
      omega (arith, size, more),
      writes_last p writes now new kept,
    )

pub all_behind : (P : Piece → Type 0) (front left : List Piece) → AllByRecursion P (front ++ left) → AllByRecursion P left
all_behind P [] left all = all
all_behind P (p ∷ front) left all = all_behind P front left all.1

-- it ends within the memory
pub next_within : (size : ℕ) (before front left rest : List Piece) (p : Piece) → Within size before → before ≡ front ++ left → left ≡ p ∷ rest → p.at + length p.items ≤ size
next_within size before front left rest p within is next = search (rules, all_behind)

-- all of them, where none is left
pub all_written : {M : Type 0} (bytes : M → List ℕ) (ready : M → Need → Type 0) (keeps : M → M → Type 0) (before left : List Piece) (m m2 : M) (n : ℕ) → HasWritten bytes ready keeps before m n left m2 → left ≡ [] → (n ≡ length before) × Writes bytes ready keeps m before m2
all_written bytes ready keeps before left m m2 n (front, is, size, writes) none = search rules
