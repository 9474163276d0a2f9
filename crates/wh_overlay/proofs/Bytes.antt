-- Bytes that are written over others, and what is read of them then.
use Rattle.std.proofs.Common.{◌≡◌, ◌∙◌, ℕ, ◌+◌, ◌-◌, ◌≤◌, List, [], ◌∷◌, ◌++◌, length, replicate, take, drop, zero, suc, refl, sym, ap, arith, length-append, rules}
use Rattle.std.proofs.Math.Seq.{drop-append-add}
use Rattle.std.proofs.lemmas.List.{take-append-le, drop-append-le, length-take-le, length-drop, take_rest, take-replicate, drop-replicate}
use Rattle.wh_model.specs.Execution.{bytes_at, written}
use Rattle.wh_space_model.proofs.Blocks.{written_before, written_after}

-- ---- a list in three parts

pub record IsCut (xs : List ℕ) (at n : ℕ) : Type 0 where
  pub before : List ℕ
  pub mid : List ℕ
  pub behind : List ℕ
  pub is : xs ≡ before ++ (mid ++ behind)
  pub begins : length before ≡ at
  pub long : length mid ≡ n

halves : (n : ℕ) (xs : List ℕ) → take n xs ++ drop n xs ≡ xs
halves zero xs = refl
halves (suc n) [] = refl
halves (suc n) (x ∷ xs) = ap (λ z. x ∷ z) (halves n xs)

pub cut : (xs : List ℕ) (at n : ℕ) → at + n ≤ length xs → IsCut xs at n
cut xs at n within =
    record {
      before = take at xs;
      mid = take n (drop at xs);
      behind = drop n (drop at xs);
      is = sym (ap (λ z. take at xs ++ z) (halves n (drop at xs)) ∙ halves at xs);
      begins = length-take-le at xs (omega arith);
      long = length-take-le n (drop at xs) (omega (arith, length-drop at xs));
    }

-- ---- bytes that are read

pub read_first : (x rest : List ℕ) (r n : ℕ) → r + n ≤ length x → bytes_at (x ++ rest) r n ≡ bytes_at x r n
read_first x rest r n within = search (rules, drop-append-le, length-drop, take-append-le)

pub read_past : (x rest : List ℕ) (k n : ℕ) → bytes_at (x ++ rest) (length x + k) n ≡ bytes_at rest k n
read_past x rest k n = search (rules, drop-append-add)

pub read_zeros : (m k n : ℕ) → k + n ≤ m → bytes_at (replicate m 0) k n ≡ replicate n 0
read_zeros m k n within = search (rules, drop-replicate, ℕ, take-replicate)

-- ---- bytes that are written over as many

-- the middle of three parts
written_mid : (u m d g : List ℕ) → length g ≡ length m → written (u ++ (m ++ d)) (length u) g ≡ u ++ (g ++ d)
written_mid u m d g same =
    let at : length u + 0 ≡ length u = omega arith in
    let past : 0 + length g ≡ length m + 0 = omega (arith, same) in
    let none = drop-append-add m d 0 in
    ap (λ z. written (u ++ (m ++ d)) z g) (sym at) ∙ written_after u (m ++ d) 0 g ∙ ap (λ z. u ++ (g ++ z)) (ap (λ z. drop z (m ++ d)) past ∙ none)

pub written_cut : (xs g : List ℕ) (at : ℕ) (c : IsCut xs at (length g)) → written xs at g ≡ c.before ++ (g ++ c.behind)
written_cut xs g at c = search (rules, written_mid)

pub written_length : (xs g : List ℕ) (at : ℕ) → at + length g ≤ length xs → length (written xs at g) ≡ length xs
written_length xs g at within =
    let c = cut xs at (length g) within in
    let now = ap length (written_cut xs g at c) in
    let a = length-append c.before (g ++ c.behind) in
    let b = length-append g c.behind in
    let d = length-append c.before (c.mid ++ c.behind) in
    let e = length-append c.mid c.behind in
    let was = ap length c.is in
    let long = c.long in
    omega arith

-- what was written is read
pub read_written : (xs g : List ℕ) (at k n : ℕ) → at + length g ≤ length xs → k + n ≤ length g → bytes_at (written xs at g) (at + k) n ≡ bytes_at g k n
read_written xs g at k n within inside = search (rules, cut, written_cut, read_past, read_first)

-- and what lies before it or behind is what it was
pub read_before : (xs g : List ℕ) (at k n : ℕ) → at + length g ≤ length xs → k + n ≤ at → bytes_at (written xs at g) k n ≡ bytes_at xs k n
read_before xs g at k n within before =
    let c = cut xs at (length g) within in
    let begins = c.begins in
    ap (λ z. bytes_at z k n) (written_cut xs g at c) ∙ read_first c.before (g ++ c.behind) k n (omega (arith, begins, before))
    ∙ sym (ap (λ z. bytes_at z k n) c.is ∙ read_first c.before (c.mid ++ c.behind) k n (omega (arith, begins, before)))

pub read_behind : (xs g : List ℕ) (at k n : ℕ) → at + length g ≤ length xs → at + length g ≤ k → bytes_at (written xs at g) k n ≡ bytes_at xs k n
read_behind xs g at k n within behind =
    let c = cut xs at (length g) within in
    let begins = c.begins in
    let j = k - (at + length g) in
    let first : k ≡ length c.before + (length g + j) = omega (arith, begins, behind) in
    let second : k ≡ length c.before + (length c.mid + j) = omega (arith, begins, c.long, behind) in
    ap (λ z. bytes_at z k n) (written_cut xs g at c) ∙ ap (λ z. bytes_at (c.before ++ (g ++ c.behind)) z n) first
    ∙ read_past c.before (g ++ c.behind) (length g + j) n ∙ read_past g c.behind j n
    ∙ sym (ap (λ z. bytes_at z k n) c.is ∙ ap (λ z. bytes_at (c.before ++ (c.mid ++ c.behind)) z n) second
    ∙ read_past c.before (c.mid ++ c.behind) (length c.mid + j) n ∙ read_past c.mid c.behind j n)

-- bytes that are written over what was written
pub written_inside : (xs g h : List ℕ) (at k : ℕ) → at + length g ≤ length xs → k + length h ≤ length g → written xs at (written g k h) ≡ written (written xs at g) (at + k) h
written_inside xs g h at k within inside = search (rules, cut, written_length, written_mid, written_cut, written_after, written_before)

-- bytes that are written apart from each other, in whichever order
pub written_apart : (xs g h : List ℕ) (a b : ℕ) → a + length g ≤ b → b + length h ≤ length xs → written (written xs a g) b h ≡ written (written xs b h) a g
written_apart xs g h a b apart within =
    let c = cut xs a (length g) (omega (arith, apart, within)) in
    let begins = c.begins in
    let long = c.long in
    let j = b - (a + length g) in
    let first : b ≡ length c.before + (length g + j) = omega (arith, begins, apart) in
    let second : b ≡ length c.before + (length c.mid + j) = omega (arith, begins, long, apart) in
    let left : written (written xs a g) b h ≡ c.before ++ (g ++ written c.behind j h) =
    ap (λ z. written z b h) (written_cut xs g a c) ∙ ap (λ z. written (c.before ++ (g ++ c.behind)) z h) first
    ∙ written_after c.before (g ++ c.behind) (length g + j) h ∙ ap (λ z. c.before ++ z) (written_after g c.behind j h) in
    let right : written xs b h ≡ c.before ++ (c.mid ++ written c.behind j h) = search (rules, written_after) in
    left ∙ sym (ap (λ z. written z a g) right ∙ ap (λ z. written (c.before ++ (c.mid ++ written c.behind j h)) z g) (sym begins)
    ∙ written_mid c.before c.mid (written c.behind j h) g (sym long))

-- bytes that are written where they are
pub written_same : (xs : List ℕ) (at n : ℕ) → at + n ≤ length xs → written xs at (bytes_at xs at n) ≡ xs
written_same xs at n within =
    let c = cut xs at n within in
    let begins = c.begins in
    let zero : length c.before + 0 ≡ at = omega (arith, begins) in
    let read : bytes_at xs at n ≡ c.mid =
    ap (λ z. bytes_at z at n) c.is ∙ ap (λ z. bytes_at (c.before ++ (c.mid ++ c.behind)) z n) (sym zero) ∙ read_past c.before (c.mid ++ c.behind) 0 n
    ∙ ap (λ z. bytes_at (c.mid ++ c.behind) 0 z) (sym c.long) ∙ read_first c.mid c.behind 0 (length c.mid) (omega arith) ∙ all c.mid in
    ap (written xs at) read ∙ ap (λ z. written z at c.mid) c.is ∙ ap (λ z. written (c.before ++ (c.mid ++ c.behind)) z c.mid) (sym begins)
    ∙ written_mid c.before c.mid c.behind c.mid refl ∙ sym c.is
  where
    all : (m : List ℕ) → bytes_at m 0 (length m) ≡ m
    all m = (let e : (0 + length m) - 0 ≡ length m - 0 = omega arith in rw e (take_rest m 0))
