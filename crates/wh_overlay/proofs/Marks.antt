-- The marks of pages that were read and written.
use Rattle.std.proofs.Common.{◌≡◌, ◌≢◌, ◌∙◌, ◌⊎◌, inl, inr, ℕ, ◌+◌, ◌<◌, ◌≤◌, List, [], ◌∷◌, ◌++◌, Some, length, length-append, get_or, slice_get, slice_set, take, zero, suc, refl, sym, ap, subst, arith, rules}
use Rattle.std.proofs.lemmas.Bool.{cases_eq, cases_lt}
use Rattle.wh_space_model.proofs.Putting.{set_other, there_of}
use Rattle.wh_overlay.specs.declared.overlay_pages.WrittenPage.{WrittenPage}
use Rattle.wh_space_model.specs.{tally}
use Rattle.wh_space_model.proofs.Sums.{set_tally}
use Rattle.wh_overlay.specs.LaidPages.{AreNoted, IsMarked, IsAmong, IsNoted, IsWrittenAt, has_mark}

-- ---- lists

pub got_there : {X : Type 0} (xs : List X) (i : ℕ) (x d : X) → i < length xs → get_or (slice_set xs i x) i d ≡ x
got_there [] i x d less = absurd (omega arith)
got_there (y ∷ xs) zero x d less = refl
got_there (y ∷ xs) (suc i) x d less = got_there xs i x d (omega arith)

pub got_elsewhere : {X : Type 0} (xs : List X) (i j : ℕ) (x d : X) → j ≢ i → get_or (slice_set xs i x) j d ≡ get_or xs j d
got_elsewhere [] i j x d other = refl
got_elsewhere (y ∷ xs) zero zero x d other = absurd (other refl)
got_elsewhere (y ∷ xs) zero (suc j) x d other = refl
got_elsewhere (y ∷ xs) (suc i) zero x d other = refl
got_elsewhere (y ∷ xs) (suc i) (suc j) x d other = got_elsewhere xs i j x d (λ e. other (ap suc e))

pub set_there : {X : Type 0} (xs : List X) (i : ℕ) (x y : X) → slice_get xs i ≡ Some y → slice_get (slice_set xs i x) i ≡ Some x
set_there [] i x y there = absurd (cc there)
set_there (z ∷ xs) zero x y there = refl
set_there (z ∷ xs) (suc i) x y there = set_there xs i x y there

pub last_there : {X : Type 0} (xs : List X) (y : X) → slice_get (xs ++ y ∷ []) (length xs) ≡ Some y
last_there [] y = refl
last_there (x ∷ xs) y = last_there xs y

pub still_there : {X : Type 0} (xs : List X) (y x : X) (i : ℕ) → slice_get xs i ≡ Some x → slice_get (xs ++ y ∷ []) i ≡ Some x
still_there [] y x i e = absurd (cc e)
still_there (z ∷ xs) y x zero e = e
still_there (z ∷ xs) y x (suc i) e = still_there xs y x i e

pub was_there : {X : Type 0} (xs : List X) (y x : X) (i : ℕ) → slice_get (xs ++ y ∷ []) i ≡ Some x → (slice_get xs i ≡ Some x) ⊎ ((y ≡ x) × (i ≡ length xs))
was_there [] y x zero e = inr (cc e, refl)
was_there [] y x (suc i) e = absurd (cc e)
was_there (z ∷ xs) y x zero e = inl e
was_there (z ∷ xs) y x (suc i) e = further (was_there xs y x i e)
  where
    further : (slice_get xs i ≡ Some x) ⊎ ((y ≡ x) × (i ≡ length xs)) → (slice_get xs i ≡ Some x) ⊎ ((y ≡ x) × (suc i ≡ length (z ∷ xs)))
    further (inl h) = inl h
    further (inr h) = inr (h.0, omega (arith, h.1))

-- ---- a page is read for the first time

pub marked_read : (pages : List WrittenPage) (marks : List ℕ) (number : ℕ) → IsMarked pages marks → number < length marks → get_or marks number 0 ≡ 0 → IsMarked pages (slice_set marks number 1)
marked_read pages marks number is less none = search rules

-- ---- a page is written for the first time

pub marked_new : (pages : List WrittenPage) (marks : List ℕ) (x : WrittenPage) (mark : ℕ) → IsMarked pages marks → x.number < length marks → ¬ (IsAmong pages x.number) → length x.bytes ≡ 4096 → mark ≡ length pages + 2
    → IsMarked (pages ++ x ∷ []) (slice_set marks x.number mark)
marked_new pages marks x mark is less new long last = record {
  each = search (rules, was_there, got_elsewhere, got_there);
  only = λ n k has. elim (cases_eq n x.number) [
    | inl same ↦ (
        let now : get_or (slice_set marks x.number mark) n 0 ≡ mark = ap (λ z. get_or (slice_set marks x.number mark) z 0) same ∙ got_there marks x.number mark 0 less in
        let at : k ≡ length pages = omega (arith, now, has, last) in
        (x, ap (slice_get (pages ++ x ∷ [])) at ∙ last_there pages x, sym same))
    | inr other ↦ (
        let had = is.only n k (sym (got_elsewhere marks x.number n mark 0 other) ∙ has) in
        (had.0, still_there pages x had.0 k had.1, had.2))
  ];
  whole = search (rules, was_there);
}

-- ---- a written page is written again

pub marked_again : (pages : List WrittenPage) (marks : List ℕ) (at : ℕ) (x y : WrittenPage) → IsMarked pages marks → slice_get pages at ≡ Some x → y.number ≡ x.number → length y.bytes ≡ 4096 → IsMarked (slice_set pages at y) marks
marked_again pages marks at x y is there same long = record {
  each = search (rules, cases_eq, set_there, set_other);
  only = λ n k mark. (
      let had = is.only n k mark in
      elim (cases_eq k at) [
        | inl here ↦ search (rules, set_there)
        | inr other ↦ (had.0, set_other pages at k y other ∙ had.1, had.2)
      ]);
  whole = search (rules, cases_eq, set_there, set_other);
}

-- ---- marks are taken away

pub zero_there : (xs : List ℕ) (i : ℕ) → get_or (slice_set xs i 0) i 0 ≡ 0
zero_there [] i = refl
zero_there (x ∷ xs) zero = refl
zero_there (x ∷ xs) (suc i) = zero_there xs i

zero_or_same : (xs : List ℕ) (i n : ℕ) → (get_or (slice_set xs i 0) n 0 ≡ 0) ⊎ (get_or (slice_set xs i 0) n 0 ≡ get_or xs n 0)
zero_or_same [] i n = inr refl
zero_or_same (x ∷ xs) zero zero = inl refl
zero_or_same (x ∷ xs) zero (suc n) = inr refl
zero_or_same (x ∷ xs) (suc i) zero = inr refl
zero_or_same (x ∷ xs) (suc i) (suc n) = zero_or_same xs i n

pub unmarked_read : (marks : List ℕ) (number : ℕ) → IsMarked [] marks → IsMarked [] (slice_set marks number 0)
unmarked_read marks number is = record {
  each = λ k x there. absurd (cc there);
  only = λ n k mark. elim (zero_or_same marks number n) [
    | inl none ↦ absurd (omega (arith, none, mark))
    | inr same ↦ is.only n k (sym same ∙ mark)
  ];
  whole = λ k x there. absurd (cc there);
}

-- only pages from this one on are marked as written
abbrev pub AreLeft : List WrittenPage → List ℕ → ℕ → Type 0
AreLeft pages marks i = (n k : ℕ) → get_or marks n 0 ≡ k + 2 → (i ≤ k) × IsWrittenAt pages n k

pub next_unmarked : (pages : List WrittenPage) (marks marks2 : List ℕ) (i : ℕ) (x : WrittenPage) → AreLeft pages marks i → slice_get pages i ≡ Some x → get_or marks2 x.number 0 ≡ 0
    → ((n k : ℕ) → get_or marks2 n 0 ≡ k + 2 → get_or marks n 0 ≡ k + 2) → AreLeft pages marks2 (i + 1)
next_unmarked pages marks marks2 i x left there none was n k mark =
    let had = left n k (was n k mark) in
    let at = had.1 in
    elim (cases_lt i k) [
      | inl less ↦ (omega (arith, less), at)
      | inr most ↦ search rules
    ]

pub was_marked : (marks : List ℕ) (number n k : ℕ) → get_or (slice_set marks number 0) n 0 ≡ k + 2 → get_or marks n 0 ≡ k + 2
was_marked marks number n k mark = search (rules, zero_or_same)

pub none_left : (pages : List WrittenPage) (marks : List ℕ) (i : ℕ) → length pages ≤ i → AreLeft pages marks i → IsMarked [] marks
none_left pages marks i all left = record {
  each = λ k x there. absurd (cc there);
  only = λ n k mark. absurd (
      let had = left n k mark in
      let at = had.1 in
      let less = there_of pages k at.0 at.1 in
      omega (arith, less, all, had.0));
  whole = λ k x there. absurd (cc there);
}

pub past_the_end : (xs : List ℕ) (i : ℕ) → length xs ≤ i → get_or xs i 0 ≡ 0
past_the_end [] i past = refl
past_the_end (x ∷ xs) zero past = absurd (omega (arith, past))
past_the_end (x ∷ xs) (suc i) past = past_the_end xs i (omega (arith, past))

-- ---- pages that were read

pub get_there : (xs : List ℕ) (i : ℕ) → i < length xs → slice_get xs i ≡ Some (get_or xs i 0)
get_there [] i less = absurd (omega (arith, less))
get_there (x ∷ xs) zero less = refl
get_there (x ∷ xs) (suc i) less = get_there xs i (omega (arith, less))

one_mark : (mark : ℕ) → has_mark mark ≤ 1
one_mark zero = omega arith
one_mark (suc mark) = omega arith

some_mark : (mark : ℕ) → 1 ≤ mark → has_mark mark ≡ 1
some_mark zero some = absurd (omega (arith, some))
some_mark (suc mark) some = refl

-- there are no more marks than pages
marks_few : (marks : List ℕ) → tally has_mark marks ≤ length marks
marks_few [] = omega arith
marks_few (m ∷ marks) = let rest = marks_few marks in let one = one_mark m in omega (arith, rest, one)

-- and one less where a page has none
pub marks_fewer : (marks : List ℕ) (number : ℕ) → number < length marks → get_or marks number 0 ≡ 0 → tally has_mark marks < length marks
marks_fewer [] number less none = absurd (omega (arith, less))
marks_fewer (m ∷ marks) zero less none = let rest = marks_few marks in let one : has_mark m ≡ 0 = ap has_mark none in omega (arith, rest, one)
marks_fewer (m ∷ marks) (suc number) less none =
    let rest = marks_fewer marks number (omega (arith, less)) none in
    let one = one_mark m in
    omega (arith, rest, one)

-- a page that has none gets one
marks_more : (marks : List ℕ) (number mark : ℕ) → number < length marks → get_or marks number 0 ≡ 0 → 1 ≤ mark → tally has_mark (slice_set marks number mark) ≡ tally has_mark marks + 1
marks_more marks number mark less none some =
    let sum = set_tally has_mark marks number (get_or marks number 0) mark (get_there marks number less) in
    let was : has_mark (get_or marks number 0) ≡ 0 = ap has_mark none in
    let now = some_mark mark some in
    omega (arith, sum, was, now)

-- or keeps one
marks_no_fewer : (marks : List ℕ) (number mark : ℕ) → number < length marks → 1 ≤ mark → tally has_mark marks ≤ tally has_mark (slice_set marks number mark)
marks_no_fewer marks number mark less some =
    let sum = set_tally has_mark marks number (get_or marks number 0) mark (get_there marks number less) in
    let was = one_mark (get_or marks number 0) in
    let now = some_mark mark some in
    omega (arith, sum, was, now)

pub read_before_end : (reads : List ℕ) (number p : ℕ) → IsNoted reads p → IsNoted (reads ++ number ∷ []) p
read_before_end reads number p (k, there) = (k, in_front_of reads k p there)
  where
    in_front_of : (xs : List ℕ) (k x : ℕ) → slice_get xs k ≡ Some x → slice_get (xs ++ number ∷ []) k ≡ Some x
    in_front_of xs k x there = still_there xs number x k there

pub read_or_last : (reads : List ℕ) (number p : ℕ) → IsNoted (reads ++ number ∷ []) p → IsNoted reads p ⊎ (p ≡ number)
read_or_last reads number p (k, there) = search (rules, was_there)

pub noted_read : (reads marks : List ℕ) (number : ℕ) → AreNoted reads marks → number < length marks → get_or marks number 0 ≡ 0 → AreNoted (reads ++ number ∷ []) (slice_set marks number 1)
noted_read reads marks number is less none = record {
  each = λ p one. elim (cases_eq p number) [
    | inl same ↦ (length reads, last_there reads number ∙ ap Some (sym same))
    | inr other ↦ read_before_end reads number p (is.each p (sym (got_elsewhere marks number p 1 0 other) ∙ one))
  ];
  many = search (rules, marks_more, length-append);
}

pub noted_new : (reads marks : List ℕ) (number mark : ℕ) → AreNoted reads marks → number < length marks → 2 ≤ mark → AreNoted reads (slice_set marks number mark)
noted_new reads marks number mark is less large = search (rules, cases_eq, got_there, got_elsewhere, marks_no_fewer)

-- of the pages that were read only those from this one on have the mark
abbrev pub ReadsLeft : List ℕ → List ℕ → ℕ → Type 0
ReadsLeft reads marks i = (p : ℕ) → get_or marks p 0 ≡ 1 → (k : ℕ) × (i ≤ k) × (slice_get reads k ≡ Some p)

pub next_read : (reads marks marks2 : List ℕ) (i x : ℕ) → ReadsLeft reads marks i → slice_get reads i ≡ Some x → get_or marks2 x 0 ≡ 0
    → ((p : ℕ) → get_or marks2 p 0 ≡ 1 → get_or marks p 0 ≡ 1) → ReadsLeft reads marks2 (i + 1)
next_read reads marks marks2 i x left there none was p one = search rules

pub was_one : (marks : List ℕ) (number p : ℕ) → get_or (slice_set marks number 0) p 0 ≡ 1 → get_or marks p 0 ≡ 1
was_one marks number p one = search (rules, zero_or_same)

pub no_reads_left : (reads marks : List ℕ) (i : ℕ) → length reads ≤ i → ReadsLeft reads marks i → AreNoted [] marks
no_reads_left reads marks i all left = search (rules, there_of)

-- the first ones with the next one
pub taken_next : (xs : List ℕ) (i x : ℕ) → slice_get xs i ≡ Some x → (p : ℕ) → IsNoted (take (i + 1) xs) p → IsNoted (take i xs) p ⊎ IsNoted (x ∷ []) p
taken_next [] i x there p is = absurd (cc there)
taken_next (y ∷ xs) zero x there p (zero, at) = let e : y ≡ x = cc there in let e2 : y ≡ p = cc at in inr (0, ap Some (sym e ∙ e2))
taken_next (y ∷ xs) zero x there p (suc k, at) = absurd (cc at)
taken_next (y ∷ xs) (suc i) x there p is =
    let e : suc i + 1 ≡ suc (i + 1) = omega arith in
    elim (first_or (subst (λ n. IsNoted (take n (y ∷ xs)) p) e is)) [
      | inl first ↦ inl (0, ap Some first)
      | inr rest ↦ elim (taken_next xs i x there p rest) [
        | inl before ↦ inl (suc before.0, before.1)
        | inr now ↦ inr now
      ]
    ]
  where
    first_or : IsNoted (y ∷ take (i + 1) xs) p → (y ≡ p) ⊎ IsNoted (take (i + 1) xs) p
    first_or (zero, at) = inl (cc at)
    first_or (suc k, at) = inr (k, at)

-- a page that has a mark was read or written
pub known_page : (pages : List WrittenPage) (reads marks : List ℕ) (number : ℕ) → IsMarked pages marks → AreNoted reads marks → get_or marks number 0 ≢ 0 → IsAmong pages number ⊎ IsNoted reads number
known_page pages reads marks number marked noted some = by (get_or marks number 0) refl
  where
    by : (mark : ℕ) → get_or marks number 0 ≡ mark → IsAmong pages number ⊎ IsNoted reads number
    by zero is = absurd (some is)
    by (suc zero) is = inr (noted.each number is)
    by (suc (suc k)) is = inl (k, marked.only number k (let e : suc (suc k) ≡ k + 2 = omega arith in is ∙ e))
