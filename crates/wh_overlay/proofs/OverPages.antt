-- What is read of a memory with pages over it, and what is written there.
use Rattle.std.proofs.Common.{◌≡◌, ◌≢◌, ◌∙◌, ℕ, ◌+◌, ◌*◌, ◌≤◌, ◌<◌, List, [], ◌∷◌, ◌++◌, Some, length, slice_get, slice_set, zero, suc, refl, sym, ap, subst, arith, rules}
use Rattle.std.proofs.lemmas.Bool.{cases_lt}
use Rattle.wh_model.specs.Execution.{bytes_at, written}
use Rattle.wh_overlay.specs.declared.overlay_pages.WrittenPage.{WrittenPage}
use Rattle.wh_overlay.specs.LaidPages.{AreWrittenOnce, FitIn, IsAmong, laid_over}
use Rattle.wh_overlay.proofs.Bytes.{read_before, read_behind, read_written, written_apart, written_inside, written_length, written_same}

-- the first page, and the others
pub rest_fits : (v : List ℕ) (x : WrittenPage) (xs : List WrittenPage) → FitIn (length v) (x ∷ xs) → FitIn (length (written v (4096 * x.number) x.bytes)) xs
rest_fits v x xs fit k y there =
    let first = fit 0 x refl in
    let it = fit (suc k) y there in
    (it.0, omega (arith, written_length v x.bytes (4096 * x.number) (omega (arith, first.0, first.1)), it.1))

rest_once : (x : WrittenPage) (xs : List WrittenPage) → AreWrittenOnce (x ∷ xs) → AreWrittenOnce xs
rest_once x xs once j k y z here there same = let e : suc j ≡ suc k = once (suc j) (suc k) y z here there same in omega (arith, e)

first_apart : (x : WrittenPage) (xs : List WrittenPage) → AreWrittenOnce (x ∷ xs) → ¬ (IsAmong xs x.number)
first_apart x xs once (k, (y, there, same)) = let e : 0 ≡ suc k = once 0 (suc k) x y refl there (sym same) in omega (arith, e)

rest_apart : (x : WrittenPage) (xs : List WrittenPage) (p : ℕ) → ¬ (IsAmong (x ∷ xs) p) → ¬ (IsAmong xs p)
rest_apart x xs p never (k, (y, there, same)) = never (suc k, (y, there, same))

not_first : (x : WrittenPage) (xs : List WrittenPage) (p : ℕ) → ¬ (IsAmong (x ∷ xs) p) → x.number ≢ p
not_first x xs p never same = never (0, (x, refl, same))

pub laid_length : (v : List ℕ) (xs : List WrittenPage) → FitIn (length v) xs → length (laid_over v xs) ≡ length v
laid_length v [] fit = refl
laid_length v (x ∷ xs) fit =
    let first = fit 0 x refl in
    laid_length (written v (4096 * x.number) x.bytes) xs (rest_fits v x xs fit) ∙ written_length v x.bytes (4096 * x.number) (omega (arith, first.0, first.1))

-- ---- another page

-- a page that is written changes no other
page_apart : (v b : List ℕ) (q p k n : ℕ) → length b ≡ 4096 → 4096 * q + 4096 ≤ length v → q ≢ p → k + n ≤ 4096 → bytes_at (written v (4096 * q) b) (4096 * p + k) n ≡ bytes_at v (4096 * p + k) n
page_apart v b q p k n long within other inside = search (rules, cases_lt, read_before, read_behind, ℕ)

pub read_other : (v : List ℕ) (xs : List WrittenPage) (p k n : ℕ) → FitIn (length v) xs → ¬ (IsAmong xs p) → k + n ≤ 4096 → bytes_at (laid_over v xs) (4096 * p + k) n ≡ bytes_at v (4096 * p + k) n
read_other v [] p k n fit never inside = refl
read_other v (x ∷ xs) p k n fit never inside =
    let first = fit 0 x refl in
    read_other (written v (4096 * x.number) x.bytes) xs p k n (rest_fits v x xs fit) (rest_apart x xs p never) inside
    ∙ page_apart v x.bytes x.number p k n first.0 first.1 (not_first x xs p never) inside

-- bytes written below to another page
write_apart : (v b g : List ℕ) (q p k : ℕ) → length b ≡ 4096 → 4096 * q + 4096 ≤ length v → 4096 * p + 4096 ≤ length v → q ≢ p → k + length g ≤ 4096
    → written (written v (4096 * p + k) g) (4096 * q) b ≡ written (written v (4096 * q) b) (4096 * p + k) g
write_apart v b g q p k long within also other inside = search (rules, cases_lt, written_apart, ℕ)

write_other : (v g : List ℕ) (xs : List WrittenPage) (p k : ℕ) → FitIn (length v) xs → ¬ (IsAmong xs p) → 4096 * p + 4096 ≤ length v → k + length g ≤ 4096
    → laid_over (written v (4096 * p + k) g) xs ≡ written (laid_over v xs) (4096 * p + k) g
write_other v g [] p k fit never within inside = refl
write_other v g (x ∷ xs) p k fit never within inside =
    let first = fit 0 x refl in
    let same = written_length v x.bytes (4096 * x.number) (omega (arith, first.0, first.1)) in
    ap (λ z. laid_over z xs) (write_apart v x.bytes g x.number p k first.0 first.1 within (not_first x xs p never) inside)
    ∙ write_other (written v (4096 * x.number) x.bytes) g xs p k (rest_fits v x xs fit) (rest_apart x xs p never) (omega (arith, same, within)) inside

-- ---- a written page

pub read_own : (v : List ℕ) (xs : List WrittenPage) (at : ℕ) (x : WrittenPage) (k n : ℕ) → FitIn (length v) xs → AreWrittenOnce xs → slice_get xs at ≡ Some x → k + n ≤ 4096
    → bytes_at (laid_over v xs) (4096 * x.number + k) n ≡ bytes_at x.bytes k n
read_own v [] at x k n fit once there inside = absurd (cc there)
read_own v (y ∷ xs) zero x k n fit once there inside =
    let is : y ≡ x = cc there in
    let first = fit 0 y refl in
    let one = first.0 in
    let read : bytes_at (laid_over (written v (4096 * y.number) y.bytes) xs) (4096 * y.number + k) n ≡ bytes_at y.bytes k n =
    read_other (written v (4096 * y.number) y.bytes) xs y.number k n (rest_fits v y xs fit) (first_apart y xs once) inside
    ∙ read_written v y.bytes (4096 * y.number) k n (omega (arith, one, first.1)) (omega (arith, one, inside)) in
    subst (λ (z : WrittenPage). bytes_at (laid_over (written v (4096 * y.number) y.bytes) xs) (4096 * z.number + k) n ≡ bytes_at z.bytes k n) is read
read_own v (y ∷ xs) (suc at) x k n fit once there inside = read_own (written v (4096 * y.number) y.bytes) xs at x k n (rest_fits v y xs fit) (rest_once y xs once) there inside

abbrev pub page_with : WrittenPage → ℕ → List ℕ → WrittenPage
page_with x k g = record x { bytes = written x.bytes k g }

pub write_own : (v g : List ℕ) (xs : List WrittenPage) (at : ℕ) (x : WrittenPage) (k : ℕ) → FitIn (length v) xs → AreWrittenOnce xs → slice_get xs at ≡ Some x → k + length g ≤ 4096
    → laid_over v (slice_set xs at (page_with x k g)) ≡ written (laid_over v xs) (4096 * x.number + k) g
write_own v g [] at x k fit once there inside = absurd (cc there)
write_own v g (y ∷ xs) zero x k fit once there inside =
    let is : y ≡ x = cc there in
    let first = fit 0 y refl in
    let one = first.0 in
    let same = written_length v y.bytes (4096 * y.number) (omega (arith, one, first.1)) in
    let now : laid_over (written v (4096 * y.number) (written y.bytes k g)) xs ≡ written (laid_over (written v (4096 * y.number) y.bytes) xs) (4096 * y.number + k) g =
    ap (λ z. laid_over z xs) (written_inside v y.bytes g (4096 * y.number) k (omega (arith, one, first.1)) (omega (arith, one, inside)))
    ∙ write_other (written v (4096 * y.number) y.bytes) g xs y.number k (rest_fits v y xs fit) (first_apart y xs once) (omega (arith, same, first.1)) inside in
    subst (λ (z : WrittenPage). laid_over (written v (4096 * z.number) (written z.bytes k g)) xs ≡ written (laid_over (written v (4096 * y.number) y.bytes) xs) (4096 * z.number + k) g) is now
write_own v g (y ∷ xs) (suc at) x k fit once there inside = write_own (written v (4096 * y.number) y.bytes) g xs at x k (rest_fits v y xs fit) (rest_once y xs once) there inside

-- ---- a page that comes among them as it is

pub add_same : (v : List ℕ) (xs : List WrittenPage) (x : WrittenPage) → FitIn (length v) xs → ¬ (IsAmong xs x.number) → 4096 * x.number + 4096 ≤ length v → x.bytes ≡ bytes_at v (4096 * x.number) 4096
    → laid_over v (xs ++ x ∷ []) ≡ laid_over v xs
add_same v [] x fit never within same = ap (written v (4096 * x.number)) same ∙ written_same v (4096 * x.number) 4096 within
add_same v (y ∷ xs) x fit never within same =
    let first = fit 0 y refl in
    let zero_in : 4096 * x.number + 0 ≡ 4096 * x.number = omega arith in
    let as_was = page_apart v y.bytes y.number x.number 0 4096 first.0 first.1 (not_first y xs x.number never) (omega arith) in
    let there : bytes_at (written v (4096 * y.number) y.bytes) (4096 * x.number) 4096 ≡ bytes_at v (4096 * x.number) 4096 = subst (λ z. bytes_at (written v (4096 * y.number) y.bytes) z 4096 ≡ bytes_at v z 4096) zero_in as_was in
    let long = written_length v y.bytes (4096 * y.number) (omega (arith, first.0, first.1)) in
    add_same (written v (4096 * y.number) y.bytes) xs x (rest_fits v y xs fit) (rest_apart y xs x.number never) (omega (arith, long, within)) (same ∙ sym there)
