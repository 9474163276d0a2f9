-- What an instance reads: bytes of its pages, which stand in frames.
use Rattle.std.proofs.Common.{◌≡◌, ℕ, ◌+◌, ◌*◌, ◌-◌, ◌/◌, ◌%◌, ◌<◌, ◌≤◌, ◌++◌, inl, inr, List, [], ◌∷◌, Some, length, take, drop, slice_get, get_or, map, replicate, zero, suc, refl, sym, ◌∙◌, ap, arith, rules}
use Rattle.std.proofs.lemmas.Bool.{cases_lt}
use Rattle.std.proofs.Math.Seq.{drop-append-add}
use Rattle.std.proofs.lemmas.List.{length-drop, take-append-le, drop-append-le, drop-drop, take-replicate, drop-replicate}
use Rattle.wh_model.specs.Execution.{bytes_at}
use Rattle.wh_space_model.specs.{IsTaken, zero_page, frame_of, Space, backing, view, sharers, pages_from, FramesAreSound, IsSound, count, joined, owns, page_at, page_bytes, shares}
use Rattle.wh_space_model.specs.declared.states.Page.{Page}
use Rattle.wh_space_model.specs.declared.states.Page.TheVariants.{Untouched, Private, Shared, Leaving, LeavingShared, Coming, Swapped}
use Rattle.wh_space_model.proofs.Tally.{one_same}
use Rattle.wh_space_model.proofs.Breaking.{get_mapped, or_none}
use Rattle.wh_space_model.proofs.Filling.{blocks_whole, fillable, pages_by, view_long}
use Rattle.wh_space_model.proofs.Putting.{get_pages}
use Rattle.wh_space_model.proofs.Rows.{bytes_at as row_bytes}

-- ---- the frame under a page is taken

pub owned_taken : (s : Space) (f : ℕ) → FramesAreSound s → 1 ≤ count (owns f) s.tables → IsTaken s.pool f
owned_taken s f sound some = elim (cases_lt f (length s.pool.frames)) [
  | inl within ↦ (let e = sound.one f within in (within, omega arith))
  | inr past ↦ absurd (let e = sound.none f past in omega arith)
]

pub shared_taken : (s : Space) (f : ℕ) → FramesAreSound s → 1 ≤ sharers s f → IsTaken s.pool f
shared_taken s f sound some = elim (cases_lt f (length s.pool.frames)) [
  | inl within ↦ (let e = sound.one f within in (within, omega arith))
  | inr past ↦ absurd (let e = sound.none f past in omega arith)
]

pub taken_under : (s : Space) (i p : ℕ) (x : Page) (f : ℕ) → FramesAreSound s → page_at s.tables i p ≡ Some x → frame_of x ≡ Some f → IsTaken s.pool f
taken_under s i p Untouched f sound there on = absurd (cc on)
taken_under s i p (Private g) f sound there on =
    let e : f ≡ g = cc in let o = one_same f g e in let k = get_pages (owns f) s.tables i p (Private g) there in owned_taken s f sound (omega arith)
taken_under s i p (Shared g) f sound there on =
    let e : f ≡ g = cc in let o = one_same f g e in let k = get_pages (shares f) s.tables i p (Shared g) there in shared_taken s f sound (omega arith)
taken_under s i p (Leaving g) f sound there on =
    let e : f ≡ g = cc in let o = one_same f g e in let k = get_pages (owns f) s.tables i p (Leaving g) there in owned_taken s f sound (omega arith)
taken_under s i p (LeavingShared g) f sound there on =
    let e : f ≡ g = cc in let o = one_same f g e in let k = get_pages (shares f) s.tables i p (LeavingShared g) there in shared_taken s f sound (omega arith)
taken_under s i p (Coming k) f sound there on = absurd (cc on)
taken_under s i p (Swapped k) f sound there on = absurd (cc on)

-- ---- bytes in one block of a list of blocks

read_first : (x rest : List ℕ) (r n : ℕ) → r + n ≤ length x → bytes_at (x ++ rest) r n ≡ bytes_at x r n
read_first x rest r n within = search (rules, drop-append-le, length-drop, take-append-le)

read_past : (x rest : List ℕ) (k n : ℕ) → bytes_at (x ++ rest) (length x + k) n ≡ bytes_at rest k n
read_past x rest k n = search (rules, drop-append-add)

pub read_block : (xss : List (List ℕ)) → ((q : ℕ) (x : List ℕ) → slice_get xss q ≡ Some x → length x ≡ 4096) → (p : ℕ) (x : List ℕ) → slice_get xss p ≡ Some x → (r n : ℕ) → r + n ≤ 4096
    → bytes_at (joined xss) (4096 * p + r) n ≡ bytes_at x r n
read_block [] each p x there r n within = absurd (cc there)
read_block (y ∷ xss) each zero x there r n within =
    let e : y ≡ x = cc in
    let long = each 0 y refl in
    let zeros : 4096 * 0 + r ≡ r = omega arith in
    rw (zeros, ← e) (read_first y (joined xss) r n (omega arith))
read_block (y ∷ xss) each (suc p) x there r n within =
    let long = each 0 y refl in
    let e : 4096 * suc p + r ≡ length y + (4096 * p + r) = omega arith in
    rw e (read_past y (joined xss) (4096 * p + r) n ∙ read_block xss (λ q z at_it. each (suc q) z at_it) p x there r n within)

-- ---- what an instance sees of a page

pub read_page : (s : Space) (i p : ℕ) (x : Page) (r n : ℕ) → IsSound s → page_at s.tables i p ≡ Some x → r + n ≤ 4096
    → bytes_at (view s i) (4096 * p + r) n ≡ bytes_at (page_bytes (backing s) x) r n
read_page s i p x r n sound there within =
    let row : List Page = get_or s.tables i [] in
    let whole = blocks_whole s i (fillable s i sound) in
    let block : slice_get (map (page_bytes (backing s)) row) p ≡ Some (page_bytes (backing s) x) = get_mapped (page_bytes (backing s)) row p ∙ ap (or_none (page_bytes (backing s))) there in
    ap (λ z. bytes_at (joined z) (4096 * p + r) n) (row_bytes (backing s) s.tables i) ∙ read_block (map (page_bytes (backing s)) row) whole p (page_bytes (backing s) x) block r n within

pub read_zeros : (r n : ℕ) → r + n ≤ 4096 → bytes_at zero_page r n ≡ replicate n 0
unfolding zero_page
read_zeros r n within =
    let a = drop-replicate {X = ℕ} r 4096 0 in
    let b = take-replicate {X = ℕ} ((r + n) - r) (4096 - r) 0 (omega arith) in
    let e : (r + n) - r ≡ n = omega arith in
    rw (a, b, e) refl

-- ---- bytes in two parts

take_none : (b : ℕ) → take {A = ℕ} b [] ≡ []
take_none zero = refl
take_none (suc b) = refl

take_parts : (a b : ℕ) (d : List ℕ) → take (a + b) d ≡ take a d ++ take b (drop a d)
take_parts zero b d = let e : 0 + b ≡ b = omega arith in rw e refl
take_parts (suc a) b [] = let e : suc a + b ≡ suc (a + b) = omega arith in rw e (sym (take_none b))
take_parts (suc a) b (x ∷ d) = let e : suc a + b ≡ suc (a + b) = omega arith in rw e (ap (λ z. x ∷ z) (take_parts a b d))

pub read_parts : (xs : List ℕ) (k a b : ℕ) → bytes_at xs k (a + b) ≡ bytes_at xs k a ++ bytes_at xs (k + a) b
read_parts xs k a b =
    let e : (k + (a + b)) - k ≡ a + b = omega arith in
    let f : (k + a) - k ≡ a = omega arith in
    let g : ((k + a) + b) - (k + a) ≡ b = omega arith in
    let d = drop-drop a k xs in
    rw (e, f, g) (take_parts a b (drop k xs) ∙ ap (λ z. take a (drop k xs) ++ take b z) d)

-- ---- the pages on which bytes lie

pub on_one_page : (k n : ℕ) → 1 ≤ n → k % 4096 + n ≤ 4096 → pages_from k n ≡ (k / 4096) ∷ []
on_one_page k zero some within = absurd (omega arith)
on_one_page k (suc n) some within = elim (pages_by k n) [ inl one ↦ one.0 | inr two ↦ absurd (omega arith) ]

pub on_two_pages : (k n : ℕ) → 4096 < k % 4096 + n → pages_from k n ≡ (k / 4096) ∷ (k / 4096 + 1) ∷ []
on_two_pages k zero over = absurd (omega arith)
on_two_pages k (suc n) over = elim (pages_by k n) [ inl one ↦ absurd (omega arith) | inr two ↦ two.0 ]

pub on_no_page : (k n : ℕ) → n ≡ 0 → pages_from k n ≡ []
on_no_page k n none = rw none refl

-- the view of an instance is as long as its pages
pub view_length : (s : Space) (i : ℕ) → IsSound s → length (view s i) ≡ 4096 * length (get_or s.tables i [])
view_length s i sound = view_long s i (fillable s i sound)
