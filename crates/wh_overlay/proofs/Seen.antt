-- What an instance sees of a memory with what is written beside it.
use Rattle.std.proofs.Common.{◌≡◌, ◌∙◌, inl, inr, ℕ, ◌+◌, ◌-◌, ◌*◌, ◌<◌, ◌≤◌, List, [], ◌∷◌, ◌++◌, Some, length, get_or, replicate, slice_get, slice_set, refl, sym, ap, subst, zero, suc, arith, length-append, append_assoc, rules}
use Rattle.std.proofs.lemmas.List.{length-replicate}
use Rattle.wh_model.specs.Execution.{bytes_at, written}
use Rattle.wh_space_model.specs.declared.states.Page.TheVariants.{Private}
use Rattle.wh_space_model.specs.{Space, view, IsAtHand, IsSound, at, page_at}
use Rattle.wh_space_model.proofs.Tally.{tally-append}
use Rattle.wh_space_model.proofs.Blocks.{written_before}
use Rattle.wh_space_model.proofs.Filling.{at_hand}
use Rattle.wh_space_model.proofs.Putting.{is_page, set_other}
use Rattle.wh_space_model.proofs.Reading.{view_length}
use Rattle.wh_space_model.proofs.Sums.{set_tally}
use Rattle.wh_overlay.specs.declared.overlay_pages.WrittenPage.{WrittenPage}
use Rattle.wh_overlay.specs.LaidPages.{AreWrittenOnce, AreWhole, FitIn, IsAmong, IsNoted, IsWrittenAt, NotesRead, OverlayPagesState, grown_by, laid_over, with_upper}
use Rattle.wh_overlay.specs.Over.{AreAtHand, CanWrite, HasCome, IsOver, IsOverSame, IsThereToRead, IsWholeOver, ReadsAreThere, frames_lacking, lacks_frame}
use Rattle.std.proofs.lemmas.Bool.{cases_eq}
use Rattle.wh_overlay.proofs.Marks.{read_before_end, read_or_last, set_there, was_there}
use Rattle.wh_overlay.proofs.Bytes.{read_first, read_past, read_zeros}
use Rattle.wh_overlay.proofs.OverPages.{add_same, laid_length, page_with, read_other, read_own, rest_fits, write_own}

pub grown_length : (bytes : List ℕ) (n : ℕ) → length (grown_by bytes n) ≡ length bytes + n * 65536
grown_length bytes n = length-append bytes (replicate (n * 65536) 0) ∙ ap (λ z. length bytes + z) (length-replicate (n * 65536) 0)

-- the pages that were written lie in the memory
pub all_fit : (s : Space) (i : ℕ) (u : OverlayPagesState) → IsSound s → AreAtHand s i u.pages → AreWhole u.pages → FitIn (length (grown_by (view s i) u.grown)) u.pages
all_fit s i u sound hand whole k x there =
    let on = at_hand (page_at s.tables i x.number) (hand k x there) in
    let grown = grown_length (view s i) u.grown in
    (whole k x there, omega (arith, (is_page s.tables i x.number on.0 on.1).1, view_length s i sound, grown))

pub seen_length : (s : Space) (i : ℕ) (u : OverlayPagesState) → IsSound s → AreAtHand s i u.pages → AreWhole u.pages → length (with_upper (view s i) u) ≡ length (view s i) + u.grown * 65536
seen_length s i u sound hand whole = laid_length (grown_by (view s i) u.grown) u.pages (all_fit s i u sound hand whole) ∙ grown_length (view s i) u.grown

-- ---- what is read

-- a page that was written
pub read_written_page : (s : Space) (i : ℕ) (u : OverlayPagesState) (p at k n : ℕ) (bytes : List ℕ) → IsSound s → AreAtHand s i u.pages → AreWhole u.pages → AreWrittenOnce u.pages → IsWrittenAt u.pages p at
    → ((x : WrittenPage) × (slice_get u.pages at ≡ Some x) × (bytes ≡ x.bytes)) → k + n ≤ 4096 → bytes_at (with_upper (view s i) u) (4096 * p + k) n ≡ bytes_at bytes k n
read_written_page s i u p at k n bytes sound hand whole once (x, there, same) (y, also, is) inside =
    let both : Some y ≡ Some x = sym also ∙ there in
    let one : y ≡ x = cc both in
    subst (λ q. bytes_at (with_upper (view s i) u) (4096 * q + k) n ≡ bytes_at bytes k n) same
    (read_own (grown_by (view s i) u.grown) u.pages at x k n (all_fit s i u sound hand whole) once there inside ∙ ap (λ (z : WrittenPage). bytes_at z.bytes k n) (sym one) ∙ ap (λ z. bytes_at z k n) (sym is))

-- another one of the memory below
pub read_lower_page : (s : Space) (i : ℕ) (u : OverlayPagesState) (p k n : ℕ) → IsSound s → AreAtHand s i u.pages → AreWhole u.pages → ¬ (IsAmong u.pages p) → p < length (get_or s.tables i []) → k + n ≤ 4096
    → bytes_at (with_upper (view s i) u) (4096 * p + k) n ≡ bytes_at (view s i) (4096 * p + k) n
read_lower_page s i u p k n sound hand whole never less inside =
    read_other (grown_by (view s i) u.grown) u.pages p k n (all_fit s i u sound hand whole) never inside
    ∙ read_first (view s i) (replicate (u.grown * 65536) 0) (4096 * p + k) n (omega (arith, view_length s i sound, less, inside))

-- one by which the memory has grown
pub read_grown_page : (s : Space) (i : ℕ) (u : OverlayPagesState) (p k n : ℕ) → IsSound s → AreAtHand s i u.pages → AreWhole u.pages → ¬ (IsAmong u.pages p) → length (get_or s.tables i []) ≤ p → k + n ≤ 4096
    → 4096 * p + k + n ≤ length (with_upper (view s i) u) → bytes_at (with_upper (view s i) u) (4096 * p + k) n ≡ replicate n 0
read_grown_page s i u p k n sound hand whole never more inside within =
    let all = seen_length s i u sound hand whole in
    let m = u.grown * 65536 in
    let j = (4096 * p + k) - length (view s i) in
    let at : 4096 * p + k ≡ length (view s i) + j = omega (arith, view_length s i sound, more) in
    read_other (grown_by (view s i) u.grown) u.pages p k n (all_fit s i u sound hand whole) never inside
    ∙ ap (λ z. bytes_at (grown_by (view s i) u.grown) z n) at ∙ read_past (view s i) (replicate m 0) j n ∙ read_zeros m j n (omega (arith, at, all, within))

-- ---- what is written

-- a page comes among those that were written, as it is
pub add_page : (s : Space) (i : ℕ) (u v : OverlayPagesState) (p : ℕ) (bytes : List ℕ) → IsSound s → AreAtHand s i u.pages → AreWhole u.pages → ¬ (IsAmong u.pages p) → IsAtHand (page_at s.tables i p)
    → bytes ≡ bytes_at (view s i) (4096 * p) 4096 → v.grown ≡ u.grown → v.pages ≡ u.pages ++ record { number = p; bytes = bytes } ∷ [] → with_upper (view s i) v ≡ with_upper (view s i) u
add_page s i u v p bytes sound hand whole never there same grown pages =
    let on = at_hand (page_at s.tables i p) there in
    let less = (is_page s.tables i p on.0 on.1).1 in
    let long = view_length s i sound in
    let w = grown_by (view s i) u.grown in
    let more = grown_length (view s i) u.grown in
    let below : bytes_at w (4096 * p) 4096 ≡ bytes_at (view s i) (4096 * p) 4096 = read_first (view s i) (replicate (u.grown * 65536) 0) (4096 * p) 4096 (omega (arith, long, less)) in
    ap (λ z. laid_over (grown_by (view s i) z) v.pages) grown ∙ ap (laid_over w) pages
    ∙ add_same w u.pages (record { number = p; bytes = bytes }) (all_fit s i u sound hand whole) never (omega (arith, long, less, more)) (same ∙ sym below)

-- what was read is there still
pub there_with : (s : Space) (i : ℕ) (u v : OverlayPagesState) → v.grown ≡ u.grown → ((p : ℕ) → IsNoted v.reads p → IsNoted u.reads p) → ReadsAreThere s i u → ReadsAreThere s i v
there_with s i u v grown was there p is = elim (there p (was p is)) [
  | inl hand ↦ inl hand
  | inr come ↦ inr (come.0, (let more = come.1 in omega (arith, more, grown)))
]

-- a page that is there is noted as read
pub noted_over : (s : Space) (i : ℕ) (u v : OverlayPagesState) (p : ℕ) → IsOver s i u → IsThereToRead s i u p → NotesRead u p v → IsOver s i v
noted_over s i u v p over there (inl (same, known)) = subst (IsOver s i) (sym same) over
noted_over s i u v p over there (inr is) = subst (IsOver s i) (sym is) (record {
  at_hand = over.at_hand;
  there = λ q read. elim (read_or_last u.reads p q read) [
    | inl before ↦ over.there q before
    | inr last ↦ subst (IsThereToRead s i u) (sym last) there
  ];
  frames = over.frames;
  lent = over.lent;
  counted = over.counted;
  limited = over.limited;
})

pub noted_lent : (u v : OverlayPagesState) (p : ℕ) → NotesRead u p v → v.lent ≡ u.lent
noted_lent u v p (inl (same, known)) = ap (λ (z : OverlayPagesState). z.lent) same
noted_lent u v p (inr is) = ap (λ (z : OverlayPagesState). z.lent) is

pub noted_reads : (u v : OverlayPagesState) (p q : ℕ) → NotesRead u p v → IsNoted u.reads q → IsNoted v.reads q
noted_reads u v p q (inl (same, known)) read = subst (λ (z : OverlayPagesState). IsNoted z.reads q) (sym same) read
noted_reads u v p q (inr is) read = subst (λ (z : OverlayPagesState). IsNoted z.reads q) (sym is) (read_before_end u.reads p q read)

-- and takes a frame where it may have to get one
pub added_over : (s : Space) (i : ℕ) (u v : OverlayPagesState) (p n : ℕ) (bytes : List ℕ) → IsOver s i u → IsAtHand (page_at s.tables i p) → at lacks_frame (page_at s.tables i p) ≤ n → u.taken + n ≤ u.lent
    → v.pages ≡ u.pages ++ record { number = p; bytes = bytes } ∷ [] → v.reads ≡ u.reads → v.grown ≡ u.grown → v.taken ≡ u.taken + n → v.lent ≡ u.lent → IsOver s i v
added_over s i u v p n bytes over there some left pages reads grown taken lent =
    let frames = over.frames in
    let sum = tally-append (λ (x : WrittenPage). at lacks_frame (page_at s.tables i x.number)) u.pages (record { number = p; bytes = bytes } ∷ []) in
    let all : frames_lacking s i v.pages ≡ frames_lacking s i (u.pages ++ record { number = p; bytes = bytes } ∷ []) = ap (frames_lacking s i) pages in
    record {
      at_hand = search (rules, was_there);
      there = there_with s i u v grown (λ q is. subst (λ rs. IsNoted rs q) reads is) over.there;
      frames = omega (arith, frames, sum, all, some, taken);
      lent = omega (arith, left, taken, lent);
      counted = rw grown over.counted;
      limited = rw grown over.limited;
    }

-- bytes of a page that was written
pub write_page : (s : Space) (i : ℕ) (u v : OverlayPagesState) (p at k : ℕ) (given : List ℕ) → IsSound s → AreAtHand s i u.pages → AreWhole u.pages → AreWrittenOnce u.pages → IsWrittenAt u.pages p at
    → ((x : WrittenPage) × (slice_get u.pages at ≡ Some x) × (v ≡ record u { pages = slice_set u.pages at (page_with x k given) })) → k + length given ≤ 4096
    → with_upper (view s i) v ≡ written (with_upper (view s i) u) (4096 * p + k) given
write_page s i u v p at k given sound hand whole once (x, there, same) (y, also, is) inside =
    let both : Some y ≡ Some x = sym also ∙ there in
    let one : y ≡ x = cc both in
    let w = grown_by (view s i) u.grown in
    ap (with_upper (view s i)) is ∙ ap (λ (z : WrittenPage). laid_over w (slice_set u.pages at (page_with z k given))) one
    ∙ write_own w given u.pages at x k (all_fit s i u sound hand whole) once there inside ∙ ap (λ q. written (laid_over w u.pages) (4096 * q + k) given) same

pub still_at_hand : (s : Space) (i at : ℕ) (pages : List WrittenPage) (x y : WrittenPage) → AreAtHand s i pages → slice_get pages at ≡ Some x → y.number ≡ x.number → AreAtHand s i (slice_set pages at y)
still_at_hand s i at pages x y hand there same k z now = elim (cases_eq k at) [
  | inl here ↦ search (rules, set_there)
  | inr other ↦ hand k z (sym (set_other pages at k y other) ∙ now)
]

pub still_lacking : (s : Space) (i k : ℕ) (pages : List WrittenPage) (x y : WrittenPage) → slice_get pages k ≡ Some x → y.number ≡ x.number → frames_lacking s i (slice_set pages k y) ≡ frames_lacking s i pages
still_lacking s i k pages x y there same =
    let w : WrittenPage → ℕ = λ (z : WrittenPage). at lacks_frame (page_at s.tables i z.number) in
    let one : w y ≡ w x = ap (λ n. at lacks_frame (page_at s.tables i n)) same in
    omega (arith, set_tally w pages k x y there, one)

-- what can be written is a page of the memory below
pub written_within : (s : Space) (i : ℕ) (u : OverlayPagesState) (p : ℕ) → AreAtHand s i u.pages → CanWrite s i u p → p < length (get_or s.tables i [])
written_within s i u p hand can = by can
  where
    within : (q : ℕ) → IsAtHand (page_at s.tables i q) → q < length (get_or s.tables i [])
    within q there = let on = at_hand (page_at s.tables i q) there in (is_page s.tables i q on.0 on.1).1

    by : CanWrite s i u p → p < length (get_or s.tables i [])
    by (inl (k, (x, there, same))) = subst (λ q. q < length (get_or s.tables i [])) same (within x.number (hand k x there))
    by (inr (inl own, less, room)) = (is_page s.tables i p (Private own.0) own.1).1
    by (inr (inr (there, left), less, room)) = within p there

-- ---- a memory that grows

pub grown_twice : (bytes : List ℕ) (m n : ℕ) → grown_by bytes (m + n) ≡ grown_by (grown_by bytes m) n
grown_twice bytes m n =
    let e : (m + n) * 65536 ≡ m * 65536 + n * 65536 = omega arith in
    ap (λ z. bytes ++ replicate {A = ℕ} z 0) e ∙ ap (λ z. bytes ++ z) (replicate-add (m * 65536) (n * 65536)) ∙ sym (append_assoc bytes (replicate (m * 65536) 0) (replicate (n * 65536) 0))
  where
    replicate-add : (m n : ℕ) → replicate {A = ℕ} (m + n) 0 ≡ replicate m 0 ++ replicate n 0
    replicate-add zero n = let e : 0 + n ≡ n = omega arith in ap (λ z. replicate {A = ℕ} z 0) e
    replicate-add (suc m) n = let e : suc m + n ≡ suc (m + n) = omega arith in ap (λ z. replicate {A = ℕ} z 0) e ∙ ap (λ z. 0 ∷ z) (replicate-add m n)

-- pages that lie in a memory lie there when it has grown
laid_longer : (v more : List ℕ) (xs : List WrittenPage) → FitIn (length v) xs → laid_over (v ++ more) xs ≡ laid_over v xs ++ more
laid_longer v more [] fit = refl
laid_longer v more (x ∷ xs) fit =
    let first = fit 0 x refl in
    ap (λ z. laid_over z xs) (written_before v more (4096 * x.number) x.bytes (omega (arith, first.0, first.1)))
    ∙ laid_longer (written v (4096 * x.number) x.bytes) more xs (rest_fits v x xs fit)

pub grow_page : (s : Space) (i : ℕ) (u v : OverlayPagesState) (n : ℕ) → IsSound s → AreAtHand s i u.pages → AreWhole u.pages → v ≡ record u { grown = u.grown + n } → with_upper (view s i) v ≡ grown_by (with_upper (view s i) u) n
grow_page s i u v n sound hand whole is =
    ap (with_upper (view s i)) is ∙ ap (λ z. laid_over z u.pages) (grown_twice (view s i) u.grown n)
    ∙ laid_longer (grown_by (view s i) u.grown) (replicate (n * 65536) 0) u.pages (all_fit s i u sound hand whole)

pub there_longer : (s : Space) (i : ℕ) (u : OverlayPagesState) (n : ℕ) → ReadsAreThere s i u → ReadsAreThere s i (record u { grown = u.grown + n })
there_longer s i u n there p is = elim (there p is) [
  | inl hand ↦ inl hand
  | inr come ↦ inr (come.0, (let more = come.1 in omega (arith, more)))
]

-- a page behind those of the memory below has come
pub come : (s : Space) (i : ℕ) (u : OverlayPagesState) (p k n : ℕ) → IsSound s → AreAtHand s i u.pages → AreWhole u.pages → 1 ≤ n → length (get_or s.tables i []) ≤ p → 4096 * p + k + n ≤ length (with_upper (view s i) u) → HasCome s i u p
come s i u p k n sound hand whole some least within =
    (least, omega (arith, seen_length s i u sound hand whole, view_length s i sound, within, some))

pub noted_same : (s : Space) (i limit : ℕ) (u v : OverlayPagesState) (p : ℕ) → NotesRead u p v → (IsWholeOver s i u → IsWholeOver s i v) → IsOverSame (record { lower = s; place = i; page_limit = limit; upper = u }) (record { lower = s; place = i; page_limit = limit; upper = v })
noted_same s i limit u v p notes stays = record {
  lower = refl;
  place = refl;
  page_limit = refl;
  lent = noted_lent u v p notes;
  reads = λ q is. noted_reads u v p q notes is;
  stays = stays;
}
