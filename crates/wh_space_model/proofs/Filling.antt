-- Where the bytes are in the table and ready, there is a store.
use Rattle.std.proofs.Common.{◌≡◌, ◌≢◌, ℕ, ◌+◌, ◌*◌, ◌-◌, ◌/◌, ◌%◌, ◌<◌, ◌≤◌, ◌++◌, ◌⊎◌, ◌==◌, inl, inr, cond, map, List, [], ◌∷◌, Option, Some, None, length, take, drop, slice_get, slice_set, get_or, zero, suc, refl, sym, ap, ◌∙◌, subst, arith, length-set, rules}
use Rattle.std.proofs.lemmas.Bool.Decides.{nat_tests}
use Rattle.std.proofs.lemmas.Bool.{cases_lt}
use Rattle.std.specs.List.{All}
use Rattle.std.proofs.lemmas.List.Elements.{All-head, All-tail}
use Rattle.std.proofs.lemmas.List.{get_or-set_same, get_or-set_other, length-map, length-take-le, length-drop, take-append-drop}
use Rattle.wh_model.specs.Execution.{written}
use Rattle.wh_model.specs.Execution.Memory.{writing}
use Rattle.wh_model.proofs.Fragments.{length-written}
use Rattle.wh_space_model.specs.{tally, one_if, Space, backing, frame_bytes, kept_by, sharers, view, FramesAreSound, IsSound, Backing, at, comes_from, count, joined, lies_in, owns, page_at, page_bytes, resident, shares, untouched, IsAtHand, among, copies, may_take, pages_from, pages_of_need, BreaksEach, TakesFrame, standing_alone, with_fewer, Fills, SomeStore, zero_page}
use Rattle.wh_space_model.proofs.Tally.{one_same, one_other}
use Rattle.wh_space_model.specs.declared.states.Page.{Page}
use Rattle.wh_space_model.specs.declared.states.Page.TheVariants.{Untouched, Private, Shared, Leaving, LeavingShared, Coming, Swapped}
use Rattle.wh_space_model.specs.Breaks.{Breaks}
use Rattle.wh_space_model.proofs.PageLemmas.{length-zero_page}
use Rattle.wh_space_model.proofs.Blocks.{joined_length, written_block, written_parts}
use Rattle.wh_space_model.proofs.Breaking.{broke, get_mapped, or_none}
use Rattle.wh_space_model.proofs.BrokenEach.{apart_pages, broken_each, broken_off}
use Rattle.wh_space_model.proofs.Counting.{double, frames_one_page, frames_two_pages, shared_frame, single}
use Rattle.wh_space_model.proofs.Filled.{one_row, refilled}
use Rattle.wh_space_model.proofs.Putting.{get_pages, here_or, put_other}
use Rattle.wh_space_model.proofs.Rows.{bytes_at}
use Rattle.wh_space_model.proofs.Sums.{get_tally, put_tally}
use Rattle.wh_space_model.proofs.Transit.{other_frame, other_frames}
use Rattle.wh_space_model.proofs.Wanting.{few_pages}

-- ---- frames to take

pub some_frame : (s : Space) (i : ℕ) (bytes : List ℕ) → 1 ≤ may_take s i → (g : ℕ) × (mid : Space) × TakesFrame s i g bytes mid
some_frame s i bytes some = go s.pool.free refl (kept_by s.pins i) refl where
  go : (free : List ℕ) → s.pool.free ≡ free → (kept : List ℕ) → kept_by s.pins i ≡ kept → (g : ℕ) × (mid : Space) × TakesFrame s i g bytes mid
  go (g ∷ rest) e kept k = (g, record s { pool = record { frames = slice_set s.pool.frames g bytes; free = rest } }, inl (rest, ([], rest, e, refl), refl))
  go [] e (g ∷ rest) k = (
    g,
    record s {
      pool = record s.pool { frames = slice_set s.pool.frames g bytes };
      pins = Some (record { place = i; pages = Rattle.wh_space_model.specs.Parts.pinned_by s.pins i; frames = rest });
    },
    inr (rest, ([], rest, k, refl), refl),
  )
  go [] e [] k = absurd (let a = ap length e in let b = ap length k in omega arith)

-- ---- a page that is at hand can be unshared

pub sharing_page : (s : Space) (i p f : ℕ) → 1 ≤ sharers s f → copies 1 (sharers s f) ≤ may_take s i → (g : ℕ) × (mid : Space) × Rattle.wh_space_model.specs.Breaks.LeavesSharers s i f g mid
sharing_page s i p f one enough =
    elim (cases_lt 1 (sharers s f)) [
      | inr last ↦ (f, with_fewer s f, inl (omega arith, refl, refl))
      | inl more ↦
          (let t = some_frame (with_fewer s f) i (frame_bytes s f) (let c = two_copies (sharers s f) more in omega arith) in
          (t.0, t.1, inr (more, t.2)))
    ] where
      two_copies : (n : ℕ) → 1 < n → copies 1 n ≡ 1
      two_copies n some = grind (arith, nat_tests)

pub some_break : (s : Space) (i p : ℕ) (x : Page) → page_at s.tables i p ≡ Some x → untouched x + resident x ≡ 1 → untouched x + single s (shared_frame x) ≤ may_take s i → (s2 : Space) × Breaks s i p s2
unfolding single shared_frame
some_break s i p Untouched there near enough =
    let t = some_frame s i zero_page (omega arith) in
    (standing_alone t.1 i p t.0, record { page = Untouched; was = there; frame = t.0; mid = t.1; gets = t.2; after = refl })
some_break s i p (Private f) there near enough = (standing_alone s i p f, record { page = Private f; was = there; frame = f; mid = s; gets = (refl, refl); after = refl })
some_break s i p (Leaving f) there near enough = (standing_alone s i p f, record { page = Leaving f; was = there; frame = f; mid = s; gets = (refl, refl); after = refl })
some_break s i p (Shared f) there near enough =
    let one = get_pages (shares f) s.tables i p (Shared f) there in let o = one_same f f refl in
    let t = sharing_page s i p f (omega arith) (omega arith) in
    (standing_alone t.1 i p t.0, record { page = Shared f; was = there; frame = t.0; mid = t.1; gets = t.2; after = refl })
some_break s i p (LeavingShared f) there near enough =
    let one = get_pages (shares f) s.tables i p (LeavingShared f) there in let o = one_same f f refl in
    let t = sharing_page s i p f (omega arith) (omega arith) in
    (standing_alone t.1 i p t.0, record { page = LeavingShared f; was = there; frame = t.0; mid = t.1; gets = t.2; after = refl })
some_break s i p (Coming k) there near enough = absurd (omega arith)
some_break s i p (Swapped k) there near enough = absurd (omega arith)

-- a page that is at hand is there
pub at_hand : (o : Option Page) → IsAtHand o → (x : Page) × (o ≡ Some x) × (untouched x + resident x ≡ 1)
at_hand None near = absurd (omega arith)
at_hand (Some x) near = (x, refl, near)

-- what two pages want one after the other is what they want together
pub shares_it : (x : Page) (f : ℕ) → shared_frame x ≡ Some f → shares f x ≡ 1
unfolding shared_frame
shares_it Untouched f e = absurd (cc e)
shares_it (Private g) f e = absurd (cc e)
shares_it (Shared g) f e = let k : g ≡ f = cc in one_same f g (sym k)
shares_it (Leaving g) f e = absurd (cc e)
shares_it (LeavingShared g) f e = let k : g ≡ f = cc in one_same f g (sym k)
shares_it (Coming k) f e = absurd (cc e)
shares_it (Swapped k) f e = absurd (cc e)

pub copies_less : (a b : ℕ) → a ≤ b → copies 1 a ≤ copies 1 b
copies_less a b less = grind (arith, nat_tests)

pub copies_both : (n m : ℕ) → m + 1 ≡ n → copies 1 n + copies 1 m ≤ copies 2 n
copies_both n m next = grind (arith, nat_tests)

pub same_cond : (f g a b : ℕ) → f ≡ g → cond (f == g) a b ≡ a
same_cond f g a b e = grind (arith, nat_tests)

pub other_cond : (f g a b : ℕ) → f ≢ g → cond (f == g) a b ≡ b
other_cond f g a b other = grind (arith, nat_tests)

pub both_want : (s mid : Space) (o q : Option ℕ) → ((h : ℕ) → sharers mid h ≤ sharers s h) → ((f : ℕ) → o ≡ Some f → sharers mid f + 1 ≡ sharers s f) → single s o + single mid q ≤ double s o q
unfolding single double
both_want s mid None None less one = omega arith
both_want s mid None (Some g) less one = let k = copies_less (sharers mid g) (sharers s g) (less g) in omega arith
both_want s mid (Some f) None less one = omega arith
both_want s mid (Some f) (Some g) less one =
    elim (here_or f g) [
      | inl same ↦
          (let e = same_cond f g (copies 2 (sharers s f)) (copies 1 (sharers s f) + copies 1 (sharers s g)) (sym same) in
          let k = copies_both (sharers s f) (sharers mid f) (one f refl) in
          let z : sharers mid g ≡ sharers mid f = ap (sharers mid) same in
          rw (e, z) k)
      | inr other ↦
          (let e = other_cond f g (copies 2 (sharers s f)) (copies 1 (sharers s f) + copies 1 (sharers s g)) (λ e. other (sym e)) in
          let k = copies_less (sharers mid g) (sharers s g) (less g) in
          rw e (omega arith))
    ]

pub double_most : (s : Space) (o q : Option ℕ) → single s o ≤ double s o q
unfolding single double
double_most s None q = omega arith
double_most s (Some f) None = omega arith
double_most s (Some f) (Some g) = search rules

pub each_one : (s : Space) (i p : ℕ) (s2 : Space) → Breaks s i p s2 → BreaksEach s i (p ∷ []) s2
each_one s i p s2 b = (s2, b, refl)

pub each_two : (s : Space) (i p q : ℕ) (mid s2 : Space) → Breaks s i p mid → Breaks mid i q s2 → BreaksEach s i (p ∷ q ∷ []) s2
each_two s i p q mid s2 b c = (mid, b, (s2, c, refl))

pub some_breaks : (s : Space) (i : ℕ) (ps : List ℕ) → IsSound s → Rattle.wh_space_model.proofs.Wanting.OneOrTwo ps → All (λ p. IsAtHand (page_at s.tables i p)) ps → Rattle.wh_space_model.specs.Ready.frames_for s i ps ≤ may_take s i
    → (mid : Space) × BreaksEach s i ps mid
unfolding Rattle.wh_space_model.proofs.Wanting.OneOrTwo broke
some_breaks s i ps sound (inl e) near enough = (s, subst (λ z. BreaksEach s i z s) (sym e) refl)
some_breaks s i ps sound (inr (inl (p, e))) near enough =
    let near1 = subst (All (λ p. IsAtHand (page_at s.tables i p))) e near in
    let x = at_hand (page_at s.tables i p) (All-head (λ p. IsAtHand (page_at s.tables i p)) p [] near1) in
    let wants = frames_one_page s i p x.0 sound.frames x.1 in
    let enough1 : Rattle.wh_space_model.specs.Ready.frames_for s i (p ∷ []) ≤ may_take s i = subst (λ z. Rattle.wh_space_model.specs.Ready.frames_for s i z ≤ may_take s i) e enough in
    let b = some_break s i p x.0 x.1 x.2 (omega arith) in
    (b.0, subst (λ z. BreaksEach s i z b.0) (sym e) (each_one s i p b.0 b.1))
some_breaks s i ps sound (inr (inr (p, e))) near enough =
    let near2 = subst (All (λ p. IsAtHand (page_at s.tables i p))) e near in
    let hand : ℕ → Type 0 = λ p. IsAtHand (page_at s.tables i p) in
    let x = at_hand (page_at s.tables i p) (All-head hand p ((p + 1) ∷ []) near2) in
    let y = at_hand (page_at s.tables i (p + 1)) (All-head hand (p + 1) [] (All-tail hand p ((p + 1) ∷ []) near2)) in
    let wants = frames_two_pages s i p (p + 1) x.0 y.0 sound.frames x.1 y.1 in
    let enough2 : Rattle.wh_space_model.specs.Ready.frames_for s i (p ∷ (p + 1) ∷ []) ≤ may_take s i = subst (λ z. Rattle.wh_space_model.specs.Ready.frames_for s i z ≤ may_take s i) e enough in
    let most : single s (shared_frame x.0) ≤ double s (shared_frame x.0) (shared_frame y.0) = double_most s (shared_frame x.0) (shared_frame y.0) in
    let b = some_break s i p x.0 x.1 x.2 (omega arith) in
    let mid : Space = b.0 in
    let first = broken_off s i p mid sound b.1 in
    let page : first.page ≡ x.0 = (let both : Some first.page ≡ Some x.0 = sym first.was ∙ x.1 in cc) in
    let share : (h : ℕ) → sharers mid h + shares h x.0 ≡ sharers s h + 0 = λ h. (let a = put_tally (shares h) s.tables i p x.0 (Private first.frame) x.1 in let t = ap (λ (a : Space). count (shares h) a.tables) first.is in omega arith) in
    let there : page_at mid.tables i (p + 1) ≡ Some y.0 = ap (λ (a : Space). page_at a.tables i (p + 1)) first.is ∙ (put_other s.tables i p (p + 1) (Private first.frame) (λ e. omega arith) ∙ y.1) in
    let together = both_want s mid (shared_frame x.0) (shared_frame y.0) (λ h. (let k = share h in omega arith)) (λ f is. (let k = share f in let o = shares_it x.0 f is in omega arith)) in
    let takes : may_take mid i + (untouched x.0 + single s (shared_frame x.0)) ≡ may_take s i = subst (λ z. may_take mid i + (untouched z + single s (shared_frame z)) ≡ may_take s i) page first.takes in
    let b2 = some_break mid i (p + 1) y.0 there y.2 (omega arith) in
    (b2.0, subst (λ z. BreaksEach s i z b2.0) (sym e) (each_two s i p (p + 1) mid b2.0 b.1 b2.1))

-- ---- bytes that are written to a page

-- the pages of an instance have 4096 bytes, and a frame of its own no other page of it
pub record IsFillable (s : Space) (i : ℕ) : Type 0 where
  pub whole : (q : ℕ) (x : Page) → page_at s.tables i q ≡ Some x → length (page_bytes (backing s) x) ≡ 4096
  pub alone : (p f : ℕ) → page_at s.tables i p ≡ Some (Private f) → (f < length s.pool.frames) × (tally (owns f) (get_or s.tables i []) ≤ 1) × (tally (shares f) (get_or s.tables i []) ≡ 0)

pub frame_whole : (s : Space) (f : ℕ) → FramesAreSound s → 1 ≤ count (owns f) s.tables + sharers s f → length (frame_bytes s f) ≡ 4096
frame_whole s f sound some = elim (cases_lt f (length s.pool.frames)) [ inl within ↦ sound.whole f within | inr past ↦ absurd (let z = sound.none f past in omega arith) ]

pub page_whole : (s : Space) (i q : ℕ) (x : Page) → IsSound s → page_at s.tables i q ≡ Some x → length (page_bytes (backing s) x) ≡ 4096
page_whole s i q Untouched sound there = length-zero_page
page_whole s i q (Private f) sound there = let k = get_pages (owns f) s.tables i q (Private f) there in let o = one_same f f refl in frame_whole s f sound.frames (omega arith)
page_whole s i q (Shared f) sound there = let k = get_pages (shares f) s.tables i q (Shared f) there in let o = one_same f f refl in frame_whole s f sound.frames (omega arith)
page_whole s i q (Leaving f) sound there = let k = get_pages (owns f) s.tables i q (Leaving f) there in let o = one_same f f refl in frame_whole s f sound.frames (omega arith)
page_whole s i q (LeavingShared f) sound there = let k = get_pages (shares f) s.tables i q (LeavingShared f) there in let o = one_same f f refl in frame_whole s f sound.frames (omega arith)
page_whole s i q (Coming k) sound there = let c = get_pages (comes_from k) s.tables i q (Coming k) there in let o = one_same k k refl in sound.slots.whole k (omega arith)
page_whole s i q (Swapped k) sound there = let c = get_pages (lies_in k) s.tables i q (Swapped k) there in let o = one_same k k refl in sound.slots.whole k (omega arith)

pub fillable : (s : Space) (i : ℕ) → IsSound s → IsFillable s i
fillable s i sound = record {
  whole = λ q x there. page_whole s i q x sound there;
  alone = λ p f there.
      (let k = get_pages (owns f) s.tables i p (Private f) there in let o = one_same f f refl in
      let own = one_row (owns f) s.tables i in
      let share = one_row (shares f) s.tables i in
      elim (cases_lt f (length s.pool.frames)) [
        | inl within ↦ (let e = sound.frames.one f within in (within, omega arith, omega arith))
        | inr past ↦ absurd (let e = sound.frames.none f past in omega arith)
      ]);
}

pub page_long : (a b : Backing) (x : Page) → a.held ≡ b.held → ((f : ℕ) → length (get_or a.frames f []) ≡ length (get_or b.frames f [])) → length (page_bytes a x) ≡ length (page_bytes b x)
page_long a b Untouched held same = refl
page_long a b (Private f) held same = same f
page_long a b (Shared f) held same = same f
page_long a b (Leaving f) held same = same f
page_long a b (LeavingShared f) held same = same f
page_long a b (Coming k) held same = ap (λ h. length (get_or h k [])) held
page_long a b (Swapped k) held same = ap (λ h. length (get_or h k [])) held

pub row_filled : (b : Backing) (f : ℕ) (new : List ℕ) (row : List Page) (p : ℕ) → f < length b.frames → slice_get row p ≡ Some (Private f) → tally (owns f) row ≤ 1 → tally (shares f) row ≡ 0
    → map (page_bytes (record b { frames = slice_set b.frames f new })) row ≡ slice_set (map (page_bytes b) row) p new
row_filled b f new [] p within there own share = absurd (cc there)
row_filled b f new (x ∷ row) zero within there own share =
    let e : x ≡ Private f = cc in
    let o : owns f x ≡ 1 = rw e (one_same f f refl) in
    let now : page_bytes (record b { frames = slice_set b.frames f new }) x ≡ new = rw e (get_or-set_same b.frames f new [] within) in
    let rest = other_frames b f new row (omega arith) (omega arith) in
    cc
row_filled b f new (x ∷ row) (suc p) within there own share =
    let k = get_tally (owns f) row p (Private f) there in let o = one_same f f refl in
    let first = other_frame b f new x (omega arith) (omega arith) in
    let rest = row_filled b f new row p within there (omega arith) (omega arith) in
    cc

pub blocks_whole : (s : Space) (i : ℕ) → IsFillable s i → (q : ℕ) (x : List ℕ) → slice_get (map (page_bytes (backing s)) (get_or s.tables i [])) q ≡ Some x → length x ≡ 4096
blocks_whole s i can q x there = search (rules, get_mapped, or_none)

-- one page's bytes from a place on
pub record IsFilled (s : Space) (i p f r : ℕ) (given : List ℕ) (frames : List (List ℕ)) : Type 0 where
  pub sees : view (refilled s frames) i ≡ written (view s i) (4096 * p + r) given
  pub many : length frames ≡ length s.pool.frames
  pub whole : (h : ℕ) → length (get_or frames h []) ≡ length (frame_bytes s h)
  pub others : (h : ℕ) → h ≢ f → get_or frames h [] ≡ frame_bytes s h

pub one_filled : (s : Space) (i p f r : ℕ) (given : List ℕ) → IsFillable s i → page_at s.tables i p ≡ Some (Private f) → r + length given ≤ 4096 → IsFilled s i p f r given (slice_set s.pool.frames f (written (frame_bytes s f) r given))
unfolding refilled
one_filled s i p f r given can there fits =
    let new : List ℕ = written (frame_bytes s f) r given in
    let row : List Page = get_or s.tables i [] in
    let alone = can.alone p f there in
    let b : Backing = backing s in
    let b2 : Backing = record b { frames = slice_set b.frames f new } in
    let now = row_filled b f new row p alone.0 there alone.1 alone.2 in
    let block : slice_get (map (page_bytes b) row) p ≡ Some (frame_bytes s f) = get_mapped (page_bytes b) row p ∙ ap (or_none (page_bytes b)) there in
    let over = written_block (map (page_bytes b) row) (blocks_whole s i can) p (frame_bytes s f) block r given fits in
    let long : length (frame_bytes s f) ≡ 4096 = can.whole p (Private f) there in
    record {
      sees = ap joined (bytes_at b2 s.tables i ∙ now) ∙ (sym over ∙ ap (λ z. written (joined z) (4096 * p + r) given) (sym (bytes_at b s.tables i)));
      many = length-set s.pool.frames f new;
      whole = search (rules, here_or, get_or-set_same, length-written, get_or-set_other);
      others = λ h other. get_or-set_other s.pool.frames f h new [] other;
    }

pub still_fillable : (s : Space) (i p f r : ℕ) (given : List ℕ) (frames : List (List ℕ)) → IsFillable s i → IsFilled s i p f r given frames → IsFillable (refilled s frames) i
unfolding refilled
still_fillable s i p f r given frames can filled = record {
  whole = λ q x there. page_long (record { frames = frames; held = s.slots.held }) (backing s) x refl filled.whole ∙ can.whole q x there;
  alone = λ q g there. (let a = can.alone q g there in let l = filled.many in (omega (arith, a.0), a.1, a.2));
}

-- where a page's frame is among those that are written
pub apart_of : (s : Space) (i p f h : ℕ) (ps : List ℕ) → page_at s.tables i p ≡ Some (Private f) → 1 ≤ tally (one_if p) ps → among (owns h) s i ps ≡ 0 → h ≢ f
apart_of s i p f h [] there some none e = absurd (omega arith)
apart_of s i p f h (q ∷ ps) there some none e =
    elim (here_or q p) [
      | inl same ↦ (let o = one_same h f e in let k : at (owns h) (page_at s.tables i q) ≡ one_if h f = ap (at (owns h)) (subst (λ z. page_at s.tables i z ≡ Some (Private f)) same there) in absurd (omega arith))
      | inr other ↦ (let o = one_other p q other in apart_of s i p f h ps there (omega arith) (omega arith) e)
    ]

pub write_none : (bs : List ℕ) (k : ℕ) → written bs k [] ≡ bs
write_none bs k = let e : k + 0 ≡ k = omega arith in rw e (take-append-drop k bs)

-- on one page
pub on_one : (s : Space) (i k : ℕ) (given : List ℕ) (p f : ℕ) → IsFillable s i → pages_of_need (writing k (length given)) ≡ p ∷ [] → p ≡ k / 4096 → k % 4096 + length given ≤ 4096 → page_at s.tables i p ≡ Some (Private f)
    → (s2 : Space) × Fills s i k given s2
unfolding refilled
on_one s i k given p f can pages is fits there =
    let frames : List (List ℕ) = slice_set s.pool.frames f (written (frame_bytes s f) (k % 4096) given) in
    let one = one_filled s i p f (k % 4096) given can there fits in
    let place : 4096 * p + k % 4096 ≡ k = omega arith in
    let some : 1 ≤ tally (one_if p) (p ∷ []) = (let o = one_same p p refl in omega arith) in (
      refilled s frames,
      record {
        frames = frames;
        sees = one.sees ∙ ap (λ z. written (view s i) z given) place;
        many = one.many;
        whole = one.whole;
        others = λ h none. one.others h (apart_of s i p f h (p ∷ []) there some (subst (λ z. among (owns h) s i z ≡ 0) pages none));
        after = refl;
      },
    )

-- on a page and the next
pub on_two : (s : Space) (i k : ℕ) (a b given : List ℕ) (p f g : ℕ) → IsFillable s i → pages_of_need (writing k (length given)) ≡ p ∷ (p + 1) ∷ [] → p ≡ k / 4096 → given ≡ a ++ b → k % 4096 + length a ≡ 4096 → length b ≤ 4096
    → k + length a ≤ length (view s i) → page_at s.tables i p ≡ Some (Private f) → page_at s.tables i (p + 1) ≡ Some (Private g) → (s2 : Space) × Fills s i k given s2
unfolding refilled
on_two s i k a b given p f g can pages is parts first second fits there also =
    let frames : List (List ℕ) = slice_set s.pool.frames f (written (frame_bytes s f) (k % 4096) a) in
    let one = one_filled s i p f (k % 4096) a can there (omega arith) in
    let s1 : Space = refilled s frames in
    let frames2 : List (List ℕ) = slice_set frames g (written (frame_bytes s1 g) 0 b) in
    let two = one_filled s1 i (p + 1) g 0 b (still_fillable s i p f (k % 4096) a frames can one) also (omega arith) in
    let place : 4096 * p + k % 4096 ≡ k = omega arith in
    let place2 : 4096 * (p + 1) + 0 ≡ k + length a = omega arith in
    let some : 1 ≤ tally (one_if p) (p ∷ (p + 1) ∷ []) = (let o = one_same p p refl in omega arith) in
    let some2 : 1 ≤ tally (one_if (p + 1)) (p ∷ (p + 1) ∷ []) = (let o = one_same (p + 1) (p + 1) refl in omega arith) in (
      refilled s frames2,
      record {
        frames = frames2;
        sees = search (rules, written_parts);
        many = two.many ∙ one.many;
        whole = λ h. two.whole h ∙ one.whole h;
        others = search (rules, apart_of);
        after = refl;
      },
    )

-- on none
pub on_none : (s : Space) (i k : ℕ) → Fills s i k [] s
on_none s i k = record { frames = s.pool.frames; sees = sym (write_none (view s i) k); many = refl; whole = λ f. refl; others = λ f none. refl; after = refl }

pub pages_by : (k more : ℕ) → ((pages_from k (suc more) ≡ (k / 4096) ∷ []) × (k % 4096 + suc more ≤ 4096)) ⊎ ((pages_from k (suc more) ≡ (k / 4096) ∷ (k / 4096 + 1) ∷ []) × (4096 < k % 4096 + suc more))
pages_by k more = search rules

pub filled : (s : Space) (i k : ℕ) (given : List ℕ) → IsFillable s i → ((p : ℕ) → 1 ≤ tally (one_if p) (pages_of_need (writing k (length given))) → (f : ℕ) × (page_at s.tables i p ≡ Some (Private f)))
    → k + length given ≤ length (view s i) → length given ≤ 4096 → (s2 : Space) × Fills s i k given s2
filled s i k [] can own fits few = (s, on_none s i k)
filled s i k (x ∷ g) can own fits few =
    let p : ℕ = k / 4096 in
    elim (pages_by k (length g)) [
      | inl (pages, room) ↦
          (let first = own p (subst (λ z. 1 ≤ tally (one_if p) z) (sym pages) (let o = one_same p p refl in omega arith)) in
          on_one s i k (x ∷ g) p first.0 can pages refl room first.1)
      | inr (pages, past) ↦
          (let first = own p (subst (λ z. 1 ≤ tally (one_if p) z) (sym pages) (let o = one_same p p refl in omega arith)) in
          let next = own (p + 1) (subst (λ z. 1 ≤ tally (one_if (p + 1)) z) (sym pages) (let o = one_same (p + 1) (p + 1) refl in omega arith)) in
          let n : ℕ = 4096 - k % 4096 in
          let a : List ℕ = take n (x ∷ g) in
          let b : List ℕ = drop n (x ∷ g) in
          let long : length a ≡ n = length-take-le n (x ∷ g) (omega arith) in
          let rest = length-drop n (x ∷ g) in
          on_two s i k a b (x ∷ g) p first.0 next.0 can pages refl (sym (take-append-drop n (x ∷ g))) (omega arith) (omega arith) (omega arith) first.1 next.1)
    ]

pub view_long : (s : Space) (i : ℕ) → IsFillable s i → length (view s i) ≡ 4096 * length (get_or s.tables i [])
view_long s i can = search (rules, bytes_at, joined_length, blocks_whole, length-map)

pub some_store : SomeStore
some_store s i k given sound ready fits few =
    let ps : List ℕ = pages_of_need (writing k (length given)) in
    let breaks = some_breaks s i ps sound (few_pages (writing k (length given))) ready.0 ready.1 in
    let mid : Space = breaks.0 in
    let broken = broken_each s i ps mid sound (apart_pages ps (few_pages (writing k (length given)))) breaks.1 in
    let can = fillable mid i broken.sound in
    let long = view_long mid i can in
    let same = broken.table in
    let fill = filled mid i k given can broken.own (omega arith) few in
    (fill.0, record { mid = mid; breaks = breaks.1; fills = fill.1 })
