-- A copy of an instance leaves everything sound, and sees what the instance sees.
use Rattle.std.proofs.Common.{◌≡◌, ◌≢◌, ℕ, ◌+◌, ◌*◌, ◌<◌, ◌≤◌, inl, inr, min, map, replicate, List, [], ◌∷◌, Some, length, slice_get, slice_set, get_or, zero, suc, refl, sym, ap, ◌∙◌, subst, arith, length-set, rules}
use Rattle.std.proofs.lemmas.List.{ext_get_or, length-map, length-replicate}
use Rattle.std.proofs.lemmas.Option.{slice_get-get_or}
use Rattle.wh_space_model.specs.{zero_page, one_if, CopiesAreRight, LendsAlone, LendsFirst, LendsPage, LendsSoundly, one_more, HasHash, IsSound, Names, holders, Space, Claimed, all_bytes, backing, sharers, at, comes_from, contents, count, joined, leaving, lies_in, owns, page_at, page_bytes, put, resident, shares, Enters}
use Rattle.wh_space_model.proofs.Tally.{one_same, one_other}
use Rattle.wh_space_model.specs.declared.states.Page.{Page}
use Rattle.wh_space_model.specs.declared.states.Page.TheVariants.{Untouched, Private, Shared, Leaving, LeavingShared, Coming, Swapped}
use Rattle.wh_space_model.specs.declared.states.Mark.{Mark}
use Rattle.wh_space_model.specs.declared.states.Mark.TheVariants.{Plain, Hint, Sharers, Unlisted}
use Rattle.wh_space_model.proofs.Begun.{at_same}
use Rattle.wh_space_model.proofs.Broken.{entry_there}
use Rattle.wh_space_model.proofs.Contents.{at_contents, put_contents, same_contents}
use Rattle.wh_space_model.proofs.Entered.{enters_soundly, free_within}
use Rattle.wh_space_model.proofs.Evicted.{other_kind, other_value, row_length}
use Rattle.wh_space_model.proofs.Offered.{IsMoved, is_sound_remade, owned, remade, same_entry}
use Rattle.wh_space_model.proofs.Putting.{get_or_is, get_pages, here_or, put_other, put_other_row, put_this, set_other, set_same, there_of}
use Rattle.wh_space_model.proofs.Quiet.{enters_own}
use Rattle.wh_space_model.proofs.Rows.{bytes_at, row_other, row_same, same_there}
use Rattle.wh_space_model.proofs.Sums.{put_tally}

-- ---- one page

-- a page that gets a frame moves nothing else
joins_moved : (s : Space) (j p f : ℕ) → IsSound s → page_at s.tables j p ≡ Some Untouched → IsMoved s (put s.tables j p (Shared f))
joins_moved s j p f sound onto = record {
  many = length-set s.tables j _;
  rows = λ k. row_length s.tables j p (Shared f) k;
  lies = λ h. (let e = put_tally (lies_in h) s.tables j p Untouched (Shared f) onto in omega arith);
  comes = λ h. (let e = put_tally (comes_from h) s.tables j p Untouched (Shared f) onto in omega arith);
  leaves = λ k q. at_same leaving s.tables j p k q Untouched (Shared f) onto refl;
  coming = λ h k q is. other_value s.tables j p k q Untouched (Shared f) (Coming h) onto (λ e. (let bad : Untouched ≡ Coming h = e in cc)) is;
  pinned = search (rules, other_kind);
}

-- the same where the page of the other one was alone on it
both_moved : (s : Space) (i j p f : ℕ) → IsSound s → page_at s.tables i p ≡ Some (Private f) → page_at (put s.tables i p (Shared f)) j p ≡ Some Untouched
    → IsMoved s (put (put s.tables i p (Shared f)) j p (Shared f))
both_moved s i j p f sound was onto =
    let first : List (List Page) = put s.tables i p (Shared f) in
    record {
      many = length-set first j _ ∙ length-set s.tables i _;
      rows = λ k. row_length first j p (Shared f) k ∙ row_length s.tables i p (Shared f) k;
      lies = λ h. (let e = put_tally (lies_in h) first j p Untouched (Shared f) onto in let d = put_tally (lies_in h) s.tables i p (Private f) (Shared f) was in omega arith);
      comes = λ h. (let e = put_tally (comes_from h) first j p Untouched (Shared f) onto in let d = put_tally (comes_from h) s.tables i p (Private f) (Shared f) was in omega arith);
      leaves = λ k q. at_same leaving first j p k q Untouched (Shared f) onto refl ∙ at_same leaving s.tables i p k q (Private f) (Shared f) was refl;
      coming = search (rules, other_value);
      pinned = λ k q some.
          (let old = at_same resident s.tables i p k q (Private f) (Shared f) was refl ∙ sound.pins.there k q some in
          let same = other_kind resident first j p k q Untouched (Shared f) onto refl old in
          ap (at resident) same ∙ old);
    }

-- no entry is new
unlisted_before : (marks : List Mark) (g h n hash : ℕ) → g < length marks → HasHash (slice_get (slice_set marks g (Unlisted n)) h) hash → HasHash (slice_get marks h) hash
unlisted_before marks g h n hash within has = search (rules, here_or, set_other, set_same)

more_hash : (m : Mark) (hash : ℕ) → HasHash (Some (one_more m)) hash → HasHash (Some m) hash
more_hash Plain hash has = has
more_hash (Hint h i p) hash has = has
more_hash (Sharers h n) hash has = has
more_hash (Unlisted n) hash has = has

more_before : (marks : List Mark) (g h hash : ℕ) (m : Mark) → slice_get marks g ≡ Some m → HasHash (slice_get (slice_set marks g (one_more m)) h) hash → HasHash (slice_get marks h) hash
more_before marks g h hash m is has = search (rules, there_of, here_or, set_other, set_same, more_hash)

names_more : (s s2 : Space) (f : ℕ) (m : Mark) → s2.pool.frames ≡ s.pool.frames → 1 ≤ sharers s f → sharers s2 f ≡ sharers s f + 1 → Names s f (Some m) → Names s2 f (Some (one_more m))
names_more s s2 f Plain same some more names = absurd (let z : sharers s f ≡ 0 = names in omega arith)
names_more s s2 f (Hint h i p) same some more names = absurd (let z = names.1 in omega arith)
names_more s s2 f (Sharers h n) same some more names = (let c = names.0 in omega arith, omega arith, λ z. names.2 (sym (ap (λ fs. get_or fs f []) same) ∙ z))
names_more s s2 f (Unlisted n) same some more names = (let c = names.0 in omega arith, omega arith)

-- the page was alone on its frame
alone_sound : (s : Space) (i j p f : ℕ) → IsSound s → page_at s.tables i p ≡ Some (Private f) → page_at s.tables j p ≡ Some Untouched
    → IsSound (remade s (put (put s.tables i p (Shared f)) j p (Shared f)) s.pool.free (slice_set s.marks f (Unlisted 2)))
unfolding remade
alone_sound s i j p f sound was onto =
    let first : List (List Page) = put s.tables i p (Shared f) in
    let tables : List (List Page) = put first j p (Shared f) in
    let marks : List Mark = slice_set s.marks f (Unlisted 2) in
    let s2 : Space = record s { tables = tables; marks = marks } in
    let here = owned s i p f sound.frames was in
    let within : f < length s.marks = (let a = here.0 in let b = sound.frames.marks in omega arith) in
    let there : page_at first j p ≡ Some Untouched = other_value s.tables i p j p (Private f) (Shared f) Untouched was (λ e. (let bad : Private f ≡ Untouched = e in cc)) onto in
    let own1 : (h : ℕ) → count (owns h) first + one_if h f ≡ count (owns h) s.tables + 0 = λ h. put_tally (owns h) s.tables i p (Private f) (Shared f) was in
    let own2 : (h : ℕ) → count (owns h) tables + 0 ≡ count (owns h) first + 0 = λ h. put_tally (owns h) first j p Untouched (Shared f) there in
    let share1 : (h : ℕ) → count (shares h) first + 0 ≡ sharers s h + one_if h f = λ h. put_tally (shares h) s.tables i p (Private f) (Shared f) was in
    let share2 : (h : ℕ) → count (shares h) tables + 0 ≡ count (shares h) first + one_if h f = λ h. put_tally (shares h) first j p Untouched (Shared f) there in
    let one = one_same f f refl in
    let two : sharers s2 f ≡ 2 = (let a = share1 f in let b = share2 f in let c = here.2 in omega arith) in
    is_sound_remade s tables s.pool.free marks sound (both_moved s i j p f sound was there) (record {
      one = λ h less. elim (here_or f h) [
        | inl same ↦ subst (λ z. holders s2 z + min 1 (sharers s2 z) ≡ 1) (sym same)
            (let a = own1 f in let b = own2 f in let d = sound.frames.one f here.0 in let e = here.1 in let z = here.2 in omega arith)
        | inr other ↦ (let o = one_other h f (λ e. other e) in let a = own1 h in let b = own2 h in let c = share1 h in let d = share2 h in let e = sound.frames.one h less in omega arith)
      ];
      none = λ h past. (let o = one_other h f (λ e. (let a = here.0 in omega arith)) in let a = own1 h in let b = own2 h in let c = share1 h in let d = share2 h in let e = sound.frames.none h past in omega arith);
      whole = sound.frames.whole;
      marks = length-set s.marks f (Unlisted 2) ∙ sound.frames.marks;
      names = λ h. elim (here_or f h) [
        | inl same ↦
            (let is : Names s2 f (Some (Unlisted 2)) = (two, omega arith) in
            subst (λ z. Names s2 z (slice_get marks z)) (sym same) (subst (Names s2 f) (sym (set_same s.marks f (Unlisted 2) within)) is))
        | inr other ↦
            (let o = one_other h f (λ e. other e) in
            same_entry s tables s.pool.free marks h (set_other s.marks f h (Unlisted 2) (λ e. other e))
            (let c = share1 h in let d = share2 h in omega arith)
            (λ k q is.
            (let page = other_kind (owns h) s.tables i p k q (Private f) (Shared f) was o is in
            let is1 : at (owns h) (page_at first k q) ≡ 1 = rw page is in
            let page2 = other_kind (owns h) first j p k q Untouched (Shared f) there refl is1 in rw page2 is1)) sound.frames)
      ];
      apart = λ a b x has has2. sound.frames.apart a b x (unlisted_before s.marks f a 2 x within has) (unlisted_before s.marks f b 2 x within has2);
    })

-- a page comes to a frame that is shared
pub joins_sound : (s : Space) (j p f : ℕ) → IsSound s → 1 ≤ sharers s f → page_at s.tables j p ≡ Some Untouched
    → IsSound (remade s (put s.tables j p (Shared f)) s.pool.free (slice_set s.marks f (one_more (get_or s.marks f Plain))))
unfolding remade
joins_sound s j p f sound some onto =
    let tables : List (List Page) = put s.tables j p (Shared f) in
    let one = one_same f f refl in
    let entry = entry_there s f sound.frames some in
    let m : Mark = entry.0 in
    let is : get_or s.marks f Plain ≡ m = get_or_is s.marks f m Plain entry.1 in
    let marks : List Mark = slice_set s.marks f (one_more m) in
    let s2 : Space = record s { tables = tables; marks = marks } in
    let within : f < length s.marks = there_of s.marks f m entry.1 in
    let own : (h : ℕ) → count (owns h) tables + 0 ≡ count (owns h) s.tables + 0 = λ h. put_tally (owns h) s.tables j p Untouched (Shared f) onto in
    let share : (h : ℕ) → count (shares h) tables + 0 ≡ sharers s h + one_if h f = λ h. put_tally (shares h) s.tables j p Untouched (Shared f) onto in
    subst (λ z. IsSound (record s { tables = tables; pool = s.pool; marks = slice_set s.marks f (one_more z) })) (sym is)
    (is_sound_remade s tables s.pool.free marks sound (joins_moved s j p f sound onto) (record {
      one = λ h less. elim (here_or f h) [
        | inl same ↦ subst (λ z. holders s2 z + min 1 (sharers s2 z) ≡ 1) (sym same)
            (let a = own f in let b = share f in let d = sound.frames.one f (let l = sound.frames.marks in omega arith) in omega arith)
        | inr other ↦ (let o = one_other h f (λ e. other e) in let a = own h in let c = share h in let e = sound.frames.one h less in omega arith)
      ];
      none = λ h past. (let o = one_other h f (λ e. (let l = sound.frames.marks in omega arith)) in let a = own h in let c = share h in let e = sound.frames.none h past in omega arith);
      whole = sound.frames.whole;
      marks = length-set s.marks f (one_more m) ∙ sound.frames.marks;
      names = λ h. elim (here_or f h) [
        | inl same ↦
            (let now : Names s2 f (Some (one_more m)) = names_more s s2 f m refl some (let a = share f in omega arith) entry.2 in
            subst (λ z. Names s2 z (slice_get marks z)) (sym same) (subst (Names s2 f) (sym (set_same s.marks f (one_more m) within)) now))
        | inr other ↦
            (let o = one_other h f (λ e. other e) in
            same_entry s tables s.pool.free marks h (set_other s.marks f h (one_more m) (λ e. other e))
            (let c = share h in omega arith)
            (λ k q at_it. (let page = other_kind (owns h) s.tables j p k q Untouched (Shared f) onto refl at_it in rw page at_it)) sound.frames)
      ];
      apart = λ a b x has has2. sound.frames.apart a b x (more_before s.marks f a x m entry.1 has) (more_before s.marks f b x m entry.1 has2);
    }))

-- it shared one
shared_sound : (s : Space) (i j p f : ℕ) → IsSound s → page_at s.tables i p ≡ Some (Shared f) → page_at s.tables j p ≡ Some Untouched
    → IsSound (remade s (put s.tables j p (Shared f)) s.pool.free (slice_set s.marks f (one_more (get_or s.marks f Plain))))
shared_sound s i j p f sound was onto = joins_sound s j p f sound (let one = one_same f f refl in let a = get_pages (shares f) s.tables i p (Shared f) was in omega arith) onto

pub lends_page : (s : Space) (i j p : ℕ) (page : Page) (s2 : Space) → IsSound s → page_at s.tables i p ≡ Some page → page_at s.tables j p ≡ Some Untouched → LendsPage s i j p page s2 → IsSound s2
unfolding remade
lends_page s i j p Untouched s2 sound was onto is = subst IsSound (sym is) sound
lends_page s i j p (Private f) s2 sound was onto is = subst IsSound (sym is) (alone_sound s i j p f sound was onto)
lends_page s i j p (Shared f) s2 sound was onto is = subst IsSound (sym is) (shared_sound s i j p f sound was onto)
lends_page s i j p (Leaving f) s2 sound was onto is = absurd is
lends_page s i j p (LeavingShared f) s2 sound was onto is = absurd is
lends_page s i j p (Coming k) s2 sound was onto is = absurd is
lends_page s i j p (Swapped k) s2 sound was onto is = absurd is

pub lends_soundly : LendsSoundly
lends_soundly s i j p s2 sound l = lends_page s i j p l.page s2 sound l.was l.onto l.lends

lends_bytes : (s : Space) (i j p : ℕ) (page : Page) (s2 : Space) → page_at s.tables i p ≡ Some page → page_at s.tables j p ≡ Some Untouched → LendsPage s i j p page s2 → all_bytes s2 ≡ put (all_bytes s) j p (page_bytes (backing s) page)
lends_bytes s i j p Untouched s2 was onto is =
    ap (λ a. all_bytes a) is ∙ (sym (same_contents (backing s) s.tables j p Untouched Untouched onto refl) ∙ put_contents (backing s) s.tables j p Untouched)
lends_bytes s i j p (Private f) s2 was onto is =
    ap (λ a. all_bytes a) is
    ∙ (put_contents (backing s) (put s.tables i p (Shared f)) j p (Shared f)
    ∙ ap (λ z. put z j p (page_bytes (backing s) (Shared f))) (same_contents (backing s) s.tables i p (Private f) (Shared f) was refl))
lends_bytes s i j p (Shared f) s2 was onto is = ap (λ a. all_bytes a) is ∙ put_contents (backing s) s.tables j p (Shared f)
lends_bytes s i j p (Leaving f) s2 was onto is = absurd is
lends_bytes s i j p (LeavingShared f) s2 was onto is = absurd is
lends_bytes s i j p (Coming k) s2 was onto is = absurd is
lends_bytes s i j p (Swapped k) s2 was onto is = absurd is

pub lends_alone : LendsAlone
lends_alone s i j p s2 l = lends_bytes s i j p l.page s2 l.was l.onto l.lends

-- ---- all pages

-- what lending leaves
pub record IsKept (s s2 : Space) : Type 0 where
  pub occupants : s2.occupants ≡ s.occupants
  pub touched : s2.touched ≡ s.touched
  pub pool : s2.pool ≡ s.pool
  pub slots : s2.slots ≡ s.slots
  pub pins : s2.pins ≡ s.pins
  pub tax : s2.tax ≡ s.tax
  pub rows : (k : ℕ) → length (get_or s2.tables k []) ≡ length (get_or s.tables k [])

kept_self : (s : Space) → IsKept s s
kept_self s = record { occupants = refl; touched = refl; pool = refl; slots = refl; pins = refl; tax = refl; rows = λ k. refl }

kept_then : (a b c : Space) → IsKept a b → IsKept b c → IsKept a c
kept_then a b c x y = search rules

kept_page : (s : Space) (i j p : ℕ) (page : Page) (s2 : Space) → LendsPage s i j p page s2 → IsKept s s2
kept_page s i j p Untouched s2 is = subst (IsKept s) (sym is) (kept_self s)
kept_page s i j p (Private f) s2 is = search (rules, row_length)
kept_page s i j p (Shared f) s2 is = search (rules, row_length)
kept_page s i j p (Leaving f) s2 is = absurd is
kept_page s i j p (LeavingShared f) s2 is = absurd is
kept_page s i j p (Coming k) s2 is = absurd is
kept_page s i j p (Swapped k) s2 is = absurd is

-- after the first n pages: they are the same, and nobody else's are others
pub record AreLent (s : Space) (i j n : ℕ) (s2 : Space) : Type 0 where
  pub sound : IsSound s2
  pub keeps : IsKept s s2
  pub others : (k : ℕ) → k ≢ j → get_or (all_bytes s2) k [] ≡ get_or (all_bytes s) k []
  pub first : (q : ℕ) → q < n → page_at (all_bytes s2) j q ≡ page_at (all_bytes s) i q

pub lent_first : (s : Space) (i j n : ℕ) (s2 : Space) → IsSound s → j ≢ i → LendsFirst s i j n s2 → AreLent s i j n s2
lent_first s i j zero s2 sound apart is = subst (AreLent s i j zero) (sym is) (record { sound = sound; keeps = kept_self s; others = λ k other. refl; first = λ q less. absurd (omega arith) })
lent_first s i j (suc n) s2 sound apart (mid, before, l) =
    let old = lent_first s i j n mid sound apart before in
    let bytes = lends_alone mid i j n s2 l in
    let block : List ℕ = page_bytes (backing mid) l.page in
    let lent : page_at (all_bytes mid) i n ≡ Some block = at_contents (backing mid) mid.tables i n l.page l.was in
    let same : get_or (all_bytes mid) i [] ≡ get_or (all_bytes s) i [] = old.others i (λ e. apart (sym e)) in
    record {
      sound = lends_soundly mid i j n s2 old.sound l;
      keeps = kept_then s mid s2 old.keeps (kept_page mid i j n l.page s2 l.lends);
      others = λ k other. ap (λ z. get_or z k []) bytes ∙ (put_other_row (all_bytes mid) j n k block other ∙ old.others k other);
      first = λ q less. elim (here_or n q) [
        | inl here ↦
            (let now : page_at (all_bytes s2) j n ≡ Some block = ap (λ z. page_at z j n) bytes ∙ put_this (all_bytes mid) j n zero_page block (at_contents (backing mid) mid.tables j n Untouched l.onto) in
            let all : page_at (all_bytes s2) j n ≡ page_at (all_bytes s) i n = now ∙ (sym lent ∙ ap (λ xs. slice_get xs n) same) in
            subst (λ z. page_at (all_bytes s2) j z ≡ page_at (all_bytes s) i z) (sym here) all)
        | inr other ↦ ap (λ z. page_at z j q) bytes ∙ (put_other (all_bytes mid) j n q block (λ e. other e) ∙ old.first q (omega (arith, less, other)))
      ];
    }

-- ---- a copy

row_long : (s : Space) (k : ℕ) → length (get_or (all_bytes s) k []) ≡ length (get_or s.tables k [])
row_long s k = go s.tables k where
  go : (ts : List (List Page)) (k : ℕ) → length (get_or (contents (backing s) ts) k []) ≡ length (get_or ts k [])
  go [] k = refl
  go (t ∷ ts) zero = length-map t (page_bytes (backing s))
  go (t ∷ ts) (suc k) = go ts k

same_rows : (xs ys : List (List ℕ)) → length xs ≡ length ys → ((q : ℕ) → q < length xs → slice_get xs q ≡ slice_get ys q) → xs ≡ ys
same_rows xs ys long each = ext_get_or [] xs ys long (λ q less.
    (let a = slice_get-get_or xs q [] less in
    let b = slice_get-get_or ys q [] (omega (arith, less, long)) in
    let both : Some (get_or xs q []) ≡ Some (get_or ys q []) = sym a ∙ (each q less ∙ b) in cc))

-- the one who comes has as many pages, and the other one's are as they were
pub entered_row : (s : Space) (i j : ℕ) (c : Claimed) (size : ℕ) (mid : Space) → IsSound s → j ≢ i → Enters s j c size mid
    → (get_or mid.tables i [] ≡ get_or s.tables i []) × (get_or mid.tables j [] ≡ replicate (16 * size) Untouched)
entered_row s i j c size mid sound apart enters = search (rules, replicate, free_within, same_there, row_other, get_or_is, row_same)

row_bytes_of : (s : Space) (k : ℕ) → get_or (all_bytes s) k [] ≡ map (page_bytes (backing s)) (get_or s.tables k [])
row_bytes_of s k = bytes_at (backing s) s.tables k

pub copies_are_right : CopiesAreRight
copies_are_right s i j c s2 sound copies =
    let size : ℕ = copies.size in
    let mid : Space = copies.mid in
    let enters = copies.enters in
    let middle : IsSound mid = enters_soundly s j c size mid sound enters in
    let lent = lent_first mid i j (16 * size) s2 middle copies.apart copies.lends in
    let keeps = lent.keeps in
    let rows = entered_row s i j c size mid sound copies.apart enters in
    let pool : mid.pool ≡ s.pool = ap (λ (a : Space). a.pool) enters.leaves in
    let slots : mid.slots ≡ s.slots = ap (λ (a : Space). a.slots) enters.leaves in
    let lies : backing mid ≡ backing s = rw (pool, slots) refl in
    let was : get_or (all_bytes mid) i [] ≡ get_or (all_bytes s) i [] = row_bytes_of mid i ∙ (ap (λ xs. map (page_bytes (backing mid)) xs) rows.0 ∙ (ap (λ b. map (page_bytes b) (get_or s.tables i [])) lies ∙ sym (row_bytes_of s i))) in
    let many : length (get_or (all_bytes s2) j []) ≡ 16 * size = row_long s2 j ∙ (keeps.rows j ∙ (ap length rows.1 ∙ length-replicate (16 * size) Untouched)) in
    let many2 : length (get_or (all_bytes mid) i []) ≡ 16 * size = row_long mid i ∙ (ap length rows.0 ∙ copies.pages) in
    let same : get_or (all_bytes s2) j [] ≡ get_or (all_bytes mid) i [] = search (rules, same_rows) in
    record {
      sound = lent.sound;
      sees = ap joined (same ∙ was);
      others = λ k other. ap joined (lent.others k other) ∙ enters_own s j c size mid sound enters k other;
      pool = keeps.pool ∙ pool;
      slots = keeps.slots ∙ slots;
      pins = keeps.pins ∙ ap (λ (a : Space). a.pins) enters.leaves;
    }
