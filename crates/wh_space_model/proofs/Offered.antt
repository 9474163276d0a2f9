-- An offer leaves everything sound, whatever the hash.
use Rattle.std.proofs.Common.{◌≡◌, ◌≢◌, ℕ, ◌+◌, ◌<◌, ◌≤◌, ◌++◌, inl, inr, List, [], ◌∷◌, Some, length, slice_get, slice_set, get_or, refl, sym, ap, ◌∙◌, subst, arith, length-set, rules}
use Rattle.std.proofs.lemmas.Bool.{cases_lt}
use Rattle.wh_space_model.specs.{tally, one_if, FindsHint, FindsNone, IsOffered, gives_up, hinted, FramesAreSound, HasHash, IsSound, Names, Space, pinned_by, sharers, at, comes_from, count, leaving, lies_in, owns, page_at, put, resident, shares}
use Rattle.wh_space_model.proofs.Tally.{one_same, one_other, tally-append}
use Rattle.wh_space_model.specs.declared.states.Page.{Page}
use Rattle.wh_space_model.specs.declared.states.Page.TheVariants.{Untouched, Private, Coming}
use Rattle.wh_space_model.specs.declared.states.Mark.{Mark}
use Rattle.wh_space_model.specs.declared.states.Mark.TheVariants.{Plain, Hint}
use Rattle.wh_space_model.proofs.Begun.{at_same}
use Rattle.wh_space_model.proofs.Putting.{get_pages, here_or, put_other, put_other_row, set_other, set_same, there_of}
use Rattle.wh_space_model.proofs.Evicted.{has_still, names_other, other_kind, other_value, row_length, used_other}
use Rattle.wh_space_model.proofs.Sums.{put_tally}

-- other tables, free frames and entries
unfoldable pub remade : Space → List (List Page) → List ℕ → List Mark → Space
remade s tables free marks = record s { tables = tables; pool = record s.pool { free = free }; marks = marks }

-- what pages that are neither leaving nor in slots keep when they become others
pub record IsMoved (s : Space) (tables : List (List Page)) : Type 0 where
  pub many : length tables ≡ length s.tables
  pub rows : (i : ℕ) → length (get_or tables i []) ≡ length (get_or s.tables i [])
  pub lies : (h : ℕ) → count (lies_in h) tables ≡ count (lies_in h) s.tables
  pub comes : (h : ℕ) → count (comes_from h) tables ≡ count (comes_from h) s.tables
  pub leaves : (i q : ℕ) → at leaving (page_at tables i q) ≡ at leaving (page_at s.tables i q)
  pub coming : (h i q : ℕ) → page_at s.tables i q ≡ Some (Coming h) → page_at tables i q ≡ Some (Coming h)
  pub pinned : (i q : ℕ) → 1 ≤ tally (one_if q) (pinned_by s.pins i) → at resident (page_at tables i q) ≡ 1

pub is_sound_remade : (s : Space) (tables : List (List Page)) (free : List ℕ) (marks : List Mark) → IsSound s → IsMoved s tables → FramesAreSound (remade s tables free marks) → IsSound (remade s tables free marks)
unfolding remade
is_sound_remade s tables free marks sound moved frames = record {
  frames = frames;
  slots = record {
    used = λ k. used_other s (remade s tables free marks) k (slice_get s.slots.uses k) (moved.lies k) (moved.comes k) refl (λ i q is. moved.leaves i q ∙ is) (λ i q is. moved.coming k i q is) (sound.slots.used k);
    by_one = sound.slots.by_one;
    by_this = sound.slots.by_this;
    leaving = λ i q is. sound.slots.leaving i q (sym (moved.leaves i q) ∙ is);
    voids = sound.slots.voids;
    held = sound.slots.held;
    whole = λ k some. sound.slots.whole k (let a = moved.lies k in let b = moved.comes k in omega arith);
  };
  occupants = record {
    tables = moved.many ∙ sound.occupants.tables;
    touched = sound.occupants.touched;
    have = λ i o is. has_still o (get_or s.tables i []) (get_or tables i []) (moved.rows i) (sound.occupants.have i o is);
    marks = λ i. sound.occupants.marks i ∙ sym (moved.rows i);
    numbers = sound.occupants.numbers;
    released = sound.occupants.released;
    needs = λ i t need is at_it. (let n = sound.occupants.needs i t need is at_it in let l = moved.rows i in (n.0, omega (arith, n.1, l), n.2));
  };
  pins = record { few = sound.pins.few; there = moved.pinned; of = sound.pins.of };
  admissible = sound.admissible;
}

-- a page that was alone on a frame is untouched, or shares one
unfoldable pub IsPlain : Page → Type 0
IsPlain y = ((h : ℕ) → (lies_in h y ≡ 0) × (comes_from h y ≡ 0)) × (leaving y ≡ 0)

-- a page that may be another one is
pub moved_page : (s : Space) (i p : ℕ) (x y : Page) → IsSound s → page_at s.tables i p ≡ Some x → (1 ≤ tally (one_if p) (pinned_by s.pins i) → ⊥) → IsPlain x → IsPlain y → ((h : ℕ) → x ≢ Coming h) → IsMoved s (put s.tables i p y)
unfolding IsPlain
moved_page s i p x y sound there free was plain other_page = record {
  many = length-set s.tables i _;
  rows = λ j. row_length s.tables i p y j;
  lies = λ h. (let e = put_tally (lies_in h) s.tables i p x y there in let a = (was.0 h).0 in let z = (plain.0 h).0 in omega arith);
  comes = λ h. (let e = put_tally (comes_from h) s.tables i p x y there in let a = (was.0 h).1 in let z = (plain.0 h).1 in omega arith);
  leaves = λ j q. at_same leaving s.tables i p j q x y there (plain.1 ∙ sym was.1);
  coming = λ h j q is. other_value s.tables i p j q x y (Coming h) there (other_page h) is;
  pinned = search (rules, here_or, put_other_row, put_other);
}

pub moved_once : (s : Space) (i p g : ℕ) (y : Page) → IsSound s → IsOffered s i p g → IsPlain y → IsMoved s (put s.tables i p y)
unfolding IsPlain
moved_once s i p g y sound offered plain = moved_page s i p (Private g) y sound offered.0 offered.1 (λ h. (refl, refl), refl) plain (λ h e. (let bad : Private g ≡ Coming h = e in cc))

-- a frame on which a page is alone
pub owned : (s : Space) (i p g : ℕ) → FramesAreSound s → page_at s.tables i p ≡ Some (Private g) → (g < length s.pool.frames) × (count (owns g) s.tables ≡ 1) × (sharers s g ≡ 0)
owned s i p g sound there =
    let one = get_pages (owns g) s.tables i p (Private g) there in
    let o = one_same g g refl in
    elim (cases_lt g (length s.pool.frames)) [
      | inl within ↦ (let sum = sound.one g within in (within, omega arith, omega arith))
      | inr past ↦ absurd (let zeros = sound.none g past in omega arith)
    ]

-- the entry of a frame that isn't g, and whose sharers stay
pub same_entry : (s : Space) (tables : List (List Page)) (free : List ℕ) (marks : List Mark) (h : ℕ) → slice_get marks h ≡ slice_get s.marks h → count (shares h) tables ≡ sharers s h
    → ((i q : ℕ) → at (owns h) (page_at s.tables i q) ≡ 1 → at (owns h) (page_at tables i q) ≡ 1) → FramesAreSound s → Names (remade s tables free marks) h (slice_get marks h)
unfolding remade
same_entry s tables free marks h mark share own sound = search rules

pub plain_before : (marks : List Mark) (g h hash : ℕ) → g < length marks → HasHash (slice_get (slice_set marks g Plain) h) hash → HasHash (slice_get marks h) hash
plain_before marks g h hash within has = search (rules, here_or, set_other, set_same)

zeroed_frames : (s : Space) (i p g : ℕ) → IsSound s → IsOffered s i p g → FramesAreSound (remade s (put s.tables i p Untouched) (s.pool.free ++ g ∷ []) (slice_set s.marks g Plain))
unfolding remade
zeroed_frames s i p g sound offered =
    let s2 : Space = gives_up s i p g Untouched in
    let here = owned s i p g sound.frames offered.0 in
    let within : g < length s.marks = (let a = here.0 in let b = sound.frames.marks in omega arith) in
    let own : (h : ℕ) → count (owns h) s2.tables + one_if h g ≡ count (owns h) s.tables + 0 = λ h. put_tally (owns h) s.tables i p (Private g) Untouched offered.0 in
    let share : (h : ℕ) → sharers s2 h + 0 ≡ sharers s h + 0 = λ h. put_tally (shares h) s.tables i p (Private g) Untouched offered.0 in
    let free : (h : ℕ) → tally (one_if h) s2.pool.free ≡ tally (one_if h) s.pool.free + one_if h g = λ h. (let a = tally-append (one_if h) s.pool.free (g ∷ []) in omega arith) in
    record {
      one = λ h less. (let a = own h in let b = share h in let c = free h in let d = sound.frames.one h less in omega arith);
      none = λ h past. (let a = own h in let b = share h in let c = free h in let d = sound.frames.none h past in omega arith);
      whole = sound.frames.whole;
      marks = length-set s.marks g Plain ∙ sound.frames.marks;
      names = λ h. elim (here_or g h) [
        | inl same ↦ (let now = set_same s.marks g Plain within in let b = share g in let zeros : sharers s2 g ≡ 0 = omega (arith, here.2, b) in
            subst (λ z. Names s2 z (slice_get s2.marks z)) (sym same) (subst (Names s2 g) (sym now) zeros))
        | inr other ↦ (let b = share h in let o = one_other h g other in
            same_entry s (put s.tables i p Untouched) (s.pool.free ++ g ∷ []) (slice_set s.marks g Plain) h (set_other s.marks g h Plain (λ e. other e)) (omega (arith, b))
            (λ j q is. (let page = other_kind (owns h) s.tables i p j q (Private g) Untouched offered.0 o is in rw page is)) sound.frames)
      ];
      apart = λ a b hash has also. sound.frames.apart a b hash (plain_before s.marks g a hash within has) (plain_before s.marks g b hash within also);
    }

-- the page is zero
pub zeroed_sound : (s : Space) (i p g : ℕ) → IsSound s → IsOffered s i p g → IsSound (gives_up s i p g Untouched)
unfolding remade IsPlain
zeroed_sound s i p g sound offered = search (rules, is_sound_remade, moved_once, zeroed_frames)

-- the page is the hint, where no other entry has the hash
-- its frame has an entry, where no other entry has the hash
pub entry_frames : (s : Space) (marks : List Mark) (g hash : ℕ) (m : Mark) → IsSound s → g < length s.pool.frames → length marks ≡ length s.marks
    → ((h : ℕ) → Names s h (slice_get marks h)) → ((a b x : ℕ) → HasHash (slice_get marks a) x → HasHash (slice_get marks b) x → a ≡ b) → ((h : ℕ) → ¬ HasHash (slice_get marks h) hash)
    → Names s g (Some m) → ((x : ℕ) → HasHash (Some m) x → hash ≡ x) → FramesAreSound (remade s s.tables s.pool.free (slice_set marks g m))
unfolding remade
entry_frames s marks g hash m sound inside long names apart none is_named is_under =
    let s2 : Space = record s { marks = slice_set marks g m } in
    let within : g < length marks = (let b = sound.frames.marks in omega arith) in
    let now = set_same marks g m within in
    record {
      one = sound.frames.one;
      none = sound.frames.none;
      whole = sound.frames.whole;
      marks = length-set marks g m ∙ (long ∙ sound.frames.marks);
      names = λ h. elim (here_or g h) [
        | inl same ↦ subst (λ z. Names s2 z (slice_get s2.marks z)) (sym same) (subst (Names s2 g) (sym now) (names_other s s2 g (Some m) refl refl (λ j q is. is) is_named))
        | inr other ↦ subst (Names s2 h) (sym (set_other marks g h m (λ e. other e))) (names_other s s2 h (slice_get marks h) refl refl (λ j q is. is) (names h))
      ];
      apart = search (rules, here_or, set_other);
    }

-- the page is the hint, where no other entry has the hash
hint_frames : (s : Space) (marks : List Mark) (i p g hash : ℕ) → IsSound s → IsOffered s i p g → length marks ≡ length s.marks
    → ((h : ℕ) → Names s h (slice_get marks h)) → ((a b x : ℕ) → HasHash (slice_get marks a) x → HasHash (slice_get marks b) x → a ≡ b) → ((h : ℕ) → ¬ HasHash (slice_get marks h) hash)
    → FramesAreSound (remade s s.tables s.pool.free (slice_set marks g (Hint hash i p)))
hint_frames s marks i p g hash sound offered long names apart none =
    let here = owned s i p g sound.frames offered.0 in
    entry_frames s marks g hash (Hint hash i p) sound here.0 long names apart none (ap (at (owns g)) offered.0 ∙ one_same g g refl, here.2) (λ x has. has)

pub still_moved : (s : Space) → IsSound s → IsMoved s s.tables
still_moved s sound = record { many = refl; rows = λ i. refl; lies = λ h. refl; comes = λ h. refl; leaves = λ i q. refl; coming = λ h i q is. is; pinned = sound.pins.there }

pub hinted_sound : (s : Space) (i p g hash : ℕ) → IsSound s → IsOffered s i p g → FindsNone s hash → IsSound (hinted s i p g hash)
unfolding remade
hinted_sound s i p g hash sound offered none = search (rules, is_sound_remade, still_moved, hint_frames)

-- what the entries are without a hint: none has its hash
pub record IsCleared (s : Space) (f hash : ℕ) : Type 0 where
  pub names : (h : ℕ) → Names s h (slice_get (slice_set s.marks f Plain) h)
  pub apart : (a b x : ℕ) → HasHash (slice_get (slice_set s.marks f Plain) a) x → HasHash (slice_get (slice_set s.marks f Plain) b) x → a ≡ b
  pub none : (h : ℕ) → ¬ HasHash (slice_get (slice_set s.marks f Plain) h) hash

pub cleared : (s : Space) (f j q hash : ℕ) → IsSound s → FindsHint s hash f j q → IsCleared s f hash
cleared s f j q hash sound found =
    let within = there_of s.marks f (Hint hash j q) found in
    let has : HasHash (slice_get s.marks f) hash = subst (λ m. HasHash m hash) (sym found) refl in
    let names : Names s f (Some (Hint hash j q)) = subst (Names s f) found (sound.frames.names f) in
    record {
      names = search (rules, here_or, set_same, set_other);
      apart = λ a b x x1 x2. sound.frames.apart a b x (plain_before s.marks f a x within x1) (plain_before s.marks f b x within x2);
      none = search (rules, plain_before, set_same);
    }

-- a hint whose page has another hash by now goes first
pub stale_sound : (s : Space) (i p g f j q hash : ℕ) → IsSound s → IsOffered s i p g → FindsHint s hash f j q → IsSound (hinted (record s { marks = slice_set s.marks f Plain }) i p g hash)
unfolding remade
stale_sound s i p g f j q hash sound offered found = search (rules, cleared, is_sound_remade, still_moved, hint_frames, length-set)
