-- Bytes that are written to pages that are alone on their frames.
use Rattle.std.proofs.Common.{◌≡◌, ◌≢◌, ℕ, ◌+◌, ◌≤◌, inl, inr, map, min, List, [], ◌∷◌, Option, Some, None, length, slice_get, get_or, zero, suc, refl, sym, ap, ◌∙◌, subst, arith, rules}
use Rattle.std.proofs.lemmas.Bool.{cases_lt}
use Rattle.wh_model.specs.Execution.Memory.{writing}
use Rattle.wh_space_model.specs.{tally, one_if, Space, backing, frame_bytes, kept_by, pinned_by, sharers, view, FramesAreSound, IsSound, Names, Backing, count, joined, owns, page_at, page_bytes, shares, among, pages_of_need, Fills, BreaksSoundly, StoresAreRight, StoresSoundly}
use Rattle.wh_space_model.proofs.Tally.{one_same}
use Rattle.wh_space_model.specs.declared.states.Page.{Page}
use Rattle.wh_space_model.specs.declared.states.Page.TheVariants.{Untouched, Private, Shared, Leaving, LeavingShared, Coming, Swapped}
use Rattle.wh_space_model.specs.declared.states.Mark.{Mark}
use Rattle.wh_space_model.specs.declared.states.Mark.TheVariants.{Plain, Hint, Sharers, Unlisted}
use Rattle.wh_space_model.proofs.BrokenEach.{apart_pages, broken_each, broken_off}
use Rattle.wh_space_model.proofs.Evicted.{used_other}
use Rattle.wh_space_model.proofs.Putting.{get_pages}
use Rattle.wh_space_model.proofs.Rows.{bytes_at}
use Rattle.wh_space_model.proofs.Sums.{get_tally}
use Rattle.wh_space_model.proofs.Wanting.{among_all, among_row, few_pages}

-- other frames
unfoldable pub refilled : Space → List (List ℕ) → Space
refilled s frames = record s { pool = record s.pool { frames = frames } }

-- a frame that is shared isn't among those that are written
names_filled : (s s2 : Space) (f : ℕ) (m : Option Mark) → sharers s2 f ≡ sharers s f → s2.tables ≡ s.tables → (1 ≤ sharers s f → frame_bytes s2 f ≡ frame_bytes s f) → Names s f m → Names s2 f m
names_filled s s2 f None share tables same names = tt
names_filled s s2 f (Some Plain) share tables same names = share ∙ names
names_filled s s2 f (Some (Hint x i q)) share tables same names = (ap (λ t. Rattle.wh_space_model.specs.States.at (owns f) (page_at t i q)) tables ∙ names.0, share ∙ names.1)
names_filled s s2 f (Some (Sharers x n)) share tables same names = (share ∙ names.0, names.1, λ z. names.2 (sym (same (let c = names.0 in let d = names.1 in omega arith)) ∙ z))
names_filled s s2 f (Some (Unlisted n)) share tables same names = (share ∙ names.0, names.1)

one_use : (s : Space) (f : ℕ) → FramesAreSound s → count (owns f) s.tables + min 1 (sharers s f) ≤ 1
one_use s f sound = elim (cases_lt f (length s.pool.frames)) [
  | inl within ↦ (let e = sound.one f within in omega arith)
  | inr past ↦ (let e = sound.none f past in omega arith)
]

none_written : (s : Space) (i : ℕ) (ps : List ℕ) (f : ℕ) → FramesAreSound s → among (owns f) s i ps ≤ count (owns f) s.tables → 1 ≤ sharers s f → among (owns f) s i ps ≡ 0
none_written s i ps f sound most some = let e = one_use s f sound in omega arith

pub filled_sound : (s : Space) (i at : ℕ) (given : List ℕ) (s2 : Space) → IsSound s → Fills s i at given s2 → IsSound s2
unfolding refilled
filled_sound s i at given s2 sound fills =
    let frames : List (List ℕ) = fills.frames in
    let ps : List ℕ = pages_of_need (writing at (length given)) in
    let s3 : Space = refilled s frames in
    let same : (f : ℕ) → 1 ≤ sharers s f → get_or frames f [] ≡ frame_bytes s f = λ f some. fills.others f (none_written s i ps f sound.frames (among_all (owns f) s i ps (few_pages (writing at (length given)))) some) in
    subst IsSound (sym fills.after) (record {
      frames = search (rules, names_filled);
      slots = search (rules, used_other);
      occupants = search rules;
      pins = record { few = sound.pins.few; there = sound.pins.there; of = sound.pins.of };
      admissible = ((let l = fills.many in let a = sound.admissible.0 in omega arith), sound.admissible.1);
    })

-- ---- what the others see

page_same : (a b : Backing) (x : Page) → a.held ≡ b.held → ((f : ℕ) → 1 ≤ owns f x + shares f x → get_or a.frames f [] ≡ get_or b.frames f []) → page_bytes a x ≡ page_bytes b x
page_same a b Untouched held same = refl
page_same a b (Private f) held same = same f (let o = one_same f f refl in omega arith)
page_same a b (Shared f) held same = same f (let o = one_same f f refl in omega arith)
page_same a b (Leaving f) held same = same f (let o = one_same f f refl in omega arith)
page_same a b (LeavingShared f) held same = same f (let o = one_same f f refl in omega arith)
page_same a b (Coming k) held same = ap (λ h. get_or h k []) held
page_same a b (Swapped k) held same = ap (λ h. get_or h k []) held

row_same : (a b : Backing) (xs : List Page) → a.held ≡ b.held → ((q : ℕ) (x : Page) (f : ℕ) → slice_get xs q ≡ Some x → 1 ≤ owns f x + shares f x → get_or a.frames f [] ≡ get_or b.frames f [])
    → map (page_bytes a) xs ≡ map (page_bytes b) xs
row_same a b [] held same = refl
row_same a b (x ∷ xs) held same =
    let e = page_same a b x held (λ f some. same 0 x f refl some) in
    let es = row_same a b xs held (λ q y f at_it some. same (suc q) y f at_it some) in cc

-- two rows are counted in all
pub one_row : (w : Page → ℕ) (t : List (List Page)) (i : ℕ) → tally w (get_or t i []) ≤ count w t
one_row w [] i = omega arith
one_row w (xs ∷ t) zero = omega arith
one_row w (xs ∷ t) (suc i) = let k = one_row w t i in omega arith

two_rows : (w : Page → ℕ) (t : List (List Page)) (i j : ℕ) → j ≢ i → tally w (get_or t i []) + tally w (get_or t j []) ≤ count w t
two_rows w [] i j other = omega arith
two_rows w (xs ∷ t) zero zero other = absurd (other refl)
two_rows w (xs ∷ t) zero (suc j) other = let k = one_row w t j in omega arith
two_rows w (xs ∷ t) (suc i) zero other = let k = one_row w t i in omega arith
two_rows w (xs ∷ t) (suc i) (suc j) other = let k = two_rows w t i j (λ e. other (ap suc e)) in omega arith

filled_others : (s : Space) (i at : ℕ) (given : List ℕ) (s2 : Space) → IsSound s → Fills s i at given s2 → (j : ℕ) → j ≢ i → view s2 j ≡ view s j
unfolding refilled
filled_others s i at given s2 sound fills j other =
    let frames : List (List ℕ) = fills.frames in
    let ps : List ℕ = pages_of_need (writing at (length given)) in
    let b2 : Backing = record { frames = frames; held = s.slots.held } in
    let rows : map (page_bytes b2) (get_or s.tables j []) ≡ map (page_bytes (backing s)) (get_or s.tables j []) =
    row_same b2 (backing s) (get_or s.tables j []) refl
    (λ q x f there some. fills.others f
    (let mine = among_row (owns f) s i ps (few_pages (writing at (length given))) in
    let both = two_rows (owns f) s.tables i j other in
    let own = get_tally (owns f) (get_or s.tables j []) q x there in
    let share = get_pages (shares f) s.tables j q x there in
    let once = one_use s f sound.frames in
    omega arith)) in
    ap (λ a. view a j) fills.after ∙ ap joined (bytes_at b2 s.tables j ∙ (rows ∙ sym (bytes_at (backing s) s.tables j)))

-- ---- stores

pub breaks_soundly : BreaksSoundly
breaks_soundly s i p s2 sound b = let broken = broken_off s i p s2 sound b in (broken.sound, broken.bytes)

pub stores_soundly : StoresSoundly
stores_soundly s i at given s2 sound o =
    let ps : List ℕ = pages_of_need (writing at (length given)) in
    let b = broken_each s i ps o.mid sound (apart_pages ps (few_pages (writing at (length given)))) o.breaks in
    filled_sound o.mid i at given s2 b.sound o.fills

pub stores_are_right : StoresAreRight
stores_are_right s i at given s2 sound o =
    let ps : List ℕ = pages_of_need (writing at (length given)) in
    let b = broken_each s i ps o.mid sound (apart_pages ps (few_pages (writing at (length given)))) o.breaks in
    let fills = o.fills in
    let after = fills.after in
    let seen : (j : ℕ) → view o.mid j ≡ view s j = λ j. ap (λ z. joined (get_or z j [])) b.bytes in
    record {
      sees = fills.sees ∙ ap (λ z. Rattle.wh_model.specs.Execution.Store.written z at given) (seen i);
      others = λ j other. filled_others o.mid i at given s2 b.sound fills j other ∙ seen j;
      own = λ p some. (let k = b.own p some in (k.0, ap (λ (a : Space). page_at a.tables i p) after ∙ k.1));
      rest = λ p none. ap (λ (a : Space). page_at a.tables i p) after ∙ b.rest p none;
      tables = ap (λ (a : Space). length a.tables) after ∙ b.tables;
      table = ap (λ (a : Space). length (get_or a.tables i [])) after ∙ b.table;
      other_tables = λ j other. ap (λ (a : Space). get_or a.tables j []) after ∙ b.other_tables j other;
      slots = ap (λ (a : Space). a.slots) after ∙ b.slots;
      occupants = ap (λ (a : Space). a.occupants) after ∙ b.occupants;
      tax = ap (λ (a : Space). a.tax) after ∙ b.tax;
      touched = ap (λ (a : Space). a.touched) after ∙ b.touched;
      marks = λ f m is. ap (λ (a : Space). slice_get a.marks f) after ∙ b.marks f m is;
      frames = ap (λ (a : Space). length a.pool.frames) after ∙ (fills.many ∙ b.frames);
      free = λ f. (let e = ap (λ (a : Space). tally (one_if f) a.pool.free) after in let k = b.free f in omega arith);
      pinned = λ j. ap (λ (a : Space). pinned_by a.pins j) after ∙ b.pinned j;
      kept = λ j other. ap (λ (a : Space). kept_by a.pins j) after ∙ b.kept j other;
      fewer = λ f. (let e = ap (λ (a : Space). tally (one_if f) (kept_by a.pins i)) after in let k = b.fewer f in omega arith);
    }
