-- Pages in transit have the bytes that they had.
use Rattle.std.proofs.Common.{◌≡◌, ◌≢◌, ℕ, ◌<◌, inl, inr, true, Bool, List, [], ◌∷◌, Some, length, map, slice_get, slice_set, get_or, refl, sym, ◌∙◌, subst, arith}
use Rattle.std.proofs.lemmas.Bool.{cases_lt}
use Rattle.std.proofs.lemmas.List.{get_or-set_same, get_or-set_other}
use Rattle.wh_model.specs.declared.memory.Need.{Need}
use Rattle.wh_space_model.specs.{tally, one_if, fetches_into, frame_of, Space, backing, sharers, all_bytes, IsSound, FramesAreSound, IsUsed, Backing, page_bytes, contents, count, owns, shares, page_at, Reserves, BeginsEvict, CommitsEvict, BeginsFetch, CommitsFetch, as_leaving, as_before}
use Rattle.wh_space_model.proofs.Tally.{one_same}
use Rattle.wh_space_model.specs.declared.states.Page.{Page}
use Rattle.wh_space_model.specs.declared.states.Page.TheVariants.{Untouched, Private, Shared, Leaving, LeavingShared, Coming, Swapped}
use Rattle.wh_space_model.specs.declared.states.Slot.TheVariants.{Fetching}
use Rattle.wh_space_model.specs.declared.states.EvictEnd.{EvictEnd}
use Rattle.wh_space_model.specs.declared.states.FetchEnd.{FetchEnd}
use Rattle.wh_space_model.proofs.Contents.{same_contents}
use Rattle.wh_space_model.proofs.Sums.{get_tally}

not_same : (f g : ℕ) → one_if f g ≡ 0 → g ≢ f
not_same f g h e = let one = one_same f g (sym e) in omega arith

-- a frame on which no page stands may be written
pub other_frame : (b : Backing) (f : ℕ) (bytes : List ℕ) (x : Page) → owns f x ≡ 0 → shares f x ≡ 0 → page_bytes (record b { frames = slice_set b.frames f bytes }) x ≡ page_bytes b x
other_frame b f bytes Untouched h c = refl
other_frame b f bytes (Private g) h c = get_or-set_other b.frames f g bytes [] (not_same f g h)
other_frame b f bytes (Shared g) h c = get_or-set_other b.frames f g bytes [] (not_same f g c)
other_frame b f bytes (Leaving g) h c = get_or-set_other b.frames f g bytes [] (not_same f g h)
other_frame b f bytes (LeavingShared g) h c = get_or-set_other b.frames f g bytes [] (not_same f g c)
other_frame b f bytes (Coming j) h c = refl
other_frame b f bytes (Swapped j) h c = refl

pub other_frames : (b : Backing) (f : ℕ) (bytes : List ℕ) (xs : List Page) → tally (owns f) xs ≡ 0 → tally (shares f) xs ≡ 0 → map (page_bytes (record b { frames = slice_set b.frames f bytes })) xs ≡ map (page_bytes b) xs
other_frames b f bytes [] h c = refl
other_frames b f bytes (x ∷ xs) h c = let e = other_frame b f bytes x (omega arith) (omega arith) in let es = other_frames b f bytes xs (omega arith) (omega arith) in cc

pub frame_written : (b : Backing) (f : ℕ) (bytes : List ℕ) (tables : List (List Page)) → count (owns f) tables ≡ 0 → count (shares f) tables ≡ 0 → contents (record b { frames = slice_set b.frames f bytes }) tables ≡ contents b tables
frame_written b f bytes [] h c = refl
frame_written b f bytes (xs ∷ tables) h c = let e = other_frames b f bytes xs (omega arith) (omega arith) in let es = frame_written b f bytes tables (omega arith) (omega arith) in cc

pub prepared_bytes : (s s1 : Space) (i : ℕ) (need : Need) → Reserves s i need s1 → all_bytes s1 ≡ all_bytes s
prepared_bytes s s1 i need prepares = rw prepares.leaves refl

same_leaving : (b : Backing) (old new : Page) → as_leaving old new → page_bytes b new ≡ page_bytes b old
same_leaving b (Private f) new e = rw e refl
same_leaving b (Shared f) new e = rw e refl
same_leaving b Untouched new e = absurd e
same_leaving b (Leaving f) new e = absurd e
same_leaving b (LeavingShared f) new e = absurd e
same_leaving b (Coming k) new e = absurd e
same_leaving b (Swapped k) new e = absurd e

same_before : (b : Backing) (page old : Page) → as_before page old → page_bytes b old ≡ page_bytes b page
same_before b (Leaving f) old e = rw e refl
same_before b (LeavingShared f) old e = rw e refl
same_before b Untouched old e = absurd e
same_before b (Private f) old e = absurd e
same_before b (Shared f) old e = absurd e
same_before b (Coming k) old e = absurd e
same_before b (Swapped k) old e = absurd e

pub on_frame : (b : Backing) (page : Page) (f : ℕ) → frame_of page ≡ Some f → page_bytes b page ≡ get_or b.frames f []
on_frame b Untouched f e = cc
on_frame b (Private g) f e = let same : g ≡ f = cc in rw same refl
on_frame b (Shared g) f e = let same : g ≡ f = cc in rw same refl
on_frame b (Leaving g) f e = let same : g ≡ f = cc in rw same refl
on_frame b (LeavingShared g) f e = let same : g ≡ f = cc in rw same refl
on_frame b (Coming k) f e = cc
on_frame b (Swapped k) f e = cc

-- An eviction that begins changes no bytes, whatever the slots hold.
pub begin_evict_bytes : (s s2 : Space) (i k : ℕ) (bytes : List ℕ) → BeginsEvict s i (Some k) bytes s2 → all_bytes s2 ≡ all_bytes s
begin_evict_bytes s s2 i k bytes (need, stands, s1, prepares, lacks, j, p, f, taken, old, new, there, on, as_it, is, others, list, moves) =
    rw moves (same_contents (backing s1) s1.tables j p old new there (same_leaving (backing s1) old new as_it)) ∙ prepared_bytes s s1 i need prepares

-- One that ends changes none where the slot holds what the ticket wrote.
pub commit_evict_bytes : (s s2 : Space) (k : ℕ) (wrote : Bool) (bytes : List ℕ) (end : EvictEnd) → (wrote ≡ true → get_or s.slots.held k [] ≡ bytes) → CommitsEvict s k wrote bytes end s2 → all_bytes s2 ≡ all_bytes s
commit_evict_bytes s s2 k wrote bytes end device (inl (j, was, ends, moves)) = rw moves refl
commit_evict_bytes s s2 k wrote bytes end device (inr (j, p, f, was, page, there, on, inl (ok, equal, ends, moves))) =
    rw moves (same_contents (backing s) s.tables j p page (Swapped k) there (device ok ∙ (equal ∙ sym (on_frame (backing s) page f on))))
commit_evict_bytes s s2 k wrote bytes end device (inr (j, p, f, was, page, there, on, inr (why, old, as_it, moves))) =
    rw moves (same_contents (backing s) s.tables j p page old there (same_before (backing s) page old as_it))

-- A fetch that begins changes no bytes.
pub begin_fetch_bytes : (s s2 : Space) (i k : ℕ) → BeginsFetch s i (Some k) s2 → all_bytes s2 ≡ all_bytes s
begin_fetch_bytes s s2 i k (need, stands, s1, prepares, p, f, first, there, others, list, moves) =
    rw moves (same_contents (backing s1) s1.tables i p (Swapped k) (Coming k) there refl) ∙ prepared_bytes s s1 i need prepares

-- the frame that a ticket holds has no page
pub held_alone : (s : Space) (k i p f : ℕ) → FramesAreSound s → slice_get s.slots.uses k ≡ Some (Fetching i p f) → (f < length s.pool.frames) × (count (owns f) s.tables ≡ 0) × (sharers s f ≡ 0)
held_alone s k i p f sound was =
    let one = get_tally (fetches_into f) s.slots.uses k (Fetching i p f) was in
    let o = one_same f f refl in
    elim (cases_lt f (length s.pool.frames)) [
      | inl within ↦ (let sum = sound.one f within in (within, omega arith, omega arith))
      | inr past ↦ (let zeros = sound.none f past in absurd (omega arith))
    ]

-- One that ends changes none where what was read is what the slot holds.
pub commit_fetch_bytes : (s s2 : Space) (k : ℕ) (read : Bool) (bytes : List ℕ) (end : FetchEnd) → IsSound s → (read ≡ true → get_or s.slots.held k [] ≡ bytes) → CommitsFetch s k read bytes end s2 → all_bytes s2 ≡ all_bytes s
commit_fetch_bytes s s2 k read bytes end sound device (inl (i, f, was, ends, moves)) = rw moves refl
commit_fetch_bytes s s2 k read bytes end sound device (inr (i, p, f, was, inl (ok, long, ends, moves))) =
    let there : page_at s.tables i p ≡ Some (Coming k) = (subst (IsUsed s k) was (sound.slots.used k)).3 in
    let alone = held_alone s k i p f sound.frames was in
    let b2 : Backing = record { frames = slice_set s.pool.frames f bytes; held = s.slots.held } in
    let now : page_bytes b2 (Private f) ≡ bytes = get_or-set_same s.pool.frames f bytes [] alone.0 in
    rw moves (same_contents b2 s.tables i p (Coming k) (Private f) there (now ∙ sym (device ok)) ∙ frame_written (backing s) f bytes s.tables alone.1 alone.2)
commit_fetch_bytes s s2 k read bytes end sound device (inr (i, p, f, was, inr (failed, ends, moves))) =
    let there : page_at s.tables i p ≡ Some (Coming k) = (subst (IsUsed s k) was (sound.slots.used k)).3 in
    rw moves (same_contents (backing s) s.tables i p (Coming k) (Swapped k) there refl)
