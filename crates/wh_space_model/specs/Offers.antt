-- What an offer of a page for sharing answers, and leaves.
use Rattle.std.specs.Prelude.{ℕ, ◌≡◌, ◌≢◌, ◌+◌, ◌≤◌, ◌++◌, ◌⊎◌, false, List, [], ◌∷◌, Some, slice_get, slice_set}
use Rattle.wh_space_model.specs.Pages.{zero_page}
use Rattle.wh_space_model.specs.Frames.{tally, one_if}
use Rattle.wh_space_model.specs.declared.states.Page.{Page}
use Rattle.wh_space_model.specs.declared.states.Page.TheVariants.{Untouched, Private, Shared}
use Rattle.wh_space_model.specs.declared.states.Mark.TheVariants.{Plain, Hint, Sharers, Unlisted}
use Rattle.wh_space_model.specs.declared.states.Offer.{Offer}
use Rattle.wh_space_model.specs.declared.states.Offer.TheVariants.{Skipped, Zeroed, Hinted, Stale, Merged, FalseMatch}
use Rattle.wh_space_model.specs.States.{page_at, put}
use Rattle.wh_space_model.specs.Parts.{Space, pinned_by, frame_bytes, found_at}
use Rattle.wh_space_model.specs.Moves.{departed}
use Rattle.wh_space_model.specs.Sound.{HasHash}

abbrev pub IsPinned : Space → ℕ → ℕ → Type 0
IsPinned s i p = 1 ≤ tally (one_if p) (pinned_by s.pins i)

-- the page has frame g as its own, isn't leaving, and isn't pinned
abbrev pub IsOffered : Space → ℕ → ℕ → ℕ → Type 0
IsOffered s i p g = (page_at s.tables i p ≡ Some (Private g)) × ¬ IsPinned s i p

-- the page shares frame f, which has no entry and n sharers; it isn't leaving, and isn't pinned
abbrev pub MayBeListed : Space → ℕ → ℕ → ℕ → ℕ → Type 0
MayBeListed s i p f n =
    (page_at s.tables i p ≡ Some (Shared f)) × (slice_get s.marks f ≡ Some (Unlisted n)) × ¬ IsPinned s i p

-- what is found under the hash: nothing, or the entry of one frame
abbrev pub FindsNone : Space → ℕ → Type 0
FindsNone s hash = (f : ℕ) → ¬ HasHash (slice_get s.marks f) hash

abbrev pub FindsHint : Space → ℕ → ℕ → ℕ → ℕ → Type 0
FindsHint s hash f j q = slice_get s.marks f ≡ Some (Hint hash j q)

abbrev pub FindsShared : Space → ℕ → ℕ → ℕ → Type 0
FindsShared s hash f n = slice_get s.marks f ≡ Some (Sharers hash n)

-- a hint with which another page may be merged: its page is on the frame still, alone, may be merged, and its bytes
-- have the hash
abbrev pub IsHinted : (List ℕ → ℕ) → Space → ℕ → ℕ → ℕ → ℕ → Type 0
IsHinted hashes s hash f j q = FindsHint s hash f j q × IsOffered s j q f × (hashes (frame_bytes s f) ≡ hash)

-- frame g is free, and its hint forgotten; the page is another one now
abbrev pub gives_up : Space → ℕ → ℕ → ℕ → Page → Space
gives_up s i p g page = record s {
  tables = put s.tables i p page;
  pool = record s.pool { free = s.pool.free ++ g ∷ [] };
  marks = slice_set s.marks g Plain;
}

-- page p of the instance at place i, on frame g, is the hint of its hash
abbrev pub hinted : Space → ℕ → ℕ → ℕ → ℕ → Space
hinted s i p g hash = record s { marks = slice_set s.marks g (Hint hash i p) }

-- it has frame f with one more sharer, or with the page whose own it was
abbrev pub joined_to : Space → ℕ → ℕ → ℕ → ℕ → ℕ → ℕ → Space
joined_to s i p g f hash n =
    let s2 : Space = gives_up s i p g (Shared f) in record s2 { marks = slice_set s2.marks f (Sharers hash (n + 1)) }

abbrev pub paired_with : Space → ℕ → ℕ → ℕ → ℕ → ℕ → ℕ → ℕ → Space
paired_with s i p g f hash j q =
    let s2 : Space = joined_to s i p g f hash 1 in record s2 { tables = put s2.tables j q (Shared f) }

-- the page is gone, is neither alone on a frame nor shares one that has no entry, is leaving, or is pinned
abbrev pub MayNotMerge : Space → ℕ → ℕ → Type 0
MayNotMerge s i p = ((g : ℕ) → ¬ IsOffered s i p g) × ((f n : ℕ) → ¬ MayBeListed s i p f n)

-- The answers, of the page p of the instance at place i and any hash at all, where the page is alone on its frame, or may
-- not be merged. In this order: the page may not be merged; its bytes are zero; nothing is found; its own hint is; a hint of a page that may not be merged; a hint whose
-- page has another hash by now; equal bytes; other bytes.
abbrev pub OffersAlone : (List ℕ → ℕ) → Space → ℕ → ℕ → ℕ → Offer → Space → Type 0
OffersAlone hashes s i p hash Skipped s2 =
    (s2 ≡ s)
    × (MayNotMerge s i p
    ⊎ ((g f j q : ℕ) × IsOffered s i p g × (frame_bytes s g ≢ zero_page) × FindsHint s hash f j q
    × ((f ≡ g) ⊎ ((f ≢ g) × ¬ IsOffered s j q f))))
OffersAlone hashes s i p hash Zeroed s2 =
    (g : ℕ) × IsOffered s i p g × (frame_bytes s g ≡ zero_page)
    × (s2 ≡ (let s1 : Space = gives_up s i p g Untouched in record s1 { touched = put s1.touched i p false }))
OffersAlone hashes s i p hash Hinted s2 =
    (g : ℕ) × IsOffered s i p g × (frame_bytes s g ≢ zero_page) × FindsNone s hash × (s2 ≡ hinted s i p g hash)
OffersAlone hashes s i p hash Stale s2 =
    (g f j q : ℕ) × IsOffered s i p g × (frame_bytes s g ≢ zero_page) × FindsHint s hash f j q × (f ≢ g)
    × IsOffered s j q f × (hashes (frame_bytes s f) ≢ hash)
    × (s2 ≡ hinted (record s { marks = slice_set s.marks f Plain }) i p g hash)
OffersAlone hashes s i p hash Merged s2 =
    (g f : ℕ) × IsOffered s i p g × (frame_bytes s g ≢ zero_page) × (frame_bytes s g ≡ frame_bytes s f)
    × (((n : ℕ) × FindsShared s hash f n × (s2 ≡ joined_to s i p g f hash n))
    ⊎ ((j q : ℕ) × (f ≢ g) × IsHinted hashes s hash f j q × (s2 ≡ paired_with s i p g f hash j q)))
OffersAlone hashes s i p hash FalseMatch s2 =
    (s2 ≡ s)
    × ((g f : ℕ) × IsOffered s i p g × (frame_bytes s g ≢ zero_page) × (frame_bytes s g ≢ frame_bytes s f)
    × (((n : ℕ) × FindsShared s hash f n) ⊎ ((j q : ℕ) × (f ≢ g) × IsHinted hashes s hash f j q)))

-- ---- a page on a frame that is shared and has no entry

-- frame f, which n pages share, has its entry under this hash
abbrev pub listed_under : Space → ℕ → ℕ → ℕ → Space
listed_under s f hash n = record s { marks = slice_set s.marks f (Sharers hash n) }

-- the same where frame g had a hint under the hash, which is forgotten
abbrev pub listed_for : Space → ℕ → ℕ → ℕ → ℕ → Space
listed_for s g f hash n = listed_under (record s { marks = slice_set s.marks g Plain }) f hash n

-- the page has left the sharers of frame f, and is another one now
abbrev pub gone_from : Space → ℕ → ℕ → ℕ → Page → Space
gone_from s i p f page = record (departed s f) { tables = put s.tables i p page }

-- it has frame g instead, with one more sharer
abbrev pub moved_to : Space → ℕ → ℕ → ℕ → ℕ → ℕ → ℕ → Space
moved_to s i p f g hash n =
    let s2 : Space = gone_from s i p f (Shared g) in record s2 { marks = slice_set s2.marks g (Sharers hash (n + 1)) }

-- The answers, of a page that shares such a frame. In this order: its bytes are zero, and it leaves the frame; nothing is
-- found, and the frame has its entry; a hint of a page that may not be merged; a hint whose page has another hash by
-- now, and the frame has the entry; equal bytes: the page goes to the frame that is found, or the page of the hint comes
-- to this one, which has the entry; other bytes.
abbrev pub OffersUnlisted : (List ℕ → ℕ) → Space → ℕ → ℕ → ℕ → Offer → Space → Type 0
OffersUnlisted hashes s i p hash Skipped s2 =
    (s2 ≡ s)
    × ((f n g j q : ℕ) × MayBeListed s i p f n × (frame_bytes s f ≢ zero_page) × FindsHint s hash g j q
    × ¬ IsOffered s j q g)
OffersUnlisted hashes s i p hash Zeroed s2 =
    (f n : ℕ) × MayBeListed s i p f n × (frame_bytes s f ≡ zero_page)
    × (s2 ≡ (let s1 : Space = gone_from s i p f Untouched in record s1 { touched = put s1.touched i p false }))
OffersUnlisted hashes s i p hash Hinted s2 =
    (f n : ℕ) × MayBeListed s i p f n × (frame_bytes s f ≢ zero_page) × FindsNone s hash × (s2 ≡ listed_under s f hash n)
OffersUnlisted hashes s i p hash Stale s2 =
    (f n g j q : ℕ) × MayBeListed s i p f n × (frame_bytes s f ≢ zero_page) × FindsHint s hash g j q
    × IsOffered s j q g × (hashes (frame_bytes s g) ≢ hash) × (s2 ≡ listed_for s g f hash n)
OffersUnlisted hashes s i p hash Merged s2 =
    (f n g : ℕ) × MayBeListed s i p f n × (frame_bytes s f ≢ zero_page) × (frame_bytes s f ≡ frame_bytes s g)
    × (((m : ℕ) × FindsShared s hash g m × (s2 ≡ moved_to s i p f g hash m))
    ⊎ ((j q : ℕ) × IsHinted hashes s hash g j q × (s2 ≡ joined_to (listed_for s g f hash n) j q g f hash n)))
OffersUnlisted hashes s i p hash FalseMatch s2 =
    (s2 ≡ s)
    × ((f n g : ℕ) × MayBeListed s i p f n × (frame_bytes s f ≢ zero_page) × (frame_bytes s f ≢ frame_bytes s g)
    × (((m : ℕ) × FindsShared s hash g m) ⊎ ((j q : ℕ) × IsHinted hashes s hash g j q)))

-- ---- an offer

-- what an offer of any page answers, and leaves
abbrev pub Offers : (List ℕ → ℕ) → Space → ℕ → ℕ → ℕ → Offer → Space → Type 0
Offers hashes s i p hash answer s2 =
    OffersAlone hashes s i p hash answer s2 ⊎ OffersUnlisted hashes s i p hash answer s2

-- The offer of a page of an instance by its number: where the instance is gone, though its place is another's by now,
-- it is one of a place that nobody has.
abbrev pub OffersOf : (List ℕ → ℕ) → Space → ℕ → ℕ → ℕ → ℕ → Offer → Space → Type 0
OffersOf hashes s place number p hash answer s2 = Offers hashes s (found_at s place number) p hash answer s2
