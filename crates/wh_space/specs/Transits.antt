-- What pages in transit leave.
use Rattle.std.specs.Prelude.{ℕ, ◌≡◌, ◌++◌, ◌⊎◌, List, [], ◌∷◌, Option, Some, None, slice_get}
use Rattle.wh_space_model.specs.declared.states.Page.{Page}
use Rattle.wh_space_model.specs.declared.states.Page.TheVariants.{Untouched, Private, Shared, Leaving, LeavingShared, Coming, Swapped}
use Rattle.wh_space_model.specs.declared.states.Slot.TheVariants.{FetchVoid, Fetching}
use Rattle.wh_space_model.specs.Moves.{frame_of}
use Rattle.wh_space_model.specs.Parts.{Space, frame_bytes, kept_by}
use Rattle.wh_space_model.specs.States.{page_at}
use Rattle.wh_space_model.specs.Tickets.{as_leaving, departing, sent_for}

-- page p of the instance at place j begins to leave by slot k, with these bytes to be written
abbrev pub IsDeparting : Space → ℕ → ℕ → ℕ → List ℕ → Space → Type 0
IsDeparting s j p k bytes s2 =
    (f : ℕ) × (old : Page) × (new : Page) × (page_at s.tables j p ≡ Some old) × (frame_of old ≡ Some f)
    × as_leaving old new × (bytes ≡ frame_bytes s f)
    × (others : List ℕ) × (s.slots.vacant ≡ others ++ k ∷ []) × (s2 ≡ departing s j p k others new)

-- page p of the instance at place i begins to come from slot k, into the last frame that was earmarked for it
abbrev pub IsSentFor : Space → ℕ → ℕ → ℕ → Space → Type 0
IsSentFor s i p k s2 =
    (f : ℕ) × (page_at s.tables i p ≡ Some (Swapped k)) × (others : List ℕ) × (kept_by s.pins i ≡ others ++ f ∷ [])
    × (s2 ≡ sent_for s i p f k others)

-- a ticket of a fetch is out for slot k
abbrev pub IsFetching : Space → ℕ → Type 0
IsFetching s k =
    ((i p f : ℕ) × (slice_get s.slots.uses k ≡ Some (Fetching i p f)))
    ⊎ ((i f : ℕ) × (slice_get s.slots.uses k ≡ Some (FetchVoid i f)))

-- the frame on which a page stands and the page as it leaves, if it may leave
abbrev pub IsLeavingAs : Page → Option (ℕ × Page) → Type 0
IsLeavingAs page None = (new : Page) → ¬ as_leaving page new
IsLeavingAs page (Some (f, new)) = (frame_of page ≡ Some f) × as_leaving page new

-- a page as it was before it began to leave
abbrev pub back_again : Page → Page
back_again Untouched = Untouched
back_again (Private f) = Private f
back_again (Shared f) = Shared f
back_again (Leaving f) = Private f
back_again (LeavingShared f) = Shared f
back_again (Coming k) = Coming k
back_again (Swapped k) = Swapped k
