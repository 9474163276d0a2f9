-- What contents there are, and a pass over all pages.
use Rattle.std.specs.Prelude.{ℕ, ◌≡◌, ◌≢◌, ◌↔◌, List, [], ◌∷◌, Some, slice_get}
use Rattle.wh_space_model.specs.Pages.{zero_page}
use Rattle.wh_space_model.specs.declared.states.Page.{Page}
use Rattle.wh_space_model.specs.declared.states.Page.TheVariants.{Private, Shared}
use Rattle.wh_space_model.specs.declared.states.Mark.TheVariants.{Sharers, Unlisted}
use Rattle.wh_space_model.specs.declared.states.Offer.{Offer}
use Rattle.wh_space_model.specs.States.{at, page_at, resident}
use Rattle.wh_space_model.specs.Parts.{Space, frame_bytes, kept, pinned_by}
use Rattle.wh_space_model.specs.Errands.{tickets}
use Rattle.wh_space_model.specs.Moves.{frame_of}
use Rattle.wh_space_model.specs.Offers.{Offers}

-- a resident page has these bytes
abbrev pub IsContent : Space → List ℕ → Type 0
IsContent s bytes =
    (i p f : ℕ) × (page : Page) × (page_at s.tables i p ≡ Some page) × (frame_of page ≡ Some f)
    × (frame_bytes s f ≡ bytes)

-- the contents of resident pages that aren't all zero, each once
pub record IsDistinct (s : Space) (all : List (List ℕ)) : Type 0 where
  pub each : (bytes : List ℕ) → ((k : ℕ) × (slice_get all k ≡ Some bytes)) ↔ (IsContent s bytes × (bytes ≢ zero_page))
  pub once : (j k : ℕ) (bytes : List ℕ) → slice_get all j ≡ Some bytes → slice_get all k ≡ Some bytes → j ≡ k

-- the entries of shared frames were made under this hash
abbrev pub MadeUnder : (List ℕ → ℕ) → Space → Type 0
MadeUnder hashes s = (f hash n : ℕ) → slice_get s.marks f ≡ Some (Sharers hash n) → hashes (frame_bytes s f) ≡ hash

-- frame f is shared, and has no entry
abbrev pub IsUnlisted : Space → ℕ → Type 0
IsUnlisted s f = (n : ℕ) × (slice_get s.marks f ≡ Some (Unlisted n))

-- the hash with which a page is offered is that of its bytes as they are, where it is alone on a frame, or on one that
-- is shared and has no entry
abbrev pub IsHashOf : (List ℕ → ℕ) → Space → ℕ → ℕ → ℕ → Type 0
IsHashOf hashes s i p hash =
    ((g : ℕ) → page_at s.tables i p ≡ Some (Private g) → hashes (frame_bytes s g) ≡ hash)
    × ((f : ℕ) → page_at s.tables i p ≡ Some (Shared f) → IsUnlisted s f → hashes (frame_bytes s f) ≡ hash)

-- these pages, each by place and number, are offered one after the other, and nothing comes between
abbrev pub Scans : (List ℕ → ℕ) → Space → List (ℕ × ℕ) → Space → Type 0
Scans hashes s [] s2 = s2 ≡ s
Scans hashes s (page ∷ pages) s2 =
    (hash : ℕ) × (answer : Offer) × (mid : Space)
    × IsHashOf hashes s page.0 page.1 hash × Offers hashes s page.0 page.1 hash answer mid × Scans hashes mid pages s2

-- A full pass, after which as many frames are in use as there are distinct contents: every resident page is offered,
-- no ticket is out, nothing is pinned or earmarked, entries were made under this hash, and no two contents have one
-- hash.
pub record IsFullPass (hashes : List ℕ → ℕ) (s : Space) (pages : List (ℕ × ℕ)) (s2 : Space) : Type 0 where
  pub all : (i p : ℕ) → at resident (page_at s.tables i p) ≡ 1 → (k : ℕ) × (slice_get pages k ≡ Some (i, p))
  pub none_out : tickets s ≡ 0
  pub none_kept : kept s.pins ≡ []
  pub none_pinned : (i : ℕ) → pinned_by s.pins i ≡ []
  pub made_under : MadeUnder hashes s
  pub apart : (a b : List ℕ) → IsContent s a → IsContent s b → hashes a ≡ hashes b → a ≡ b
  pub scans : Scans hashes s pages s2
