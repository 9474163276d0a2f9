-- What an instance can read and write while nobody changes the memory of all.
use Rattle.std.specs.Prelude.{◌≡◌, ℕ, ◌*◌, ◌+◌, ◌/◌, ◌%◌, ◌^◌, ◌<◌, ◌≤◌, ◌⊎◌, cond, List, [], Some, length, get_or, slice_get}
use Rattle.wh_model.specs.declared.memory.Got.{Got}
use Rattle.wh_model.specs.declared.memory.Got.TheVariants.{Value, Trap, NotReady}
use Rattle.wh_model.specs.declared.memory.Need.{Need}
use Rattle.wh_space_model.specs.Frames.{tally}
use Rattle.wh_space_model.specs.declared.states.Page.{Page}
use Rattle.wh_space_model.specs.declared.states.Page.TheVariants.{Untouched, Private, Shared, Leaving, LeavingShared, Coming, Swapped}
use Rattle.wh_space_model.specs.Parts.{Space, view}
use Rattle.wh_space_model.specs.Ready.{IsAtHand}
use Rattle.wh_space_model.specs.States.{at, page_at}
use Rattle.wh_space.specs.Steps.{page_limit}
use Rattle.wh_overlay.specs.declared.overlay_pages.WrittenPage.{WrittenPage}
use Rattle.wh_overlay.specs.LaidPages.{AreWhole, IsAmong, IsNoted, NotesRead, OverlayPagesState, with_upper}

-- the memory has grown by this page
abbrev pub HasCome : Space → ℕ → OverlayPagesState → ℕ → Type 0
HasCome s i u number =
    (length (get_or s.tables i []) ≤ number) × (number < length (get_or s.tables i []) + 16 * u.grown)

-- it is at hand in the memory, or the memory has grown by it
abbrev pub IsThereToRead : Space → ℕ → OverlayPagesState → ℕ → Type 0
IsThereToRead s i u number = IsAtHand (page_at s.tables i number) ⊎ HasCome s i u number

-- a page can be read: it was written in the overlay, or it is there, and can be noted as read
abbrev pub CanRead : Space → ℕ → OverlayPagesState → ℕ → Type 0
CanRead s i u number = IsAmong u.pages number ⊎ ((number < u.most) × IsThereToRead s i u number)

-- the page is alone on its frame
abbrev pub IsOnItsOwn : Space → ℕ → ℕ → Type 0
IsOnItsOwn s i number = (frame : ℕ) × (page_at s.tables i number ≡ Some (Private frame))

-- There is a frame for a page that is written: it has one of its own, or it is at hand, and one of those that are lent is left.
abbrev pub HasFrameFor : Space → ℕ → OverlayPagesState → ℕ → Type 0
HasFrameFor s i u number = IsOnItsOwn s i number ⊎ (IsAtHand (page_at s.tables i number) × (u.taken < u.lent))

-- a page can be written: it was before, or there is a frame and room for it
abbrev pub CanWrite : Space → ℕ → OverlayPagesState → ℕ → Type 0
CanWrite s i u number = IsAmong u.pages number ⊎ (HasFrameFor s i u number × (number < u.most) × (1 ≤ u.room))

-- These bytes can be read or written at once: there are none, or they are on one page with which that can be done.
abbrev pub CanStepOver : Space → ℕ → OverlayPagesState → Need → Type 0
CanStepOver s i u need =
    (need.length ≡ 0)
    ⊎ ((need.at % 4096 + need.length ≤ 4096)
    × cond need.writes (CanWrite s i u (need.at / 4096)) (CanRead s i u (need.at / 4096)))

-- each page that was written is at hand below
abbrev pub AreAtHand : Space → ℕ → List WrittenPage → Type 0
AreAtHand s i pages =
    (k : ℕ) (x : WrittenPage) → slice_get pages k ≡ Some x → IsAtHand (page_at s.tables i x.number)

-- each page that was read is there
abbrev pub ReadsAreThere : Space → ℕ → OverlayPagesState → Type 0
ReadsAreThere s i u = (number : ℕ) → IsNoted u.reads number → IsThereToRead s i u number

-- 1 for a page that may have to get a frame before it is written
abbrev pub lacks_frame : Page → ℕ
lacks_frame Untouched = 1
lacks_frame (Private f) = 0
lacks_frame (Shared f) = 1
lacks_frame (Leaving f) = 1
lacks_frame (LeavingShared f) = 1
lacks_frame (Coming k) = 1
lacks_frame (Swapped k) = 1

-- how many of these pages may have to
abbrev pub frames_lacking : Space → ℕ → List WrittenPage → ℕ
frames_lacking s i pages = tally (λ x. at lacks_frame (page_at s.tables i x.number)) pages

-- The memory of the instance at a place, with a limit of pages of 65536 bytes, and what is written in the overlay.
pub record OverlayState : Type 0 where
  pub lower : Space
  pub place : ℕ
  pub page_limit : ℕ
  pub upper : OverlayPagesState

-- what the instance sees
abbrev pub sees : OverlayState → List ℕ
sees o = with_upper (view o.lower o.place) o.upper

-- it has grown no further than it may
abbrev pub HasGrown : Space → ℕ → OverlayPagesState → Type 0
HasGrown s i u = 1 ≤ u.grown → length (view s i) + u.grown * 65536 ≤ page_limit s i * 65536

-- What is written in an overlay are pages that are at hand in the memory below, and each page that was read is there. Of frames
-- that are lent no more are taken than there are, and one at least for each page that may have to get one. There are no more
-- bytes than pages can be counted.
pub record IsOver (s : Space) (i : ℕ) (u : OverlayPagesState) : Type 0 where
  pub at_hand : AreAtHand s i u.pages
  pub there : ReadsAreThere s i u
  pub frames : frames_lacking s i u.pages ≤ u.taken
  pub lent : u.taken ≤ u.lent
  pub counted : length (view s i) + u.grown * 65536 < 2 ^ 44
  pub limited : HasGrown s i u

-- and each of these pages has 4096 bytes
abbrev pub IsWholeOver : Space → ℕ → OverlayPagesState → Type 0
IsWholeOver s i u = IsOver s i u × AreWhole u.pages

-- Only what is written in the overlay changes, and stays what can be written back. What was noted as read stays so.
pub record IsOverSame (o p : OverlayState) : Type 0 where
  pub lower : p.lower ≡ o.lower
  pub place : p.place ≡ o.place
  pub page_limit : p.page_limit ≡ o.page_limit
  pub lent : p.upper.lent ≡ o.upper.lent
  pub reads : (number : ℕ) → IsNoted o.upper.reads number → IsNoted p.upper.reads number
  pub stays : IsWholeOver o.lower o.place o.upper → IsWholeOver p.lower p.place p.upper

-- a page of it is noted as read, and nothing else changes
pub record NotesOver (o : OverlayState) (number : ℕ) (p : OverlayState) : Type 0 where
  pub lower : p.lower ≡ o.lower
  pub place : p.place ≡ o.place
  pub page_limit : p.page_limit ≡ o.page_limit
  pub notes : NotesRead o.upper number p.upper

-- n bytes are read from a place on: where there are some, the page that they are on is noted as read
abbrev pub ReadsOver : OverlayState → ℕ → ℕ → Got → OverlayState → Type 0
ReadsOver o k n Value p = 1 ≤ n → NotesOver o (k / 4096) p
ReadsOver o k n Trap p = p ≡ o
ReadsOver o k n (NotReady need) p = p ≡ o

-- these bytes can be read or written at once
abbrev pub IsReadyOver : OverlayState → Need → Type 0
IsReadyOver o need = CanStepOver o.lower o.place o.upper need
