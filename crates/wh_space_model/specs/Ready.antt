-- When a step can be taken at once, and how many frames it wants.
use Rattle.std.specs.Prelude.{ℕ, ◌≡◌, ◌+◌, ◌-◌, ◌/◌, ◌%◌, ◌≤◌, cond, nat_lt, List, [], ◌∷◌, Option, length, zero, suc}
use Rattle.std.specs.List.{All}
use Rattle.wh_model.specs.declared.memory.Need.{Need}
use Rattle.wh_space_model.specs.Frames.{tally}
use Rattle.wh_space_model.specs.declared.states.Page.{Page}
use Rattle.wh_space_model.specs.States.{at, page_at, shares, resident, untouched, swapped}
use Rattle.wh_space_model.specs.Parts.{Space, sharers, kept_by}

-- the sum of what w gives for each number below n
abbrev pub below : ℕ → (ℕ → ℕ) → ℕ
below zero w = 0
below (suc n) w = below n w + w n

-- the pages of `length` bytes from a place on: none for no bytes, and at most two, since a step has at most 4096
abbrev pub pages_from : ℕ → ℕ → List ℕ
pages_from first zero = []
pages_from first (suc more) =
    cond (nat_lt 4096 (first % 4096 + suc more)) ((first / 4096) ∷ (first / 4096 + 1) ∷ []) ((first / 4096) ∷ [])

abbrev pub pages_of_need : Need → List ℕ
pages_of_need need = pages_from need.at need.length

-- how many of these pages of the instance at a place are of the kind
abbrev pub among : (Page → ℕ) → Space → ℕ → List ℕ → ℕ
among kind s i pages = tally (λ p. at kind (page_at s.tables i p)) pages

-- How many frames the writes want of a frame with `sharing` sharers, of which `written` are written: one for each of these, but
-- that the last sharer keeps the frame.
abbrev pub copies : ℕ → ℕ → ℕ
copies written sharing = cond (nat_lt written sharing) written (written - 1)

-- how many frames are wanted to write these pages: one for each untouched page, and the copies of shared frames
abbrev pub frames_for : Space → ℕ → List ℕ → ℕ
frames_for s i pages =
    among untouched s i pages + below (length s.pool.frames) (λ f. copies (among (shares f) s i pages) (sharers s f))

-- how many frames the step wants for its writes, and for its swapped pages and its writes
abbrev pub frames_to_write : Space → ℕ → Need → ℕ
frames_to_write s i need = cond need.writes (frames_for s i (pages_of_need need)) 0

abbrev pub frames_in_all : Space → ℕ → Need → ℕ
frames_in_all s i need = among swapped s i (pages_of_need need) + frames_to_write s i need

-- how many frames it may take: the free ones, and those that are earmarked for it
abbrev pub may_take : Space → ℕ → ℕ
may_take s i = length s.pool.free + length (kept_by s.pins i)

-- the page is untouched or resident
abbrev pub IsAtHand : Option Page → Type 0
IsAtHand page = at untouched page + at resident page ≡ 1

-- The step of the instance at a place can be taken: its pages are at hand, and there are frames for what it writes.
abbrev pub Ready : Space → ℕ → Need → Type 0
Ready s i need =
    All (λ p. IsAtHand (page_at s.tables i p)) (pages_of_need need) × (frames_to_write s i need ≤ may_take s i)
