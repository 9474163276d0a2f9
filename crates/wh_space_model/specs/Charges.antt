-- Whom each frame is charged to: the first, by instance number and then by page, of the pages that map to it.
use Rattle.std.specs.Prelude.{ℕ, ◌≡◌, ◌+◌, ◌≤◌, ◌==◌, cond, nat_lt, min, Bool, true, List, [], ◌∷◌, Some, None, get_or, length}
use Rattle.wh_space_model.specs.declared.states.Page.{Page}
use Rattle.wh_space_model.specs.States.{at, count_of, page_at, owns, shares}
use Rattle.wh_space_model.specs.Parts.{Space, of_occupant}
use Rattle.wh_space_model.specs.Ready.{below}

-- 1 where the page maps to frame f, alone or with others
abbrev pub stands_on : ℕ → Page → ℕ
stands_on f page = owns f page + shares f page

-- Of these tables, those at lower numbers first: how many pages of the one at place i map to frame f, and how many of those
-- before it
abbrev pub standing_at : List (List Page) → ℕ → ℕ → ℕ
standing_at tables i f = count_of (stands_on f) tables i

abbrev pub before_in : (ℕ → ℕ) → List (List Page) → ℕ → ℕ → ℕ
before_in number tables i f =
    below (length tables) (λ j. cond (nat_lt (number j) (number i)) (standing_at tables j f) 0)

-- 1 where the first page on frame f is of the one at place i; how many frames, of those below a number, that is so for
abbrev pub charge_in : (ℕ → ℕ) → List (List Page) → ℕ → ℕ → ℕ
charge_in number tables i f = cond (before_in number tables i f == 0) (min 1 (standing_at tables i f)) 0

abbrev pub charged_in : (ℕ → ℕ) → List (List Page) → ℕ → ℕ → ℕ
charged_in number tables frames i = below frames (λ f. charge_in number tables i f)

-- how many touched pages map to frame f, of a table and of all
abbrev pub touched_on : ℕ → List Page → List Bool → ℕ
touched_on f [] marks = 0
touched_on f (x ∷ xs) [] = 0
touched_on f (x ∷ xs) (mark ∷ marks) = cond mark (stands_on f x) 0 + touched_on f xs marks

abbrev pub touchers_in : List (List Page) → List (List Bool) → ℕ → ℕ
touchers_in tables touched f = below (length tables) (λ j. touched_on f (get_or tables j []) (get_or touched j []))

-- of how many of the charged frames a page was touched
abbrev pub active_in : (ℕ → ℕ) → List (List Page) → List (List Bool) → ℕ → ℕ → ℕ
active_in number tables touched frames i =
    below frames (λ f. cond (touchers_in tables touched f == 0) 0 (charge_in number tables i f))

-- page p of the table at place i maps to frame f; of the pages there it is the first
abbrev pub IsOnFrame : List (List Page) → ℕ → ℕ → ℕ → Type 0
IsOnFrame tables i p f = at (stands_on f) (page_at tables i p) ≡ 1

pub record IsFirstOn (number : ℕ → ℕ) (tables : List (List Page)) (i p f : ℕ) : Type 0 where
  pub on : IsOnFrame tables i p f
  pub first : (j q : ℕ) → IsOnFrame tables j q f → number i ≤ number j
  pub lowest : (q : ℕ) → IsOnFrame tables i q f → p ≤ q

-- the number of the instance at a place. Places are used again, numbers aren't
abbrev pub occupant_number : Space → ℕ → ℕ
occupant_number s i = of_occupant (λ t. t.number) (get_or s.occupants i None)

-- page p of the instance at place i maps to frame f; it was touched in this epoch
abbrev pub IsOn : Space → ℕ → ℕ → ℕ → Type 0
IsOn s i p f = IsOnFrame s.tables i p f

abbrev pub IsTouched : Space → ℕ → ℕ → Type 0
IsTouched s i p = page_at s.touched i p ≡ Some true

-- Page p of the instance at place i is the charged page of frame f: of the pages on it none is of an earlier instance,
-- and none of the same instance is before it.
abbrev pub IsChargedFor : Space → ℕ → ℕ → ℕ → Type 0
IsChargedFor s i p f = IsFirstOn (λ j. occupant_number s j) s.tables i p f

abbrev pub IsChargedPage : Space → ℕ → ℕ → Type 0
IsChargedPage s i p = (f : ℕ) × IsChargedFor s i p f

-- 1 where the charged page of frame f is the instance's; how many frames are charged to it
abbrev pub standing : Space → ℕ → ℕ → ℕ
standing s i f = standing_at s.tables i f

abbrev pub standing_before : Space → ℕ → ℕ → ℕ
standing_before s i f = before_in (λ j. occupant_number s j) s.tables i f

abbrev pub frame_charge : Space → ℕ → ℕ → ℕ
frame_charge s i f = charge_in (λ j. occupant_number s j) s.tables i f

abbrev pub charged_of : Space → ℕ → ℕ
charged_of s i = charged_in (λ j. occupant_number s j) s.tables (length s.pool.frames) i

-- how many touched pages of any instance map to a frame; of how many of its charged frames one was touched
abbrev pub touchers : Space → ℕ → ℕ
touchers s f = touchers_in s.tables s.touched f

abbrev pub active_of : Space → ℕ → ℕ
active_of s i = active_in (λ j. occupant_number s j) s.tables s.touched (length s.pool.frames) i

-- some page on the frame of page p of the instance was touched
abbrev pub IsOnTouched : Space → ℕ → ℕ → Type 0
IsOnTouched s i p = (f : ℕ) × IsOn s i p f × (1 ≤ touchers s f)
