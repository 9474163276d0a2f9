-- Which page leaves: who pays, and which page is taken then; and what else leaves where nobody pays.
use Rattle.std.specs.Prelude.{ℕ, ◌≡◌, ◌+◌, ◌-◌, ◌*◌, ◌<◌, ◌≤◌, ◌⊎◌, true, None}
use Rattle.wh_model.specs.declared.memory.Need.{Need}
use Rattle.wh_space_model.specs.Frames.{tally, one_if}
use Rattle.wh_space_model.specs.declared.states.Page.{Page}
use Rattle.wh_space_model.specs.declared.states.Page.TheVariants.{Untouched, Private, Shared, Leaving, LeavingShared, Coming, Swapped}
use Rattle.wh_space_model.specs.States.{at, page_at, shares}
use Rattle.wh_space_model.specs.Parts.{Space, Occupant, occupant_at, pinned_by, sharers}
use Rattle.wh_space_model.specs.Ready.{among, pages_of_need}
use Rattle.wh_space_model.specs.Charges.{IsChargedPage, IsOnTouched, IsTouched, active_of, frame_charge, charged_of, occupant_number}

-- 1 where the page is resident and not leaving
abbrev pub stays : Page → ℕ
stays Untouched = 0
stays (Private f) = 1
stays (Shared f) = 1
stays (Leaving f) = 0
stays (LeavingShared f) = 0
stays (Coming k) = 0
stays (Swapped k) = 0

-- page p of the instance can leave: it is resident, not pinned, and no page of its instance is leaving
abbrev pub CanLeave : Space → ℕ → ℕ → Type 0
CanLeave s i p =
    (at stays (page_at s.tables i p) ≡ 1) × (tally (one_if p) (pinned_by s.pins i) ≡ 0)
    × ((t : Occupant) × occupant_at s i t × (t.leaves ≡ None))

-- it is charged for its frame, and can leave
abbrev pub CanBeTaken : Space → ℕ → ℕ → Type 0
CanBeTaken s i p = CanLeave s i p × IsChargedPage s i p

-- what the frames charged to the instance weigh: den - num for each with a touched page, den for each idle one
abbrev pub weight_of : Space → ℕ → ℕ
weight_of s i = active_of s i * (s.tax.den - s.tax.num) + (charged_of s i - active_of s i) * s.tax.den

-- the instance may have to pay: more frames are charged to it than its minimum, and one of their pages can be taken
abbrev pub MayPay : Space → ℕ → Type 0
MayPay s i = ((t : Occupant) × occupant_at s i t × (t.min < charged_of s i)) × ((p : ℕ) × CanBeTaken s i p)

-- for its shares the first has less left to claim than the second: S_i * w_j < S_j * w_i
abbrev pub HasLess : Space → ℕ → ℕ → Type 0
HasLess s i j =
    (t u : Occupant) → occupant_at s i t → occupant_at s j u → t.shares * weight_of s j < u.shares * weight_of s i

-- the first was admitted before the second. Places are used again, numbers aren't
abbrev pub IsEarlier : Space → ℕ → ℕ → Type 0
IsEarlier s i j = (t u : Occupant) → occupant_at s i t → occupant_at s j u → t.number < u.number

-- the one that pays: none that may pay has less, and of those with as little it has the lowest number
pub record IsPayer (s : Space) (i : ℕ) : Type 0 where
  pub may_pay : MayPay s i
  pub least : (j : ℕ) → MayPay s j → ¬ HasLess s j i
  pub first : (j : ℕ) → MayPay s j → IsEarlier s j i → HasLess s i j

-- of the numbers that can the first that isn't busy, or else the first
abbrev pub IsFirstIdle : (ℕ → Type 0) → (ℕ → Type 0) → ℕ → Type 0
IsFirstIdle can busy p =
    can p
    × (((¬ busy p) × ((q : ℕ) → q < p → can q → busy q)) ⊎ ((q : ℕ) → can q → busy q × (p ≤ q)))

-- the page that is taken from one that pays: of its charged pages, one on whose frame no page was touched if it can be
abbrev pub IsTakenFrom : Space → ℕ → ℕ → Type 0
IsTakenFrom s i p = IsFirstIdle (λ q. CanBeTaken s i q) (λ q. IsOnTouched s i q) p

-- the page that an instance gives of its own: of its resident pages, one that wasn't touched if it can be
abbrev pub IsGiven : Space → ℕ → ℕ → Type 0
IsGiven s i p = IsFirstIdle (λ q. CanLeave s i q) (λ q. IsTouched s i q) p

-- page p of the instance at place j shares frame f, isn't a page of this step of the one at place i, and can leave
pub record IsBeside (s : Space) (i : ℕ) (need : Need) (f j p : ℕ) : Type 0 where
  pub shares : at (shares f) (page_at s.tables j p) ≡ 1
  pub apart : j ≡ i → tally (one_if p) (pages_of_need need) ≡ 0
  pub can : CanLeave s j p

-- The step writes page q, on frame f. The frame is charged to the instance that asks, has more sharers than the step
-- writes of it, and one beside the step can leave: then with each that leaves the write is nearer to need no copy.
pub record CanShed (s : Space) (i : ℕ) (need : Need) (q f : ℕ) : Type 0 where
  pub writes : need.writes ≡ true
  pub page : 1 ≤ tally (one_if q) (pages_of_need need)
  pub on : at (shares f) (page_at s.tables i q) ≡ 1
  pub charged : frame_charge s i f ≡ 1
  pub more : among (shares f) s i (pages_of_need need) < sharers s f
  pub beside : (j p : ℕ) × IsBeside s i need f j p

-- page p of the instance at place j is shed for the step: the greatest that can be of the frame of the step's lower page
pub record IsShed (s : Space) (i : ℕ) (need : Need) (j p : ℕ) : Type 0 where
  pub page : ℕ
  pub frame : ℕ
  pub sheds : CanShed s i need page frame
  pub lower : (q f : ℕ) → CanShed s i need q f → page ≤ q
  pub beside : IsBeside s i need frame j p
  pub greatest : (k q : ℕ) → IsBeside s i need frame k q → (occupant_number s k < occupant_number s j) ⊎ ((k ≡ j) × (q ≤ p))

-- nobody may have to pay; no sharer can be shed
abbrev pub NobodyPays : Space → Type 0
NobodyPays s = (k : ℕ) → ¬ MayPay s k

abbrev pub NobodyIsShed : Space → ℕ → Need → Type 0
NobodyIsShed s i need = (q f : ℕ) → ¬ CanShed s i need q f

-- The page that is taken for this step of the instance at place i: that of the one that pays; where nobody may have to
-- pay, a sharer that can be shed; and where there is none, one of its own.
abbrev pub MustLeave : Space → ℕ → Need → ℕ → ℕ → Type 0
MustLeave s i need j p =
    (IsPayer s j × IsTakenFrom s j p)
    ⊎ ((NobodyPays s × IsShed s i need j p)
    ⊎ ((NobodyPays s × NobodyIsShed s i need) × (j ≡ i) × IsGiven s i p))

-- there is none to take for it
abbrev pub NoneMustLeave : Space → ℕ → Need → Type 0
NoneMustLeave s i need = (NobodyPays s × NobodyIsShed s i need) × ((p : ℕ) → ¬ CanLeave s i p)
