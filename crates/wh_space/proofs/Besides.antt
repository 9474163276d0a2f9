-- The greatest sharer of a frame that can leave for a step, looked for from the last page there on.
use Rattle.std.proofs.Common.{◌≡◌, ◌≢◌, ◌/◌, ◌%◌, ◌∷◌, zero, suc, cond, nat_lt, Bool, true, false, ℕ, ◌+◌, ◌<◌, ◌≤◌, ◌⊎◌, inl, inr, List, [], Option, Some, None, length, get_or, sym, ap, ◌∙◌, subst, arith}
use Rattle.wh_model.specs.declared.memory.Need.{Need}
use Rattle.wh_space_model.specs.declared.states.Page.{Page}
use Rattle.wh_space_model.specs.{one_if, tally, IsOnFrame, occupant_number, stands_on, frame_of, among, pages_from, pages_of_need, CanShed, IsBeside, IsShed, NobodyIsShed, Occupant, Space, occupant_at, sharers, at, page_at, shares}
use Rattle.wh_space_model.proofs.Tally.{one_other}
use Rattle.wh_space_model.proofs.Charging.{in_row, number_is, occupied, on_once}
use Rattle.wh_tables.specs.declared.page_id.PageId.{PageId}
use Rattle.wh_tables.specs.PageLinks.{IsEarlierStop, IsStop}
use Rattle.wh_tables.specs.Order.{ComesBefore, StandsOn}
use Rattle.wh_tables.specs.Index.{number_in}
use Rattle.wh_tables.proofs.InOrder.{order_of_pages}
use Rattle.wh_space.specs.declared.memory.Memory.TheInside.{Inside}
use Rattle.wh_space.specs.Parts.{IsWell, space_of}
use Rattle.std.specs.Prelude.{MatchOption}
use Rattle.wh_space_model.specs.declared.states.Page.TheVariants.{Untouched, Private, Shared, Leaving, LeavingShared, Coming, Swapped}
use Rattle.wh_space_model.proofs.Putting.{here_or}
use Rattle.wh_space_model.proofs.Reading.{taken_under}
use Rattle.wh_space.specs.Shedding.{IsLastBeside, IsNoneBeside, IsShedOf, ShedsNone}
use Rattle.wh_space.specs.Steps.{frame_shared}
use Rattle.wh_space.proofs.Charged.{has_row, number_same}

-- a sharer stands on its frame
pub sharer_stands : (f : ℕ) (x : Option Page) → at (shares f) x ≡ 1 → at (stands_on f) x ≡ 1
sharer_stands f None is = is
sharer_stands f (Some x) is = let once = (on_once f (Some x)).0 in omega arith

beside_stands : (s : Space) (i : ℕ) (need : Need) (f : ℕ) (z : PageId) → IsBeside s i need f z.place z.page → StandsOn s.tables f z
beside_stands s i need f z beside = sharer_stands f (page_at s.tables z.place z.page) beside.shares

-- what holds on the way: no page after the stop is beside the step
pub record IsPast (s : Space) (numbers : List ℕ) (i : ℕ) (need : Need) (f : ℕ) (at : Option PageId) : Type 0 where
  pub on : IsStop (StandsOn s.tables f) at
  pub none : (z : PageId) → StandsOn s.tables f z → IsEarlierStop (ComesBefore numbers) at (Some z) → ¬ IsBeside s i need f z.place z.page

pub none_beside : (s : Space) (numbers : List ℕ) (i : ℕ) (need : Need) (f : ℕ) → IsPast s numbers i need f None → IsNoneBeside s i need f
none_beside s numbers i need f past = λ j p beside. past.none (record { place = j; page = p }) (beside_stands s i need f (record { place = j; page = p }) beside) tt beside

-- two who stand there with one number are one
same_place : (a : Inside) (f j k p q : ℕ) → IsWell a → IsOnFrame a.tables.pages j p f → IsOnFrame a.tables.pages k q f → number_in a.tables.numbers j ≡ number_in a.tables.numbers k → j ≡ k
same_place a f j k p q was on also same =
    let s : Space = space_of a in
    let t = owner_of j p on in
    let u = owner_of k q also in
    let m = number_same a j was (has_row a.tables.pages j p f on) in
    let n = number_same a k was (has_row a.tables.pages k q f also) in
    let x = number_is s j t.0 t.1 in
    let y = number_is s k u.0 u.1 in
    was.sound.occupants.numbers j k t.0 u.0 t.1 u.1 (omega arith) where
      owner_of : (l r : ℕ) → IsOnFrame a.tables.pages l r f → (t : Occupant) × occupant_at (space_of a) l t
      owner_of l r on = (let row = in_row (stands_on f) (get_or a.tables.pages l []) r in occupied (stands_on f) (space_of a) l was.sound.occupants (omega arith))

pub last_beside : (a : Inside) (i : ℕ) (need : Need) (f : ℕ) (id : PageId) → IsWell a → IsPast (space_of a) a.tables.numbers i need f (Some id) → IsBeside (space_of a) i need f id.place id.page
    → IsLastBeside (space_of a) i need f id.place id.page
last_beside a i need f id was past beside = record {
  beside = beside;
  greatest = λ k q other. greatest (record { place = k; page = q }) other;
} where
  here : StandsOn a.tables.pages f id
  here = beside_stands (space_of a) i need f id beside

  lower : (z : PageId) → StandsOn a.tables.pages f z → ComesBefore a.tables.numbers z id → (occupant_number (space_of a) z.place < occupant_number (space_of a) id.place) ⊎ ((z.place ≡ id.place) × (z.page ≤ id.page))
  lower z on (inl less) =
      let m = number_same a z.place was (has_row a.tables.pages z.place z.page f on) in
      let n = number_same a id.place was (has_row a.tables.pages id.place id.page f here) in
      inl (omega arith)
  lower z on (inr (same, tie)) =
      let place = same_place a f z.place id.place z.page id.page was on here same in
      elim tie [
        | inl less ↦ absurd (omega arith)
        | inr (e, less) ↦ inr (place, omega arith)
      ]

  greatest : (z : PageId) → IsBeside (space_of a) i need f z.place z.page → (occupant_number (space_of a) z.place < occupant_number (space_of a) id.place) ⊎ ((z.place ≡ id.place) × (z.page ≤ id.page))
  greatest z other =
      let on = beside_stands (space_of a) i need f z other in
      elim ((order_of_pages a.tables.numbers).order z id) [
        | inl same ↦ inr (ap (λ w. w.place) same, (let e : z.page ≡ id.page = ap (λ w. w.page) same in omega arith))
        | inr (inl before) ↦ lower z on before
        | inr (inr after) ↦ absurd (past.none z on after other)
      ]

-- ---- for one page of the step

pub sharing_frame : (f : ℕ) (page : Page) → frame_shared page ≡ Some f → frame_of page ≡ Some f
sharing_frame f Untouched is = absurd (cc is)
sharing_frame f (Private g) is = absurd (cc is)
sharing_frame f (Shared g) is = is
sharing_frame f (Leaving g) is = absurd (cc is)
sharing_frame f (LeavingShared g) is = is
sharing_frame f (Coming k) is = absurd (cc is)
sharing_frame f (Swapped k) is = absurd (cc is)

pub within_pool : (a : Inside) (i p f : ℕ) (page : Page) → IsWell a → page_at a.tables.pages i p ≡ Some page → frame_shared page ≡ Some f → f < length a.pool.frames
within_pool a i p f page was there is = (taken_under (space_of a) i p page f was.sound.frames there (sharing_frame f page is)).0

one_is : (f g : ℕ) → one_if f g ≡ 1 → f ≡ g
one_is f g is = elim (here_or g f) [ inl same ↦ same | inr other ↦ absurd (let o = one_other f g other in omega arith) ]

sharing_is : (f g : ℕ) (page : Page) → frame_shared page ≡ Some f → shares g page ≡ 1 → g ≡ f
sharing_is f g Untouched is on = absurd (cc is)
sharing_is f g (Private h) is on = absurd (cc is)
sharing_is f g (Shared h) is on = let e : h ≡ f = cc in one_is g h on ∙ e
sharing_is f g (Leaving h) is on = absurd (cc is)
sharing_is f g (LeavingShared h) is on = let e : h ≡ f = cc in one_is g h on ∙ e
sharing_is f g (Coming k) is on = absurd (cc is)
sharing_is f g (Swapped k) is on = absurd (cc is)

-- where a frame can be shed for the page it is the one that the page shares
pub shed_frame : (s : Space) (i : ℕ) (need : Need) (q f g : ℕ) (page : Page) → page_at s.tables i q ≡ Some page → frame_shared page ≡ Some f → CanShed s i need q g → g ≡ f
shed_frame s i need q f g page there is can =
    let on : shares g page ≡ 1 = sym (ap (at (shares g)) there) ∙ can.on in
    sharing_is f g page is on

pub sheds_few : (s : Space) (i : ℕ) (need : Need) (q f : ℕ) (page : Page) → page_at s.tables i q ≡ Some page → frame_shared page ≡ Some f → sharers s f ≤ among (shares f) s i (pages_of_need need) → ShedsNone s i need q
sheds_few s i need q f page there is few = λ g can. absurd (
    let same = shed_frame s i need q f g page there is can in
    let more : among (shares f) s i (pages_of_need need) < sharers s f = subst (λ h. among (shares h) s i (pages_of_need need) < sharers s h) same can.more in
    omega arith)

-- ---- for the step

pub shed_first : (s : Space) (i : ℕ) (need : Need) (q : ℕ) (id : PageId) → IsShedOf s i need q id.place id.page → ((p : ℕ) → 1 ≤ tally (one_if p) (pages_of_need need) → (q ≤ p) ⊎ ShedsNone s i need p) → IsShed s i need id.place id.page
shed_first s i need q id shed others = record {
  page = q;
  frame = shed.frame;
  sheds = shed.sheds;
  lower = λ p f can. (elim (others p can.page) [ inl most ↦ most | inr none ↦ absurd (none f can) ]);
  beside = shed.last.beside;
  greatest = shed.last.greatest;
}

pub shed_of : (s : Space) (i : ℕ) (need : Need) (q : ℕ) (found : Option PageId) → MatchOption found (ShedsNone s i need q) (λ id. IsShedOf s i need q id.place id.page)
    → ((p : ℕ) → 1 ≤ tally (one_if p) (pages_of_need need) → (p ≢ q → ShedsNone s i need p))
    → MatchOption found (NobodyIsShed s i need) (λ id. IsShed s i need id.place id.page)
shed_of s i need q None none others = λ p f can. (elim (here_or q p) [
  | inl same ↦ none f (subst (λ r. CanShed s i need r f) same can)
  | inr other ↦ others p can.page other f can
])
shed_of s i need q (Some id) shed others = shed_first s i need q id shed (λ p of. (elim (here_or q p) [ inl same ↦ inl (omega arith) | inr other ↦ inr (others p of other) ]))

-- a page of the step is its first one or the next
pub page_of_step : (start n p : ℕ) → 1 ≤ tally (one_if p) (pages_from start n) → (p ≡ start / 4096) ⊎ (p ≡ start / 4096 + 1)
page_of_step start zero p some = absurd (omega arith)
page_of_step start (suc more) p some = go (nat_lt 4096 (start % 4096 + suc more)) some where
  go : (b : Bool) → 1 ≤ tally (one_if p) (cond b ((start / 4096) ∷ (start / 4096 + 1) ∷ []) ((start / 4096) ∷ [])) → (p ≡ start / 4096) ⊎ (p ≡ start / 4096 + 1)
  go true some =
      elim (here_or (start / 4096) p) [
        | inl same ↦ inl same
        | inr other ↦ elim (here_or (start / 4096 + 1) p) [
          | inl next ↦ inr next
          | inr away ↦ absurd (let a = one_other p (start / 4096) other in let b = one_other p (start / 4096 + 1) away in omega arith)
        ]
      ]
  go false some =
      elim (here_or (start / 4096) p) [
        | inl same ↦ inl same
        | inr other ↦ absurd (let a = one_other p (start / 4096) other in omega arith)
      ]
