-- What the index answers of a frame and of an instance.
use Rattle.std.proofs.Common.{◌≡◌, ℕ, ◌+◌, ◌≤◌, ◌==◌, cond, min, List, [], Option, Some, None, IfSome, IfNone, length, get_or, sym, ◌∙◌, subst, arith}
use Rattle.std.proofs.lemmas.Bool.Decides.{nat_tests}
use Rattle.wh_space_model.specs.{one_if, tally, below, IsFirstOn, IsOnFrame, before_in, charge_in, charged_in, standing_at, stands_on}
use Rattle.wh_space_model.specs.declared.states.Page.{Page}
use Rattle.wh_space_model.specs.declared.states.Page.TheVariants.{Untouched, Private, Shared, Leaving, LeavingShared, Coming, Swapped}
use Rattle.wh_space_model.proofs.Sums.{below_le, below_one, below_tally, below_zero, tally_le, tally_ones}
use Rattle.wh_tables.specs.declared.page_id.PageId.{PageId}
use Rattle.wh_tables.specs.Order.{Chains, ComesBefore, IsInOrder, StandsOn, next_in, prior_in}
use Rattle.wh_tables.specs.PageLinks.{Turned}
use Rattle.wh_tables.specs.Index.{number_in}
use Rattle.wh_tables.proofs.Stops.{lead_nearest, lead_there}
use Rattle.wh_tables.proofs.Charging.{first_is}

-- the first page on a frame, or nobody's
pub first_some : (c : Chains) (pages : List (List Page)) (f : ℕ) (first : Option PageId) → IsInOrder c pages → first ≡ next_in c f None
    → IfSome first (λ id. IsFirstOn (number_in c.numbers) pages id.place id.page f)
first_some c pages f None chains is = tt
first_some c pages f (Some id) chains is = first_is c pages f id chains (sym is)

pub first_none : (c : Chains) (pages : List (List Page)) (f : ℕ) (first : Option PageId) → IsInOrder c pages → first ≡ next_in c f None
    → IfNone first ((j q : ℕ) → ¬ IsOnFrame pages j q f)
first_none c pages f (Some id) chains is = tt
first_none c pages f None chains is = λ j q on. (
    let near = lead_nearest (StandsOn pages f) (ComesBefore c.numbers) None (next_in c f None) (record { place = j; page = q }) (chains.next f None tt) on tt in
    let e : None ≡ Some near.0 = is ∙ near.1 in cc)

pub last_some : (c : Chains) (pages : List (List Page)) (f : ℕ) (last : Option PageId) → IsInOrder c pages → last ≡ prior_in c f None
    → IfSome last (λ id. StandsOn pages f id × ((z : PageId) → StandsOn pages f z → ¬ ComesBefore c.numbers id z))
last_some c pages f None chains is = tt
last_some c pages f (Some id) chains is = (
  (lead_there (StandsOn pages f) (Turned (ComesBefore c.numbers)) None (prior_in c f None) id (chains.prior f None tt) (sym is)).0,
  λ z on bad. (
      let near = lead_nearest (StandsOn pages f) (Turned (ComesBefore c.numbers)) None (prior_in c f None) z (chains.prior f None tt) on tt in
      let both : Some id ≡ Some near.0 = is ∙ near.1 in
      let e : id ≡ near.0 = cc in
      near.2 (subst (λ w. ComesBefore c.numbers w z) e bad)),
)

pub last_none : (c : Chains) (pages : List (List Page)) (f : ℕ) (last : Option PageId) → IsInOrder c pages → last ≡ prior_in c f None
    → IfNone last ((z : PageId) → ¬ StandsOn pages f z)
last_none c pages f (Some id) chains is = tt
last_none c pages f None chains is = λ z on. (
    let near = lead_nearest (StandsOn pages f) (Turned (ComesBefore c.numbers)) None (prior_in c f None) z (chains.prior f None tt) on tt in
    let e : None ≡ Some near.0 = is ∙ near.1 in cc)

pub prior_some : (c : Chains) (pages : List (List Page)) (f : ℕ) (id : PageId) (prior : Option PageId) → IsInOrder c pages → StandsOn pages f id → prior ≡ prior_in c f (Some id)
    → IfSome prior (λ p. StandsOn pages f p × ComesBefore c.numbers p id × ((z : PageId) → StandsOn pages f z → ComesBefore c.numbers z id → ¬ ComesBefore c.numbers p z))
prior_some c pages f id None chains on is = tt
prior_some c pages f id (Some p) chains on is = (
  (lead_there (StandsOn pages f) (Turned (ComesBefore c.numbers)) (Some id) (prior_in c f (Some id)) p (chains.prior f (Some id) on) (sym is)).0,
  (lead_there (StandsOn pages f) (Turned (ComesBefore c.numbers)) (Some id) (prior_in c f (Some id)) p (chains.prior f (Some id) on) (sym is)).1,
  λ z there before bad. (
      let near = lead_nearest (StandsOn pages f) (Turned (ComesBefore c.numbers)) (Some id) (prior_in c f (Some id)) z (chains.prior f (Some id) on) there before in
      let both : Some p ≡ Some near.0 = is ∙ near.1 in
      let e : p ≡ near.0 = cc in
      near.2 (subst (λ w. ComesBefore c.numbers w z) e bad)),
)

pub prior_none : (c : Chains) (pages : List (List Page)) (f : ℕ) (id : PageId) (prior : Option PageId) → IsInOrder c pages → StandsOn pages f id → prior ≡ prior_in c f (Some id)
    → IfNone prior ((z : PageId) → StandsOn pages f z → ¬ ComesBefore c.numbers z id)
prior_none c pages f id (Some p) chains on is = tt
prior_none c pages f id None chains on is = λ z there before. (
    let near = lead_nearest (StandsOn pages f) (Turned (ComesBefore c.numbers)) (Some id) (prior_in c f (Some id)) z (chains.prior f (Some id) on) there before in
    let e : None ≡ Some near.0 = is ∙ near.1 in cc)

-- no more frames are charged to an instance than it has pages
charge_standing : (before here : ℕ) → cond (before == 0) (min 1 here) 0 ≤ here
charge_standing before here = grind (arith, nat_tests)

one_place : (frames : ℕ) (page : Page) → below frames (λ f. stands_on f page) ≤ 1
one_place frames Untouched = let z = below_zero frames in omega arith
one_place frames (Private g) = few frames g where
  few : (n g : ℕ) → below n (λ f. one_if f g + 0) ≤ 1
  few n g = let one = below_one n g in let e = below_le n (λ f. one_if f g + 0) (λ f. one_if f g) (λ f less. omega arith) in omega arith
one_place frames (Shared g) = few frames g where
  few : (n g : ℕ) → below n (λ f. 0 + one_if f g) ≤ 1
  few n g = let one = below_one n g in let e = below_le n (λ f. 0 + one_if f g) (λ f. one_if f g) (λ f less. omega arith) in omega arith
one_place frames (Leaving g) = few frames g where
  few : (n g : ℕ) → below n (λ f. one_if f g + 0) ≤ 1
  few n g = let one = below_one n g in let e = below_le n (λ f. one_if f g + 0) (λ f. one_if f g) (λ f less. omega arith) in omega arith
one_place frames (LeavingShared g) = few frames g where
  few : (n g : ℕ) → below n (λ f. 0 + one_if f g) ≤ 1
  few n g = let one = below_one n g in let e = below_le n (λ f. 0 + one_if f g) (λ f. one_if f g) (λ f less. omega arith) in omega arith
one_place frames (Coming k) = let z = below_zero frames in omega arith
one_place frames (Swapped k) = let z = below_zero frames in omega arith

pub charged_most : (number : ℕ → ℕ) (pages : List (List Page)) (frames i : ℕ) → charged_in number pages frames i ≤ length (get_or pages i [])
charged_most number pages frames i =
    let each = below_le frames (λ f. charge_in number pages i f) (λ f. tally (stands_on f) (get_or pages i [])) (λ f less. charge_standing (before_in number pages i f) (standing_at pages i f)) in
    let swap = below_tally frames (λ f page. stands_on f page) (get_or pages i []) in
    let ones = tally_le (λ page. below frames (λ f. stands_on f page)) (λ page. 1) (get_or pages i []) (λ page. one_place frames page) in
    let all = tally_ones (get_or pages i []) in
    omega arith
