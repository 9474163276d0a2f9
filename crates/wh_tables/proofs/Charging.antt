-- To whom a frame is charged: to the instance of the first page on it.
use Rattle.std.proofs.Common.{◌≡◌, ◌≢◌, ℕ, ◌+◌, ◌<◌, ◌≤◌, ◌==◌, inl, inr, cond, nat_lt, min, List, [], ◌∷◌, Option, Some, None, length, slice_get, get_or, zero, suc, refl, sym, ◌∙◌, subst, arith, rules}
use Rattle.std.proofs.lemmas.Bool.Decides.{nat_tests}
use Rattle.std.proofs.lemmas.Bool.{cases_lt}
use Rattle.wh_space_model.specs.{tally, one_if, at, page_at, count_of, below, IsFirstOn, active_in, before_in, charge_in, charged_in, standing_at, stands_on, touchers_in}
use Rattle.wh_space_model.proofs.Tally.{one_same, one_other}
use Rattle.wh_space_model.specs.declared.states.Page.{Page}
use Rattle.wh_space_model.specs.declared.states.Page.TheVariants.{Untouched, Private, Shared, Leaving, LeavingShared, Coming, Swapped}
use Rattle.wh_space_model.proofs.Sums.{below_le, below_count}
use Rattle.wh_space_model.proofs.Putting.{here_or, is_page}
use Rattle.wh_tables.specs.declared.page_id.PageId.{PageId}
use Rattle.wh_tables.specs.Order.{Chains, ComesBefore, IsInOrder, StandsOn, next_in}
use Rattle.wh_tables.specs.Index.{HaveOwnNumbers, Marked, activity_in, number_in, one_first}
use Rattle.wh_tables.proofs.Stops.{lead_nearest, lead_there}
use Rattle.wh_tables.proofs.Standing.{page_of_standing}

below_at_most : (n k : ℕ) (v : ℕ → ℕ) → k < n → v k ≤ below n v
below_at_most zero k v less = absurd (omega arith)
below_at_most (suc n) k v less =
    elim (cases_lt k n) [
      | inl before ↦ let rest = below_at_most n k v before in omega arith
      | inr most ↦ let e : k ≡ n = omega arith in rw e (omega arith)
    ]

pub all_none : (n : ℕ) (v : ℕ → ℕ) → ((k : ℕ) → k < n → v k ≡ 0) → below n v ≡ 0
all_none zero v each = refl
all_none (suc n) v each = let rest = all_none n v (λ k less. each k (omega arith)) in let one = each n (omega arith) in omega arith

charge_is : (before here : ℕ) → before ≡ 0 → 1 ≤ here → cond (before == 0) (min 1 here) 0 ≡ 1
charge_is before here none some = grind (arith, nat_tests)

charge_none : (before here : ℕ) → (before ≡ 0 → here ≡ 0) → cond (before == 0) (min 1 here) 0 ≡ 0
charge_none before here none = search rules

charge_few : (before here : ℕ) → cond (before == 0) (min 1 here) 0 ≤ 1
charge_few before here = grind (arith, nat_tests)

before_none : (a b c : ℕ) → (1 ≤ c → b ≤ a) → cond (nat_lt a b) c 0 ≡ 0
before_none a b c least = search rules

is_less : (a b c : ℕ) → a < b → cond (nat_lt a b) c 0 ≡ c
is_less a b c less = grind (arith, nat_tests)

-- a row in which the sum is positive has a page that counts, and each page counts in its row
some_of : (w : Page → ℕ) (xs : List Page) → 1 ≤ tally w xs → (p : ℕ) × (1 ≤ at w (slice_get xs p))
some_of w [] some = absurd (omega arith)
some_of w (x ∷ xs) some =
    elim (cases_lt 0 (w x)) [
      | inl here ↦ (0, here)
      | inr zeros ↦ (let rest = some_of w xs (left zeros some) in (suc rest.0, rest.1))
    ] where
      left : w x ≤ 0 → 1 ≤ w x + tally w xs → 1 ≤ tally w xs
      left zeros some = omega arith

in_row : (w : Page → ℕ) (xs : List Page) (p : ℕ) → at w (slice_get xs p) ≤ tally w xs
in_row w [] p = omega arith
in_row w (x ∷ xs) zero = omega arith
in_row w (x ∷ xs) (suc p) = let k = in_row w xs p in omega arith

pub row_within : (w : Page → ℕ) (tables : List (List Page)) (j : ℕ) → 1 ≤ count_of w tables j → j < length tables
row_within w [] j some = absurd (omega arith)
row_within w (xs ∷ tables) zero some = omega arith
row_within w (xs ∷ tables) (suc j) some = let rest = row_within w tables j some in omega arith

one_few : (f g : ℕ) → one_if f g ≤ 1
one_few f g = elim (here_or f g) [ inl same ↦ (let o = one_same f g (sym same) in omega arith) | inr other ↦ (let o = one_other f g (λ e. other (sym e)) in omega arith) ]

pub on_once : (f : ℕ) (x : Option Page) → at (stands_on f) x ≤ 1
on_once f None = omega arith
on_once f (Some Untouched) = omega arith
on_once f (Some (Private g)) = let k = one_few f g in omega arith
on_once f (Some (Shared g)) = let k = one_few f g in omega arith
on_once f (Some (Leaving g)) = let k = one_few f g in omega arith
on_once f (Some (LeavingShared g)) = let k = one_few f g in omega arith
on_once f (Some (Coming k)) = omega arith
on_once f (Some (Swapped k)) = omega arith

-- some page of an instance stands on the frame, as one of those does that are counted there
pub someone_stands : (pages : List (List Page)) (f k : ℕ) → 1 ≤ standing_at pages k f → (id : PageId) × (id.place ≡ k) × StandsOn pages f id
someone_stands pages f k some =
    let found = some_of (stands_on f) (get_or pages k []) some in
    let most = on_once f (page_at pages k found.0) in
    let least = found.1 in
    (record { place = k; page = found.0 }, refl, omega arith)

pub counts_standing : (pages : List (List Page)) (f : ℕ) (id : PageId) → StandsOn pages f id → 1 ≤ standing_at pages id.place f
counts_standing pages f id on = let k = in_row (stands_on f) (get_or pages id.place []) id.page in omega arith

lower_number : (numbers : List ℕ) (x z : PageId) → ¬ ComesBefore numbers z x → number_in numbers x.place ≤ number_in numbers z.place
lower_number numbers x z least = search rules

first_least : (c : Chains) (pages : List (List Page)) (f : ℕ) (x z : PageId) → IsInOrder c pages → next_in c f None ≡ Some x → StandsOn pages f z → ¬ ComesBefore c.numbers z x
first_least c pages f x z chains is on =
    let near = lead_nearest (StandsOn pages f) (ComesBefore c.numbers) None (next_in c f None) z (chains.next f None tt) on tt in
    let both : Some x ≡ Some near.0 = sym is ∙ near.1 in
    let e : x ≡ near.0 = cc in
    subst (λ w. ¬ ComesBefore c.numbers z w) (sym e) near.2

-- the first page on a frame, as the definition has it
pub first_is : (c : Chains) (pages : List (List Page)) (f : ℕ) (x : PageId) → IsInOrder c pages → next_in c f None ≡ Some x → IsFirstOn (number_in c.numbers) pages x.place x.page f
first_is c pages f x chains is =
    record {
      on = (lead_there (StandsOn pages f) (ComesBefore c.numbers) None (next_in c f None) x (chains.next f None tt) is).0;
      first = λ j q on. lower_number c.numbers x (record { place = j; page = q }) (first_least c pages f x (record { place = j; page = q }) chains is on);
      lowest = λ q on. lower q (first_least c pages f x (record { place = x.place; page = q }) chains is on);
    } where
      lower : (q : ℕ) → ¬ ComesBefore c.numbers (record { place = x.place; page = q }) x → x.page ≤ q
      lower q least =
          elim (cases_lt q x.page) [
            | inl less ↦ absurd (least (inr (refl, inr (refl, less))))
            | inr most ↦ most
          ]

pub has_pages : (pages : List (List Page)) (f : ℕ) (id : PageId) → StandsOn pages f id → 1 ≤ length (get_or pages id.place [])
has_pages pages f id on = let page = page_of_standing pages f id on in let within = (is_page pages id.place id.page page.0 page.1).1 in omega arith

-- it is charged to the instance of the first page, and to nobody else
charge_of_first : (c : Chains) (pages : List (List Page)) (f : ℕ) (x : PageId) (k : ℕ) → IsInOrder c pages → HaveOwnNumbers c.numbers pages → next_in c f None ≡ Some x
    → charge_in (number_in c.numbers) pages k f ≡ one_if k x.place
charge_of_first c pages f x k chains apart is =
    let there = lead_there (StandsOn pages f) (ComesBefore c.numbers) None (next_in c f None) x (chains.next f None tt) is in
    let here = counts_standing pages f x there.0 in
    elim (here_or x.place k) [
      | inl same ↦
          (let zeros = all_none (length pages) (λ j. cond (nat_lt (number_in c.numbers j) (number_in c.numbers x.place)) (standing_at pages j f) 0)
          (λ j less. before_none (number_in c.numbers j) (number_in c.numbers x.place) (standing_at pages j f) (λ some. least j some)) in
          let one = charge_is (before_in (number_in c.numbers) pages x.place f) (standing_at pages x.place f) zeros here in
          let o = one_same x.place x.place refl in
          rw same (omega arith))
      | inr other ↦
          (let none = charge_none (before_in (number_in c.numbers) pages k f) (standing_at pages k f) (λ none_before. nobody other here there.0 none_before) in
          let o = one_other k x.place other in
          omega arith)
    ] where
      least : (j : ℕ) → 1 ≤ standing_at pages j f → number_in c.numbers x.place ≤ number_in c.numbers j
      least j some =
          let z = someone_stands pages f j some in
          let l = lower_number c.numbers x z.0 (first_least c pages f x z.0 chains is z.2) in
          subst (λ w. number_in c.numbers x.place ≤ number_in c.numbers w) z.1 l

      nobody : k ≢ x.place → 1 ≤ standing_at pages x.place f → StandsOn pages f x → before_in (number_in c.numbers) pages k f ≡ 0 → standing_at pages k f ≡ 0
      nobody other here on none_before =
          elim (cases_lt 0 (standing_at pages k f)) [
            | inr most ↦ omega arith
            | inl some ↦ absurd (
                let l = least k some in
                let z = someone_stands pages f k some in
                let pages_k : 1 ≤ length (get_or pages k []) = subst (λ w. 1 ≤ length (get_or pages w [])) z.1 (has_pages pages f z.0 z.2) in
                elim (cases_lt (number_in c.numbers x.place) (number_in c.numbers k)) [
                  | inl less ↦
                      (let within = row_within (stands_on f) pages x.place here in
                      let term = below_at_most (length pages) x.place (λ j. cond (nat_lt (number_in c.numbers j) (number_in c.numbers k)) (standing_at pages j f) 0) within in
                      let e = is_less (number_in c.numbers x.place) (number_in c.numbers k) (standing_at pages x.place f) less in
                      omega arith)
                  | inr most ↦ other (apart k x.place pages_k (has_pages pages f x on) (omega arith))
                ])
          ]

charge_of_nobody : (c : Chains) (pages : List (List Page)) (f k : ℕ) → IsInOrder c pages → next_in c f None ≡ None → charge_in (number_in c.numbers) pages k f ≡ 0
charge_of_nobody c pages f k chains is =
    charge_none (before_in (number_in c.numbers) pages k f) (standing_at pages k f) (λ none_before. elim (cases_lt 0 (standing_at pages k f)) [
      | inr most ↦ omega arith
      | inl some ↦ absurd (
          let z = someone_stands pages f k some in
          let near = lead_nearest (StandsOn pages f) (ComesBefore c.numbers) None (next_in c f None) z.0 (chains.next f None tt) z.2 tt in
          let e : None ≡ Some near.0 = sym is ∙ near.1 in cc)
    ])

pub charge_is_first : (c : Chains) (pages : List (List Page)) (f k : ℕ) → IsInOrder c pages → HaveOwnNumbers c.numbers pages → charge_in (number_in c.numbers) pages k f ≡ one_first (next_in c f None) k
charge_is_first c pages f k chains apart = search (rules, charge_of_nobody, charge_of_first)

-- bounds
pub charged_few : (number : ℕ → ℕ) (pages : List (List Page)) (frames k : ℕ) → charged_in number pages frames k ≤ frames
charged_few number pages frames k =
    let each = below_le frames (λ f. charge_in number pages k f) (λ f. 1) (λ f less. charge_few (before_in number pages k f) (standing_at pages k f)) in
    let all = below_count frames in
    omega arith

active_term : (touchers charge : ℕ) → cond (touchers == 0) 0 charge ≤ charge
active_term touchers charge = grind (arith, nat_tests)

pub active_few : (number : ℕ → ℕ) (m : Marked) (frames k : ℕ) → active_in number m.pages m.marks frames k ≤ charged_in number m.pages frames k
active_few number m frames k = below_le frames (λ f. activity_in number m k f) (λ f. charge_in number m.pages k f) (λ f less. active_term (touchers_in m.pages m.marks f) (charge_in number m.pages k f))

-- what one frame counts is within the count
pub charged_some : (number : ℕ → ℕ) (pages : List (List Page)) (frames k f : ℕ) → f < frames → charge_in number pages k f ≤ charged_in number pages frames k
charged_some number pages frames k f less = below_at_most frames f (λ g. charge_in number pages k g) less

pub active_some : (number : ℕ → ℕ) (m : Marked) (frames k f : ℕ) → f < frames → activity_in number m k f ≤ active_in number m.pages m.marks frames k
active_some number m frames k f less = below_at_most frames f (λ g. activity_in number m k g) less
