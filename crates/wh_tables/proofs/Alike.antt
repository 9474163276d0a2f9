-- The index where the same pages stand on the same frames, of instances with the same numbers.
use Rattle.std.proofs.Common.{◌≡◌, ℕ, ◌<◌, ◌≤◌, ◌==◌, inl, inr, cond, nat_lt, min, List, Option, Some, None, length, slice_get, get_or, zero, suc, refl, sym, ap, ◌∙◌, subst, arith, rules}
use Rattle.std.proofs.lemmas.Bool.Decides.{nat_tests}
use Rattle.std.proofs.lemmas.Bool.{cases_lt}
use Rattle.wh_space_model.specs.declared.states.Page.{Page}
use Rattle.wh_space_model.specs.{page_at, below, active_in, before_in, charge_in, charged_in, standing_at, stands_on, touchers_in}
use Rattle.wh_tables.specs.declared.page_id.PageId.{PageId}
use Rattle.wh_tables.specs.PageLinks.{IsEarlierStop, IsStop, LeadsToNearest, Turned, stop_of}
use Rattle.wh_tables.specs.Order.{AreLinked, ComesBefore, IsLower, IsInRange, StandsOn, first_of_ends, last_of_ends, next_in, next_of_link, prior_in, prior_of_link}
use Rattle.wh_tables.specs.Index.{HaveOwnNumbers, Counted, IsIndexOf, IsMeasured, Marked, activity_in, counts_at, number_in}
use Rattle.wh_space_model.proofs.Changing.{below_each}
use Rattle.wh_tables.proofs.Charging.{row_within, someone_stands}
use Rattle.wh_tables.proofs.Walks.{leads_alike, stops_alike}

-- sums whose terms are 0 from some number on
longer : (n m : ℕ) (v : ℕ → ℕ) → n ≤ m → ((j : ℕ) → n ≤ j → v j ≡ 0) → below m v ≡ below n v
longer n zero v less none = let e : n ≡ 0 = omega arith in rw e refl
longer n (suc m) v less none =
    elim (cases_lt m n) [
      | inl most ↦ (let e : n ≡ suc m = omega arith in rw e refl)
      | inr least ↦ (let rest = longer n m v least none in let one = none m least in omega arith)
    ]

pub below_support : (n m : ℕ) (v : ℕ → ℕ) → ((j : ℕ) → n ≤ j → v j ≡ 0) → ((j : ℕ) → m ≤ j → v j ≡ 0) → below n v ≡ below m v
below_support n m v none also =
    elim (cases_lt n m) [
      | inl less ↦ sym (longer n m v (omega arith) none)
      | inr most ↦ longer m n v most also
    ]

-- what holds of pages where the numbers of their instances are the same
pub before_alike : (numbers numbers2 : List ℕ) (a b : PageId) → number_in numbers2 a.place ≡ number_in numbers a.place → number_in numbers2 b.place ≡ number_in numbers b.place → ComesBefore numbers a b → ComesBefore numbers2 a b
before_alike numbers numbers2 a b one two before =
    subst (λ (m : ℕ). IsLower m (number_in numbers2 b.place) (IsLower a.place b.place (a.page < b.page))) (sym one)
    (subst (λ (m : ℕ). IsLower (number_in numbers a.place) m (IsLower a.place b.place (a.page < b.page))) (sym two) before)

-- the same links of the same members are right in an order that is the same among members
leads_under : (On : PageId → Type 0) (Before Before2 : PageId → PageId → Type 0) (at link : Option PageId) → IsStop On at
    → ((a b : PageId) → On a → On b → Before a b → Before2 a b) → ((a b : PageId) → On a → On b → Before2 a b → Before a b)
    → LeadsToNearest (IsStop On) (IsEarlierStop Before) at (stop_of link) → LeadsToNearest (IsStop On) (IsEarlierStop Before2) at (stop_of link)
leads_under On Before Before2 at link stop to back leads = record {
  there = λ y e. (let old = leads.there y e in (old.0, forth at y stop old.0 old.1));
  nearest = λ z on less. (let near = leads.nearest z on (back_again at z stop on less) in (near.0, near.1, λ bad. near.2 (back_again z near.0 on (leads.there near.0 near.1).0 bad)));
} where
  forth : (x y : Option PageId) → IsStop On x → IsStop On y → IsEarlierStop Before x y → IsEarlierStop Before2 x y
  forth None None here there less = less
  forth None (Some y) here there less = tt
  forth (Some x) None here there less = less
  forth (Some x) (Some y) here there less = to x y here there less

  back_again : (x y : Option PageId) → IsStop On x → IsStop On y → IsEarlierStop Before2 x y → IsEarlierStop Before x y
  back_again None None here there less = less
  back_again None (Some y) here there less = tt
  back_again (Some x) None here there less = less
  back_again (Some x) (Some y) here there less = back x y here there less

-- What two indexes have in common.
pub record IsAlike (x x2 : Counted) (m m2 : Marked) : Type 0 where
  pub measured : IsMeasured x2 m2
  pub apart : HaveOwnNumbers x2.chains.numbers m2.pages
  pub ends : x2.chains.ends ≡ x.chains.ends
  pub touchers : x2.touchers ≡ x.touchers
  pub within : (f : ℕ) (id : PageId) → StandsOn m.pages f id → IsInRange x2.chains f id
  pub to : (f : ℕ) (id : PageId) → StandsOn m.pages f id → StandsOn m2.pages f id
  pub back : (f : ℕ) (id : PageId) → StandsOn m2.pages f id → StandsOn m.pages f id
  pub links : (f : ℕ) (id : PageId) → StandsOn m.pages f id → page_at x2.chains.links id.place id.page ≡ page_at x.chains.links id.place id.page
  pub numbers : (f : ℕ) (id : PageId) → StandsOn m.pages f id → number_in x2.chains.numbers id.place ≡ number_in x.chains.numbers id.place
  pub standing : (k f : ℕ) → standing_at m2.pages k f ≡ standing_at m.pages k f
  pub touched : (f : ℕ) → touchers_in m2.pages m2.marks f ≡ touchers_in m.pages m.marks f
  pub counts : (i : ℕ) → counts_at x2.counts i ≡ counts_at x.counts i

pub charge_empty : (before : ℕ) → cond (before == 0) (min 1 0) 0 ≡ 0
charge_empty before = grind (arith, nat_tests)

term_empty : (a b c : ℕ) → c ≡ 0 → cond (nat_lt a b) c 0 ≡ 0
term_empty a b c none = grind (arith, nat_tests)

pub charge_alike : (x x2 : Counted) (m m2 : Marked) → IsAlike x x2 m m2 → (k f : ℕ) → charge_in (number_in x2.chains.numbers) m2.pages k f ≡ charge_in (number_in x.chains.numbers) m.pages k f
charge_alike x x2 m m2 alike k f =
    elim (cases_lt 0 (standing_at m.pages k f)) [
      | inr most ↦ search (rules, charge_empty)
      | inl some ↦
          (let e = before k (number_of k some) in rw (alike.standing k f, e) refl)
    ] where
      number_of : (j : ℕ) → 1 ≤ standing_at m.pages j f → number_in x2.chains.numbers j ≡ number_in x.chains.numbers j
      number_of j some =
          let z = someone_stands m.pages f j some in
          subst (λ w. number_in x2.chains.numbers w ≡ number_in x.chains.numbers w) z.1 (alike.numbers f z.0 z.2)

      term : (k j : ℕ) → number_in x2.chains.numbers k ≡ number_in x.chains.numbers k
          → cond (nat_lt (number_in x2.chains.numbers j) (number_in x2.chains.numbers k)) (standing_at m2.pages j f) 0 ≡ cond (nat_lt (number_in x.chains.numbers j) (number_in x.chains.numbers k)) (standing_at m.pages j f) 0
      term k j mine =
          elim (cases_lt 0 (standing_at m.pages j f)) [
            | inr most ↦
                (let a = term_empty (number_in x2.chains.numbers j) (number_in x2.chains.numbers k) (standing_at m2.pages j f) (omega arith) in
                let b = term_empty (number_in x.chains.numbers j) (number_in x.chains.numbers k) (standing_at m.pages j f) (omega arith) in
                omega arith)
            | inl some ↦ rw (mine, number_of j some, alike.standing j f) refl
          ]

      out : (pages : List (List Page)) (n : ℕ → ℕ) (k j : ℕ) → length pages ≤ j → cond (nat_lt (n j) (n k)) (standing_at pages j f) 0 ≡ 0
      out pages n k j past = term_empty (n j) (n k) (standing_at pages j f) (elim (cases_lt 0 (standing_at pages j f)) [
        | inl some ↦ absurd (let w = row_within (stands_on f) pages j some in omega arith)
        | inr most ↦ omega arith
      ])

      before : (k : ℕ) → number_in x2.chains.numbers k ≡ number_in x.chains.numbers k → before_in (number_in x2.chains.numbers) m2.pages k f ≡ before_in (number_in x.chains.numbers) m.pages k f
      before k mine =
          let same = below_each (length m2.pages) (λ j. cond (nat_lt (number_in x.chains.numbers j) (number_in x.chains.numbers k)) (standing_at m.pages j f) 0) (λ j. cond (nat_lt (number_in x2.chains.numbers j) (number_in x2.chains.numbers k)) (standing_at m2.pages j f) 0) (λ j. term k j mine) in
          let many = below_support (length m2.pages) (length m.pages) (λ j. cond (nat_lt (number_in x.chains.numbers j) (number_in x.chains.numbers k)) (standing_at m.pages j f) 0)
          (λ j past. sym (term k j mine) ∙ out m2.pages (number_in x2.chains.numbers) k j past) (λ j past. out m.pages (number_in x.chains.numbers) k j past) in
          same ∙ many

pub index_alike : (x x2 : Counted) (m m2 : Marked) → IsIndexOf x m → IsAlike x x2 m m2 → IsIndexOf x2 m2
index_alike x x2 m m2 index alike =
    let ends = ap length alike.ends in
    record {
      order = record {
        room = λ f id on. alike.within f id (alike.back f id on);
        next = λ f at stop. way (λ n. ComesBefore n) (next_in x.chains) (next_in x2.chains) (λ a b one two. before_alike x.chains.numbers x2.chains.numbers a b one two) (λ a b one two. before_alike x2.chains.numbers x.chains.numbers a b (sym one) (sym two)) index.order.next f at (next_same f at) stop;
        prior = λ f at stop. way (λ n. Turned (ComesBefore n)) (prior_in x.chains) (prior_in x2.chains) (λ a b one two. before_alike x.chains.numbers x2.chains.numbers b a two one) (λ a b one two. before_alike x2.chains.numbers x.chains.numbers b a (sym two) (sym one)) index.order.prior f at (prior_same f at) stop;
      };
      apart = alike.apart;
      measured = alike.measured;
      counted = record {
        charged = λ i. ap (λ c. c.charged) (alike.counts i) ∙ index.counted.charged i ∙ sym (charged i) ∙ ap (λ n. charged_in (number_in x2.chains.numbers) m2.pages n i) (sym ends);
        active = λ i. ap (λ c. c.active) (alike.counts i) ∙ index.counted.active i ∙ sym (active i) ∙ ap (λ n. active_in (number_in x2.chains.numbers) m2.pages m2.marks n i) (sym ends);
        touchers = λ f frame. ap (λ z. get_or z f 0) alike.touchers ∙ index.counted.touchers f (omega arith) ∙ sym (alike.touched f);
      };
    } where
      charged : (i : ℕ) → charged_in (number_in x2.chains.numbers) m2.pages (length x.chains.ends) i ≡ charged_in (number_in x.chains.numbers) m.pages (length x.chains.ends) i
      charged i = below_each (length x.chains.ends) (λ f. charge_in (number_in x.chains.numbers) m.pages i f) (λ f. charge_in (number_in x2.chains.numbers) m2.pages i f) (λ f. charge_alike x x2 m m2 alike i f)

      active : (i : ℕ) → active_in (number_in x2.chains.numbers) m2.pages m2.marks (length x.chains.ends) i ≡ active_in (number_in x.chains.numbers) m.pages m.marks (length x.chains.ends) i
      active i = below_each (length x.chains.ends) (λ f. activity_in (number_in x.chains.numbers) m i f) (λ f. activity_in (number_in x2.chains.numbers) m2 i f) (λ f. rw (alike.touched f, charge_alike x x2 m m2 alike i f) refl)

      next_same : (f : ℕ) (at : Option PageId) → IsStop (StandsOn m.pages f) at → next_in x2.chains f at ≡ next_in x.chains f at
      next_same f None stop = ap (λ z. first_of_ends (slice_get z f)) alike.ends
      next_same f (Some id) stop = ap next_of_link (alike.links f id stop)

      prior_same : (f : ℕ) (at : Option PageId) → IsStop (StandsOn m.pages f) at → prior_in x2.chains f at ≡ prior_in x.chains f at
      prior_same f None stop = ap (λ z. last_of_ends (slice_get z f)) alike.ends
      prior_same f (Some id) stop = ap prior_of_link (alike.links f id stop)

      way : (Before : List ℕ → PageId → PageId → Type 0) (link link2 : ℕ → Option PageId → Option PageId)
          → ((a b : PageId) → number_in x2.chains.numbers a.place ≡ number_in x.chains.numbers a.place → number_in x2.chains.numbers b.place ≡ number_in x.chains.numbers b.place → Before x.chains.numbers a b → Before x2.chains.numbers a b)
          → ((a b : PageId) → number_in x2.chains.numbers a.place ≡ number_in x.chains.numbers a.place → number_in x2.chains.numbers b.place ≡ number_in x.chains.numbers b.place → Before x2.chains.numbers a b → Before x.chains.numbers a b)
          → AreLinked (Before x.chains.numbers) m.pages link → (f : ℕ) (at : Option PageId) → (IsStop (StandsOn m.pages f) at → link2 f at ≡ link f at) → IsStop (StandsOn m2.pages f) at
          → LeadsToNearest (IsStop (StandsOn m2.pages f)) (IsEarlierStop (Before x2.chains.numbers)) at (stop_of (link2 f at))
      way Before link link2 forth back linked f at same stop =
          let old = stops_alike (StandsOn m2.pages f) (StandsOn m.pages f) (alike.back f) at stop in
          let under = leads_under (StandsOn m.pages f) (Before x.chains.numbers) (Before x2.chains.numbers) at (link f at) old
          (λ a b here there. forth a b (alike.numbers f a here) (alike.numbers f b there)) (λ a b here there. back a b (alike.numbers f a here) (alike.numbers f b there)) (linked f at old) in
          leads_alike (IsStop (StandsOn m.pages f)) (IsStop (StandsOn m2.pages f)) (IsEarlierStop (Before x2.chains.numbers)) at (stop_of (link f at)) (stop_of (link2 f at))
          (stops_alike (StandsOn m.pages f) (StandsOn m2.pages f) (alike.to f)) (stops_alike (StandsOn m2.pages f) (StandsOn m.pages f) (alike.back f)) (ap stop_of (same old)) under
