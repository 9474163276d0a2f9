-- Chains stay chains when a name comes and when the last one goes.
use Rattle.std.proofs.Common.{arith, ◌≡◌, ◌∙◌, ℕ, ◌+◌, ◌<◌, List, [], ◌∷◌, ◌++◌, length, take, get_or, slice_set, refl, sym, ap, inl, inr}
use Rattle.std.proofs.lemmas.Bool.{cases_eq, cases_lt}
use Rattle.std.proofs.lemmas.List.{get_or-set_same, get_or-set_other, length-set, get_or_append_left, get_or_push, length_push, get_or-take, length-take-le}
use Rattle.wh_names.specs.NameChains.{LeadsToName, AreNameChains}

leads_as : (f : ℕ → ℕ) (b c p q k l : ℕ) → b ≡ c → p ≡ q → k ≡ l → LeadsToName f c q l → LeadsToName f b p k
leads_as f b c p q k l bucket place link leads = rw (bucket, place, link) leads

-- the link to the last of n + 1 names
leads_to : (f : ℕ → ℕ) (b n : ℕ) → f n ≡ b → LeadsToName f b (n + 1) (n + 1)
leads_to f b n of = record {
  there = λ k e. let same : k ≡ n = omega arith in (omega arith, ap f same ∙ of);
  nearest = λ k low high is. absurd (omega arith);
}

-- a link past a name of another bucket, which comes or goes
leads_past : (f : ℕ → ℕ) (b n link : ℕ) → ¬ (f n ≡ b) → LeadsToName f b n link → LeadsToName f b (n + 1) link
leads_past f b n link other leads = record {
  there = λ k e. let was = leads.there k e in let less = was.0 in (omega (arith, less), was.1);
  nearest = λ k low high is. elim (cases_lt k n) [
    | inl less ↦ leads.nearest k low less is
    | inr past ↦ (let same : n ≡ k = omega arith in other (ap f same ∙ is))
  ];
}

leads_before : (f : ℕ → ℕ) (b n link : ℕ) → ¬ (f n ≡ b) → LeadsToName f b (n + 1) link → LeadsToName f b n link
leads_before f b n link other leads = record {
  there = λ k e. let was = leads.there k e in let less = was.0 in elim (cases_lt k n) [
    | inl below ↦ (below, was.1)
    | inr past ↦ (let same : n ≡ k = omega (arith, less) in absurd (other (ap f same ∙ was.1)))
  ];
  nearest = λ k low high is. leads.nearest k low (omega arith) is;
}

-- names of the same buckets
pub alike : (f g : ℕ → ℕ) (heads links : List ℕ) → ((k : ℕ) → k < length links → f k ≡ g k) → AreNameChains f heads links
    → AreNameChains g heads links
alike f g heads links same chains = record {
  from_head = λ bucket less. let old = chains.from_head bucket less in record {
    there = λ k e. let was = old.there k e in (was.0, sym (same k was.0) ∙ was.1);
    nearest = λ k low high is. old.nearest k low high (same k high ∙ is);
  };
  from_name = λ k less. let old = chains.from_name k less in record {
    there = λ j e. let was = old.there j e in let before = was.0 in
        let within : j < length links = omega (arith, before, less) in
        (was.0, sym (same j within) ∙ was.1 ∙ same k less);
    nearest = λ j low high is.
        let within : j < length links = omega (arith, high, less) in
        old.nearest j low high (same j within ∙ is ∙ sym (same k less));
  };
}

-- ---- one more

pub pushed : (f : ℕ → ℕ) (heads links : List ℕ) (b : ℕ) → b < length heads → f (length links) ≡ b → AreNameChains f heads links
    → AreNameChains f (slice_set heads b (length links + 1)) (links ++ get_or heads b 0 ∷ [])
pushed f heads links b within at chains =
    let n = length links in
    let heads2 = slice_set heads b (n + 1) in
    let links2 = links ++ get_or heads b 0 ∷ [] in
    let many : length links2 ≡ n + 1 = length_push links (get_or heads b 0) in
    record {
      from_head = λ c less. let below : c < length heads = omega (arith, less, length-set heads b (n + 1)) in
          elim (cases_eq c b) [
            | inl same ↦ leads_as f c b (length links2) (n + 1) (get_or heads2 c 0) (n + 1) same many
                (ap (λ i. get_or heads2 i 0) same ∙ get_or-set_same heads b (n + 1) 0 within) (leads_to f b n at)
            | inr other ↦ leads_as f c c (length links2) (n + 1) (get_or heads2 c 0) (get_or heads c 0) refl many
                (get_or-set_other heads b c (n + 1) 0 other)
                (leads_past f c n (get_or heads c 0) (λ is. other (sym is ∙ at)) (chains.from_head c below))
          ];
      from_name = λ k less. elim (cases_lt k n) [
        | inl below ↦ leads_as f (f k) (f k) k k (get_or links2 k 0) (get_or links k 0) refl refl
            (get_or_append_left links (get_or heads b 0 ∷ []) 0 k below) (chains.from_name k below)
        | inr past ↦
            (let same : k ≡ n = omega (arith, less, many, past) in
            leads_as f (f k) b k n (get_or links2 k 0) (get_or heads b 0) (ap f same ∙ at) same
            (get_or_push links (get_or heads b 0) 0 k (sym same)) (chains.from_head b within))
      ];
    }

-- ---- one fewer

pub popped : (f : ℕ → ℕ) (heads links : List ℕ) (b n : ℕ) → length links ≡ n + 1 → b < length heads → f n ≡ b
    → AreNameChains f heads links → AreNameChains f (slice_set heads b (get_or links n 0)) (take n links)
popped f heads links b n all within at chains =
    let heads2 = slice_set heads b (get_or links n 0) in
    let links2 = take n links in
    let many : length links2 ≡ n = length-take-le n links (omega (arith, all)) in
    let less_all : n < length links = omega (arith, all) in
    record {
      from_head = λ c less. let below : c < length heads = omega (arith, less, length-set heads b (get_or links n 0)) in
          elim (cases_eq c b) [
            | inl same ↦ leads_as f c (f n) (length links2) n (get_or heads2 c 0) (get_or links n 0) (same ∙ sym at) many
                (ap (λ i. get_or heads2 i 0) same ∙ get_or-set_same heads b (get_or links n 0) 0 within)
                (chains.from_name n less_all)
            | inr other ↦ leads_as f c c (length links2) n (get_or heads2 c 0) (get_or heads c 0) refl many
                (get_or-set_other heads b c (get_or links n 0) 0 other)
                (leads_before f c n (get_or heads c 0) (λ is. other (sym is ∙ at))
                (leads_as f c c (n + 1) (length links) (get_or heads c 0) (get_or heads c 0) refl (sym all) refl
                (chains.from_head c below)))
          ];
      from_name = λ k less. let short : k < n = omega (arith, less, many) in
          leads_as f (f k) (f k) k k (get_or links2 k 0) (get_or links k 0) refl refl (get_or-take n links k 0 short)
          (chains.from_name k (omega (arith, short, all)));
    }
