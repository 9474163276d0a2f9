-- The chains stay chains when a frame comes and when one goes.
use Rattle.std.proofs.Common.{◌≡◌, ◌⊎◌, ℕ, ◌+◌, ◌<◌, ◌≤◌, ◌%◌, List, Option, Some, length, slice_get, slice_set, slice_index, refl, sym, ◌∙◌, ap, inl, inr, subst, arith}
use Rattle.std.proofs.lemmas.Bool.{cases_eq, cases_lt, cases_order}
use Rattle.std.proofs.lemmas.List.{get_or-set_same, get_or-set_other, length-set}
use Rattle.std.proofs.lemmas.Option.{slice_get_past}
use Rattle.wh_space_model.specs.declared.states.Mark.{Mark}
use Rattle.wh_space_model.specs.declared.states.Mark.TheVariants.{Plain}
use Rattle.wh_space_model.specs.{HasHash}
use Rattle.wh_space_model.proofs.Putting.{set_same, set_other}
use Rattle.wh_content.specs.Chains.{IsOfBucket, IsIn, IsPlace, IsFalling, LeadsOn, AreChains}
use Rattle.wh_content.proofs.Entries.{at_put, one_hash}

-- a mark is of one bucket
one_bucket : (n b c : ℕ) (mark : Option Mark) → IsOfBucket n b mark → IsOfBucket n c mark → b ≡ c
one_bucket n b c mark of also =
    sym of.2 ∙ ap (λ h. h % n) (one_hash mark of.0 also.0 of.1 also.1) ∙ also.2

-- the link at p after one was put at i
link_put : (links : List ℕ) (i p link : ℕ) → i < length links
    → ((p ≡ i) × (slice_index (slice_set links i link) p ≡ link))
    ⊎ ((p ≡ i → ⊥) × (slice_index (slice_set links i link) p ≡ slice_index links p))
link_put links i p link within =
    let now = slice_set links i link in
    elim (cases_eq p i) [
      | inl same ↦ inl (same, ap (slice_index now) same ∙ get_or-set_same links i link 0 within)
      | inr other ↦ inr (other, get_or-set_other links i p link 0 other)
    ]

leads_as : (n b p q k l : ℕ) (marks : List Mark) → p ≡ q → k ≡ l → LeadsOn n marks b q l → LeadsOn n marks b p k
leads_as n b p q k l marks place link leads = rw (place, link) leads

-- What holds of places. There are n frames and n buckets.
module _ (n : ℕ) (marks : List Mark) (many : length marks ≡ n) where
  pub in_range : (b f : ℕ) → IsIn n marks b f → f < n
  in_range b f is =
      elim (cases_lt f n) [
        | inl less ↦ less
        | inr past ↦ absurd (subst (λ m. HasHash m is.0) (slice_get_past marks f (omega arith)) is.1)
      ]

  -- a place is of one bucket
  place_of_one : (b c p : ℕ) → IsPlace n marks b p → IsPlace n marks c p → b ≡ c
  place_of_one b c p (inl is) (inl also) = one_bucket n b c (slice_get marks p) is also
  place_of_one b c p (inl is) (inr also) = let k = in_range b p is in absurd (omega arith)
  place_of_one b c p (inr is) (inl also) = let k = in_range c p also in absurd (omega arith)
  place_of_one b c p (inr is) (inr also) = omega arith

  -- of a bucket only one place is behind f and leads on to f or below
  none_between : (b p q link : ℕ) → IsPlace n marks b p → IsPlace n marks b q → p < q → link ≤ p
      → ¬ LeadsOn n marks b q link
  none_between b p q link (inl is) at less below leads = leads.nearest p below less is
  none_between b p q link (inr is) (inl at) less below leads = let k = in_range b q at in absurd (omega arith)
  none_between b p q link (inr is) (inr at) less below leads = absurd (omega arith)

  one_behind : (b f p q k l : ℕ) → IsPlace n marks b p → IsPlace n marks b q → f < p → f < q → k ≤ f + 1 → l ≤ f + 1
      → LeadsOn n marks b p k → LeadsOn n marks b q l → p ≡ q
  one_behind b f p q k l is at first second low below leads also =
      elim (cases_order p q) [
        | inl same ↦ same
        | inr (inl less) ↦ absurd (none_between b p q l is at less (omega arith) also)
        | inr (inr more) ↦ absurd (none_between b q p k at is more (omega arith) leads)
      ]

-- What the link from place p of bucket b says.
module _ (n : ℕ) (marks : List Mark) (links : List ℕ) (chains : AreChains n marks links) (b p : ℕ) (below : b < n)
    (at : IsPlace n marks b p) where
  -- where it leads there is a frame of the bucket
  pub led_on : (f : ℕ) → slice_index links p ≡ f + 1 → IsIn n marks b f
  led_on = (chains.each b p below at).there

  -- it leads to a frame before f where it leads no further than f, which has no entry
  pub leads_before : (f : ℕ) → slice_get marks f ≡ Some Plain → slice_index links p ≤ f + 1 → slice_index links p ≤ f
  leads_before f plain low =
      elim (cases_eq (slice_index links p) (f + 1)) [
        | inl to ↦ (let is = led_on f to in absurd (subst (λ m. HasHash m is.0) plain is.1))
        | inr other ↦ omega arith
      ]

  -- where no frame from the place on has a hash of the bucket, none has it from the link on
  pub none_from : (link hash : ℕ) → hash % n ≡ b → slice_index links p ≡ link
      → ((f : ℕ) → p ≤ f → ¬ HasHash (slice_get marks f) hash) → (f : ℕ) → link ≤ f → ¬ HasHash (slice_get marks f) hash
  none_from link hash falls leads none f low has =
      elim (cases_lt f p) [
        | inl less ↦ (chains.each b p below at).nearest f (omega arith) less (hash, has, falls)
        | inr past ↦ none f past has
      ]

-- What a link says once frame f has another mark.
module _ (n f : ℕ) (marks : List Mark) (mark : Mark) (within : f < length marks) where
  still_in : (b g : ℕ) → (g ≡ f → ⊥) → IsIn n marks b g → IsIn n (slice_set marks f mark) b g
  still_in b g other = subst (IsOfBucket n b) (sym (set_other marks f g mark other))

  was_in : (b g : ℕ) → (g ≡ f → ⊥) → IsIn n (slice_set marks f mark) b g → IsIn n marks b g
  was_in b g other = subst (IsOfBucket n b) (set_other marks f g mark other)

  now_in : (b : ℕ) → IsOfBucket n b (Some mark) → IsIn n (slice_set marks f mark) b f
  now_in b = subst (IsOfBucket n b) (sym (set_same marks f mark within))

  was_place : (b p : ℕ) → (p ≡ f → ⊥) → IsPlace n (slice_set marks f mark) b p → IsPlace n marks b p
  was_place b p other (inl is) = inl (was_in b p other is)
  was_place b p other (inr head) = inr head

  is_place : (b : ℕ) → f < n → IsPlace n (slice_set marks f mark) b f → IsOfBucket n b (Some mark)
  is_place b there (inl is) = subst (IsOfBucket n b) (set_same marks f mark within) is
  is_place b there (inr head) = absurd (omega arith)

  -- a link past f, which neither comes between nor was led to
  leads_past : (b p link : ℕ) → LeadsOn n marks b p link → (link ≤ f → f < p → ¬ IsOfBucket n b (Some mark))
      → (link ≡ f + 1 → ⊥) → LeadsOn n (slice_set marks f mark) b p link
  leads_past b p link leads between to = record {
    there = λ g e. still_in b g (λ same. to (e ∙ ap (λ k. k + 1) same)) (leads.there g e);
    nearest = λ g low high is. elim (at_put (IsOfBucket n b) marks f g mark within is) [
      | inl here ↦ between (omega (arith, here.0)) (omega (arith, here.0)) here.1
      | inr other ↦ leads.nearest g low high other.1
    ];
  }

  -- f comes after a: the links to it and from it
  leads_to_it : (b a link : ℕ) → IsOfBucket n b (Some mark) → LeadsOn n marks b a link → link ≤ f
      → LeadsOn n (slice_set marks f mark) b a (f + 1)
  leads_to_it b a link of leads low = record {
    there = λ g e. let same : f ≡ g = omega arith in subst (IsIn n (slice_set marks f mark) b) same (now_in b of);
    nearest = λ g above high is. leads.nearest g (omega arith) high (was_in b g (λ same. omega arith) is);
  }

  leads_from_it : (b a link : ℕ) → LeadsOn n marks b a link → link ≤ f → f < a
      → LeadsOn n (slice_set marks f mark) b f link
  leads_from_it b a link leads low behind = record {
    there = λ g e. still_in b g (λ same. omega arith) (leads.there g e);
    nearest = λ g above high is. leads.nearest g above (omega arith) (was_in b g (λ same. omega arith) is);
  }

  -- f goes, and the link to it leads where the one from it led
  leads_over_it : (b a link rest : ℕ) → ¬ IsOfBucket n b (Some mark) → LeadsOn n marks b a link → link ≤ f + 1
      → LeadsOn n marks b f rest → rest ≤ f → LeadsOn n (slice_set marks f mark) b a rest
  leads_over_it b a link rest none leads low from below = record {
    there = λ g e. still_in b g (λ same. omega arith) (from.there g e);
    nearest = λ g above high is. elim (at_put (IsOfBucket n b) marks f g mark within is) [
      | inl here ↦ none here.1
      | inr other ↦ elim (cases_order g f) [
        | inl same ↦ absurd (other.0 same)
        | inr (inl less) ↦ from.nearest g above less other.1
        | inr (inr more) ↦ leads.nearest g (omega arith) high other.1
      ]
    ];
  }

-- Frame f, which had no entry, comes after place a of its bucket.
module _ (n b a f : ℕ) (marks : List Mark) (links : List ℕ) (mark : Mark) (many : length marks ≡ n) (there : f < n)
    (below : b < n) (chains : AreChains n marks links) (plain : slice_get marks f ≡ Some Plain)
    (of : IsOfBucket n b (Some mark)) (at : IsPlace n marks b a) (behind : f < a) (within : a < length links)
    (low : slice_index links a ≤ f) where
  no_bucket : (c : ℕ) → ¬ IsIn n marks c f
  no_bucket c is = subst (λ m. HasHash m is.0) plain is.1

  -- the links of its bucket, and those of another one
  in_chain : (p : ℕ) → IsPlace n (slice_set marks f mark) b p
      → LeadsOn n (slice_set marks f mark) b p
      (slice_index (slice_set (slice_set links f (slice_index links a)) a (f + 1)) p)
  in_chain p is =
      let fits : f < length marks = omega arith in
      let first = chains.each b a below at in
      elim (link_put (slice_set links f (slice_index links a)) a p (f + 1) (simp length-set within)) [
        | inl here ↦ leads_as n b p a _ _ _ here.0 here.1 (leads_to_it n f marks mark fits b a _ of first low)
        | inr past ↦ elim (link_put links f p (slice_index links a) (omega arith)) [
          | inl here ↦
              leads_as n b p f _ _ _ here.0 (past.1 ∙ here.1) (leads_from_it n f marks mark fits b a _ first low behind)
          | inr other ↦
              (let old_place = was_place n f marks mark fits b p other.0 is in
              let old = chains.each b p below old_place in
              leads_as n b p p _ _ _ refl (past.1 ∙ other.1) (leads_past n f marks mark fits b p _ old
              (λ short far also. past.0 (one_behind n marks many b f p a (slice_index links p) (slice_index links a)
              old_place at far behind (omega arith) (omega arith) old first))
              (λ to. no_bucket b (old.there f to))))
        ]
      ]

  elsewhere : (c p : ℕ) → (c ≡ b → ⊥) → c < n → IsPlace n (slice_set marks f mark) c p
      → LeadsOn n (slice_set marks f mark) c p
      (slice_index (slice_set (slice_set links f (slice_index links a)) a (f + 1)) p)
  elsewhere c p other less is =
      let fits : f < length marks = omega arith in
      let not_f : p ≡ f → ⊥ = λ same. let here = subst (IsPlace n (slice_set marks f mark) c) same is in
      other (one_bucket n c b (Some mark) (is_place n f marks mark fits c there here) of) in
      let old_place = was_place n f marks mark fits c p not_f is in
      let at_a : p ≡ a → IsPlace n marks c a = λ same. subst (IsPlace n marks c) same old_place in
      let not_a : p ≡ a → ⊥ = λ same. other (place_of_one n marks many c b a (at_a same) at) in
      let old = chains.each c p less old_place in
      leads_as n c p p _ _ _ refl
      (get_or-set_other (slice_set links f (slice_index links a)) a p (f + 1) 0 not_a
      ∙ get_or-set_other links f p (slice_index links a) 0 not_f)
      (leads_past n f marks mark fits c p _ old (λ short far also. other (one_bucket n c b (Some mark) also of))
      (λ to. no_bucket c (old.there f to)))

  pub inserted : AreChains n (slice_set marks f mark) (slice_set (slice_set links f (slice_index links a)) a (f + 1))
  inserted =
      let now = slice_set (slice_set links f (slice_index links a)) a (f + 1) in
      let leads : ℕ → ℕ → Type 0 = λ c p. IsPlace n (slice_set marks f mark) c p
      → LeadsOn n (slice_set marks f mark) c p (slice_index now p) in
      record {
        each = λ c p less is. elim (cases_eq c b) [
          | inl same ↦ subst (λ x. leads x p) (sym same) (in_chain p) is
          | inr other ↦ elsewhere c p other less is
        ];
      }

-- Frame f, which comes after place a of its bucket, has no entry any more.
module _ (n b a f : ℕ) (marks : List Mark) (links : List ℕ) (many : length marks ≡ n) (there : f < n) (below : b < n)
    (chains : AreChains n marks links) (of : IsIn n marks b f) (at : IsPlace n marks b a) (behind : f < a)
    (within : a < length links) (low : slice_index links a ≤ f + 1) (falls : IsFalling links) where
  was_elsewhere : (c p : ℕ) → IsPlace n (slice_set marks f Plain) c p → IsPlace n marks c p
  was_elsewhere c p is =
      let fits : f < length marks = omega arith in
      was_place n f marks Plain fits c p
      (λ same. (is_place n f marks Plain fits c there (subst (IsPlace n (slice_set marks f Plain) c) same is)).1) is

  -- the links of its bucket, and those of another one
  left_chain : (p : ℕ) → IsPlace n (slice_set marks f Plain) b p
      → LeadsOn n (slice_set marks f Plain) b p (slice_index (slice_set links a (slice_index links f)) p)
  left_chain p is =
      let fits : f < length marks = omega arith in
      let first = chains.each b a below at in
      let old_place = was_elsewhere b p is in
      let old = chains.each b p below old_place in
      elim (link_put links a p (slice_index links f) within) [
        | inl here ↦ leads_as n b p a _ _ _ here.0 here.1 (leads_over_it n f marks Plain fits b a _ _ (λ also. also.1)
            first low (chains.each b f below (inl of)) (falls f))
        | inr past ↦ leads_as n b p p _ _ _ refl past.1 (leads_past n f marks Plain fits b p _ old
            (λ short far also. also.1)
            (λ to. past.0 (one_behind n marks many b f p a (slice_index links p) (slice_index links a) old_place at
            (omega (arith, falls p)) behind (omega arith) low old first)))
      ]

  other_chain : (c p : ℕ) → (c ≡ b → ⊥) → c < n → IsPlace n (slice_set marks f Plain) c p
      → LeadsOn n (slice_set marks f Plain) c p (slice_index (slice_set links a (slice_index links f)) p)
  other_chain c p other less is =
      let fits : f < length marks = omega arith in
      let old_place = was_elsewhere c p is in
      let at_a : p ≡ a → IsPlace n marks c a = λ same. subst (IsPlace n marks c) same old_place in
      let not_a : p ≡ a → ⊥ = λ same. other (place_of_one n marks many c b a (at_a same) at) in
      let old = chains.each c p less old_place in
      leads_as n c p p _ _ _ refl (get_or-set_other links a p (slice_index links f) 0 not_a)
      (leads_past n f marks Plain fits c p _ old (λ short far also. also.1)
      (λ to. other (one_bucket n c b (slice_get marks f) (old.there f to) of)))

  pub removed : AreChains n (slice_set marks f Plain) (slice_set links a (slice_index links f))
  removed =
      let now = slice_set links a (slice_index links f) in
      let leads : ℕ → ℕ → Type 0 = λ c p. IsPlace n (slice_set marks f Plain) c p
      → LeadsOn n (slice_set marks f Plain) c p (slice_index now p) in
      record {
        each = λ c p less is. elim (cases_eq c b) [
          | inl same ↦ subst (λ x. leads x p) (sym same) (left_chain p) is
          | inr other ↦ other_chain c p other less is
        ];
      }

-- The chains are as good for a frame that has another mark, with the same hash or none.
module _ (n f : ℕ) (mark mark2 : Mark) (marks : List Mark) (links : List ℕ) (fits : f < length marks)
    (found : slice_get marks f ≡ Some mark) (down : (h : ℕ) → HasHash (Some mark2) h → HasHash (Some mark) h)
    (up : (h : ℕ) → HasHash (Some mark) h → HasHash (Some mark2) h) where
  in_before : (c g : ℕ) → IsIn n (slice_set marks f mark2) c g → IsIn n marks c g
  in_before c g is =
      elim (at_put (IsOfBucket n c) marks f g mark2 fits is) [
        | inl here ↦
            (let of : IsOfBucket n c (Some mark) = (here.1.0, down here.1.0 here.1.1, here.1.2) in
            subst (IsIn n marks c) (sym here.0) (subst (IsOfBucket n c) (sym found) of))
        | inr other ↦ other.1
      ]

  in_after : (c g : ℕ) → IsIn n marks c g → IsIn n (slice_set marks f mark2) c g
  in_after c g is =
      let now = slice_set marks f mark2 in
      elim (cases_eq g f) [
        | inl same ↦
            (let old : IsOfBucket n c (Some mark) = subst (IsOfBucket n c) found (subst (IsIn n marks c) same is) in
            let of : IsOfBucket n c (Some mark2) = (old.0, up old.0 old.1, old.2) in
            subst (IsIn n now c) (sym same) (now_in n f marks mark2 fits c of))
        | inr other ↦ still_in n f marks mark2 fits c g other is
      ]

  place_before : (c p : ℕ) → IsPlace n (slice_set marks f mark2) c p → IsPlace n marks c p
  place_before c p (inl is) = inl (in_before c p is)
  place_before c p (inr head) = inr head

  pub remarked : AreChains n marks links → AreChains n (slice_set marks f mark2) links
  remarked chains = record {
    each = λ c p less is. let old = chains.each c p less (place_before c p is) in record {
      there = λ g e. in_after c g (old.there g e);
      nearest = λ g low high now. old.nearest g low high (in_before c g now);
    };
  }
