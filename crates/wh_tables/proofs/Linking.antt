-- Links from each member to the next in order: they stay so when one comes and when one goes. With the order turned they
-- are those to the one before.
use Rattle.std.proofs.Common.{◌≡◌, ◌≢◌, ◌⊎◌, inl, inr, Option, Some, sym, ap, ◌∙◌, subst, rules}
use Rattle.wh_tables.specs.PageLinks.{LeadsToNearest}

pub record IsOrder {X : Type 0} (Before : X → X → Type 0) : Type 0 where
  pub apart : (x : X) → ¬ Before x x
  pub after : (x y z : X) → Before x y → Before y z → Before x z
  pub order : (x y : X) → (x ≡ y) ⊎ (Before x y ⊎ Before y x)

-- the last member before k, behind which k is put
pub record IsBehind {X : Type 0} (On : X → Type 0) (Before : X → X → Type 0) (at k : X) : Type 0 where
  pub on : On at
  pub before : Before at k
  pub last : (z : X) → On z → Before z k → ¬ Before at z

abbrev pub OrIs : {X : Type 0} → (X → Type 0) → X → X → Type 0
OrIs On k z = On z ⊎ (z ≡ k)

abbrev pub ButNot : {X : Type 0} → (X → Type 0) → X → X → Type 0
ButNot On k z = On z × (z ≢ k)

pub link_put : {X : Type 0} (On : X → Type 0) (Before : X → X → Type 0) (at k : X) (link link2 : X → Option X) → IsOrder Before
    → ((x : X) → On x → LeadsToNearest On Before x (link x)) → IsBehind On Before at k → ¬ On k
    → link2 at ≡ Some k → link2 k ≡ link at → ((x : X) → x ≢ at → x ≢ k → link2 x ≡ link x)
    → (x : X) → OrIs On k x → LeadsToNearest (OrIs On k) Before x (link2 x)
link_put On Before at k link link2 order leads behind new to_k from_k same x (inr is) =
    let e : link2 x ≡ link at = ap link2 is ∙ from_k in
    record {
      there = search rules;
      nearest = λ z on less. (
          elim on [
            | inr one ↦ absurd (order.apart k (subst (λ w. Before w k) is (subst (λ w. Before x w) one less)))
            | inl old ↦ search rules
          ]);
    }
link_put On Before at k link link2 order leads behind new to_k from_k same x (inl on) =
    elim (order.order x at) [
      | inl here ↦ search rules
      | inr away ↦
          (let apart : x ≢ at = elim away [ inl less ↦ (λ q. order.apart at (subst (λ w. Before w at) q less)) | inr more ↦ (λ q. order.apart at (subst (λ w. Before at w) q more)) ] in
          let e : link2 x ≡ link x = same x apart (λ q. new (subst On q on)) in
          record {
            there = λ y to. (let old = (leads x on).there y (sym e ∙ to) in (inl old.0, old.1));
            nearest = λ z member less. elim member [
              | inl old ↦ (let near = (leads x on).nearest z old less in (near.0, e ∙ near.1, near.2))
              | inr one ↦ search rules
            ];
          })
    ]

pub link_taken : {X : Type 0} (On : X → Type 0) (Before : X → X → Type 0) (at k : X) (link link2 : X → Option X) → IsOrder Before
    → ((x : X) → On x → LeadsToNearest On Before x (link x)) → On k → On at → link at ≡ Some k
    → link2 at ≡ link k → ((x : X) → x ≢ at → link2 x ≡ link x)
    → (x : X) → ButNot On k x → LeadsToNearest (ButNot On k) Before x (link2 x)
link_taken On Before at k link link2 order leads mine prior to_k from same x (on, other) =
    let step = (leads at prior).there k to_k in
    elim (order.order x at) [
      | inl here ↦
          (let e : link2 x ≡ link k = ap link2 here ∙ from in
          record {
            there = λ y to. (let old = (leads k mine).there y (sym e ∙ to) in ((old.0, λ q. order.apart k (subst (λ w. Before k w) q old.1)), subst (λ w. Before w y) (sym here) (order.after at k y step.1 old.1)));
            nearest = λ z member less. (
                let near = (leads at prior).nearest z member.0 (subst (λ w. Before w z) here less) in
                let one : k ≡ near.0 = cc in
                let behind : Before k z = elim (order.order k z) [ inl q ↦ absurd (member.1 (sym q)) | inr (inl l) ↦ l | inr (inr m) ↦ absurd (near.2 (subst (λ w. Before z w) one m)) ] in
                let next = (leads k mine).nearest z member.0 behind in
                (next.0, e ∙ next.1, next.2));
          })
      | inr away ↦ search rules
    ]
