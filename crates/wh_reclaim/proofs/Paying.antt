-- How the choice of the one that pays goes on by one place.
use Rattle.std.proofs.Common.{◌≡◌, ◌≢◌, ◌∙◌, ◌⊎◌, inl, inr, ℕ, ◌+◌, ◌*◌, ◌<◌, ◌≤◌, Bool, true, false, Option, Some, None, length, refl, sym, subst, arith}
use Rattle.std.specs.Prelude.{MatchBool}
use Rattle.wh_space_model.specs.declared.Claim.{Claim}
use Rattle.wh_space_model.specs.declared.Tax.{Tax}
use Rattle.wh_space_model.specs.{active_of, charged_of, CanBeTaken, HasLess, IsEarlier, IsPayer, MayPay, NobodyPays, weight_of, Occupant, Space, occupant_at, weight}
use Rattle.wh_space_model.proofs.Putting.{there_of}
use Rattle.wh_reclaim.specs.Choosing.{IsAtPlace, IsPayerBelow, PaysBefore, PaysBelow}
use Rattle.wh_reclaim.specs.declared.choice.Payer.{Payer}
use Rattle.wh_space.specs.Claiming.{IsClaimOf, TakesNoPage}
use Rattle.wh_reclaim.proofs.ComparedFractions.{cross_lt, some_price}

-- ---- fractions by cross products

cross_le : (s1 w1 s2 w2 s3 w3 : ℕ) → s1 * w2 ≤ s2 * w1 → s2 * w3 ≤ s3 * w2 → 0 < w2 → s1 * w3 ≤ s3 * w1
cross_le s1 w1 s2 w2 s3 w3 first second some =
    let not : ¬ (s3 * w1 < s1 * w3) = λ more. (let back = cross_lt s3 w3 s1 w1 s2 w2 more first some in omega arith) in
    omega (arith, not)

cross_less : (s1 w1 s2 w2 s3 w3 : ℕ) → s1 * w2 ≤ s2 * w1 → s2 * w3 < s3 * w2 → 0 < w1 → s1 * w3 < s3 * w1
cross_less s1 w1 s2 w2 s3 w3 first second some =
    let not : ¬ (s3 * w1 ≤ s1 * w3) = λ most. (let back = cross_lt s2 w2 s3 w3 s1 w1 second most some in omega arith) in
    omega (arith, not)

-- ---- claims represent who is there

pub same_occupant : (s : Space) (i : ℕ) (t u : Occupant) → occupant_at s i t → occupant_at s i u → u ≡ t
same_occupant s i t u first second = let e = sym second ∙ first in cc

weight_same : (s : Space) (i : ℕ) (t : Occupant) (claim : Claim) → IsClaimOf s i t claim → weight s.tax claim ≡ weight_of s i
weight_same s i t claim c = rw (c.pages, c.active) refl

product : (s : Space) (x y : Payer) (a : IsAtPlace s x) (b : IsAtPlace s y) → x.claim.shares * weight s.tax y.claim ≡ a.occupant.shares * weight_of s y.place
product s x y a b = rw (a.claim.shares, weight_same s y.place b.occupant y.claim b.claim) refl

weighs : (s : Space) (i : ℕ) → MayPay s i → 0 < weight_of s i
weighs s i may =
    let over = may.0.2 in
    some_price (active_of s i) (charged_of s i) _ s.tax.den (omega arith) (omega (arith, s.tax.below_one)) (omega (arith, s.tax.below_one))

pub may_pay : (s : Space) (i : ℕ) (t : Occupant) (claim : Claim) → occupant_at s i t → IsClaimOf s i t claim → claim.min < claim.pages → (p : ℕ) × CanBeTaken s i p → MayPay s i
may_pay s i t claim there c over some = ((t, there, rw (← c.min, ← c.pages) over), some)

pub not_above : (s : Space) (i : ℕ) (t : Occupant) (claim : Claim) → occupant_at s i t → IsClaimOf s i t claim → ¬ (claim.min < claim.pages) → ¬ MayPay s i
not_above s i t claim there c unable = λ may.
    (let same : may.0.0 ≡ t = same_occupant s i t may.0.0 there may.0.1 in
    let over : t.min < charged_of s i = rw (← same) may.0.2 in
    unable (rw (c.min, c.pages) over))

pub takes_none : (s : Space) (i : ℕ) → TakesNoPage s i → ¬ MayPay s i
takes_none s i none = λ may. none may.1.0 may.1.1

pub nobody_there : (s : Space) (i : ℕ) → ((t : Occupant) → ¬ occupant_at s i t) → ¬ MayPay s i
nobody_there s i none = λ may. none may.0.0 may.0.1

has_less : (s : Space) (i j : ℕ) (t u : Occupant) → occupant_at s i t → occupant_at s j u → t.shares * weight_of s j < u.shares * weight_of s i → HasLess s i j
has_less s i j t u there here less = λ v w first second.
    (let e : v ≡ t = same_occupant s i t v there first in
    let f : w ≡ u = same_occupant s j u w here second in
    rw (e, f) less)

has_earlier : (s : Space) (i j : ℕ) (t u : Occupant) → occupant_at s i t → occupant_at s j u → t.number < u.number → IsEarlier s i j
has_earlier s i j t u there here less = λ v w first second.
    (let e : v ≡ t = same_occupant s i t v there first in
    let f : w ≡ u = same_occupant s j u w here second in
    rw (e, f) less)

-- ---- one place more

next_or : (j n : ℕ) → j < n + 1 → (j < n) ⊎ (j ≡ n)
next_or j n less = grind arith

-- who is there doesn't have to pay, or nobody is there
pub skips : (s : Space) (n : ℕ) (payer : Option Payer) → IsPayerBelow s n payer → ¬ MayPay s n → IsPayerBelow s (n + 1) payer
skips s n None none unable = λ j less may. elim (next_or j n less) [ inl below ↦ none j below may | inr same ↦ unable (subst (MayPay s) same may) ]
skips s n (Some payer) pays unable = record {
  here = pays.here;
  may_pay = pays.may_pay;
  least = λ j less may. elim (next_or j n less) [ inl below ↦ pays.least j below may | inr same ↦ absurd (unable (subst (MayPay s) same may)) ];
  first = λ j less may. elim (next_or j n less) [ inl below ↦ pays.first j below may | inr same ↦ absurd (unable (subst (MayPay s) same may)) ];
}

not_less_itself : (s : Space) (next : Payer) → IsAtPlace s next → ¬ HasLess s next.place next.place
not_less_itself s next a = λ less. (let k = less a.occupant a.occupant a.there a.there in omega arith)

not_earlier_itself : (s : Space) (next : Payer) → IsAtPlace s next → ¬ IsEarlier s next.place next.place
not_earlier_itself s next a = λ less. (let k = less a.occupant a.occupant a.there a.there in omega arith)

-- it is the first that may have to pay
pub begins : (s : Space) (n : ℕ) (next : Payer) → next.place ≡ n → IsAtPlace s next → MayPay s n → IsPayerBelow s n None → PaysBelow s (n + 1) next
begins s n next at a may none = record {
  here = a;
  may_pay = subst (MayPay s) (sym at) may;
  least = λ j less other. elim (next_or j n less) [
    | inl below ↦ absurd (none j below other)
    | inr same ↦ (λ has. not_less_itself s next a (subst (λ k. HasLess s k next.place) (same ∙ sym at) has))
  ];
  first = λ j less other. elim (next_or j n less) [
    | inl below ↦ absurd (none j below other)
    | inr same ↦ (λ early. absurd (not_earlier_itself s next a (subst (λ k. IsEarlier s k next.place) (same ∙ sym at) early)))
  ];
}

-- none so far has less than the one that pays
behind : (s : Space) (n : ℕ) (best : Payer) (pays : PaysBelow s n best) (j : ℕ) (u : Occupant) → j < n → MayPay s j → occupant_at s j u → pays.here.occupant.shares * weight_of s j ≤ u.shares * weight_of s best.place
behind s n best pays j u below may there =
    let not : ¬ (u.shares * weight_of s best.place < pays.here.occupant.shares * weight_of s j) = λ less. pays.least j below may (has_less s j best.place u pays.here.occupant there pays.here.there less) in
    omega (arith, not)

-- it pays in place of the one so far
pub takes : (s : Space) (n : ℕ) (next best : Payer) → next.place ≡ n → IsAtPlace s next → MayPay s n → PaysBelow s n best → PaysBefore s.tax next best → PaysBelow s (n + 1) next
takes s n next best at a may pays before =
    let b = pays.here in
    let mine : MayPay s next.place = subst (MayPay s) (sym at) may in
    let first = product s next best a b in
    let second = product s best next b a in
    let most : a.occupant.shares * weight_of s best.place ≤ b.occupant.shares * weight_of s next.place = elim before [ inl less ↦ omega arith | inr (same, lower) ↦ omega arith ] in
    record {
      here = a;
      may_pay = mine;
      least = λ j less other. elim (next_or j n less) [
        | inr same ↦ (λ has. not_less_itself s next a (subst (λ k. HasLess s k next.place) (same ∙ sym at) has))
        | inl below ↦
            (λ has. (let u = other.0.0 in
            let there = other.0.1 in
            let far = behind s n best pays j u below other there in
            let all = cross_le a.occupant.shares (weight_of s next.place) b.occupant.shares (weight_of s best.place) u.shares (weight_of s j) most far (weighs s best.place pays.may_pay) in
            let k = has u a.occupant there a.there in
            omega arith))
      ];
      first = λ j less other. elim (next_or j n less) [
        | inr same ↦ (λ early. absurd (not_earlier_itself s next a (subst (λ k. IsEarlier s k next.place) (same ∙ sym at) early)))
        | inl below ↦
            (λ early. (let u = other.0.0 in
            let there = other.0.1 in
            has_less s next.place j a.occupant u a.there there (elim before [
              | inl less_now ↦
                  (let far = behind s n best pays j u below other there in
                  cross_lt a.occupant.shares (weight_of s next.place) b.occupant.shares (weight_of s best.place) u.shares (weight_of s j) (omega arith) far (weighs s j other))
              | inr (same, lower) ↦
                  (let number = early u a.occupant there a.there in
                  let mine_number = a.number in
                  let best_number = b.number in
                  let sooner = has_earlier s j best.place u b.occupant there b.there (omega arith) in
                  let k = pays.first j below other sooner b.occupant u b.there there in
                  cross_less a.occupant.shares (weight_of s next.place) b.occupant.shares (weight_of s best.place) u.shares (weight_of s j) most k (weighs s next.place mine))
            ])))
      ];
    }

-- the one so far still pays
pub stays : (s : Space) (n : ℕ) (next best : Payer) → next.place ≡ n → IsAtPlace s next → PaysBelow s n best → ¬ PaysBefore s.tax next best → PaysBelow s (n + 1) best
stays s n next best at a pays behind_it =
    let b = pays.here in
    let first = product s next best a b in
    let second = product s best next b a in
    let more : ¬ (next.claim.shares * weight s.tax best.claim < best.claim.shares * weight s.tax next.claim) = λ less. behind_it (inl less) in
    record {
      here = b;
      may_pay = pays.may_pay;
      least = λ j less other. elim (next_or j n less) [
        | inl below ↦ pays.least j below other
        | inr same ↦
            (λ has. (let k = subst (λ z. HasLess s z best.place) (same ∙ sym at) has a.occupant b.occupant a.there b.there in
            more (omega arith)))
      ];
      first = λ j less other. elim (next_or j n less) [
        | inl below ↦ pays.first j below other
        | inr same ↦
            (λ early. (let k = subst (λ z. IsEarlier s z best.place) (same ∙ sym at) early a.occupant b.occupant a.there b.there in
            let mine_number = a.number in
            let best_number = b.number in
            let lower : next.number < best.number = omega arith in
            let apart : next.claim.shares * weight s.tax best.claim ≢ best.claim.shares * weight s.tax next.claim = λ e. behind_it (inr (e, lower)) in
            subst (HasLess s best.place) (at ∙ sym same) (has_less s best.place next.place b.occupant a.occupant b.there a.there (omega (arith, more, apart)))))
      ];
    }

-- ---- beside the one so far, if there is one

pub still_pays : (s : Space) (n : ℕ) (next : Payer) (payer : Option Payer) → next.place ≡ n → IsAtPlace s next → IsPayerBelow s n payer → (best : Payer) × (payer ≡ Some best) × ¬ PaysBefore s.tax next best → IsPayerBelow s (n + 1) payer
still_pays s n next None at a pays (best, is, behind_it) = absurd (let bad : None ≡ Some best = is in cc bad)
still_pays s n next (Some payer) at a pays (best, is, behind_it) =
    let same : best ≡ payer = (let e : Some payer ≡ Some best = is in cc e) in
    stays s n next payer at a pays (subst (λ b. ¬ PaysBefore s.tax next b) same behind_it)

pub pays_now : (s : Space) (n : ℕ) (next : Payer) (payer : Option Payer) → next.place ≡ n → IsAtPlace s next → MayPay s n → IsPayerBelow s n payer → ((best : Payer) → payer ≡ Some best → PaysBefore s.tax next best) → PaysBelow s (n + 1) next
pays_now s n next None at a may none before = begins s n next at a may none
pays_now s n next (Some best) at a may pays before = takes s n next best at a may pays (before best refl)

pub before_this : (tax : Tax) (first : Payer) (payer : Option Payer) (best : Payer) (told : Bool) → payer ≡ Some best → MatchBool told (PaysBefore tax first best) (¬ PaysBefore tax first best)
    → MatchBool told ((other : Payer) → payer ≡ Some other → PaysBefore tax first other) ((other : Payer) × (payer ≡ Some other) × ¬ PaysBefore tax first other)
before_this tax first payer best true is before = λ other e. (let same : best ≡ other = (let f : Some best ≡ Some other = sym is ∙ e in cc f) in subst (PaysBefore tax first) same before)
before_this tax first payer best false is behind_it = (best, is, behind_it)

-- ---- all places

within : (s : Space) (j : ℕ) → MayPay s j → j < length s.occupants
within s j may = there_of s.occupants j (Some may.0.0) may.0.1

pub all_pay : (s : Space) (payer : Payer) → PaysBelow s (length s.occupants) payer → IsPayer s payer.place
all_pay s payer pays = record {
  may_pay = pays.may_pay;
  least = λ j may. pays.least j (within s j may) may;
  first = λ j may. pays.first j (within s j may) may;
}

pub nobody_pays : (s : Space) → IsPayerBelow s (length s.occupants) None → NobodyPays s
nobody_pays s none = λ j may. none j (within s j may) may

-- from who pays a page can be taken
pub payer_gives : (s : Space) (i : ℕ) → MayPay s i → TakesNoPage s i → ⊥
payer_gives s i may none = none may.1.0 may.1.1
