-- What the steps of the instance at one place may leave of all else.
use Rattle.std.specs.Prelude.{ℕ, min, ◌≡◌, ◌≢◌, List, Option, None, length, get_or, refl}
use Rattle.std.proofs.Common.{◌∙◌, ap, subst}
use Rattle.wh_space_model.specs.Errands.{pass_of}
use Rattle.wh_space_model.specs.Parts.{Occupant, Space, claim_of, kept_by, pinned_by, view}
use Rattle.wh_space_model.specs.Sound.{IsSound}
use Rattle.wh_space.specs.InstanceSteps.{TakesSteps, takes_none, steps_join}
use Rattle.wh_space.specs.Steps.{limit_by, page_limit}

-- What the others see stays, with who has a place, what it is blocked on and was promised, and what is pinned and kept for
-- others. No ticket comes or goes, and slots hold what they held. What was sound is sound. It comes of the steps of this instance
-- alone.
pub record KeepsRest (i : ℕ) (s s2 : Space) : Type 0 where
  pub views : (j : ℕ) → j ≢ i → view s2 j ≡ view s j
  pub occupants : s2.occupants ≡ s.occupants
  pub pass : pass_of s2 ≡ pass_of s
  pub pinned : (j : ℕ) → pinned_by s2.pins j ≡ pinned_by s.pins j
  pub kept : (j : ℕ) → j ≢ i → kept_by s2.pins j ≡ kept_by s.pins j
  pub frames : length s2.pool.frames ≡ length s.pool.frames
  pub tax : s2.tax ≡ s.tax
  pub sound : IsSound s → IsSound s2
  pub steps : TakesSteps i s s2

-- nothing is done, or one thing after the other: laws that views have
pub keeps_all : (i : ℕ) (s : Space) → KeepsRest i s s
keeps_all i s = record {
  views = λ j other. refl;
  occupants = refl;
  pass = refl;
  pinned = λ j. refl;
  kept = λ j other. refl;
  frames = refl;
  tax = refl;
  sound = λ sound. sound;
  steps = takes_none;
}

pub keeps_on : (i j : ℕ) (a b c : Space) → j ≡ i → KeepsRest i a b → KeepsRest j b c → KeepsRest i a c
keeps_on i j a b c same first second = record {
  views = λ k other. second.views k (λ e. other (e ∙ same)) ∙ first.views k other;
  occupants = second.occupants ∙ first.occupants;
  pass = second.pass ∙ first.pass;
  pinned = λ k. second.pinned k ∙ first.pinned k;
  kept = λ k other. second.kept k (λ e. other (e ∙ same)) ∙ first.kept k other;
  frames = second.frames ∙ first.frames;
  tax = second.tax ∙ first.tax;
  sound = λ sound. second.sound (first.sound sound);
  steps = steps_join first.steps (subst (λ k. TakesSteps k b c) same second.steps);
}

pub keeps_page_limit : (i j : ℕ) (a b : Space) → j ≡ i → KeepsRest i a b → page_limit b j ≡ page_limit a i
keeps_page_limit i j a b same keeps =
    ap (page_limit b) same
    ∙ ap (λ (z : List (Option Occupant)). limit_by (claim_of (get_or z i None))) keeps.occupants

-- and the lesser of it and another limit
pub keeps_least : {m n j k : ℕ} → n ≡ m → k ≡ j → min n k ≡ min m j
keeps_least {m} {n} {j} {k} same also = ap (λ i. min i k) same ∙ ap (min m) also
