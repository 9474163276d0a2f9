-- A frame that is taken, from the free ones or from those that are earmarked.
use Rattle.std.proofs.Common.{◌≡◌, ◌≢◌, ℕ, ◌+◌, ◌<◌, ◌≤◌, ◌++◌, ◌==◌, inl, inr, cond, true, false, Bool, List, [], ◌∷◌, Option, Some, None, length, slice_set, refl, sym, ap, ◌∙◌, subst, arith, length-append, rules}
use Rattle.std.proofs.lemmas.Bool.Decides.{nat_tests}
use Rattle.std.proofs.lemmas.Bool.{cases_lt}
use Rattle.wh_space_model.specs.{Pool, tally, one_if, Space, Pins, kept, kept_by, pinned_by, sharers, FramesAreSound, count, owns, may_take, TakesFrame}
use Rattle.wh_space_model.proofs.Tally.{one_same, tally-append}
use Rattle.wh_space_model.proofs.Breaking.{ArePinsOf}
use Rattle.wh_space_model.proofs.Putting.{here_or, cond_here, cond_other}

-- the memory with other frames and pins
unfoldable pub repooled : Space → Pool → Option Pins → Space
repooled s pool pins = record s { pool = pool; pins = pins }

-- what is so where frame g was taken
pub record IsLent (s : Space) (i g : ℕ) (bytes : List ℕ) (s2 : Space) : Type 0 where
  pub is : s2 ≡ repooled s s2.pool s2.pins
  pub frames : s2.pool.frames ≡ slice_set s.pool.frames g bytes
  pub sum : (h : ℕ) → (tally (one_if h) s2.pool.free + tally (one_if h) (kept s2.pins)) + one_if h g ≡ tally (one_if h) s.pool.free + tally (one_if h) (kept s.pins)
  pub free : (h : ℕ) → tally (one_if h) s2.pool.free ≤ tally (one_if h) s.pool.free
  pub pins : ArePinsOf s.pins s2.pins
  pub kept : (j : ℕ) → j ≢ i → kept_by s2.pins j ≡ kept_by s.pins j
  pub fewer : (h : ℕ) → tally (one_if h) (kept_by s2.pins i) ≤ tally (one_if h) (kept_by s.pins i)
  pub takes : may_take s2 i + 1 ≡ may_take s i

pub same_pins : (pins : Option Pins) → ArePinsOf pins pins
same_pins pins = record { pinned = λ j. refl; few = omega arith; of = λ x is. (x, is, refl) }

without : (h g : ℕ) (before behind : List ℕ) → tally (one_if h) (before ++ behind) + one_if h g ≡ tally (one_if h) (before ++ g ∷ behind)
without h g before behind = let a = tally-append (one_if h) before behind in let b = tally-append (one_if h) before (g ∷ behind) in omega arith

shorter : (g : ℕ) (before behind : List ℕ) → length (before ++ behind) + 1 ≡ length (before ++ g ∷ behind)
shorter g before behind = let a = length-append before behind in let b = length-append before (g ∷ behind) in omega arith

-- where an earmarked frame is there for one, the earmarks are its own
kept_mine : (o : Option Pins) (i g : ℕ) (a b : List ℕ) → kept_by o i ≡ a ++ g ∷ b → (kept o ≡ a ++ g ∷ b) × ((x : Pins) × (o ≡ Some x) × (x.place ≡ i))
kept_mine None i g a b e = absurd (let l = ap length e in let k = length-append a (g ∷ b) in omega arith)
kept_mine (Some x) i g a b e = go (x.place == i) refl e where
  is_place : (x.place == i) ≡ true → x.place ≡ i
  is_place test = grind (arith, nat_tests)

  go : (t : Bool) → (x.place == i) ≡ t → cond t x.frames [] ≡ a ++ g ∷ b → (x.frames ≡ a ++ g ∷ b) × ((y : Pins) × (Some x ≡ Some y) × (y.place ≡ i))
  go true test is = (is, (x, refl, is_place test))
  go false test is = absurd (let l = ap length is in let k = length-append a (g ∷ b) in omega arith)

kept_at : (x : Pins) (i : ℕ) → x.place ≡ i → kept_by (Some x) i ≡ x.frames
kept_at x i e = subst (λ z. cond (x.place == z) x.frames [] ≡ x.frames) e (cond_here x.place x.frames [])

kept_away : (x : Pins) (j : ℕ) → j ≢ x.place → kept_by (Some x) j ≡ []
kept_away x j other = cond_other x.place j x.frames [] other

pinned_away : (x : Pins) (j : ℕ) → j ≢ x.place → pinned_by (Some x) j ≡ []
pinned_away x j other = cond_other x.place j x.pages [] other

pub lent : (s : Space) (i g : ℕ) (bytes : List ℕ) (s2 : Space) → TakesFrame s i g bytes s2 → IsLent s i g bytes s2
unfolding repooled
lent s i g bytes s2 (inl (rest, (before, behind, was, now), is)) =
    subst (IsLent s i g bytes) (sym is) (record {
      is = refl;
      frames = refl;
      sum = λ h. (let k = without h g before behind in rw (was, now) (omega arith));
      free = λ h. (let k = without h g before behind in rw (was, now) (omega arith));
      pins = same_pins s.pins;
      kept = λ j other. refl;
      fewer = λ h. omega arith;
      takes = (let k = shorter g before behind in rw (was, now) (omega arith));
    })
lent s i g bytes s2 (inr (rest, (before, behind, was, now), is)) =
    let mine = kept_mine s.pins i g before behind was in
    let old : Pins = mine.1.0 in
    let new : Pins = record { place = i; pages = pinned_by s.pins i; frames = rest } in
    let others : (j : ℕ) → j ≢ i → j ≢ old.place = λ j other e. other (e ∙ mine.1.2) in
    subst (IsLent s i g bytes) (sym is) (record {
      is = refl;
      frames = refl;
      sum = λ h. (let k = without h g before behind in rw (mine.0, now) (omega arith));
      free = λ h. omega arith;
      pins = search (rules, here_or, cond_here, cond_other, pinned_away, shorter);
      kept = λ j other. cond_other i j rest [] other ∙ sym (ap (λ o. kept_by o j) mine.1.1 ∙ kept_away old j (others j other));
      fewer = λ h. (let here : kept_by (Some new) i ≡ rest = kept_at new i refl in let k = without h g before behind in rw (here, was, now) (omega arith));
      takes = (let here : kept_by (Some new) i ≡ rest = kept_at new i refl in let k = shorter g before behind in rw (here, was, now) (omega arith));
    })

-- no page was on it
pub lent_alone : (s : Space) (i g : ℕ) (bytes : List ℕ) (s2 : Space) → FramesAreSound s → IsLent s i g bytes s2 → (g < length s.pool.frames) × (count (owns g) s.tables ≡ 0) × (sharers s g ≡ 0)
lent_alone s i g bytes s2 sound lends =
    let o = one_same g g refl in
    let k = lends.sum g in
    elim (cases_lt g (length s.pool.frames)) [
      | inl within ↦ (let sum = sound.one g within in (within, omega arith, omega arith))
      | inr past ↦ (let zeros = sound.none g past in absurd (omega arith))
    ]
