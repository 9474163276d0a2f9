-- Frames that are earmarked, and pins that end.
use Rattle.std.proofs.Common.{◌≡◌, ℕ, ◌+◌, ◌<◌, ◌≤◌, ◌++◌, ◌==◌, inl, inr, cond, Bool, true, false, List, [], ◌∷◌, Option, Some, None, length, slice_set, refl, sym, ◌∙◌, ap, arith, length-append, rules}
use Rattle.std.proofs.lemmas.Bool.{cases_lt}
use Rattle.std.proofs.lemmas.List.{append-nil}
use Rattle.wh_space_model.specs.{IsTaken, Pool, one_if, tally, TakesFrame, Earmarks, has_pins, pinned, residents, unpinned_of, Pins, Space, kept, kept_by, pinned_by, may_take, pages_of_need, FramesAreSound}
use Rattle.wh_space_model.specs.declared.states.Mark.{Mark}
use Rattle.wh_model.specs.declared.memory.Need.{Need}
use Rattle.wh_space_model.proofs.Tally.{one_same, tally-append}
use Rattle.wh_space_model.proofs.Putting.{cond_here}
use Rattle.wh_space.specs.declared.pins.Few.{Few}
use Rattle.wh_space.specs.declared.pins.Few.TheVariants.{Zero}
use Rattle.wh_space.specs.declared.pins.Pinned.{Pinned}
use Rattle.wh_space.specs.Pinning.{FrameGoes, TakesEarmark, numbers_in, pins_of}

-- ---- one that is taken

pub earmark_goes : (pins : Option Pinned) (p : Pinned) (i g : ℕ) (rest : List ℕ) → pins ≡ Some p → p.place ≡ i → numbers_in p.frames ≡ rest ++ g ∷ []
    → TakesEarmark i g (pins_of pins) (Some (record { place = p.place; pages = numbers_in p.pages; frames = rest }))
earmark_goes pins p i g rest is place frames =
    let kept : kept_by (pins_of pins) i ≡ rest ++ g ∷ [] = rw (is, place) (cond_here i (numbers_in p.frames) [] ∙ frames) in
    let pages : pinned_by (pins_of pins) i ≡ numbers_in p.pages = rw (is, place) (cond_here i (numbers_in p.pages) []) in
    (rest, kept, rw (place, pages) refl)

pub kept_within : (pins : Option Pins) (i f : ℕ) → tally (one_if f) (kept_by pins i) ≤ tally (one_if f) (kept pins)
kept_within None i f = omega arith
kept_within (Some pins) i f = go (pins.place == i) where
  go : (b : Bool) → tally (one_if f) (cond b pins.frames []) ≤ tally (one_if f) pins.frames
  go true = omega arith
  go false = omega arith

-- a frame that is earmarked is there, and isn't free
pub kept_taken : (s : Space) (f : ℕ) → FramesAreSound s → 1 ≤ tally (one_if f) (kept s.pins) → IsTaken s.pool f
kept_taken s f sound some =
    elim (cases_lt f (length s.pool.frames)) [
      | inl less ↦ (let one = sound.one f less in (less, omega arith))
      | inr past ↦ absurd (let none = sound.none f past in omega arith)
    ]

last_there : (xs rest : List ℕ) (g : ℕ) → xs ≡ rest ++ g ∷ [] → 1 ≤ tally (one_if g) xs
last_there xs rest g is = rw is (let a = tally-append (one_if g) rest (g ∷ []) in let o = one_same g g refl in omega arith)

pub goes_some : (s : Space) (i g : ℕ) (pool : Pool) (pins : Option Pins) → FrameGoes i g s.pool s.pins pool pins → 1 ≤ may_take s i
goes_some s i g pool pins (inl (takes, same)) = let e = ap length takes.free in let k = length-append pool.free (g ∷ []) in omega arith
goes_some s i g pool pins (inr (same, (rest, kept, now))) = let e = ap length kept in let k = length-append rest (g ∷ []) in omega arith

pub goes_taken : (s : Space) (i g : ℕ) (pool : Pool) (pins : Option Pins) → FramesAreSound s → FrameGoes i g s.pool s.pins pool pins → IsTaken pool g
goes_taken s i g pool pins sound (inl (takes, same)) =
    let some = last_there s.pool.free pool.free g takes.free in
    let a : tally (one_if g) s.pool.free ≡ tally (one_if g) pool.free + (one_if g g + 0) = rw takes.free (tally-append (one_if g) pool.free (g ∷ [])) in
    let o = one_same g g refl in
    elim (cases_lt g (length s.pool.frames)) [
      | inl less ↦ (let one = sound.one g less in (rw takes.frames less, omega arith))
      | inr past ↦ absurd (let none = sound.none g past in omega arith)
    ]
goes_taken s i g pool pins sound (inr (same, (rest, kept, now))) =
    let some = last_there (kept_by s.pins i) rest g kept in
    let within = kept_within s.pins i g in
    rw same (kept_taken s g sound (omega arith))

pub goes_other : (s : Space) (i g f : ℕ) (pool : Pool) (pins : Option Pins) → IsTaken s.pool f → FrameGoes i g s.pool s.pins pool pins → IsTaken pool f
goes_other s i g f pool pins taken (inl (takes, same)) =
    let a : tally (one_if f) s.pool.free ≡ tally (one_if f) pool.free + (one_if f g + 0) = rw takes.free (tally-append (one_if f) pool.free (g ∷ [])) in
    let z = taken.1 in
    (rw takes.frames taken.0, omega arith)
goes_other s i g f pool pins taken (inr (same, rest)) = rw same taken

pub goes_frames : (i g : ℕ) (old : Pool) (was : Option Pins) (pool : Pool) (pins : Option Pins) → FrameGoes i g old was pool pins → pool.frames ≡ old.frames
goes_frames i g old was pool pins (inl (takes, same)) = takes.frames
goes_frames i g old was pool pins (inr (same, rest)) = ap (λ (p : Pool). p.frames) same

-- it has these bytes then
pub takes_frame : (s : Space) (i g : ℕ) (bytes : List ℕ) (marks : List Mark) (taken pool : Pool) (pins : Option Pins) → FrameGoes i g s.pool s.pins taken pins
    → pool ≡ record taken { frames = slice_set taken.frames g bytes } → TakesFrame (record s { marks = marks }) i g bytes (record s { pool = pool; marks = marks; pins = pins })
takes_frame s i g bytes marks taken pool pins (inl (takes, same)) is =
    let now : pool ≡ record { frames = slice_set s.pool.frames g bytes; free = taken.free } = search (rules, ℕ) in
    inl (taken.free, (taken.free, [], takes.free, sym (append-nil taken.free)), rw (now, same) refl)
takes_frame s i g bytes marks taken pool pins (inr (same, (rest, kept, now))) is =
    let here : pool ≡ record s.pool { frames = slice_set s.pool.frames g bytes } = is ∙ ap (λ (z : Pool). record z { frames = slice_set z.frames g bytes }) same in
    inr (rest, (rest, [], kept, sym (append-nil rest)), rw (here, now) refl)

-- ---- pins that end

-- what is asked of the frames
pub record MayEnd (s : Space) (i : ℕ) : Type 0 where
  pub once : (f : ℕ) → tally (one_if f) s.pool.free + tally (one_if f) (kept_by s.pins i) ≤ 1
  pub there : (f : ℕ) → 1 ≤ tally (one_if f) (kept_by s.pins i) → f < length s.pool.frames

pub may_end : (s : Space) (i : ℕ) → FramesAreSound s → MayEnd s i
may_end s i sound = record {
  once = search (rules, cases_lt, kept_within);
  there = λ f some. (let k = kept_within s.pins i f in (kept_taken s f sound (omega arith)).0);
}

pub record MayEndAll (s : Space) : Type 0 where
  pub once : (f : ℕ) → tally (one_if f) s.pool.free + tally (one_if f) (kept s.pins) ≤ 1
  pub there : (f : ℕ) → 1 ≤ tally (one_if f) (kept s.pins) → f < length s.pool.frames

pub may_end_all : (s : Space) → FramesAreSound s → MayEndAll s
may_end_all s sound = record {
  once = search (rules, cases_lt);
  there = λ f some. (kept_taken s f sound some).0;
}

-- what is left is as the definition has it
pub ends_pins : (s : Space) (i : ℕ) (pool : Pool) (pins : Option Pins) → pins ≡ cond (has_pins s.pins i) None s.pins → pool ≡ record s.pool { free = s.pool.free ++ kept_by s.pins i }
    → record s { pool = pool; pins = pins } ≡ unpinned_of s i
ends_pins s i pool pins now free = rw (now, free) (go s.pins) where
  by : (p : Pins) (b : Bool) → record s { pool = record s.pool { free = s.pool.free ++ cond b p.frames [] }; pins = cond b None (Some p) }
      ≡ cond b (record s { pins = None; pool = record s.pool { free = s.pool.free ++ p.frames } }) (record s { pins = Some p })
  by p true = refl
  by p false = rw (append-nil s.pool.free) refl

  go : (o : Option Pins) → record s { pool = record s.pool { free = s.pool.free ++ kept_by o i }; pins = cond (has_pins o i) None o } ≡ unpinned_of (record s { pins = o }) i
  go None = rw (append-nil s.pool.free) refl
  go (Some p) = by p (p.place == i)

-- ---- frames that are earmarked now

pub earmarks : (s : Space) (i n : ℕ) (pool : Pool) (pages frames : Few) → kept s.pins ≡ [] → numbers_in pages ≡ pinned_by s.pins i → length (numbers_in frames) ≡ n → pool.frames ≡ s.pool.frames
    → s.pool.free ≡ pool.free ++ numbers_in frames → Earmarks s i n (record s { pool = pool; pins = pins_of (Some (record { place = i; pages = pages; frames = frames })) })
earmarks s i n pool pages frames none pinned many bytes free =
    let now : pool ≡ record s.pool { free = pool.free } = ap (λ (z : List (List ℕ)). record { frames = z; free = pool.free }) bytes in
    record {
      frames = numbers_in frames;
      others = pool.free;
      many = many;
      free = free;
      leaves = rw (none, pinned) (ap (λ (p : Pool). record s { pool = p; pins = Some (record { place = i; pages = pinned_by s.pins i; frames = numbers_in frames }) }) now);
    }

-- pages that are pinned now, and no frames
pub pins_now : (s : Space) (i : ℕ) (need : Need) (pool : Pool) (pages : Few) → numbers_in pages ≡ residents s i (pages_of_need need) → pool ≡ record s.pool { free = s.pool.free ++ kept s.pins }
    → record s { pool = pool; pins = pins_of (Some (record { place = i; pages = pages; frames = Zero })) } ≡ pinned s i need
pins_now s i need pool pages are free = rw (are, free) refl
