-- Pages that are pinned and frames that are earmarked, of one instance.
use Rattle.std.specs.Prelude.{ℕ, ◌≡◌, ◌++◌, ◌⊎◌, List, [], ◌∷◌, Option, Some, None}
use Rattle.wh_space_model.specs.Frames.{Pool, TakesFreeFrame}
use Rattle.wh_space_model.specs.Parts.{Pins, kept_by, pinned_by}
use Rattle.wh_space.specs.declared.pins.Few.{Few}
use Rattle.wh_space.specs.declared.pins.Few.TheVariants.{Zero, One, Two}
use Rattle.wh_space.specs.declared.pins.Pinned.{Pinned}

abbrev pub numbers_in : Few → List ℕ
numbers_in Zero = []
numbers_in (One a) = a ∷ []
numbers_in (Two a b) = a ∷ b ∷ []

abbrev pub pins_of : Option Pinned → Option Pins
pins_of None = None
pins_of (Some p) = Some (record { place = p.place; pages = numbers_in p.pages; frames = numbers_in p.frames })

-- the last frame that was earmarked for the instance at place i is taken
abbrev pub TakesEarmark : ℕ → ℕ → Option Pins → Option Pins → Type 0
TakesEarmark i g pins pins2 =
    (rest : List ℕ) × (kept_by pins i ≡ rest ++ g ∷ [])
    × (pins2 ≡ Some (record { place = i; pages = pinned_by pins i; frames = rest }))

-- a frame is taken for it: a free one, or the last one that was earmarked
abbrev pub FrameGoes : ℕ → ℕ → Pool → Option Pins → Pool → Option Pins → Type 0
FrameGoes i g pool pins pool2 pins2 =
    (TakesFreeFrame pool g pool2 × (pins2 ≡ pins)) ⊎ ((pool2 ≡ pool) × TakesEarmark i g pins pins2)
