-- What one instance alone does to the memory of all: it loads, stores and grows.
use Rattle.std.specs.Prelude.{ℕ, List}
use Rattle.wh_space_model.specs.Parts.{Space}
use Rattle.wh_space_model.specs.Stores.{Grew, Overwrites, Touches}

-- The instance at place i loads, stores and grows, any number of times, one after the other. Nothing else happens.
pub data TakesSteps (i : ℕ) : Space → Space → Type 0 where
  takes_none : {s : Space} → TakesSteps i s s
  loads_first : {s mid s2 : Space} (at n : ℕ) → Touches s i at n mid → TakesSteps i mid s2 → TakesSteps i s s2
  stores_first : {s mid s2 : Space} (at : ℕ) (given : List ℕ)
      → Overwrites s i at given mid → TakesSteps i mid s2 → TakesSteps i s s2
  grows_first : {s mid s2 : Space} (n : ℕ) → Grew s i n mid → TakesSteps i mid s2 → TakesSteps i s s2

-- some steps, and then more
pub steps_join : {i : ℕ} {a b c : Space} → TakesSteps i a b → TakesSteps i b c → TakesSteps i a c
steps_join takes_none more = more
steps_join (loads_first at n is rest) more = loads_first at n is (steps_join rest more)
steps_join (stores_first at given is rest) more = stores_first at given is (steps_join rest more)
steps_join (grows_first n is rest) more = grows_first n is (steps_join rest more)
