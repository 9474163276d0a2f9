-- Turns of one instance, one after the other.
use Rattle.std.specs.Prelude.{◌≡◌, ◌⊎◌, ℕ, suc, ◌+◌, ◌≤◌, List, [], ◌∷◌, ◌++◌, map}
use Rattle.wh_space_model.specs.declared.plain.InstId.{InstId}
use Rattle.wh_host_model.specs.declared.plain.TurnEnd.{TurnEnd}
use Rattle.wh_host_model.specs.declared.plain.TurnEnd.TheVariants.{Again}
use Rattle.wh_host_model.specs.Host.Happens.{IsLive, IsTurn, NoInstance}
use Rattle.wh_host_model.specs.Host.Worlds.{Tenant, World, journal}
use Rattle.wh_host_model.specs.Owners.{Entry}

-- the charges of each of these calls
abbrev pub charges_each : List Entry → List ℕ
charges_each es = map (λ e. e.call.charges) es

-- The present call of the instance has taken n charges more, and no other call any: those that had ended are as they were. Where
-- it has none, no charge was taken, and its journal is as it was.
pub record Spends (n : ℕ) (t t2 : Tenant) : Type 0 where
  pub idle : t.open_calls ≡ [] → (n ≡ 0) × (journal t2 ≡ journal t)
  pub present : (e : Entry) (es : List Entry) → t.open_calls ≡ e ∷ es
      → (e2 : Entry) × (es2 : List Entry) × (journal t2 ≡ t.ended ++ e2 ∷ es2) × (e2.call.charges ≡ e.call.charges + n)
      × (charges_each es2 ≡ charges_each es)

-- from the one host to the other; where there is no such instance no charge was taken
abbrev pub HasSpent : World → InstId → ℕ → World → Type 0
HasSpent w id n w2 =
    (NoInstance w id → n ≡ 0) × ((t t2 : Tenant) → IsLive w id t → IsLive w2 id t2 → Spends n t t2)

-- a turn of the whole q charges; or it was cut short after `few`, and its call can go on
abbrev pub IsWholeOrCut : (q few charges : ℕ) → TurnEnd → Type 0
IsWholeOrCut q few charges end = (few ≡ q) ⊎ ((few ≤ q) × (charges ≡ few) × (end ≡ Again))

-- Consecutive turns of this instance, which took `charges` charges in all: each but the last took its whole q charges, and its
-- call could go on after it; and the last was answered so.
pub data SeriesOf (q : ℕ) (id : InstId) : World → (turns charges : ℕ) → TurnEnd → World → Type 0 where
  last_turn : {w w2 : World} {few n : ℕ} {end : TurnEnd}
      → IsWholeOrCut q few n end → n ≤ few → IsTurn w id few end w2 → HasSpent w id n w2 → SeriesOf q id w 1 n end w2
  turn_before : {w mid w2 : World} {turns more : ℕ} {end : TurnEnd}
      → IsTurn w id q Again mid → HasSpent w id q mid → SeriesOf q id mid turns more end w2
      → SeriesOf q id w (suc turns) (q + more) end w2
