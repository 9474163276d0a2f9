-- What is written down of an instance in memory moves nothing there.
use Rattle.std.proofs.Common.{◌≡◌, ◌≢◌, ℕ, [], get_or, rules}
use Rattle.wh_space_model.specs.{Space, claim, view}
use Rattle.wh_instance.specs.declared.stages.TurnResult.{TurnResult}
use Rattle.wh_overlay.specs.LaidBack.{LooksSame}
use Rattle.wh_space.specs.StepViews.{KeepsRest}
use Rattle.wh_host.specs.Lent.{settled_in}

-- all pages stand where they stood and have the bytes that they had, and the others are promised what they were
record Unmoved (i : ℕ) (s s2 : Space) : Type 0 where
  tables : s2.tables ≡ s.tables
  views : (j : ℕ) → view s2 j ≡ view s j
  claims : (j : ℕ) → j ≢ i → claim s2 j ≡ claim s j

-- so what was written beside the memory by another one can be written back still
pub looks_on : (i j : ℕ) (s mid s2 : Space) (made : TurnResult) → j ≢ i → get_or mid.tables j [] ≡ get_or s.tables j [] → KeepsRest i s mid → s2 ≡ settled_in mid i made → LooksSame j s s2
looks_on i j s mid s2 made other table keeps is = search rules
