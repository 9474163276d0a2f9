-- A memory and the device beside it.
use Rattle.std.specs.Prelude.{ℕ, ◌≡◌, List}
use Rattle.wh_space_model.specs.Errands.{tickets}
use Rattle.wh_space_model.specs.Parts.{Space}

-- no ticket is out, and both agree on what each slot holds
pub record AreTogether (s : Space) (held : List (List ℕ)) : Type 0 where
  pub none_out : tickets s ≡ 0
  pub agrees : s.slots.held ≡ held
