-- What is known of checked bodies (3.4.1): each is valid, fits, and has its table.
use Rattle.std.specs.Prelude.{◌≡◌, ℕ, List, [], ◌∷◌, Some, slice_get}
use Rattle.wh_model.specs.Format.Syntax.{FuncType, Body, Module}
use Rattle.wh_model.specs.Validity.Typing.{Context}
use Rattle.wh_model.specs.Validity.Valid.{ValidBody, IsValidIn}
use Rattle.wh_model.specs.Validity.Heights.{FitsBody, FitsIn}
use Rattle.wh_bodies.specs.SideTables.{Table, table_of}

-- each body with its function's type and its table
abbrev pub Checked : Context → List ℕ → List Body → List Table → Type 0
Checked c [] bs ts = (bs ≡ []) × (ts ≡ [])
Checked c (x ∷ xs) bs ts = (b : Body) × (rest : List Body) × (f : FuncType) × (more : List Table)
    × (bs ≡ b ∷ rest) × (ts ≡ table_of c f b ∷ more) × (slice_get c.types x ≡ Some f) × ValidBody c f b × FitsBody c f b
    × Checked c xs rest more

-- the module is valid and fits in a context, and these are its bodies' tables there
pub record IsChecked (m : Module) (tables : List Table) : Type 0 where
  pub context : Context
  pub valid : IsValidIn m context
  pub fits : FitsIn m context
  pub checked : Checked context m.funcs m.bodies tables
