-- What the indices of imports name.
use Rattle.std.specs.Prelude.{ℕ, ◌<◌}
use Rattle.wh_syntax.specs.declared.module.Import.{Import}
use Rattle.wh_syntax.specs.declared.module.ImportDesc.{ImportDesc}
use Rattle.wh_syntax.specs.declared.module.ImportDesc.TheVariants.{Func, Global}

-- the type of a function is one of `types`
abbrev pub NamesTypeOf : ℕ → ImportDesc → Type 0
NamesTypeOf types (Func x) = x < types
NamesTypeOf types (Global t) = Unit {0}

abbrev pub NamesType : ℕ → Import → Type 0
NamesType types i = NamesTypeOf types i.desc
