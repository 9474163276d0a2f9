-- The words of a module's globals, and its bounds, by what they follow from.
use Rattle.std.specs.Prelude.{ℕ, List, map}
use Rattle.wh_initial.specs.declared.basis.Basis.{Basis}
use Rattle.wh_initial.specs.declared.error.InstantiateError.{InstantiateError}
use Rattle.wh_initial.specs.Given.{view_parameters}
use Rattle.wh_initial.specs.ConstantWords.{host_word}
use Rattle.wh_initial.specs.InWords.{words_of_globals, IsPrepared, IsBounded, RefusesInWords}

-- of the imported ones
abbrev pub host_words_in : Basis → List ℕ
host_words_in b = map (host_word (view_parameters b.parameters.now)) b.imported.now

-- of all
abbrev pub words_of_basis : Basis → List ℕ
words_of_basis b = words_of_globals b.module.now b.imported.now (view_parameters b.parameters.now)

-- each expression has a word
abbrev pub HasWords : Basis → Type 0
HasWords b = IsPrepared b.module.now b.imported.now (view_parameters b.parameters.now)

-- all bounds are kept
abbrev pub HasBounds : Basis → Type 0
HasBounds b = IsBounded b.module.now b.imported.now (view_parameters b.parameters.now)

-- why nothing begins
abbrev pub RefusesBasis : Basis → InstantiateError → Type 0
RefusesBasis b e = RefusesInWords b.module.now b.imported.now (view_parameters b.parameters.now) e
