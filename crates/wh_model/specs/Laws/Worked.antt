-- Runs that are worked out by hand: the outcome of a call of a function, and after how many charges.
use Rattle.std.specs.Prelude.{ℕ, List, [], reverse}
use Rattle.wh_model.specs.declared.ValType.{ValType}
use Rattle.wh_model.specs.declared.Trap.{Trap}
use Rattle.wh_model.specs.Format.Syntax.{nothing, Code}
use Rattle.wh_model.specs.Execution.Store.{Value, Instance, Store}
use Rattle.wh_model.specs.Execution.Configuration.{code, called, Config, config, trapped}
use Rattle.wh_model.specs.Execution.Reduction.{After, Reduces}

-- a call of a function without further locals, from outside, with these arguments in order
abbrev pub invoked : Store → List ValType → List ValType → Code → List Value → Config
invoked s params results body args =
    config s []
    (called (record { params = params; results = results }) (record { locals = []; code = body }) (reverse args) []
    nothing)

-- it is done with these values after `charges` charges
abbrev pub Done : Instance → Config → Store → List Value → ℕ → Type 0
Done inst c s vs charges = After inst c charges (config s [] (code (reverse vs) nothing))

-- it traps after `charges` charges, the trapped instruction's included
abbrev pub Trapped : Instance → Config → Store → Trap → ℕ → Type 0
Trapped inst c s x charges = After inst c charges (trapped s x)

-- it is blocked on fuel after `charges` charges: a charged reduction is next
abbrev pub StandsForFuel : Instance → Config → ℕ → Type 0
StandsForFuel inst c charges = (c2 : Config) × After inst c charges c2 × (c3 : Config) × Reduces inst 0 c2 1 c3
