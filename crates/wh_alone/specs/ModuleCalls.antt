-- The outcome of a call of a module, from its bytes.
use Rattle.std.specs.Prelude.{◌≡◌, ⊤, ℕ, List, [], ◌∷◌, map}
use Rattle.wh_model.specs.Format.Syntax.{Module}
use Rattle.wh_model.specs.Execution.Instance.{Parameters, Piece}
use Rattle.wh_model.specs.Execution.Store.{written}
use Rattle.wh_syntax.specs.declared.module.Data.{Data}
use Rattle.wh_initial.specs.Begins as initials
use Rattle.wh_alone.specs.declared.outcome.CallError.{CallError}
use Rattle.wh_alone.specs.declared.outcome.CallError.TheVariants.{Load, Instantiate, Memory}
use Rattle.wh_model.specs.Linking.Accepting.{IsAccepted}
use Rattle.wh_load.specs.Refusing.{RefusesBytes}

-- why there is no instance; of memory nothing is said
abbrev pub RefusesModule : List ℕ → Parameters → CallError → Type 0
RefusesModule bytes p (Instantiate e) = (m : Module) × IsAccepted bytes m × initials.RefusesInstance m p e
RefusesModule bytes p Memory = ⊤
RefusesModule bytes p (Load e) = RefusesBytes bytes e

-- ---- data segments

-- the pieces are these segments, at these places
abbrev pub ArePieces : List Piece → List ℕ → List Data → Type 0
ArePieces ps places segments =
    (map (λ p. p.at) ps ≡ places) × (map (λ p. p.items) ps ≡ map (λ d. d.init.items) segments)

-- bytes with pieces written over them, in order
abbrev pub written_over : List ℕ → List Piece → List ℕ
written_over bytes [] = bytes
written_over bytes (p ∷ ps) = written_over (written bytes p.at p.items) ps
