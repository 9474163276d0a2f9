-- The words that say what an instance is given.
use Rattle.std.proofs.Common.{◌≡◌, ℕ, List, ◌∷◌, Result, Ok, Err, IfErr, IsErrAnd, subst, sym}
use Rattle.wh_model.specs.declared.ValType.TheVariants.{I32, I64}
use Rattle.wh_host_model.specs.{Params}
use Rattle.wh_script_model.specs.{IsBits, AreParams}
use Rattle.wh_commands.specs.WordsLeft.{FirstIsNot}
use Rattle.wh_commands.specs.ParsedCommands.{Refuses}
use Rattle.wh_commands.specs.declared.error.ParseError.{ParseError}
use Rattle.wh_commands.specs.declared.error.ParseError.TheVariants.{Syntax}
use Rattle.wh_commands.proofs.Asking.{not_first}

-- an error that was handed on
pub refused : {A : Type 0} (P : Type 0) (r : Result A ParseError) → IsErrAnd r (λ e. e ≡ Syntax) → ¬ P → IfErr r (Refuses P)
refused P (Ok x) h none = tt
refused P (Err e) h none = subst (Refuses P) (sym h) none

fifth : (w0 w1 w2 w3 w4 rest : List (List ℕ)) (a b c d a2 b2 c2 d2 : List ℕ) → w0 ≡ a ∷ w1 → w1 ≡ b ∷ w2
    → w2 ≡ c ∷ w3 → w3 ≡ d ∷ w4 → w0 ≡ a2 ∷ b2 ∷ c2 ∷ d2 ∷ rest → w4 ≡ rest
fifth w0 w1 w2 w3 w4 rest a b c d a2 b2 c2 d2 p q r s t = cc

sixth : (w4 w5 rest : List (List ℕ)) (a b : List ℕ) → w4 ≡ a ∷ w5 → w4 ≡ b ∷ rest → w5 ≡ rest
sixth w4 w5 rest a b p q = cc

pub no_base : (w0 w1 w2 w3 w4 : List (List ℕ)) (a b c d : List ℕ) → w0 ≡ a ∷ w1 → w1 ≡ b ∷ w2
    → w2 ≡ c ∷ w3 → w3 ≡ d ∷ w4 → FirstIsNot (λ word. (bits : ℕ) × IsBits I32 word bits) w4
    → ¬ ((params : Params) × AreParams w0 params)
no_base w0 w1 w2 w3 w4 a b c d p q r s none h =
    not_first (λ word. (bits : ℕ) × IsBits I32 word bits) w4 (h.1.salt ∷ h.1.inputs) h.1.base none
    (fifth w0 w1 w2 w3 w4 (h.1.base ∷ h.1.salt ∷ h.1.inputs) a b c d _ _ _ _ p q r s h.1.are) (h.0.base, h.1.is_base)

pub no_salt : (w0 w1 w2 w3 w4 w5 : List (List ℕ)) (a b c d e : List ℕ) → w0 ≡ a ∷ w1 → w1 ≡ b ∷ w2
    → w2 ≡ c ∷ w3 → w3 ≡ d ∷ w4 → w4 ≡ e ∷ w5 → FirstIsNot (λ word. (bits : ℕ) × IsBits I64 word bits) w5
    → ¬ ((params : Params) × AreParams w0 params)
no_salt w0 w1 w2 w3 w4 w5 a b c d e p q r s t none h =
    not_first (λ word. (bits : ℕ) × IsBits I64 word bits) w5 h.1.inputs h.1.salt none
    (sixth w4 w5 (h.1.salt ∷ h.1.inputs) e h.1.base t
    (fifth w0 w1 w2 w3 w4 (h.1.base ∷ h.1.salt ∷ h.1.inputs) a b c d _ _ _ _ p q r s h.1.are)) (h.0.salt, h.1.is_salt)
