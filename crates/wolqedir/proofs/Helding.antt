-- What is held, where something is, and where nothing was done.
use Rattle.std.proofs.Common.{◌≡◌, ◌≢◌, ℕ, Option, Some, None, IsSome, Result, Ok, Err, OnErr, refl, sym, ap, ◌∙◌, true≢false}
use Rattle.std.specs.Prelude.{⊤}
use Rattle.wh_hand.specs.HandStates.{HandState}
use Rattle.wolqedir.specs.Codes.{code_by}
use Rattle.wolqedir.specs.ExportContracts.{TellsCaller}

pub is_held : (held : Option HandState) → IsSome held → (h : HandState) × (held ≡ Some h)
is_held (Some h) is = (h, refl)
is_held None is = absurd (true≢false (sym is))

-- where the host is the same, so is what is held
pub same_held : {held held2 : Option HandState} {h h2 : HandState} → held ≡ Some h → held2 ≡ Some h2 → h2 ≡ h → held2 ≡ held
same_held is is2 same = is2 ∙ ap Some same ∙ sym is

-- an error has written nothing
pub untold : {A B E : Type 0} (told : A → B) (before after : B) (answer : Result A E) → TellsCaller told answer before after → OnErr answer (after ≡ before)
untold told before after (Ok a) tells = tt
untold told before after (Err e) tells = tells

pub nothing : {A E : Type 0} (answer : Result A E) → OnErr answer ⊤
nothing (Ok a) = tt
nothing (Err e) = tt

-- at a code but 0 it was an error
pub left_at : {A E : Type 0} (f : E → ℕ) {P : Type 0} {code : ℕ} (answer : Result A E) → code ≡ code_by f answer → OnErr answer P → code ≢ 0 → P
left_at f (Ok a) is left other = absurd (other is)
left_at f (Err e) is left other = left
