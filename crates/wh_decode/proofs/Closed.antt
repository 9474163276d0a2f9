-- A window that is closed, seen by a view of what was read in it.
use Rattle.std.proofs.Common.{◌≡◌, ℕ, Bool, true, false, cond, Result, Ok, Err, refl, ap}
use Rattle.std.specs.Prelude.{◌==◌}
use Rattle.wh_model.specs.declared.faults.FaultKind.TheVariants.{Memory, SectionSize}
use Rattle.wh_model.specs.declared.faults.DecodeError.{DecodeError}
use Rattle.wh_leb.specs.Reading.{fail, Gives, closed_window, outer_fault}

-- out of memory is that outside too
outer_memory : (whole : Bool) (e : DecodeError) → e.kind ≡ Memory → (outer_fault whole e).kind ≡ Memory
outer_memory whole e memory = rw memory refl

pub closed_gives : {X A : Type 0} (view : X → A) (whole : Bool) (end : ℕ) (r : Result (X × ℕ) DecodeError) (read : Result (A × ℕ) DecodeError) → Gives (λ x. (view x.0, x.1)) r read → Gives (λ x. (view x.0, x.1)) (closed_window whole end r) (closed_window whole end read)
closed_gives {X} {A} view whole end (Ok x) read g = rw g (go (x.1 == end))
  where
    go : (b : Bool) → Gives {X = X × ℕ} {Y = A × ℕ} (λ y. (view y.0, y.1)) (cond b (Ok x) (fail SectionSize x.1)) (cond b (Ok (view x.0, x.1)) (fail SectionSize x.1))
    go true = refl
    go false = λ other. refl
closed_gives view whole end (Err e) read g = λ other. ap (closed_window whole end) (g (λ memory. other (outer_memory whole e memory)))
