-- Checks that decide the same.
use Rattle.std.proofs.Common.{Result, Ok, Err}
use Rattle.wh_model.specs.declared.faults.ValidKind.{ValidKind}
use Rattle.wh_validate.specs.Deciding.{Decides}

-- either follows from the other
abbrev pub Same : Type 0 → Type 0 → Type 0
Same P Q = (P → Q) × (Q → P)

pub decides_same : {A P Q : Type 0} (r : Result A ValidKind) → Same P Q → Decides r P → Decides r Q
decides_same (Ok x) s p = s.0 p
decides_same (Err k) s p = λ other q. p other (s.1 q)

-- one check, and then others
pub decides_both : {A P : Type 0} (Q : Type 0) (r : Result A ValidKind) → P → Decides r Q → Decides r (P × Q)
decides_both Q (Ok x) p q = (p, q)
decides_both Q (Err k) p q = λ other both. q other both.1
