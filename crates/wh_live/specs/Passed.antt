-- A pass over all pages of a host that lies under a lock.
use Rattle.std.specs.Prelude.{ℕ, List, Option}
use Rattle.wh_space_model.specs.declared.plain.SwapError.{SwapError}
use Rattle.wh_cell.specs.Locking.{IsInStep, LockedState}
use Rattle.wh_cell.specs.Scanned.{ScansLocked}

-- What lay under the lock was in step, of its host all pages were offered, and it was in step behind that. So many pages
-- were offered, if it could be done; the scanner counted them then.
pub record PassOver {D : Type 0} (held : D → List (List ℕ)) (keeps honest : D → Type 0) (faults : D → List SwapError)
    (hashes : List ℕ → ℕ) (offered : Option ℕ) : Type 0 where
  pub before : LockedState D
  pub behind : LockedState D
  pub count : ℕ
  pub counted : ℕ
  pub begins : IsInStep held keeps honest faults before
  pub scans : ScansLocked hashes before count offered behind counted
  pub ends : IsInStep held keeps honest faults behind

-- at some time such a pass was made
abbrev pub HasPassed : {D : Type 0} (held : D → List (List ℕ)) (keeps honest : D → Type 0) (faults : D → List SwapError)
    (hashes : List ℕ → ℕ) (offered : Option ℕ) → Type 0
HasPassed held keeps honest faults hashes offered = ∥ PassOver held keeps honest faults hashes offered ∥₁
