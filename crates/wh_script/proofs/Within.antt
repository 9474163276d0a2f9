-- Numbers that are there, or aren't.
use Rattle.std.proofs.Common.{◌≡◌, ℕ, true, false, Option, Some, None, is_some, refl}

pub some_number : (o : Option ℕ) → true ≡ is_some o → (k : ℕ) × (o ≡ Some k)
some_number (Some k) e = (k, refl)
some_number None e = absurd (cc e)

pub no_number : (o : Option ℕ) → false ≡ is_some o → o ≡ None
no_number (Some k) e = absurd (cc e)
no_number None e = refl
