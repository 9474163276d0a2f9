-- Whose a token is.
use Rattle.std.proofs.Common.{◌≡◌, ◌≢◌, ℕ, ◌+◌, ◌<◌, Bool, true, false, if◌then◌else◌, Option, Some, List, length, get_or, drop, refl, ◌∙◌}
use Rattle.std.proofs.lemmas.List.{at_drop_more}
use Rattle.std.proofs.lemmas.Slice.Eq.{bytes_eq-Decides}
use Rattle.wh_tokens.specs.declared.grants.Who.{Who}
use Rattle.wh_tokens.specs.declared.grants.Grant.{Grant}
use Rattle.wh_tokens.specs.TokenOwners.{owner_in}

taken : (t : Bool) (x y : Option Who) → t ≡ true → (if t then x else y) ≡ x
taken true x y e = refl
taken false x y e = cc

passed : (t : Bool) (x y : Option Who) → ¬ (t ≡ true) → (if t then x else y) ≡ y
passed true x y e = absurd (e refl)
passed false x y e = refl

pub owner_here : (grants : List Grant) (k : ℕ) (digest : List ℕ) (d : Grant) → k < length grants
    → (get_or grants k d).digest ≡ digest → owner_in (drop k grants) digest ≡ Some (get_or grants k d).who
owner_here grants k digest d within same =
    at_drop_more (λ gs. owner_in gs digest) grants k d within
    ∙ taken _ _ _ ((bytes_eq-Decides (get_or grants k d).digest digest).1 same)

pub owner_behind : (grants : List Grant) (k : ℕ) (digest : List ℕ) (d : Grant) → k < length grants
    → (get_or grants k d).digest ≢ digest → owner_in (drop k grants) digest ≡ owner_in (drop (k + 1) grants) digest
owner_behind grants k digest d within other =
    at_drop_more (λ gs. owner_in gs digest) grants k d within
    ∙ passed _ _ _ (λ t. other ((bytes_eq-Decides (get_or grants k d).digest digest).0 t))
