-- What a file of tokens says.
use Rattle.std.specs.Prelude.{◌≡◌, ◌≢◌, ℕ, ◌+◌, ◌<◌, ◌^◌, ◌==◌, Bool, true, List, [], ◌∷◌, ◌++◌, length, All, ⊤, codes}
use Rattle.std.specs.Bool.{MatchBool}
use Rattle.std.specs.List.{AllPairs}
use Rattle.std.specs.Fmt.{decimal}
use Rattle.wh_routes.specs.Separators.{pieces_at}
use Rattle.wh_routes.specs.Readings.{SpellsDigest}
use Rattle.wh_tokens.specs.declared.error.GrantsError.{GrantsError}
use Rattle.wh_tokens.specs.declared.error.GrantsError.TheVariants.{Line, Twice, Memory}
use Rattle.wh_tokens.specs.declared.grants.Who.{Who}
use Rattle.wh_tokens.specs.declared.grants.Who.TheVariants.{Operator, Tenant}
use Rattle.wh_tokens.specs.declared.grants.Grant.{Grant}

-- the operator's word, or a tenant's number
abbrev pub SpellsWho : List ℕ → Who → Type 0
SpellsWho word Operator = word ≡ codes "operator"
SpellsWho word (Tenant n) = (n < 2 ^ 32) × (word ≡ decimal n)

-- that, a space and the digest
pub record SpellsGrant (line : List ℕ) (grant : Grant) : Type 0 where
  pub word : List ℕ
  pub text : List ℕ
  pub parts : line ≡ word ++ 32 ∷ text
  pub who : SpellsWho word grant.who
  pub digest : SpellsDigest text grant.digest

-- the line is empty, or begins with `#`
abbrev pub is_left_out : List ℕ → Bool
is_left_out [] = true
is_left_out (b ∷ bs) = b == 35

-- a grant of each line that isn't left out, in order
abbrev pub AreGrantsOf : List (List ℕ) → List Grant → Type 0
AreGrantsOf [] grants = grants ≡ []
AreGrantsOf (line ∷ lines) grants = MatchBool (is_left_out line) (AreGrantsOf lines grants)
    ((first : Grant) × (rest : List Grant) × (grants ≡ first ∷ rest) × SpellsGrant line first × AreGrantsOf lines rest)

-- these lines' grants, no digest twice
pub record SpellLines (lines : List (List ℕ)) (grants : List Grant) : Type 0 where
  pub are : AreGrantsOf lines grants
  pub apart : AllPairs (λ g h. g.digest ≢ h.digest) grants

-- the text's lines do so
abbrev pub SpellsGrants : List ℕ → List Grant → Type 0
SpellsGrants text grants = SpellLines (pieces_at 10 text) grants

-- the line's grant goes behind the others; or it has none
abbrev pub TakesLine : List Grant → List ℕ → List Grant → Type 0
TakesLine before line after = MatchBool (is_left_out line) (after ≡ before)
    ((grant : Grant) × SpellsGrant line grant × All (λ g. g.digest ≢ grant.digest) before × (after ≡ before ++ grant ∷ []))

-- the line, the n-th, is no grant; or it is one whose digest was there before
abbrev pub IsWrongLine : List Grant → ℕ → List ℕ → GrantsError → Type 0
IsWrongLine before n line (Line m) = (m ≡ n) × (is_left_out line ≢ true) × ((grant : Grant) → ¬ (SpellsGrant line grant))
IsWrongLine before n line (Twice m) = (m ≡ n) × (is_left_out line ≢ true)
    × ((grant : Grant) × SpellsGrant line grant × ¬ (All (λ g. g.digest ≢ grant.digest) before))
IsWrongLine before n line Memory = ⊤

-- the lines before spell grants, and then one is wrong
pub record IsWrongText (text : List ℕ) (error : GrantsError) : Type 0 where
  pub front : List (List ℕ)
  pub line : List ℕ
  pub rest : List (List ℕ)
  pub before : List Grant
  pub lines : pieces_at 10 text ≡ front ++ line ∷ rest
  pub spelled : SpellLines front before
  pub wrong : IsWrongLine before (length front + 1) line error
