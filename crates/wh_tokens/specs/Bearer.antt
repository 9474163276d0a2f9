-- Tokens in the values of `Authorization` fields.
use Rattle.std.specs.Prelude.{◌≡◌, ℕ, ◌<◌, ◌==◌, ◌||◌, Bool, IsTrue, if◌then◌else◌, List, [], ◌∷◌, length, map, All, codes}
use Rattle.std.specs.Char.{is_ascii_alphanumeric, to_ascii_lowercase}
use Rattle.wh_routes.specs.Separators.{piece_before, text_behind}

-- a letter, a digit, or one of `-._~+/`
abbrev pub is_token_byte : ℕ → Bool
is_token_byte b = is_ascii_alphanumeric b || b == 45 || b == 46 || b == 95 || b == 126 || b == 43 || b == 47

-- some of these, and then any number of `=`
pub record IsToken (text : List ℕ) : Type 0 where
  pub some : 0 < length (piece_before 61 text)
  pub body : All (λ b. IsTrue (is_token_byte b)) (piece_before 61 text)
  pub pads : All (λ b. b ≡ 61) (text_behind 61 text)

-- without the spaces that it begins with
abbrev pub without_spaces : List ℕ → List ℕ
without_spaces [] = []
without_spaces (b ∷ bs) = if b == 32 then without_spaces bs else b ∷ bs

-- the field's value is `Bearer`, in any case, spaces and the token
pub record CarriesToken (field token : List ℕ) : Type 0 where
  pub scheme : map to_ascii_lowercase (piece_before 32 field) ≡ codes "bearer"
  pub spelled : token ≡ without_spaces (text_behind 32 field)
  pub is : IsToken token
