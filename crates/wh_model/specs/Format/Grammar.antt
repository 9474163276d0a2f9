-- Attribute grammars, section 5.1 of the standard: a production derives bytes, and has a value. A definition such as
--     valtype t ::= 0x7F => i32 | ..     functype ::= 0x60 ts:vec(valtype) us:vec(valtype) => [ts] -> [us]
-- is written here as  do { this_byte 0x60; ts ← vec valtype; us ← vec valtype; gives .. }.
-- Beside what it derives, a production says what it derives within the limits of this host, and in which way bytes
-- that begin as it does break. The standard has no such faults: they are this project's own (docs/definitions.md).
use Rattle.std.specs.Prelude.{◌≡◌, ℕ, zero, suc, ◌+◌, ◌≤◌, ◌<◌, ◌⊎◌, List, [], ◌∷◌, ◌++◌, length, take, Result, Ok, Err, if◌then◌else◌, ◌==◌}
use Rattle.wh_model.specs.declared.faults.FaultKind.{FaultKind}
use Rattle.wh_model.specs.declared.faults.FaultKind.TheVariants.{Truncated, SectionSize, Limit}

-- spells x b: the production derives all of the bytes b with the value x.
-- within x b: it does so, and no limit is passed.
-- breaks b kind k: some front of b, in whole items and within the limits, is the front of a derivation,
-- and the item that has to come next breaks in this way, k bytes after the beginning of b.
pub record Grammar (A : Type 0) : Type 1 where
  pub spells : A → List ℕ → Type 0
  pub within : A → List ℕ → Type 0
  pub breaks : List ℕ → FaultKind → ℕ → Type 0

-- no bytes
abbrev pub gives : {A : Type 0} → A → Grammar A
gives x = record {
  spells = λ y b. (y ≡ x) × (b ≡ []);
  within = λ y b. (y ≡ x) × (b ≡ []);
  breaks = λ b kind k. ⊥;
}

-- one production, and after it another, that may depend on the value of the first
infixl 10 ◌>>=◌
abbrev pub ◌>>=◌ : {A B : Type 0} → Grammar A → (A → Grammar B) → Grammar B
◌>>=◌ {A} first next = record {
  spells = λ y b. (x : A) × (t u : List ℕ) × (b ≡ t ++ u) × first.spells x t × (next x).spells y u;
  within = λ y b. (x : A) × (t u : List ℕ) × (b ≡ t ++ u) × first.within x t × (next x).within y u;
  breaks = λ b kind k. first.breaks b kind k
      ⊎ ((x : A) × (t u : List ℕ) × (j : ℕ) × (b ≡ t ++ u) × (k ≡ length t + j) × first.within x t
      × (next x).breaks u kind j);
}

infixl 10 ◌>>◌
abbrev pub ◌>>◌ : {A B : Type 0} → Grammar A → Grammar B → Grammar B
first >> next = first >>= λ _. next

-- one byte, and what a table says that it encodes
abbrev pub HeadBreaks : {A : Type 0} → (ℕ → Result A FaultKind) → List ℕ → FaultKind → Type 0
HeadBreaks table [] kind = kind ≡ Truncated
HeadBreaks table (n ∷ b) kind = table n ≡ Err kind

abbrev pub one_of : {A : Type 0} → (ℕ → Result A FaultKind) → Grammar A
one_of table = record {
  spells = λ x b. (n : ℕ) × (b ≡ n ∷ []) × (table n ≡ Ok x);
  within = λ x b. (n : ℕ) × (b ≡ n ∷ []) × (table n ≡ Ok x);
  breaks = λ b kind k. (k ≡ 0) × HeadBreaks table b kind;
}

-- a byte that has to be this one; another one is this fault
abbrev pub exact_byte : FaultKind → ℕ → ℕ → Result (Unit {0}) FaultKind
exact_byte kind c n = if n == c then Ok tt else Err kind

abbrev pub this_byte : FaultKind → ℕ → Grammar (Unit {0})
this_byte kind c = one_of (exact_byte kind c)

-- n bytes, whatever they are
abbrev pub bytes : ℕ → Grammar (List ℕ)
bytes n = record {
  spells = λ x b. (b ≡ x) × (length x ≡ n);
  within = λ x b. (b ≡ x) × (length x ≡ n);
  breaks = λ b kind k. (length b < n) × (kind ≡ Truncated) × (k ≡ length b);
}

-- only values of which P holds; at the first byte of another one there is this fault
abbrev pub only_if : {A : Type 0} → (A → Type 0) → FaultKind → Grammar A → Grammar A
only_if {A} P fault g = record {
  spells = λ x b. g.spells x b × P x;
  within = λ x b. g.within x b × P x;
  breaks = λ b kind k. g.breaks b kind k
      ⊎ ((x : A) × (t u : List ℕ) × (b ≡ t ++ u) × g.within x t × (P x → ⊥) × (kind ≡ fault) × (k ≡ 0));
}

-- a number that is limited, and is a spelling also above the limit
abbrev pub up_to : ℕ → Grammar ℕ → Grammar ℕ
up_to limit g = record {
  spells = g.spells;
  within = λ n b. g.within n b × (n ≤ limit);
  breaks = λ b kind k. g.breaks b kind k
      ⊎ ((n : ℕ) × (t u : List ℕ) × (b ≡ t ++ u) × g.within n t × (limit < n) × (kind ≡ Limit) × (k ≡ 0));
}

-- for each of a list, one after the other
abbrev pub Each : {A : Type 0} → (A → List ℕ → Type 0) → List A → List ℕ → Type 0
Each spells [] b = b ≡ []
Each spells (x ∷ xs) b = (t u : List ℕ) × (b ≡ t ++ u) × spells x t × Each spells xs u

-- n times the same production
abbrev pub times : {A : Type 0} → ℕ → Grammar A → Grammar (List A)
times zero g = gives []
times (suc n) g = do
  x ← g
  xs ← times n g
  gives (x ∷ xs)

-- A window of n bytes, of which there may be fewer in b: what its end is where a byte is wanted
abbrev pub EndsAs : ℕ → List ℕ → FaultKind → FaultKind → Type 0
EndsAs n b inner outer = ((inner ≡ Truncated) × (n ≤ length b) × (outer ≡ SectionSize))
    ⊎ (((inner ≡ Truncated → n ≤ length b → ⊥)) × (outer ≡ inner))

-- exactly n bytes, which the production derives
abbrev pub exactly : {A : Type 0} → ℕ → Grammar A → Grammar A
exactly {A} n g = record {
  spells = λ x b. (length b ≡ n) × g.spells x b;
  within = λ x b. (length b ≡ n) × g.within x b;
  breaks = λ b kind k. ((inner : FaultKind) × g.breaks (take n b) inner k × EndsAs n b inner kind)
      ⊎ ((x : A) × (t u : List ℕ) × (take n b ≡ t ++ u) × g.within x t × (length t < n) × (kind ≡ SectionSize)
      × (k ≡ length t));
}

-- exactly n bytes, of which the production derives a front, whatever follows it
abbrev pub exactly_from : {A : Type 0} → ℕ → Grammar A → Grammar A
exactly_from {A} n g = record {
  spells = λ x b. (length b ≡ n) × (t u : List ℕ) × (b ≡ t ++ u) × g.spells x t;
  within = λ x b. (length b ≡ n) × (t u : List ℕ) × (b ≡ t ++ u) × g.within x t;
  breaks = λ b kind k. ((inner : FaultKind) × g.breaks (take n b) inner k × EndsAs n b inner kind)
      ⊎ ((length b < n) × ((x : A) × (t u : List ℕ) × (b ≡ t ++ u) × g.within x t) × (kind ≡ Truncated)
      × (k ≡ length b));
}
