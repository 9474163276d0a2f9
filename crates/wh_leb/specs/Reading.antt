-- Reading from a place of a byte list: a value and the next place, or the first fault.
use Rattle.std.specs.Prelude.{◌≡◌, ◌≢◌, ℕ, zero, suc, ◌+◌, ◌-◌, ◌*◌, ◌≤◌, ◌^◌, List, [], ◌∷◌, ◌++◌, length, take, drop, Result, Ok, Err, min, nat_lt, nat_le, if◌then◌else◌, Bool, true, false, ◌&&◌, ◌==◌, ℤ, pos, ◌+ℤ◌, ◌-ℤ◌, ◌*ℤ◌}
use Rattle.wh_model.specs.declared.faults.FaultKind.{FaultKind}
use Rattle.wh_model.specs.declared.faults.FaultKind.TheVariants.{Truncated, SectionSize, Limit, Leb, Memory}
use Rattle.wh_model.specs.declared.faults.DecodeError.{DecodeError}
use Rattle.wh_model.specs.Format.Grammar.{Grammar}

infixl 10 ◌>>=◌
abbrev pub ◌>>=◌ : {A B : Type 0} → Result A DecodeError → (A → Result B DecodeError) → Result B DecodeError
(Ok x) >>= f = f x
(Err e) >>= f = Err e

abbrev pub fail : {A : Type 0} → FaultKind → ℕ → Result A DecodeError
fail kind at = Err (record { kind = kind; offset = at })

-- What a function returned, seen by view, is what reading gives, unless memory ran out.
abbrev pub Gives : {X Y : Type 0} → (X → Y) → Result X DecodeError → Result Y DecodeError → Type 0
Gives view (Ok x) read = read ≡ Ok (view x)
Gives view (Err e) read = e.kind ≢ Memory → read ≡ Err e

-- Reading a production from a place: what is found is derived within the limits, what is derived within them and
-- followed so is found, a fault is a break, and a break is that fault.
pub record ReadsBy {A : Type 0} (Follows : List ℕ → Type 0) (g : Grammar A)
    (read : List ℕ → ℕ → Result (A × ℕ) DecodeError) : Type 0 where
  pub found : (b : List ℕ) (at : ℕ) (x : A) (next : ℕ) → at ≤ length b → read b at ≡ Ok (x, next)
      → (t : List ℕ) × (drop at b ≡ t ++ drop next b) × (next ≡ at + length t) × g.within x t
  pub only : (b : List ℕ) (at : ℕ) (x : A) (t u : List ℕ) → at ≤ length b → drop at b ≡ t ++ u → Follows u
      → g.within x t → read b at ≡ Ok (x, at + length t)
  pub ends : (b : List ℕ) (at : ℕ) (x : A) (next : ℕ) → at ≤ length b → read b at ≡ Ok (x, next) → Follows (drop next b)
  pub fault : (b : List ℕ) (at : ℕ) (e : DecodeError) → at ≤ length b → read b at ≡ Err e
      → (k : ℕ) × (e.offset ≡ at + k) × g.breaks (drop at b) e.kind k
  pub stops : (b : List ℕ) (at : ℕ) (kind : FaultKind) (k : ℕ) → at ≤ length b → g.breaks (drop at b) kind k
      → read b at ≡ Err (record { kind = kind; offset = at + k })

-- nothing is asked of what follows
abbrev pub Anything : List ℕ → Type 0
Anything u = Unit {0}

-- ---- integers

abbrev pub unsigned_of : ℕ → List ℕ → ℕ → Result (ℕ × ℕ) DecodeError
unsigned_of bits [] at = fail Truncated at
unsigned_of bits (b ∷ bs) at = if nat_lt 127 b && nat_lt 7 bits then (do
  high ← unsigned_of (bits - 7) bs (at + 1)
  Ok (b - 128 + 128 * high.0, high.1)) else if nat_lt b (2 ^ min bits 7) then Ok (b, at + 1) else fail Leb at

abbrev pub signed_of : ℕ → List ℕ → ℕ → Result (ℤ × ℕ) DecodeError
signed_of bits [] at = fail Truncated at
signed_of bits (b ∷ bs) at = if nat_lt 127 b && nat_lt 7 bits then (do
  high ← signed_of (bits - 7) bs (at + 1)
  Ok (pos (b - 128) +ℤ pos 128 *ℤ high.0, high.1)) else if nat_lt b (2 ^ (min bits 7 - 1)) then Ok (pos b, at + 1)
    else if nat_le (128 - 2 ^ (min bits 7 - 1)) b && nat_lt b 128 then Ok (pos b -ℤ pos 128, at + 1) else fail Leb at

unfoldable pub u32_at : List ℕ → ℕ → Result (ℕ × ℕ) DecodeError
u32_at b at = unsigned_of 32 (drop at b) at

unfoldable pub s32_at : List ℕ → ℕ → Result (ℤ × ℕ) DecodeError
s32_at b at = signed_of 32 (drop at b) at

unfoldable pub s64_at : List ℕ → ℕ → Result (ℤ × ℕ) DecodeError
s64_at b at = signed_of 64 (drop at b) at

-- ---- the other combinators

-- one byte, by a table
abbrev pub with_next : {A : Type 0} → Result A FaultKind → ℕ → Result (A × ℕ) DecodeError
with_next (Ok x) at = Ok (x, at + 1)
with_next (Err kind) at = fail kind at

abbrev pub head_of : {A : Type 0} → (ℕ → Result A FaultKind) → List ℕ → ℕ → Result (A × ℕ) DecodeError
head_of table [] at = fail Truncated at
head_of table (n ∷ b) at = with_next (table n) at

abbrev pub one_at : {A : Type 0} → (ℕ → Result A FaultKind) → List ℕ → ℕ → Result (A × ℕ) DecodeError
one_at table b at = head_of table (drop at b) at

abbrev pub read_bytes_at : ℕ → List ℕ → ℕ → Result (List ℕ × ℕ) DecodeError
read_bytes_at n b at = if nat_lt (length b) (at + n) then fail Truncated (length b) else Ok (take n (drop at b), at + n)

abbrev pub only_at : {A : Type 0} → (A → Bool) → FaultKind → (List ℕ → ℕ → Result (A × ℕ) DecodeError) → List ℕ → ℕ
    → Result (A × ℕ) DecodeError
only_at test kind read b at = read b at >>= λ x. if test x.0 then Ok x else fail kind at

abbrev pub limited_at : ℕ → (List ℕ → ℕ → Result (ℕ × ℕ) DecodeError) → List ℕ → ℕ → Result (ℕ × ℕ) DecodeError
limited_at limit read b at = read b at >>= λ x. if nat_lt limit x.0 then fail Limit at else Ok x

abbrev pub times_at : {A : Type 0} → ℕ → (List ℕ → ℕ → Result (A × ℕ) DecodeError) → List ℕ → ℕ
    → Result (List A × ℕ) DecodeError
times_at zero read b at = Ok ([], at)
times_at (suc n) read b at = do
  x ← read b at
  xs ← times_at n read b x.1
  Ok (x.0 ∷ xs.0, xs.1)

abbrev pub Reader : Type 0 → Type 0
Reader A = List ℕ → ℕ → Result (A × ℕ) DecodeError

abbrev pub vec_at : {A : Type 0} → Reader A → Reader (List A)
vec_at read b at = do
  n ← u32_at b at
  times_at n.0 read b n.1

abbrev pub vec_up_to_at : {A : Type 0} → ℕ → Reader A → Reader (List A)
vec_up_to_at limit read b at = do
  n ← limited_at limit u32_at b at
  times_at n.0 read b n.1

-- what was read before, and what is still read
abbrev pub with_front : {A : Type 0} → List A → Result (List A × ℕ) DecodeError → Result (List A × ℕ) DecodeError
with_front front read = read >>= λ r. Ok (front ++ r.0, r.1)

abbrev pub is_truncated : FaultKind → Bool
is_truncated Truncated = true
is_truncated _ = false

-- A fault within a window that ends at a place: where the window is whole, its end is a wrong size
abbrev pub outer_fault : Bool → DecodeError → DecodeError
outer_fault whole e = if is_truncated e.kind && whole then (record { kind = SectionSize; offset = e.offset }) else e

abbrev pub closed_window : {A : Type 0} → Bool → ℕ → Result (A × ℕ) DecodeError → Result (A × ℕ) DecodeError
closed_window whole end (Ok x) = if x.1 == end then Ok x else fail SectionSize x.1
closed_window whole end (Err e) = Err (outer_fault whole e)

abbrev pub exactly_at : {A : Type 0} → ℕ → (List ℕ → ℕ → Result (A × ℕ) DecodeError) → List ℕ → ℕ
    → Result (A × ℕ) DecodeError
exactly_at n read b at = closed_window (nat_le (at + n) (length b)) (at + n) (read (take (at + n) b) at)

abbrev pub closed_from : {A : Type 0} → Bool → ℕ → ℕ → Result (A × ℕ) DecodeError → Result (A × ℕ) DecodeError
closed_from whole end len (Ok x) = if whole then Ok (x.0, end) else fail Truncated len
closed_from whole end len (Err e) = Err (outer_fault whole e)

abbrev pub exactly_from_at : {A : Type 0} → ℕ → (List ℕ → ℕ → Result (A × ℕ) DecodeError) → List ℕ → ℕ
    → Result (A × ℕ) DecodeError
exactly_from_at n read b at = closed_from (nat_le (at + n) (length b)) (at + n) (length b) (read (take (at + n) b) at)

-- ---- what callers are told

-- what a caller is told of a reader: the value was derived by the bytes up to the next place; or which break it is
abbrev pub IsFound : {A : Type 0} → Grammar A → List ℕ → ℕ → A → ℕ → Type 0
IsFound g b at x next = (t : List ℕ) × (drop at b ≡ t ++ drop next b) × (next ≡ at + length t) × g.within x t

abbrev pub Broken : {A : Type 0} → Grammar A → List ℕ → ℕ → DecodeError → Type 0
Broken g b at e = (k : ℕ) × (e.offset ≡ at + k) × g.breaks (drop at b) e.kind k

-- and what the production derives at the place is found
abbrev pub Complete : {A : Type 0} → Grammar A → List ℕ → ℕ → Result (A × ℕ) DecodeError → Type 0
Complete {A} g b at result = (x : A) (t u : List ℕ) → drop at b ≡ t ++ u → g.within x t → result ≡ Ok (x, at + length t)
