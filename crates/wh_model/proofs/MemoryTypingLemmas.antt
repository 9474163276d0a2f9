-- Bytes of a memory: numbers that are read stay in range, and a memory that is written or grows keeps its type.
use Rattle.std.proofs.Common.{◌≡◌, ℕ, zero, suc, ◌+◌, ◌*◌, ◌-◌, ◌/◌, ◌^◌, ◌<◌, ◌≤◌, List, [], ◌∷◌, ◌++◌, length, take, drop, replicate, refl, ap, arith, ◌∙◌, mod-lt, length-append, rules}
use Rattle.std.proofs.Math.Nat.{pow-suc}
use Rattle.std.proofs.lemmas.List.{length-replicate}
use Rattle.std.specs.List.{AllByRecursion, slice_range}
use Rattle.wh_model.specs.declared.LoadOp.{LoadOp}
use Rattle.wh_model.specs.declared.LoadOp.TheVariants.{I32Load, I64Load, I32Load8S, I32Load8U, I32Load16S, I32Load16U, I64Load8S, I64Load8U, I64Load16S, I64Load16U, I64Load32S, I64Load32U}
use Rattle.wh_model.specs.Validity.{Context, load_type}
use Rattle.wh_model.specs.Execution.{bits, extend_u, pages, number, bytes_of, bytes_at, written, loaded}
use Rattle.wh_model.specs.Execution.Store.{Instance}
use Rattle.wh_model.specs.Soundness.{IsByte, MemoryType, InstanceType}
use Rattle.wh_model.proofs.Fragments.{length-written}
use Rattle.wh_model.proofs.Numbers.{extend_s-lt}

-- ---- what holds of each element

module _ {X : Type 0} (P : X → Type 0) where
  pub each_append : (xs ys : List X) → AllByRecursion P xs → AllByRecursion P ys → AllByRecursion P (xs ++ ys)
  each_append [] ys g h = h
  each_append (x ∷ xs) ys g h = (g.0, each_append xs ys g.1 h)

  pub each_take : (n : ℕ) (xs : List X) → AllByRecursion P xs → AllByRecursion P (take n xs)
  each_take zero xs h = tt
  each_take (suc n) [] h = tt
  each_take (suc n) (x ∷ xs) h = (h.0, each_take n xs h.1)

  pub each_drop : (n : ℕ) (xs : List X) → AllByRecursion P xs → AllByRecursion P (drop n xs)
  each_drop zero xs h = h
  each_drop (suc n) [] h = tt
  each_drop (suc n) (x ∷ xs) h = each_drop n xs h.1

  pub each_replicate : (n : ℕ) (x : X) → P x → AllByRecursion P (replicate n x)
  each_replicate zero x h = tt
  each_replicate (suc n) x h = (h, each_replicate n x h)

  pub each_written : (old : List X) (at : ℕ) (given : List X) → AllByRecursion P old → AllByRecursion P given
      → AllByRecursion P (written old at given)
  each_written old at given g h =
      each_append (take at old) (given ++ drop (at + length given) old) (each_take at old g)
      (each_append given (drop (at + length given) old) h (each_drop (at + length given) old g))

  pub each_at : (xs : List X) (at k : ℕ) → AllByRecursion P xs → AllByRecursion P (slice_range xs at (at + k))
  each_at xs at k h = each_take (at + k - at) (drop at xs) (each_drop at xs h)

-- ---- numbers of bytes

some_power : (k : ℕ) → 0 < 256 ^ k
some_power zero = omega arith
some_power (suc k) = let ih = some_power k in rw pow-suc (omega arith)

number-lt : (k : ℕ) (bs : List ℕ) → length bs ≤ k → AllByRecursion IsByte bs → number bs < 256 ^ k
number-lt k [] few h = some_power k
number-lt zero (b ∷ bs) few h = absurd (omega arith)
number-lt (suc k) (b ∷ bs) few h =
    let low : b < 256 = h.0 in
    rw pow-suc (omega (arith, number-lt k bs (omega arith) h.1, low))

length-take_few : (k : ℕ) (bs : List ℕ) → length (take k bs) ≤ k
length-take_few zero bs = omega arith
length-take_few (suc k) [] = omega arith
length-take_few (suc k) (b ∷ bs) = let ih = length-take_few k bs in omega (arith, ih)

pub few_at : (bytes : List ℕ) (at k : ℕ) → length (bytes_at bytes at k) ≤ k
few_at bytes at k = let e : at + k - at ≡ k = omega arith in rw e (length-take_few k (drop at bytes))

-- a number that is read in k bytes
pub number_at : (bytes : List ℕ) (at k : ℕ) → AllByRecursion IsByte bytes → number (bytes_at bytes at k) < 256 ^ k
number_at bytes at k h =
    number-lt k (bytes_at bytes at k) (few_at bytes at k) (each_at IsByte bytes at k h)

-- what a load makes of it is a number of its type
pub loaded_fits : (op : LoadOp) (n : ℕ) → n < 256 ^ (load_type op).1 → loaded op n < 2 ^ bits (load_type op).0
unfolding extend_u
loaded_fits I32Load n h = h
loaded_fits I64Load n h = h
loaded_fits I32Load8S n h = extend_s-lt 8 32 n
loaded_fits I32Load8U n h = omega (arith, h)
loaded_fits I32Load16S n h = extend_s-lt 16 32 n
loaded_fits I32Load16U n h = omega (arith, h)
loaded_fits I64Load8S n h = extend_s-lt 8 64 n
loaded_fits I64Load8U n h = omega (arith, h)
loaded_fits I64Load16S n h = extend_s-lt 16 64 n
loaded_fits I64Load16U n h = omega (arith, h)
loaded_fits I64Load32S n h = extend_s-lt 32 64 n
loaded_fits I64Load32U n h = omega (arith, h)

pub bytes_of_bytes : (k n : ℕ) → AllByRecursion IsByte (bytes_of k n)
bytes_of_bytes zero n = tt
bytes_of_bytes (suc k) n = (mod-lt n (omega arith), bytes_of_bytes k (n / 256))

pub length-bytes_of : (k n : ℕ) → length (bytes_of k n) ≡ k
length-bytes_of zero n = refl
length-bytes_of (suc k) n = ap suc (length-bytes_of k (n / 256))

-- ---- the memory

pub pages_of : (bytes : List ℕ) (n : ℕ) → length bytes ≡ n * 65536 → pages bytes ≡ n
pages_of bytes n e = omega (arith, e)

pub pages_fit : (c : Context) (inst : Instance) (bytes : List ℕ) → InstanceType c inst → MemoryType c inst bytes
    → pages bytes < 2 ^ 32
pages_fit c inst bytes i h = search rules

pub memory_written : (c : Context) (inst : Instance) (bytes : List ℕ) (at : ℕ) (given : List ℕ)
    → MemoryType c inst bytes
    → at + length given ≤ length bytes → AllByRecursion IsByte given → MemoryType c inst (written bytes at given)
memory_written c inst bytes at given h within all =
    ((h.0.0, length-written bytes given at within ∙ h.0.1, h.0.2, h.0.3), each_written IsByte bytes at given h.1 all)

pub memory_grown : (c : Context) (inst : Instance) (bytes : List ℕ) (n : ℕ) → MemoryType c inst bytes
    → pages bytes + n ≤ inst.page_limit → MemoryType c inst (bytes ++ replicate (n * 65536) 0)
memory_grown c inst bytes n h room =
    let count : length (bytes ++ replicate (n * 65536) 0) ≡ (h.0.0 + n) * 65536 =
    rw (length-append bytes (replicate (n * 65536) 0), length-replicate {A = ℕ} (n * 65536) 0)
    (omega (arith, h.0.1)) in (
      (h.0.0 + n, count, omega (arith, h.0.2), omega (arith, pages_of bytes h.0.0 h.0.1, room)),
      each_append IsByte bytes
          (replicate (n * 65536) 0) h.1 (each_replicate IsByte (n * 65536) 0 (omega arith)),
    )
