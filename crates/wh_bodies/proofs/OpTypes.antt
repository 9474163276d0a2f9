-- Instructions of a fixed type have it.
use Rattle.std.proofs.Common.{◌≡◌, ℕ, ◌≤◌, ◌^◌, List, [], ◌∷◌, length, reverse, Ok, refl, subst, arith, rules}
use Rattle.std.specs.Prelude.{nat_le, slice_get, ℤ, ◌<◌}
use Rattle.std.proofs.lemmas.Bool.{leb-true}
use Rattle.std.proofs.Math.Nat.{pow-le-pow_right}
use Rattle.wh_model.specs.declared.ValType.{ValType}
use Rattle.wh_model.specs.declared.ValType.TheVariants.{I32, I64}
use Rattle.wh_model.specs.declared.Mutability.{Mutability}
use Rattle.wh_model.specs.declared.Mutability.TheVariants.{Const, Var}
use Rattle.wh_model.specs.declared.LoadOp.{LoadOp}
use Rattle.wh_model.specs.declared.LoadOp.TheVariants.{I32Load, I64Load, I32Load8S, I32Load8U, I32Load16S, I32Load16U, I64Load8S, I64Load8U, I64Load16S, I64Load16U, I64Load32S, I64Load32U}
use Rattle.wh_model.specs.declared.StoreOp.{StoreOp}
use Rattle.wh_model.specs.declared.StoreOp.TheVariants.{I32Store, I64Store, I32Store8, I32Store16, I64Store8, I64Store16, I64Store32}
use Rattle.wh_model.specs.declared.TestOp.{TestOp}
use Rattle.wh_model.specs.declared.CompareOp.{CompareOp}
use Rattle.wh_model.specs.declared.UnaryOp.{UnaryOp}
use Rattle.wh_model.specs.declared.BinaryOp.{BinaryOp}
use Rattle.wh_model.specs.declared.ConvertOp.{ConvertOp}
use Rattle.wh_model.specs.Format.{Op, nop, call, local_get, local_set, local_tee, global_get, global_set, load, store, memory_size, memory_grow, i32_const, i64_const, test, comparison, unary, binary, conversion, FuncType}
use Rattle.wh_model.specs.Validity.{Context, OpType, load_type, store_type, conversion_type, taken, given}
use Rattle.wh_model.specs.declared.faults.ValidKind.{ValidKind}
use Rattle.wh_model.specs.declared.faults.ValidKind.TheVariants.{Align}
use Rattle.wh_bodies.specs.CheckSteps.{fixed, typed, load_exponent, store_exponent, aligned, type_to_write}
use Rattle.wh_bodies.proofs.Follow.{ok_is, found_ok, cond_ok}

-- the instruction has this type, and takes and gives as many operands
pub record Typed (c : Context) (op : Op) (f : FuncType) : Type 0 where
  pub type : OpType c op (reverse f.params) (reverse f.results)
  pub takes : taken c op ≡ length f.params
  pub gives : given c op ≡ length f.results

abbrev type : List ValType → List ValType → FuncType
type params results = record { params = params; results = results }

is_typed : (c : Context) (op : Op) (f g : FuncType) → ◌≡◌ {A = FuncType} f g → Typed c op f → Typed c op g
is_typed c op f g e t = subst (λ u. Typed c op u) e t

known_type : (c : Context) (op : Op) (f : FuncType) (params results : List ValType) → typed params results ≡ Ok f → Typed c op (type params results) → Typed c op f
known_type c op f params results e t = is_typed c op (type params results) f (ok_is {E = ValidKind} (type params results) f e) t

pub load_width : (op : LoadOp) → 2 ^ load_exponent op ≡ (load_type op).1
load_width I32Load = refl
load_width I64Load = refl
load_width I32Load8S = refl
load_width I32Load8U = refl
load_width I32Load16S = refl
load_width I32Load16U = refl
load_width I64Load8S = refl
load_width I64Load8U = refl
load_width I64Load16S = refl
load_width I64Load16U = refl
load_width I64Load32S = refl
load_width I64Load32U = refl

pub store_width : (op : StoreOp) → 2 ^ store_exponent op ≡ (store_type op).1
store_width I32Store = refl
store_width I64Store = refl
store_width I32Store8 = refl
store_width I32Store16 = refl
store_width I64Store8 = refl
store_width I64Store16 = refl
store_width I64Store32 = refl

two_pow : (a e n : ℕ) → a ≤ e → 2 ^ e ≡ n → 2 ^ a ≤ n
two_pow a e n h w = subst (λ m. 2 ^ a ≤ m) w (let two : 0 < 2 = omega arith in pow-le-pow_right two h)

pub call_typed : (c : Context) (x : ℕ) (f : FuncType) → fixed c (call x) ≡ Ok f → Typed c (call x) f
call_typed c x f e = search rules

pub get_typed : (c : Context) (x : ℕ) (f : FuncType) → fixed c (local_get x) ≡ Ok f → Typed c (local_get x) f
get_typed c x f e = search rules

pub set_typed : (c : Context) (x : ℕ) (f : FuncType) → fixed c (local_set x) ≡ Ok f → Typed c (local_set x) f
set_typed c x f e = search rules

pub tee_typed : (c : Context) (x : ℕ) (f : FuncType) → fixed c (local_tee x) ≡ Ok f → Typed c (local_tee x) f
tee_typed c x f e = search rules

pub global_typed : (c : Context) (x : ℕ) (f : FuncType) → fixed c (global_get x) ≡ Ok f → Typed c (global_get x) f
global_typed c x f e = search rules

is_written : (m : Mutability) (t : ValType) (f : FuncType) → type_to_write m t ≡ Ok f → (m ≡ Var) × (typed (t ∷ []) [] ≡ Ok f)
is_written Const t f e = cc
is_written Var t f e = (refl, e)

pub written_typed : (c : Context) (x : ℕ) (f : FuncType) → fixed c (global_set x) ≡ Ok f → Typed c (global_set x) f
written_typed c x f e = search rules

pub load_typed : (c : Context) (op : LoadOp) (align offset : ℕ) (f : FuncType) → fixed c (load op align offset) ≡ Ok f → Typed c (load op align offset) f
load_typed c op align offset f e =
    let rest = typed (I32 ∷ []) ((load_type op).0 ∷ []) in
    let q = found_ok (slice_get c.memories 0) (λ l. aligned align (load_exponent op) rest) f e in
    let p = cond_ok (nat_le align (load_exponent op)) rest Align f q.2 in
    let room : 2 ^ align ≤ (load_type op).1 = two_pow align (load_exponent op) (load_type op).1 (leb-true align (load_exponent op) p.0) (load_width op) in
    known_type c (load op align offset) f (I32 ∷ []) ((load_type op).0 ∷ []) p.1 (record { type = (((q.0, q.1), room), refl, refl); takes = refl; gives = refl })

pub store_typed : (c : Context) (op : StoreOp) (align offset : ℕ) (f : FuncType) → fixed c (store op align offset) ≡ Ok f → Typed c (store op align offset) f
store_typed c op align offset f e =
    let rest = typed (I32 ∷ (store_type op).0 ∷ []) [] in
    let q = found_ok (slice_get c.memories 0) (λ l. aligned align (store_exponent op) rest) f e in
    let p = cond_ok (nat_le align (store_exponent op)) rest Align f q.2 in
    let room : 2 ^ align ≤ (store_type op).1 = two_pow align (store_exponent op) (store_type op).1 (leb-true align (store_exponent op) p.0) (store_width op) in
    known_type c (store op align offset) f (I32 ∷ (store_type op).0 ∷ []) [] p.1 (record { type = (((q.0, q.1), room), refl, refl); takes = refl; gives = refl })

pub size_typed : (c : Context) (f : FuncType) → fixed c memory_size ≡ Ok f → Typed c memory_size f
size_typed c f e = search rules

pub grow_typed : (c : Context) (f : FuncType) → fixed c memory_grow ≡ Ok f → Typed c memory_grow f
grow_typed c f e = search rules

module _ (c : Context) (f : FuncType) where
  pub nop_typed : fixed c nop ≡ Ok f → Typed c nop f
  nop_typed e = known_type c nop f [] [] e (record { type = (refl, refl); takes = refl; gives = refl })

  pub i32_typed : (n : ℤ) → fixed c (i32_const n) ≡ Ok f → Typed c (i32_const n) f
  i32_typed n e = known_type c (i32_const n) f [] (I32 ∷ []) e (record { type = (refl, refl); takes = refl; gives = refl })

  pub i64_typed : (n : ℤ) → fixed c (i64_const n) ≡ Ok f → Typed c (i64_const n) f
  i64_typed n e = known_type c (i64_const n) f [] (I64 ∷ []) e (record { type = (refl, refl); takes = refl; gives = refl })

  pub test_typed : (t : ValType) (op : TestOp) → fixed c (test t op) ≡ Ok f → Typed c (test t op) f
  test_typed t op e = known_type c (test t op) f (t ∷ []) (I32 ∷ []) e (record { type = (refl, refl); takes = refl; gives = refl })

  pub comparison_typed : (t : ValType) (op : CompareOp) → fixed c (comparison t op) ≡ Ok f → Typed c (comparison t op) f
  comparison_typed t op e = known_type c (comparison t op) f (t ∷ t ∷ []) (I32 ∷ []) e (record { type = (refl, refl); takes = refl; gives = refl })

  pub unary_typed : (t : ValType) (op : UnaryOp) → fixed c (unary t op) ≡ Ok f → Typed c (unary t op) f
  unary_typed t op e = known_type c (unary t op) f (t ∷ []) (t ∷ []) e (record { type = (refl, refl); takes = refl; gives = refl })

  pub binary_typed : (t : ValType) (op : BinaryOp) → fixed c (binary t op) ≡ Ok f → Typed c (binary t op) f
  binary_typed t op e = known_type c (binary t op) f (t ∷ t ∷ []) (t ∷ []) e (record { type = (refl, refl); takes = refl; gives = refl })

  pub conversion_typed : (op : ConvertOp) → fixed c (conversion op) ≡ Ok f → Typed c (conversion op) f
  conversion_typed op e = known_type c (conversion op) f ((conversion_type op).0 ∷ []) ((conversion_type op).1 ∷ []) e (record { type = (refl, refl); takes = refl; gives = refl })
