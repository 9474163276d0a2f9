-- A function that counts in memory and calls itself: it is called 128 times.
use Rattle.std.proofs.Common.{◌≡◌, ℕ, zero, suc, ◌+◌, ◌*◌, ◌<◌, ◌≤◌, List, [], ◌∷◌, length, refl, pos, Some, arith, sym, ap, subst, ◌∙◌, inl, inr, slice_get}
use Rattle.wh_model.specs.declared.ValType.TheVariants.{I32}
use Rattle.wh_model.specs.declared.BinaryOp.TheVariants.{Add}
use Rattle.wh_model.specs.declared.LoadOp.TheVariants.{I32Load}
use Rattle.wh_model.specs.declared.StoreOp.TheVariants.{I32Store}
use Rattle.wh_model.specs.declared.Trap.TheVariants.{CallDepth}
use Rattle.wh_model.specs.Execution.Numbers as numbers
use Rattle.wh_model.specs.Execution.{unsigned, iadd, value, own, number, bytes_of, bytes_at, written}
use Rattle.wh_model.specs.Format.{Code, nothing, plain, i32_const, load, store, call, binary, FuncType, Body}
use Rattle.wh_model.specs.Execution.Store.{Instance, Store}
use Rattle.wh_model.specs.Focus.Focused.{Focused}
use Rattle.wh_model.specs.Focus.{Activation, running, finished, stopped, activation, FocusedLeads, rests, steps}
use Rattle.wh_model.specs.Laws.{invoked, Done, Trapped}
use Rattle.wh_model.proofs.Agrees.{after_agrees}

-- i32.const 0, i32.const 0, i32.load, i32.const 1, i32.add, i32.store, call 0
abbrev count_and_call : Code
count_and_call = plain (i32_const (pos 0)) (plain (i32_const (pos 0)) (plain (load I32Load 2 0) (plain (i32_const (pos 1)) (plain (binary I32 Add) (plain (store I32Store 2 0) (plain (call 0) nothing))))))

abbrev counting : FuncType
counting = record { params = []; results = [] }

abbrev counting_body : Body
counting_body = record { locals = []; code = count_and_call }

-- ---- a number that is written is read again

four_bytes : (n : ℕ) → n < 4294967296 → number (bytes_of 4 n) ≡ n
four_bytes n small = omega (arith, small)

read_again : (bs : List ℕ) (n : ℕ) → n < 4294967296 → number (bytes_at (written bs 0 (bytes_of 4 n)) 0 4) ≡ n
read_again bs n small = four_bytes n small

one_more : (m k : ℕ) → m ≡ k → k + 1 < 4294967296 → iadd 32 m 1 ≡ k + 1
unfolding iadd
one_more m k e small = omega (arith, e, small)

-- ---- one call, up to the call in it

abbrev counted : Store → Store
counted s = record s { bytes = written s.bytes 0 (bytes_of 4 (iadd 32 (number (bytes_at s.bytes 0 4)) 1)) }

abbrev before_call : Activation
before_call = record (activation counting counting_body []) { code = plain (call 0) nothing }

-- 3 charges, and the number has grown by one
counts : {inst : Instance} {z : Focused} (s : Store) (ws : List Activation) (n m : ℕ) → 4 ≤ length s.bytes → m ≡ 3 + n → FocusedLeads inst (running (counted s) before_call ws) n z → FocusedLeads inst (running s (activation counting counting_body []) ws) m z
unfolding unsigned numbers.binary
counts {inst = inst} {z = z} s ws n m room e r =
    let sum : 0 + (0 + (1 + (0 + (1 + (1 + n))))) ≡ m = omega (arith, e) in
    let word = number (bytes_at s.bytes 0 4) in
    subst (λ w. FocusedLeads inst (running s (activation counting counting_body []) ws) w z) sum
    (steps 0 _ (refl, refl) (steps 0 _ (refl, refl) (steps 1 _ (refl, (0, _, refl, inl (omega (arith, room), refl))) (steps 0 _ (refl, refl)
    (steps 1 _ (refl, (word, 1, _, refl, inl (iadd 32 word 1, refl, refl)))
    (steps 1 n (refl, (0, iadd 32 word 1, [], refl, inl (omega (arith, room), refl))) r))))))

longer : (bs : List ℕ) (n : ℕ) → 4 ≤ length bs → 4 ≤ length (written bs 0 (bytes_of 4 n))
longer bs n room = omega arith

-- ---- all calls

deep : (inst : Instance) → slice_get inst.funcs 0 ≡ Some (own counting counting_body) → (left k : ℕ) (s : Store) (ws : List Activation)
    → length ws + suc left ≡ 128 → number (bytes_at s.bytes 0 4) ≡ k → k + suc left < 4294967296 → 4 ≤ length s.bytes
    → (s2 : Store) × FocusedLeads inst (running s (activation counting counting_body []) ws) (suc left * 4) (stopped s2 CallDepth) × (number (bytes_at s2.bytes 0 4) ≡ k + suc left) × (4 ≤ length s2.bytes)
deep inst at zero k s ws depth word small room = (
  counted s,
  counts s ws 1 4 room refl (steps 1 0 (refl, (_, at, ([], [], record { split = refl; count = refl }, inr (omega (arith, depth), refl)))) rests),
  read_again s.bytes _ (omega (arith, small, one_more _ k word (omega (arith, small)))) ∙ one_more _ k word (omega (arith, small)),
  longer s.bytes (iadd 32 (number (bytes_at s.bytes 0 4)) 1) room,
)
deep inst at (suc left) k s ws depth word small room =
    let sum = one_more (number (bytes_at s.bytes 0 4)) k word (omega (arith, small)) in
    let next = read_again s.bytes (iadd 32 (number (bytes_at s.bytes 0 4)) 1) (omega (arith, small, sum)) ∙ sum in
    let later = deep inst at left (k + 1) (counted s) (record before_call { code = nothing } ∷ ws) (omega (arith, depth)) next (omega (arith, small)) (longer s.bytes (iadd 32 (number (bytes_at s.bytes 0 4)) 1) room) in (
      later.0,
      counts s ws (1 + suc left * 4) (suc (suc left) * 4) room (omega arith) (steps 1 (suc left * 4) (refl, (_, at, ([], [], record { split = refl; count = refl }, inl (omega (arith, depth), refl)))) later.1),
      later.2 ∙ (let e : k + 1 + suc left ≡ k + suc (suc left) = omega arith in e),
      later.3,
    )

-- i32.const 0, i32.load
abbrev load_count : Code
load_count = plain (i32_const (pos 0)) (plain (load I32Load 2 0) nothing)

loads : (inst : Instance) (s : Store) (n : ℕ) → number (bytes_at s.bytes 0 4) ≡ n → 4 ≤ length s.bytes → Done inst (invoked s [] (I32 ∷ []) load_count []) s (value I32 n ∷ []) 1
unfolding unsigned
loads inst s n word room = after_agrees.0 inst (running s (activation (record { params = []; results = I32 ∷ [] }) (record { locals = []; code = load_count }) []) []) (finished s (value I32 n ∷ [])) 1 (
  steps 0 1 (refl, refl) (steps 1 0 (
    refl,
    (
      0,
      [],
      refl,
      inl (
        omega (arith, room),
        ap (λ m. running s (record {
          operands = value I32 m ∷ [];
          code = nothing;
          labels = record { carries = 1; next = nothing; beneath = []; after_end = nothing } ∷ [];
          locals = [];
          results = 1;
        }) []) (sym word),
      ),
    ),
  )
      (steps 0 0 (refl, inl (_, _, refl, refl)) (steps 0 0 (refl, inr (refl, refl, refl)) rests))),
  λ c x. x,
)

-- the call at depth 128 traps, after 512 charges; and what a load then finds is 128, the calls that have counted
pub calls_to_the_depth : (inst : Instance) → slice_get inst.funcs 0 ≡ Some (own counting counting_body) → (s : Store) → 4 ≤ length s.bytes → number (bytes_at s.bytes 0 4) ≡ 0
    → (s2 : Store) × Trapped inst (invoked s [] [] count_and_call []) s2 CallDepth 512 × Done inst (invoked s2 [] (I32 ∷ []) load_count []) s2 (value I32 128 ∷ []) 1
calls_to_the_depth inst at s room word =
    let r = deep inst at 127 0 s [] refl word (omega arith) room in
    (r.0, after_agrees.0 inst (running s (activation counting counting_body []) []) (stopped r.0 CallDepth) 512 (r.1, λ c x. x), loads inst r.0 128 r.2 r.3)
