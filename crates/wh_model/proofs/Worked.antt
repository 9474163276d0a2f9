-- Runs that are worked out by hand.
use Rattle.std.proofs.Common.{◌≡◌, ℕ, zero, suc, ◌+◌, Bool, true, false, length, List, ◌-◌, take, drop, replicate, sym, subst, ap, ◌∙◌, [], ◌∷◌, refl, pos, negsuc, Some, None, arith, reverse, inl, inr}
use Rattle.std.proofs.lemmas.List.{length-replicate}
use Rattle.wh_model.specs.declared.ValType.{ValType}
use Rattle.wh_model.specs.declared.ValType.TheVariants.{I32}
use Rattle.wh_model.specs.declared.BinaryOp.TheVariants.{Add, DivS, RemS}
use Rattle.wh_model.specs.declared.Trap.{Trap}
use Rattle.wh_model.specs.declared.Trap.TheVariants.{DivideByZero, Overflow, OutOfBounds}
use Rattle.wh_model.specs.declared.LoadOp.TheVariants.{I32Load}
use Rattle.wh_model.specs.Execution.Numbers as numbers
use Rattle.wh_model.specs.Execution.{unsigned, signed, quotient, idiv_s, irem_s, Value, value, number, bytes_at}
use Rattle.wh_model.specs.Format.{Code, nothing, plain, block, loop, i32_const, br, br_table, local_get, return, binary, load}
use Rattle.wh_model.specs.Execution.Store.{Instance, Store}
use Rattle.wh_model.specs.Focus.Focused.{Focused}
use Rattle.wh_model.specs.Focus.{running, finished, stopped, activation, plug, Steps, FocusedLeads, rests, steps}
use Rattle.wh_model.specs.Laws.{invoked, Done, Trapped, StandsForFuel}
use Rattle.wh_model.proofs.Agrees.{after_agrees}
use Rattle.wh_model.proofs.StepsReduce.{steps_reduce}

-- ---- runs of the focused form

-- a call from outside
abbrev begun : Store → List ValType → List ValType → Code → List Value → Focused
begun s params results body args = running s (activation (record { params = params; results = results }) (record { locals = []; code = body }) (reverse args)) []

done : {inst : Instance} (s s2 : Store) (params results : List ValType) (body : Code) (args vs : List Value) (n : ℕ) → FocusedLeads inst (begun s params results body args) n (finished s2 (reverse vs)) → Done inst (invoked s params results body args) s2 vs n
done {inst = inst} s s2 params results body args vs n r = after_agrees.0 inst (begun s params results body args) (finished s2 (reverse vs)) n (r, λ c x. x)

trapped_by : {inst : Instance} (s s2 : Store) (params results : List ValType) (body : Code) (args : List Value) (x : Trap) (n : ℕ) → FocusedLeads inst (begun s params results body args) n (stopped s2 x) → Trapped inst (invoked s params results body args) s2 x n
trapped_by {inst = inst} s s2 params results body args x n r = after_agrees.0 inst (begun s params results body args) (stopped s2 x) n (r, λ c x. x)

-- ---- branches

-- block (result i32), i32.const 1, br 0, i32.add, end
abbrev branch_out : Code
branch_out = block (Some I32) (plain (i32_const (pos 1)) (plain (br 0) (plain (binary I32 Add) nothing))) nothing

-- 1 after 2 charges; what stands behind the branch is never reached
pub branches_out : (inst : Instance) (s : Store) → Done inst (invoked s [] (I32 ∷ []) branch_out []) s (value I32 1 ∷ []) 2
unfolding unsigned
branches_out inst s = done s s [] (I32 ∷ []) branch_out [] (value I32 1 ∷ []) 2
    (steps 1 1 (refl, refl) (steps 0 1 (refl, refl) (steps 1 0 (refl, ([], _, _, refl, refl, value I32 1 ∷ [], [], record { split = refl; count = refl }, refl))
    (steps 0 0 (refl, inl (_, _, refl, refl)) (steps 0 0 (refl, inr (refl, refl, refl)) rests)))))

-- block (result i32), i32.const 5, i32.const 7, br 0, end
abbrev branch_over : Code
branch_over = block (Some I32) (plain (i32_const (pos 5)) (plain (i32_const (pos 7)) (plain (br 0) nothing))) nothing

-- 7 after 2 charges; the 5 is dropped
pub branches_over : (inst : Instance) (s : Store) → Done inst (invoked s [] (I32 ∷ []) branch_over []) s (value I32 7 ∷ []) 2
unfolding unsigned
branches_over inst s = done s s [] (I32 ∷ []) branch_over [] (value I32 7 ∷ []) 2
    (steps 1 1 (refl, refl) (steps 0 1 (refl, refl) (steps 0 1 (refl, refl)
    (steps 1 0 (refl, ([], _, _, refl, refl, value I32 7 ∷ [], value I32 5 ∷ [], record { split = refl; count = refl }, refl))
    (steps 0 0 (refl, inl (_, _, refl, refl)) (steps 0 0 (refl, inr (refl, refl, refl)) rests))))))

-- block, block, local.get 0, br_table 0 1, end, i32.const 10, return, end, i32.const 20
abbrev table_body : Code
table_body = block None (block None (plain (local_get 0) (plain (br_table (0 ∷ []) 1) nothing)) (plain (i32_const (pos 10)) (plain return nothing))) (plain (i32_const (pos 20)) nothing)

-- at 0 it is 10 after 5 charges
pub table_first : (inst : Instance) (s : Store) → Done inst (invoked s (I32 ∷ []) (I32 ∷ []) table_body (value I32 0 ∷ [])) s (value I32 10 ∷ []) 5
unfolding unsigned
table_first inst s = done s s (I32 ∷ []) (I32 ∷ []) table_body (value I32 0 ∷ []) (value I32 10 ∷ []) 5
    (steps 1 4 (refl, refl) (steps 1 3 (refl, refl) (steps 1 2 (refl, (_, refl, refl))
    (steps 1 1 (refl, (0, _, refl, ([], _, _, refl, refl, [], [], record { split = refl; count = refl }, refl)))
    (steps 0 1 (refl, refl) (steps 1 0 (refl, (value I32 10 ∷ [], [], record { split = refl; count = refl }, refl)) rests))))))

-- past the list it is 20 after 4 charges: at 1, and at -1, which is unsigned
pub table_last : (inst : Instance) (s : Store) → Done inst (invoked s (I32 ∷ []) (I32 ∷ []) table_body (value I32 1 ∷ [])) s (value I32 20 ∷ []) 4
unfolding unsigned
table_last inst s = done s s (I32 ∷ []) (I32 ∷ []) table_body (value I32 1 ∷ []) (value I32 20 ∷ []) 4
    (steps 1 3 (refl, refl) (steps 1 2 (refl, refl) (steps 1 1 (refl, (_, refl, refl))
    (steps 1 0 (refl, (1, _, refl, (_ ∷ [], _, _, refl, refl, [], [], record { split = refl; count = refl }, refl)))
    (steps 0 0 (refl, refl) (steps 0 0 (refl, inl (_, _, refl, refl)) (steps 0 0 (refl, inr (refl, refl, refl)) rests)))))))

pub table_beyond : (inst : Instance) (s : Store) → Done inst (invoked s (I32 ∷ []) (I32 ∷ []) table_body (value I32 4294967295 ∷ [])) s (value I32 20 ∷ []) 4
unfolding unsigned
table_beyond inst s = done s s (I32 ∷ []) (I32 ∷ []) table_body (value I32 4294967295 ∷ []) (value I32 20 ∷ []) 4
    (steps 1 3 (refl, refl) (steps 1 2 (refl, refl) (steps 1 1 (refl, (_, refl, refl))
    (steps 1 0 (refl, (4294967295, _, refl, (_ ∷ [], _, _, refl, refl, [], [], record { split = refl; count = refl }, refl)))
    (steps 0 0 (refl, refl) (steps 0 0 (refl, inl (_, _, refl, refl)) (steps 0 0 (refl, inr (refl, refl, refl)) rests)))))))

-- ---- numbers

-- i32.const -2147483648, i32.const -1, and an operator
abbrev least_by_minus_one : Code → Code
least_by_minus_one rest = plain (i32_const (negsuc 2147483647)) (plain (i32_const (negsuc 0)) rest)

-- the quotient is no i32: a trap after 1 charge
pub quotient_traps : (inst : Instance) (s : Store) → Trapped inst (invoked s [] (I32 ∷ []) (least_by_minus_one (plain (binary I32 DivS) nothing)) []) s Overflow 1
unfolding unsigned numbers.binary idiv_s quotient signed
quotient_traps inst s = trapped_by s s [] (I32 ∷ []) (least_by_minus_one (plain (binary I32 DivS) nothing)) [] Overflow 1
    (steps 0 1 (refl, refl) (steps 0 1 (refl, refl) (steps 1 0 (refl, (2147483648, 4294967295, [], refl, inr (Overflow, refl, refl))) rests)))

-- the remainder is 0
pub remainder_is_zero : (inst : Instance) (s : Store) → Done inst (invoked s [] (I32 ∷ []) (least_by_minus_one (plain (binary I32 RemS) nothing)) []) s (value I32 0 ∷ []) 1
unfolding unsigned numbers.binary irem_s quotient signed
remainder_is_zero inst s = done s s [] (I32 ∷ []) (least_by_minus_one (plain (binary I32 RemS) nothing)) [] (value I32 0 ∷ []) 1
    (steps 0 1 (refl, refl) (steps 0 1 (refl, refl) (steps 1 0 (refl, (2147483648, 4294967295, [], refl, inl (0, refl, refl)))
    (steps 0 0 (refl, inl (_, _, refl, refl)) (steps 0 0 (refl, inr (refl, refl, refl)) rests)))))

-- and by 0 it is another trap
pub by_zero_traps : (inst : Instance) (s : Store) → Trapped inst (invoked s [] (I32 ∷ []) (plain (i32_const (negsuc 2147483647)) (plain (i32_const (pos 0)) (plain (binary I32 DivS) nothing))) []) s DivideByZero 1
unfolding unsigned numbers.binary idiv_s
by_zero_traps inst s = trapped_by s s [] (I32 ∷ []) (plain (i32_const (negsuc 2147483647)) (plain (i32_const (pos 0)) (plain (binary I32 DivS) nothing))) [] DivideByZero 1
    (steps 0 1 (refl, refl) (steps 0 1 (refl, refl) (steps 1 0 (refl, (2147483648, 0, [], refl, inr (DivideByZero, refl, refl))) rests)))

-- ---- fuel

-- loop, br 0, end
abbrev endless : Code
endless = loop None (plain (br 0) nothing) nothing

-- before the loop, and inside it
abbrev around_loop : Store → Bool → Focused
around_loop s false = begun s [] [] endless []
around_loop s true = running s (record {
  operands = [];
  code = plain (br 0) nothing;
  labels = record { carries = 0; next = endless; beneath = []; after_end = nothing } ∷ record { carries = 0; next = nothing; beneath = []; after_end = nothing } ∷ [];
  locals = [];
  results = 0;
}) []

-- there is a charged step next, and none that is free
abbrev Waits : Instance → Focused → Type 0
Waits inst c = ((c2 : Focused) × Steps inst c 1 c2) × ((c2 : Focused) → Steps inst c 0 c2 → ⊥)

goes_round : (inst : Instance) (s : Store) (n : ℕ) (is_inside : Bool) → (c : Focused) × FocusedLeads inst (around_loop s is_inside) n c × Waits inst c
goes_round inst s zero false = (around_loop s false, rests, ((around_loop s true, (refl, refl)), λ c x. let h = x.0 in absurd (omega arith)))
goes_round inst s zero true =
    (around_loop s true, rests, ((around_loop s false, (refl, ([], _, _, refl, refl, [], [], record { split = refl; count = refl }, refl))), λ c x. let h = x.0 in absurd (omega arith)))
goes_round inst s (suc n) false =
    let r = goes_round inst s n true in
    let e : 1 + n ≡ suc n = omega arith in
    (r.0, subst (λ w. FocusedLeads inst (around_loop s false) w r.0) e (steps 1 n (refl, refl) r.1), r.2)
goes_round inst s (suc n) true =
    let r = goes_round inst s n false in
    let e : 1 + n ≡ suc n = omega arith in
    (r.0, subst (λ w. FocusedLeads inst (around_loop s true) w r.0) e (steps 1 n (refl, ([], _, _, refl, refl, [], [], record { split = refl; count = refl }, refl)) r.1), r.2)

-- an endless loop is blocked on fuel after any number of charges
pub loop_stands : (inst : Instance) (s : Store) (n : ℕ) → StandsForFuel inst (invoked s [] [] endless []) n
loop_stands inst s n =
    let r = goes_round inst s n false in
    (plug r.0, after_agrees.0 inst (around_loop s false) r.0 n (r.1, r.2.1), plug r.2.0.0, steps_reduce inst r.0 r.2.0.0 1 r.2.0.1)

-- ---- memory

-- local.get 0, i32.load
abbrev load_there : ℕ → Code
load_there offset = plain (local_get 0) (plain (load I32Load 2 offset) nothing)

number_zeros : (n i k : ℕ) → number (take k (drop i (replicate n 0))) ≡ 0
number_zeros n i zero = refl
number_zeros zero zero (suc k) = refl
number_zeros zero (suc i) (suc k) = refl
number_zeros (suc n) zero (suc k) = let r = number_zeros n zero k in omega arith
number_zeros (suc n) (suc i) (suc k) = number_zeros n i (suc k)

zeros_at : (bs : List ℕ) (n i k : ℕ) → bs ≡ replicate n 0 → number (bytes_at bs i k) ≡ 0
zeros_at bs n i k e = let h : i + k - i ≡ k = omega arith in rw (e, h) (number_zeros n i k)

-- in a page of zeros the last word is 0
pub last_word : (inst : Instance) (s : Store) → s.bytes ≡ replicate 65536 0 → Done inst (invoked s (I32 ∷ []) (I32 ∷ []) (load_there 0) (value I32 65532 ∷ [])) s (value I32 0 ∷ []) 2
last_word inst s zeros =
    let size : length s.bytes ≡ 65536 = ap length zeros ∙ length-replicate {A = ℕ} 65536 0 in
    done s s (I32 ∷ []) (I32 ∷ []) (load_there 0) (value I32 65532 ∷ []) (value I32 0 ∷ []) 2
    (steps 1 1 (refl, (_, refl, refl)) (steps 1 0 (
      refl,
      (
        65532,
        [],
        refl,
        inl (
          omega arith,
          ap (λ n. running s (record {
            operands = value I32 n ∷ [];
            code = nothing;
            labels = record { carries = 1; next = nothing; beneath = []; after_end = nothing } ∷ [];
            locals = value I32 65532 ∷ [];
            results = 1;
          }) []) (sym (zeros_at s.bytes 65536 65532 4 zeros)),
        ),
      ),
    )
    (steps 0 0 (refl, inl (_, _, refl, refl)) (steps 0 0 (refl, inr (refl, refl, refl)) rests))))

-- and one byte further on is a trap
pub beyond_word : (inst : Instance) (s : Store) → length s.bytes ≡ 65536 → Trapped inst (invoked s (I32 ∷ []) (I32 ∷ []) (load_there 0) (value I32 65533 ∷ [])) s OutOfBounds 2
beyond_word inst s size = trapped_by s s (I32 ∷ []) (I32 ∷ []) (load_there 0) (value I32 65533 ∷ []) OutOfBounds 2
    (steps 1 1 (refl, (_, refl, refl)) (steps 1 0 (refl, (65533, [], refl, inr (omega arith, refl))) rests))

-- an address isn't wrapped
pub address_grows : (inst : Instance) (s : Store) → length s.bytes ≡ 65536 → Trapped inst (invoked s (I32 ∷ []) (I32 ∷ []) (load_there 1) (value I32 4294967295 ∷ [])) s OutOfBounds 2
address_grows inst s size = trapped_by s s (I32 ∷ []) (I32 ∷ []) (load_there 1) (value I32 4294967295 ∷ []) OutOfBounds 2
    (steps 1 1 (refl, (_, refl, refl)) (steps 1 0 (refl, (4294967295, [], refl, inr (omega arith, refl))) rests))
