-- What reading a whole module means.
use Rattle.std.proofs.Common.{◌≡◌, ℕ, ◌+◌, ◌≤◌, List, [], ◌++◌, length, ltb, Result, Ok, Err, refl, sym, ap, subst, ◌∙◌, inl, inr, arith}
use Rattle.std.proofs.lemmas.List.{append-nil}
use Rattle.std.proofs.lemmas.Bool.{ltb-true, ltb-false, lt-ltb, le-ltb, cond-true, cond-false}
use Rattle.wh_model.specs.declared.faults.FaultKind.{FaultKind}
use Rattle.wh_model.specs.declared.faults.FaultKind.TheVariants.{Limit}
use Rattle.wh_model.specs.Format.{Module, most_bytes, SmallModule, AreBytes, Spells, Small, IsBroken}
use Rattle.wh_model.specs.Format.Modules.{«module»}
use Rattle.wh_model.specs.declared.faults.DecodeError.{DecodeError}
use Rattle.wh_leb.specs.Reading.{◌>>=◌, fail}
use Rattle.wh_leb.proofs.Combinators.{bind_ok, bind_err, chosen, err_is}
use Rattle.wh_decode.specs.ReadingModule.{module_at, module_of}
use Rattle.wh_decode.proofs.ReadsModules.{reads_module}
use Rattle.wh_decode.proofs.SmallModules.{limited_module}

abbrev done : Module → Result Module DecodeError
done m = Ok m

done_is : (m n : Module) → done m ≡ done n → m ≡ n
done_is m n e = cc

pub module_found : (b : List ℕ) (m : Module) → AreBytes b → module_of b ≡ Ok m → Spells b m × Small b m
unfolding module_of Spells Small
module_found b m are e = elim (chosen (ltb most_bytes (length b)) (fail Limit most_bytes) (module_at b 0 >>= λ r. Ok r.0) (Ok m) e) [
  | inl h ↦ absurd cc
  | inr h ↦
      let p = bind_ok (module_at b 0) (λ r. Ok r.0) m h.1 in
      let f = reads_module.found b 0 p.0.0 p.0.1 (omega arith) p.1 in
      let none = reads_module.ends b 0 p.0.0 p.0.1 (omega arith) p.1 in
      let whole : f.0 ≡ b = sym (f.1 ∙ ap (λ (u : List ℕ). f.0 ++ u) none ∙ append-nil f.0) in
      let w = limited_module.loose p.0.0 f.0 f.3 in
      let here : «module».spells p.0.0 b = subst (λ (t : List ℕ). «module».spells p.0.0 t) whole w.0 in
      subst (λ (n : Module). (AreBytes b × «module».spells n b) × ((length b ≤ most_bytes) × SmallModule n)) (done_is p.0.0 m p.2) ((are, here), (ltb-false _ _ h.0, w.1))
]

pub module_only : (b : List ℕ) (m : Module) → Spells b m → Small b m → module_of b ≡ Ok m
unfolding module_of Spells Small
module_only b m s few =
    let w = limited_module.tight m b s.1 few.1 in
    let one = reads_module.only b 0 m b [] (omega arith) (sym (append-nil b)) refl w in
    cond-false (ltb most_bytes (length b)) (fail Limit most_bytes) (module_at b 0 >>= λ r. Ok r.0) (le-ltb most_bytes (length b) few.0) ∙ ap (λ q. q >>= λ r. done r.0) one

pub module_fault : (b : List ℕ) (d : DecodeError) → AreBytes b → module_of b ≡ Err d → IsBroken b d.kind d.offset
unfolding module_of IsBroken
module_fault b d are e = elim (chosen (ltb most_bytes (length b)) (fail Limit most_bytes) (module_at b 0 >>= λ r. Ok r.0) (Err d) e) [
  | inl h ↦ let q = err_is {A = Module} _ d h.1 in (are, inl (ltb-true _ _ h.0, sym (ap (λ (f : DecodeError). f.kind) q), sym (ap (λ (f : DecodeError). f.offset) q)))
  | inr h ↦ elim (bind_err (module_at b 0) (λ r. Ok r.0) d h.1) [
    | inl k ↦
        let f = reads_module.fault b 0 d (omega arith) k in
        (are, inr (ltb-false _ _ h.0, subst (λ (k : ℕ). «module».breaks b d.kind k) (sym (f.1 ∙ omega arith)) f.2))
    | inr p ↦ absurd cc
  ]
]

abbrev fault_of : FaultKind → ℕ → Result Module DecodeError
fault_of kind offset = Err (record { kind = kind; offset = offset })

-- what breaks is read as that fault
pub module_stops : (b : List ℕ) (kind : FaultKind) (offset : ℕ) → IsBroken b kind offset → module_of b ≡ Err (record { kind = kind; offset = offset })
unfolding module_of IsBroken
module_stops b kind offset w = elim w.1 [
  | inl h ↦
      cond-true (ltb most_bytes (length b)) (fail Limit most_bytes) (module_at b 0 >>= λ r. Ok r.0) (lt-ltb most_bytes (length b) h.0)
      ∙ ap (λ (k : FaultKind). fault_of k most_bytes) (sym h.1) ∙ ap (λ (n : ℕ). fault_of kind n) (sym h.2)
  | inr h ↦
      let one = reads_module.stops b 0 kind offset (omega arith) h.1 in
      let place : 0 + offset ≡ offset = omega arith in
      cond-false (ltb most_bytes (length b)) (fail Limit most_bytes) (module_at b 0 >>= λ r. Ok r.0) (le-ltb most_bytes (length b) h.0)
      ∙ ap (λ q. q >>= λ r. done r.0) one ∙ ap (λ (n : ℕ). fault_of kind n) place
]

-- ---- what follows for the definitions alone

pub fault_is : (kind kind2 : FaultKind) (offset offset2 : ℕ) → fault_of kind offset ≡ fault_of kind2 offset2 → (kind ≡ kind2) × (offset ≡ offset2)
fault_is kind kind2 offset offset2 e = let q = err_is {A = Module} _ _ e in (ap (λ (f : DecodeError). f.kind) q, ap (λ (f : DecodeError). f.offset) q)

pub one_fault : (b : List ℕ) (kind kind2 : FaultKind) (offset offset2 : ℕ) → IsBroken b kind offset → IsBroken b kind2 offset2 → (kind ≡ kind2) × (offset ≡ offset2)
one_fault b kind kind2 offset offset2 p q = fault_is kind kind2 offset offset2 (sym (module_stops b kind offset p) ∙ module_stops b kind2 offset2 q)

not_both : (m : Module) (kind : FaultKind) (offset : ℕ) → done m ≡ fault_of kind offset → ⊥
not_both m kind offset e = cc

pub fault_or_module : (b : List ℕ) (m : Module) (kind : FaultKind) (offset : ℕ) → IsBroken b kind offset → Spells b m → Small b m → ⊥
fault_or_module b m kind offset p s few = not_both m kind offset (sym (module_only b m s few) ∙ module_stops b kind offset p)

pub one_module : (b : List ℕ) (m n : Module) → Spells b m → Small b m → Spells b n → Small b n → m ≡ n
one_module b m n s few s2 few2 = done_is m n (sym (module_only b m s few) ∙ module_only b n s2 few2)
