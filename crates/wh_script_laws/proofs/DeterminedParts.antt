-- What comes of a module, an instance and a call is determined.
use Rattle.std.proofs.Common.{◌≡◌, ◌≢◌, ℕ, zero, suc, ◌<◌, false, List, [], ◌∷◌, ◌++◌, length, slice_get, Some, ℤ, refl, sym, ap, subst, ◌∙◌, arith}
use Rattle.std.specs.List.{AllByRecursion}
use Rattle.std.proofs.lemmas.Bool.{false≢true}
use Rattle.std.proofs.lemmas.Option.{none-some, same_Some}
use Rattle.wh_model.specs.declared.ValType.{ValType}
use Rattle.wh_model.specs.declared.ValType.TheVariants.{I32, I64}
use Rattle.wh_model.specs.declared.faults.FaultKind.{FaultKind}
use Rattle.wh_model.specs.declared.faults.ImportFault.{ImportFault}
use Rattle.wh_model.specs.Format.{fault_number, import_number, FuncType, Body, Export, Module, IsBroken}
use Rattle.wh_model.specs.Validity.Valid.{Valid}
use Rattle.wh_model.specs.Validity.{DifferentNames, Fits}
use Rattle.wh_model.specs.Linking.{Links, IsFirstFault, IsModule, IsAccepted}
use Rattle.wh_model.specs.Execution.Store.{Instance, Store}
use Rattle.wh_model.specs.Execution.{Value, own, Piece, begins}
use Rattle.wh_model.proofs.Instance.{one_beginning}
use Rattle.wh_model.proofs.LinkingLemmas.{one_first_fault, links_no_fault}
use Rattle.wh_decode.proofs.Modules.{one_fault, fault_or_module, one_module}
use Rattle.wh_host_model.specs.{Params, given_of, admit_rank, most_modules, IsArgument, AreArguments, ExportsOwn, rank, new_entry}
use Rattle.wh_script_model.specs.Settings.{Settings}
use Rattle.wh_script_model.specs.{Refusal, broken, unlinked, Reply, module_refused, admit_refused, NamedInstance, call_rejected, call_accepted, with_instance, with_invoked, RejectsModule, is_broken, is_invalid, is_unlinked, is_full, ReceivesModule, module_is_kept, module_isnt_kept, module_out_of_memory, new_instance, ReceivesInstance, is_admitted, isnt_admitted, admission_out_of_memory, ReceivesCall, instance_is_gone, isnt_invoked, is_invoked, call_out_of_memory}
use Rattle.wh_script_model.specs.ScriptState.{ScriptState}
use Rattle.wh_script_laws.specs.Determined.{IsAlike, is_same, both_invalid}

-- ---- modules

one_meant : (bytes : List ℕ) (m n : Module) → IsModule bytes m → IsModule bytes n → m ≡ n
one_meant bytes m n a b = one_module bytes m n a.spelled a.small b.spelled b.small

not_broken : (bytes : List ℕ) (m : Module) (kind : FaultKind) (offset : ℕ) → IsBroken bytes kind offset → IsModule bytes m → ⊥
not_broken bytes m kind offset broken_so a = fault_or_module bytes m kind offset broken_so a.spelled a.small

alike_by : (a b : Reply) → a ≡ b → IsAlike a b
alike_by a b e = subst (IsAlike a) e is_same

invalid_or : (bytes : List ℕ) (m n : Module) → IsModule bytes m → ¬ (Valid m × Fits m) → IsModule bytes n → Valid n → Fits n → ⊥
invalid_or bytes m n a never b valid fits =
    let same = one_meant bytes n m b a in never (subst Valid same valid, subst Fits same fits)

unlinked_or : (bytes : List ℕ) (m n : Module) (fault : ImportFault) (place : ℕ) → IsModule bytes m → IsFirstFault m fault place
    → IsAccepted bytes n → ⊥
unlinked_or bytes m n fault place a first accepted =
    links_no_fault m fault place (subst Links (one_meant bytes n m accepted.is_module a) accepted.links) first

kept_or : (w : ScriptState) (bytes : List ℕ) (m : Module) (why : Refusal) → IsAccepted bytes m → length w.modules < most_modules
    → RejectsModule w bytes why → ⊥
kept_or w bytes m why accepted room (is_broken kind {offset = k} b) = not_broken bytes m kind k b accepted.is_module
kept_or w bytes m why accepted room (is_invalid {m = n} kind a never valid_fault) =
    invalid_or bytes n m a never accepted.is_module accepted.valid accepted.fits
kept_or w bytes m why accepted room (is_unlinked {m = n} fault {place = k} a valid fits first) = unlinked_or bytes n m fault k a first accepted
kept_or w bytes m why accepted room (is_full other full) = omega (arith, room, full)

-- why a module isn't kept, but for which fault of the validator
refused_once : (w : ScriptState) (name bytes : List ℕ) {why why2 : Refusal} → RejectsModule w bytes why → RejectsModule w bytes why2
    → IsAlike (module_refused name why) (module_refused name why2)
refused_once w name bytes (is_broken kind {offset = k} a) (is_broken kind2 {offset = k2} b) =
    let same = one_fault bytes kind kind2 k k2 a b in
    alike_by _ _ (ap (λ x. module_refused name (broken (fault_number x) k)) same.0 ∙ ap (λ x. module_refused name (broken (fault_number kind2) x)) same.1)
refused_once w name bytes (is_broken kind {offset = k} a) (is_invalid {m = n} kind2 b never fault) = absurd (not_broken bytes n kind k a b)
refused_once w name bytes (is_broken kind {offset = k} a) (is_unlinked {m = n} fault b valid fits first) = absurd (not_broken bytes n kind k a b)
refused_once w name bytes (is_broken kind {offset = k} a) (is_full {m = n} b full) = absurd (not_broken bytes n kind k a b.is_module)
refused_once w name bytes (is_invalid {m = m} kind a never fault) (is_broken kind2 {offset = k} b) = absurd (not_broken bytes m kind2 k b a)
refused_once w name bytes (is_invalid kind a never fault) (is_invalid kind2 b never2 fault2) = both_invalid kind kind2 fault fault2
refused_once w name bytes (is_invalid {m = m} kind a never fault) (is_unlinked {m = n} other b valid fits first) = absurd (invalid_or bytes m n a never b valid fits)
refused_once w name bytes (is_invalid {m = m} kind a never fault) (is_full {m = n} b full) = absurd (invalid_or bytes m n a never b.is_module b.valid b.fits)
refused_once w name bytes (is_unlinked {m = m} fault a valid fits first) (is_broken kind {offset = k} b) = absurd (not_broken bytes m kind k b a)
refused_once w name bytes (is_unlinked {m = m} other a valid fits first) (is_invalid {m = n} kind b never fault) = absurd (invalid_or bytes n m b never a valid fits)
refused_once w name bytes (is_unlinked {m = m} f {place = p} a valid fits first) (is_unlinked {m = n} g {place = q} b valid2 fits2 first2) =
    let one = one_meant bytes n m b a in
    let same = one_first_fault m f g p q first (subst (λ (x : Module). IsFirstFault x g q) one first2) in
    alike_by _ _ (ap (λ x. module_refused name (unlinked (import_number x) p)) same.0 ∙ ap (λ x. module_refused name (unlinked (import_number g) x)) same.1)
refused_once w name bytes (is_unlinked {m = m} f {place = p} a valid fits first) (is_full {m = n} b full) = absurd (unlinked_or bytes m n f p a first b)
refused_once w name bytes (is_full {m = m} a full) (is_broken kind {offset = k} b) = absurd (not_broken bytes m kind k b a.is_module)
refused_once w name bytes (is_full {m = m} a full) (is_invalid {m = n} kind b never fault) = absurd (invalid_or bytes n m b never a.is_module a.valid a.fits)
refused_once w name bytes (is_full {m = m} a full) (is_unlinked {m = n} f {place = p} b valid fits first) = absurd (unlinked_or bytes n m f p b first a)
refused_once w name bytes (is_full a full) (is_full b full2) = is_same

pub module_once : (w : ScriptState) (name bytes : List ℕ) {reply reply2 : Reply} {a b : ScriptState} → ReceivesModule false w name bytes reply a
    → ReceivesModule false w name bytes reply2 b → IsAlike reply reply2 × (a ≡ b)
module_once w name bytes (module_is_kept {m = m} x room) (module_is_kept {m = n} y room2) =
    (is_same, ap (λ (k : Module). record w { modules = w.modules ++ record { name = name; m = k } ∷ [] }) (one_meant bytes m n x.is_module y.is_module))
module_once w name bytes (module_is_kept {m = m} x room) (module_isnt_kept {why = why} y) = absurd (kept_or w bytes m why x room y)
module_once w name bytes (module_is_kept x room) (module_out_of_memory s y) = absurd (false≢true s)
module_once w name bytes (module_isnt_kept {why = why} x) (module_is_kept {m = n} y room) = absurd (kept_or w bytes n why y room x)
module_once w name bytes (module_isnt_kept x) (module_isnt_kept y) = (refused_once w name bytes x y, refl)
module_once w name bytes (module_isnt_kept x) (module_out_of_memory s y) = absurd (false≢true s)
module_once w name bytes (module_out_of_memory s x) y = absurd (false≢true s)

-- ---- the first of faults in an order

-- of two that are the first ones
one_first : (m n : ℕ) → ¬ (m < n) → ¬ (n < m) → m ≡ n
one_first m n p q = omega (arith, p, q)

-- ---- instances

begin_same : (inst inst2 : Instance) (s s2 : Store) (ps ps2 : List Piece) → begins inst s ps ≡ begins inst2 s2 ps2
    → (inst ≡ inst2) × (ps ≡ ps2)
begin_same inst inst2 s s2 ps ps2 e = (cc e, cc e)

pub guest_once : (settings : Settings) (w : ScriptState) (name : List ℕ) (m : Module) (p : Params) {reply reply2 : Reply} {a b : ScriptState}
    → ReceivesInstance false settings w name m p reply a → ReceivesInstance false settings w name m p reply2 b
    → IsAlike reply reply2 × (a ≡ b)
guest_once settings w name m p (is_admitted {inst = i} {s = s} {pieces = ps} none x) (is_admitted {inst = j} {s = s2} {pieces = ps2} none2 y) =
    let same = begin_same i j s s2 ps ps2 (one_beginning m (given_of p) _ _ x y) in (
      is_same,
      ap (λ (k : Instance). record w { instances = w.instances ++ new_instance name m p k ps ∷ [] }) same.0
          ∙ ap (λ (k : List Piece). record w { instances = w.instances ++ new_instance name m p j k ∷ [] }) same.1,
    )
guest_once settings w name m p (is_admitted none x) (isnt_admitted fault y) = absurd (none fault y.0)
guest_once settings w name m p (is_admitted none x) (admission_out_of_memory s y) = absurd (false≢true s)
guest_once settings w name m p (isnt_admitted fault x) (is_admitted none y) = absurd (none fault x.0)
guest_once settings w name m p (isnt_admitted fault x) (isnt_admitted fault2 y) =
    let same : admit_rank fault ≡ admit_rank fault2 = one_first (admit_rank fault) (admit_rank fault2) (λ less. y.1 fault less x.0) (λ less. x.1 fault2 less y.0) in
    (alike_by _ _ (ap (λ k. admit_refused name k) same), refl)
guest_once settings w name m p (isnt_admitted fault x) (admission_out_of_memory s y) = absurd (false≢true s)
guest_once settings w name m p (admission_out_of_memory s x) y = absurd (false≢true s)

-- ---- calls

-- a name is exported once
not_among : (es : List Export) (name : List ℕ) (i : ℕ) (e : Export) → AllByRecursion (λ (other : Export). other.name ≢ name) es
    → slice_get es i ≡ Some e → e.name ≡ name → ⊥
not_among [] name i e all at is = none-some e at
not_among (x ∷ es) name zero e all at is = all.0 (ap (λ (y : Export). y.name) (same_Some x e at) ∙ is)
not_among (x ∷ es) name (suc i) e all at is = not_among es name i e all.1 at is

exported_once : (es : List Export) (i j : ℕ) (d e : Export) → DifferentNames es → slice_get es i ≡ Some d → slice_get es j ≡ Some e
    → d.name ≡ e.name → d ≡ e
exported_once [] i j d e differ at at2 is = absurd (none-some d at)
exported_once (x ∷ es) zero zero d e differ at at2 is = same_Some d e (sym at ∙ at2)
exported_once (x ∷ es) zero (suc j) d e differ at at2 is =
    absurd (not_among es x.name j e differ.0 at2 (sym is ∙ ap (λ (y : Export). y.name) (sym (same_Some x d at))))
exported_once (x ∷ es) (suc i) zero d e differ at at2 is =
    absurd (not_among es x.name i d differ.0 at (is ∙ ap (λ (y : Export). y.name) (sym (same_Some x e at2))))
exported_once (x ∷ es) (suc i) (suc j) d e differ at at2 is = exported_once es i j d e differ.1 at at2 is

names_differ : (m : Module) → Valid m → DifferentNames m.exports
unfolding Valid
names_differ m valid = valid.1.names

own_same : (type type2 : FuncType) (body body2 : Body) → own type body ≡ own type2 body2 → type ≡ type2
own_same type type2 body body2 e = cc e

export_once : (m : Module) (inst : Instance) (name : List ℕ) (x y : ℕ) (type type2 : FuncType) (body body2 : Body) → Valid m
    → ExportsOwn m inst name x type body → ExportsOwn m inst name y type2 body2 → (x ≡ y) × (type ≡ type2)
export_once m inst name x y type type2 body body2 valid a b =
    let one = exported_once m.exports a.place b.place _ _ (names_differ m valid) a.exported b.exported refl in
    let index : x ≡ y = ap (λ (e : Export). e.index) one in
    let same = same_Some _ _ (sym a.is_own ∙ ap (slice_get inst.funcs) index ∙ b.is_own) in
    (index, own_same type type2 body body2 same)

argument_once : (t : ValType) (n : ℤ) (v u : Value) → IsArgument t n v → IsArgument t n u → v ≡ u
argument_once I32 n v u a b = a.2 ∙ sym b.2
argument_once I64 n v u a b = a.2 ∙ sym b.2

arguments_once : (ts : List ValType) (ns : List ℤ) (vs us : List Value) → AreArguments ts ns vs → AreArguments ts ns us → vs ≡ us
arguments_once [] [] vs us a b = a ∙ sym b
arguments_once [] (n ∷ ns) vs us a b = absurd a
arguments_once (t ∷ ts) [] vs us a b = absurd a
arguments_once (t ∷ ts) (n ∷ ns) vs us (v, rest, is, e, more) (u, rest2, is2, e2, more2) =
    let here = argument_once t n v u is is2 in
    let others = arguments_once ts ns rest rest2 more more2 in
    cc (e, e2, here, others)

-- the call is taken on, with these arguments
taken : ScriptState → ℕ → NamedInstance → ℕ → List Value → List ℤ → ℕ → ScriptState
taken w i g x vs given fuel =
    with_invoked (with_instance w i (record g { calls = g.calls ++ (new_entry x vs given fuel).call ∷ [] })) (call_accepted i (length g.calls))

pub call_once : (w : ScriptState) (i : ℕ) (g : NamedInstance) (name : List ℕ) (fuel : ℕ) (given : List ℤ) {a b : ScriptState} → Valid g.m
    → ReceivesCall false w i g name fuel given a → ReceivesCall false w i g name fuel given b → a ≡ b
unfolding taken
call_once w i g name fuel given valid (instance_is_gone e) (instance_is_gone f) = refl
call_once w i g name fuel given valid (instance_is_gone e) (isnt_invoked fault f first) = absurd (false≢true (sym f ∙ e))
call_once w i g name fuel given valid (instance_is_gone e) (is_invoked vs f none exports args) = absurd (false≢true (sym f ∙ e))
call_once w i g name fuel given valid (instance_is_gone e) (call_out_of_memory s f none) = absurd (false≢true s)
call_once w i g name fuel given valid (isnt_invoked fault e first) (instance_is_gone f) = absurd (false≢true (sym e ∙ f))
call_once w i g name fuel given valid (isnt_invoked fault e first) (isnt_invoked fault2 f first2) =
    let same : rank fault ≡ rank fault2 = one_first (rank fault) (rank fault2) (λ less. first2.1 fault less first.0) (λ less. first.1 fault2 less first2.0) in
    ap (λ k. with_invoked w (call_rejected k)) same
call_once w i g name fuel given valid (isnt_invoked fault e first) (is_invoked vs f none exports args) = absurd (none fault first.0)
call_once w i g name fuel given valid (isnt_invoked fault e first) (call_out_of_memory s f none) = absurd (false≢true s)
call_once w i g name fuel given valid (is_invoked vs e none exports args) (instance_is_gone f) = absurd (false≢true (sym e ∙ f))
call_once w i g name fuel given valid (is_invoked vs e none exports args) (isnt_invoked fault f first) = absurd (none fault first.0)
call_once w i g name fuel given valid (is_invoked {x = x} {type = t} {body = d} vs e none exports args) (is_invoked {x = y} {type = t2} {body = d2} us f none2 exports2 args2) =
    let same = export_once g.m g.inst name x y t t2 d d2 valid exports exports2 in
    let values = arguments_once t.params given vs us args (subst (λ (k : FuncType). AreArguments k.params given us) (sym same.1) args2) in
    ap (λ (k : ℕ). taken w i g k vs given fuel) same.0 ∙ ap (λ (k : List Value). taken w i g y k given fuel) values
call_once w i g name fuel given valid (is_invoked vs e none exports args) (call_out_of_memory s f other) = absurd (false≢true s)
call_once w i g name fuel given valid (call_out_of_memory s e none) y = absurd (false≢true s)
