-- Turns of a call: from its pieces, from its invocation, and from where it is under way.
use Rattle.std.proofs.Common.{◌≡◌, ℕ, ◌+◌, ◌≤◌, List, [], ◌∷◌, ◌++◌, Option, Some, None, length, reverse, refl, sym, ap, subst, ◌∙◌, arith, length-append, rules}
use Rattle.std.specs.List.{AllByRecursion}
use Rattle.wh_model.specs.declared.memory.Need.{Need}
use Rattle.wh_model.specs.Format.{nothing, FuncType, Body}
use Rattle.wh_model.specs.Validity.{Context}
use Rattle.wh_model.specs.Execution.Store.{Instance}
use Rattle.wh_model.specs.Execution.{Value, Term, called, Config, config, stays, After, Piece, Within, returned, Call, Invocation}
use Rattle.wh_model.specs.Execution.Memory.{writing}
use Rattle.wh_model.specs.Laws.{InOnePage}
use Rattle.wh_host_model.specs.Host.{Rest, resting, has_left, computing, store_with, Opens, by_invocation, as_it_was, to_end, to_wait, Proceeds, writes_all, waits_to_write}
use Rattle.wh_control.specs.Represents.{result_of}
use Rattle.wh_control.specs.Parts.{ProgramParts}
use Rattle.wh_control.specs.declared.store.Store as code_store
use Rattle.wh_machine.specs.declared.machine.Machine.{Machine}
use Rattle.wh_machine.specs.Opening.{IsOwnCall, CanBegin, BeginsCall}
use Rattle.wh_machine.specs.MachineRuns.{RepresentsInstance, IsSettledIn}
use Rattle.wh_machine.specs.CallStates.{CallState, Setting, HasConfiguration, call_state}
use Rattle.wh_instance.specs.declared.computing.TurnOutcome.{TurnOutcome}
use Rattle.wh_instance.specs.declared.computing.TurnOutcome.TheVariants as came
use Rattle.wh_instance.specs.Pieces.{HasWritten, NextWaits}
use Rattle.wh_instance.specs.Computed.{ComputesWithin}
use Rattle.wh_instance.specs.Turned.{HasRest, IsStarting, IsFaced, IsComputing, Turns}
use Rattle.wh_instance.proofs.Written.{all_behind, all_written}
use Rattle.wh_instance.proofs.Opened.{turns_as}

-- ---- other bytes

other_instance : {p : ProgramParts} {k : code_store.Store} {flat : List ℕ} {most : ℕ} {c : Context} {inst : Instance} (r : Rest) (flat2 : List ℕ) → RepresentsInstance p k flat most c inst (store_with flat r) → RepresentsInstance p k flat2 most c inst (store_with flat2 r)
other_instance r flat2 st = search rules

-- the machine and the memory may be others
pub other_bytes : {M : Type 0} (w : Setting M) (before : CallState M) (machine : Machine) (m2 : M) (inst : Instance) (r : Rest) → HasRest w before inst r → HasRest w (call_state machine before.store m2) inst r
other_bytes w before machine m2 inst r (c, st) = (c, other_instance r (w.bytes m2) st)

-- ---- what is begun

pub can_begin : {M : Type 0} (w : Setting M) (state : CallState M) (inst : Instance) (r : Rest) (func : ℕ) (args : List ℕ) (type : FuncType) (body : Body) (vs : List Value) → HasRest w state inst r → IsOwnCall inst func args type body vs → CanBegin w.program func args
can_begin w state inst r func args type body vs (c, st) suits = search rules

pub has_begun : {M : Type 0} (w : Setting M) (mid : CallState M) (inst : Instance) (r : Rest) (func : ℕ) (args : List ℕ) (type : FuncType) (body : Body) (vs : List Value) → HasRest w mid inst r → IsOwnCall inst func args type body vs → BeginsCall w.program func args mid.machine → IsSettledIn w.program mid.machine → HasConfiguration w mid
has_begun w mid inst r func args type body vs (c, st) suits begun settled =
    let b = begun mid.store (w.bytes mid.memory) w.limit c inst (store_with (w.bytes mid.memory) r) type body vs st suits in
    record { out = result_of type; inst = inst; cfg = b.0; stands = b.2; settled = settled }

-- ---- a start

-- the next piece isn't ready
pub waits_now : {M : Type 0} (w : Setting M) (inst : Instance) (q : ℕ) (call : Call) (r : Rest) (before : CallState M) (m2 : M) (ps left : List Piece) (n : ℕ) (need : Need) (lacking : Option Need) → IsStarting w before inst call r ps → HasWritten w.bytes w.ready w.keeps ps before.memory n left m2 → NextWaits (w.ready m2) left lacking → lacking ≡ Some need → length (w.bytes m2) ≡ length (w.bytes before.memory)
    → Turns w inst q call before.memory r (has_left ps) (came.Frame need) n 0 (call_state before.machine before.store m2) left
waits_now w inst q call r before m2 ps left n need None st written waits some same = absurd (cc some)
waits_now w inst q call r before m2 ps left n need (Some other) st (front, is, size, writes) (p, more, next, wants, never) some same =
    let found : other ≡ need = cc some in
    let want = writing p.at (length p.items) in
    let cut : ps ≡ front ++ (p ∷ more) = is ∙ ap (λ z. front ++ z) next in
    let goes : Proceeds w.bytes w.ready w.keeps inst q call before.memory r (has_left ps) (to_wait want) (length front) 0 m2 r (has_left (p ∷ more)) = waits_to_write (ap (λ z. has_left z) cut) writes (λ z. never (subst (w.ready m2) (sym wants) z)) in
    let store = other_bytes w before before.machine m2 inst r st.store in
    let within = all_behind (λ z. z.at + length z.items ≤ length (w.bytes before.memory)) front (p ∷ more) (subst (Within (length (w.bytes before.memory))) cut st.within) in
    record {
      to = to_wait want;
      rest = r;
      doing = has_left (p ∷ more);
      proceeds = subst (λ i. Proceeds w.bytes w.ready w.keeps inst q call before.memory r (has_left ps) (to_wait want) i 0 m2 r (has_left (p ∷ more))) (sym size) goes;
      is_came = sym found ∙ wants;
      store = store;
      is_there = (
        record {
          store = store;
          within = subst (λ i. Within i (p ∷ more)) (sym same) within;
          in_pages = all_behind InOnePage front (p ∷ more) (subst (AllByRecursion InOnePage) cut st.in_pages);
          few = omega (arith, st.few, ap length cut ∙ length-append front (p ∷ more));
          no_args = st.no_args;
          no_charges = st.no_charges;
          calls_own = st.calls_own;
        },
        sym next,
      );
    }

none_left : (ready : Need → Type 0) (left : List Piece) (lacking : Option Need) → NextWaits ready left lacking → lacking ≡ None → left ≡ []
none_left ready left None waits none = waits
none_left ready left (Some need) waits none = absurd (cc none)

-- all pieces are written, and there is no function
pub ends_now : {M : Type 0} (w : Setting M) (inst : Instance) (q : ℕ) (call : Call) (r : Rest) (before : CallState M) (m2 : M) (ps left : List Piece) (n : ℕ) (lacking : Option Need) → IsStarting w before inst call r ps → HasWritten w.bytes w.ready w.keeps ps before.memory n left m2 → NextWaits (w.ready m2) left lacking → lacking ≡ None → call.func ≡ None
    → Turns w inst q call before.memory r (has_left ps) (came.Returned None) n 0 (call_state before.machine before.store m2) left
ends_now w inst q call r before m2 ps left n lacking st written waits none no_func =
    let all = all_written w.bytes w.ready w.keeps ps left before.memory m2 n written (none_left (w.ready m2) left lacking waits none) in
    let goes : Proceeds w.bytes w.ready w.keeps inst q call before.memory r (has_left ps) (to_end (returned [])) (length ps) 0 m2 r resting = writes_all refl no_func all.1 in
    let store = other_bytes w before before.machine m2 inst r st.store in
    record {
      to = to_end (returned []);
      rest = r;
      doing = resting;
      proceeds = subst (λ i. Proceeds w.bytes w.ready w.keeps inst q call before.memory r (has_left ps) (to_end (returned [])) i 0 m2 r resting) (sym all.0) goes;
      is_came = refl;
      store = store;
      is_there = store;
    }

-- all pieces are written, and its function is begun and computes
pub started_now : {M : Type 0} (w : Setting M) (inst : Instance) (q : ℕ) (call : Call) (r : Rest) (before after : CallState M) (machine : Machine) (m2 : M) (ps left : List Piece) (n charges func : ℕ) (answer : TurnOutcome) (lacking : Option Need) → IsStarting w before inst call r ps → HasWritten w.bytes w.ready w.keeps ps before.memory n left m2 → NextWaits (w.ready m2) left lacking → lacking ≡ None → call.func ≡ Some func
    → BeginsCall w.program func [] machine → ComputesWithin w (call_state machine before.store m2) q call.fuel answer charges after → Turns w inst q call before.memory r (has_left ps) answer n charges after left
started_now w inst q call r before after machine m2 ps left n charges func answer lacking st written waits none some begun computes =
    let (type, body, suits) = st.calls_own func some in
    let no_more = none_left (w.ready m2) left lacking waits none in
    let all = all_written w.bytes w.ready w.keeps ps left before.memory m2 n written no_more in
    let mid = call_state machine before.store m2 in
    let s = store_with (w.bytes m2) r in
    let around = other_bytes w before machine m2 inst r st.store in
    let b = begun before.store (w.bytes m2) w.limit around.0 inst s type body [] around.1 suits in
    let came = computes (result_of type) inst b.0 b.2 in
    let first : Config = config s [] (called type body [] [] nothing) in
    let invocation : Invocation inst s call first = search (rules, reverse) in
    let opens : Opens w.bytes w.ready w.keeps inst call before.memory r (has_left ps) (length ps) m2 b.0 = by_invocation all.1 invocation b.1 in
    let charged = st.no_charges in
    let turned = turns_as w inst q call.fuel call before.memory r (has_left ps) (length ps) charges mid after b.0 came.0 func type body answer left no_more opens b.1.1 (omega (arith, charged)) some suits.is_own came.1 came.2 in
    subst (λ i. Turns w inst q call before.memory r (has_left ps) answer i charges after left) (sym all.0) turned

-- ---- a call at its invocation

same_index : {i j : ℕ} → Some i ≡ Some j → i ≡ j
same_index e = cc e

pub own_call : {M : Type 0} (w : Setting M) (before : CallState M) (inst : Instance) (call : Call) (r : Rest) (func : ℕ) (args : List ℕ) (t : Term) (f : IsFaced w before inst call r func args t) → IsOwnCall inst func args f.invocation.type f.invocation.body call.args
own_call w before inst call r func args t f = search rules

pub first_now : {M : Type 0} (w : Setting M) (inst : Instance) (q : ℕ) (call : Call) (r : Rest) (before after : CallState M) (machine : Machine) (func : ℕ) (args : List ℕ) (t : Term) (charges : ℕ) (answer : TurnOutcome) → IsFaced w before inst call r func args t → BeginsCall w.program func args machine
    → ComputesWithin w (call_state machine before.store before.memory) q call.fuel answer charges after → Turns w inst q call before.memory r (computing t) answer 0 charges after []
first_now w inst q call r before after machine func args t charges answer f begun computes =
    let i = f.invocation in
    let suits = own_call w before inst call r func args t f in
    let s = store_with (w.bytes before.memory) r in
    let b = begun before.store (w.bytes before.memory) w.limit f.store.0 inst s i.type i.body call.args f.store.1 suits in
    let came = computes (result_of i.type) inst b.0 b.2 in
    let opened : After inst (config s [] t) 0 b.0 = subst (λ z. After inst z 0 b.0) (sym i.begins) b.1 in
    let charged = f.no_charges in
    turns_as w inst q call.fuel call before.memory r (computing t) 0 charges (call_state machine before.store before.memory) after b.0 came.0 func i.type i.body answer [] refl (as_it_was opened) b.1.1 (omega (arith, charged)) f.calls suits.is_own came.1 came.2

-- ---- a call that is under way

pub on_now : {M : Type 0} (w : Setting M) (inst : Instance) (q left : ℕ) (call : Call) (r : Rest) (before after : CallState M) (t : Term) (charges : ℕ) (answer : TurnOutcome) → IsComputing w before inst call r t → call.charges + left ≡ call.fuel → ComputesWithin w before q left answer charges after → Turns w inst q call before.memory r (computing t) answer 0 charges after []
on_now w inst q left call r before after t charges answer k within computes =
    let c : Config = config (store_with (w.bytes before.memory) r) [] t in
    let came = computes (result_of k.type) inst c k.stands in
    turns_as w inst q left call before.memory r (computing t) 0 charges before after c came.0 k.index k.type k.body answer [] refl (as_it_was (stays, k.settled)) k.settled within k.calls k.is_own came.1 came.2
