-- A drain prints one thing, and leaves one thing.
use Rattle.std.proofs.Common.{◌≡◌, ℕ, ◌+◌, Bool, false, true, List, [], ◌∷◌, ◌++◌, slice_get, Option, Some, refl, sym, ap, subst, ◌∙◌}
use Rattle.std.proofs.lemmas.Bool.{false≢true}
use Rattle.std.proofs.lemmas.Option.{same_Some}
use Rattle.std.specs.List.{AllZip, AllByRecursion}
use Rattle.wh_model.specs.Execution.{Call}
use Rattle.wh_script_model.specs.{Caller, CallStatus, refused, Reply, NamedInstance, InvokeOutcome, call_rejected, call_accepted, Invoked, RunsAlone, call_status, PrintsLine, as_before, anew, PrintsStart, has_none, has_one, PrintsCall, is_refused, is_taken, PrintStarts, PrintCalls, HasBegun, DrainsOnce}
use Rattle.wh_script_model.specs.ScriptState.{ScriptState}
use Rattle.wh_script_model.proofs.Once.{runs_once}

-- ---- one line

says_once : {who : Caller} {last_printed : Option CallStatus} {status : CallStatus} {lines lines2 : List Reply}
    → PrintsLine who last_printed status lines → PrintsLine who last_printed status lines2 → lines ≡ lines2
says_once (as_before e) (as_before f) = refl
says_once (as_before e) (anew f) = absurd (f e)
says_once (anew e) (as_before f) = absurd (e f)
says_once (anew e) (anew f) = refl

says_one : {who : Caller} {last_printed : Option CallStatus} (status status2 : CallStatus) {lines lines2 : List Reply}
    → status ≡ status2 → PrintsLine who last_printed status lines → PrintsLine who last_printed status2 lines2 → lines ≡ lines2
says_one {who} {last_printed} status status2 {lines2 = lines2} e x y =
    says_once x (subst (λ s. PrintsLine who last_printed s lines2) (sym e) y)

-- ---- a start, and a call

start_once : (g a b : NamedInstance) (lines lines2 : List Reply) → PrintsStart g lines a → PrintsStart g lines2 b
    → (lines ≡ lines2) × (a ≡ b)
start_once g a b lines lines2 (has_none p q) (has_none r t) = (refl, refl)
start_once g a b lines lines2 (has_none p q) (has_one n e x) = absurd (n (p, q))
start_once g a b lines lines2 (has_one n e x) (has_none p q) = absurd (n (p, q))
start_once g a b lines lines2 (has_one {first = c} n e x) (has_one {first = d} n2 f y) =
    let same : c ≡ d = same_Some c d (sym e ∙ f) in (
      says_one (call_status g 0 c) (call_status g 0 d) (ap (call_status g 0) same) x y,
      ap (λ k. record g { last_printed = Some (call_status g 0 k) }) same,
    )

abbrev fault_in : InvokeOutcome → ℕ
fault_in (call_rejected fault) = fault
fault_in (call_accepted i place) = 0

abbrev guest_in : InvokeOutcome → ℕ
guest_in (call_rejected fault) = 0
guest_in (call_accepted i place) = i

abbrev place_in : InvokeOutcome → ℕ
place_in (call_rejected fault) = 0
place_in (call_accepted i place) = place

abbrev is_taken_on : InvokeOutcome → Bool
is_taken_on (call_rejected fault) = false
is_taken_on (call_accepted i place) = true

status_there : (instances : List NamedInstance) (i j k l : ℕ) (g h : NamedInstance) (c d : Call) → i ≡ j → k ≡ l
    → slice_get instances i ≡ Some g → slice_get instances j ≡ Some h → slice_get g.calls k ≡ Some c → slice_get h.calls l ≡ Some d
    → call_status g k c ≡ call_status h l d
status_there instances i j k l g h c d e f p q r t =
    let instance : g ≡ h = same_Some g h (sym p ∙ ap (slice_get instances) e ∙ q) in
    let there : slice_get g.calls k ≡ Some d = ap (slice_get g.calls) f ∙ ap (λ x. slice_get x.calls l) instance ∙ t in
    let same : c ≡ d = same_Some c d (sym r ∙ there) in
    rw (instance, f, same)

call_once : (instances : List NamedInstance) (number : ℕ) (v a b : Invoked) (lines lines2 : List Reply)
    → PrintsCall instances number v lines a → PrintsCall instances number v lines2 b → (lines ≡ lines2) × (a ≡ b)
call_once instances number v a b lines lines2 (is_refused {fault = k} e x) (is_refused {fault = l} f y) =
    let same : k ≡ l = ap fault_in (sym e ∙ f) in
    (says_one (refused k) (refused l) (ap (λ n. refused n) same) x y, ap (λ n. record v { last_printed = Some (refused n) }) same)
call_once instances number v a b lines lines2 (is_refused e x) (is_taken f p q y) =
    absurd (false≢true (ap is_taken_on (sym e ∙ f)))
call_once instances number v a b lines lines2 (is_taken e p q x) (is_refused f y) =
    absurd (false≢true (ap is_taken_on (sym f ∙ e)))
call_once instances number v a b lines lines2 (is_taken {i = i} {place = k} {g = g} {c = c} e p q x) (is_taken {i = j} {place = l} {g = h} {c = d} f r t y) =
    let same = status_there instances i j k l g h c d (ap guest_in (sym e ∙ f)) (ap place_in (sym e ∙ f)) p r q t in
    (says_one (call_status g k c) (call_status h l d) same x y, ap (λ n. record v { last_printed = Some n }) same)

-- ---- all of them

joined : {A : Type 0} (xs us vs ws : List A) → xs ≡ us → vs ≡ ws → xs ++ vs ≡ us ++ ws
joined xs us vs ws e f = rw (e, f)

put_before : {A : Type 0} (a b : A) (xs us : List A) → a ≡ b → xs ≡ us → a ∷ xs ≡ b ∷ us
put_before a b xs us e f = rw (e, f)

starts_once : (gs xs us : List NamedInstance) (lines lines2 : List Reply) → PrintStarts gs lines xs → PrintStarts gs lines2 us
    → (lines ≡ lines2) × (xs ≡ us)
starts_once [] xs us lines lines2 x y = (x.0 ∙ sym y.0, x.1 ∙ sym y.1)
starts_once (g ∷ gs) xs us lines lines2 (here, rest, a, as1, e, f, x, more) (here2, rest2, b, as2, e2, f2, y, more2) =
    let head = start_once g a b here here2 x y in
    let tail = starts_once gs as1 as2 rest rest2 more more2 in
    (e ∙ joined here here2 rest rest2 head.0 tail.0 ∙ sym e2, f ∙ put_before a b as1 as2 head.1 tail.1 ∙ sym f2)

calls_once : (instances : List NamedInstance) (number : ℕ) (vs xs us : List Invoked) (lines lines2 : List Reply)
    → PrintCalls instances number vs lines xs → PrintCalls instances number vs lines2 us → (lines ≡ lines2) × (xs ≡ us)
calls_once instances number [] xs us lines lines2 x y = (x.0 ∙ sym y.0, x.1 ∙ sym y.1)
calls_once instances number (v ∷ vs) xs us lines lines2 (here, rest, a, as1, e, f, x, more) (here2, rest2, b, as2, e2, f2, y, more2) =
    let head = call_once instances number v a b here here2 x y in
    let tail = calls_once instances (number + 1) vs as1 as2 rest rest2 more more2 in
    (e ∙ joined here here2 rest rest2 head.0 tail.0 ∙ sym e2, f ∙ put_before a b as1 as2 head.1 tail.1 ∙ sym f2)

guests_once : (gs xs us : List NamedInstance) → AllByRecursion HasBegun gs → AllZip RunsAlone gs xs → AllZip RunsAlone gs us
    → xs ≡ us
guests_once [] [] [] begun x y = refl
guests_once [] [] (b ∷ us) begun x y = absurd y
guests_once [] (a ∷ xs) us begun x y = absurd x
guests_once (g ∷ gs) [] us begun x y = absurd x
guests_once (g ∷ gs) (a ∷ xs) [] begun x y = absurd y
guests_once (g ∷ gs) (a ∷ xs) (b ∷ us) begun x y =
    put_before a b xs us (runs_once g a b begun.0 x.0 y.0) (guests_once gs xs us begun.1 x.1 y.1)

left_same : (w : ScriptState) (gs hs : List NamedInstance) (vs us : List Invoked) → gs ≡ hs → vs ≡ us
    → record w { instances = gs; invoked = vs } ≡ record w { instances = hs; invoked = us }
left_same w gs hs vs us e f = rw (e, f)

pub drains_once : DrainsOnce
drains_once w w2 w3 lines lines2 begun x y =
    let run : x.run ≡ y.run = guests_once w.instances x.run y.run begun x.each_runs y.each_runs in
    let starts = starts_once x.run x.instances y.instances x.starts y.starts x.print_starts
    (subst (λ gs. PrintStarts gs y.starts y.instances) (sym run) y.print_starts) in
    let calls = calls_once x.instances 1 w.invoked x.invoked y.invoked x.calls y.calls x.print_calls
    (subst (λ gs. PrintCalls gs 1 w.invoked y.calls y.invoked) (sym starts.1) y.print_calls) in (
      x.lines_are ∙ joined x.starts y.starts x.calls y.calls starts.0 calls.0 ∙ sym y.lines_are,
      x.after ∙ left_same w x.instances y.instances x.invoked y.invoked starts.1 calls.1 ∙ sym y.after,
    )
