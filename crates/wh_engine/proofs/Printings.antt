-- What is said of calls, one after the other.
use Rattle.std.proofs.Common.{arith, ◌≡◌, ℕ, ◌+◌, zero, suc, false, List, [], ◌∷◌, ◌++◌, map, length, Result, Ok, Err, OnOk, get_or, slice_get, Option, Some, None, option_map, refl, ap, sym, subst, ◌∙◌, append_assoc, append-nil, Bool, true, ◌&&◌, ◌||◌, not, ◌⊎◌, inl, inr, ⊎_elim}
use Rattle.std.proofs.lemmas.Option.{same_Some, none-some}
use Rattle.std.specs.List.{AllZip, filter}
use Rattle.wh_model.specs.Execution.{Piece, Call}
use Rattle.wh_space_model.specs.declared.plain.InstId.{InstId}
use Rattle.wh_host_model.specs.Host.{Tenant, World, tenant, journal, journal_calls}
use Rattle.wh_script_model.specs.Settings.{Settings}
use Rattle.wh_script_model.specs.Texts as texts
use Rattle.wh_script_model.specs.{CallStatus, Reply, done, trapped, wants_fuel, wants_frame, queued, cancelled, dead, refused, reply_text, call_status, PrintsLine, PrintsStart, has_none, has_one, PrintStarts, PrintsCall, is_taken, PrintCalls, replies_text}
use Rattle.wh_script_model.specs.ScriptState as script
use Rattle.wh_script_model.specs.ScriptState.{ScriptState}
use Rattle.wh_replies.specs.View.{status_of}
use Rattle.wh_replies.specs.declared.call.Status.{Status}
use Rattle.wh_replies.specs.declared.call.Status.TheVariants as code
use Rattle.wh_script_laws.specs.Following as follow
use Rattle.wh_script_laws.specs.Following.{Knows}
use Rattle.wh_script_laws.specs.Printed.{HasStart, IsWellMade, is_final, IsReleased, WasPrinted}
use Rattle.wh_script_laws.proofs.Drains.{saying_follows}
use Rattle.wh_script_laws.proofs.Printed.{starts_well}
use Rattle.wh_engine.specs.declared.parts.NamedInstance.{NamedInstance}
use Rattle.wh_engine.specs.declared.parts.Invoked.{Invoked}
use Rattle.wh_engine.specs.RepresentedScript.{ScriptHostState, RepresentsScript, IsNamedInstance, AreNamedInstances, IsInvokedAs, AreInvoked, LeavesOut, none_there, keeps_it, leaves_it, RepresentsWhole, WholeState, whole_on, was_final, is_over, is_settled}
use Rattle.wh_engine.specs.Printing.{ShowsCalls, AddsLines, PrintsStartOf, HasItsCall, PrintsCallOf, PrintsAllStarts, PrintsAllCalls, PrintsAll, IsLookedUp}
use Rattle.wh_engine.proofs.Touching.{placed_at}
use Rattle.wh_engine.proofs.Runs.{places_of, placed_there}
use Rattle.wh_script_laws.proofs.EndedObeyed.{ended_stays}
use Rattle.wh_host.specs.Hosting.{HostState}
use Rattle.wh_engine.proofs.Left.{let_go}
use Rattle.wh_engine.proofs.Found.{kept_at, kept_rise, none_kept, pair_at}
use Rattle.wh_engine.proofs.OneByOne.{OneByOne}

-- ---- statuses of the code are as many as those of the definitions

abbrev status_from : CallStatus → Status
status_from (done (Some value) charges) = code.Value value charges
status_from (done None charges) = code.Done charges
status_from (trapped trap charges) = code.Trap trap charges
status_from (wants_fuel charges) = code.Fuel charges
status_from (wants_frame fault charges) = code.Frame fault charges
status_from queued = code.Queued
status_from (cancelled charges) = code.Cancelled charges
status_from (texts.released charges) = code.Released charges
status_from dead = code.Dead
status_from (refused fault) = code.Refused fault

back_again : (s : Status) → status_from (status_of s) ≡ s
back_again (code.Value value charges) = refl
back_again (code.Done charges) = refl
back_again (code.Trap trap charges) = refl
back_again (code.Fuel charges) = refl
back_again (code.Frame fault charges) = refl
back_again code.Queued = refl
back_again (code.Cancelled charges) = refl
back_again (code.Released charges) = refl
back_again code.Dead = refl
back_again (code.Refused fault) = refl

pub same_status : (s t : Status) → status_of s ≡ status_of t → s ≡ t
same_status s t e = sym (back_again s) ∙ ap status_from e ∙ back_again t

pub another_line : (last_printed : Option Status) (status : Status) → ¬ (last_printed ≡ Some status) → ¬ (option_map status_of last_printed ≡ Some (status_of status))
another_line None status other e = absurd (cc e)
another_line (Some s) status other e = other (ap Some (same_status s status (same_Some (status_of s) (status_of status) e)))

-- ---- texts

pub texts_join : (a b : List Reply) → replies_text (a ++ b) ≡ replies_text a ++ replies_text b
texts_join [] b = refl
texts_join (r ∷ a) b = ap (λ xs. reply_text r ++ xs) (texts_join a b) ∙ sym (append_assoc (reply_text r) (replies_text a) (replies_text b))

pub adds_none : (text : List ℕ) → AddsLines [] text text
adds_none text = sym (append-nil text)

pub adds_one : (r : Reply) (text text2 : List ℕ) → text2 ≡ text ++ reply_text r → AddsLines (r ∷ []) text text2
adds_one r text text2 e = e ∙ ap (λ xs. text ++ xs) (sym (append-nil (reply_text r)))

pub adds_more : (a b : List Reply) (text mid text2 : List ℕ) → AddsLines a text mid → AddsLines b mid text2 → AddsLines (a ++ b) text text2
adds_more a b text mid text2 p q =
    q ∙ ap (λ xs. xs ++ replies_text b) p ∙ append_assoc text (replies_text a) (replies_text b) ∙ ap (λ xs. text ++ xs) (sym (texts_join a b))

-- ---- as many

pub guests_many : (k : ℕ) (xs : List NamedInstance) (gs : List script.NamedInstance) → AreNamedInstances k xs gs → length xs ≡ length gs
guests_many k [] [] are = refl
guests_many k [] (g ∷ gs) are = absurd are
guests_many k (x ∷ xs) [] are = absurd are
guests_many k (x ∷ xs) (g ∷ gs) are = let n = guests_many (k + 1) xs gs are.1 in omega arith

pub calls_many : (k : ℕ) (xs : List Invoked) (vs : List script.Invoked) → AreInvoked k xs vs → length xs ≡ length vs
calls_many k [] [] are = refl
calls_many k [] (v ∷ vs) are = absurd are
calls_many k (x ∷ xs) [] are = absurd are
calls_many k (x ∷ xs) (v ∷ vs) are = let n = calls_many (k + 1) xs vs are.1 in omega arith

as_many_said : (gs last_printed : List script.NamedInstance) (lines : List Reply) → PrintStarts gs lines last_printed → length last_printed ≡ length gs
as_many_said [] last_printed lines p = ap (λ (xs : List script.NamedInstance). length xs) p.1
as_many_said (g ∷ gs) last_printed lines (first, rest, k, ks, l, f, z, more) =
    let n = as_many_said gs ks rest more in let e : length last_printed ≡ suc (length ks) = ap (λ (xs : List script.NamedInstance). length xs) f in omega arith

as_many_calls : (instances : List script.NamedInstance) (n : ℕ) (vs last_printed : List script.Invoked) (lines : List Reply) → PrintCalls instances n vs lines last_printed → length last_printed ≡ length vs
as_many_calls instances n [] last_printed lines p = ap (λ (xs : List script.Invoked). length xs) p.1
as_many_calls instances n (v ∷ vs) last_printed lines (first, rest, k, ks, l, f, z, more) =
    let m = as_many_calls instances (n + 1) vs ks rest more in let e : length last_printed ≡ suc (length ks) = ap (λ (xs : List script.Invoked). length xs) f in omega arith

-- ---- what the host shows

one_followed : (w : World) (g : script.NamedInstance) (o : Option Tenant) → follow.IsFollowed follow.AreSame follow.StandsSame w g o → g.is_released ≡ false
    → (t : Tenant) × (o ≡ Some t) × (g.calls ≡ journal_calls (journal t)) × follow.IsAtSameFault g t
one_followed w g _ (follow.is_there {t = t} of_one same stands) live = (t, refl, same, stands.0)
one_followed w g _ (follow.is_gone gone) live = absurd (cc (gone, live))

followed_same : (w : World) (gs : List script.NamedInstance) (ts : List (Option Tenant)) (i : ℕ) (g : script.NamedInstance) → AllZip (follow.IsFollowed follow.AreSame follow.StandsSame w) gs ts → slice_get gs i ≡ Some g
    → g.is_released ≡ false → (t : Tenant) × (get_or ts i None ≡ Some t) × (g.calls ≡ journal_calls (journal t)) × follow.IsAtSameFault g t
followed_same w [] ts i g h e live = absurd (none-some g e)
followed_same w (y ∷ gs) [] i g h e live = absurd h
followed_same w (y ∷ gs) (o ∷ ts) zero g h e live = one_followed w g o (subst (λ z. follow.IsFollowed follow.AreSame follow.StandsSame w z o) (same_Some y g e) h.0) live
followed_same w (y ∷ gs) (o ∷ ts) (suc i) g h e live = followed_same w gs ts i g h.1 e live

one_name : (g g2 : script.NamedInstance) (here : List Reply) → PrintsStart g here g2 → g2.name ≡ g.name
one_name g _ here (has_none p q) = refl
one_name g _ here (has_one n e x) = refl

-- an instance as it was, or as it was said since
pub shows : (settings : Settings) (e : WholeState) (m : ScriptState) (i : ℕ) (x : NamedInstance) (g : script.NamedInstance) → RepresentsWhole settings e m → slice_get m.instances i ≡ Some g
    → slice_get (places_of e) i ≡ Some x.id.place → x.id.number ≡ i → x.is_released ≡ g.is_released → ShowsCalls e.host x g
shows settings e m i x g s at placed number released = record {
  released = released;
  world = s.world;
  is = s.is.0;
  live = λ alive.
      let d = followed_same s.world m.instances s.world.tenants i g s.knows.instances at alive in
      (d.0, (ap (λ n. tenant s.world n) number ∙ d.1, placed_there (places_of e) s.world.tenants i x.id.place d.0 s.knows.placed placed d.1), d.2, d.3);
}

-- ---- instances without a start

both_empty : (ps : List Piece) (o : Option ℕ) → ¬ (¬ ((ps ≡ []) × (o ≡ None))) → (ps ≡ []) × (o ≡ None)
both_empty [] None none = (refl, refl)
both_empty [] (Some x) none = absurd (none (λ both. cc both.1))
both_empty (p ∷ ps) o none = absurd (none (λ both. cc both.0))

pub no_start : (g : script.NamedInstance) → ¬ (HasStart g) → (g.pieces ≡ []) × (g.m.start ≡ None)
no_start g none = both_empty g.pieces g.m.start none

-- ---- what has ended has no line

ends_said : (last_printed : Option Status) → was_final last_printed ≡ true → (s : Status) × (last_printed ≡ Some s) × (is_final (status_of s) ≡ true)
ends_said None e = absurd (cc e)
ends_said (Some s) e = (s, refl, e)

over_parts : (gone starts final : Bool) → (gone && (not starts || final)) ≡ true → (starts ≡ false) ⊎ ((starts ≡ true) × (final ≡ true))
over_parts true true final e = inr (refl, e)
over_parts true false final e = inl refl
over_parts false starts final e = absurd (cc e)

-- nothing is said of an instance that is over, if nothing is said again of what has ended
abbrev pub StaysSilent : script.NamedInstance → Type 0
StaysSilent g = (status : CallStatus) → g.last_printed ≡ Some status → is_final status ≡ true → PrintsStart g [] g

over_silent : (k : ℕ) (x : NamedInstance) (g : script.NamedInstance) → IsNamedInstance k x g → is_over x ≡ true → StaysSilent g → PrintsStart g [] g
over_silent k x g is over silent =
    ⊎_elim
    (λ (without : x.has_start ≡ false).
    let none = no_start g (λ has. cc (is.starts.1 has, without)) in
    has_none none.0 none.1)
    (λ (both : (x.has_start ≡ true) × (was_final x.last_printed ≡ true)).
    let d = ends_said x.last_printed both.1 in
    silent (status_of d.0) (sym is.last_printed ∙ ap (λ o. option_map status_of o) d.1) d.2)
    (over_parts x.is_released x.has_start (was_final x.last_printed) over)

-- ---- starts

-- the calls of an instance are shown, what was to be said of it was, and nothing is said again of what has ended
record IsReady (h : HostState) (x : NamedInstance) (g : script.NamedInstance) : Type 0 where
  first : (c : Call) × (slice_get g.calls 0 ≡ Some c)
  shown : ShowsCalls h x g
  was : IsReleased g → HasStart g → WasPrinted g 0 first.0 g.last_printed
  silent : StaysSilent g

-- the lines of all starts, and what is kept then
record StartsAreSaid (k : ℕ) (xs2 all : List NamedInstance) (gs : List script.NamedInstance) (text text2 : List ℕ) : Type 0 where
  all2 : List NamedInstance
  last_printed : List script.NamedInstance
  lines : List Reply
  kept : LeavesOut is_over xs2 all2
  are : AreNamedInstances k all2 last_printed
  says : PrintStarts gs lines last_printed
  adds : AddsLines lines text text2
  placed : map (λ (x : NamedInstance). x.id.place) all2 ≡ map (λ (x : NamedInstance). x.id.place) all

print_starts : (h : HostState) (k : ℕ) {xs all : List NamedInstance} → LeavesOut is_over xs all → (gs : List script.NamedInstance) (text : List ℕ) (xs2 : List NamedInstance) (text2 : List ℕ) → AreNamedInstances k all gs
    → ((j : ℕ) (x : NamedInstance) (g : script.NamedInstance) → slice_get all j ≡ Some x → slice_get gs j ≡ Some g → IsReady h x g)
    → OneByOne (PrintsStartOf h) xs text xs2 text2 → StartsAreSaid k xs2 all gs text text2
print_starts h k none_there [] text xs2 text2 are ready steps = record {
  all2 = [];
  last_printed = [];
  lines = [];
  kept = subst (λ zs. LeavesOut is_over zs []) (sym steps.0) none_there;
  are = tt;
  says = (refl, refl);
  adds = subst (λ t. AddsLines [] text t) (sym steps.1) (adds_none text);
  placed = refl;
}
print_starts h k none_there (g ∷ gs) text xs2 text2 are ready steps = absurd are
print_starts h k (keeps_it r) [] text xs2 text2 are ready steps = absurd are
print_starts h k (keeps_it {x = x} {all = all} r) (g ∷ gs) text xs2 text2 are ready (y, rest, mid, is, first, more) =
    let now = ready 0 x g refl refl in
    let did = first k g now.first.0 are.0 now.shown now.first.1 now.was in
    let others = print_starts h (k + 1) r gs mid rest text2 are.1 (λ j. ready (suc j)) more in
    record {
      all2 = y ∷ others.all2;
      last_printed = did.1 ∷ others.last_printed;
      lines = did.0 ++ others.lines;
      kept = subst (λ zs. LeavesOut is_over zs (y ∷ others.all2)) (sym is) (keeps_it others.kept);
      are = (did.4, others.are);
      says = (did.0, others.lines, did.1, others.last_printed, refl, refl, did.2, others.says);
      adds = adds_more did.0 others.lines text mid text2 did.3 others.adds;
      placed = ap (λ (n : InstId). n.place ∷ map (λ (z : NamedInstance). z.id.place) others.all2) did.5 ∙ ap (λ ps. x.id.place ∷ ps) others.placed;
    }
print_starts h k (leaves_it over r) [] text xs2 text2 are ready steps = absurd are
print_starts h k (leaves_it {x = x} {all = all} over r) (g ∷ gs) text xs2 text2 are ready steps =
    let now = ready 0 x g refl refl in
    let others = print_starts h (k + 1) r gs text xs2 text2 are.1 (λ j. ready (suc j)) steps in
    record {
      all2 = x ∷ others.all2;
      last_printed = g ∷ others.last_printed;
      lines = others.lines;
      kept = leaves_it over others.kept;
      are = (are.0, others.are);
      says = ([], others.lines, g, others.last_printed, refl, refl, over_silent k x g are.0 over now.silent, others.says);
      adds = others.adds;
      placed = ap (λ ps. x.id.place ∷ ps) others.placed;
    }

names_said : (gs last_printed : List script.NamedInstance) (lines : List Reply) → PrintStarts gs lines last_printed → map (λ (g : script.NamedInstance). g.name) last_printed ≡ map (λ (g : script.NamedInstance). g.name) gs
names_said [] last_printed lines p = ap (λ (xs : List script.NamedInstance). map (λ (g : script.NamedInstance). g.name) xs) p.1
names_said (g ∷ gs) last_printed lines (first, rest, k, ks, l, f, z, more) =
    ap (λ (xs : List script.NamedInstance). map (λ (y : script.NamedInstance). y.name) xs) f
    ∙ ap (λ ns. k.name ∷ ns) (names_said gs ks rest more) ∙ ap (λ n. n ∷ map (λ (y : script.NamedInstance). y.name) gs) (one_name g k first z)

-- with instances as they were said
abbrev pub with_starts : {D : Type 0} → ScriptHostState D → List NamedInstance → ScriptHostState D
with_starts e xs = record e { instances = xs }

guest_ready : (settings : Settings) (e : WholeState) (m : ScriptState) → RepresentsWhole settings e m → IsWellMade m → (j : ℕ) (x : NamedInstance) (g : script.NamedInstance) → slice_get e.instances j ≡ Some x
    → slice_get m.instances j ≡ Some g → IsReady e.host x g
guest_ready settings e m s well j x g at of_script =
    let d = pair_at 0 e.instances m.instances j g s.instances of_script in
    let same : d.0 ≡ x = same_Some d.0 x (sym d.1 ∙ at) in
    let is : IsNamedInstance j x g = subst (λ (z : NamedInstance). IsNamedInstance j z g) same (subst (λ n. IsNamedInstance n d.0 g) (omega arith) d.2) in
    let first = well.there.starts j g of_script in
    record {
      first = first;
      shown = shows settings e m j x g s of_script (placed_at e.instances j x at) is.number is.released;
      was = λ gone has. well.gone.starts j g first.0 of_script gone has first.1;
      silent = λ status last_printed final. (ended_stays m well).0 j g status of_script last_printed final;
    }

pub starts_are_said : {D : Type 0} (settings : Settings) (e : ScriptHostState D) (m : ScriptState) (xs : List NamedInstance) (between : List NamedInstance) (text now : List ℕ) → RepresentsScript settings e m → IsWellMade m
    → OneByOne (PrintsStartOf e.host.host) e.instances text between now → xs ≡ filter (λ x. not (is_over x)) between
    → (lines : List Reply) × (instances : List script.NamedInstance) × PrintStarts m.instances lines instances × AddsLines lines text now × RepresentsScript settings (with_starts e xs) (record m { instances = instances })
starts_are_said settings e m xs between text now s well steps left =
    let all = whole_on e s.instances s.invoked in
    let d = print_starts e.host.host 0 s.kept m.instances text between now s.stands.instances (guest_ready settings all m s.stands well) steps in
    let many : length s.instances ≡ length d.all2 = guests_many 0 s.instances m.instances s.stands.instances ∙ sym (as_many_said m.instances d.last_printed d.lines d.says) ∙ sym (guests_many 0 d.all2 d.last_printed d.are) in (
      d.lines,
      d.last_printed,
      d.says,
      d.adds,
      record {
        instances = d.all2;
        invoked = s.invoked;
        kept = subst (λ ys. LeavesOut is_over ys d.all2) (sym left) (let_go d.kept);
        pending = s.pending;
        asked = s.asked;
        stands = record {
          world = s.stands.world;
          is = s.stands.is;
          knows = subst (Knows settings s.stands.world (record m { instances = d.last_printed })) (sym d.placed)
              (saying_follows settings s.stands.world m (places_of all) d.lines d.last_printed m.invoked s.stands.knows d.says);
          module_names = s.stands.module_names;
          instance_names = s.stands.instance_names ∙ sym (names_said m.instances d.last_printed d.lines d.says);
          apart = s.stands.apart;
          instances = d.are;
          invoked = s.stands.invoked;
        };
      },
    )

-- ---- calls

-- the call of an `invoke` is shown, and nothing is said again of what has ended
record IsCallReady (h : HostState) (hosted : List NamedInstance) (instances : List script.NamedInstance) (v : script.Invoked) : Type 0 where
  has : HasItsCall h hosted instances v
  silent : (number : ℕ) (status : CallStatus) → v.last_printed ≡ Some status → is_final status ≡ true → PrintsCall instances number v [] v

settled_silent : (h : HostState) (hosted : List NamedInstance) (instances : List script.NamedInstance) (k : ℕ) (x : Invoked) (v : script.Invoked) → IsInvokedAs k x v → is_settled x ≡ true
    → IsCallReady h hosted instances v → PrintsCall instances k v [] v
settled_silent h hosted instances k x v is settled ready =
    let d = ends_said x.last_printed settled in
    ready.silent k (status_of d.0) (sym is.last_printed ∙ ap (λ o. option_map status_of o) d.1) d.2

-- the lines of all calls, and what is kept then
record CallsAreSaid (instances : List script.NamedInstance) (k : ℕ) (xs2 : List Invoked) (vs : List script.Invoked) (text text2 : List ℕ) : Type 0 where
  all2 : List Invoked
  last_printed : List script.Invoked
  lines : List Reply
  kept : LeavesOut is_settled xs2 all2
  are : AreInvoked k all2 last_printed
  says : PrintCalls instances k vs lines last_printed
  adds : AddsLines lines text text2

print_calls : (h : HostState) (hosted : List NamedInstance) (instances : List script.NamedInstance) (k : ℕ) {xs all : List Invoked} → LeavesOut is_settled xs all → (vs : List script.Invoked) (text : List ℕ) (xs2 : List Invoked)
    (text2 : List ℕ) → AreInvoked k all vs → ((n : ℕ) (v : script.Invoked) → slice_get vs n ≡ Some v → IsCallReady h hosted instances v)
    → OneByOne (PrintsCallOf h hosted) xs text xs2 text2 → CallsAreSaid instances k xs2 vs text text2
print_calls h hosted instances k none_there [] text xs2 text2 are ready steps = record {
  all2 = [];
  last_printed = [];
  lines = [];
  kept = subst (λ zs. LeavesOut is_settled zs []) (sym steps.0) none_there;
  are = tt;
  says = (refl, refl);
  adds = subst (λ t. AddsLines [] text t) (sym steps.1) (adds_none text);
}
print_calls h hosted instances k none_there (v ∷ vs) text xs2 text2 are ready steps = absurd are
print_calls h hosted instances k (keeps_it r) [] text xs2 text2 are ready steps = absurd are
print_calls h hosted instances k (keeps_it {x = x} r) (v ∷ vs) text xs2 text2 are ready (y, rest, mid, is, first, more) =
    let now = ready 0 v refl in
    let did = first instances v k are.0 now.has in
    let others = print_calls h hosted instances (k + 1) r vs mid rest text2 are.1 (λ n. ready (suc n)) more in
    record {
      all2 = y ∷ others.all2;
      last_printed = did.1 ∷ others.last_printed;
      lines = did.0 ++ others.lines;
      kept = subst (λ zs. LeavesOut is_settled zs (y ∷ others.all2)) (sym is) (keeps_it others.kept);
      are = (did.4, others.are);
      says = (did.0, others.lines, did.1, others.last_printed, refl, refl, did.2, others.says);
      adds = adds_more did.0 others.lines text mid text2 did.3 others.adds;
    }
print_calls h hosted instances k (leaves_it settled r) [] text xs2 text2 are ready steps = absurd are
print_calls h hosted instances k (leaves_it {x = x} settled r) (v ∷ vs) text xs2 text2 are ready steps =
    let others = print_calls h hosted instances (k + 1) r vs text xs2 text2 are.1 (λ n. ready (suc n)) steps in
    record {
      all2 = x ∷ others.all2;
      last_printed = v ∷ others.last_printed;
      lines = others.lines;
      kept = leaves_it settled others.kept;
      are = (are.0, others.are);
      says = ([], others.lines, v, others.last_printed, refl, refl, settled_silent h hosted instances k x v are.0 settled (ready 0 v refl), others.says);
      adds = others.adds;
    }

-- an instance is found by its number, or was released
looked_up : {D : Type 0} (settings : Settings) (e : ScriptHostState D) (m : ScriptState) (i : ℕ) (g : script.NamedInstance) → RepresentsScript settings e m → slice_get m.instances i ≡ Some g → IsLookedUp e.host.host e.instances i g
looked_up settings e m i g s of_script =
    let all = whole_on e s.instances s.invoked in
    let d = pair_at 0 s.instances m.instances i g s.stands.instances of_script in
    let is : IsNamedInstance i d.0 g = subst (λ n. IsNamedInstance n d.0 g) (omega arith) d.2 in
    record {
      rise = kept_rise s.kept 0 m.instances s.stands.instances;
      shows = λ at x there number.
          let here = kept_at s.kept m.instances s.stands.instances i at x there number in
          let same : d.0 ≡ x = same_Some d.0 x (sym d.1 ∙ here) in
          subst (λ (z : NamedInstance). ShowsCalls e.host.host z g) same (shows settings all m i d.0 g s.stands of_script (placed_at s.instances i d.0 d.1) is.number is.released);
      gone = λ none. none_kept s.kept m.instances s.stands.instances i g none of_script;
    }

call_ready : {D : Type 0} (settings : Settings) (e : ScriptHostState D) (m : ScriptState) → RepresentsScript settings e m → IsWellMade m → (n : ℕ) (v : script.Invoked) → slice_get m.invoked n ≡ Some v
    → IsCallReady e.host.host e.instances m.instances v
call_ready settings e m s well n v at = record {
  has = λ i place outcome.
      let d = well.there.calls n i place v at outcome in (
        d.0,
        d.1,
        d.2,
        d.3,
        looked_up settings e m i d.0 s d.2,
        λ gone. well.gone.calls n i place v d.0 d.1 at outcome d.2 gone d.3,
      );
  silent = λ number status last_printed final. (ended_stays m well).1 n number v status at last_printed final;
}

abbrev pub with_said : {D : Type 0} → ScriptHostState D → List Invoked → ScriptHostState D
with_said e xs = record e { invoked = xs }

pub calls_are_said : {D : Type 0} (settings : Settings) (e : ScriptHostState D) (m : ScriptState) (xs : List Invoked) (between : List Invoked) (text now : List ℕ) → RepresentsScript settings e m → IsWellMade m
    → OneByOne (PrintsCallOf e.host.host e.instances) e.invoked text between now → xs ≡ filter (λ x. not (is_settled x)) between
    → (lines : List Reply) × (invoked : List script.Invoked) × PrintCalls m.instances 1 m.invoked lines invoked × AddsLines lines text now × RepresentsScript settings (with_said e xs) (record m { invoked = invoked })
calls_are_said settings e m xs between text now s well steps left =
    let d = print_calls e.host.host e.instances m.instances 1 s.pending m.invoked text between now s.stands.invoked (call_ready settings e m s well) steps in
    let many : length s.invoked ≡ length d.all2 = calls_many 1 s.invoked m.invoked s.stands.invoked ∙ sym (as_many_calls m.instances 1 m.invoked d.last_printed d.lines d.says) ∙ sym (calls_many 1 d.all2 d.last_printed d.are) in
    let known = s.stands.knows in (
      d.lines,
      d.last_printed,
      d.says,
      d.adds,
      record {
        instances = s.instances;
        invoked = d.all2;
        kept = s.kept;
        pending = subst (λ ys. LeavesOut is_settled ys d.all2) (sym left) (let_go d.kept);
        asked = s.asked ∙ many;
        stands = record {
          world = s.stands.world;
          is = s.stands.is;
          knows = record {
            frames = known.frames;
            slots = known.slots;
            tax_num = known.tax_num;
            tax_den = known.tax_den;
            none_out = known.none_out;
            minima = known.minima;
            spreads = known.spreads;
            modules = known.modules;
            instances = known.instances;
            placed = known.placed;
          };
          module_names = s.stands.module_names;
          instance_names = s.stands.instance_names;
          apart = s.stands.apart;
          instances = s.stands.instances;
          invoked = d.are;
        };
      },
    )

-- ---- both

pub both_said : {D : Type 0} (e mid e2 : ScriptHostState D) (text between text2 : List ℕ) → PrintsAllStarts e text mid between → PrintsAllCalls mid between e2 text2 → PrintsAll e text e2 text2
both_said e mid e2 text between text2 starts calls settings m s well =
    let a = starts settings m s well in
    let b = calls settings (record m { instances = a.1 }) a.4 (starts_well m a.0 a.1 well a.2) in
    (a.0, b.0, a.1, b.1, a.2, b.2, adds_more a.0 b.0 text between text2 a.3 b.3, b.4)

-- ---- parts

-- it is said how a call is that was taken
pub takes_so : (instances : List script.NamedInstance) (number : ℕ) (v : script.Invoked) (i place : ℕ) (g : script.NamedInstance) (c : Call) (status : CallStatus) (lines : List Reply) → v.outcome ≡ script.call_accepted i place
    → slice_get instances i ≡ Some g → slice_get g.calls place ≡ Some c → status ≡ call_status g place c → PrintsLine (texts.call number) v.last_printed status lines
    → PrintsCall instances number v lines (record v { last_printed = Some status })
takes_so instances number v i place g c status lines outcome at first e says =
    let P : CallStatus → Type 0 = λ s. PrintsLine (texts.call number) v.last_printed s lines → PrintsCall instances number v lines (record v { last_printed = Some s }) in
    let there : P (call_status g place c) = λ line. is_taken outcome at first line in
    subst P (sym e) there says

pub starts_so : (g : script.NamedInstance) (c : Call) (name : List ℕ) (last_printed : Option CallStatus) (status : CallStatus) (lines : List Reply) → name ≡ g.name → last_printed ≡ g.last_printed → status ≡ call_status g 0 c
    → HasStart g → slice_get g.calls 0 ≡ Some c → PrintsLine (texts.start name) last_printed status lines
    → PrintsStart g lines (record g { last_printed = Some (call_status g 0 c) })
starts_so g c name last_printed status lines named before e has first says =
    has_one has first (subst (λ n. PrintsLine (texts.start n) g.last_printed (call_status g 0 c) lines) named
    (subst (λ o. PrintsLine (texts.start name) o (call_status g 0 c) lines) before (subst (λ s. PrintsLine (texts.start name) last_printed s lines) e says)))

-- what holds where a line was added holds of it
pub on_ok_then : {A E : Type 0} {P Q : Type 0} (r : Result A E) → OnOk r P → (P → Q) → OnOk r Q
on_ok_then (Ok x) p f = f p
on_ok_then (Err e) p f = tt

pub on_ok_both : {A E : Type 0} (P Q : Type 0) (r : Result A E) → OnOk r P → OnOk r Q → OnOk r (P × Q)
on_ok_both P Q (Ok x) p q = (p, q)
on_ok_both P Q (Err e) p q = tt
