-- What a command gets is determined, and what lines have made stays in order.
use Rattle.std.proofs.Common.{◌≡◌, ℕ, ⊎_elim, Bool, true, false, List, [], ◌∷◌, Option, Some, None, ℤ, refl, sym, ap, subst, ◌∙◌, rules}
use Rattle.std.specs.List.{AllZip}
use Rattle.std.proofs.lemmas.Bool.{false≢true}
use Rattle.std.proofs.lemmas.Option.{none-some, same_Some}
use Rattle.wh_model.specs.Format.{Module}
use Rattle.wh_model.specs.Execution.Replay.{Replay}
use Rattle.wh_model.specs.Execution.{Standing, store_at}
use Rattle.wh_model.specs.Execution.Store.{Instance}
use Rattle.wh_model.specs.Laws.{Alike}
use Rattle.wh_model.proofs.Opened.{opened_store}
use Rattle.wh_model.proofs.Journals.{one_standing}
use Rattle.wh_host_model.specs.{Params, given_of, first_open}
use Rattle.wh_script_model.specs.Settings.{Settings}
use Rattle.wh_script_model.specs.{Command, keep, load, admit, invoke, drain, refuel, cancel, retry, scan, report, release, Reply, error, refuel_ok, refuel_refused, cancel_ok, cancel_refused, retry_ok, retry_refused, scan_ok, release_ok, release_refused, NamedInstance, HasModule, NoModule, HasInstance, LacksInstance, with_instance, with_first_open, cancel_first, ReceivesModule, ReceivesInstance, Files, with_fuel, IsObeyed, module_name_is_taken, no_file, module_comes, no_such_module, instance_name_is_taken, instance_comes, no_such_instance, is_drained, is_scanned, is_reported, is_refueled, no_one_to_refuel, no_call_to_refuel, is_cancelled, no_one_to_cancel, no_call_to_cancel, is_retried, no_one_to_retry, no_fault_to_retry, is_released, no_one_to_release}
use Rattle.wh_script_model.specs.ScriptState.{ScriptState}
use Rattle.wh_script_laws.specs.Determined.{IsKnownFile, IsAlike, is_same}
use Rattle.wh_script_laws.proofs.DeterminedNames.{BeganWell, IsOrderly, well_there, one_module_named, one_guest_named}
use Rattle.wh_script_laws.proofs.DeterminedParts.{module_once, guest_once}

-- ---- replies that are alike

-- replies alike, and the same is made
abbrev pub IsOnce : List Reply → List Reply → ScriptState → ScriptState → Type 0
IsOnce replies replies2 a b = AllZip IsAlike replies replies2 × (a ≡ b)

pub all_alike : (replies : List Reply) → AllZip IsAlike replies replies
all_alike [] = tt
all_alike (r ∷ replies) = (is_same, all_alike replies)

pub same_once : (replies replies2 : List Reply) (a b : ScriptState) → replies ≡ replies2 → a ≡ b → IsOnce replies replies2 a b
same_once replies replies2 a b e f = (subst (AllZip IsAlike replies) e (all_alike replies), f)

-- ---- what a command gets, by what it needs

-- a module of a name, whose bytes are these, or its file is none
data GetsModule (w : ScriptState) (number : ℕ) (name : List ℕ) (held : Option (List ℕ) → Type 0) : List Reply → ScriptState → Type 0 where
  name_taken : {m : Module} → HasModule w name m → GetsModule w number name held (error 3 number ∷ []) w
  none_held : NoModule w name → held None → GetsModule w number name held (error 4 number ∷ []) w
  bytes_held : {bytes : List ℕ} {reply : Reply} {w2 : ScriptState} → NoModule w name → held (Some bytes)
      → ReceivesModule false w name bytes reply w2 → GetsModule w number name held (reply ∷ []) w2

-- an instance of a name, of the module of another one
data GetsGuest (settings : Settings) (w : ScriptState) (number : ℕ) (inst of : List ℕ) (p : Params) : List Reply → ScriptState → Type 0 where
  has_no_module : NoModule w of → GetsGuest settings w number inst of p (error 2 number ∷ []) w
  inst_taken : {m : Module} (i : ℕ) {g : NamedInstance} → HasModule w of m → HasInstance w inst i g
      → GetsGuest settings w number inst of p (error 3 number ∷ []) w
  inst_free : {m : Module} {reply : Reply} {w2 : ScriptState} → HasModule w of m → LacksInstance w inst
      → ReceivesInstance false settings w inst m p reply w2 → GetsGuest settings w number inst of p (reply ∷ []) w2

-- what is done to an instance of a name
data GetsDone (w : ScriptState) (number : ℕ) (inst : List ℕ) (done : ℕ → NamedInstance → List Reply → ScriptState → Type 0)
    : List Reply → ScriptState → Type 0 where
  nobody : LacksInstance w inst → GetsDone w number inst done (error 2 number ∷ []) w
  somebody : {replies : List Reply} {w2 : ScriptState} (i : ℕ) (g : NamedInstance) → HasInstance w inst i g → done i g replies w2
      → GetsDone w number inst done replies w2

-- ---- what is done to an instance: it is released, has no open call, or has one

-- whether it is released, and which of its calls is open, or for what it stands
data IsDone {A : Type 0} (gone : Reply) (w : ScriptState) (none : Reply) (one : Reply) (w2 : ScriptState) : Bool → Option A → List Reply → ScriptState → Type 0 where
  where_gone : {o : Option A} → IsDone gone w none one w2 true o (gone ∷ []) w
  where_none : IsDone gone w none one w2 false None (none ∷ []) w
  where_open : {call : A} → IsDone gone w none one w2 false (Some call) (one ∷ []) w2

done_once : {A : Type 0} {gone none one : Reply} {w w2 a b : ScriptState} {replies replies2 : List Reply} {l l2 : Bool} {o o2 : Option A} → l ≡ l2 → o ≡ o2
    → IsDone gone w none one w2 l o replies a → IsDone gone w none one w2 l2 o2 replies2 b → IsOnce replies replies2 a b
done_once e f where_gone where_gone = ((is_same, tt), refl)
done_once e f where_gone where_none = absurd (false≢true (sym e))
done_once e f where_gone where_open = absurd (false≢true (sym e))
done_once e f where_none where_gone = absurd (false≢true e)
done_once e f where_none where_none = ((is_same, tt), refl)
done_once e f where_none (where_open {call = c}) = absurd (none-some c f)
done_once e f where_open where_gone = absurd (false≢true e)
done_once e f (where_open {call = c}) where_none = absurd (none-some c (sym f))
done_once e f where_open where_open = ((is_same, tt), refl)

abbrev Refueled : ScriptState → List ℕ → ℕ → ℕ → NamedInstance → List Reply → ScriptState → Type 0
Refueled w name n i g replies w2 =
    IsDone (refuel_refused name 1) w (refuel_refused name 8) (refuel_ok name)
    (with_instance w i (record g { calls = with_first_open (with_fuel n) g.calls })) g.is_released (first_open g.calls) replies w2

abbrev Cancelled : ScriptState → List ℕ → ℕ → NamedInstance → List Reply → ScriptState → Type 0
Cancelled w name i g replies w2 =
    IsDone (cancel_refused name 1) w (cancel_refused name 8) (cancel_ok name)
    (with_instance w i (record g { calls = cancel_first g.calls; at_fault = None })) g.is_released (first_open g.calls) replies w2

abbrev Retried : ScriptState → List ℕ → ℕ → NamedInstance → List Reply → ScriptState → Type 0
Retried w name i g replies w2 =
    IsDone (retry_refused name 1) w (retry_refused name 8) (retry_ok name)
    (with_instance w i (record g { at_fault = None })) g.is_released g.at_fault replies w2

-- it goes, with the output that its journal comes to
data Released (w : ScriptState) (name : List ℕ) (i : ℕ) (g : NamedInstance) : List Reply → ScriptState → Type 0 where
  goes_now : (z : Standing) → g.is_released ≡ false → Replay g.m (given_of g.params) g.calls z
      → Released w name i g (release_ok name (store_at z).output ∷ []) (with_instance w i (record g { is_released = true }))
  has_gone : g.is_released ≡ true → Released w name i g (release_refused name 1 ∷ []) w

alike_store : {inst : Instance} {y z : Standing} → Alike inst y z → store_at y ≡ store_at z
alike_store a = search (rules, ⊎_elim, opened_store)

released_once : (w : ScriptState) (name : List ℕ) (i : ℕ) (g : NamedInstance) {replies replies2 : List Reply} {a b : ScriptState} → BeganWell g
    → Released w name i g replies a → Released w name i g replies2 b → IsOnce replies replies2 a b
released_once w name i g well (goes_now y e r) (goes_now z f t) =
    let begun = well.begun in
    let same = alike_store (one_standing g.m (given_of g.params) g.inst begun.0 g.pieces g.calls y z begun.1 r t) in
    same_once _ _ _ _ (ap (λ s. release_ok name s.output ∷ []) same) refl
released_once w name i g well (goes_now y e r) (has_gone f) = absurd (false≢true (sym e ∙ f))
released_once w name i g well (has_gone e) (goes_now z f t) = absurd (false≢true (sym f ∙ e))
released_once w name i g well (has_gone e) (has_gone f) = ((is_same, tt), refl)

-- ---- by the command

-- if it loads a file, what that holds is known
abbrev pub LoadsKnown : Files → Command → Type 0
LoadsKnown files command = (name path : List ℕ) → command ≡ load name path → IsKnownFile files path

abbrev IsHeld : Files → Command → Option (List ℕ) → Type 0
IsHeld files (keep name bytes) held = held ≡ Some bytes
IsHeld files (load name path) held = files path held ≡ true
IsHeld files other held = ⊥

abbrev Gets : Settings → Files → ScriptState → ℕ → Command → List Reply → ScriptState → Type 0
Gets settings files w number (keep name bytes) replies w2 = GetsModule w number name (IsHeld files (keep name bytes)) replies w2
Gets settings files w number (load name path) replies w2 = GetsModule w number name (IsHeld files (load name path)) replies w2
Gets settings files w number (admit inst of p) replies w2 = GetsGuest settings w number inst of p replies w2
Gets settings files w number (invoke inst export fuel args) replies w2 = LacksInstance w inst × (replies ≡ error 2 number ∷ []) × (w2 ≡ w)
Gets settings files w number drain replies w2 = (replies ≡ []) × (w2 ≡ w)
Gets settings files w number (refuel inst n) replies w2 = GetsDone w number inst (Refueled w inst n) replies w2
Gets settings files w number (cancel inst) replies w2 = GetsDone w number inst (Cancelled w inst) replies w2
Gets settings files w number (retry inst) replies w2 = GetsDone w number inst (Retried w inst) replies w2
Gets settings files w number scan replies w2 = (replies ≡ scan_ok ∷ []) × (w2 ≡ w)
Gets settings files w number report replies w2 = (replies ≡ []) × (w2 ≡ w)
Gets settings files w number (release inst) replies w2 = GetsDone w number inst (Released w inst) replies w2

module _ (settings : Settings) (files : Files) where
  gets_so : (w : ScriptState) (number : ℕ) (command : Command) {replies : List Reply} {w2 : ScriptState}
      → IsObeyed false settings files w number command replies w2 → Gets settings files w number command replies w2
  gets_so w number command (module_name_is_taken {command = keep n b} {name = name} {m = m} names has) =
      name_taken (subst (λ k. HasModule w k m) (sym names) has)
  gets_so w number command (module_name_is_taken {command = load n b} {name = name} {m = m} names has) =
      name_taken (subst (λ k. HasModule w k m) (sym names) has)
  gets_so w number command (module_name_is_taken names has) = absurd names
  gets_so w number command (no_file none file) = none_held none file
  gets_so w number command (module_comes {command = keep n b} {name = name} {bytes = bytes} {reply = reply} {w2 = w2} names none brings x) =
      bytes_held (subst (NoModule w) (sym names) none) (ap (λ (k : List ℕ). Some k) (sym brings))
      (subst (λ k. ReceivesModule false w k bytes reply w2) (sym names) x)
  gets_so w number command (module_comes {command = load n b} {name = name} {bytes = bytes} {reply = reply} {w2 = w2} names none brings x) =
      bytes_held (subst (NoModule w) (sym names) none) brings (subst (λ k. ReceivesModule false w k bytes reply w2) (sym names) x)
  gets_so w number command (module_comes names none brings x) = absurd names
  gets_so w number command (no_such_module none) = has_no_module none
  gets_so w number command (instance_name_is_taken i has taken) = inst_taken i has taken
  gets_so w number command (instance_comes has none x) = inst_free has none x
  gets_so w number command (no_such_instance {command = invoke inst export fuel args} is none) = (subst (LacksInstance w) (sym is) none, refl, refl)
  gets_so w number command (no_such_instance {command = refuel inst n} is none) = nobody (subst (LacksInstance w) (sym is) none)
  gets_so w number command (no_such_instance {command = cancel inst} is none) = nobody (subst (LacksInstance w) (sym is) none)
  gets_so w number command (no_such_instance {command = retry inst} is none) = nobody (subst (LacksInstance w) (sym is) none)
  gets_so w number command (no_such_instance {command = release inst} is none) = nobody (subst (LacksInstance w) (sym is) none)
  gets_so w number command (no_such_instance is none) = absurd is
  gets_so w number command is_drained = (refl, refl)
  gets_so w number command is_scanned = (refl, refl)
  gets_so w number command is_reported = (refl, refl)
  gets_so w number command (is_refueled i {g = g} has live one) = somebody i g has (rw (live, one) where_open)
  gets_so w number command (no_one_to_refuel i {g = g} has gone) = somebody i g has (rw gone where_gone)
  gets_so w number command (no_call_to_refuel i {g = g} has live none) = somebody i g has (rw (live, none) where_none)
  gets_so w number command (is_cancelled i {g = g} has live one) = somebody i g has (rw (live, one) where_open)
  gets_so w number command (no_one_to_cancel i {g = g} has gone) = somebody i g has (rw gone where_gone)
  gets_so w number command (no_call_to_cancel i {g = g} has live none) = somebody i g has (rw (live, none) where_none)
  gets_so w number command (no_one_to_retry i {g = g} has gone) = somebody i g has (rw gone where_gone)
  gets_so w number command (is_retried i {g = g} has live stands) = somebody i g has (rw (live, stands) where_open)
  gets_so w number command (no_fault_to_retry i {g = g} has live none) = somebody i g has (rw (live, none) where_none)
  gets_so w number command (is_released i {g = g} z has live replay) = somebody i g has (goes_now z live replay)
  gets_so w number command (no_one_to_release i {g = g} has gone) = somebody i g has (has_gone gone)

  -- ---- it is determined

  module_gets_once : (w : ScriptState) (number : ℕ) (name : List ℕ) (held : Option (List ℕ) → Type 0)
      → ((one other : Option (List ℕ)) → held one → held other → one ≡ other)
      → {replies replies2 : List Reply} {a b : ScriptState} → GetsModule w number name held replies a → GetsModule w number name held replies2 b
      → IsOnce replies replies2 a b
  module_gets_once w number name held known (name_taken has) (name_taken has2) = ((is_same, tt), refl)
  module_gets_once w number name held known (name_taken {m = m} has) (none_held none at) = absurd (none m has)
  module_gets_once w number name held known (name_taken {m = m} has) (bytes_held none at x) = absurd (none m has)
  module_gets_once w number name held known (none_held none at) (name_taken {m = m} has) = absurd (none m has)
  module_gets_once w number name held known (none_held none at) (none_held none2 at2) = ((is_same, tt), refl)
  module_gets_once w number name held known (none_held none at) (bytes_held {bytes = bytes} none2 at2 x) =
      absurd (none-some bytes (known None (Some bytes) at at2))
  module_gets_once w number name held known (bytes_held none at x) (name_taken {m = m} has) = absurd (none m has)
  module_gets_once w number name held known (bytes_held {bytes = bytes} none at x) (none_held none2 at2) =
      absurd (none-some bytes (known None (Some bytes) at2 at))
  module_gets_once w number name held known (bytes_held {bytes = bytes} none at x) (bytes_held {bytes = bytes2} {reply = reply2} {w2 = b} none2 at2 y) =
      let same : bytes2 ≡ bytes = same_Some bytes2 bytes (known (Some bytes2) (Some bytes) at2 at) in
      let once = module_once w name bytes x (subst (λ k. ReceivesModule false w name k reply2 b) same y) in
      ((once.0, tt), once.1)

  guest_gets_once : (w : ScriptState) (number : ℕ) (inst of : List ℕ) (p : Params) → IsOrderly w
      → {replies replies2 : List Reply} {a b : ScriptState} → GetsGuest settings w number inst of p replies a
      → GetsGuest settings w number inst of p replies2 b → IsOnce replies replies2 a b
  guest_gets_once w number inst of p o (has_no_module none) (has_no_module none2) = ((is_same, tt), refl)
  guest_gets_once w number inst of p o (has_no_module none) (inst_taken {m = m} i has taken) = absurd (none m has)
  guest_gets_once w number inst of p o (has_no_module none) (inst_free {m = m} has free x) = absurd (none m has)
  guest_gets_once w number inst of p o (inst_taken {m = m} i has taken) (has_no_module none) = absurd (none m has)
  guest_gets_once w number inst of p o (inst_taken i has taken) (inst_taken j has2 taken2) = ((is_same, tt), refl)
  guest_gets_once w number inst of p o (inst_taken i {g = g} has taken) (inst_free has2 free x) = absurd (free i g taken)
  guest_gets_once w number inst of p o (inst_free {m = m} has free x) (has_no_module none) = absurd (none m has)
  guest_gets_once w number inst of p o (inst_free has free x) (inst_taken i {g = g} has2 taken) = absurd (free i g taken)
  guest_gets_once w number inst of p o (inst_free {m = m} has free x) (inst_free {m = n} {reply = reply2} {w2 = b} has2 free2 y) =
      let same : n ≡ m = one_module_named w of n m o has2 has in
      let once = guest_once settings w inst m p x (subst (λ (k : Module). ReceivesInstance false settings w inst k p reply2 b) same y) in
      ((once.0, tt), once.1)

  done_gets_once : (w : ScriptState) (number : ℕ) (inst : List ℕ) (done : ℕ → NamedInstance → List Reply → ScriptState → Type 0) → IsOrderly w
      → ((i : ℕ) (g : NamedInstance) (replies replies2 : List Reply) (a b : ScriptState) → BeganWell g → done i g replies a → done i g replies2 b
      → IsOnce replies replies2 a b)
      → {replies replies2 : List Reply} {a b : ScriptState} → GetsDone w number inst done replies a → GetsDone w number inst done replies2 b
      → IsOnce replies replies2 a b
  done_gets_once w number inst done o once (nobody none) (nobody none2) = ((is_same, tt), refl)
  done_gets_once w number inst done o once (nobody none) (somebody i g has x) = absurd (none i g has)
  done_gets_once w number inst done o once (somebody i g has x) (nobody none) = absurd (none i g has)
  done_gets_once w number inst done o once (somebody {replies = r} {w2 = a} i g has x) (somebody {replies = r2} {w2 = b} j h has2 y) =
      let same = one_guest_named w inst j i h g o has2 has in
      once i g r r2 a b (well_there w inst i g o has)
      x (subst (λ (k : NamedInstance). done i k r2 b) same.1 (subst (λ k. done k h r2 b) same.0 y))

  gets_once : (w : ScriptState) (number : ℕ) (command : Command) → LoadsKnown files command → (replies replies2 : List Reply) (a b : ScriptState) → IsOrderly w
      → Gets settings files w number command replies a → Gets settings files w number command replies2 b → IsOnce replies replies2 a b
  gets_once w number (keep n bytes) known r r2 a b o x y =
      module_gets_once w number n (IsHeld files (keep n bytes)) (λ one other p q. p ∙ sym q) x y
  gets_once w number (load n path) known r r2 a b o x y =
      module_gets_once w number n (IsHeld files (load n path)) (known n path refl) x y
  gets_once w number (admit inst of p) known r r2 a b o x y = guest_gets_once w number inst of p o x y
  gets_once w number (invoke inst export fuel args) known r r2 a b o x y = same_once r r2 a b (x.1 ∙ sym y.1) (x.2 ∙ sym y.2)
  gets_once w number drain known r r2 a b o x y = same_once r r2 a b (x.0 ∙ sym y.0) (x.1 ∙ sym y.1)
  gets_once w number (refuel inst n) known r r2 a b o x y =
      done_gets_once w number inst (Refueled w inst n) o (λ i g s s2 c d well p q. done_once refl refl p q) x y
  gets_once w number (cancel inst) known r r2 a b o x y =
      done_gets_once w number inst (Cancelled w inst) o (λ i g s s2 c d well p q. done_once refl refl p q) x y
  gets_once w number (retry inst) known r r2 a b o x y =
      done_gets_once w number inst (Retried w inst) o (λ i g s s2 c d well p q. done_once refl refl p q) x y
  gets_once w number scan known r r2 a b o x y = same_once r r2 a b (x.0 ∙ sym y.0) (x.1 ∙ sym y.1)
  gets_once w number report known r r2 a b o x y = same_once r r2 a b (x.0 ∙ sym y.0) (x.1 ∙ sym y.1)
  gets_once w number (release inst) known r r2 a b o x y =
      done_gets_once w number inst (Released w inst) o (λ i g s s2 c d well p q. released_once w inst i g well p q) x y

  pub command_once : (w : ScriptState) (number : ℕ) (command : Command) → LoadsKnown files command → (replies replies2 : List Reply) (a b : ScriptState) → IsOrderly w
      → IsObeyed false settings files w number command replies a → IsObeyed false settings files w number command replies2 b
      → IsOnce replies replies2 a b
  command_once w number command known replies replies2 a b o x y =
      gets_once w number command known replies replies2 a b o (gets_so w number command x) (gets_so w number command y)

  -- an `invoke` gets a reply of its own only where there is nobody of this name
  pub nobody_to_invoke : (w : ScriptState) (number : ℕ) (inst export : List ℕ) (fuel : ℕ) (args : List ℤ) (replies : List Reply) (w2 : ScriptState)
      → IsObeyed false settings files w number (invoke inst export fuel args) replies w2 → LacksInstance w inst
  nobody_to_invoke w number inst export fuel args replies w2 x = (gets_so w number (invoke inst export fuel args) x).0
