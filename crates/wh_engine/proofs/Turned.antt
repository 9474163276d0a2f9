-- The turns in which calls ran.
use Rattle.std.proofs.Common.{◌≡◌, ◌⊎◌, ℕ, ◌+◌, ◌*◌, ◌≤◌, [], None, IfOk, OnErr, OnOk, IsOk, is_err, is_ok, ◌||◌, Bool, false, true, Option, Result, Ok, Err, inl, inr, ap, refl, sym, subst, ◌∙◌, arith}
use Rattle.std.proofs.lemmas.Bool.{false≢true}
use Rattle.crossbeam_channel.specs.Claims.{view}
use Rattle.wh_threads.specs.declared.own_count.OwnCount.{OwnCount}
use Rattle.wh_threads.specs.Handover.{SameMessages}
use Rattle.wh_workers.specs.Serving.{AreRun, AreTurns}
use Rattle.wh_workers.specs.declared.crew.Served.{Served}
use Rattle.wh_workers.specs.declared.crew.ServeError.{ServeError}
use Rattle.wh_cell.specs.Locking.{BooksState}
use Rattle.wh_scheduler.specs.InHand.{OwnedState, RunsHere, WorksHere}
use Rattle.wh_scheduler.proofs.OwnTurns.{works_by_turns}
use Rattle.wh_engine.specs.Draining.{CountsPass, GoesOnByOwner, HasRunFew, IsServedWhole, RanByWorkers, RanInParts, RunsTurns, none_ran, owner_ran, workers_ran}

-- ---- few turns of the owner

few_none : (own : OwnCount) → HasRunFew own own
few_none own = omega arith

pub few_here : (books books2 : BooksState) (own own2 : OwnCount) (here : ℕ) → here ≤ 31 → RunsHere books own here books2 own2 → HasRunFew own own2
few_here books books2 own own2 here few ran =
    omega (arith, few, ap (λ (o : OwnCount). o.turns) ran.own_is, ap (λ (o : OwnCount). o.evictions) ran.own_is)

pub few_paged : (books2 books3 : BooksState) (own own2 own3 : OwnCount) (turns offers : ℕ) → HasRunFew own own2 → WorksHere books2 own2 turns offers books3 own3
    → turns + 4096 * own2.evictions ≤ 4096 * own3.evictions → HasRunFew own own3
few_paged books2 books3 own own2 own3 turns offers few did paged = omega (arith, few, paged, ap (λ (o : OwnCount). o.turns) did.own_is)

pub few_on : (own own2 own3 : OwnCount) → HasRunFew own own2 → own3 ≡ own2 → HasRunFew own own3
few_on own own2 own3 few same = subst (λ (o : OwnCount). HasRunFew own o) (sym same) few

-- ---- one after the other

pub begun_here : (q : ℕ) (books books2 : BooksState) (own own2 : OwnCount) (here : ℕ) → RunsHere books own here books2 own2 → RanInParts q books own books2 own2
begun_here q books books2 own own2 here ran = owner_ran here 0 none_ran (works_by_turns books books2 own own2 here ran)

where_whole : {P : Type 0} (end : Result Unit ServeError) → IsOk end → OnOk end P → P
where_whole (Ok x) is p = p
where_whole (Err x) is p = absurd (false≢true is)

same_served : (a b : Served) (r : Result Served ServeError) → r ≡ Ok a → r ≡ Ok b → b ≡ a
same_served a b r e f = cc (sym e ∙ f)

-- workers ran all that were handed out
whole_turns : (q : ℕ) (books books2 : BooksState) (served : Result Served ServeError) → IsServedWhole served
    → IfOk served (λ s. AreTurns s.turns q (view s.slip).sent)
    → IfOk served (λ s. OnOk s.end (SameMessages (view s.slip).sent (view s.slip).received))
    → IfOk served (λ s. AreRun books.turns s.left (view s.slip).received books2.turns)
    → IfOk served (λ s. OnOk s.end (books2.turns ≡ books.turns + s.turns)) → RanByWorkers q books books2
whole_turns q books books2 (Err e) (s, is, whole) dispatched once ran grown = absurd (cc is)
whole_turns q books books2 (Ok t) (s, is, whole) dispatched once ran grown =
    let ended = subst (λ (r : Served). IsOk r.end) (same_served t s (Ok t) refl is) whole in record {
      turns = t.turns;
      sent = (view t.slip).sent;
      received = (view t.slip).received;
      left = t.left;
      dispatched = dispatched;
      once = where_whole t.end ended once;
      ran = ran;
      grown = where_whole t.end ended grown;
    }

pub workers_too : (q : ℕ) (books books2 books3 : BooksState) (own own2 own3 : OwnCount) (served : Result Served ServeError)
    → RanInParts q books own books2 own2 → own3 ≡ own2
    → IsServedWhole served → IfOk served (λ s. AreTurns s.turns q (view s.slip).sent)
    → IfOk served (λ s. OnOk s.end (SameMessages (view s.slip).sent (view s.slip).received))
    → IfOk served (λ s. AreRun books2.turns s.left (view s.slip).received books3.turns)
    → IfOk served (λ s. OnOk s.end (books3.turns ≡ books2.turns + s.turns)) → RanInParts q books own books3 own3
workers_too q books books2 books3 own own2 own3 served first same whole dispatched once ran grown =
    subst (λ (o : OwnCount). RanInParts q books own books3 o) (sym same)
    (workers_ran first (whole_turns q books2 books3 served whole dispatched once ran grown))

-- ---- all of them

-- no thread was lacking
pub turns_in_parts : (q : ℕ) (lacked : Bool) (books books2 : BooksState) (own own2 : OwnCount) → RanInParts q books own books2 own2 → HasRunFew own own2
    → RunsTurns q lacked books own books2 own2
turns_in_parts q lacked books books2 own own2 ran few =
    record { between = books2; own_between = own2; ran = ran; few = few; ends = inl (refl, refl) }

-- where none can go on, there was none
pub no_turns : (q : ℕ) (lacked : Bool) (books : BooksState) (own : OwnCount) → RunsTurns q lacked books own books own
no_turns q lacked books own = turns_in_parts q lacked books books own own none_ran (few_none own)

-- workers ran some of those that were handed out, and the owner others behind them
goes_on : (q : ℕ) (books behind books2 : BooksState) (own own2 : OwnCount) (served : Result Served ServeError) (further offered : ℕ)
    → IfOk served (λ s. AreTurns s.turns q (view s.slip).sent) → IfOk served (λ s. AreRun books.turns s.left (view s.slip).received behind.turns)
    → OnErr served (behind.turns ≡ books.turns) → WorksHere behind own further offered books2 own2 → GoesOnByOwner q books own books2 own2
goes_on q books behind books2 own own2 (Ok t) further offered dispatched ran none did = record {
  turns = t.turns;
  sent = (view t.slip).sent;
  received = (view t.slip).received;
  left = t.left;
  dispatched = dispatched;
  behind = behind;
  ran = ran;
  further = further;
  offered = offered;
  did = did;
}
goes_on q books behind books2 own own2 (Err e) further offered dispatched ran none did = record {
  turns = 0;
  sent = [];
  received = [];
  left = None;
  dispatched = record { many = refl; numbered = refl; quanta = tt };
  behind = behind;
  ran = record { by_workers = []; all = refl; grown = omega (arith, none) };
  further = further;
  offered = offered;
  did = did;
}

pub turns_by_owner : (q : ℕ) (books mid behind books2 : BooksState) (own own2 own3 own4 : OwnCount) (served : Result Served ServeError) (further offered : ℕ)
    → RanInParts q books own mid own2 → HasRunFew own own2 → own3 ≡ own2 → IfOk served (λ s. AreTurns s.turns q (view s.slip).sent)
    → IfOk served (λ s. AreRun mid.turns s.left (view s.slip).received behind.turns)
    → OnErr served (behind.turns ≡ mid.turns) → WorksHere behind own3 further offered books2 own4 → RunsTurns q true books own books2 own4
turns_by_owner q books mid behind books2 own own2 own3 own4 served further offered first few same dispatched ran none did = record {
  between = mid;
  own_between = own2;
  ran = first;
  few = few;
  ends = inr (
    refl,
    goes_on q mid behind books2 own2 own4 served further offered dispatched ran none
        (subst (λ (o : OwnCount). WorksHere behind o further offered books2 own4) same did),
  );
}

-- so it is where all was served to its end
pub where_served : (end : Result Unit ServeError) (served : Result Served ServeError) → false ≡ is_err end → OnOk end (IsServedWhole served)
    → IsServedWhole served
where_served (Ok x) served is whole = whole
where_served (Err e) served is whole = absurd (cc is)

-- none can go on, or the owner can count no further turn
pub rests_or : {P Q : Type 0} (rests : Bool) → (rests ≡ true → P) → (rests ≡ false → Q) → P ⊎ Q
rests_or true p q = inl (p refl)
rests_or false p q = inr (q refl)

-- ---- what is told of threads

told_now : (before lacked : Bool) → lacked ≡ true → (before || lacked) ≡ true
told_now true lacked is = refl
told_now false lacked is = is

-- that one lacked now, or had before
pub turns_told : (q : ℕ) (before lacked : Bool) (books books2 : BooksState) (own own2 : OwnCount) → RunsTurns q lacked books own books2 own2
    → RunsTurns q (before || lacked) books own books2 own2
turns_told q before lacked books books2 own own2 r = record {
  between = r.between;
  own_between = r.own_between;
  ran = r.ran;
  few = r.few;
  ends = elim r.ends [
    | inl none ↦ inl none
    | inr goes ↦ inr (told_now before lacked goes.0, goes.1)
  ];
}

pub told_before : (before lacked : Bool) → before ≡ true → (before || lacked) ≡ true
told_before true lacked is = refl
told_before false lacked is = absurd (false≢true is)

pub pass_told : {D : Type 0} (before lacked : Bool) (o o2 : OwnedState D) (offered : Option ℕ) → CountsPass lacked o offered o2
    → CountsPass (before || lacked) o offered o2
pass_told before lacked o o2 offered (inl counts) = inl counts
pass_told before lacked o o2 offered (inr counts) = inr (told_now before lacked counts.0, counts.1, counts.2)

-- ---- a pass: of what was answered

-- where it was made by a scanner
pub at_ok_of : {A E P : Type 0} (r : Result A E) → true ≡ is_ok r → OnOk r P → P
at_ok_of (Ok x) is p = p
at_ok_of (Err e) is p = absurd (cc is)

pub some_of : {A E : Type 0} {P Q : A → Type 0} (r : Result A E) → true ≡ is_ok r → IfOk r P → IfOk r Q → (x : A) × P x × Q x
some_of (Ok x) is p q = (x, p, q)
some_of (Err e) is p q = absurd (cc is)

-- where it wasn't
pub at_err_of : {A E P : Type 0} (r : Result A E) → false ≡ is_ok r → OnErr r P → P
at_err_of (Ok x) is p = absurd (cc is)
at_err_of (Err e) is p = p
