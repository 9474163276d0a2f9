-- Journals with their last call changed, or with one more.
use Rattle.std.proofs.Common.{◌≡◌, ◌⊎◌, ⊎_elim, false, List, [], ◌∷◌, ◌++◌, append-nil, sym, subst, ◌∙◌}
use Rattle.std.specs.Bool.{MatchBool}
use Rattle.std.specs.List.{AllByRecursion}
use Rattle.wh_model.specs.Format.{Module}
use Rattle.wh_model.specs.Execution.{Outcome, returned, stopped, cancelled, dead, pending, Call, fails, NamesFunction, IsDead, IsNotDead, IsJournal}
use Rattle.wh_alone.specs.Journal.{HasStarted, IsJournalOf}

none_behind : (o : Outcome) → MatchBool (fails o) (AllByRecursion IsDead []) (AllByRecursion IsNotDead [])
none_behind (returned vs) = tt
none_behind (stopped x) = tt
none_behind cancelled = tt
none_behind dead = tt
none_behind pending = tt

pub all_join : (P : Call → Type 0) (xs ys : List Call) → AllByRecursion P xs → AllByRecursion P ys → AllByRecursion P (xs ++ ys)
all_join P [] ys p q = q
all_join P (x ∷ xs) ys p q = (p.0, all_join P xs ys p.1 q)

all_but_last : (P : Call → Type 0) (xs : List Call) (a : Call) → AllByRecursion P (xs ++ a ∷ []) → AllByRecursion P xs × P a
all_but_last P [] a p = (tt, p.0)
all_but_last P (x ∷ xs) a p = let r = all_but_last P xs a p.1 in ((p.0, r.0), r.1)

behind_with : (start : Call) (xs ys : List Call) → fails start.outcome ≡ false → AllByRecursion IsNotDead ys → MatchBool (fails start.outcome) (AllByRecursion IsDead xs) (AllByRecursion IsNotDead xs) → MatchBool (fails start.outcome) (AllByRecursion IsDead ys) (AllByRecursion IsNotDead ys)
behind_with start xs ys e alive h = subst (λ b. MatchBool b (AllByRecursion IsDead ys) (AllByRecursion IsNotDead ys)) (sym e) alive

alive_in : (start : Call) (xs : List Call) → fails start.outcome ≡ false → MatchBool (fails start.outcome) (AllByRecursion IsDead xs) (AllByRecursion IsNotDead xs) → AllByRecursion IsNotDead xs
alive_in start xs e h = subst (λ b. MatchBool b (AllByRecursion IsDead xs) (AllByRecursion IsNotDead xs)) e h

-- the last call has come further
pub change_last : (m : Module) (ended : List Call) (call call2 : Call) → call2.func ≡ call.func → call2.args ≡ call.args → IsNotDead call2 → ((ended ≡ []) ⊎ HasStarted ended) → IsJournalOf m (ended ++ call ∷ []) → IsJournalOf m (ended ++ call2 ∷ [])
change_last m [] call call2 func args alive begun j = record { func = func ∙ j.func; args = args ∙ j.args; not_dead = alive; names = tt; behind = none_behind call2.outcome }
change_last m (start ∷ rest) call call2 func args alive begun j =
    let started : fails start.outcome ≡ false = ⊎_elim (λ none. absurd (cc none)) (λ e. e) begun in
    let names = all_but_last NamesFunction rest call j.names in
    let old = all_but_last IsNotDead rest call (alive_in start (rest ++ call ∷ []) started j.behind) in
    record {
      func = j.func;
      args = j.args;
      not_dead = j.not_dead;
      names = all_join NamesFunction rest (call2 ∷ []) names.0 ((λ none. names.1 (sym func ∙ none)), tt);
      behind = behind_with start (rest ++ call ∷ []) (rest ++ call2 ∷ []) started (all_join IsNotDead rest (call2 ∷ []) old.0 (alive, tt)) j.behind;
    }

-- one more call
pub add_last : (m : Module) (ended : List Call) (call : Call) → NamesFunction call → IsNotDead call → HasStarted ended → IsJournalOf m (ended ++ []) → IsJournalOf m (ended ++ call ∷ [])
add_last m [] call named alive started j = absurd started
add_last m (start ∷ rest) call named alive started j0 =
    let j : IsJournal m start rest = subst (λ cs. IsJournal m start cs) (append-nil rest) j0 in
    record {
      func = j.func;
      args = j.args;
      not_dead = j.not_dead;
      names = all_join NamesFunction rest (call ∷ []) j.names (named, tt);
      behind = behind_with start rest (rest ++ call ∷ []) started (all_join IsNotDead rest (call ∷ []) (alive_in start rest started j.behind) (alive, tt)) j.behind;
    }

pub started_then : (ended calls : List Call) → HasStarted ended → HasStarted (ended ++ calls)
started_then [] calls h = absurd h
started_then (start ∷ rest) calls h = h
