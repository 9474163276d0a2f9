-- The calls that were copied with an instance have ended, and stay so.
use Rattle.std.proofs.Common.{ℕ, ℤ, ◌≤◌, Option, List, [], ◌∷◌, ◌++◌, length, map, sym, subst, ◌∙◌, arith, length-append, rules}
use Rattle.wh_model.specs.declared.memory.Need.{Need}
use Rattle.wh_model.specs.Format.{Module}
use Rattle.wh_model.specs.Execution.{Parameters, dead}
use Rattle.wh_space_model.specs.declared.Tax.{Tax}
use Rattle.wh_host_model.specs.declared.plain.TurnEnd.{TurnEnd}
use Rattle.wh_space_model.specs.{Space}
use Rattle.wh_host_model.specs.{Entry}
use Rattle.wh_host_model.specs.Host.{Closes, Turn, can_go_on, ended_by, faces_next, has_ended, has_no_frame, has_no_fuel, is_dead, is_idle, keeps_its_fault, CopiedCallsHaveEnded, AllBefall, AllSeeAsMany, Befalls, CopiedStayEnded, Step, by_event, by_misreading, Cancels, Refuels, Retries, TakesCall, has_more, may_try, Rest, Tenant, World, empty_world}
use Rattle.wh_host_model.specs.Host.OwnerCalls as requests
use Rattle.wh_host_model.proofs.Host.Running.{IsGoodBy, IsKeptUp, events_keep, runs_keep}
use Rattle.wh_space_model.proofs.Chained.{empty_sound}

abbrev HasCopied : Module → Parameters → Tenant → List ℕ → Option Need → Type 0
HasCopied m p t bytes want = t.copied ≤ length t.ended

more : (n : ℕ) (es fs : List Entry) → n ≤ length es → n ≤ length (es ++ fs)
more n es fs few = let l = length-append es fs in omega (arith, few, l)

closes_copied : {s : Space} {t t2 : Tenant} {e : Entry} {es : List Entry} {r : Rest} → Closes s t e es r t2 → t.copied ≤ length t.ended → t2.copied ≤ length t2.ended
closes_copied {t = t} {e = e} (faces_next a f) few = more t.copied t.ended (e ∷ []) few
closes_copied {t = t} {e = e} {es = es} (is_dead d) few = more t.copied t.ended (e ∷ map (λ w. ended_by w dead) es) few

turn_copied : {q : ℕ} {s s2 : Space} {t t2 : Tenant} {answer : TurnEnd} → Turn q s t answer s2 t2 → t.copied ≤ length t.ended → t2.copied ≤ length t2.ended
turn_copied (is_idle none) few = few
turn_copied (has_ended a g l p c) few = closes_copied c few
turn_copied (has_no_fuel a g l p) few = few
turn_copied (has_no_frame a g l p) few = few
turn_copied (can_go_on a g l p f) few = few
turn_copied (keeps_its_fault a b c d e f g) few = few

cancel_copied : {s s2 : Space} {t t2 : Tenant} → Cancels s t s2 t2 → t.copied ≤ length t.ended → t2.copied ≤ length t2.ended
cancel_copied (requests.ends x l p c) few = closes_copied c few

refuel_copied : {n : ℕ} {t t2 : Tenant} → Refuels t n t2 → t.copied ≤ length t.ended → t2.copied ≤ length t2.ended
refuel_copied (has_more a b) few = few

retry_copied : {t t2 : Tenant} → Retries t t2 → t.copied ≤ length t.ended → t2.copied ≤ length t2.ended
retry_copied (may_try a b) few = few

accept_copied : {m : Module} {s : Space} {t t2 : Tenant} {name : List ℕ} {given : List ℤ} {fuel at : ℕ} → TakesCall m s t name given fuel at t2 → t.copied ≤ length t.ended → t2.copied ≤ length t2.ended
accept_copied a few = subst (λ (z : Tenant). z.copied ≤ length z.ended) (sym a.after) few

copied_up : IsKeptUp HasCopied
copied_up = search (rules, turn_copied, cancel_copied, refuel_copied, retry_copied, accept_copied)

copied_empty : (frames slots : ℕ) (tax : Tax) → IsGoodBy HasCopied (empty_world frames slots tax)
copied_empty frames slots tax = record {
  sound = empty_sound frames slots tax;
  modules = λ k l x. absurd (cc x);
  apart = λ i j a b x y e. absurd (cc x);
  owned = λ place c e. absurd (cc e);
  each = λ i t x. absurd (cc x);
}

pub copied_calls_have_ended : CopiedCallsHaveEnded
copied_calls_have_ended frames slots tax events w r i t there =
    let good = runs_keep HasCopied copied_up events (empty_world frames slots tax) w (copied_empty frames slots tax) r in
    let fine = good.each i t there in
    fine.kept

-- ---- whatever bytes the swap device gives

misread_copied : (w : World) (s2 : Space) → IsGoodBy HasCopied w → AllSeeAsMany w.space s2 → IsGoodBy HasCopied (record w { space = s2 })
misread_copied w s2 good same = record {
  sound = same.1;
  modules = good.modules;
  apart = good.apart;
  owned = λ place c e. let alike = same.0 place in good.owned place c (sym alike.claim ∙ e);
  each = λ i t x.
      let f = good.each i t x in
      let alike = same.0 t.place in
      record { loaded = f.loaded; is_loaded = f.is_loaded; claimed = alike.claim ∙ f.claimed; kept = f.kept };
}

step_copied : (w w2 : World) (x : Step) → IsGoodBy HasCopied w → Befalls w x w2 → IsGoodBy HasCopied w2
step_copied w w2 (by_event e) good h = events_keep HasCopied copied_up w w2 e good h
step_copied w w2 by_misreading good h = subst (IsGoodBy HasCopied) (sym h.2) (misread_copied w h.0 good h.1)

all_copied : (xs : List Step) (w w2 : World) → IsGoodBy HasCopied w → AllBefall w xs w2 → IsGoodBy HasCopied w2
all_copied [] w w2 good r = subst (IsGoodBy HasCopied) (sym r) good
all_copied (x ∷ xs) w w2 good r = all_copied xs r.0 w2 (step_copied w r.0 x good r.1) r.2

pub copied_stay_ended : CopiedStayEnded
copied_stay_ended w c i t x =
    let good = all_copied c.steps (empty_world c.frames c.slots c.tax) w (copied_empty c.frames c.slots c.tax) c.befall in
    let fine = good.each i t x in
    fine.kept
