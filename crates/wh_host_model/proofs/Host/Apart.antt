-- Two instances that are treated alike come to the same.
use Rattle.std.proofs.Common.{◌≡◌, inl, inr, ℕ, Bool, true, false, Option, Some, List, [], ◌∷◌, ℤ, map, reverse, refl, sym, ap, ◌∙◌, subst, rules}
use Rattle.std.specs.Bool.{MatchBool}
use Rattle.std.specs.List.{AllByRecursion}
use Rattle.wh_model.specs.Format.{nothing, Module}
use Rattle.wh_model.specs.Execution.Store.{Instance, Store}
use Rattle.wh_model.specs.Execution.{Value, Config, code, config, trapped, AreGiven, Parameters, Piece, begins, IsInitial, After, Outcome, returned, stopped, cancelled, dead, pending, Call, with_pieces, Invocation, Ends, has_returned, has_trapped, has_written, was_cancelled, never_began, Standing, store_at, Waits, Replays, ended, at_work, fails, IsDead, IsNotDead, IsJournal}
use Rattle.wh_model.specs.Execution.Replay.{Replay}
use Rattle.wh_model.specs.Laws.{Alike}
use Rattle.wh_model.proofs.Journals.{after_same, one_end, not_open, from_beginning, replays_alike}
use Rattle.wh_model.proofs.Opened.{opened_store}
use Rattle.std.proofs.lemmas.List.{reverse-reverse}
use Rattle.wh_space_model.specs.{view}
use Rattle.wh_host_model.specs.Host.{Doing, Loaded, Rest, Tenant, World, computing, has_left, journal, journal_calls, loaded_of, resting, standing_with, store_with, AreTreatedAlike, ComeToTheSame, NoBytesReachAnother, asked, call_asked, unanswered, IsReplayed}
use Rattle.wh_host_model.specs.{Entry, given_of}
use Rattle.wh_host_model.proofs.Host.Entries.{invoked_alike}
use Rattle.wh_host_model.proofs.Host.Holding.{instances_replay}
use Rattle.wh_host_model.proofs.Host.Limits.{SameLimit, initial_still, limit_is}
use Rattle.wh_model.proofs.Instance.{one_beginning}

-- ---- one call

-- what is the same of two calls that were asked alike
record Same (call call2 : Call) : Type 0 where
  pub func : call.func ≡ call2.func
  pub args : call.args ≡ call2.args
  pub fuel : call.fuel ≡ call2.fuel
  pub fragments : call.fragments ≡ call2.fragments
  pub charges : call.charges ≡ call2.charges
  pub outcome : unanswered call.outcome ≡ unanswered call2.outcome

same_calls : (call call2 : Call) → call_asked call ≡ call_asked call2 → Same call call2
same_calls call call2 e = search rules

remade : Call → Option ℕ → List Value → ℕ → ℕ → ℕ → Outcome → Call
remade call func args fuel fragments charges outcome = record { func = func; args = args; fuel = fuel; fragments = fragments; charges = charges; outcome = outcome }

whole_call : (call call2 : Call) → Same call call2 → call.outcome ≡ call2.outcome → call ≡ call2
unfolding remade
whole_call call call2 same outcome = search rules

-- two chains of as many charges from one invocation end alike
ends_at : {inst : Instance} (s : Store) (call call2 : Call) {a b c d : Config} → Same call call2 → Invocation inst s call a → Invocation inst s call2 b → After inst a call.charges c → After inst b call2.charges d → c ≡ d
ends_at {inst = inst} s call call2 {b = b} {d = d} same i j x y =
    after_same s call i (invoked_alike call j same.func same.args) x (subst (λ n. After inst b n d) (sym same.charges) y)

values_same : (s s2 : Store) (vs us : List Value) → config s [] (code (reverse vs) nothing) ≡ config s2 [] (code (reverse us) nothing) → vs ≡ us
values_same s s2 vs us e = (let k : reverse vs ≡ reverse us = cc in sym (reverse-reverse vs) ∙ (ap reverse k ∙ reverse-reverse us))

-- two ends of calls that were asked alike, of which none is dead, are one
ends_alike : {inst : Instance} {s a b : Store} {ps : List Piece} (call call2 : Call) → Same call call2 → IsNotDead call → IsNotDead call2 → Ends inst s ps call a → Ends inst s ps call2 b → call.outcome ≡ call2.outcome
ends_alike {s = s} {ps = ps} call call2 same alive alive2 (has_returned {s2 = x} {vs = vs} p q l r t) (has_returned {s2 = y} {vs = us} u v f w z) =
    p ∙ (ap returned (values_same x y vs us (ends_at (with_pieces s ps) call call2 same r w t z)) ∙ sym u)
ends_alike {s = s} {ps = ps} call call2 same alive alive2 (has_returned p q l r t) (has_trapped u v f w z) = absurd (cc (ends_at (with_pieces s ps) call call2 same r w t z))
ends_alike call call2 same alive alive2 (has_returned p q l r t) (has_written u v w z) = let e = r.calls in let f = same.func in absurd (cc (e, v, f))
ends_alike call call2 same alive alive2 (has_returned p q l r t) (was_cancelled u v) = absurd (let bad : dead ≡ cancelled = sym (ap unanswered p) ∙ (same.outcome ∙ ap unanswered u) in cc)
ends_alike call call2 same alive alive2 (has_returned p q l r t) (never_began u v w) = absurd (alive2 u)
ends_alike {s = s} {ps = ps} call call2 same alive alive2 (has_trapped p q l r t) (has_returned u v f w z) = absurd (cc (ends_at (with_pieces s ps) call call2 same r w t z))
ends_alike {s = s} {ps = ps} call call2 same alive alive2 (has_trapped {s2 = x} {x = g} p q l r t) (has_trapped {s2 = y} {x = h} u v f w z) =
    let both : trapped x g ≡ trapped y h = ends_at (with_pieces s ps) call call2 same r w t z in
    p ∙ ((let k : g ≡ h = cc in ap stopped k) ∙ sym u)
ends_alike call call2 same alive alive2 (has_trapped p q l r t) (has_written u v w z) = let e = r.calls in let f = same.func in absurd (cc (e, v, f))
ends_alike call call2 same alive alive2 (has_trapped p q l r t) (was_cancelled u v) = absurd (let bad : dead ≡ cancelled = sym (ap unanswered p) ∙ (same.outcome ∙ ap unanswered u) in cc)
ends_alike call call2 same alive alive2 (has_trapped p q l r t) (never_began u v w) = absurd (alive2 u)
ends_alike call call2 same alive alive2 (has_written p q r t) (has_returned u v f w z) = let e = w.calls in let g = same.func in absurd (cc (e, q, g))
ends_alike call call2 same alive alive2 (has_written p q r t) (has_trapped u v f w z) = let e = w.calls in let g = same.func in absurd (cc (e, q, g))
ends_alike call call2 same alive alive2 (has_written p q r t) (has_written u v w z) = p ∙ sym u
ends_alike call call2 same alive alive2 (has_written p q r t) (was_cancelled u v) = absurd (let bad : dead ≡ cancelled = sym (ap unanswered p) ∙ (same.outcome ∙ ap unanswered u) in cc)
ends_alike call call2 same alive alive2 (has_written p q r t) (never_began u v w) = absurd (alive2 u)
ends_alike call call2 same alive alive2 (was_cancelled p q) (has_returned u v f w z) = absurd (let bad : cancelled ≡ dead = sym (ap unanswered p) ∙ (same.outcome ∙ ap unanswered u) in cc)
ends_alike call call2 same alive alive2 (was_cancelled p q) (has_trapped u v f w z) = absurd (let bad : cancelled ≡ dead = sym (ap unanswered p) ∙ (same.outcome ∙ ap unanswered u) in cc)
ends_alike call call2 same alive alive2 (was_cancelled p q) (has_written u v w z) = absurd (let bad : cancelled ≡ dead = sym (ap unanswered p) ∙ (same.outcome ∙ ap unanswered u) in cc)
ends_alike call call2 same alive alive2 (was_cancelled p q) (was_cancelled u v) = p ∙ sym u
ends_alike call call2 same alive alive2 (was_cancelled p q) (never_began u v w) = absurd (alive2 u)
ends_alike call call2 same alive alive2 (never_began p q r) other = absurd (alive p)

-- an outcome that is open without its answer is open
open_yet : (o : Outcome) → unanswered o ≡ pending → o ≡ pending
open_yet (returned vs) e = absurd (let bad : dead ≡ pending = e in cc)
open_yet (stopped x) e = absurd (let bad : dead ≡ pending = e in cc)
open_yet cancelled e = absurd (let bad : cancelled ≡ pending = e in cc)
open_yet dead e = absurd (let bad : dead ≡ pending = e in cc)
open_yet pending e = refl

-- ---- journals

first_is : {X : Type 0} {x y : X} {xs ys : List X} → x ∷ xs ≡ y ∷ ys → x ≡ y
first_is e = cc e

rest_is : {X : Type 0} {x y : X} {xs ys : List X} → x ∷ xs ≡ y ∷ ys → xs ≡ ys
rest_is e = cc e

-- calls whose outcomes are one are one, where they were asked alike
alike_by : (o : Outcome) (calls calls2 : List Call) → map call_asked calls ≡ map call_asked calls2 → AllByRecursion (λ c. c.outcome ≡ o) calls → AllByRecursion (λ c. c.outcome ≡ o) calls2 → calls ≡ calls2
alike_by o [] [] e a b = refl
alike_by o [] (d ∷ ds) e a b = absurd (cc e)
alike_by o (c ∷ cs) [] e a b = absurd (cc e)
alike_by o (c ∷ cs) (d ∷ ds) e a b =
    let one : c ≡ d = whole_call c d (same_calls c d (first_is e)) (a.0 ∙ sym b.0) in
    let rest : cs ≡ ds = alike_by o cs ds (rest_is e) a.1 b.1 in cc

all_open : (calls : List Call) → AllByRecursion Waits calls → AllByRecursion (λ c. c.outcome ≡ pending) calls
all_open [] h = tt
all_open (c ∷ cs) h = (h.0.outcome, all_open cs h.1)

replays_one : {inst : Instance} {s : Store} {ps : List Piece} {y z : Standing} (calls calls2 : List Call) → Replays inst s ps calls y → Replays inst s ps calls2 z → map call_asked calls ≡ map call_asked calls2
    → AllByRecursion IsNotDead calls → AllByRecursion IsNotDead calls2 → calls ≡ calls2
replays_one [] [] a b e alive alive2 = refl
replays_one [] (d ∷ ds) a b e alive alive2 = absurd (cc e)
replays_one (c ∷ cs) [] a b e alive alive2 = absurd (cc e)
replays_one {inst = inst} {s = s} {ps = ps} {z = z} (c ∷ cs) (d ∷ ds) (ended {s2 = x} a r) (ended {s2 = y} b u) e alive alive2 =
    let same = same_calls c d (first_is e) in
    let one : c ≡ d = whole_call c d same (ends_alike c d same alive.0 alive2.0 a b) in
    let left : x ≡ y = one_end inst s x y ps c a (subst (λ k. Ends inst s ps k y) (sym one) b) in
    let rest : cs ≡ ds = replays_one cs ds r (subst (λ k. Replays inst k [] ds z) (sym left) u) (rest_is e) alive.1 alive2.1 in cc
replays_one (c ∷ cs) (d ∷ ds) (ended a r) (at_work u v w) e alive alive2 = search (rules, same_calls, first_is, not_open, open_yet)
replays_one (c ∷ cs) (d ∷ ds) (at_work u v w) (ended a r) e alive alive2 = search (rules, same_calls, first_is, not_open, open_yet)
replays_one (c ∷ cs) (d ∷ ds) (at_work u v w) (at_work x y t) e alive alive2 =
    let one : c ≡ d = whole_call c d (same_calls c d (first_is e)) (u ∙ sym x) in
    let rest : cs ≡ ds = alike_by pending cs ds (rest_is e) (all_open cs w) (all_open ds t) in cc

-- the first call of two journals that were asked alike
first_one : {inst : Instance} {s : Store} {ps : List Piece} {y z : Standing} (c d : Call) (cs ds : List Call) → Replays inst s ps (c ∷ cs) y → Replays inst s ps (d ∷ ds) z → Same c d → IsNotDead c → IsNotDead d → c ≡ d
first_one c d cs ds (ended a r) (ended b u) same alive alive2 = whole_call c d same (ends_alike c d same alive alive2 a b)
first_one c d cs ds (ended a r) (at_work u v w) same alive alive2 = absurd (not_open a (open_yet c.outcome (same.outcome ∙ ap unanswered u)))
first_one c d cs ds (at_work u v w) (ended a r) same alive alive2 = absurd (not_open a (open_yet d.outcome (sym same.outcome ∙ ap unanswered u)))
first_one c d cs ds (at_work u v w) (at_work x y t) same alive alive2 = whole_call c d same (u ∙ sym x)

journals_one : {inst : Instance} {m : Module} {s : Store} {ps : List Piece} {y z : Standing} (c d : Call) (cs ds : List Call) → IsJournal m c cs → IsJournal m d ds → Replays inst s ps (c ∷ cs) y → Replays inst s ps (d ∷ ds) z
    → map call_asked (c ∷ cs) ≡ map call_asked (d ∷ ds) → c ∷ cs ≡ d ∷ ds
journals_one {inst = inst} {m = m} {s = s} {ps = ps} {y = y} {z = z} c d cs ds is is2 a b e =
    let one : c ≡ d = first_one c d cs ds a b (same_calls c d (first_is e)) is.not_dead is2.not_dead in
    go (fails c.outcome) refl one where
      go : (failed : Bool) → fails c.outcome ≡ failed → c ≡ d → c ∷ cs ≡ d ∷ ds
      go true test one =
          let test2 : fails d.outcome ≡ true = ap (λ (k : Call). fails k.outcome) (sym one) ∙ test in
          let all : AllByRecursion IsDead cs = subst (λ t. MatchBool t (AllByRecursion IsDead cs) (AllByRecursion IsNotDead cs)) test is.behind in
          let all2 : AllByRecursion IsDead ds = subst (λ t. MatchBool t (AllByRecursion IsDead ds) (AllByRecursion IsNotDead ds)) test2 is2.behind in
          let rest : cs ≡ ds = alike_by dead cs ds (rest_is e) all all2 in cc
      go false test one =
          let test2 : fails d.outcome ≡ false = ap (λ (k : Call). fails k.outcome) (sym one) ∙ test in
          let all : AllByRecursion IsNotDead cs = subst (λ t. MatchBool t (AllByRecursion IsDead cs) (AllByRecursion IsNotDead cs)) test is.behind in
          let all2 : AllByRecursion IsNotDead ds = subst (λ t. MatchBool t (AllByRecursion IsDead ds) (AllByRecursion IsNotDead ds)) test2 is2.behind in
          replays_one (c ∷ cs) (d ∷ ds) a b e (is.not_dead, all) (is2.not_dead, all2)

-- ---- whole journals, and what they lead to

calls_asked : (es : List Entry) → journal_calls (map asked es) ≡ map call_asked (journal_calls es)
calls_asked [] = refl
calls_asked (e ∷ es) = ap (λ cs. call_asked e.call ∷ cs) (calls_asked es)

entry_of : Call → List ℤ → Entry
entry_of call given = record { call = call; given = given }

entries_one : (es fs : List Entry) → map asked es ≡ map asked fs → journal_calls es ≡ journal_calls fs → es ≡ fs
unfolding entry_of
entries_one [] [] e c = refl
entries_one [] (f ∷ fs) e c = absurd (cc e)
entries_one (x ∷ es) [] e c = absurd (cc e)
entries_one (x ∷ es) (f ∷ fs) e c =
    let given : x.given ≡ f.given = ap (λ (a : Entry). a.given) (first_is e) in
    let call : x.call ≡ f.call = first_is c in
    let start : x ≡ entry_of x.call x.given = refl in
    let one : x ≡ f = start ∙ (ap (λ a. entry_of a x.given) call ∙ ap (entry_of f.call) given) in
    let rest : es ≡ fs = entries_one es fs (rest_is e) (rest_is c) in cc

alike_store : {inst : Instance} {y z : Standing} → Alike inst y z → store_at y ≡ store_at z
alike_store (inl e) = ap store_at e
alike_store (inr (c, c2, e, f, inl x)) = ap store_at e ∙ (sym (opened_store x) ∙ sym (ap store_at f))
alike_store (inr (c, c2, e, f, inr x)) = ap store_at e ∙ (opened_store x ∙ sym (ap store_at f))

record AreOne (calls calls2 : List Call) (y z : Standing) : Type 0 where
  pub calls_same : calls ≡ calls2
  pub stores_same : store_at y ≡ store_at z

replay_one : (m : Module) (p : Parameters) (inst : Instance) (s : Store) (ps : List Piece) (calls calls2 : List Call) (y z : Standing) → IsInitial m p (begins inst s ps) → Replay m p calls y → Replay m p calls2 z
    → map call_asked calls ≡ map call_asked calls2 → AreOne calls calls2 y z
replay_one m p inst s ps [] calls2 y z initial a b e = absurd a
replay_one m p inst s ps (c ∷ cs) [] y z initial a b e = absurd b
replay_one m p inst s ps (c ∷ cs) (d ∷ ds) y z initial (given, is, (inst1, s1, ps1, i1, a)) (given2, is2, (inst2, s2, ps2, i2, b)) e =
    let x = from_beginning m p inst inst1 s s1 ps ps1 (c ∷ cs) y initial i1 a in
    let w = from_beginning m p inst inst2 s s2 ps ps2 (d ∷ ds) z initial i2 b in
    let one = journals_one c d cs ds is is2 x w e in
    record { calls_same = one; stores_same = alike_store (replays_alike x refl (subst (λ k. Replays inst s ps k z) (sym one) w)) }

store_there : (bytes : List ℕ) (r : Rest) (d : Doing) → store_at (standing_with bytes r d) ≡ store_with bytes r
store_there bytes r resting = refl
store_there bytes r (has_left ps) = refl
store_there bytes r (computing t) = refl

loaded_same : (o : Option Loaded) (a b : Loaded) → o ≡ Some a → o ≡ Some b → a ≡ b
loaded_same o a b x y = (let both : Some a ≡ Some b = sym x ∙ y in cc)

-- with parameters that let it grow as far an instance comes to the same
replay_still : (m : Module) (p p2 : Parameters) (inst : Instance) (s : Store) (ps : List Piece) (calls : List Call) (y : Standing) → AreGiven p2 → IsInitial m p (begins inst s ps) → SameLimit m p p2 inst → Replay m p calls y → Replay m p2 calls y
replay_still m p p2 inst s ps [] y given initial same r = absurd r
replay_still m p p2 inst s ps (c ∷ cs) y given initial same (was, is, (inst1, s1, ps1, i1, rest)) = search (rules, one_beginning, initial_still)

given_in : (m : Module) (p : Parameters) (calls : List Call) (y : Standing) → Replay m p calls y → AreGiven p
given_in m p [] y r = absurd r
given_in m p (c ∷ cs) y (given, is, rest) = given

treated_alike : (w w2 : World) (t t2 : Tenant) → IsReplayed w t → IsReplayed w2 t2 → AreTreatedAlike w w2 t t2 → ComeToTheSame w w2 t t2
treated_alike w w2 t t2 a b alike =
    let m : Module = a.loaded.m in
    let mine : a.loaded ≡ alike.loaded = loaded_same (loaded_of w t.of) a.loaded alike.loaded a.is_loaded alike.is_loaded in
    let other : b.loaded ≡ alike.loaded2 = loaded_same (loaded_of w2 t2.of) b.loaded alike.loaded2 b.is_loaded alike.is_loaded2 in
    let modules : b.loaded.m ≡ m = ap (λ (l : Loaded). l.m) other ∙ (sym alike.of_one ∙ sym (ap (λ (l : Loaded). l.m) mine)) in
    let there : Replay m (given_of t2.params) (journal_calls (journal t2)) _ = subst (λ k. Replay k (given_of t2.params) (journal_calls (journal t2)) (Rattle.wh_host_model.specs.Host.Worlds.standing_in w2.space t2)) modules b.replay in
    let begun : IsInitial m (given_of t2.params) (begins t2.inst b.first b.pieces) = subst (λ k. IsInitial k (given_of t2.params) (begins t2.inst b.first b.pieces)) modules b.initial in
    let same : SameLimit m (given_of t2.params) (given_of t.params) t2.inst = search (rules, limit_is, one_beginning) in
    let replay = replay_still m (given_of t2.params) (given_of t.params) t2.inst b.first b.pieces (journal_calls (journal t2)) _ (given_in m (given_of t.params) (journal_calls (journal t)) _ a.replay) begun same there in
    let asked_same : map call_asked (journal_calls (journal t)) ≡ map call_asked (journal_calls (journal t2)) = sym (calls_asked (journal t)) ∙ (ap journal_calls alike.calls ∙ calls_asked (journal t2)) in
    let one = replay_one m (given_of t.params) t.inst a.first a.pieces (journal_calls (journal t)) (journal_calls (journal t2)) _ _ a.initial a.replay replay asked_same in
    let stores : store_with (view w.space t.place) t.rest ≡ store_with (view w2.space t2.place) t2.rest = sym (store_there (view w.space t.place) t.rest t.doing) ∙ (one.stores_same ∙ store_there (view w2.space t2.place) t2.rest t2.doing) in
    record {
      journals = entries_one (journal t) (journal t2) alike.calls one.calls_same;
      globals = ap (λ (s : Store). s.globals) stores;
      tables = ap (λ (s : Store). s.table) stores;
      outputs = ap (λ (s : Store). s.output) stores;
      views = ap (λ (s : Store). s.bytes) stores;
    }

pub no_bytes_reach_another : NoBytesReachAnother
no_bytes_reach_another frames slots frames2 slots2 tax tax2 events events2 w w2 r r2 i j t t2 x y alike =
    treated_alike w w2 t t2 (instances_replay frames slots tax events w r i t x) (instances_replay frames2 slots2 tax2 events2 w2 r2 j t2 y) alike
