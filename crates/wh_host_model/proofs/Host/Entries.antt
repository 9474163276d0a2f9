-- Lists of calls, some ended and some open, as the journal has them.
use Rattle.std.proofs.Common.{◌≡◌, ℕ, List, [], ◌∷◌, ◌++◌, map, refl, sym, ap, subst, rules}
use Rattle.std.specs.List.{AllByRecursion}
use Rattle.wh_model.specs.Execution.Store.{Instance, Store}
use Rattle.wh_model.specs.Execution.{Config, Piece, dead, pending, Call, Invocation, never_began, Standing, idle, Stands, is_invoked, Waits, Replays, at_rest, at_work, Past, none_yet, one_more}
use Rattle.wh_model.proofs.Histories.{past_then}
use Rattle.wh_host_model.specs.Host.{Rest, Doing, journal_calls, store_with, standing_with, ended_by, Faces}
use Rattle.wh_host_model.specs.{Entry}

-- ---- calls that are open

abbrev pub Now : Instance → Store → List Piece → List Call → Standing → Type 0
Now inst s ps [] z = (ps ≡ []) × (z ≡ idle s)
Now inst s ps (call ∷ cs) z = (call.outcome ≡ pending) × Stands inst s ps call z × AllByRecursion Waits cs

pub now_replays : {inst : Instance} {s : Store} {ps : List Piece} (cs : List Call) {z : Standing} → Now inst s ps cs z → Replays inst s ps cs z
now_replays {inst} {s} {ps} [] h = subst (λ z. Replays inst s ps [] z) (sym h.1) at_rest
now_replays (call ∷ cs) h = at_work h.0 h.1 h.2

-- ---- lists of entries

pub calls_join : (xs ys : List Entry) → journal_calls (xs ++ ys) ≡ journal_calls xs ++ journal_calls ys
calls_join [] ys = refl
calls_join (x ∷ xs) ys = ap (λ zs. x.call ∷ zs) (calls_join xs ys)

pub all_join : {A : Type 0} (P : A → Type 0) (xs ys : List A) → AllByRecursion P xs → AllByRecursion P ys → AllByRecursion P (xs ++ ys)
all_join P [] ys p q = q
all_join P (x ∷ xs) ys p q = (p.0, all_join P xs ys p.1 q)

pub joined : {inst : Instance} {s0 s1 s2 : Store} {ps0 ps1 ps2 : List Piece} (xs ys : List Entry) → Past inst s0 ps0 (journal_calls xs) s1 ps1 → Past inst s1 ps1 (journal_calls ys) s2 ps2 → Past inst s0 ps0 (journal_calls (xs ++ ys)) s2 ps2
joined {inst} {s0} {s2 = s2} {ps0 = ps0} {ps2 = ps2} xs ys p q = subst (λ cs. Past inst s0 ps0 cs s2 ps2) (sym (calls_join xs ys)) (past_then p q)

-- ---- one invocation, of a call of the same function with the same arguments

pub invoked_alike : {inst : Instance} {s : Store} {call : Call} {c : Config} (call2 : Call) → Invocation inst s call c → call2.func ≡ call.func → call2.args ≡ call.args → Invocation inst s call2 c
invoked_alike {inst = inst} {s = s} {call = call} {c = c} call2 i f a = search rules

-- ---- the next call, over the store that the ones before it have left

pub faces_now : (inst : Instance) (bytes : List ℕ) (r : Rest) (es : List Entry) (d : Doing) → AllByRecursion Waits (journal_calls es) → Faces inst (store_with bytes r) es d → Now inst (store_with bytes r) [] (journal_calls es) (standing_with bytes r d)
faces_now inst bytes r [] d w f = (refl, ap (standing_with bytes r) f)
faces_now inst bytes r (e ∷ es) d w f =
    let waits = w.0 in (
      waits.outcome,
      subst (λ x. Stands inst (store_with bytes r) [] e.call (standing_with bytes r x)) (sym f.1) (is_invoked waits.fragments waits.charges f.2),
      w.1,
    )

-- the calls behind a start that has died
pub past_dead : (inst : Instance) (s : Store) (es : List Entry) → AllByRecursion Waits (journal_calls es) → Past inst s [] (journal_calls (map (λ e. ended_by e dead) es)) s []
past_dead inst s [] w = none_yet
past_dead inst s (e ∷ es) w = let waits = w.0 in one_more (never_began refl waits.fragments waits.charges) (past_dead inst s es w.1)
