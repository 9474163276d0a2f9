-- The steps of a run, and the whole of it.
use Rattle.std.proofs.Common.{◌≡◌, ◌≤◌, ℕ, ◌+◌, ◌-◌, inl, inr, ⊎_elim, Bool, true, false, List, [], ◌∷◌, ◌++◌, length, get_or, replicate, suc, ◌==◌, not, option_to_list, Option, Some, None, Result, Ok, Err, refl, sym, ap, subst, ◌∙◌, arith, rules}
use Rattle.std.specs.Bool.{MatchBool}
use Rattle.std.specs.Prelude.{IfNone, IfSome}
use Rattle.std.proofs.lemmas.List.Sums.{sum_by-append}
use Rattle.wh_space_model.specs.declared.Tax.{Tax}
use Rattle.wh_space_model.specs.declared.plain.InstId.{InstId}
use Rattle.wh_space_model.specs.declared.plain.SwapError.{SwapError}
use Rattle.wh_host_model.specs.declared.plain.TurnEnd.{TurnEnd}
use Rattle.wh_host_model.specs.Host.{Tenant, World, live_count, Event, epoch, AwaitsFrame, IsTurn, OnlyMoves, of_none, of_one}
use Rattle.wh_host_model.specs.Host.Happens.{Happens}
use Rattle.wh_swap.specs.DeviceCalls.{call_faults}
use Rattle.wh_reclaim.specs.Together.{AreTogether}
use Rattle.wh_reclaim.proofs.Together.{new_together}
use Rattle.wh_host.specs.Backing.{KeepsBacking}
use Rattle.wh_host.specs.Hosting.{HostState, IsHost, IsNewHost}
use Rattle.wh_host.specs.Paging.{MovesOnly, MovesWith, Tells, provide_fault}
use Rattle.wh_host.specs.Showing.{RepresentsReached}
use Rattle.wh_host.proofs.Hosts.{one_value, turn_stays}
use Rattle.wh_hand.specs.HandStates.{IsInOneHand}
use Rattle.wh_hand.specs.Lining.{MayGoOn, KeepsGoing, KeepsOthersGoing, Lists}
use Rattle.wh_hand.specs.Running.{EventGetsOn, IsOwn, RunsAll, RunsByEvents, AnyGoesOn, most_turns, turn_count, turns_among}
use Rattle.wh_hand.specs.Moved.{IsMoved}
use Rattle.wh_hand.specs.RunParts.{LeavesOf, RunsPart, quantum}
use Rattle.wh_hand.proofs.Events.{live_moved, on_both, on_itself, on_moved, only_moves, reached_by, runs_both}
use Rattle.wh_hand.proofs.Goers.{SameOthers, goes_in, keeps_all, keeps_others, lists_on, others_of_all, others_set, same_all}
use Rattle.wh_hand.proofs.Together.{together_on}

-- ---- moves

pub moved_keeps : (h h2 : HostState) → (w : World) × IsHost h w → MovesOnly h h2 → KeepsGoing h h2
moved_keeps h h2 some moves =
    keeps_all h h2 some (λ w st. (let x = moves w st in (x.0, same_all w x.0 (ap (λ (z : World). z.tenants) x.1.2), x.2)))

-- a device without faults
pub provided_well : (h h2 : HostState) (id : InstId) (result : Result ℕ SwapError) → [] ≡ call_faults result ++ [] → MovesWith h id AwaitsFrame (provide_fault result) h2
    → MovesWith h id AwaitsFrame None h2
provided_well h h2 id (Ok left) none moves = moves
provided_well h h2 id (Err fault) none moves = absurd (let bad : [] ≡ fault ∷ [] = none in cc bad)

pub provided_moves : (h h2 : HostState) (id : InstId) → MovesWith h id AwaitsFrame None h2 → MovesOnly h h2
provided_moves h h2 id moves w st = let x = moves w st in (x.0, only_moves w x.0 id x.1, x.2)

-- nothing has moved
pub moved_itself : (h : HostState) → IsMoved h h
moved_itself h = record {
  runs = on_itself h;
  goes = λ id. (λ goes. goes, λ goes. goes);
  live = refl;
  backing = record { pass = refl; frames = refl; slots = refl; tax = refl };
}

-- pages have, in one event
pub moved_by : (h h2 : HostState) (e : Event) → IsOwn quantum e → ((w w2 : World) → OnlyMoves w w2 → Happens w e w2) → ((w w2 : World) → EventGetsOn w e w2)
    → (w : World) × IsHost h w → MovesOnly h h2 → KeepsBacking h.space h2.space → IsMoved h h2
moved_by h h2 e own happens quiet some moves backing = record {
  runs = on_moved h h2 e own happens quiet moves;
  goes = moved_keeps h h2 some moves;
  live = live_moved h h2 some moves;
  backing = backing;
}

-- ---- a turn

turn_others : (w w2 : World) (id : InstId) (q : ℕ) (answer : TurnEnd) → IsTurn w id q answer w2 → SameOthers id w w2
turn_others w w2 id q answer (of_none none) = others_of_all id w w (same_all w w refl)
turn_others w w2 id q answer (of_one {t = t} {t2 = t2} {s2 = s2} live turn) =
    others_set w id t (Some t2) s2 live
    (λ u is. ap (λ (z : Tenant). z.place) (sym (one_value t2 u is)) ∙ (turn_stays q w.space s2 t t2 answer turn).place)

pub turned_keeps : (h h2 : HostState) (id : InstId) (q : ℕ) (answer : TurnEnd) → (w : World) × IsHost h w
    → ((w : World) → IsHost h w → (w2 : World) × IsTurn w id q answer w2 × IsHost h2 w2) → KeepsOthersGoing h id h2
turned_keeps h h2 id q answer some turns =
    keeps_others h h2 id some (λ w st. (let x = turns w st in (x.0, turn_others w x.0 id q answer x.1, x.2)))

-- ---- who goes

-- nobody stands in the line
pub nobody_goes : (h : HostState) → Lists h [] → (w : World) → IsHost h w → ¬ (AnyGoesOn w)
nobody_goes h lists w st some = lists.all some.0 (w, st, some.1)

-- nor can one be taken out of it
pub nobody_in : (h : HostState) (line : List InstId) (n : ℕ) → n ≡ 0 → n ≡ length line → Lists h line → (w : World) → IsHost h w → ¬ (AnyGoesOn w)
nobody_in h [] n zero long lists = nobody_goes h lists
nobody_in h (id ∷ line) n zero long lists = absurd (omega (arith, zero, long))

-- somebody does, or nobody
pub told_by_line : (h : HostState) (line : List InstId) (n : ℕ) (empty : Bool) → n ≡ length line → empty ≡ (n == 0) → Lists h line
    → Tells h (not empty) AnyGoesOn
told_by_line h [] n empty long is lists =
    let yes : empty ≡ true = is ∙ ap (λ k. k == 0) long in
    subst (λ b. Tells h (not b) AnyGoesOn) (sym yes) (nobody_goes h lists)
told_by_line h (id ∷ line) n empty long is lists =
    let some : (suc (length line) == 0) ≡ false = grind rules in
    let no : empty ≡ false = is ∙ ap (λ k. k == 0) long ∙ some in
    subst (λ b. Tells h (not b) AnyGoesOn) (sym no) (λ w st. (id, goes_in h w id st (lists.goes id (inl refl))))

-- ---- the first one

pub first_is : (line rest : List InstId) (o : Option InstId) (id : InstId) → line ≡ option_to_list o ++ rest → o ≡ Some id → line ≡ id ∷ rest
first_is line rest o id are is = are ∙ ap (λ (x : Option InstId). option_to_list x ++ rest) is

pub none_is : (line rest : List InstId) (o : Option InstId) → line ≡ option_to_list o ++ rest → o ≡ None → rest ≡ line
none_is line rest o are is = sym (are ∙ ap (λ (x : Option InstId). option_to_list x ++ rest) is)

-- ---- a turn with what belongs to it

pub on_three : (a b c d : HostState) (n k : ℕ) → RunsPart a 0 0 b → RunsPart b n k c → RunsPart c 0 0 d → RunsPart a n k d
on_three a b c d n k f g m =
    let all : RunsPart a (0 + n + 0) (0 + k + 0) d = on_both a c d (0 + n) 0 (0 + k) 0 (on_both a b c 0 n 0 k f g) m in
    let charges : 0 + n + 0 ≡ n = omega arith in
    let turns : 0 + k + 0 ≡ k = omega arith in
    subst (λ x. RunsPart a x k d) charges (subst (λ x. RunsPart a (0 + n + 0) x d) turns all)

-- ---- turns one after the other

pub on_more : (a b c : HostState) (given left taken k : ℕ) → left ≤ given → taken ≤ left → RunsPart a (given - left) k b → RunsPart b taken 1 c
    → RunsPart a (given - (left - taken)) (k + 1) c
on_more a b c given left taken k few within f g =
    let same : given - left + taken ≡ given - (left - taken) = omega (arith, few, within) in
    subst (λ x. RunsPart a x (k + 1) c) same (on_both a b c (given - left) taken k 1 f g)

pub leaves_none : (a b : HostState) (given k : ℕ) → RunsPart a (given - 0) k b → LeavesOf a given 0 b
leaves_none a b given k f w st reached = let x = f w st reached in (x.0, x.1, inl refl, x.3)

pub leaves_rest : (a b : HostState) (given left k : ℕ) → RunsPart a (given - left) k b → ((w : World) → IsHost b w → ¬ (AnyGoesOn w)) → LeavesOf a given left b
leaves_rest a b given left k f none w st reached = let x = f w st reached in (x.0, x.1, inr (inl (none x.0 x.3)), x.3)

pub leaves_many : (a b : HostState) (given left k : ℕ) → most_turns ≤ k → RunsPart a (given - left) k b → LeavesOf a given left b
leaves_many a b given left k many f w st reached =
    let x = f w st reached in
    (x.0, x.1, inr (inr (omega (arith, many, x.2))), x.3)

-- ---- a whole run

pub run_is : (a b c : HostState) (given left : ℕ) (goes : Bool) → left ≤ given → RunsPart a 0 0 b → LeavesOf b given left c → Tells c goes AnyGoesOn
    → RunsAll quantum a given (record { charges = given - left; goes_on = goes }) c
run_is a b c given left goes few f g tells w st reached =
    let x = f w st reached in
    let y = g x.0 x.3 (reached_by w x.0 x.1.events reached x.1.happen) in
    let none : 0 + (given - left) ≡ given - left = omega arith in
    let both : RunsByEvents quantum w (0 + (given - left)) y.0 = runs_both w x.0 y.0 0 (given - left) x.1 y.1 in
    let runs : RunsByEvents quantum w (given - left) y.0 = record {
      events = x.1.events ++ y.1.events;
      happen = both.happen;
      gets_on = both.gets_on;
      own = both.own;
      counted = omega (arith, both.counted, none);
      modules = both.modules;
      places = both.places;
    } in
    let turns = sum_by-append turn_count x.1.events y.1.events in (
      y.0,
      record {
        runs = runs;
        reached = reached_by w y.0 (x.1.events ++ y.1.events) reached both.happen;
        within = omega arith;
        over = tells y.0 y.3;
        uses = λ on. ⊎_elim
            (λ (all : left ≡ 0). inl (omega (arith, all)))
            (λ more. ⊎_elim
            (λ (rest : ¬ (AnyGoesOn y.0)). absurd (rest (subst (λ z. MatchBool z (AnyGoesOn y.0) (¬ (AnyGoesOn y.0))) on (tells y.0 y.3))))
            (λ (many : most_turns ≤ turns_among y.1.events). inr (omega (arith, many, turns)))
            more)
            y.2;
      },
      y.3,
    )

-- ---- the hand

pub led_by_runs : (h h2 : HostState) (n k : ℕ) → RunsPart h n k h2 → RepresentsReached h → RepresentsReached h2
led_by_runs h h2 n k f led =
    let x = f led.0 led.1 led.2 in (x.0, x.3, reached_by led.0 x.0 x.1.events led.2 x.1.happen)

pub moved_in_hand : (h h2 : HostState) (held : List (List ℕ)) (line : List InstId) (room : ℕ) → IsInOneHand h held line room → IsMoved h h2
    → IsInOneHand h2 held line room
moved_in_hand h h2 held line room a moved = record {
  led = led_by_runs h h2 0 0 moved.runs a.led;
  together = together_on h.space h2.space held moved.backing a.together;
  lists = lists_on h h2 line moved.goes a.lists;
  few = (let few = a.few in let live = moved.live in omega (arith, few, live));
  enough = a.enough;
}

-- a request that concerns pages alone
pub only_moved_in_hand : (h h2 : HostState) (held : List (List ℕ)) (line : List InstId) (room : ℕ) → IsInOneHand h held line room → MovesOnly h h2
    → KeepsBacking h.space h2.space → IsInOneHand h2 held line room
only_moved_in_hand h h2 held line room a moves backing =
    moved_in_hand h h2 held line room a (moved_by h h2 epoch tt (λ w w2 only. only) (λ w w2. tt) (a.led.0, a.led.1) moves backing)

-- a turn was had, or nobody could have one
pub led_by_turn : (h h2 : HostState) (taken : Option ℕ) → IfNone taken (h2 ≡ h) → IfSome taken (λ n. RunsPart h n 1 h2) → RepresentsReached h → RepresentsReached h2
led_by_turn h h2 None same f led = subst RepresentsReached (sym same) led
led_by_turn h h2 (Some n) same f led = led_by_runs h h2 n 1 f led

-- a new one
pub new_in_hand : (h : HostState) (frames slots : ℕ) (tax : Tax) (held : List (List ℕ)) (line : List InstId) (room : ℕ) → IsNewHost h frames slots tax
    → held ≡ replicate slots [] → line ≡ [] → 4096 ≤ room → IsInOneHand h held line room
new_in_hand h frames slots tax held line room new empty nobody enough =
    let w = new.0 in
    let st = new.1 in
    let alone : AreTogether h.space (replicate slots []) =
    subst (λ s. AreTogether s (replicate slots [])) (sym st.space) (new_together w.space frames slots tax new.5) in
    let none : (id : InstId) → ¬ (MayGoOn h id) = (λ id goes.
    (let g = goes_in h w id st goes in
    let bad : None ≡ Some g.0 = ap (λ (ts : List (Option Tenant)). get_or ts id.number None) (sym new.4) ∙ g.1.0 in cc bad)) in
    let lists : Lists h [] = record { goes = λ id is. absurd is; all = λ id goes. absurd (none id goes); once = tt } in
    record {
      led = (w, st, new.2);
      together = subst (AreTogether h.space) (sym empty) alone;
      lists = subst (Lists h) (sym nobody) lists;
      few = (let live = st.live in let same = ap live_count new.4 in omega (arith, live, same));
      enough = enough;
    }
