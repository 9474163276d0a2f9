-- Runs that are put together.
use Rattle.std.proofs.Common.{◌≡◌, ℕ, ◌+◌, ◌≤◌, List, [], ◌∷◌, ◌++◌, map, None, refl, sym, ap, subst, ◌∙◌, arith}
use Rattle.std.specs.List.{AllByRecursion}
use Rattle.std.proofs.lemmas.List.Sums.{sum_by-append}
use Rattle.wh_space_model.specs.declared.plain.InstId.{InstId}
use Rattle.wh_host_model.specs.declared.plain.TurnEnd.{TurnEnd}
use Rattle.wh_host_model.specs.Host.{live_count, World, empty_world, Event, turn, provide, AllHappen, AwaitsFrame, IsTurn, MovesPages, OnlyMoves, moved, has_failed}
use Rattle.wh_host_model.specs.Host.Happens.{Happens}
use Rattle.wh_host.specs.Hosting.{HostState, IsHost, IsReached}
use Rattle.wh_host.specs.Paging.{MovesOnly, MovesWith}
use Rattle.wh_host.specs.Series.{HasSpent}
use Rattle.wh_hand.specs.ChargesTaken.{charges_of_all}
use Rattle.wh_hand.specs.Running.{AllGetOn, EventGetsOn, IsOwn, RunsByEvents, place_of_tenant, turn_count}
use Rattle.wh_hand.specs.RunParts.{RunsPart, quantum}
use Rattle.wh_hand.specs.Lining.{MayGoOn, IsReadyFor}
use Rattle.wh_hand.proofs.Sums.{live_by_places, turn_taken}
use Rattle.wh_hand.proofs.Getting.{turned_gets_on}

pub all_both : (P : Event → Type 0) (xs ys : List Event) → AllByRecursion P xs → AllByRecursion P ys → AllByRecursion P (xs ++ ys)
all_both P [] ys a b = b
all_both P (x ∷ xs) ys a b = (a.0, all_both P xs ys a.1 b)

pub happen_both : (w w2 w3 : World) (es fs : List Event) → AllHappen w es w2 → AllHappen w2 fs w3 → AllHappen w (es ++ fs) w3
happen_both w w2 w3 [] fs a b = subst (λ (z : World). AllHappen z fs w3) a b
happen_both w w2 w3 (e ∷ es) fs a b = (a.0, a.1, happen_both a.0 w2 w3 es fs a.2 b)

pub get_on_both : (w w2 w3 : World) (es fs : List Event) → AllGetOn w es w2 → AllGetOn w2 fs w3 → AllGetOn w (es ++ fs) w3
get_on_both w w2 w3 [] fs a b = subst (λ (z : World). AllGetOn z fs w3) a b
get_on_both w w2 w3 (e ∷ es) fs a b = (a.0, a.1, a.2, get_on_both a.0 w2 w3 es fs a.3 b)

pub reached_by : (w w2 : World) (events : List Event) → IsReached w → AllHappen w events w2 → IsReached w2
reached_by w w2 events r happen = record {
  frames = r.frames;
  slots = r.slots;
  tax = r.tax;
  events = r.events ++ events;
  happen = happen_both (empty_world r.frames r.slots r.tax) w w2 r.events events r.happen happen;
}

-- ---- from one host of the definitions to another

abbrev pub runs_itself : (w : World) → RunsByEvents quantum w 0 w
runs_itself w = record { events = []; happen = refl; gets_on = refl; own = tt; counted = omega arith; modules = refl; places = refl }

abbrev pub runs_both : (w w2 w3 : World) (m n : ℕ) → RunsByEvents quantum w m w2 → RunsByEvents quantum w2 n w3
    → RunsByEvents quantum w (m + n) w3
runs_both w w2 w3 m n a b = record {
  events = a.events ++ b.events;
  happen = happen_both w w2 w3 a.events b.events a.happen b.happen;
  gets_on = get_on_both w w2 w3 a.events b.events a.gets_on b.gets_on;
  own = all_both (IsOwn quantum) a.events b.events a.own b.own;
  counted = (let x = a.counted in let y = b.counted in omega (arith, x, y));
  modules = b.modules ∙ a.modules;
  places = b.places ∙ a.places;
}

-- events that move pages alone
abbrev pub runs_moved : (w w2 : World) (e : Event) → IsOwn quantum e → Happens w e w2 → EventGetsOn w e w2 → OnlyMoves w w2 → RunsByEvents quantum w 0 w2
runs_moved w w2 e own happens quiet moves = record {
  events = e ∷ [];
  happen = (w2, happens, refl);
  gets_on = (w2, happens, quiet, refl);
  own = (own, tt);
  counted = (let same = ap charges_of_all moves.2 in omega (arith, same));
  modules = ap (λ (z : World). z.modules) moves.2;
  places = ap (λ (z : World). map place_of_tenant z.tenants) moves.2;
}

pub only_moves : (w w2 : World) (id : InstId) → MovesPages w id AwaitsFrame None w2 → OnlyMoves w w2
only_moves w w2 id (moved {s2 = s2} alone none) = (s2, alone, refl)
only_moves w w2 id (has_failed {e = e} alone some live awaits) = absurd (cc some)

-- ---- between what they represent

pub on_itself : (h : HostState) → RunsPart h 0 0 h
on_itself h w st reached = (w, runs_itself w, omega arith, st)

pub on_both : (h h2 h3 : HostState) (m n a b : ℕ) → RunsPart h m a h2 → RunsPart h2 n b h3 → RunsPart h (m + n) (a + b) h3
on_both h h2 h3 m n a b f g w st reached =
    let x = f w st reached in
    let y = g x.0 x.3 (reached_by w x.0 x.1.events reached x.1.happen) in
    let turns = sum_by-append turn_count x.1.events y.1.events in
    (y.0, runs_both w x.0 y.0 m n x.1 y.1, omega (arith, turns, x.2, y.2), y.3)

pub on_moved : (h h2 : HostState) (e : Event) → IsOwn quantum e → ((w w2 : World) → OnlyMoves w w2 → Happens w e w2) → ((w w2 : World) → EventGetsOn w e w2)
    → MovesOnly h h2 → RunsPart h 0 0 h2
on_moved h h2 e own happens quiet moves w st reached =
    let x = moves w st in
    (x.0, runs_moved w x.0 e own (happens w x.0 x.1) (quiet w x.0) x.1, omega arith, x.2)

pub on_provided : (h h2 : HostState) (id : InstId) → MovesWith h id AwaitsFrame None h2 → RunsPart h 0 0 h2
on_provided h h2 id moves w st reached =
    let x = moves w st in
    (x.0, runs_moved w x.0 (provide id None) refl x.1 tt (only_moves w x.0 id x.1), omega arith, x.2)

-- one turn
pub on_turned : (h h2 : HostState) (id : InstId) (q n : ℕ) (answer : TurnEnd) → 1 ≤ q → q ≤ quantum → MayGoOn h id → IsReadyFor h id
    → ((w : World) → IsHost h w → (w2 : World) × IsTurn w id q answer w2 × HasSpent w id n w2 × IsHost h2 w2) → RunsPart h n 1 h2
on_turned h h2 id q n answer some within goes ready turns w st reached =
    let (w2, turned, spent, st2) = turns w st in
    let taken = turn_taken w w2 id q n answer turned spent in
    let r : RunsByEvents quantum w n w2 = record {
      events = turn id q ∷ [];
      happen = (w2, (answer, turned), refl);
      gets_on = (w2, (answer, turned), turned_gets_on h id q some goes ready w w2 answer st reached turned, refl);
      own = ((some, within), tt);
      counted = taken.charges;
      modules = taken.modules;
      places = taken.places;
    } in
    (w2, r, omega arith, st2)

-- as many instances are there
pub live_turned : (h h2 : HostState) (id : InstId) (q n : ℕ) (answer : TurnEnd) → (w : World) × IsHost h w
    → ((w : World) → IsHost h w → (w2 : World) × IsTurn w id q answer w2 × HasSpent w id n w2 × IsHost h2 w2) → h2.live ≡ h.live
live_turned h h2 id q n answer some turns =
    let (w2, turned, spent, st2) = turns some.0 some.1 in
    let taken = turn_taken some.0 w2 id q n answer turned spent in
    st2.live ∙ live_by_places w2.tenants some.0.tenants taken.places ∙ sym some.1.live

pub live_moved : (h h2 : HostState) → (w : World) × IsHost h w → MovesOnly h h2 → h2.live ≡ h.live
live_moved h h2 some moves =
    let x = moves some.0 some.1 in
    x.2.live ∙ ap (λ (z : World). live_count z.tenants) x.1.2 ∙ sym some.1.live
