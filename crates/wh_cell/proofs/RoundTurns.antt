-- A round of turns is work, and takes the charges that its runners say.
use Rattle.std.proofs.Common.{◌≡◌, ◌≢◌, ◌∙◌, inl, inr, ℕ, zero, suc, ◌+◌, ◌*◌, ◌<◌, ◌≤◌, ◌^◌, List, [], ◌∷◌, ◌++◌, ◌-◌, take, Option, Some, None, length, slice_get, slice_set, refl, sym, ap, subst, arith}
use Rattle.std.proofs.Math.Nat.{mul-le-mul_left, one-mul, suc-mul}
use Rattle.std.proofs.lemmas.Bool.{cases_eq, cases_lt}
use Rattle.std.proofs.lemmas.List.{get_or-set_same}
use Rattle.std.proofs.lemmas.List.Sums.{sum_by-append, sum_by-cons}
use Rattle.wh_space_model.specs.declared.plain.InstId.{InstId}
use Rattle.wh_host_model.specs.declared.plain.TurnEnd.{TurnEnd}
use Rattle.wh_host_model.specs.declared.plain.TurnEnd.TheVariants.{Again}
use Rattle.wh_host_model.specs.Host.{turn, Turn, can_go_on, has_ended, has_no_frame, has_no_fuel, is_idle, keeps_its_fault, IsLive, IsTurn, of_none, of_one, CanGoOn, Tenant, World, for_device, for_frame, with_tenant}
use Rattle.wh_space_model.specs.{Space}
use Rattle.wh_space_model.proofs.Putting.{set_other, set_same, there_of}
use Rattle.wh_host.specs.declared.rounds.Runner.{Runner}
use Rattle.wh_host.specs.declared.rounds.SeriesEnd.{SeriesEnd}
use Rattle.wh_host.specs.Hosting.{HostState, IsHost}
use Rattle.wh_host.specs.Paging.{IsGoing}
use Rattle.wh_host.specs.Rounds.{AllTurn, RunnersStay, TakesTurns}
use Rattle.wh_host.specs.Series.{HasSpent, IsWholeOrCut, SeriesOf, last_turn, turn_before}
use Rattle.wh_host.proofs.Hosts.{at_place, some_within, turn_stays}
use Rattle.wh_threads.specs.Working.{ReceivedTurnsState}
use Rattle.wh_cell.specs.Charging.{HasTaken}
use Rattle.wh_cell.specs.Going.{WorksTo}
use Rattle.wh_cell.specs.LeftByOwner.{HasTakenOn, WorksOn}
use Rattle.wh_cell.specs.RoundCounts.{AreFewEach, AreReceived, charges_by_turns, charges_of_round, turns_by, turns_of_round}
use Rattle.wh_cell.proofs.Alike.{taken_each}
use Rattle.wh_cell.proofs.Counted.{taken_none, turn_lasts, turn_taken}
use Rattle.wh_cell.proofs.Asked.{copied_ended}
use Rattle.wh_cell.proofs.Requested.{HasCopiedEnded}
use Rattle.wh_cell.proofs.Going.{works_by, works_on, works_to_itself}

-- ---- charges

taken_then : (w mid w2 : World) (a b : ℕ) → HasTaken w a mid → HasTaken mid b w2 → HasTaken w (a + b) w2
taken_then w mid w2 a b x y = record {
  charges = (let first = x.charges in let then = y.charges in omega (arith, first, then));
  live = y.live ∙ x.live;
  admitted = y.admitted ∙ x.admitted;
}

record Took (w : World) (n : ℕ) (w2 : World) : Type 0 where
  taken : HasCopiedEnded w → HasTaken w n w2
  ended : HasCopiedEnded w → HasCopiedEnded w2

turn_ended : (w : World) (id : InstId) (t t2 : Tenant) (s : Space) → IsLive w id t → (t.copied ≤ length t.ended → t2.copied ≤ length t2.ended) → HasCopiedEnded w → HasCopiedEnded (with_tenant w id.number (Some t2) s)
turn_ended w id t t2 s live lasts had j u there = elim (at_place w.tenants id.number j (Some t2) t u live.0 there) [
  | inl (same, is) ↦ (let one : t2 ≡ u = cc is in subst (λ (z : Tenant). z.copied ≤ length z.ended) one (lasts (had id.number t live.0)))
  | inr (other, was) ↦ had j u was
]

still_ended : (w w2 : World) (id : InstId) (q : ℕ) (end : TurnEnd) → IsTurn w id q end w2 → HasCopiedEnded w → HasCopiedEnded w2
still_ended w w2 id q end (of_none none) had = had
still_ended w w2 id q end (of_one {t = t} {t2 = t2} {s2 = s2} live happens) had = turn_ended w id t t2 s2 live (turn_lasts q w.space s2 t t2 end happens) had

turn_took : (w w2 : World) (id : InstId) (q n : ℕ) (end : TurnEnd) → IsTurn w id q end w2 → HasSpent w id n w2 → Took w n w2
turn_took w w2 id q n end happens spent = record {
  taken = λ had. turn_taken w w2 id q n end happens spent (λ t live. had id.number t live.0);
  ended = still_ended w w2 id q end happens;
}

-- ---- who can go on still can behind a turn that says so

goes_again : (q : ℕ) (s s2 : Space) (t t2 : Tenant) (answer : TurnEnd) → Turn q s t answer s2 t2 → answer ≡ Again → CanGoOn t → CanGoOn t2
goes_again q s s2 t t2 answer (is_idle none) is can = absurd (cc is)
goes_again q s s2 t t2 answer (has_ended there g leaves pins c) is can = absurd (cc is)
goes_again q s s2 t t2 answer (has_no_fuel there g leaves pins) is can = absurd (cc is)
goes_again q s s2 t t2 answer (has_no_frame there g leaves pins) is can = absurd (cc is)
goes_again q s s2 t t2 answer (can_go_on there g leaves pins fault) is can = ((λ none. absurd (cc none)), inl refl)
goes_again q s s2 t t2 answer (keeps_its_fault {fault = fault} there stands doing none next fuel ready) is can = absurd (elim can.1 [
  | inl free ↦ (let bad = sym free ∙ stands in cc bad)
  | inr frame ↦ (let bad : Some for_frame ≡ Some (for_device fault) = sym frame ∙ stands in cc bad)
])

going_again : (w w2 : World) (id : InstId) (q : ℕ) (answer : TurnEnd) → IsTurn w id q answer w2 → answer ≡ Again → IsGoing w id → IsGoing w2 id
going_again w w2 id q answer (of_none none) is goes = absurd (none goes.0 goes.1)
going_again w w2 id q answer (of_one {t = t} {t2 = t2} {s2 = s2} live happens) is goes =
    let within = some_within w.tenants id.number t live.0 in
    let stays = turn_stays q w.space s2 t t2 answer happens in
    let same : goes.0 ≡ t = (let both : Some goes.0 ≡ Some t = sym goes.1.0 ∙ live.0 in cc both) in
    (t2, (get_or-set_same w.tenants id.number (Some t2) None within, stays.place ∙ live.1), goes_again q w.space s2 t t2 answer happens is (subst CanGoOn same goes.2))

-- ---- series

record SeriesTook (q : ℕ) (w : World) (turns n : ℕ) (w2 : World) : Type 0 where
  taken : HasCopiedEnded w → HasTaken w n w2
  ended : HasCopiedEnded w → HasCopiedEnded w2
  few : n ≤ turns * q
  works : WorksTo w [] w2

at_most : (q few n : ℕ) (end : TurnEnd) → IsWholeOrCut q few n end → few ≤ q
at_most q few n end (inl same) = omega (arith, same)
at_most q few n end (inr (least, taken, again)) = least

series_took : (q : ℕ) (id : InstId) (w w2 : World) (turns n : ℕ) (end : TurnEnd) → IsGoing w id → SeriesOf q id w turns n end w2 → SeriesTook q w turns n w2
series_took q id w w2 turns n end goes (last_turn {few = few} whole least happens spent) =
    let t = turn_took w w2 id few n end happens spent in
    let one = one-mul q in
    let most = at_most q few n end whole in
    record { taken = t.taken; ended = t.ended; few = omega (arith, one, least, most); works = works_by w w2 (turn id few) goes (end, happens) }
series_took q id w w2 turns n end goes (turn_before {mid = mid} {turns = rest} {more = more} happens spent series) =
    let t = turn_took w mid id q q Again happens spent in
    let r = series_took q id mid w2 rest more end (going_again w mid id q Again happens refl goes) series in
    let grows = suc-mul rest q in
    record {
      taken = λ had. taken_then w mid w2 q more (t.taken had) (r.taken (t.ended had));
      ended = λ had. r.ended (t.ended had);
      few = omega (arith, grows, r.few);
      works = works_on w mid w2 [] [] (works_by w mid (turn id q) goes (Again, happens)) r.works;
    }

-- ---- rounds

-- n charges were taken, and the calls that were copied have ended still
abbrev TakesOn : World → ℕ → World → Type 0
TakesOn w n w2 = HasCopiedEnded w → HasTaken w n w2 × HasCopiedEnded w2

takes_none : (q most : ℕ) (w w2 : World) (id : InstId) → TakesTurns q most w id None w2 → TakesOn w 0 w2 × WorksTo w [] w2
takes_none q most w w2 id same = (subst (λ z. TakesOn w 0 z) (sym same) (λ had. (taken_none w, had)), subst (λ z. WorksTo w [] z) (sym same) (works_to_itself w))

one_took : (q most : ℕ) (w w2 : World) (id : InstId) (answer : Option SeriesEnd) → TakesTurns q most w id answer w2 → TakesOn w (charges_by_turns answer) w2 × WorksTo w [] w2
one_took q most w w2 id None takes = takes_none q most w w2 id takes
one_took q most w w2 id (Some made) takes =
    let s = series_took q id w w2 made.turns made.charges made.end takes.0 takes.2 in
    (λ had. (s.taken had, s.ended had), s.works)

pub round_took : (q most : ℕ) (w w2 : World) (ys : List Runner) → AllTurn q most w ys w2 → TakesOn w (charges_of_round ys) w2 × WorksTo w [] w2
round_took q most w w2 [] same = (subst (λ z. TakesOn w 0 z) (sym same) (λ had. (taken_none w, had)), subst (λ z. WorksTo w [] z) (sym same) (works_to_itself w))
round_took q most w w2 (y ∷ ys) (mid, first, rest) =
    let a = one_took q most w mid y.id y.answer first in
    let b = round_took q most mid w2 ys rest in
    let sum : charges_by_turns y.answer + charges_of_round ys ≡ charges_of_round (y ∷ ys) = sym (sum_by-cons (λ (z : Runner). charges_by_turns z.answer) y ys) in
    (λ had. (let x = a.0 had in let z = b.0 x.1 in (subst (λ n. HasTaken w n w2) sum (taken_then w mid w2 (charges_by_turns y.answer) (charges_of_round ys) x.0 z.0), z.1)), works_on w mid w2 [] [] a.1 b.1)

-- it leads on from whatever host
pub round_taken : (h h2 : HostState) (q most : ℕ) (ys : List Runner) → (w : World) × IsHost h w → ((w : World) → IsHost h w → (w2 : World) × AllTurn q most w ys w2 × IsHost h2 w2) → HasTakenOn h (charges_of_round ys) h2
round_taken h h2 q most ys some turns =
    let x = turns some.0 some.1 in
    taken_each h h2 some.0 x.0 (charges_of_round ys) some.1 x.2 ((round_took q most some.0 x.0 ys x.1).0 (copied_ended h some.0 some.1)).0

pub works_by_round : (h h2 : HostState) (q most : ℕ) (ys : List Runner) → ((w : World) → IsHost h w → (w2 : World) × AllTurn q most w ys w2 × IsHost h2 w2) → WorksOn h [] h2
works_by_round h h2 q most ys turns w st = let x = turns w st in (x.0, (round_took q most w x.0 ys x.1).1, x.2)

-- ---- none has more turns than were received, or more charges than these may have

record Few (q most : ℕ) (answer : Option SeriesEnd) : Type 0 where
  turns : turns_by answer ≤ most
  charges : charges_by_turns answer ≤ turns_by answer * q

few_of : (q most : ℕ) (w w2 : World) (id : InstId) (answer : Option SeriesEnd) → TakesTurns q most w id answer w2 → Few q most answer
few_of q most w w2 id None takes = record { turns = omega arith; charges = omega arith }
few_of q most w w2 id (Some made) takes =
    let s = series_took q id w w2 made.turns made.charges made.end takes.0 takes.2 in
    record { turns = takes.1; charges = s.few }

few_each : (q most : ℕ) (w w2 : World) (ys : List Runner) → AllTurn q most w ys w2 → (k : ℕ) (y : Runner) → slice_get ys k ≡ Some y → Few q most y.answer
few_each q most w w2 [] all k y there = absurd (cc there)
few_each q most w w2 (z ∷ ys) (mid, first, rest) zero y there = let same : z ≡ y = cc there in subst (λ (x : Runner). Few q most x.answer) same (few_of q most w mid z.id z.answer first)
few_each q most w w2 (z ∷ ys) (mid, first, rest) (suc k) y there = few_each q most mid w2 ys rest k y there

pub are_few : (q many : ℕ) (w w2 : World) (ys ys2 : List Runner) (orders : List ReceivedTurnsState) → q < 2 ^ 32 → many < 2 ^ 32 → AreReceived q many ys orders → RunnersStay ys ys2 → AllTurn q many w ys2 w2 → AreFewEach ys2 orders
are_few q many w w2 ys ys2 orders few least received stay all k y there =
    let was = stay k y there in
    let o = received k was.0 was.1 in
    let f = few_each q many w w2 ys2 all k y there in
    let turns = f.turns in
    let grows : turns_by y.answer * q ≤ turns_by y.answer * 2 ^ 32 = mul-le-mul_left (turns_by y.answer) (omega (arith, few)) in
    (o.0, o.1, omega (arith, turns, o.4), omega (arith, turns, least), omega (arith, f.charges, grows))

-- ---- they are counted one after the other

pub record CountedSoFar (ys : List Runner) (orders orders2 : List ReceivedTurnsState) (i : ℕ) : Type 0 where
  pub done : (k : ℕ) (y : Runner) (o : ReceivedTurnsState) → k < i → slice_get ys k ≡ Some y → slice_get orders k ≡ Some o
      → slice_get orders2 k ≡ Some (record o { count = o.count - turns_by y.answer })
  pub rest : (k : ℕ) → i ≤ k → slice_get orders2 k ≡ slice_get orders k
  pub few : turns_of_round (take i ys) ≤ i * 2 ^ 32

take_next : (ys : List Runner) (i : ℕ) (y : Runner) → slice_get ys i ≡ Some y → take (i + 1) ys ≡ take i ys ++ y ∷ []
take_next [] i y there = absurd (cc there)
take_next (x ∷ ys) zero y there = let same : x ≡ y = cc there in ap (λ z. z ∷ []) same
take_next (x ∷ ys) (suc i) y there =
    let e : suc i + 1 ≡ suc (i + 1) = omega arith in
    ap (λ n. take n (x ∷ ys)) e ∙ ap (λ zs. x ∷ zs) (take_next ys i y there)

pub turns_next : (ys : List Runner) (i : ℕ) (y : Runner) → slice_get ys i ≡ Some y → turns_of_round (take (i + 1) ys) ≡ turns_of_round (take i ys) + turns_by y.answer
turns_next ys i y there =
    let step = ap turns_of_round (take_next ys i y there) in
    let both : turns_of_round (take i ys ++ y ∷ []) ≡ turns_of_round (take i ys) + turns_of_round (y ∷ []) = sum_by-append (λ (z : Runner). turns_by z.answer) (take i ys) (y ∷ []) in
    let one : turns_of_round (y ∷ []) ≡ turns_by y.answer + 0 = sum_by-cons (λ (z : Runner). turns_by z.answer) y [] in
    omega (arith, step, both, one)

pub charges_next : (ys : List Runner) (i : ℕ) (y : Runner) → slice_get ys i ≡ Some y → charges_of_round (take (i + 1) ys) ≡ charges_of_round (take i ys) + charges_by_turns y.answer
charges_next ys i y there =
    let step = ap charges_of_round (take_next ys i y there) in
    let both : charges_of_round (take i ys ++ y ∷ []) ≡ charges_of_round (take i ys) + charges_of_round (y ∷ []) = sum_by-append (λ (z : Runner). charges_by_turns z.answer) (take i ys) (y ∷ []) in
    let one : charges_of_round (y ∷ []) ≡ charges_by_turns y.answer + 0 = sum_by-cons (λ (z : Runner). charges_by_turns z.answer) y [] in
    omega (arith, step, both, one)

pub counted_next : (ys : List Runner) (orders orders2 : List ReceivedTurnsState) (i : ℕ) (y : Runner) (o : ReceivedTurnsState) → CountedSoFar ys orders orders2 i → slice_get ys i ≡ Some y → slice_get orders2 i ≡ Some o → turns_by y.answer ≤ 2 ^ 32
    → CountedSoFar ys orders (slice_set orders2 i (record o { count = o.count - turns_by y.answer })) (i + 1)
counted_next ys orders orders2 i y o h there at least =
    let o2 : ReceivedTurnsState = record o { count = o.count - turns_by y.answer } in
    record {
      done = λ k z p less there2 at2. elim (cases_eq k i) [
        | inl same ↦ (
            let same_y : y ≡ z = cc (sym there ∙ ap (slice_get ys) (sym same) ∙ there2) in
            let same_o : o ≡ p = cc (sym at ∙ h.rest i (omega arith) ∙ ap (slice_get orders) (sym same) ∙ at2) in
            ap (slice_get (slice_set orders2 i o2)) same ∙ set_same orders2 i o2 (there_of orders2 i o at) ∙ ap (λ (x : ReceivedTurnsState). Some (record x { count = x.count - turns_by y.answer })) same_o ∙ ap (λ (x : Runner). Some (record p { count = p.count - turns_by x.answer })) same_y)
        | inr other ↦ set_other orders2 i k o2 other ∙ h.done k z p (before k less other) there2 at2
      ];
      rest = λ k least2. set_other orders2 i k o2 (λ same. absurd (omega (arith, same, least2))) ∙ h.rest k (omega (arith, least2));
      few = (let more = turns_next ys i y there in let f = h.few in omega (arith, more, f, least));
    }
  where
    before : (k : ℕ) → k < i + 1 → k ≢ i → k < i
    before k less other = elim (cases_lt k i) [
      | inl less2 ↦ less2
      | inr behind ↦ absurd (other (omega (arith, less, behind)))
    ]

pub take_all_of : (ys : List Runner) (i : ℕ) → length ys ≤ i → take i ys ≡ ys
take_all_of [] zero most = refl
take_all_of [] (suc i) most = refl
take_all_of (y ∷ ys) zero most = absurd (omega (arith, most))
take_all_of (y ∷ ys) (suc i) most = ap (λ zs. y ∷ zs) (take_all_of ys i (omega (arith, most)))
