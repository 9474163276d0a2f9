-- How far a call comes in a turn, and that such a turn can happen.
use Rattle.std.proofs.Common.{◌≡◌, ◌≢◌, ℕ, zero, suc, ◌+◌, ◌*◌, ◌/◌, ◌<◌, ◌≤◌, ◌⊎◌, inl, inr, Bool, true, List, [], ◌∷◌, ◌++◌, Option, Some, None, length, map, replicate, reverse, get_or, slice_get, refl, sym, ap, subst, ◌∙◌, arith, rules}
use Rattle.std.proofs.lemmas.Bool.{cases_lt}
use Rattle.std.proofs.lemmas.List.{reverse-reverse}
use Rattle.std.specs.List.{AllByRecursion}
use Rattle.wh_model.specs.declared.ValType.{ValType}
use Rattle.wh_model.specs.declared.Trap.{Trap}
use Rattle.wh_model.specs.declared.memory.Need.{Need}
use Rattle.wh_model.specs.Format.Syntax.{Limits}
use Rattle.wh_model.specs.Format.{Body, FuncType, Module, nothing}
use Rattle.wh_model.specs.Validity.{Context}
use Rattle.wh_model.specs.Validity.Valid.{Valid}
use Rattle.wh_model.specs.Soundness.{AreOfTypes, InstanceType, ThreadType}
use Rattle.wh_model.specs.Laws.{GoesFurther, HasFuncType, IsFinal, StandsAs}
use Rattle.wh_model.specs.Execution.{Asks, Config, Term, code, config, store_of, trapped, Beginning, IsInitial, Parameters, Piece, begins, in_bounds, last_size, needs_more, out_of_bounds, After, IsNext, IsSettled, Leads, goes_on, Call, Outcome, Standing, Stands, cancelled, dead, has_pieces, is_invoked, is_under_way, pending, returned, running, stopped, FuncInst, InRange, Value, own, signature, type_of, written, Takes, took, took_all}
use Rattle.wh_model.specs.Execution.Memory.{writing}
use Rattle.wh_model.specs.Execution.Store.{Instance, Store}
use Rattle.wh_model.proofs.BeginsTypedLemmas.{begins_typed}
use Rattle.wh_model.proofs.Chains.{settles, small_charges}
use Rattle.wh_model.proofs.SoundReplayLemmas.{replay_soundness}
use Rattle.wh_model.proofs.SpelledBytesLemmas.{spelled_has_bytes}
use Rattle.wh_model.proofs.StoreTypingLemmas.{types_reverse}
use Rattle.wh_model.proofs.StuckLemmas.{never_stuck}
use Rattle.wh_space_model.specs.{Claimed, Occupant, Space, claim, claim_of, occupant_at, view, IsSound, HasNoPins, ended, stood}
use Rattle.wh_space_model.specs.Ready.{Ready}
use Rattle.wh_host_model.specs.declared.plain.TurnEnd.{TurnEnd}
use Rattle.wh_host_model.specs.declared.plain.TurnEnd.TheVariants.{Again, Ended, Frame, Fuel}
use Rattle.wh_host_model.specs.Host.{WaitsAlone, StepsAlone, Doing, Rest, Tenant, World, computing, journal, journal_calls, resting, standing_in, standing_with, store_in, store_with, tenant, Computes, HaveTypes, Opens, Proceeds, Upshot, has_had_its_turn, out_of_fuel, returns, to_end, to_go_on, to_wait, traps, uses_fuel, waits, rest_of, KeepsNoFault, Turn, can_go_on, ended_by, gone_further, has_ended, has_no_frame, has_no_fuel, IsReplayed, HasEnded, InOrder, IsEnded, has_started, is_starting}
use Rattle.wh_host_model.specs.{Entry, given_of}
use Rattle.wh_space_model.specs.declared.plain.InstId.{InstId}
use Rattle.wh_model.proofs.Asked.{one_need}
use Rattle.wh_space_model.proofs.Deciding.{ready_decided}
use Rattle.wh_space_model.proofs.Putting.{get_or_is}
use Rattle.wh_host_model.proofs.Host.Entries.{Now, calls_join}
use Rattle.wh_host_model.proofs.Host.Leaving.{ended_alone, left_then, stood_alone}
use Rattle.wh_host_model.proofs.Host.Running.{IsGood}
use Rattle.wh_host_model.proofs.Host.Stopping.{trap_has_no_next}
use Rattle.wh_host_model.proofs.Host.Progress.{claimed_there, some_closing}
use Rattle.wh_space_model.proofs.Filling.{some_store}
use Rattle.wh_space_model.proofs.Reading.{view_length}
use Rattle.wh_host_model.proofs.Host.Bridges.{growth_steps, stores_step}
use Rattle.wh_host_model.proofs.Host.Reducing.{Leaves, asks_known, asks_within, grew, leads_still, reduces_leaves, stay, wrote}

-- ---- the memory after a step

pub alone : (s : Space) (i : ℕ) → IsSound s → StepsAlone i s s
alone s i sound = record { others = λ j other. record { view = refl; wants = refl; claim = refl; promise = inl refl }; places = λ j other. refl; claim = refl; sound = sound }

pub record Stepped (s : Space) (i : ℕ) (bytes : List ℕ) : Type 0 where
  pub mid : Space
  pub sees : view mid i ≡ bytes
  pub steps : StepsAlone i s mid

pages_of_table : (n rows : ℕ) → n ≡ 4096 * rows → (k : ℕ) → rows ≡ 16 * k → n / 65536 ≡ k
pages_of_table n rows long k whole = omega (arith, long, whole)

grown_fits : (rows k n limit max : ℕ) → rows ≡ 16 * k → k + n ≤ limit → limit ≤ max / 16 → rows + 16 * n ≤ max
grown_fits rows k n limit max whole room low = omega (arith, whole, room, low)

stepped : (inst : Instance) (st : Store) (P : Need → Type 0) (s : Space) (i : ℕ) (t : Occupant) (bytes : List ℕ) → IsSound s → occupant_at s i t → t.live ≡ true → inst.page_limit ≤ t.max / 16
    → st.bytes ≡ view s i → ((need : Need) → P need → Ready s i need) → Leaves inst st P bytes → Stepped s i bytes
stepped inst st P s i t bytes sound at live low same ready (stay e) = record { mid = s; sees = sym (e ∙ same); steps = alone s i sound }
stepped inst st P s i t bytes sound at live low same ready (wrote from given within few asked) =
    let long = view_length s i sound in
    let bound = ap length same in
    let made = some_store s i from given sound (ready (writing from (length given)) asked) (omega (arith, within, long, bound)) few in
    let step = stores_step s i from given made.0 sound made.1 in
    record { mid = made.0; sees = step.1 ∙ ap (λ z. written z from given) (sym same); steps = step.0 }
stepped inst st P s i t bytes sound at live low same ready (grew n room) =
    let long = view_length s i sound in
    let bound = ap length same in
    let has = sound.occupants.have i (Some t) at in
    let whole = has.7 in
    let rows : ℕ = length (get_or s.tables i []) in
    let many : length st.bytes / 65536 ≡ whole.0 = pages_of_table (length st.bytes) rows (bound ∙ long) whole.0 whole.1 in
    let step = growth_steps s i n t _ sound at live (grown_fits rows whole.0 n inst.page_limit t.max whole.1 (omega (arith, room, many)) low) refl in
    let zeros : 65536 * n ≡ n * 65536 = omega arith in
    record { mid = _; sees = step.1 ∙ ap (λ z. view s i ++ replicate z 0) zeros ∙ ap (λ z. z ++ replicate (n * 65536) 0) (sym same); steps = step.0 }

-- ---- one charge

pub record Charged (inst : Instance) (s : Space) (i : ℕ) (c : Config) : Type 0 where
  pub mid : Space
  pub then : Config
  pub after : After inst c 1 then
  pub sees : view mid i ≡ (store_of then).bytes
  pub steps : StepsAlone i s mid

one_more : {n : ℕ} {inst : Instance} {a b : Config} → Leads inst a n b → n ≡ 1 → Leads inst a 1 b
one_more {inst = inst} {a = a} {b = b} x e = subst (λ k. Leads inst a k b) e x

pub charged : (inst : Instance) (s : Space) (i : ℕ) (t : Occupant) (c : Config) → IsSound s → occupant_at s i t → t.live ≡ true → inst.page_limit ≤ t.max / 16
    → (store_of c).bytes ≡ view s i → ((need : Need) → Asks inst c need → Ready s i need) → IsNext inst c → Charged inst s i c
charged inst s i t c sound at live low same ready (b, r) =
    let made = stepped inst (store_of c) (Asks inst c) s i t (store_of b).bytes sound at live low same ready (reduces_leaves r) in
    let rest = settles inst b in
    record {
      mid = made.mid;
      then = rest.0;
      after = (one_more (goes_on 1 0 r rest.1.0) (omega arith), rest.1.1);
      sees = made.sees ∙ sym (leads_still rest.1.0 refl);
      steps = made.steps;
    }

-- ---- where the call is then

abbrev pub ComputesAt : ℕ → ℕ → Instance → Call → Space → Rest → Doing → ℕ → ℕ → Space → Config → Type 0
ComputesAt q p inst call s r d k n mid c = Computes (λ x. view x p) (λ x. Ready x p) (StepsAlone p) inst q call s r d k n mid c

pub record Comes (q p : ℕ) (inst : Instance) (call : Call) (s : Space) (r : Rest) (d : Doing) (k n : ℕ) (mid : Space) : Type 0 where
  pub to : Upshot
  pub rest : Rest
  pub doing : Doing
  pub proceeds : Proceeds (λ x. view x p) (λ x. Ready x p) (StepsAlone p) inst q call s r d to k n mid rest doing
  pub lies : (need : Need) → to ≡ to_wait need → (need.at + need.length ≤ length (view mid p)) × (need.length ≤ 4096)
  pub full : to ≡ to_go_on → n ≡ q

end_is_no_wait : (o : Outcome) (need : Need) → to_end o ≢ to_wait need
end_is_no_wait o need e = cc e

fuel_is_no_wait : (need : Need) → out_of_fuel ≢ to_wait need
fuel_is_no_wait need e = cc e

on_is_no_wait : (need : Need) → to_go_on ≢ to_wait need
on_is_no_wait need e = cc e

same_wait : (a b : Need) → to_wait a ≡ to_wait b → a ≡ b
same_wait a b e = cc e

-- the function of a call, which is the module's own
pub record OwnFunc (inst : Instance) (call : Call) : Type 0 where
  pub index : ℕ
  pub type : FuncType
  pub body : Body
  pub calls : call.func ≡ Some index
  pub is_own : slice_get inst.funcs index ≡ Some (own type body)

typed_values : (vs : List Value) (ts : List ValType) → AreOfTypes vs ts → (map type_of vs ≡ ts) × AllByRecursion InRange vs
typed_values [] [] h = (refl, tt)
typed_values [] (t ∷ ts) h = absurd h
typed_values (v ∷ vs) [] h = absurd h
typed_values (v ∷ vs) (t ∷ ts) h = let rest = typed_values vs ts h.1 in let first = h.0.0 in let all = rest.0 in (cc (first, all), (h.0.1, rest.1))

pub none_typed : (f : List Value) → AreOfTypes f [] → f ≡ []
none_typed [] h = refl
none_typed (v ∷ f) h = absurd h

pub ends_typed : (inst : Instance) (call : Call) (o : OwnFunc inst call) (vs : List Value) → AreOfTypes vs (reverse o.type.results) → HaveTypes inst call (reverse vs)
ends_typed inst call o vs h =
    let back = subst (AreOfTypes (reverse vs)) (reverse-reverse o.type.results) (types_reverse vs (reverse o.type.results) h) in
    let typed = typed_values (reverse vs) o.type.results back in
    record { index = o.index; type = o.type; body = o.body; calls = o.calls; is_own = o.is_own; types = typed.0; fit = typed.1 }

pub on_further : (inst : Instance) (c : Config) → IsSettled inst c → GoesFurther inst c → IsNext inst c
on_further inst c settled (zero, b, r) = absurd (settled b r)
on_further inst c settled (suc zero, b, r) = (b, r)
on_further inst c settled (suc (suc k), b, r) = absurd (let small = small_charges inst 0 (suc (suc k)) c b r in omega (arith, small))

pub on_memory : (mid : Space) (p : ℕ) (st : Store) → view mid p ≡ st.bytes → st ≡ store_with (view mid p) (rest_of st)
on_memory mid p st sees = ap (λ b. store_with b (rest_of st)) (sym sees)

-- ---- a turn

abbrev pub occupant_claim : Occupant → Claimed
occupant_claim t = record { number = t.number; shares = t.shares; min = t.min; max = t.max }

claim_there : (s : Space) (i : ℕ) (t : Occupant) → occupant_at s i t → t.live ≡ true → claim s i ≡ Some (occupant_claim t)
claim_there s i t at live = ap claim_of (get_or_is s.occupants i (Some t) None at) ∙ rw live refl

-- its pins have ended, and it waits for these bytes
stands_then : (i : ℕ) (a b c : Space) (need : Need) → WaitsAlone i None a b → WaitsAlone i (Some need) b c → WaitsAlone i (Some need) a c
stands_then i a b c need ab bc = record {
  steps = search (rules, left_then);
  view = bc.view ∙ ab.view;
  wants = bc.wants;
  ready = λ want. (let h = bc.ready want in let k = ab.ready want in (λ r. k.0 (h.0 r), λ r. h.1 (k.1 r)));
}

pub some_turn : (s mid : Space) (t : Tenant) (m : Module) (e : Entry) (es : List Entry) (occ : Occupant) (q k n : ℕ) → IsSound mid → occupant_at mid t.place occ → occ.live ≡ true → t.open_calls ≡ e ∷ es → InOrder m t.inst t.dead t.ended (e ∷ es)
    → (come : Comes q t.place t.inst e.call s t.rest t.doing k n mid) → (come.to ≡ to_go_on → KeepsNoFault (k + n) t.waiting_for) → (answer : TurnEnd) × (s2 : Space) × (t2 : Tenant) × Turn q s t answer s2 t2
some_turn s mid t m e es occ q k n sound at live there order come no_fault = go come.to refl come.proceeds where
  off : WaitsAlone t.place None mid (ended mid t.place) × HasNoPins (ended mid t.place) t.place
  off = ended_alone mid t.place occ sound at live

  go : (to : Upshot) → come.to ≡ to → Proceeds (λ x. view x t.place) (λ x. Ready x t.place) (StepsAlone t.place) t.inst q e.call s t.rest t.doing to k n mid come.rest come.doing
      → (answer : TurnEnd) × (s2 : Space) × (t2 : Tenant) × Turn q s t answer s2 t2
  go (to_end o) is g =
      let closed = some_closing (ended mid t.place) t m e (ended_by (gone_further e k n) o) es come.rest order in
      (Ended, ended mid t.place, closed.0, has_ended there g off.0 (λ steps. off.1) closed.1)
  go out_of_fuel is g = (Fuel, ended mid t.place, _, has_no_fuel there g off.0 (λ steps. off.1))
  go (to_wait need) is g =
      let s2 : Space = ended mid t.place in
      let stands = off.0 in
      let held = claimed_there s2 t.place (occupant_claim occ) (stands.steps.claim ∙ claim_there mid t.place occ at live) in
      let lies = come.lies need is in
      let long = view_length s2 t.place stands.steps.sound in
      let same = ap length stands.view in
      let waits = stood_alone s2 t.place held.0 (Some need) stands.steps.sound held.1 held.2 (λ want w. (let one : need ≡ want = cc w in subst (λ (z : Need). (z.at + z.length ≤ 4096 * length (get_or s2.tables t.place [])) × (z.length ≤ 4096)) one (omega (arith, lies, long, same), lies.1))) in
      (Frame, stood s2 t.place (Some need), _, has_no_frame there g (stands_then t.place mid s2 (stood s2 t.place (Some need)) need stands waits) (λ steps. off.1))
  go to_go_on is g = (Again, ended mid t.place, _, can_go_on there g off.0 (λ steps. off.1) (no_fault is))

-- ---- what is known of the call

-- the first that is open, of a list, is one
first_one : (xs ys past waiting : List Call) (a b : Call) → AllByRecursion (λ (z : Call). z.outcome ≢ pending) xs → AllByRecursion (λ (z : Call). z.outcome ≢ pending) past → a.outcome ≡ pending → b.outcome ≡ pending
    → xs ++ a ∷ ys ≡ past ++ b ∷ waiting → b ≡ a
first_one [] ys [] waiting a b none none2 open_a open_b e = cc e
first_one [] ys (p ∷ past) waiting a b none none2 open_a open_b e = absurd (let same : a ≡ p = cc e in none2.0 (ap (λ (z : Call). z.outcome) (sym same) ∙ open_a))
first_one (x ∷ xs) ys [] waiting a b none none2 open_a open_b e = absurd (let same : x ≡ b = cc e in none.0 (ap (λ (z : Call). z.outcome) same ∙ open_b))
first_one (x ∷ xs) ys (p ∷ past) waiting a b none none2 open_a open_b e = first_one xs ys past waiting a b none.1 none2.1 open_a open_b (cc e)

closed_end : (o : Outcome) → HasEnded o → o ≢ pending
closed_end (returned vs) h e = cc e
closed_end (stopped x) h e = cc e
closed_end cancelled h e = cc e
closed_end dead h e = absurd h
closed_end pending h e = absurd h

closed_each : (inst : Instance) (es : List Entry) → AllByRecursion (IsEnded inst) es → AllByRecursion (λ (z : Call). z.outcome ≢ pending) (journal_calls es)
closed_each inst [] h = tt
closed_each inst (e ∷ es) h = (closed_end e.call.outcome h.0.ended, closed_each inst es h.1)

closed_before : {m : Module} {inst : Instance} {b : Bool} {ended es : List Entry} {e : Entry} → InOrder m inst b ended (e ∷ es) → AllByRecursion (λ (z : Call). z.outcome ≢ pending) (journal_calls ended)
closed_before (is_starting st p rest) = tt
closed_before {inst = inst} (has_started {e = first} {es = es} st h f r all os) = (closed_end first.call.outcome h, closed_each inst es all)

pub own_of : {inst : Instance} {s : Store} {ps : List Piece} {call : Call} {z : Standing} (a : Config) → Stands inst s ps call z → z ≡ running a → OwnFunc inst call
own_of a (has_pieces lt none) e = absurd (cc e)
own_of a (is_invoked p q i) e = record { index = i.index; type = i.type; body = i.body; calls = i.calls; is_own = i.is_own }
own_of a (is_under_way p l i b x) e = record { index = i.index; type = i.type; body = i.body; calls = i.calls; is_own = i.is_own }

one_index : (inst : Instance) (x y : ℕ) (h k : FuncInst) (o : Option ℕ) → o ≡ Some x → o ≡ Some y → slice_get inst.funcs x ≡ Some h → slice_get inst.funcs y ≡ Some k → h ≡ k
one_index inst x y h k o a b c d = let same : x ≡ y = cc (a, b) in cc (c, d, same)

pub own_type : (inst : Instance) (call : Call) (o : OwnFunc inst call) (type : FuncType) → HasFuncType inst call type → type ≡ o.type
own_type inst call o type (x, h, func, at, sig) = sym sig ∙ ap signature (one_index inst x o.index h (own o.type o.body) call.func func o.calls at o.is_own)

-- ---- how far its memory may grow

limit_of : Beginning → ℕ
limit_of (begins inst s ps) = inst.page_limit
limit_of b = 0

least_limit : (ls : List Limits) (limit : ℕ) → last_size ls limit ≤ limit
least_limit [] limit = omega arith
least_limit (l ∷ ls) limit = omega arith

pub begun_limit : {m : Module} {p : Parameters} {b : Beginning} (inst : Instance) (s : Store) (ps : List Piece) → IsInitial m p b → b ≡ begins inst s ps → inst.page_limit ≤ p.page_limit
unfolding limit_of
begun_limit inst s ps (needs_more lt) e = absurd (cc e)
begun_limit inst s ps (out_of_bounds le pr never) e = absurd (cc e)
begun_limit {m} {p} inst s ps (in_bounds le pr e1 e2) e =
    let same = ap limit_of e in
    let low = least_limit m.memories p.page_limit in
    omega (arith, same, pr.page_limit, low)

pub claimed_most : (s : Space) (i : ℕ) (t : Occupant) (c : Claimed) → occupant_at s i t → t.live ≡ true → claim s i ≡ Some c → t.max ≡ c.max
claimed_most s i t c at live claims =
    let both : Some (occupant_claim t) ≡ Some c = sym (claim_there s i t at live) ∙ claims in
    let one : occupant_claim t ≡ c = cc both in
    ap (λ (z : Claimed). z.max) one

-- ---- charges, as far as the turn goes

-- what is known of a memory, and of where the call is
pub record IsAt (p : ℕ) (c : Context) (inst : Instance) (outs : List ValType) (claimed : Claimed) (mid : Space) (at : Config) : Type 0 where
  pub typed : InstanceType c inst
  pub sound : IsSound mid
  pub claims : claim mid p ≡ Some claimed
  pub limit : inst.page_limit ≤ claimed.max / 16
  pub sees : view mid p ≡ (store_of at).bytes
  pub settled : IsSettled inst at
  pub thread : ThreadType c inst at outs

-- why no more are taken, after n
pub data Stops (p : ℕ) (inst : Instance) (call : Call) (q : ℕ) (outs : List ValType) (n : ℕ) (mid : Space) : Config → Type 0 where
  is_trapped : {st : Store} {x : Trap} → Stops p inst call q outs n mid (trapped st x)
  is_done : {st : Store} {f vs : List Value} → AreOfTypes vs outs → Stops p inst call q outs n mid (config st f (code vs nothing))
  is_out : {at : Config} → IsNext inst at → call.charges + n ≡ call.fuel → Stops p inst call q outs n mid at
  is_waiting : {at : Config} (need : Need) → IsNext inst at → call.charges + n < call.fuel → Asks inst at need → ¬ (Ready mid p need) → Stops p inst call q outs n mid at
  is_over : {at : Config} → IsNext inst at → n ≡ q → call.charges + n < call.fuel → ((need : Need) → Asks inst at need → Ready mid p need) → Stops p inst call q outs n mid at

pub record Ran (p : ℕ) (c : Context) (inst : Instance) (call : Call) (q : ℕ) (outs : List ValType) (claimed : Claimed) (n : ℕ) (mid : Space) (at : Config) : Type 0 where
  pub more : ℕ
  pub last : Space
  pub there : Config
  pub takes : Takes (λ x. view x p) (λ x. Ready x p) (StepsAlone p) inst mid at more last there
  pub is : IsAt p c inst outs claimed last there
  pub few : n + more ≤ q
  pub fuel : call.charges + (n + more) ≤ call.fuel
  pub stops : Stops p inst call q outs (n + more) last there

-- where a charge is next
data Decides (p : ℕ) (inst : Instance) (call : Call) (n : ℕ) (mid : Space) (at : Config) : Type 0 where
  used_up : call.charges + n ≡ call.fuel → Decides p inst call n mid at
  lacks : (need : Need) → call.charges + n < call.fuel → Asks inst at need → ¬ (Ready mid p need) → Decides p inst call n mid at
  can_take : call.charges + n < call.fuel → ((need : Need) → Asks inst at need → Ready mid p need) → Decides p inst call n mid at

decides : (p : ℕ) (inst : Instance) (call : Call) (n : ℕ) (mid : Space) (st : Store) (f : List Value) (tm : Term) → call.charges + n ≤ call.fuel → Decides p inst call n mid (config st f tm)
decides p inst call n mid st f tm fuel = elim (cases_lt (call.charges + n) call.fuel) [
  | inr none ↦ used_up (omega (arith, none, fuel))
  | inl some ↦ elim (asks_known inst st f tm) [
    | inr none ↦ can_take some (λ need a. absurd (none need a))
    | inl (need, asks) ↦ elim (ready_decided mid p need) [
      | inl now ↦ can_take some (λ other a. subst (Ready mid p) (one_need inst (config st f tm) need other asks a) now)
      | inr never ↦ lacks need some asks never
    ]
  ]
]

stays_at : (p : ℕ) (c : Context) (inst : Instance) (call : Call) (q : ℕ) (outs : List ValType) (claimed : Claimed) (n : ℕ) (mid : Space) (at : Config) → IsAt p c inst outs claimed mid at → n ≤ q → call.charges + n ≤ call.fuel → Stops p inst call q outs n mid at
    → Ran p c inst call q outs claimed n mid at
stays_at p c inst call q outs claimed n mid at is few fuel stops =
    record { more = 0; last = mid; there = at; takes = took_all; is = is; few = omega (arith, few); fuel = omega (arith, fuel); stops = (let same : n ≡ n + 0 = omega arith in subst (λ i. Stops p inst call q outs i mid at) same stops) }

pub runs : (left : ℕ) (p : ℕ) (c : Context) (inst : Instance) (call : Call) (q : ℕ) (outs : List ValType) (claimed : Claimed) (n : ℕ) (mid : Space) (at : Config) → IsAt p c inst outs claimed mid at → IsFinal at outs ⊎ GoesFurther inst at
    → n + left ≡ q → call.charges + n ≤ call.fuel → Ran p c inst call q outs claimed n mid at
runs left p c inst call q outs claimed n mid (trapped st x) is on few fuel = stays_at p c inst call q outs claimed n mid (trapped st x) is (omega (arith, few)) fuel is_trapped
runs left p c inst call q outs claimed n mid (config st f (code vs nothing)) is (inl final) few fuel = stays_at p c inst call q outs claimed n mid (config st f (code vs nothing)) is (omega (arith, few)) fuel (is_done final)
runs left p c inst call q outs claimed n mid (config st f tm) is (inl final) few fuel = absurd final
runs zero p c inst call q outs claimed n mid (config st f tm) is (inr further) few fuel =
    let next = on_further inst (config st f tm) is.settled further in
    let low : n ≤ q = omega (arith, few) in
    elim (decides p inst call n mid st f tm fuel) [
      | used_up all ↦ stays_at p c inst call q outs claimed n mid (config st f tm) is low fuel (is_out next all)
      | lacks need some asks never ↦ stays_at p c inst call q outs claimed n mid (config st f tm) is low fuel (is_waiting need next some asks never)
      | can_take some ready ↦ stays_at p c inst call q outs claimed n mid (config st f tm) is low fuel (is_over next (omega (arith, few)) some ready)
    ]
runs (suc left) p c inst call q outs claimed n mid (config st f tm) is (inr further) few fuel =
    let next = on_further inst (config st f tm) is.settled further in
    let low : n ≤ q = omega (arith, few) in
    elim (decides p inst call n mid st f tm fuel) [
      | used_up all ↦ stays_at p c inst call q outs claimed n mid (config st f tm) is low fuel (is_out next all)
      | lacks need some asks never ↦ stays_at p c inst call q outs claimed n mid (config st f tm) is low fuel (is_waiting need next some asks never)
      | can_take some ready ↦
          (let who = claimed_there mid p claimed is.claims in
          let most = claimed_most mid p who.0 claimed who.1 who.2 is.claims in
          let one = charged inst mid p who.0 (config st f tm) is.sound who.1 who.2 (subst (λ i. inst.page_limit ≤ i / 16) (sym most) is.limit) (sym is.sees) ready next in
          let then = never_stuck c inst 1 (config st f tm) one.then outs is.typed is.thread one.after.0 in
          let steps = one.steps in
          let rest = runs left p c inst call q outs claimed (n + 1) one.mid one.then (record {
            typed = is.typed;
            sound = steps.sound;
            claims = steps.claim ∙ is.claims;
            limit = is.limit;
            sees = one.sees;
            settled = one.after.1;
            thread = then.0;
          }) then.1 (omega (arith, few)) (omega (arith, some)) in
          let same : (n + 1) + rest.more ≡ n + suc rest.more = omega arith in
          record {
            more = suc rest.more;
            last = rest.last;
            there = rest.there;
            takes = took ready one.after one.sees one.steps rest.takes;
            is = rest.is;
            few = omega (arith, rest.few);
            fuel = omega (arith, rest.fuel);
            stops = subst (λ i. Stops p inst call q outs i rest.last rest.there) same rest.stops;
          })
    ]

-- ---- what the turn makes of the call

trap_is_last : (inst : Instance) (st : Store) (x : Trap) → IsNext inst (trapped st x) → ⊥
trap_is_last inst st x next = trap_has_no_next _ _ refl next

to_memory : (q p : ℕ) (c : Context) (inst : Instance) (call : Call) (outs : List ValType) (claimed : Claimed) (s : Space) (r : Rest) (d : Doing) (k n : ℕ) (mid : Space) (st : Store) (f : List Value) (tm : Term) → IsAt p c inst outs claimed mid (config st f tm) → (P : Config → Type 0) → P (config st f tm) → P (config (store_with (view mid p) (rest_of st)) [] tm)
to_memory q p c inst call outs claimed s r d k n mid st f tm is P x = subst (λ z. P (config z [] tm)) (on_memory mid p st is.sees) (subst (λ g. P (config st g tm)) (none_typed f is.thread.0.1) x)

pub comes : (q p : ℕ) (c : Context) (inst : Instance) (call : Call) (o : OwnFunc inst call) (claimed : Claimed) (s : Space) (r : Rest) (d : Doing) (k n : ℕ) (mid : Space) (at : Config) → ComputesAt q p inst call s r d k n mid at → IsAt p c inst (reverse o.type.results) claimed mid at
    → Stops p inst call q (reverse o.type.results) n mid at → Comes q p inst call s r d k n mid
comes q p c inst call o claimed s r d k n mid (trapped st x) made is is_trapped = record {
  to = to_end (stopped x);
  rest = rest_of st;
  doing = resting;
  proceeds = traps (subst (λ z. ComputesAt q p inst call s r d k n mid (trapped z x)) (on_memory mid p st is.sees) made);
  lies = λ need e. absurd (end_is_no_wait (stopped x) need e);
  full = λ e. absurd (cc e);
}
comes q p c inst call o claimed s r d k n mid (config st f (code vs nothing)) made is (is_done final) = record {
  to = to_end (returned (reverse vs));
  rest = rest_of st;
  doing = resting;
  proceeds = returns (subst (λ us. ComputesAt q p inst call s r d k n mid (config (store_with (view mid p) (rest_of st)) [] (code us nothing))) (sym (reverse-reverse vs))
      (to_memory q p c inst call (reverse o.type.results) claimed s r d k n mid st f (code vs nothing) is (λ z. ComputesAt q p inst call s r d k n mid z) made))
      (ends_typed inst call o vs final);
  lies = λ need e. absurd (end_is_no_wait (returned (reverse vs)) need e);
  full = λ e. absurd (cc e);
}
comes q p c inst call o claimed s r d k n mid (trapped st x) made is (is_out next all) = absurd (trap_is_last inst st x next)
comes q p c inst call o claimed s r d k n mid (trapped st x) made is (is_waiting need next some asks never) = absurd (trap_is_last inst st x next)
comes q p c inst call o claimed s r d k n mid (trapped st x) made is (is_over next whole some ready) = absurd (trap_is_last inst st x next)
comes q p c inst call o claimed s r d k n mid (config st f tm) made is (is_out next all) =
    let on = to_memory q p c inst call (reverse o.type.results) claimed s r d k n mid st f tm is in
    record {
      to = out_of_fuel;
      rest = rest_of st;
      doing = computing tm;
      proceeds = uses_fuel (on (λ z. ComputesAt q p inst call s r d k n mid z) made) (on (IsNext inst) next) all;
      lies = λ need e. absurd (fuel_is_no_wait need e);
      full = λ e. absurd (cc e);
    }
comes q p c inst call o claimed s r d k n mid (config st f tm) made is (is_waiting need next some asks never) =
    let on = to_memory q p c inst call (reverse o.type.results) claimed s r d k n mid st f tm is in
    let asked = on (λ z. Asks inst z need) asks in
    record {
      to = to_wait need;
      rest = rest_of st;
      doing = computing tm;
      proceeds = waits (on (λ z. ComputesAt q p inst call s r d k n mid z) made) (on (IsNext inst) next) some asked never;
      lies = λ other e. subst (λ (z : Need). (z.at + z.length ≤ length (view mid p)) × (z.length ≤ 4096)) (same_wait need other e) (asks_within inst (store_with (view mid p) (rest_of st)) [] tm need asked);
      full = λ e. absurd (cc e);
    }
comes q p c inst call o claimed s r d k n mid (config st f tm) made is (is_over next whole some ready) =
    let on = to_memory q p c inst call (reverse o.type.results) claimed s r d k n mid st f tm is in
    record {
      to = to_go_on;
      rest = rest_of st;
      doing = computing tm;
      proceeds = has_had_its_turn (on (λ z. ComputesAt q p inst call s r d k n mid z) made) (on (IsNext inst) next) whole some (on (λ z. (need : Need) → Asks inst z need → Ready mid p need) ready);
      lies = λ need e. absurd (on_is_no_wait need e);
      full = λ e. whole;
    }

pub record Goes (q p : ℕ) (inst : Instance) (call : Call) (claimed : Claimed) (s : Space) (r : Rest) (d : Doing) (k : ℕ) : Type 0 where
  pub charges : ℕ
  pub mid : Space
  pub sound : IsSound mid
  pub claims : claim mid p ≡ Some claimed
  pub come : Comes q p inst call s r d k charges mid

abbrev pub OpensAt : ℕ → Instance → Call → Space → Rest → Doing → ℕ → Space → Config → Type 0
OpensAt p inst call s r d k mid c = Opens (λ x. view x p) (λ x. Ready x p) (StepsAlone p) inst call s r d k mid c

-- a call that is opened goes as far as it can
pub goes : (q p : ℕ) (c : Context) (inst : Instance) (call : Call) (o : OwnFunc inst call) (claimed : Claimed) (s : Space) (r : Rest) (d : Doing) (k : ℕ) (mid : Space) (at : Config) → OpensAt p inst call s r d k mid at → call.charges ≤ call.fuel
    → IsAt p c inst (reverse o.type.results) claimed mid at → IsFinal at (reverse o.type.results) ⊎ GoesFurther inst at → Goes q p inst call claimed s r d k
goes q p c inst call o claimed s r d k mid at opens fuel is on =
    let ran = runs q p c inst call q (reverse o.type.results) claimed 0 mid at is on (omega arith) (omega (arith, fuel)) in
    let known = ran.is in
    let none : 0 + ran.more ≡ ran.more = omega arith in
    let made : ComputesAt q p inst call s r d k ran.more ran.last ran.there = record {
      between = mid;
      opened = at;
      opens = opens;
      takes = ran.takes;
      in_turn = omega (arith, ran.few);
      in_fuel = omega (arith, ran.fuel);
    } in
    record {
      charges = ran.more;
      mid = ran.last;
      sound = known.sound;
      claims = known.claims;
      come = comes q p c inst call o claimed s r d k ran.more ran.last ran.there made ran.is (subst (λ i. Stops p inst call q (reverse o.type.results) i ran.last ran.there) none ran.stops);
    }

-- what is known of an instance that computes, whose call is open first
pub record Computing (w : World) (id : InstId) (t : Tenant) (e : Entry) (term : Term) : Type 0 where
  pub context : Context
  pub typed : InstanceType context t.inst
  pub own : OwnFunc t.inst e.call
  pub thread : ThreadType context t.inst (config (store_in w.space t) [] term) (reverse own.type.results)
  pub limit : t.inst.page_limit ≤ t.params.max / 16

pub computes : (w : World) (id : InstId) (t : Tenant) (e : Entry) (es : List Entry) (term : Term) → IsGood w → IsReplayed w t → tenant w id.number ≡ Some t → t.open_calls ≡ e ∷ es → t.doing ≡ computing term → Computing w id t e term
unfolding Valid
computes w id t e es term good at live there doing =
    let fine = good.each id.number t live in
    let kept = fine.kept in
    let p : Parameters = given_of t.params in
    let accepted = at.accepted in
    let c : Context = accepted.valid.0 in
    let valid = accepted.valid.1 in
    let bytes = spelled_has_bytes at.loaded.bytes at.loaded.m accepted.is_module in
    let typed = begins_typed at.loaded.m c p t.inst at.first at.pieces valid bytes kept.given at.initial in
    let sound = replay_soundness at.loaded.m c p t.inst at.first at.pieces (journal_calls (journal t)) (standing_in w.space t) valid bytes at.initial at.replay in
    let a : Config = config (store_in w.space t) [] term in
    let stands : StandsAs c t.inst (journal_calls (journal t)) (running a) = subst (λ d. StandsAs c t.inst (journal_calls (journal t)) (standing_with (view w.space t.place) t.rest d)) doing sound.1 in
    let now = subst (λ xs. Now t.inst kept.s1 kept.ps1 (journal_calls xs) (standing_with (view w.space t.place) t.rest t.doing)) there kept.now in
    let mine : OwnFunc t.inst e.call = own_of a now.1 (ap (standing_with (view w.space t.place) t.rest) doing) in
    let order = subst (λ xs. InOrder fine.loaded.m t.inst t.dead t.ended xs) there kept.order in
    let first = stands.2 in
    let calls : journal_calls t.ended ++ e.call ∷ journal_calls es ≡ first.0 ++ stands.0 ∷ first.1 =
    sym (calls_join t.ended (e ∷ es)) ∙ ap (λ xs. journal_calls (t.ended ++ xs)) (sym there) ∙ first.2 in
    let same : stands.0 ≡ e.call = first_one (journal_calls t.ended) (journal_calls es) first.0 first.1 e.call stands.0 (closed_before order) first.4 now.0 first.3 calls in
    let type : stands.1 ≡ mine.type = own_type t.inst e.call mine stands.1 (subst (λ z. HasFuncType t.inst z stands.1) same stands.3) in
    record {
      context = c;
      typed = typed.0;
      own = mine;
      thread = subst (λ (z : FuncType). ThreadType c t.inst a (reverse z.results)) type stands.5;
      limit = begun_limit t.inst at.first at.pieces at.initial refl;
    }
