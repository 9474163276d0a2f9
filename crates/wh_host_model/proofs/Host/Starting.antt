-- Every event can happen to any host that is reached: turns too, with pieces that are left to write, and with charges.
use Rattle.std.proofs.Common.{◌≡◌, ◌≢◌, ℕ, zero, suc, ◌+◌, ◌/◌, ◌<◌, ◌≤◌, ◌⊎◌, inl, inr, Bool, List, [], ◌∷◌, ◌++◌, Option, Some, None, length, drop, reverse, refl, sym, ap, subst, ◌∙◌, arith}
use Rattle.std.proofs.lemmas.List.{append-nil, length-drop}
use Rattle.std.specs.List.{AllByRecursion}
use Rattle.wh_model.specs.declared.memory.Need.{Need}
use Rattle.wh_model.specs.Format.{Module}
use Rattle.wh_model.specs.Validity.{Context, IsValidIn, ValidStart}
use Rattle.wh_model.specs.Validity.Valid.{Valid}
use Rattle.wh_model.specs.Soundness.{InstanceType, PieceType, StoreType, ThreadType}
use Rattle.wh_model.specs.Laws.{InOnePage, StandsAs}
use Rattle.wh_model.specs.Execution.{Asks, Config, Term, config, Past, none_yet, one_more, Beginning, IsInitial, Parameters, Piece, begins, in_bounds, needs_more, out_of_bounds, IsNext, stays, Call, Invocation, Standing, Stands, has_pieces, is_invoked, is_under_way, returned, with_pieces, written, Writes, took_all, wrote, wrote_all}
use Rattle.wh_model.specs.Execution.Memory.{writing}
use Rattle.wh_model.specs.Execution.Replay as standing
use Rattle.wh_model.specs.Execution.Store.{Instance, Store}
use Rattle.wh_model.proofs.Asked.{one_need}
use Rattle.wh_model.proofs.BeginsTypedLemmas.{begins_typed}
use Rattle.wh_model.proofs.Chains.{settles}
use Rattle.wh_model.proofs.Fragments.{fragments_in_pages, length-written}
use Rattle.wh_model.proofs.MemoryTypingLemmas.{memory_written}
use Rattle.wh_model.proofs.PreservationLemmas.{stored_memory}
use Rattle.wh_model.proofs.SoundReplayLemmas.{invocation_runs, replay_soundness}
use Rattle.wh_model.proofs.SpelledBytesLemmas.{spelled_has_bytes}
use Rattle.wh_model.proofs.StuckLemmas.{never_stuck}
use Rattle.wh_space_model.specs.declared.plain.InstId.{InstId}
use Rattle.wh_space_model.specs.declared.plain.SwapError.{SwapError}
use Rattle.wh_host_model.specs.declared.plain.TurnEnd.{TurnEnd}
use Rattle.wh_host_model.specs.declared.plain.TurnEnd.TheVariants.{Again, Idle}
use Rattle.wh_space_model.specs.{Claimed, Space, claim, view, wants, IsSound}
use Rattle.wh_space_model.specs.Ready.{Ready}
use Rattle.wh_host_model.specs.Host.{StepsAlone, Doing, Suspension, Tenant, World, computing, empty_world, for_device, for_frame, for_fuel, has_left, journal, journal_calls, promised, resting, standing_in, standing_with, store_in, store_with, tenant, with_tenant, as_it_was, by_invocation, to_end, to_wait, waits, waits_to_write, writes_all, KeepsNoFault, Turn, is_idle, keeps_its_fault, Event, turn, of_none, of_one, InOrder, has_started, is_starting, IsReplayed, EventsHappen, ReadyTurnsHappen, FirstWaitsDuly, NextAsks, WaitsDuly, a_piece, a_step}
use Rattle.wh_host_model.specs.{Entry, given_of}
use Rattle.wh_host_model.specs.Host.Happens.{Happens}
use Rattle.wh_space_model.proofs.Deciding.{ready_decided}
use Rattle.wh_space_model.proofs.Filling.{some_store}
use Rattle.wh_space_model.proofs.Reading.{view_length}
use Rattle.wh_host_model.proofs.Host.Admitting.{start_faces}
use Rattle.wh_host_model.proofs.Host.Bridges.{stores_step}
use Rattle.wh_host_model.proofs.Host.Empty.{good_empty}
use Rattle.wh_host_model.proofs.Host.Entries.{Now, invoked_alike}
use Rattle.wh_host_model.proofs.Host.Holding.{instances_replay, kept_replay}
use Rattle.wh_host_model.proofs.Host.Opening.{writes_view}
use Rattle.wh_host_model.proofs.Host.Progress.{asked_faces, claimed_there, happens, live_or_not}
use Rattle.wh_host_model.proofs.Host.Reducing.{asks_within, leads_still}
use Rattle.wh_host_model.proofs.Host.Running.{IsFineBy, IsGood, good_run}
use Rattle.wh_host_model.proofs.Host.Keeping.{Kept}
use Rattle.wh_host_model.proofs.Host.Stepping.{ComputesAt, Goes, OpensAt, OwnFunc, begun_limit, computes, goes, own_type, some_turn}
use Rattle.wh_host_model.proofs.Host.Stopping.{is_settled}
use Rattle.wh_host_model.proofs.Host.Taken.{ready_steps_are_taken}

-- ---- pieces that are written as long as they are ready

abbrev Fits : ℕ → Piece → Type 0
Fits size q = (q.at + length q.items ≤ size) × (length q.items ≤ 4096)

pub record Written (p : ℕ) (s : Space) (ps : List Piece) : Type 0 where
  pub done : List Piece
  pub more : List Piece
  pub split : ps ≡ done ++ more
  pub mid : Space
  pub written_so : Writes (λ x. view x p) (λ x. Ready x p) (StepsAlone p) s done mid
  pub sound : IsSound mid
  pub claims : claim mid p ≡ claim s p
  pub fits : AllByRecursion (Fits (length (view mid p))) more
  pub stop : (more ≡ []) ⊎ ((q : Piece) × (rest : List Piece) × (more ≡ q ∷ rest) × ¬ (Ready mid p (writing q.at (length q.items))))

writes_on : (p : ℕ) (s : Space) (ps : List Piece) → IsSound s → AllByRecursion (Fits (length (view s p))) ps → Written p s ps
writes_on p s [] sound fits = record { done = []; more = []; split = refl; mid = s; written_so = wrote_all; sound = sound; claims = refl; fits = tt; stop = inl refl }
writes_on p s (q ∷ ps) sound fits = elim (ready_decided s p (writing q.at (length q.items))) [
  | inr never ↦ record { done = []; more = q ∷ ps; split = refl; mid = s; written_so = wrote_all; sound = sound; claims = refl; fits = fits; stop = inr (q, ps, refl, never) }
  | inl now ↦
      (let long = view_length s p sound in
      let fit = fits.0 in
      let low = fit.0 in
      let made = some_store s p q.at q.items sound now (omega (arith, low, long)) fit.1 in
      let step = stores_step s p q.at q.items made.0 sound made.1 in
      let steps = step.0 in
      let same : length (view made.0 p) ≡ length (view s p) = ap length step.1 ∙ length-written (view s p) q.items q.at low in
      let rest = writes_on p made.0 ps steps.sound (subst (λ n. AllByRecursion (Fits n) ps) (sym same) fits.1) in
      record {
        done = q ∷ rest.done;
        more = rest.more;
        split = ap (λ qs. q ∷ qs) rest.split;
        mid = rest.mid;
        written_so = wrote now step.1 steps rest.written_so;
        sound = rest.sound;
        claims = rest.claims ∙ steps.claim;
        fits = rest.fits;
        stop = rest.stop;
      })
]

-- ---- they are small, and lie in the memory

in_page_small : (q : Piece) → InOnePage q → length q.items ≤ 4096
in_page_small q in_page = let most = in_page.1 in omega (arith, most)

abbrev IsSmall : Piece → Type 0
IsSmall q = length q.items ≤ 4096

all_small : (ps : List Piece) → AllByRecursion InOnePage ps → AllByRecursion IsSmall ps
all_small [] h = tt
all_small (q ∷ ps) h = (in_page_small q h.0, all_small ps h.1)

drop_small : (n : ℕ) (ps : List Piece) → AllByRecursion IsSmall ps → AllByRecursion IsSmall (drop n ps)
drop_small zero ps h = h
drop_small (suc n) [] h = tt
drop_small (suc n) (q ∷ ps) h = drop_small n ps h.1

pieces_of : Beginning → List Piece
pieces_of (begins inst s ps) = ps
pieces_of b = []

begun_small : {m : Module} {p : Parameters} {b : Beginning} (inst : Instance) (s : Store) (ps : List Piece) → IsInitial m p b → b ≡ begins inst s ps → AllByRecursion IsSmall ps
unfolding pieces_of
begun_small inst s ps (needs_more lt) e = absurd (cc e)
begun_small inst s ps (out_of_bounds le pr never) e = absurd (cc e)
begun_small inst s ps (in_bounds {segments = segments} le pr e1 e2) e = subst (AllByRecursion IsSmall) (ap pieces_of e) (all_small _ (fragments_in_pages segments))

past_small : {inst : Instance} {s s2 : Store} {ps ps2 : List Piece} {calls : List Call} → Past inst s ps calls s2 ps2 → AllByRecursion IsSmall ps → AllByRecursion IsSmall ps2
past_small none_yet h = h
past_small (one_more end rest) h = past_small rest tt

-- what a call has left to write
pub record HasLeft (call : Call) (ps : List Piece) : Type 0 where
  pub uncharged : call.charges ≡ 0
  pub some : 1 ≤ length ps
  pub small : AllByRecursion IsSmall ps

left_of : {inst : Instance} {s st : Store} {ps1 ps : List Piece} {call : Call} {z : Standing} → Stands inst s ps1 call z → z ≡ standing.writing st ps → AllByRecursion IsSmall ps1 → HasLeft call ps
left_of {ps1 = ps1} {ps = ps} {call = call} (has_pieces lt none) e small = (let same : drop call.fragments ps1 ≡ ps = cc e in record { uncharged = none; some = (let cut = length-drop call.fragments ps1 in let long = ap length same in omega (arith, lt, cut, long)); small = subst (AllByRecursion IsSmall) same (drop_small call.fragments ps1 small) })
left_of (is_invoked p q i) e small = absurd (cc e)
left_of (is_under_way p l i b x) e small = absurd (cc e)

all_fit : (s : Store) (ps : List Piece) → AllByRecursion (PieceType s) ps → AllByRecursion IsSmall ps → AllByRecursion (Fits (length s.bytes)) ps
all_fit s [] h small = tt
all_fit s (q ∷ ps) h small = ((h.0.0, small.0), all_fit s ps h.1 small.1)

-- ---- the store behind them is typed

pieces_for : (s s2 : Store) (ps : List Piece) → length s2.bytes ≡ length s.bytes → AllByRecursion (PieceType s) ps → AllByRecursion (PieceType s2) ps
pieces_for s s2 [] e all = tt
pieces_for s s2 (q ∷ ps) e all = let low = all.0.0 in ((omega (arith, e, low), all.0.1), pieces_for s s2 ps e all.1)

pieces_typed : (c : Context) (inst : Instance) (s : Store) (ps : List Piece) → StoreType c inst s → AllByRecursion (PieceType s) ps → StoreType c inst (with_pieces s ps)
pieces_typed c inst s [] t all = t
pieces_typed c inst s (q ∷ ps) t all =
    let s2 : Store = record s { bytes = written s.bytes q.at q.items } in
    let same = length-written s.bytes q.items q.at all.0.0 in
    let typed = stored_memory c inst s _ t (memory_written c inst s.bytes q.at q.items t.memory all.0.0 all.0.1) in
    pieces_typed c inst s2 ps typed (pieces_for s s2 ps same all.1)

-- ---- the call behind them

some_invocation : (c : Context) (m : Module) (inst : Instance) (s : Store) {b : Bool} {ended es : List Entry} {e : Entry} (x : ℕ) → InstanceType c inst → ValidStart c m.start → InOrder m inst b ended (e ∷ es) → e.call.func ≡ Some x
    → (tm : Term) × Invocation inst s e.call (config s [] tm)
some_invocation c m inst s {e = e} x typed valid (is_starting st p rest) func =
    let starts : m.start ≡ Some x = sym st.func ∙ func in
    let f = start_faces c inst s x 0 typed (subst (ValidStart c) starts valid) in
    (f.1.0, invoked_alike e.call f.1.2 func st.args)
some_invocation c m inst s {e = e} x typed valid (has_started st h f r es os) func = asked_faces inst s e os.0.asked

-- ---- a start with pieces left

abbrev TurnsSome : ℕ → World → Tenant → Type 0
TurnsSome q w t = (answer : TurnEnd) × (s2 : Space) × (t2 : Tenant) × Turn q w.space t answer s2 t2

-- what is known of it
pub record IsWriting (w : World) (id : InstId) (t : Tenant) (e : Entry) (es : List Entry) (ps : List Piece) : Type 0 where
  pub context : Context
  pub m : Module
  pub valid : IsValidIn m context
  pub typed : InstanceType context t.inst
  pub stored : StoreType context t.inst (store_in w.space t)
  pub pieces : AllByRecursion (PieceType (store_in w.space t)) ps
  pub left : HasLeft e.call ps
  pub order : InOrder m t.inst t.dead t.ended (e ∷ es)
  pub limit : t.inst.page_limit ≤ t.params.max / 16

writes_yet : (w : World) (id : InstId) (t : Tenant) (e : Entry) (es : List Entry) (ps : List Piece) → IsGood w → tenant w id.number ≡ Some t → t.open_calls ≡ e ∷ es → t.doing ≡ has_left ps → IsWriting w id t e es ps
unfolding Valid
writes_yet w id t e es ps good live there doing =
    let fine = good.each id.number t live in
    let kept = fine.kept in
    let p : Parameters = given_of t.params in
    let m : Module = fine.loaded.m in
    let accepted = good.modules t.of fine.loaded fine.is_loaded in
    let c : Context = accepted.valid.0 in
    let valid = accepted.valid.1 in
    let bytes = spelled_has_bytes fine.loaded.bytes m accepted.is_module in
    let typed = begins_typed m c p t.inst kept.s0 kept.ps0 valid bytes kept.given kept.initial in
    let sound = replay_soundness m c p t.inst kept.s0 kept.ps0 (journal_calls (journal t)) (standing_in w.space t) valid bytes kept.initial (kept_replay kept) in
    let stands : StandsAs c t.inst (journal_calls (journal t)) (standing.writing (store_in w.space t) ps) = subst (λ d. StandsAs c t.inst (journal_calls (journal t)) (standing_with (view w.space t.place) t.rest d)) doing sound.1 in
    let now = subst (λ xs. Now t.inst kept.s1 kept.ps1 (journal_calls xs) (standing_with (view w.space t.place) t.rest t.doing)) there kept.now in
    record {
      context = c;
      m = m;
      valid = valid;
      typed = typed.0;
      stored = stands.0;
      pieces = stands.1;
      left = left_of now.1 (ap (standing_with (view w.space t.place) t.rest) doing) (past_small kept.past (begun_small t.inst kept.s0 kept.ps0 kept.initial refl));
      order = subst (λ xs. InOrder m t.inst t.dead t.ended xs) there kept.order;
      limit = begun_limit t.inst kept.s0 kept.ps0 kept.initial refl;
    }

-- all of them are written, and the call is opened
opens_behind : (q : ℕ) (w : World) (id : InstId) (t : Tenant) (e : Entry) (es : List Entry) (ps : List Piece) (mid : Space) (claimed : Claimed) (x : ℕ) → IsWriting w id t e es ps → t.doing ≡ has_left ps
    → Writes (λ z. view z t.place) (λ z. Ready z t.place) (StepsAlone t.place) w.space ps mid → IsSound mid → claim mid t.place ≡ Some claimed → claimed.max ≡ t.params.max → e.call.func ≡ Some x
    → Goes q t.place t.inst e.call claimed w.space t.rest t.doing (length ps)
opens_behind q w id t e es ps mid claimed x known doing all sound claims most func =
    let st : Store = store_with (view mid t.place) t.rest in
    let stored : StoreType known.context t.inst st = subst (StoreType known.context t.inst) (sym (writes_view t.rest all)) (pieces_typed known.context t.inst (store_in w.space t) ps known.stored known.pieces) in
    let first = some_invocation known.context known.m t.inst st x known.typed known.valid.start known.order func in
    let inv = first.1 in
    let mine : OwnFunc t.inst e.call = record { index = inv.index; type = inv.type; body = inv.body; calls = inv.calls; is_own = inv.is_own } in
    let runs = invocation_runs known.context t.inst st e.call (config st [] first.0) known.typed stored inv in
    let type = own_type t.inst e.call mine runs.type runs.is_func in
    let thread : ThreadType known.context t.inst (config st [] first.0) (reverse mine.type.results) = subst (λ z. ThreadType known.context t.inst (config st [] first.0) (reverse z.results)) type runs.typed in
    let rest = settles t.inst (config st [] first.0) in
    let then = never_stuck known.context t.inst 0 (config st [] first.0) rest.0 (reverse mine.type.results) known.typed thread rest.1.0 in
    let opens : OpensAt t.place t.inst e.call w.space t.rest t.doing (length ps) mid rest.0 = subst (λ d. OpensAt t.place t.inst e.call w.space t.rest d (length ps) mid rest.0) (sym doing) (by_invocation all inv rest.1) in
    goes q t.place known.context t.inst e.call mine claimed w.space t.rest t.doing (length ps) mid rest.0 opens (omega (arith, known.left.uncharged)) (record {
      typed = known.typed;
      sound = sound;
      claims = claims;
      limit = subst (λ n. t.inst.page_limit ≤ n / 16) (sym most) known.limit;
      sees = sym (leads_still rest.1.0 refl);
      settled = rest.1.1;
      thread = then.0;
    }) then.1

-- the memory and the call at which the turn stops
writing_goes : (q : ℕ) (w : World) (id : InstId) (t : Tenant) (e : Entry) (es : List Entry) (ps : List Piece) (mid : Space) (claimed : Claimed) → IsWriting w id t e es ps → t.doing ≡ has_left ps
    → Writes (λ z. view z t.place) (λ z. Ready z t.place) (StepsAlone t.place) w.space ps mid → IsSound mid → claim mid t.place ≡ Some claimed → claimed.max ≡ t.params.max
    → Goes q t.place t.inst e.call claimed w.space t.rest t.doing (length ps)
writing_goes q w id t e es ps mid claimed known doing all sound claims most = go e.call.func refl where
  go : (o : Option ℕ) → e.call.func ≡ o → Goes q t.place t.inst e.call claimed w.space t.rest t.doing (length ps)
  go None func = record {
    charges = 0;
    mid = mid;
    sound = sound;
    claims = claims;
    come = record { to = to_end (returned []); rest = t.rest; doing = resting; proceeds = writes_all doing func all; lies = λ need e. absurd (cc e); full = λ e. absurd (cc e) };
  }
  go (Some x) func = opens_behind q w id t e es ps mid claimed x known doing all sound claims most func

some_steps : (n : ℕ) {o : Option Suspension} → 1 ≤ n → KeepsNoFault n o
some_steps n some none = absurd (omega (arith, some, none))

pieces_turn : (q : ℕ) (w : World) (id : InstId) (t : Tenant) (e : Entry) (es : List Entry) (ps : List Piece) → IsGood w → tenant w id.number ≡ Some t → t.open_calls ≡ e ∷ es → t.doing ≡ has_left ps → TurnsSome q w t
pieces_turn q w id t e es ps good live there doing =
    let s : Space = w.space in
    let fine = good.each id.number t live in
    let known = writes_yet w id t e es ps good live there doing in
    let left = known.left in
    let some = left.some in
    let mine : Claimed = promised id.number t.params in
    let on = writes_on t.place s ps good.sound (all_fit (store_in s t) ps known.pieces left.small) in
    elim on.stop [
      | inl none ↦
          (let whole : on.done ≡ ps = sym (append-nil on.done) ∙ ap (λ qs. on.done ++ qs) (sym none) ∙ sym on.split in
          let all = subst (λ qs. Writes (λ z. view z t.place) (λ z. Ready z t.place) (StepsAlone t.place) s qs on.mid) whole on.written_so in
          let far = writing_goes q w id t e es ps on.mid mine known doing all on.sound (on.claims ∙ fine.claimed) refl in
          let still = claimed_there far.mid t.place mine far.claims in
          some_turn s far.mid t known.m e es still.0 q (length ps) far.charges far.sound still.1 still.2 there known.order far.come (λ go_on. some_steps (length ps + far.charges) (omega (arith, some))))
      | inr (p, rest, is, never) ↦
          (let parted : ps ≡ on.done ++ p ∷ rest = on.split ∙ ap (λ qs. on.done ++ qs) is in
          let who = claimed_there on.mid t.place mine (on.claims ∙ fine.claimed) in
          let fit = subst (AllByRecursion (Fits (length (view on.mid t.place)))) is on.fits in
          some_turn s on.mid t known.m e es who.0 q (length on.done) 0 on.sound who.1 who.2 there known.order (record {
            to = to_wait (writing p.at (length p.items));
            rest = t.rest;
            doing = has_left (p ∷ rest);
            proceeds = waits_to_write (doing ∙ ap has_left parted) on.written_so never;
            lies = λ need e. (let same : writing p.at (length p.items) ≡ need = cc e in subst (λ (z : Need). (z.at + z.length ≤ length (view on.mid t.place)) × (z.length ≤ 4096)) same fit.0);
            full = λ e. absurd (cc e);
          }) (λ go_on. absurd (cc go_on)))
    ]

-- ---- a call that computes

no_fault_kept : (q k n : ℕ) (o : Option Suspension) → n ≡ q → (q ≡ 0 → (fault : SwapError) → o ≢ Some (for_device fault)) → KeepsNoFault (k + n) o
no_fault_kept q k n o whole none still = none (omega (arith, whole, still))

computing_turn : (q : ℕ) (w : World) (id : InstId) (t : Tenant) (e : Entry) (es : List Entry) (term : Term) → IsGood w → IsReplayed w t → tenant w id.number ≡ Some t → t.open_calls ≡ e ∷ es → t.doing ≡ computing term → e.call.charges ≤ e.call.fuel
    → (q ≡ 0 → (fault : SwapError) → t.waiting_for ≢ Some (for_device fault)) → TurnsSome q w t
computing_turn q w id t e es term good at live there doing fuel no_fault =
    let s : Space = w.space in
    let fine = good.each id.number t live in
    let mine : Claimed = promised id.number t.params in
    let known = computes w id t e es term good at live there doing in
    let first : Config = config (store_in s t) [] term in
    let rest = settles t.inst first in
    let outs = reverse known.own.type.results in
    let then = never_stuck known.context t.inst 0 first rest.0 outs known.typed known.thread rest.1.0 in
    let opens : OpensAt t.place t.inst e.call s t.rest t.doing 0 s rest.0 = subst (λ d. OpensAt t.place t.inst e.call s t.rest d 0 s rest.0) (sym doing) (as_it_was rest.1) in
    let far = goes q t.place known.context t.inst e.call known.own mine s t.rest t.doing 0 s rest.0 opens fuel (record {
      typed = known.typed;
      sound = good.sound;
      claims = fine.claimed;
      limit = known.limit;
      sees = sym (leads_still rest.1.0 refl);
      settled = rest.1.1;
      thread = then.0;
    }) then.1 in
    let still = claimed_there far.mid t.place mine far.claims in
    let order = subst (λ xs. InOrder fine.loaded.m t.inst t.dead t.ended xs) there fine.kept.order in
    let come = far.come in
    some_turn s far.mid t fine.loaded.m e es still.0 q 0 far.charges far.sound still.1 still.2 there order come (λ go_on. no_fault_kept q 0 far.charges t.waiting_for (come.full go_on) no_fault)

-- a turn without charges of a call with a device fault
fault_turn : (w : World) (id : InstId) (t : Tenant) (e : Entry) (es : List Entry) (term : Term) (fault : SwapError) (need : Need) → IsGood w → tenant w id.number ≡ Some t → t.open_calls ≡ e ∷ es → t.doing ≡ computing term → t.waiting_for ≡ Some (for_device fault)
    → e.call.charges < e.call.fuel → IsNext t.inst (config (store_in w.space t) [] term) → Asks t.inst (config (store_in w.space t) [] term) need → TurnsSome 0 w t
fault_turn w id t e es term fault need good live there doing stands fuel next asks =
    let s : Space = w.space in
    let first : Config = config (store_in s t) [] term in
    let fine = good.each id.number t live in
    let who = claimed_there s t.place (promised id.number t.params) fine.claimed in
    let order = subst (λ xs. InOrder fine.loaded.m t.inst t.dead t.ended xs) there fine.kept.order in
    elim (ready_decided s t.place need) [
      | inl now ↦ (Again, s, t, keeps_its_fault there stands doing refl next fuel (λ other a. subst (Ready s t.place) (one_need t.inst first need other asks a) now))
      | inr never ↦
          (let here : ComputesAt 0 t.place t.inst e.call s t.rest t.doing 0 0 s first = subst (λ d. ComputesAt 0 t.place t.inst e.call s t.rest d 0 0 s first) (sym doing) (record {
            between = s;
            opened = first;
            opens = as_it_was (stays, is_settled next);
            takes = took_all;
            in_turn = omega arith;
            in_fuel = omega (arith, fuel);
          }) in
          some_turn s s t fine.loaded.m e es who.0 0 0 0 good.sound who.1 who.2 there order (record {
            to = to_wait need;
            rest = t.rest;
            doing = computing term;
            proceeds = waits here next (omega (arith, fuel)) asks never;
            lies = λ other a. (let same : need ≡ other = cc a in subst (λ (z : Need). (z.at + z.length ≤ length (view s t.place)) × (z.length ≤ 4096)) same (asks_within t.inst (store_in s t) [] term need asks));
            full = λ a. absurd (cc a);
          }) (λ go_on. absurd (cc go_on)))
    ]

-- ---- any call

standing_calls : {inst : Instance} {s : Store} {ps : List Piece} {call : Call} {z : Standing} (st : Store) → Stands inst s ps call z → z ≢ standing.idle st
standing_calls st (has_pieces lt none) e = cc e
standing_calls st (is_invoked p q i) e = cc e
standing_calls st (is_under_way p l i b x) e = cc e

within_fuel : {inst : Instance} {s : Store} {ps : List Piece} {call : Call} {z : Standing} → Stands inst s ps call z → call.charges ≤ call.fuel
within_fuel (has_pieces lt none) = omega (arith, none)
within_fuel (is_invoked p q i) = omega (arith, q)
within_fuel (is_under_way p l i b x) = l

asked_turn : (w : World) (id : InstId) (t : Tenant) (e : Entry) (es : List Entry) (fault : SwapError) (need : Need) (d : Doing) → IsGood w → tenant w id.number ≡ Some t → t.open_calls ≡ e ∷ es → t.doing ≡ d → t.waiting_for ≡ Some (for_device fault)
    → NextAsks t.inst (store_in w.space t) e.call d need → TurnsSome 0 w t
asked_turn w id t e es fault need d good live there doing stands (a_piece {p = p} {ps = ps}) = pieces_turn 0 w id t e es (p ∷ ps) good live there doing
asked_turn w id t e es fault need d good live there doing stands (a_step {term = term} fuel next asks) = fault_turn w id t e es term fault need good live there doing stands fuel next asks

not_fault : (o p : Option Suspension) → o ≡ p → ((fault : SwapError) → p ≢ Some (for_device fault)) → (fault : SwapError) → o ≢ Some (for_device fault)
not_fault o p same none fault e = none fault (sym same ∙ e)

any_turn : (q : ℕ) (w : World) (id : InstId) (t : Tenant) (e : Entry) (es : List Entry) → IsGood w → IsReplayed w t → tenant w id.number ≡ Some t → t.open_calls ≡ e ∷ es → TurnsSome q w t
any_turn q w id t e es good at live there = go t.doing refl where
  fine : IsFineBy Kept w.modules w.space id.number t
  fine = good.each id.number t live

  stands : Stands t.inst fine.kept.s1 fine.kept.ps1 e.call (standing_with (view w.space t.place) t.rest t.doing)
  stands = (let now = subst (λ xs. Now t.inst fine.kept.s1 fine.kept.ps1 (journal_calls xs) (standing_with (view w.space t.place) t.rest t.doing)) there fine.kept.now in now.1)

  duly : (o : Option Suspension) → t.waiting_for ≡ o → WaitsDuly t.inst (store_in w.space t) t.doing e.call (wants w.space t.place) o
  duly o is = subst (λ z. WaitsDuly t.inst (store_in w.space t) t.doing e.call (wants w.space t.place) z) is (subst (λ xs. FirstWaitsDuly t.inst (store_in w.space t) t.doing xs (wants w.space t.place) t.waiting_for) there fine.kept.duly)

  by_standing : (term : Term) → t.doing ≡ computing term → (n : ℕ) → q ≡ n → (o : Option Suspension) → t.waiting_for ≡ o → TurnsSome q w t
  by_standing term doing (suc n) is o so = computing_turn q w id t e es term good at live there doing (within_fuel stands) (λ none fault. absurd (omega (arith, is, none)))
  by_standing term doing zero is None so = computing_turn q w id t e es term good at live there doing (within_fuel stands) (λ none. not_fault t.waiting_for None so (λ fault a. cc a))
  by_standing term doing zero is (Some for_fuel) so = computing_turn q w id t e es term good at live there doing (within_fuel stands) (λ none. not_fault t.waiting_for (Some for_fuel) so (λ fault a. cc a))
  by_standing term doing zero is (Some for_frame) so = computing_turn q w id t e es term good at live there doing (within_fuel stands) (λ none. not_fault t.waiting_for (Some for_frame) so (λ fault a. cc a))
  by_standing term doing zero is (Some (for_device fault)) so = (let asks = duly (Some (for_device fault)) so in subst (λ n. TurnsSome n w t) (sym is) (asked_turn w id t e es fault asks.0 t.doing good live there refl so asks.2))

  go : (d : Doing) → t.doing ≡ d → TurnsSome q w t
  go resting doing = absurd (standing_calls (store_in w.space t) stands (ap (standing_with (view w.space t.place) t.rest) doing))
  go (has_left ps) doing = pieces_turn q w id t e es ps good live there doing
  go (computing term) doing = by_standing term doing q refl t.waiting_for refl

calls_of : (es : List Entry) → (es ≡ []) ⊎ ((e : Entry) × (rest : List Entry) × (es ≡ e ∷ rest))
calls_of [] = inl refl
calls_of (e ∷ es) = inr (e, es, refl)

turn_happens : (w : World) (id : InstId) (q : ℕ) → IsGood w → ((i : ℕ) (t : Tenant) → tenant w i ≡ Some t → IsReplayed w t) → (w2 : World) × Happens w (turn id q) w2
turn_happens w id q good replayed = elim (live_or_not w id) [
  | inr none ↦ (w, (Idle, of_none none))
  | inl (t, live) ↦ elim (calls_of t.open_calls) [
    | inl empty ↦ (with_tenant w id.number (Some t) w.space, (Idle, of_one live (is_idle empty)))
    | inr (e, es, there) ↦ (let made = any_turn q w id t e es good (replayed id.number t live.0) live.0 there in (with_tenant w id.number (Some made.2) made.1, (made.0, of_one live made.3)))
  ]
]

every_event : (w : World) (e : Event) → IsGood w → ((i : ℕ) (t : Tenant) → tenant w i ≡ Some t → IsReplayed w t) → (w2 : World) × Happens w e w2
every_event w (turn id q) good replayed = turn_happens w id q good replayed
every_event w e good replayed = happens w e good tt

pub events_happen : EventsHappen
events_happen frames slots tax events w r e = every_event w e (good_run events (empty_world frames slots tax) w (good_empty frames slots tax) r) (instances_replay frames slots tax events w r)

pub ready_turns_happen : ReadyTurnsHappen
ready_turns_happen frames slots tax events w r id q t e es live there ready =
    let good = good_run events (empty_world frames slots tax) w (good_empty frames slots tax) r in
    let at = instances_replay frames slots tax events w r id.number t live.0 in
    let made = any_turn q w id t e es good at live.0 there in
    (made.0, made.1, made.2, of_one live made.3, ready_steps_are_taken q w.space made.1 t made.2 made.0 e es there ready made.3)
