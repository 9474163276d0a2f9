-- Which events can happen to any host that is reached.
use Rattle.std.proofs.Common.{Bool, List, None, Option, Some, [], ap, arith, false, get_or, inl, inr, length, map, mod-lt, negsuc, pos, refl, reverse, slice_get, slice_set, subst, suc, sym, true, zero, ℕ, ℤ, ◌++◌, ◌<◌, ◌^◌, ◌∙◌, ◌∷◌, ◌≡◌, ◌≢◌, ◌≤◌, ◌⊎◌}
use Rattle.std.proofs.lemmas.Bool.{cases_lt}
use Rattle.std.specs.List.{AllByRecursion}
use Rattle.wh_model.specs.declared.ValType.{ValType}
use Rattle.wh_model.specs.declared.ValType.TheVariants.{I32, I64}
use Rattle.wh_model.specs.Format.{Body, FuncType, Module, nothing}
use Rattle.wh_model.specs.Execution.{unsigned, InRange, Value, type_of, Term, called, config, stays, cancelled, Invocation, took_all}
use Rattle.wh_model.specs.Execution.Store.{Instance, Store}
use Rattle.wh_space_model.specs.declared.plain.InstId.{InstId}
use Rattle.wh_space_model.specs.declared.plain.SwapError.{SwapError}
use Rattle.wh_host_model.specs.declared.plain.TurnEnd.TheVariants.{Fuel}
use Rattle.wh_space_model.specs.{Claimed, Occupant, Space, claim, claim_of, occupant_at, view, wants, IsSound, ended}
use Rattle.wh_host_model.specs.Host.{WaitsAlone, Doing, Rest, Suspension, Tenant, World, computing, empty_world, for_device, for_frame, for_fuel, journal, loaded_of, resting, store_in, store_with, tenant, with_tenant, as_it_was, uses_fuel, Closes, Faces, dies, ended_by, faces_next, has_no_fuel, is_dead, is_idle, Meets, Retries, WaitsAfter, has_more, may_try, more_fuel, open_count, decoder_out_of_memory, Event, turn, load, admit, invoke, refuel, cancel, retry, release, fork, unload, offer, evict_begin, evict_commit, fetch_begin, fetch_commit, provide, epoch, AwaitsFrame, AwaitsFrameFor, IsLive, IsTurn, MovesPages, NoInstance, OnlyMoves, admit_out_of_memory, admit_refused, call_no_call, call_no_instance, call_ok, fork_no_instance, fork_out_of_memory, fork_refused, has_failed, has_no_instance, invoke_no_instance, invoke_out_of_memory, invoke_refused, is_cancelled, is_in_use, is_invoked, is_loaded, is_refueled, is_released, is_retried, is_unloaded, isnt_admitted, isnt_forked, isnt_invoked, load_out_of_memory, moved, no_call_to_cancel, no_call_to_refuel, no_fault_to_retry, no_memory_to_admit, no_memory_to_fork, no_memory_to_invoke, no_memory_to_load, no_module_to_unload, no_one_to_cancel, no_one_to_fork, no_one_to_refuel, no_one_to_release, no_one_to_retry, of_none, of_one, unload_in_use, unload_no_module, unload_ok, InOrder, IsAsked, IsOpenCall, is_starting, has_started, CallsAreTaken, FuelTurnsHappen, IdleTurnsHappen, LoadsAreTaken, UnloadsAreTaken, FirstWaitsDuly}
use Rattle.wh_host_model.specs.{AreArguments, Entry, ExportsOwn, IsArgument, Params, Quota, arguments, instance_dead, journal_full, most_calls, most_open, new_entry, queue_full}
use Rattle.wh_host_model.specs.Host.OwnerCalls as requests
use Rattle.wh_host_model.specs.Host.Happens.{Happens}
use Rattle.wh_host_model.proofs.Host.Deciding.{arguments_or_not, exported_or_not, first_to_admit, first_to_fork, first_to_invoke, loaded_or_not, used_or_not}
use Rattle.wh_host_model.proofs.Host.Empty.{good_empty}
use Rattle.wh_host_model.proofs.Host.Leaving.{alone_self, ended_alone, exits_alone}
use Rattle.wh_host_model.proofs.Host.Running.{IsGood, good_run}
use Rattle.wh_host_model.proofs.Host.Stopping.{is_settled}
use Rattle.wh_space_model.proofs.Exiting.{some_exit}
use Rattle.wh_space_model.proofs.Putting.{here_or}

-- ---- who lives

one_tenant : (a b : Tenant) → Some a ≡ Some b → a ≡ b
one_tenant a b e = cc e

pub live_or_not : (w : World) (id : InstId) → ((t : Tenant) × IsLive w id t) ⊎ NoInstance w id
live_or_not w id = go (tenant w id.number) refl where
  go : (o : Option Tenant) → tenant w id.number ≡ o → ((t : Tenant) × IsLive w id t) ⊎ NoInstance w id
  go None e = inr (λ t live. (let bad : None ≡ Some t = sym e ∙ live.0 in cc bad))
  go (Some t) e = elim (here_or id.place t.place) [
    | inl same ↦ inl (t, (e, same))
    | inr other ↦ inr (λ u live. other (ap (λ (z : Tenant). z.place) (one_tenant t u (sym e ∙ live.0)) ∙ live.1))
  ]

calls_of : (es : List Entry) → (es ≡ []) ⊎ ((e : Entry) × (rest : List Entry) × (es ≡ e ∷ rest))
calls_of [] = inl refl
calls_of (e ∷ es) = inr (e, es, refl)

-- ---- more fuel

stands_after : (call : _) (o : Option Suspension) → (new : Option Suspension) × WaitsAfter call o new
stands_after call None = (None, refl)
stands_after call (Some for_fuel) = elim (cases_lt call.charges call.fuel) [ inl more ↦ (None, inl (more, refl)) | inr none ↦ (Some for_fuel, inr (none, refl)) ]
stands_after call (Some for_frame) = (Some for_frame, refl)
stands_after call (Some (for_device x)) = (Some (for_device x), refl)

refuels : (w : World) (id : InstId) (n : ℕ) → (w2 : World) × Happens w (refuel id n) w2
refuels w id n = elim (live_or_not w id) [
  | inr none ↦ (w, (call_no_instance, no_one_to_refuel none))
  | inl (t, live) ↦ elim (calls_of t.open_calls) [
    | inl empty ↦ (w, (call_no_call, no_call_to_refuel live empty))
    | inr (e, es, there) ↦
        (let o = stands_after (more_fuel e n).call t.waiting_for in
        (with_tenant w id.number (Some (record t { open_calls = more_fuel e n ∷ es; waiting_for = o.0 })) w.space, (call_ok, is_refueled live (has_more there o.1))))
  ]
]

-- ---- another try

retries : (w : World) (id : InstId) → (w2 : World) × Happens w (retry id) w2
retries w id = elim (live_or_not w id) [
  | inr none ↦ (w, (call_no_instance, no_one_to_retry none))
  | inl (t, live) ↦ elim (calls_of t.open_calls) [
    | inl empty ↦ (w, (call_no_call, no_fault_to_retry live (never_empty t empty)))
    | inr (e, es, there) ↦ go t live e es there t.waiting_for refl
  ]
] where
  never_empty : (t : Tenant) → t.open_calls ≡ [] → (t2 : Tenant) → Retries t t2 → ⊥
  never_empty t empty t2 (may_try {e = e} {es = es} there stands) = (let bad : [] ≡ e ∷ es = sym empty ∙ there in cc bad)

  never_so : (t : Tenant) → ((fault : SwapError) → t.waiting_for ≢ Some (for_device fault)) → (t2 : Tenant) → Retries t t2 → ⊥
  never_so t never t2 (may_try {fault = fault} there stands) = never fault stands

  go : (t : Tenant) → IsLive w id t → (e : Entry) (es : List Entry) → t.open_calls ≡ e ∷ es → (o : Option Suspension) → t.waiting_for ≡ o → (w2 : World) × Happens w (retry id) w2
  go t live e es there None is = (w, (call_no_call, no_fault_to_retry live (never_so t (λ fault f. (let bad : None ≡ Some (for_device fault) = sym is ∙ f in cc bad)))))
  go t live e es there (Some for_fuel) is = (w, (call_no_call, no_fault_to_retry live (never_so t (λ fault f. (let bad : Some for_fuel ≡ Some (for_device fault) = sym is ∙ f in cc bad)))))
  go t live e es there (Some for_frame) is = (w, (call_no_call, no_fault_to_retry live (never_so t (λ fault f. (let bad : Some for_frame ≡ Some (for_device fault) = sym is ∙ f in cc bad)))))
  go t live e es there (Some (for_device fault)) is = (with_tenant w id.number (Some (record t { waiting_for = Some for_frame })) w.space, (call_ok, is_retried live (may_try there is)))

-- ---- a cancelled call

small : (N : ℕ) (n : ℤ) → 1 ≤ 2 ^ N → unsigned N n < 2 ^ N
unfolding unsigned
small N (pos n) some = mod-lt n (omega arith)
small N (negsuc n) some = omega arith

argument_fits : (t : ValType) (n : ℤ) (v : Value) → IsArgument t n v → (type_of v ≡ t) × InRange v
argument_fits I32 n v a = (ap type_of a.2, subst InRange (sym a.2) (small 32 n (omega arith)))
argument_fits I64 n v a = (ap type_of a.2, subst InRange (sym a.2) (small 64 n (omega arith)))

arguments_fit : (ts : List ValType) (ns : List ℤ) (vs : List Value) → AreArguments ts ns vs → (map type_of vs ≡ ts) × AllByRecursion InRange vs
arguments_fit [] [] vs a = (ap (map type_of) a, subst (AllByRecursion InRange) (sym a) tt)
arguments_fit [] (n ∷ ns) vs a = absurd a
arguments_fit (t ∷ ts) [] vs a = absurd a
arguments_fit (t ∷ ts) (n ∷ ns) vs (v, rest, one, is, more) =
    let first = argument_fits t n v one in
    let others = arguments_fit ts ns rest more in
    (ap (map type_of) is ∙ (let a = first.0 in let b = others.0 in cc), subst (AllByRecursion InRange) (sym is) (first.1, others.1))

pub asked_faces : (inst : Instance) (s : Store) (e : Entry) → IsAsked inst e → (t : Term) × Invocation inst s e.call (config s [] t)
asked_faces inst s e a =
    let fits = arguments_fit a.type.params e.given e.call.args a.arguments in
    (called a.type a.body (reverse e.call.args) [] nothing, record { index = a.index; type = a.type; body = a.body; calls = a.func; is_own = a.is_own; types = fits.0; fit = fits.1; begins = refl })

some_faced : (inst : Instance) (s : Store) (es : List Entry) → AllByRecursion (IsOpenCall inst) es → (d : Doing) × Faces inst s es d
some_faced inst s [] all = (resting, refl)
some_faced inst s (e ∷ es) all = let f = asked_faces inst s e all.0.asked in (computing f.0, (f.0, refl, f.1))

behind_open : {m : Module} {inst : Instance} {b : Bool} {ended es : List Entry} {e : Entry} → InOrder m inst b ended (e ∷ es) → AllByRecursion (IsOpenCall inst) es
behind_open (is_starting st p rest) = rest
behind_open (has_started st h f r es os) = os.1

pub some_closing : (s : Space) (t : Tenant) (m : Module) (e e2 : Entry) (es : List Entry) (r : Rest) → InOrder m t.inst t.dead t.ended (e ∷ es) → (t2 : Tenant) × Closes s t e2 es r t2
some_closing s t m e e2 es r order = go (dies t.ended e2.call.outcome) refl where
  go : (b : Bool) → dies t.ended e2.call.outcome ≡ b → (t2 : Tenant) × Closes s t e2 es r t2
  go true died = (_, is_dead died)
  go false alive = (let f = some_faced t.inst (store_with (view s t.place) r) es (behind_open order) in (_, faces_next alive f.1))

pub claimed_there : (s : Space) (i : ℕ) (c : Claimed) → claim s i ≡ Some c → (t : Occupant) × occupant_at s i t × (t.live ≡ true)
claimed_there s i c e = rows s.occupants i e where
  live : (t : Occupant) (b : Bool) → t.live ≡ b → claim_of (Some t) ≡ Some c → t.live ≡ true
  live t true is e = is
  live t false is e = absurd (let z : claim_of (Some t) ≡ None = rw is refl in let bad : None ≡ Some c = sym z ∙ e in cc bad)

  rows : (xs : List (Option Occupant)) (i : ℕ) → claim_of (get_or xs i None) ≡ Some c → (t : Occupant) × (slice_get xs i ≡ Some (Some t)) × (t.live ≡ true)
  rows [] i e = absurd (let bad : None ≡ Some c = e in cc bad)
  rows (None ∷ xs) zero e = absurd (let bad : None ≡ Some c = e in cc bad)
  rows (Some t ∷ xs) zero e = (t, refl, live t t.live refl e)
  rows (x ∷ xs) (suc i) e = rows xs i e

cancels : (w : World) (id : InstId) → IsGood w → (w2 : World) × Happens w (cancel id) w2
cancels w id good = elim (live_or_not w id) [
  | inr none ↦ (w, (call_no_instance, no_one_to_cancel none))
  | inl (t, live) ↦ elim (calls_of t.open_calls) [
    | inl empty ↦ (w, (call_no_call, no_call_to_cancel live empty))
    | inr (e, es, there) ↦
        (let fine = good.each id.number t live.0 in
        let who = claimed_there w.space t.place _ fine.claimed in
        let ends = ended_alone w.space t.place who.0 good.sound who.1 who.2 in
        let order = subst (λ xs. InOrder fine.loaded.m t.inst t.dead t.ended xs) there fine.kept.order in
        let closed = some_closing (ended w.space t.place) t fine.loaded.m e (ended_by e cancelled) es t.rest order in
        (with_tenant w id.number (Some closed.0) (ended w.space t.place), (call_ok, is_cancelled live (requests.ends there ends.0 ends.1 closed.1))))
  ]
]

-- ---- an admission and a new call

admits : (w : World) (k : ℕ) (p : Params) → IsGood w → (w2 : World) × Happens w (admit k p) w2
admits w k p good = elim (first_to_admit w k p good.modules) [
  | inl (fault, first) ↦ (w, (admit_refused fault, isnt_admitted first))
  | inr none ↦ (w, (admit_out_of_memory, no_memory_to_admit none))
]

invokes : (w : World) (id : InstId) (name : List ℕ) (given : List ℤ) (fuel : ℕ) → IsGood w → (w2 : World) × Happens w (invoke id name given fuel) w2
invokes w id name given fuel good = elim (live_or_not w id) [
  | inr none ↦ (w, (invoke_no_instance, has_no_instance none))
  | inl (t, live) ↦
      (let fine = good.each id.number t live.0 in
      elim (first_to_invoke fine.loaded.m t name given) [
        | inl (fault, first) ↦ (w, (invoke_refused fault, isnt_invoked live fine.is_loaded first))
        | inr none ↦ (w, (invoke_out_of_memory, no_memory_to_invoke live fine.is_loaded none))
      ])
]

-- ---- a copy

forks : (w : World) (id : InstId) (q : Quota) → IsGood w → (w2 : World) × Happens w (fork id q) w2
forks w id q good = elim (live_or_not w id) [
  | inr none ↦ (w, (fork_no_instance, no_one_to_fork none))
  | inl (t, live) ↦ elim (first_to_fork w t q good.modules) [
    | inl (fault, first) ↦ (w, (fork_refused fault, isnt_forked live first))
    | inr none ↦ (w, (fork_out_of_memory, no_memory_to_fork live none))
  ]
]

unloads : (w : World) (k : ℕ) → (w2 : World) × Happens w (unload k) w2
unloads w k = elim (loaded_or_not (loaded_of w k)) [
  | inl none ↦ (w, (unload_no_module, no_module_to_unload none))
  | inr (l, is) ↦ elim (used_or_not w k) [
    | inl (i, t, there, of) ↦ (w, (unload_in_use, is_in_use i is there of))
    | inr unused ↦ (record w { modules = slice_set w.modules k None }, (unload_ok, is_unloaded (record { loaded = l; is_loaded = is; unused = unused; after = refl })))
  ]
]

-- ---- what is accepted

pub loads_are_taken : LoadsAreTaken
loads_are_taken frames slots tax events w r bytes m can few = (
  length w.modules,
  record w { modules = w.modules ++ Some (record { bytes = bytes; m = m }) ∷ [] },
  is_loaded (record { m = m; accepted = can; few = few; next = refl; after = refl }),
)

pub unloads_are_taken : UnloadsAreTaken
unloads_are_taken frames slots tax events w r k l is unused = (record w { modules = slice_set w.modules k None }, is_unloaded (record { loaded = l; is_loaded = is; unused = unused; after = refl }))

lives : (b : Bool) → ¬ (b ≡ true) → b ≡ false
lives true gone = absurd (gone refl)
lives false gone = refl

fits_export : (m : Module) (t : Tenant) (name : List ℕ) (given : List ℤ) → ¬ (Meets m t name given arguments)
    → (x : ℕ) × (type : FuncType) × (body : Body) × (vs : List Value) × ExportsOwn m t.inst name x type body × AreArguments type.params given vs
fits_export m t name given fits = elim (exported_or_not m t.inst name (λ type. (vs : List Value) × AreArguments type.params given vs) (λ type. arguments_or_not type.params given)) [
  | inl (x, type, body, is, (vs, fit)) ↦ (x, type, body, vs, is, fit)
  | inr lacks ↦ absurd (fits (λ x type body vs is fit. lacks (x, type, body, is, (vs, fit))))
]

-- what an instance does with a call behind its open ones
faced_behind : (t : Tenant) (s : Store) (e : Entry) → IsAsked t.inst e → (d : Doing) × (t.open_calls ≡ [] → Faces t.inst s (e ∷ []) d) × (t.open_calls ≢ [] → d ≡ t.doing)
faced_behind t s e asked = elim (calls_of t.open_calls) [
  | inl empty ↦ (let f = asked_faces t.inst s e asked in (computing f.0, (λ none. (f.0, refl, f.1)), (λ some. absurd (some empty))))
  | inr (first, es, there) ↦ (t.doing, (λ none. absurd (let bad : [] ≡ first ∷ es = sym none ∙ there in cc bad)), (λ some. refl))
]

below_most : (n most : ℕ) → ¬ (most ≤ n) → n < most
below_most n most h = omega (arith, h)

pub calls_are_taken : CallsAreTaken
calls_are_taken frames slots tax events w r id name given fuel t l live is none count =
    let found = fits_export l.m t name given (none arguments) in
    let e = new_entry found.0 found.3 given fuel in
    let asked : IsAsked t.inst e = record { index = found.0; type = found.1; body = found.2; func = refl; is_own = found.4.is_own; arguments = found.5; fuel = count } in
    let d = faced_behind t (store_in w.space t) e asked in (
      length (journal t),
      with_tenant w id.number (Some (record t { doing = d.0; open_calls = t.open_calls ++ e ∷ [] })) w.space,
      is_invoked live is (record {
        func = found.0;
        type = found.1;
        body = found.2;
        vs = found.3;
        doing = d.0;
        exports = found.4;
        fits = found.5;
        can_count = count;
        few_open = below_most (open_count t) most_open (none queue_full);
        alive = lives t.dead (none instance_dead);
        few_calls = below_most (length (journal t)) most_calls (none journal_full);
        place = refl;
        first = d.1;
        later = d.2;
        after = refl;
      }),
    )

-- ---- a release

releases : (w : World) (id : InstId) → IsGood w → (w2 : World) × Happens w (release id) w2
releases w id good = elim (live_or_not w id) [
  | inr none ↦ (w, (None, no_one_to_release none))
  | inl (t, live) ↦
      (let fine = good.each id.number t live.0 in
      let who = claimed_there w.space t.place _ fine.claimed in
      let left = some_exit w.space t.place who.0 good.sound who.1 who.2 in (
        with_tenant w id.number None left.0,
        (
          Some t.rest.output,
          is_released live (record {
            space = left.0;
            departs = exits_alone w.space t.place left.0 good.sound left.1;
            written = refl;
            after = refl;
          }),
        ),
      ))
]

-- ---- pages that may move

only_moves_self : (w : World) → IsGood w → OnlyMoves w w
only_moves_self w good = (w.space, alone_self w.space good.sound, refl)

awaits_or_not : (t : Tenant) → AwaitsFrame t ⊎ ¬ AwaitsFrame t
awaits_or_not t = go t.waiting_for refl where
  go : (o : Option Suspension) → t.waiting_for ≡ o → (t.waiting_for ≡ Some for_frame) ⊎ ¬ (t.waiting_for ≡ Some for_frame)
  go None e = inr (λ f. (let bad : None ≡ Some for_frame = sym e ∙ f in cc bad))
  go (Some for_fuel) e = inr (λ f. (let bad : Some for_fuel ≡ Some for_frame = sym e ∙ f in cc bad))
  go (Some for_frame) e = inl e
  go (Some (for_device x)) e = inr (λ f. (let bad : Some (for_device x) ≡ Some for_frame = sym e ∙ f in cc bad))

awaits_for : (call : ℕ) (t : Tenant) → AwaitsFrameFor call t ⊎ ¬ AwaitsFrameFor call t
awaits_for call t = elim (awaits_or_not t) [
  | inr none ↦ inr (λ a. none a.0)
  | inl one ↦ elim (here_or call (length t.ended)) [ inl same ↦ inl (one, same) | inr other ↦ inr (λ a. other a.1) ]
]

moves_happen : (w : World) (id : InstId) (awaits : Tenant → Type 0) → ((t : Tenant) → awaits t ⊎ ¬ awaits t) → (fault : Option SwapError) → IsGood w → (w2 : World) × MovesPages w id awaits fault w2
moves_happen w id awaits decide None good = (w, moved (alone_self w.space good.sound) (inl refl))
moves_happen w id awaits decide (Some x) good = elim (live_or_not w id) [
  | inr none ↦ (w, moved (alone_self w.space good.sound) (inr (λ t live. absurd (none t live))))
  | inl (t, live) ↦ elim (decide t) [
    | inl holds ↦ (_, has_failed (alone_self w.space good.sound) refl live holds)
    | inr never ↦ (w, moved (alone_self w.space good.sound) (inr (λ u live2 a. never (subst awaits (sym (one_tenant t u (sym live.0 ∙ live2.0))) a))))
  ]
]

-- ---- all of these

-- it is no turn
abbrev pub IsNoTurn : Event → Type 0
IsNoTurn (turn id q) = ⊥
IsNoTurn other = Unit {0}

pub happens : (w : World) (e : Event) → IsGood w → IsNoTurn e → (w2 : World) × Happens w e w2
happens w (turn id q) good none = absurd none
happens w (load bytes) good some = (w, (load_out_of_memory decoder_out_of_memory, no_memory_to_load tt))
happens w (admit k p) good some = admits w k p good
happens w (invoke id name given fuel) good some = invokes w id name given fuel good
happens w (refuel id n) good some = refuels w id n
happens w (cancel id) good some = cancels w id good
happens w (retry id) good some = retries w id
happens w (release id) good some = releases w id good
happens w (fork id q) good some = forks w id q good
happens w (unload k) good some = unloads w k
happens w (offer page hash) good some = (w, only_moves_self w good)
happens w (evict_begin id) good some = (w, only_moves_self w good)
happens w (evict_commit id call fault) good some = moves_happen w id (AwaitsFrameFor call) (awaits_for call) fault good
happens w (fetch_begin id) good some = (w, only_moves_self w good)
happens w (fetch_commit id call fault) good some = moves_happen w id (AwaitsFrameFor call) (awaits_for call) fault good
happens w (provide id fault) good some = moves_happen w id AwaitsFrame awaits_or_not fault good
happens w epoch good some = (w, only_moves_self w good)

pub idle_turns_happen : IdleTurnsHappen
idle_turns_happen frames slots tax events w r id q empty = elim (live_or_not w id) [
  | inr none ↦ (w, of_none none)
  | inl (t, live) ↦ (with_tenant w id.number (Some t) w.space, of_one live (is_idle (empty t live)))
]

-- ---- a turn of one that waits for fuel

stands_alone : (s : Space) (i : ℕ) → IsSound s → wants s i ≡ None → WaitsAlone i None s s
stands_alone s i sound none = record {
  steps = record { others = λ j other. record { view = refl; wants = refl; claim = refl; promise = inl refl }; places = λ j other. refl; claim = refl; sound = sound };
  view = refl;
  wants = none;
  ready = λ need. (λ h. h, λ h. h);
}

fuel_turn : (w : World) (id : InstId) (q : ℕ) (t : Tenant) → IsGood w → IsLive w id t → t.waiting_for ≡ Some for_fuel → (w2 : World) × IsTurn w id q Fuel w2
fuel_turn w id q t good live stands =
    let fine = good.each id.number t live.0 in
    let duly = subst (λ o. FirstWaitsDuly t.inst (store_in w.space t) t.doing t.open_calls (wants w.space t.place) o) stands fine.kept.duly in
    elim (calls_of t.open_calls) [
      | inl empty ↦ absurd (let d = subst (λ xs. FirstWaitsDuly t.inst (store_in w.space t) t.doing xs (wants w.space t.place) (Some for_fuel)) empty duly in let bad = d.1 in cc bad)
      | inr (e, es, there) ↦
          (let d = subst (λ xs. FirstWaitsDuly t.inst (store_in w.space t) t.doing xs (wants w.space t.place) (Some for_fuel)) there duly in
          let term : Term = d.2.0 in
          let used = d.1 in (
            _,
            of_one live (has_no_fuel there
                (subst (λ x. Rattle.wh_host_model.specs.Host.CallAnswers.ProceedsIn q w.space (record t { doing = x }) e Rattle.wh_host_model.specs.Host.Turns.out_of_fuel 0 0 w.space t.rest (computing term)) (sym d.2.1)
                (uses_fuel (record {
                  between = w.space;
                  opened = config (store_in w.space t) [] term;
                  opens = as_it_was (stays, is_settled d.2.2);
                  takes = took_all;
                  in_turn = omega arith;
                  in_fuel = omega (arith, used);
                }) d.2.2 (omega (arith, used))))
                (stands_alone w.space t.place good.sound d.0) (λ some. absurd (omega arith))),
          ))
    ]

pub fuel_turns_happen : FuelTurnsHappen
fuel_turns_happen frames slots tax events w r id q t live stands = fuel_turn w id q t (good_run events (empty_world frames slots tax) w (good_empty frames slots tax) r) live stands
