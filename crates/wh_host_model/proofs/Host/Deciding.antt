-- Which faults an admission and a new call meet is decided.
use Rattle.std.proofs.Common.{◌≡◌, ℕ, ℤ, pos, negsuc, ◌≤ℤ◌, ◌+◌, ◌-◌, ◌/◌, ◌≢◌, ◌<◌, ◌≤◌, ◌⊎◌, inl, inr, Bool, true, false, Option, Some, None, List, [], ◌∷◌, length, get_or, slice_get, zero, suc, refl, sym, ap, subst, ◌∙◌, arith, rules}
use Rattle.std.proofs.lemmas.Bool.{cases_lt}
use Rattle.std.proofs.lemmas.Int.{by_lt_z, ints}
use Rattle.wh_model.specs.declared.ExternKind.{ExternKind}
use Rattle.wh_model.specs.declared.ExternKind.TheVariants.{Func, Table, Memory, Global}
use Rattle.wh_model.specs.declared.ValType.{ValType}
use Rattle.wh_model.specs.declared.ValType.TheVariants.{I32, I64}
use Rattle.wh_model.specs.Execution.{Beginning, IsInitial, Parameters, begins, last_size, memory_min, segment_bounds, unsigned, FuncInst, Value, host, own, value}
use Rattle.wh_model.specs.Execution.Store.{Instance}
use Rattle.wh_model.specs.Format.{Body, Export, FuncType, Module}
use Rattle.wh_model.proofs.Instance.{one_beginning}
use Rattle.wh_space_model.specs.{Space, minima, spreads, IsAway, stays, page_at, untouched}
use Rattle.wh_host_model.specs.Host.{Loaded, Tenant, World, journal, loaded_of, tenant, IsFirst, Meets, open_count, IsFirstMet, IsUnused, MeetsFault, live_count, IsFirstForkFault, MeetsForkFault}
use Rattle.wh_host_model.specs.{Params, given_of, AdmitFault, admit_rank, frames, instances, memory, min_max, most_instances, no_module, segments, shares, swap, AreArguments, ExportsOwn, InvokeFault, IsArgument, arguments, instance_dead, journal_full, most_calls, most_open, no_export, queue_full, rank, Entry, ForkFault, Quota, call_open, fork_rank, not_admitted, other_limit, page_away, start_failed, with_quota}
use Rattle.wh_model.specs.Linking.{IsAccepted}
use Rattle.wh_space_model.specs.declared.states.Page.{Page}
use Rattle.wh_model.proofs.Beginnings.{some_beginning}
use Rattle.wh_space_model.proofs.Putting.{here_or}

abbrev pub Decided : Type 0 → Type 0
Decided A = A ⊎ ¬ A

-- ---- from decisions to decisions

either : {A B : Type 0} → Decided A → Decided B → Decided (A ⊎ B)
either (inl a) b = inl (inl a)
either (inr lacks) (inl b) = inl (inr b)
either (inr lacks) (inr never) = inr (λ one. elim one [ inl a ↦ lacks a | inr b ↦ never b ])

never : {A : Type 0} → Decided A → Decided (¬ A)
never (inl a) = inr (λ lacks. lacks a)
never (inr lacks) = inl lacks

below : (m n : ℕ) → Decided (m < n)
below m n = elim (cases_lt m n) [ inl less ↦ inl less | inr most ↦ inr (λ less. omega arith) ]

at_most : (m n : ℕ) → Decided (m ≤ n)
at_most m n = elim (cases_lt n m) [ inl less ↦ inr (λ most. omega arith) | inr most ↦ inl most ]

same_words : (xs ys : List ℕ) → Decided (xs ≡ ys)
same_words [] [] = inl refl
same_words [] (y ∷ ys) = inr (λ e. cc e)
same_words (x ∷ xs) [] = inr (λ e. cc e)
same_words (x ∷ xs) (y ∷ ys) = elim (here_or y x) [
  | inr other ↦ inr (λ e. other (cc e))
  | inl same ↦ elim (same_words xs ys) [ inl rest ↦ inl (cc (same, rest)) | inr differ ↦ inr (λ e. differ (cc e)) ]
]

-- one of a list is so, or none is
found : {X : Type 0} (P : X → Type 0) → ((x : X) → Decided (P x)) → (xs : List X) → ((k : ℕ) × (x : X) × (slice_get xs k ≡ Some x) × P x) ⊎ ((k : ℕ) (x : X) → slice_get xs k ≡ Some x → ¬ (P x))
found P decide [] = inr (λ k x is. absurd (cc is))
found P decide (y ∷ xs) = elim (decide y) [
  | inl so ↦ inl (0, y, refl, so)
  | inr lacks ↦ elim (found P decide xs) [
    | inl (k, x, is, so) ↦ inl (suc k, x, is, so)
    | inr none ↦ inr (λ k x is so. no_more y xs k x lacks none is so)
  ]
] where
  no_more : {X : Type 0} {P : X → Type 0} (y : X) (xs : List X) (k : ℕ) (x : X) → ¬ (P y) → ((k : ℕ) (x : X) → slice_get xs k ≡ Some x → ¬ (P x)) → slice_get (y ∷ xs) k ≡ Some x → P x → ⊥
  no_more {P = P} y xs zero x lacks none is so = (let e : y ≡ x = cc is in lacks (subst P (sym e) so))
  no_more y xs (suc k) x lacks none is so = none k x is so

-- the first that is met, by ranks that are apart: each below n is the rank of one at most
first_of : {F : Type 0} (order : F → ℕ) (of : ℕ → F) → ((f : F) → of (order f) ≡ f) → (M : F → Type 0) → ((f : F) → Decided (M f)) → (n : ℕ)
    → ((f : F) × M f × ((other : F) → order other < order f → ¬ (M other))) ⊎ ((f : F) → order f < n → ¬ (M f))
first_of order of is M decide zero = inr (λ f less. absurd (omega arith))
first_of order of is M decide (suc n) = elim (first_of order of is M decide n) [
  | inl first ↦ inl first
  | inr none ↦ elim (here_or n (order (of n))) [
    | inr other ↦ inr (λ f less. elim (cases_lt (order f) n) [
      | inl before ↦ none f before
      | inr most ↦ absurd (let e : order f ≡ n = omega arith in other (ap order (ap of (sym e) ∙ is f) ∙ e))
    ])
    | inl same ↦ elim (decide (of n)) [
      | inl met ↦ inl (of n, met, λ f less. none f (omega arith))
      | inr lacks ↦ inr (λ f less. elim (cases_lt (order f) n) [
        | inl before ↦ none f before
        | inr most ↦ (λ met. (let e : order f ≡ n = omega arith in lacks (subst M (sym (ap of (sym e) ∙ is f)) met)))
      ])
    ]
  ]
]

-- ---- an admission

pub loaded_or_not : (o : Option Loaded) → (o ≡ None) ⊎ ((l : Loaded) × (o ≡ Some l))
loaded_or_not None = inl refl
loaded_or_not (Some l) = inr (l, refl)

begins_small : (m : Module) (p : Parameters) (b : Beginning) → IsInitial m p b → Decided (IsInitial m p memory_min)
begins_small m p memory_min is = inl is
begins_small m p segment_bounds is = inr (λ other. (let bad = one_beginning m p segment_bounds memory_min is other in cc bad))
begins_small m p (begins inst s ps) is = inr (λ other. (let bad = one_beginning m p (begins inst s ps) memory_min is other in cc bad))

begins_outside : (m : Module) (p : Parameters) (b : Beginning) → IsInitial m p b → Decided (IsInitial m p segment_bounds)
begins_outside m p segment_bounds is = inl is
begins_outside m p memory_min is = inr (λ other. (let bad = one_beginning m p memory_min segment_bounds is other in cc bad))
begins_outside m p (begins inst s ps) is = inr (λ other. (let bad = one_beginning m p (begins inst s ps) segment_bounds is other in cc bad))

of_loaded : (w : World) (k : ℕ) (P : Loaded → Type 0) → ((l : Loaded) → loaded_of w k ≡ Some l → Decided (P l)) → Decided ((l : Loaded) × (loaded_of w k ≡ Some l) × P l)
of_loaded w k P decide = elim (loaded_or_not (loaded_of w k)) [
  | inl none ↦ inr (λ one. (let bad : None ≡ Some one.0 = sym none ∙ one.1 in cc bad))
  | inr (l, is) ↦ elim (decide l is) [
    | inl so ↦ inl (l, is, so)
    | inr lacks ↦ inr (λ one. (let both : Some one.0 ≡ Some l = sym one.1 ∙ is in let e : one.0 ≡ l = cc both in lacks (subst P e one.2)))
  ]
]

admit_fault : (w : World) (k : ℕ) (p : Params) → ((i : ℕ) (l : Loaded) → loaded_of w i ≡ Some l → IsAccepted l.bytes l.m) → (f : AdmitFault) → Decided (MeetsFault w k p f)
admit_fault w k p loads no_module = search rules
admit_fault w k p loads shares = either (below p.shares 1) (below 1000000 p.shares)
admit_fault w k p loads min_max = either (below p.min 2) (either (below p.max p.min) (below 65536 p.max))
admit_fault w k p loads frames = below (length w.space.pool.frames) (minima w.space + p.min)
admit_fault w k p loads swap = below (length w.space.slots.uses) (spreads w.space + ((p.max - p.min) + 1))
admit_fault w k p loads instances = at_most most_instances (live_count w.tenants)
admit_fault w k p loads memory = of_loaded w k (λ l. IsInitial l.m (given_of p) memory_min) (λ l is.
    (let can = loads k l is in let b = some_beginning l.m (given_of p) can.valid can.links in begins_small l.m (given_of p) b.0 b.1))
admit_fault w k p loads segments = of_loaded w k (λ l. IsInitial l.m (given_of p) segment_bounds) (λ l is.
    (let can = loads k l is in let b = some_beginning l.m (given_of p) can.valid can.links in begins_outside l.m (given_of p) b.0 b.1))

admit_at : ℕ → AdmitFault
admit_at n = get_or (no_module ∷ no_module ∷ shares ∷ min_max ∷ frames ∷ swap ∷ instances ∷ memory ∷ []) n segments

admit_is : (f : AdmitFault) → admit_at (admit_rank f) ≡ f
unfolding admit_at
admit_is no_module = refl
admit_is shares = refl
admit_is min_max = refl
admit_is frames = refl
admit_is swap = refl
admit_is instances = refl
admit_is memory = refl
admit_is segments = refl

admit_below : (f : AdmitFault) → admit_rank f < 9
admit_below no_module = omega arith
admit_below shares = omega arith
admit_below min_max = omega arith
admit_below frames = omega arith
admit_below swap = omega arith
admit_below instances = omega arith
admit_below memory = omega arith
admit_below segments = omega arith

pub first_to_admit : (w : World) (k : ℕ) (p : Params) → ((i : ℕ) (l : Loaded) → loaded_of w i ≡ Some l → IsAccepted l.bytes l.m)
    → ((f : AdmitFault) × IsFirstMet w k p f) ⊎ ((f : AdmitFault) → ¬ (MeetsFault w k p f))
first_to_admit w k p loads = elim (first_of admit_rank admit_at admit_is (MeetsFault w k p) (admit_fault w k p loads) 9) [
  | inl (f, met, first) ↦ inl (f, (met, first))
  | inr none ↦ inr (λ f. none f (admit_below f))
]

-- ---- a copy

idle_or_not : (es : List Entry) → Decided (es ≢ [])
idle_or_not [] = inr (λ some. some refl)
idle_or_not (e ∷ es) = inl (λ bad. cc bad)

failed_or_not : (b : Bool) → Decided (b ≡ true)
failed_or_not true = inl refl
failed_or_not false = inr (λ bad. cc bad)

apart_or_not : (m n : ℕ) → Decided (m ≢ n)
apart_or_not m n = elim (here_or n m) [ inl same ↦ inr (λ apart. apart same) | inr other ↦ inl (λ e. other e) ]

away_or_not : (s : Space) (i : ℕ) → Decided (IsAway s i)
away_or_not s i = elim (found (λ page. untouched page + stays page ≡ 0) (λ page. zero_or_not (untouched page + stays page)) (get_or s.tables i [])) [
  | inl (p, page, is, so) ↦ inl (p, page, is, so)
  | inr none ↦ inr (λ (one : (p : ℕ) × (page : Page) × (page_at s.tables i p ≡ Some page) × (untouched page + stays page ≡ 0)). none one.0 one.1 one.2 one.3)
] where
  zero_or_not : (n : ℕ) → Decided (n ≡ 0)
  zero_or_not zero = inl refl
  zero_or_not (suc n) = inr (λ e. omega arith)

fork_fault : (w : World) (t : Tenant) (q : Quota) → ((i : ℕ) (l : Loaded) → loaded_of w i ≡ Some l → IsAccepted l.bytes l.m) → (f : ForkFault) → Decided (MeetsForkFault w t q f)
fork_fault w t q loads call_open = idle_or_not t.open_calls
fork_fault w t q loads start_failed = failed_or_not t.dead
fork_fault w t q loads (not_admitted f) = admit_fault w t.of (with_quota t.params q) loads f
fork_fault w t q loads other_limit = either (of_loaded w t.of (λ l. last_size l.m.memories (q.max / 16) ≢ t.inst.page_limit) (λ l is. apart_or_not (last_size l.m.memories (q.max / 16)) t.inst.page_limit)) (below q.max (length (get_or w.space.tables t.place [])))
fork_fault w t q loads page_away = away_or_not w.space t.place

fork_at : ℕ → ForkFault
fork_at n = get_or (call_open ∷ start_failed ∷ not_admitted no_module ∷ not_admitted shares ∷ not_admitted min_max ∷ not_admitted frames ∷ not_admitted swap ∷ not_admitted instances ∷ not_admitted memory ∷ not_admitted segments ∷ other_limit ∷ []) n page_away

fork_is : (f : ForkFault) → fork_at (fork_rank f) ≡ f
unfolding fork_at
fork_is call_open = refl
fork_is start_failed = refl
fork_is (not_admitted no_module) = refl
fork_is (not_admitted shares) = refl
fork_is (not_admitted min_max) = refl
fork_is (not_admitted frames) = refl
fork_is (not_admitted swap) = refl
fork_is (not_admitted instances) = refl
fork_is (not_admitted memory) = refl
fork_is (not_admitted segments) = refl
fork_is other_limit = refl
fork_is page_away = refl

fork_below : (f : ForkFault) → fork_rank f < 12
fork_below call_open = omega arith
fork_below start_failed = omega arith
fork_below (not_admitted f) = let low = admit_below f in omega (arith, low)
fork_below other_limit = omega arith
fork_below page_away = omega arith

pub first_to_fork : (w : World) (t : Tenant) (q : Quota) → ((i : ℕ) (l : Loaded) → loaded_of w i ≡ Some l → IsAccepted l.bytes l.m)
    → ((f : ForkFault) × IsFirstForkFault w t q f) ⊎ ((f : ForkFault) → ¬ (MeetsForkFault w t q f))
first_to_fork w t q loads = elim (first_of fork_rank fork_at fork_is (MeetsForkFault w t q) (fork_fault w t q loads) 12) [
  | inl (f, met, first) ↦ inl (f, (met, first))
  | inr none ↦ inr (λ f. none f (fork_below f))
]

-- ---- a module that is in use

pub used_or_not : (w : World) (k : ℕ) → ((i : ℕ) × (t : Tenant) × (tenant w i ≡ Some t) × (t.of ≡ k)) ⊎ IsUnused w k
used_or_not w k = elim (go w.tenants) [ inl (i, t, is, of) ↦ inl (i, t, is, of) | inr none ↦ inr (λ i t is. none i t is) ] where
  go : (ts : List (Option Tenant)) → ((i : ℕ) × (t : Tenant) × (get_or ts i None ≡ Some t) × (t.of ≡ k)) ⊎ ((i : ℕ) (t : Tenant) → get_or ts i None ≡ Some t → t.of ≢ k)
  go [] = inr (λ i t is. absurd (cc is))
  go (o ∷ ts) = elim (go ts) [
    | inl (i, t, is, of) ↦ inl (suc i, t, is, of)
    | inr none ↦ first o ts none
  ] where
    later : (o : Option Tenant) (ts : List (Option Tenant)) → ((i : ℕ) (t : Tenant) → get_or ts i None ≡ Some t → t.of ≢ k) → ((t : Tenant) → o ≡ Some t → t.of ≢ k) → (i : ℕ) (t : Tenant) → get_or (o ∷ ts) i None ≡ Some t → t.of ≢ k
    later o ts none here zero t is = here t is
    later o ts none here (suc i) t is = none i t is

    first : (o : Option Tenant) (ts : List (Option Tenant)) → ((i : ℕ) (t : Tenant) → get_or ts i None ≡ Some t → t.of ≢ k) → ((i : ℕ) × (t : Tenant) × (get_or (o ∷ ts) i None ≡ Some t) × (t.of ≡ k)) ⊎ ((i : ℕ) (t : Tenant) → get_or (o ∷ ts) i None ≡ Some t → t.of ≢ k)
    first None ts none = inr (later None ts none (λ t e. absurd (cc e)))
    first (Some t) ts none = elim (here_or k t.of) [
      | inl same ↦ inl (0, t, refl, same)
      | inr other ↦ inr (later (Some t) ts none (λ u e. (let one : t ≡ u = cc e in λ of. other (ap (λ (z : Tenant). z.of) one ∙ of))))
    ]

-- ---- a new call

at_most_z : (a b : ℤ) → Decided (a ≤ℤ b)
at_most_z a b = by_lt_z b a (λ less. inr (λ most. omega (arith, ints))) (λ most. inl most)

argument_or_not : (t : ValType) (n : ℤ) → Decided ((v : Value) × IsArgument t n v)
argument_or_not I32 n = elim (at_most_z (negsuc 2147483647) n) [
  | inr lacks ↦ inr (λ a. lacks a.1.0)
  | inl low ↦ elim (at_most_z n (pos 4294967295)) [ inl high ↦ inl (value I32 (unsigned 32 n), (low, high, refl)) | inr lacks ↦ inr (λ a. lacks a.1.1) ]
]
argument_or_not I64 n = elim (at_most_z (negsuc 9223372036854775807) n) [
  | inr lacks ↦ inr (λ a. lacks a.1.0)
  | inl low ↦ elim (at_most_z n (pos 18446744073709551615)) [ inl high ↦ inl (value I64 (unsigned 64 n), (low, high, refl)) | inr lacks ↦ inr (λ a. lacks a.1.1) ]
]

pub arguments_or_not : (ts : List ValType) (ns : List ℤ) → Decided ((vs : List Value) × AreArguments ts ns vs)
arguments_or_not [] [] = inl ([], refl)
arguments_or_not [] (n ∷ ns) = inr (λ a. a.1)
arguments_or_not (t ∷ ts) [] = inr (λ a. a.1)
arguments_or_not (t ∷ ts) (n ∷ ns) = elim (argument_or_not t n) [
  | inr lacks ↦ inr (λ (a : (vs : List Value) × AreArguments (t ∷ ts) (n ∷ ns) vs). lacks (a.1.0, a.1.2))
  | inl one ↦ elim (arguments_or_not ts ns) [
    | inr lacks ↦ inr (λ (a : (vs : List Value) × AreArguments (t ∷ ts) (n ∷ ns) vs). lacks (a.1.1, a.1.4))
    | inl rest ↦ inl (one.0 ∷ rest.0, (one.0, rest.0, one.1, refl, rest.1))
  ]
]

func_or_not : (k : ExternKind) → Decided (k ≡ Func)
func_or_not Func = inl refl
func_or_not Table = inr (λ e. cc e)
func_or_not Memory = inr (λ e. cc e)
func_or_not Global = inr (λ e. cc e)

-- the function is the module's own, of such a type
abbrev OwnOf : (FuncType → Type 0) → Option FuncInst → Type 0
OwnOf R o = (type : FuncType) × (body : Body) × (o ≡ Some (own type body)) × R type

own_or_not : (R : FuncType → Type 0) → ((type : FuncType) → Decided (R type)) → (o : Option FuncInst) → Decided (OwnOf R o)
own_or_not R decide None = inr (λ one. (let bad : None ≡ Some (own one.0 one.1) = one.2 in cc bad))
own_or_not R decide (Some (host h)) = inr (λ one. (let bad : Some (host h) ≡ Some (own one.0 one.1) = one.2 in cc bad))
own_or_not R decide (Some (own type body)) = elim (decide type) [
  | inl so ↦ inl (type, body, refl, so)
  | inr lacks ↦ inr (λ one. (let both : Some (own type body) ≡ Some (own one.0 one.1) = one.2 in let e : type ≡ one.0 = cc both in lacks (subst R (sym e) one.3)))
]

-- an export of this name is of such a function
abbrev Named : Instance → List ℕ → (FuncType → Type 0) → Export → Type 0
Named inst name R e = (e.name ≡ name) × (e.kind ≡ Func) × OwnOf R (slice_get inst.funcs e.index)

named_or_not : (inst : Instance) (name : List ℕ) (R : FuncType → Type 0) → ((type : FuncType) → Decided (R type)) → (e : Export) → Decided (Named inst name R e)
named_or_not inst name R decide e = elim (same_words e.name name) [
  | inr lacks ↦ inr (λ one. lacks one.0)
  | inl same ↦ elim (func_or_not e.kind) [
    | inr lacks ↦ inr (λ one. lacks one.1)
    | inl is ↦ elim (own_or_not R decide (slice_get inst.funcs e.index)) [ inl so ↦ inl (same, is, so) | inr lacks ↦ inr (λ one. lacks one.2) ]
  ]
]

abbrev Exported : Module → Instance → List ℕ → (FuncType → Type 0) → Type 0
Exported m inst name R = (x : ℕ) × (type : FuncType) × (body : Body) × ExportsOwn m inst name x type body × R type

pub exported_or_not : (m : Module) (inst : Instance) (name : List ℕ) (R : FuncType → Type 0) → ((type : FuncType) → Decided (R type)) → Decided (Exported m inst name R)
exported_or_not m inst name R decide = elim (found (Named inst name R) (named_or_not inst name R decide) m.exports) [
  | inl (k, e, is, (same, kind, (type, body, owned, so))) ↦ search rules
  | inr none ↦ inr (λ (one : Exported m inst name R). none one.3.place (record { name = name; kind = Func; index = one.0 }) one.3.exported (refl, refl, (one.1, one.2, one.3.is_own, one.4)))
]

invoke_fault : (m : Module) (t : Tenant) (name : List ℕ) (given : List ℤ) (f : InvokeFault) → Decided (Meets m t name given f)
invoke_fault m t name given no_export = elim (exported_or_not m t.inst name (λ type. Unit {0}) (λ type. inl tt)) [
  | inl (x, type, body, is, so) ↦ inr (λ none. none x type body is)
  | inr lacks ↦ inl (λ x type body is. lacks (x, type, body, is, tt))
]
invoke_fault m t name given arguments = elim (exported_or_not m t.inst name (λ type. (vs : List Value) × AreArguments type.params given vs) (λ type. arguments_or_not type.params given)) [
  | inl (x, type, body, is, (vs, fit)) ↦ inr (λ none. none x type body vs is fit)
  | inr lacks ↦ inl (λ x type body vs is fit. lacks (x, type, body, is, (vs, fit)))
]
invoke_fault m t name given queue_full = at_most most_open (open_count t)
invoke_fault m t name given instance_dead = search rules
invoke_fault m t name given journal_full = at_most most_calls (length (journal t))

invoke_at : ℕ → InvokeFault
invoke_at n = get_or (no_export ∷ no_export ∷ no_export ∷ arguments ∷ queue_full ∷ instance_dead ∷ []) n journal_full

invoke_is : (f : InvokeFault) → invoke_at (rank f) ≡ f
unfolding invoke_at
invoke_is no_export = refl
invoke_is arguments = refl
invoke_is queue_full = refl
invoke_is instance_dead = refl
invoke_is journal_full = refl

invoke_below : (f : InvokeFault) → rank f < 7
invoke_below no_export = omega arith
invoke_below arguments = omega arith
invoke_below queue_full = omega arith
invoke_below instance_dead = omega arith
invoke_below journal_full = omega arith

pub first_to_invoke : (m : Module) (t : Tenant) (name : List ℕ) (given : List ℤ) → ((f : InvokeFault) × IsFirst m t name given f) ⊎ ((f : InvokeFault) → ¬ (Meets m t name given f))
first_to_invoke m t name given = elim (first_of rank invoke_at invoke_is (Meets m t name given) (invoke_fault m t name given) 7) [
  | inl (f, met, first) ↦ inl (f, (met, first))
  | inr none ↦ inr (λ f. none f (invoke_below f))
]
