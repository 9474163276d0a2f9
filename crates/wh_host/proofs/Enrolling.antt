-- The roll is that of whatever host the code's represents.
use Rattle.std.proofs.Common.{◌≡◌, ℕ, zero, suc, ◌+◌, ◌++◌, Option, Some, None, List, [], ◌∷◌, length, map, take, get_or, slice_get, refl, sym, ap, subst, ◌∙◌, arith, rules}
use Rattle.std.proofs.lemmas.List.{append-nil, append_assoc, length-append, map-append}
use Rattle.wh_space_model.specs.{tickets}
use Rattle.wh_host_model.specs.Host.{Loaded, Tenant, World, tenant}
use Rattle.wh_host_model.specs.{Entry}
use Rattle.wh_host_model.proofs.Host.Lasting.{inputs_stay}
use Rattle.wh_journal.specs.Calls.{JournalCallState}
use Rattle.wh_instance.specs.Tenancy.{RepresentsEach}
use Rattle.wh_host.specs.declared.parts.LoadedModule.{LoadedModule}
use Rattle.wh_host.specs.declared.parts.ModuleRef.{ModuleRef}
use Rattle.wh_host.specs.declared.parts.InstanceEntry.{InstanceEntry}
use Rattle.wh_space_model.specs.declared.plain.InstId.{InstId}
use Rattle.wh_host.specs.declared.rolling.RollInstance.{RollInstance}
use Rattle.wh_host.specs.declared.rolling.RollModule.{RollModule}
use Rattle.wh_host.specs.Hosting.{HostState, IsHost, AreListed, IsEntryOf, entry_at, module_in}
use Rattle.wh_host.specs.Rolls.{IsRollOf, Listed, ListedModule, RollState, all_listed, all_modules, listed_as, listed_by, listed_in, listed_module, listed_modules, listed_refs, view_listed, view_listed_module}
use Rattle.wh_host.specs.InstanceRefs.{AreInstanceRefs, refs_by}
use Rattle.wh_host.proofs.Showings.{inputs_are, params_by}

-- ---- modules

modules_as : (n : ℕ) (ms : List (Option LoadedModule)) (rs : List ModuleRef) (ls : List (Option Loaded)) → AreListed n ms rs ls → listed_modules ms rs ≡ all_modules n ls
modules_as n ms rs [] are = ap (listed_modules ms) are
modules_as n ms rs (None ∷ ls) are = modules_as (n + 1) ms rs ls are
modules_as n ms rs (Some l ∷ ls) (place, rest, is, kept, more) =
    let r : ModuleRef = record { number = n; place = place } in
    let one : ListedModule = record { number = n; bytes = l.bytes } in
    let first : listed_module r (module_in ms place) ≡ one ∷ [] = ap (listed_module r) kept.lies ∙ ap (λ (z : Loaded). let y : ListedModule = record { number = n; bytes = z.bytes } in y ∷ []) kept.loaded in
    ap (listed_modules ms) is ∙ ap (λ (zs : List ListedModule). zs ++ listed_modules ms rest) first ∙ ap (λ (zs : List ListedModule). one ∷ zs) (modules_as (n + 1) ms rest ls more)

-- one more of them
one_more_module : (ms : List (Option LoadedModule)) (rs : List ModuleRef) (k : ℕ) (r : ModuleRef) → slice_get rs k ≡ Some r → listed_modules ms (take (suc k) rs) ≡ listed_modules ms (take k rs) ++ listed_module r (module_in ms r.place)
one_more_module ms [] k r is = absurd (let bad : None ≡ Some r = is in cc bad)
one_more_module ms (z ∷ zs) zero r is = let same : z ≡ r = cc is in append-nil (listed_module z (module_in ms z.place)) ∙ ap (λ (u : ModuleRef). listed_module u (module_in ms u.place)) same
one_more_module ms (z ∷ zs) (suc k) r is =
    let first = listed_module z (module_in ms z.place) in
    ap (λ more. first ++ more) (one_more_module ms zs k r is) ∙ sym (append_assoc first (listed_modules ms (take k zs)) (listed_module r (module_in ms r.place)))

pub pushed_module : (a b : List RollModule) (e : RollModule) (l : ListedModule) → b ≡ a ++ e ∷ [] → view_listed_module e ≡ l → map view_listed_module b ≡ map view_listed_module a ++ l ∷ []
pushed_module a b e l is same = ap (map view_listed_module) is ∙ map-append view_listed_module a (e ∷ []) ∙ ap (λ (z : ListedModule). map view_listed_module a ++ z ∷ []) same

pub module_step : (ms : List (Option LoadedModule)) (rs : List ModuleRef) (k : ℕ) (r : ModuleRef) (a b : List ListedModule) → slice_get rs k ≡ Some r → a ≡ listed_modules ms (take k rs) → b ≡ a ++ listed_module r (module_in ms r.place) → b ≡ listed_modules ms (take (k + 1) rs)
module_step ms rs k r a b at before more =
    let here = listed_module r (module_in ms r.place) in
    let next : k + 1 ≡ suc k = omega arith in
    more ∙ ap (λ q. q ++ here) before ∙ sym (one_more_module ms rs k r at) ∙ ap (λ n. listed_modules ms (take n rs)) (sym next)

-- ---- one instance

as_long : (cs : List JournalCallState) (es : List Entry) → RepresentsEach cs es → length cs ≡ length es
as_long [] [] h = refl
as_long [] (e ∷ es) h = absurd h
as_long (c ∷ cs) [] h = absurd h
as_long (c ∷ cs) (e ∷ es) h = ap suc (as_long cs es h.1)

same_listed : (h : HostState) (w : World) (i : ℕ) (t : Tenant) (x : InstanceEntry) → IsHost h w → tenant w i ≡ Some t → IsEntryOf h.modules x w.space i t → listed_by (record { number = i; place = t.place }) x ≡ listed_as i t
same_listed h w i t x st live is = search (rules, params_by, inputs_are, inputs_stay, as_long, length-append, ℕ)

-- ---- all of them

pub one_more_listed : (rs : List (Option InstanceEntry)) (instance_refs : List InstId) (k : ℕ) (instance_ref : InstId) → slice_get instance_refs k ≡ Some instance_ref → listed_refs rs (take (suc k) instance_refs) ≡ listed_refs rs (take k instance_refs) ++ listed_in instance_ref (entry_at rs instance_ref.place)
one_more_listed rs [] k instance_ref is = absurd (let bad : None ≡ Some instance_ref = is in cc bad)
one_more_listed rs (z ∷ zs) zero instance_ref is = let same : z ≡ instance_ref = cc is in append-nil (listed_in z (entry_at rs z.place)) ∙ ap (λ (u : InstId). listed_in u (entry_at rs u.place)) same
one_more_listed rs (z ∷ zs) (suc k) instance_ref is =
    let first = listed_in z (entry_at rs z.place) in
    ap (λ more. first ++ more) (one_more_listed rs zs k instance_ref is) ∙ sym (append_assoc first (listed_refs rs (take k zs)) (listed_in instance_ref (entry_at rs instance_ref.place)))

pub pushed_listed : (a b : List RollInstance) (e : RollInstance) (l : Listed) → b ≡ a ++ e ∷ [] → view_listed e ≡ l → map view_listed b ≡ map view_listed a ++ l ∷ []
pushed_listed a b e l is same = ap (map view_listed) is ∙ map-append view_listed a (e ∷ []) ∙ ap (λ (z : Listed). map view_listed a ++ z ∷ []) same

pub listed_step : (rs : List (Option InstanceEntry)) (instance_refs : List InstId) (k : ℕ) (instance_ref : InstId) (a b : List Listed) → slice_get instance_refs k ≡ Some instance_ref → a ≡ listed_refs rs (take k instance_refs) → b ≡ a ++ listed_in instance_ref (entry_at rs instance_ref.place) → b ≡ listed_refs rs (take (k + 1) instance_refs)
listed_step rs instance_refs k instance_ref a b at before more =
    let here = listed_in instance_ref (entry_at rs instance_ref.place) in
    let next : k + 1 ≡ suc k = omega arith in
    more ∙ ap (λ q. q ++ here) before ∙ sym (one_more_listed rs instance_refs k instance_ref at) ∙ ap (λ n. listed_refs rs (take n instance_refs)) (sym next)

-- who is there, as it is listed under this number
abbrev IsListedAt : List (Option InstanceEntry) → ℕ → Tenant → Type 0
IsListedAt rs n t = (x : InstanceEntry) × (entry_at rs t.place ≡ Some x) × (listed_by (record { number = n; place = t.place }) x ≡ listed_as n t)

shifted : (rs : List (Option InstanceEntry)) (i k : ℕ) (t : Tenant) → IsListedAt rs (i + suc k) t → IsListedAt rs ((i + 1) + k) t
shifted rs i k t h = let same : i + suc k ≡ (i + 1) + k = omega arith in subst (λ n. IsListedAt rs n t) same h

all_same : (rs : List (Option InstanceEntry)) (i : ℕ) (ts : List (Option Tenant)) → ((k : ℕ) (t : Tenant) → get_or ts k None ≡ Some t → IsListedAt rs (i + k) t) → listed_refs rs (refs_by i ts) ≡ all_listed i ts
all_same rs i [] has = refl
all_same rs i (None ∷ ts) has = all_same rs (i + 1) ts (λ k t is. shifted rs i k t (has (suc k) t is))
all_same rs i (Some t ∷ ts) has =
    let zero_more : i + 0 ≡ i = omega arith in
    let h = subst (λ n. IsListedAt rs n t) zero_more (has 0 t refl) in
    let instance_ref : InstId = record { number = i; place = t.place } in
    let first : listed_in instance_ref (entry_at rs t.place) ≡ listed_as i t ∷ [] = ap (listed_in instance_ref) h.1 ∙ ap (λ l. l ∷ []) h.2 in
    let tail = all_same rs (i + 1) ts (λ k u is. shifted rs i k u (has (suc k) u is)) in
    ap (λ a. a ++ listed_refs rs (refs_by (i + 1) ts)) first ∙ ap (λ b. listed_as i t ∷ b) tail

-- ---- the whole

pub roll_is : (h : HostState) (instance_refs : List InstId) (modules : List ListedModule) (next out : ℕ) (instances : List Listed) → AreInstanceRefs h instance_refs → modules ≡ listed_modules h.modules h.module_refs → next ≡ h.next → out ≡ tickets h.space → instances ≡ listed_refs h.entries instance_refs
    → IsRollOf h (record { modules = modules; next = next; tickets_out = out; instances = instances })
roll_is h instance_refs modules next out instances are e1 e2 e3 e4 w st =
    let numbered : modules ≡ all_modules 0 w.modules = e1 ∙ modules_as 0 h.modules h.module_refs w.modules (let keeps = st.modules in keeps.listed) in
    let many = e2 ∙ st.next in
    let tickets_out = e3 ∙ ap tickets st.space in
    let zeroth : (k : ℕ) → 0 + k ≡ k = λ k. omega arith in
    let listed : instances ≡ all_listed 0 w.tenants = e4 ∙ ap (listed_refs h.entries) (are w st) ∙ all_same h.entries 0 w.tenants (λ k t live. (let f = st.there k t live in
    subst (λ n. IsListedAt h.entries n t) (sym (zeroth k)) (f.0, f.1, same_listed h w k t f.0 st live f.2))) in
    ap (λ (b : List ListedModule). let r : RollState = record { modules = b; next = next; tickets_out = out; instances = instances } in r) numbered
    ∙ ap (λ (n : ℕ). let r : RollState = record { modules = all_modules 0 w.modules; next = n; tickets_out = out; instances = instances } in r) many
    ∙ ap (λ (n : ℕ). let r : RollState = record { modules = all_modules 0 w.modules; next = length w.tenants; tickets_out = n; instances = instances } in r) tickets_out
    ∙ ap (λ (ls : List Listed). let r : RollState = record { modules = all_modules 0 w.modules; next = length w.tenants; tickets_out = tickets w.space; instances = ls } in r) listed
