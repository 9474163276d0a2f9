-- What is told of the exports of a module that is there, and calls by the place of an export.
use Rattle.std.proofs.Common.{◌≡◌, ◌<◌, ℕ, ℤ, List, Option, Some, None, IfNone, length, slice_get, refl, sym, ap, subst, ◌∙◌, arith}
use Rattle.std.specs.String.{string_bytes}
use Rattle.wh_model.specs.Format.Syntax.{Body, FuncType}
use Rattle.wh_space_model.specs.declared.plain.InstId.{InstId}
use Rattle.wh_host_model.specs.Host.{Loaded, Tenant, World, IsInvoke, IsLive, NoInstance, invoke_refused, isnt_invoked, loaded_of}
use Rattle.wh_host_model.specs.Owners.{ExportsOwn, InvokeFault, no_export, arguments, queue_full, instance_dead, journal_full, rank}
use Rattle.wh_syntax.specs.declared.module.Export.{Export}
use Rattle.wh_load.specs.Refusing.{view_linked}
use Rattle.wh_host.specs.declared.parts.InstanceEntry.{InstanceEntry}
use Rattle.wh_host.specs.declared.parts.LoadedModule.{LoadedModule}
use Rattle.wh_host.specs.declared.parts.ModuleRef.{ModuleRef}
use Rattle.wh_host.specs.CallRequests.{IsAskedAt, NamesExport}
use Rattle.wh_host.specs.Hosting.{HostState, IsHost, loaded_as, entry_at, module_in}
use Rattle.wh_host.specs.ModuleExports.{FindsModule, HasNoExport, IsExportCount, IsModuleMeant, exported_funcs}
use Rattle.wh_host.specs.ModuleLists.{HasRef}
use Rattle.wh_host.proofs.ExportsThere.{code_funcs, count_there, export_there, unused_name}
use Rattle.wh_host.proofs.Hosts.{found, one_value}
use Rattle.wh_host.proofs.Paged.{same_tenant}
use Rattle.wh_host.proofs.Requests.{has_its_place, module_meant, module_there}

-- the module that has the place of the one that is listed
pub module_found : (h : HostState) (w : World) (k : ℕ) (r : ModuleRef) (x : Option LoadedModule) {rs : List ModuleRef} → IsHost h w → rs ≡ h.module_refs → HasRef rs k r → x ≡ module_in h.modules r.place → IsModuleMeant w k x
module_found h w k r None st same has is = absurd (has_its_place h w k r st same has (sym is))
module_found h w k r (Some m) st same has is = (module_meant h w k r m st same has (sym is)).0

pub exports_counted : (w : World) (k count : ℕ) (x : LoadedModule) (es : List Export) → loaded_of w k ≡ Some (loaded_as x) → es ≡ x.linked.valid.decoded.exports.items → count ≡ length (code_funcs es) → IsExportCount w k (Some count)
exports_counted w k count x es known same is = (loaded_as x, known, count_there x.linked es count same is)

pub no_module_known : (h : HostState) (k at : ℕ) → FindsModule h k None → HasNoExport h k at
no_module_known h k at none w st l known = absurd (let bad : None ≡ Some l = sym (none w st) ∙ known in cc bad)

pub no_export_there : {X : Type 0} (h : HostState) (k at : ℕ) (x : LoadedModule) (o : Option X) → FindsModule h k (Some x) → IfNone o (slice_get (exported_funcs (view_linked x.linked)) at ≡ None) → IfNone o (HasNoExport h k at)
no_export_there h k at x (Some z) finds none = tt
no_export_there h k at x None finds none = λ w st l known. subst (λ (z : Loaded). slice_get (exported_funcs z.m) at ≡ None) (one_value (loaded_as x) l (sym (finds w st) ∙ known)) none

-- ---- calls by a place

-- the module of who is there
pub its_module : (h : HostState) (w : World) (id : InstId) (x : InstanceEntry) (m : LoadedModule) → IsHost h w → entry_at h.entries id.place ≡ Some x → x.number ≡ Some id.number → module_in h.modules x.module_place ≡ Some m
    → (t : Tenant) × IsLive w id t × (loaded_of w t.of ≡ Some (loaded_as m))
its_module h w id x m st at number is =
    let f = found h w id.place id.number x st at number in
    (f.t, (f.live, f.at), (module_there h w id.place id.number x m st f is).0)

asked_by : (w : World) (id : InstId) (at : ℕ) (name : List ℕ) (t : Tenant) (l : Loaded) → IsLive w id t → loaded_of w t.of ≡ Some l → NamesExport l.m name (slice_get (exported_funcs l.m) at) → IsAskedAt w id at name
asked_by w id at name t l live known names u k lives knows =
    let one : t ≡ u = same_tenant w id t u live lives in
    let same : l ≡ k = one_value l k (sym known ∙ ap (λ (z : Tenant). loaded_of w z.of) one ∙ knows) in
    subst (λ (z : Loaded). NamesExport z.m name (slice_get (exported_funcs z.m) at)) same names

-- by the name of the one that is there
pub asked_there : (h : HostState) (w : World) (id : InstId) (at : ℕ) (x : InstanceEntry) (m : LoadedModule) (es : List Export) (e : Export) (name : List ℕ) → IsHost h w → entry_at h.entries id.place ≡ Some x → x.number ≡ Some id.number → module_in h.modules x.module_place ≡ Some m
    → es ≡ m.linked.valid.decoded.exports.items → Some e ≡ slice_get (code_funcs es) at → name ≡ string_bytes e.name → IsAskedAt w id at name
asked_there h w id at x m es e name st there number is same lies named =
    let its = its_module h w id x m st there number is in
    let l = loaded_as m in
    let exported = export_there m.linked es at (Some e) same lies in
    asked_by w id at name its.0 l its.1 its.2 (subst (NamesExport l.m name) (sym exported) named)

-- nobody is asked
pub asked_nobody : (w : World) (id : InstId) (at : ℕ) (name : List ℕ) → NoInstance w id → IsAskedAt w id at name
asked_nobody w id at name none t l live known = absurd (none t live)

-- no fault comes before that
lowest : (other : InvokeFault) → rank other < rank no_export → ⊥
lowest no_export less = absurd (omega (arith, less))
lowest arguments less = absurd (omega (arith, less))
lowest queue_full less = absurd (omega (arith, less))
lowest instance_dead less = absurd (omega (arith, less))
lowest journal_full less = absurd (omega (arith, less))

-- there is none at the place: by a name of nothing, and none is exported so
pub asked_none : (h : HostState) (w : World) (id : InstId) (at : ℕ) (given : List ℤ) (fuel : ℕ) (x : InstanceEntry) (m : LoadedModule) (es : List Export) → IsHost h w → entry_at h.entries id.place ≡ Some x → x.number ≡ Some id.number → module_in h.modules x.module_place ≡ Some m
    → es ≡ m.linked.valid.decoded.exports.items → None ≡ slice_get (code_funcs es) at → (name : List ℕ) × IsAskedAt w id at name × IsInvoke w id name given fuel (invoke_refused no_export) w
asked_none h w id at given fuel x m es st there number is same lies =
    let its = its_module h w id x m st there number is in
    let l = loaded_as m in
    let t = its.0 in
    let exported = export_there m.linked es at None same lies in
    let unused = unused_name l.m.exports in
    let name = unused.0 in
    let meets : (i : ℕ) (type : FuncType) (body : Body) → ¬ (ExportsOwn l.m t.inst name i type body) = λ i type body own. unused.1 own.place _ own.exported refl in
    (name, asked_by w id at name t l its.1 its.2 (subst (NamesExport l.m name) (sym exported) unused.1), isnt_invoked its.1 its.2 (meets, λ other less. absurd (lowest other less)))
