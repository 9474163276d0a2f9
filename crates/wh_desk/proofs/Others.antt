-- A request about one instance leaves all others.
use Rattle.std.proofs.Common.{◌≡◌, ◌≢◌, ⊎_elim, ℕ, ℤ, zero, suc, List, [], ◌∷◌, ◌++◌, length, Option, Some, None, get_or, refl, sym, ap, subst, ◌∙◌, arith}
use Rattle.std.proofs.lemmas.List.{get_or-set_other}
use Rattle.wh_space_model.specs.declared.plain.InstId.{InstId}
use Rattle.wh_space_model.specs.declared.plain.SwapError.{SwapError}
use Rattle.wh_space_model.specs.{Space, view}
use Rattle.wh_host_model.specs.{Params, Quota, with_quota}
use Rattle.wh_host_model.specs.Host.{Tenant as Instance, Loaded, World, loaded_of, promised, tenant, with_tenant, IsLive, IsInvoke, InvokeAnswer, is_invoked, has_no_instance, isnt_invoked, no_memory_to_invoke, CallAnswer, IsRefuel, is_refueled, no_one_to_refuel, no_call_to_refuel, IsCancel, is_cancelled, no_one_to_cancel, no_call_to_cancel, IsRetry, is_retried, no_one_to_retry, no_fault_to_retry, IsRelease, is_released, no_one_to_release, IsLoad, LoadAnswer, is_loaded, isnt_loaded, no_memory_to_load, IsAdmit, AdmitAnswer, is_admitted, isnt_admitted, no_memory_to_admit, IsFork, ForkAnswer, is_forked, no_one_to_fork, isnt_forked, no_memory_to_fork, IsUnload, UnloadAnswer, is_unloaded, no_module_to_unload, is_in_use, ComesAbout, Cancels}
use Rattle.wh_host_model.specs.Host.OwnerCalls.{ends}
use Rattle.wh_host_model.proofs.Host.Arriving.{copies_arrive}
use Rattle.wh_host_model.proofs.Host.Lasting.{memory_stays_sound}
use Rattle.wh_params.specs.View.{view_params, view_quota}
use Rattle.wh_host.specs.Hosting.{HostState, IsHost}
use Rattle.wh_host.specs.declared.parts.ModuleId.{ModuleId}
use Rattle.wh_host.proofs.Hosts.{one_value, places, same_or_not, some_within}
use Rattle.wh_cell.specs.LeftByOwner.{LeftState}
use Rattle.wh_desk.specs.declared.principal.Principal.{Principal}
use Rattle.wh_desk.specs.declared.principal.Principal.TheVariants.{Operator, Tenant}
use Rattle.wh_desk.specs.declared.request.DeskReply.{DeskReply}
use Rattle.wh_desk.specs.declared.trace.Question.{Question}
use Rattle.wh_desk.specs.declared.trace.Question.TheVariants.{Load, Unload, Admit, Fork, Invoke, InvokeAt, Refuel, Cancel, Retry, Release, BeginEpoch, Status, Report, Usage, UsageOf, Transcript, Output, Ends, Exports, Read}
use Rattle.wh_desk.specs.declared.trace.TraceEntry.{TraceEntry}
use Rattle.wh_desk.specs.Others.{KeepsOthers, KeepsOthersOf}
use Rattle.wh_desk.specs.Permits.{IsModuleOf, IsTenants, MayAsk, OwnershipState, Permits}
use Rattle.wh_desk.specs.Replying.{HostReplies, IsRight, by_host, by_refusal}

-- ---- one instance

id_is : (a b : InstId) → a.place ≡ b.place → a.number ≡ b.number → a ≡ b
id_is a b place number =
    ap (λ (p : ℕ). (let z : InstId = record { place = p; number = a.number } in z)) place
    ∙ ap (λ (n : ℕ). (let z : InstId = record { place = b.place; number = n } in z)) number

-- it and what it sees are as they were
abbrev Stays : World → InstId → Instance → World → Type 0
Stays w other x w2 = IsLive w2 other x × (view w2.space other.place ≡ view w.space other.place)

-- each module is as it was
abbrev ModulesStay : World → World → Type 0
ModulesStay w w2 = (k : ℕ) (l : Loaded) → loaded_of w k ≡ Some l → loaded_of w2 k ≡ Some l

-- so is each instance but one
abbrev pub OthersStay : World → InstId → World → Type 0
OthersStay w id w2 = ((other : InstId) (x : Instance) → other ≢ id → IsLive w other x → Stays w other x w2) × ModulesStay w w2

-- all are
abbrev pub AllStay : World → World → Type 0
AllStay w w2 = ((other : InstId) (x : Instance) → IsLive w other x → Stays w other x w2) × ModulesStay w w2

pub as_it_was : (w : World) → AllStay w w
as_it_was w = (λ other x live. (live, refl), λ k l there. there)

but_one : (w w2 : World) (id : InstId) → AllStay w w2 → OthersStay w id w2
but_one w w2 id all = (λ other x _ live. all.0 other x live, all.1)

-- another's number is another one
numbered : (w : World) (id other : InstId) (t x : Instance) → other ≢ id → IsLive w id t → IsLive w other x → other.number ≢ id.number
numbered w id other t x differs live there same =
    let one : x ≡ t = one_value x t (sym there.0 ∙ ap (tenant w) same ∙ live.0) in
    differs (id_is other id (sym there.1 ∙ ap (λ (z : Instance). z.place) one ∙ live.1) same)

-- the instance is replaced, over a memory of which the others see what they saw
replaced : (w : World) (id : InstId) (t : Instance) (o : Option Instance) (s2 : Space) → IsLive w id t → ((other : InstId) (x : Instance) → other ≢ id → IsLive w other x → view s2 other.place ≡ view w.space other.place) → OthersStay w id (with_tenant w id.number o s2)
replaced w id t o s2 live sees = (
  λ other x differs there. (
    (get_or-set_other w.tenants id.number other.number o None (numbered w id other t x differs live there) ∙ there.0, there.1),
    sees other x differs there,
  ),
  λ k l loaded. loaded,
)

-- ---- requests

pub invoked : (w w2 : World) (id : InstId) (name : List ℕ) (given : List ℤ) (fuel : ℕ) (answer : InvokeAnswer) → IsInvoke w id name given fuel answer w2 → OthersStay w id w2
invoked w w2 id name given fuel answer (is_invoked {t = t} {t2 = t2} live loaded takes) = replaced w id t (Some t2) w.space live (λ other x differs there. refl)
invoked w w2 id name given fuel answer (has_no_instance none) = but_one w w id (as_it_was w)
invoked w w2 id name given fuel answer (isnt_invoked live loaded first) = but_one w w id (as_it_was w)
invoked w w2 id name given fuel answer (no_memory_to_invoke live loaded none) = but_one w w id (as_it_was w)

pub refueled : (w w2 : World) (id : InstId) (n : ℕ) (answer : CallAnswer) → IsRefuel w id n answer w2 → OthersStay w id w2
refueled w w2 id n answer (is_refueled {t = t} {t2 = t2} live has) = replaced w id t (Some t2) w.space live (λ other x differs there. refl)
refueled w w2 id n answer (no_one_to_refuel none) = but_one w w id (as_it_was w)
refueled w w2 id n answer (no_call_to_refuel live none) = but_one w w id (as_it_was w)

pub retried : (w w2 : World) (id : InstId) (answer : CallAnswer) → IsRetry w id answer w2 → OthersStay w id w2
retried w w2 id answer (is_retried {t = t} {t2 = t2} live has) = replaced w id t (Some t2) w.space live (λ other x differs there. refl)
retried w w2 id answer (no_one_to_retry none) = but_one w w id (as_it_was w)
retried w w2 id answer (no_fault_to_retry live none) = but_one w w id (as_it_was w)

cancel_sees : (s s2 : Space) (t t2 : Instance) → Cancels s t s2 t2 → (place : ℕ) → view s2 place ≡ view s place
cancel_sees s s2 t t2 (ends calls waits pins closes) place =
    ⊎_elim
    (λ (same : place ≡ t.place). ap (view s2) same ∙ waits.view ∙ ap (view s) (sym same))
    (λ (differs : place ≢ t.place). (waits.steps.others place differs).view)
    (same_or_not place t.place)

pub cancelled : (w w2 : World) (id : InstId) (answer : CallAnswer) → IsCancel w id answer w2 → OthersStay w id w2
cancelled w w2 id answer (is_cancelled {t = t} {t2 = t2} {s2 = s2} live has) = replaced w id t (Some t2) s2 live (λ other x differs there. cancel_sees w.space s2 t t2 has other.place)
cancelled w w2 id answer (no_one_to_cancel none) = but_one w w id (as_it_was w)
cancelled w w2 id answer (no_call_to_cancel live none) = but_one w w id (as_it_was w)

pub released : (w w2 : World) (id : InstId) (answer : Option (List ℕ)) → ComesAbout w → IsRelease w id answer w2 → OthersStay w id w2
released w w2 id answer comes (is_released {t = t} live goes) =
    subst (OthersStay w id) (sym goes.after)
    (replaced w id t None goes.space live
    (λ other x differs there. (goes.departs.others other.place
    (λ same. numbered w id other t x differs live there ((places w comes).apart other.number id.number x t there.0 live.0 (there.1 ∙ same)))).view))
released w w2 id answer comes (no_one_to_release none) = but_one w w id (as_it_was w)

-- ---- who comes

get_or-append : {A : Type 0} (xs ys : List (Option A)) (i : ℕ) (x : A) → get_or xs i None ≡ Some x → get_or (xs ++ ys) i None ≡ Some x
get_or-append [] ys i x e = absurd (cc e)
get_or-append (y ∷ xs) ys zero x e = e
get_or-append (y ∷ xs) ys (suc i) x e = get_or-append xs ys i x e

pub loaded : (w w2 : World) (bytes : List ℕ) (answer : LoadAnswer) → IsLoad w bytes answer w2 → AllStay w w2
loaded w w2 bytes answer (is_loaded loads) = subst (AllStay w) (sym loads.after) (λ other x live. (live, refl), λ k l there. get_or-append w.modules _ k l there)
loaded w w2 bytes answer (isnt_loaded fault) = as_it_was w
loaded w w2 bytes answer (no_memory_to_load want) = as_it_was w

last_there : {A : Type 0} (xs : List (Option A)) (o : Option A) → get_or (xs ++ o ∷ []) (length xs) None ≡ o
last_there [] o = refl
last_there (x ∷ xs) o = last_there xs o

-- somebody comes under the next number, to a place where nobody is
comes_after : (w w2 : World) (t : Instance) (s : Space) (number : ℕ) → ComesAbout w2 → w2 ≡ record w { tenants = w.tenants ++ Some t ∷ []; space = s } → number ≡ length w.tenants → ((place : ℕ) → place ≢ t.place → view s place ≡ view w.space place) → AllStay w w2
comes_after w w2 t s number comes after next sees = (beside, λ k l there. ap (λ (z : World). loaded_of z k) after ∙ there) where
  beside : (other : InstId) (x : Instance) → IsLive w other x → Stays w other x w2
  beside other x live =
      let now : tenant w2 other.number ≡ Some x = ap (λ (z : World). tenant z other.number) after ∙ get_or-append w.tenants (Some t ∷ []) other.number x live.0 in
      let new : tenant w2 number ≡ Some t = ap (λ (z : World). tenant z number) after ∙ ap (λ (n : ℕ). get_or (w.tenants ++ Some t ∷ []) n None) next ∙ last_there w.tenants (Some t) in
      let less = some_within w.tenants other.number x live.0 in (
        (now, live.1),
        ap (λ (z : World). view z.space other.place) after
            ∙ sees other.place
            (λ same. let one = (places w2 comes).apart other.number number x t now new (live.1 ∙ same) in absurd (omega (arith, one, next, less))),
      )

pub admitted : (w w2 : World) (k : ℕ) (p : Params) (answer : AdmitAnswer) → ComesAbout w2 → IsAdmit w k p answer w2 → AllStay w w2
admitted w w2 k p answer comes (is_admitted {id = id} lets) =
    comes_after w w2 _ lets.space id.number comes lets.after lets.next (λ place differs. (lets.arrives.others place differs).view)
admitted w w2 k p answer comes (isnt_admitted fault) = as_it_was w
admitted w w2 k p answer comes (no_memory_to_admit none) = as_it_was w

pub forked : (w w2 : World) (id : InstId) (q : Quota) (answer : ForkAnswer) → ComesAbout w → ComesAbout w2 → IsFork w id q answer w2 → AllStay w w2
forked w w2 id q answer before comes (is_forked {t = t} {new = new} live f) =
    let arrives = copies_arrive w.space t.place new.place (promised new.number (with_quota t.params q)) f.space (memory_stays_sound w before) f.copies in
    comes_after w w2 _ f.space new.number comes f.after f.next (λ place differs. (arrives.others place differs).view)
forked w w2 id q answer before comes (no_one_to_fork none) = as_it_was w
forked w w2 id q answer before comes (isnt_forked live first) = as_it_was w
forked w w2 id q answer before comes (no_memory_to_fork live none) = as_it_was w

-- ---- a module goes

-- all instances stay, and all modules but one
abbrev AllStayBut : World → ℕ → World → Type 0
AllStayBut w k w2 =
    ((other : InstId) (x : Instance) → IsLive w other x → Stays w other x w2)
    × ((j : ℕ) (l : Loaded) → j ≢ k → loaded_of w j ≡ Some l → loaded_of w2 j ≡ Some l)

nothing_but : (w : World) (k : ℕ) → AllStayBut w k w
nothing_but w k = (λ other x live. (live, refl), λ j l differs there. there)

pub unloaded : (w w2 : World) (k : ℕ) (answer : UnloadAnswer) → IsUnload w k answer w2 → AllStayBut w k w2
unloaded w w2 k answer (is_unloaded goes) =
    subst (AllStayBut w k) (sym goes.after)
    (λ other x live. (live, refl), λ j l differs there. get_or-set_other w.modules k j None None differs ∙ there)
unloaded w w2 k answer (no_module_to_unload none) = nothing_but w k
unloaded w w2 k answer (is_in_use i loaded there of) = nothing_but w k

-- ---- what is asked of a host

abbrev HostStays : HostState → InstId → HostState → Type 0
HostStays h id h2 = (w : World) → IsHost h w → (w2 : World) × IsHost h2 w2 × OthersStay w id w2

abbrev HostStaysWhole : HostState → HostState → Type 0
HostStaysWhole h h2 = (w : World) → IsHost h w → (w2 : World) × IsHost h2 w2 × AllStay w w2

others_keep : (owned : OwnershipState) (t : ℕ) (id : InstId) (h h2 : HostState) → IsTenants owned t id → HostStays h id h2 → KeepsOthers owned t h h2
others_keep owned t id h h2 own stays w is =
    let x = stays w is in (
      x.0,
      x.1,
      λ other u not_own live. x.2.0 other u (λ same. not_own (subst (IsTenants owned t) (sym same) own)) live,
      λ of l not_own there. x.2.1 of.number l there,
    )

all_keep : (owned : OwnershipState) (t : ℕ) (h h2 : HostState) → HostStaysWhole h h2 → KeepsOthers owned t h h2
all_keep owned t h h2 stays w is = let x = stays w is in (x.0, x.1, λ other u not_own live. x.2.0 other u live, λ of l not_own there. x.2.1 of.number l there)

nothing_done : (owned : OwnershipState) (t : ℕ) (h h2 : HostState) → h2 ≡ h → KeepsOthers owned t h h2
nothing_done owned t h h2 same w is = (w, subst (λ z. IsHost z w) (sym same) is, λ id x not_own live. (live, refl), λ of l not_own there. there)

module_is : (a b : ModuleId) → a.number ≡ b.number → a ≡ b
module_is a b same = ap (λ (n : ℕ). (let z : ModuleId = record { number = n } in z)) same

unload_keeps : (owned : OwnershipState) (t : ℕ) (of : ModuleId) (h h2 : HostState) → IsModuleOf owned (Tenant t) of
    → ((w : World) → IsHost h w → (w2 : World) × IsHost h2 w2 × AllStayBut w of.number w2) → KeepsOthers owned t h h2
unload_keeps owned t of h h2 own stays w is =
    let x = stays w is in (
      x.0,
      x.1,
      λ other u not_own live. x.2.0 other u live,
      λ other l not_own there. x.2.1 other.number l (λ same. not_own (subst (IsModuleOf owned (Tenant t)) (sym (module_is other of same)) own)) there,
    )

-- What a tenant may ask leaves what isn't its own.
asked : (owned : OwnershipState) (t : ℕ) (question : Question) (reply : DeskReply) (h h2 : HostState) → MayAsk owned t question → HostReplies h question reply h2 → KeepsOthers owned t h h2
asked owned t (Load bytes) reply h h2 may a = all_keep owned t h h2 (λ w is. let x = a.2 w is in (x.1, x.4, loaded w x.1 bytes x.0 x.3))
asked owned t (Unload of) reply h h2 may a =
    unload_keeps owned t of h h2 may (λ w is. let x = a.2 w is in (x.1, x.4, unloaded w x.1 of.number x.0 x.3))
asked owned t (Fork id quota) reply h h2 may a =
    all_keep owned t h h2 (λ w is. let x = a.2 w is in (x.1, x.4, forked w x.1 id (view_quota quota) x.0 is.comes x.4.comes x.3))
asked owned t (Admit of params) reply h h2 may a =
    all_keep owned t h h2 (λ w is. let x = a.2 w is in (x.1, x.4, admitted w x.1 of.number (view_params params) x.0 x.4.comes x.3))
asked owned t (Invoke id name given fuel) reply h h2 may a =
    others_keep owned t id h h2 may (λ w is. let x = a.2 w is in (x.1, x.4, invoked w x.1 id name given fuel x.0 x.3))
asked owned t (InvokeAt id at given fuel) reply h h2 may a =
    others_keep owned t id h h2 may (λ w is. let x = a.2 w is in (x.3, x.6, invoked w x.3 id x.0 given fuel x.2 x.5))
asked owned t (Refuel id fuel) reply h h2 may a =
    others_keep owned t id h h2 may (λ w is. let x = a.2 w is in (x.1, x.4, refueled w x.1 id fuel x.0 x.3))
asked owned t (Cancel id) reply h h2 may a =
    others_keep owned t id h h2 may (λ w is. let x = a.2 w is in (x.1, x.4, cancelled w x.1 id x.0 x.3))
asked owned t (Retry id) reply h h2 may a =
    others_keep owned t id h h2 may (λ w is. let x = a.2 w is in (x.1, x.4, retried w x.1 id x.0 x.3))
asked owned t (Release id) reply h h2 may a =
    others_keep owned t id h h2 may (λ w is. let x = a.2 w is in (x.1, x.4, released w x.1 id x.0 is.comes x.3))
asked owned t BeginEpoch reply h h2 may a = absurd may
asked owned t (Status id at) reply h h2 may a = nothing_done owned t h h2 a.3
asked owned t Report reply h h2 may a = absurd may
asked owned t Usage reply h h2 may a = absurd may
asked owned t (UsageOf id) reply h h2 may a = nothing_done owned t h h2 a.4
asked owned t (Transcript id) reply h h2 may a = nothing_done owned t h h2 a.3
asked owned t (Output id from most) reply h h2 may a = nothing_done owned t h h2 a.3
asked owned t (Ends id from most) reply h h2 may a = nothing_done owned t h h2 a.3
asked owned t (Exports of) reply h h2 may a = nothing_done owned t h h2 a.3
asked owned t (Read id at length) reply h h2 may a = nothing_done owned t h h2 a.3

by_who : {D : Type 0} (keeps honest : D → Type 0) (faults : D → List SwapError) (owned : OwnershipState) (who : Principal) (e : TraceEntry D) → e.who ≡ who → IsRight keeps honest faults owned e → KeepsOthersOf owned who e.at.host e.left.host
by_who keeps honest faults owned Operator e is right = tt
by_who keeps honest faults owned (Tenant t) e is (by_host may answers device) = asked owned t e.question e.reply e.at.host e.left.host (subst (λ who. Permits owned who e.question) is may) answers
by_who keeps honest faults owned (Tenant t) e is (by_refusal may_not reply same) = nothing_done owned t e.at.host e.left.host (ap (λ (z : LeftState _). z.host) same)

-- Nor does any reply to a tenant.
pub others_stay : {D : Type 0} (keeps honest : D → Type 0) (faults : D → List SwapError) (owned : OwnershipState) (e : TraceEntry D) → IsRight keeps honest faults owned e → KeepsOthersOf owned e.who e.at.host e.left.host
others_stay {D} keeps honest faults owned e right = by_who keeps honest faults owned e.who e refl right
