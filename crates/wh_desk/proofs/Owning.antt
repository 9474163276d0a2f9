-- Each module and each instance is somebody's after each reply, and nobody has more than is there.
use Rattle.std.proofs.Common.{◌≡◌, ℕ, ◌<◌, List, length, Result, Ok, Err, OnErr, get_or, None, refl, sym, ap, subst, ◌∙◌, arith}
use Rattle.std.specs.Global.{Vec}
use Rattle.wh_space_model.specs.declared.plain.InstId.{InstId}
use Rattle.wh_space_model.specs.declared.plain.SwapError.{SwapError}
use Rattle.wh_space_model.specs.declared.Tax.{Tax}
use Rattle.wh_params.specs.View.{view_params, view_quota}
use Rattle.wh_params.specs.declared.Params.{Params}
use Rattle.wh_params.specs.declared.Quota.{Quota}
use Rattle.wh_admit.specs.declared.error.AdmitError.{AdmitError}
use Rattle.wh_admit.specs.declared.fork_error.ForkError.{ForkError}
use Rattle.wh_host.specs.declared.error.HostError.{HostError}
use Rattle.wh_host.specs.declared.error.ModuleError.{ModuleError}
use Rattle.wh_host.specs.declared.error.UnloadError.{UnloadError}
use Rattle.wh_host.specs.declared.parts.ModuleId.{ModuleId}
use Rattle.wh_host.specs.Admitting.{AnswersAdmit}
use Rattle.wh_host.specs.ForkAnswers.{AnswersFork}
use Rattle.wh_host.specs.Hosting.{HostState, IsNewHost}
use Rattle.wh_host.specs.Loading.{AnswersLoad}
use Rattle.wh_host.specs.Releasing.{AnswersRelease}
use Rattle.wh_host.specs.Unloading.{AnswersUnload}
use Rattle.wh_cell.specs.LeftByOwner.{LeftState}
use Rattle.wh_cell.specs.Owning.{ComesOn}
use Rattle.wh_desk.specs.declared.principal.Principal.{Principal}
use Rattle.wh_desk.specs.declared.request.DeskReply.{DeskReply}
use Rattle.wh_desk.specs.declared.request.DeskReply.TheVariants as says
use Rattle.wh_desk.specs.declared.trace.Question.{Question}
use Rattle.wh_desk.specs.declared.trace.Question.TheVariants.{Load, Unload, Admit, Fork, Invoke, InvokeAt, Refuel, Cancel, Retry, Release, BeginEpoch, Status, Report, Usage, UsageOf, Transcript, Output, Ends, Exports, Read}
use Rattle.wh_desk.specs.declared.trace.TraceEntry.{TraceEntry}
use Rattle.wh_desk.specs.Bounded.{OwnsAll}
use Rattle.wh_desk.specs.Permits.{OwnershipState, nothing_owned, owned_after, owner_of, refusal}
use Rattle.wh_desk.specs.Replying.{HostReplies, IsRight, by_host, by_refusal}
use Rattle.wh_desk.proofs.Owners.{admitted_one, cancelled, few_instances, few_modules, few_to_fork, forked_one, invoked, loaded_one, only_moves, refueled, released_one, retried, unloaded_one, works_on}

-- work leaves it so
pub worked : {D : Type 0} (keeps honest : D → Type 0) (faults : D → List SwapError) (owned : OwnershipState) (left at : LeftState D) → ComesOn keeps honest faults left at → OwnsAll owned left.host → OwnsAll owned at.host
worked keeps honest faults owned left at came o =
    let x = came.came.anyhow o.0 o.1 in (x.0, x.2, works_on owned.modules owned.instances o.0 x.0 x.1.steps x.1.work o.2)

module _ (owned : OwnershipState) (h h2 : HostState) (who : Principal) (o : OwnsAll owned h) where
  load_owns : (bytes : List ℕ) (r : Result ModuleId ModuleError) → AnswersLoad h bytes r h2 → OnErr r (h2 ≡ h) → OwnsAll (owned_after who (Load bytes) (says.Loaded r) owned) h2
  load_owns bytes (Ok id) a same =
      let x = a o.0 o.1 in (x.1, x.4, loaded_one owned.modules (record { id = id; owner = who }) owned.instances o.0 x.1 bytes x.0 x.3 x.2 o.2)
  load_owns bytes (Err e) a same = subst (OwnsAll owned) (sym same) o

  unload_owns : (of : ModuleId) (r : Result Unit UnloadError) → AnswersUnload h of.number r h2 → OnErr r (h2 ≡ h) → OwnsAll (owned_after who (Unload of) (says.Unloaded r) owned) h2
  unload_owns of (Ok done) a same =
      let x = a o.0 o.1 in (x.1, x.4, unloaded_one of owned.modules owned.instances o.0 x.1 x.0 x.3 x.2 o.2)
  unload_owns of (Err e) a same = subst (OwnsAll owned) (sym same) o

  admit_owns : (of : ModuleId) (params : Params) (r : Result InstId AdmitError) → AnswersAdmit h of.number (view_params params) r h2 → OnErr r (h2 ≡ h) → OwnsAll (owned_after who (Admit of params) (says.Admitted r) owned) h2
  admit_owns of params (Ok id) a same =
      let x = a o.0 o.1 in (x.1, x.4, admitted_one owned.modules owned.instances (record { id = id; owner = who }) o.0 x.1 of.number (view_params params) x.0 x.3 x.2 o.2)
  admit_owns of params (Err e) a same = subst (OwnsAll owned) (sym same) o

  fork_owns : (id : InstId) (quota : Quota) (r : Result InstId ForkError) → AnswersFork h id (view_quota quota) r h2 → OnErr r (h2 ≡ h) → OwnsAll (owned_after who (Fork id quota) (says.Forked r) owned) h2
  fork_owns id quota (Ok copy) a same =
      let x = a o.0 o.1 in
      (x.1, x.4, forked_one owned.modules owned.instances (record { id = copy; owner = owner_of id owned.instances }) o.0 x.1 id (view_quota quota) x.0 x.3 x.2 o.2)
  fork_owns id quota (Err e) a same = subst (OwnsAll owned) (sym same) o

  release_owns : (id : InstId) (r : Result (Vec ℕ) HostError) → AnswersRelease h id r h2 → OnErr r (h2 ≡ h) → OwnsAll (owned_after who (Release id) (says.Released r) owned) h2
  release_owns id (Ok output) a same =
      let x = a o.0 o.1 in (x.1, x.4, released_one id owned.modules owned.instances o.0 x.1 x.0 output.items x.3 x.2 o.2)
  release_owns id (Err e) a same = subst (OwnsAll owned) (sym same) o

  abbrev Owns : Question → DeskReply → Type 0
  Owns question reply = OwnsAll (owned_after who question reply owned) h2

  asked_owns : (question : Question) (reply : DeskReply) → HostReplies h question reply h2 → Owns question reply
  asked_owns (Load bytes) reply a = subst (Owns (Load bytes)) (sym a.1) (load_owns bytes a.0 a.2 a.3)
  asked_owns (Unload of) reply a = subst (Owns (Unload of)) (sym a.1) (unload_owns of a.0 a.2 a.4)
  asked_owns (Admit of params) reply a = subst (Owns (Admit of params)) (sym a.1) (admit_owns of params a.0 a.2 a.4)
  asked_owns (Fork id quota) reply a = subst (Owns (Fork id quota)) (sym a.1) (fork_owns id quota a.0 a.2 a.4)
  asked_owns (Invoke id name given fuel) reply a =
      let x = a.2 o.0 o.1 in (x.1, x.4, invoked owned.modules owned.instances o.0 x.1 id name given fuel x.0 x.3 o.2)
  asked_owns (InvokeAt id at given fuel) reply a =
      let x = a.2 o.0 o.1 in (x.3, x.6, invoked owned.modules owned.instances o.0 x.3 id x.0 given fuel x.2 x.5 o.2)
  asked_owns (Refuel id fuel) reply a =
      let x = a.2 o.0 o.1 in (x.1, x.4, refueled owned.modules owned.instances o.0 x.1 id fuel x.0 x.3 o.2)
  asked_owns (Cancel id) reply a =
      let x = a.2 o.0 o.1 in (x.1, x.4, cancelled owned.modules owned.instances o.0 x.1 id x.0 x.3 o.2)
  asked_owns (Retry id) reply a =
      let x = a.2 o.0 o.1 in (x.1, x.4, retried owned.modules owned.instances o.0 x.1 id x.0 x.3 o.2)
  asked_owns (Release id) reply a = subst (Owns (Release id)) (sym a.1) (release_owns id a.0 a.2 a.4)
  asked_owns BeginEpoch reply a =
      let x = a.1 o.0 o.1 in (x.0, x.2, only_moves owned.modules owned.instances o.0 x.0 x.1 o.2)
  asked_owns (Status id at) reply a = subst (OwnsAll owned) (sym a.3) o
  asked_owns Report reply a = subst (OwnsAll owned) (sym a.4) o
  asked_owns Usage reply a = subst (OwnsAll owned) (sym a.5) o
  asked_owns (UsageOf id) reply a = subst (OwnsAll owned) (sym a.4) o
  asked_owns (Transcript id) reply a = subst (OwnsAll owned) (sym a.3) o
  asked_owns (Output id from most) reply a = subst (OwnsAll owned) (sym a.3) o
  asked_owns (Ends id from most) reply a = subst (OwnsAll owned) (sym a.3) o
  asked_owns (Exports of) reply a = subst (OwnsAll owned) (sym a.3) o
  asked_owns (Read id at length) reply a = subst (OwnsAll owned) (sym a.3) o

-- a refusal gives nobody anything
pub refused_owns : (who : Principal) (question : Question) (owned : OwnershipState) → owned_after who question (refusal question) owned ≡ owned
refused_owns who (Load bytes) owned = refl
refused_owns who (Unload of) owned = refl
refused_owns who (Admit of params) owned = refl
refused_owns who (Fork id quota) owned = refl
refused_owns who (Invoke id name given fuel) owned = refl
refused_owns who (InvokeAt id at given fuel) owned = refl
refused_owns who (Refuel id fuel) owned = refl
refused_owns who (Cancel id) owned = refl
refused_owns who (Retry id) owned = refl
refused_owns who (Release id) owned = refl
refused_owns who BeginEpoch owned = refl
refused_owns who (Status id at) owned = refl
refused_owns who Report owned = refl
refused_owns who Usage owned = refl
refused_owns who (UsageOf id) owned = refl
refused_owns who (Transcript id) owned = refl
refused_owns who (Output id from most) owned = refl
refused_owns who (Ends id from most) owned = refl
refused_owns who (Exports of) owned = refl
refused_owns who (Read id at length) owned = refl

-- nor does any reply leave it otherwise
pub replied_owns : {D : Type 0} (keeps honest : D → Type 0) (faults : D → List SwapError) (owned : OwnershipState) (e : TraceEntry D) → IsRight keeps honest faults owned e → OwnsAll owned e.at.host → OwnsAll (owned_after e.who e.question e.reply owned) e.left.host
replied_owns keeps honest faults owned e (by_host may replies device) o = asked_owns owned e.at.host e.left.host e.who o e.question e.reply replies
replied_owns keeps honest faults owned e (by_refusal may_not reply same) o =
    subst (λ (z : DeskReply). OwnsAll (owned_after e.who e.question z owned) e.left.host) (sym reply)
    (subst (λ (z : OwnershipState). OwnsAll z e.left.host) (sym (refused_owns e.who e.question owned))
    (subst (λ (z : LeftState _). OwnsAll owned z.host) (sym same) o))

-- so it begins
pub new_owns : (h : HostState) → (frames slots : ℕ) × (tax : Tax) × IsNewHost h frames slots tax → OwnsAll nothing_owned h
new_owns h new =
    let w = new.3.0 in (
      w,
      new.3.1,
      record {
        few = omega arith;
        live = omega arith;
        all_modules = λ k l there. absurd (let bad = sym (ap (λ xs. get_or xs k None) new.3.3) ∙ there in cc bad);
        all = λ i t there. absurd (let bad = sym (ap (λ xs. get_or xs i None) new.3.4) ∙ there in cc bad);
      },
    )

-- ---- room

pub room_for_module : (owned : OwnershipState) (h h2 : HostState) (bytes : List ℕ) (id : ModuleId) → AnswersLoad h bytes (Ok id) h2 → OwnsAll owned h → length owned.modules < 1024
room_for_module owned h h2 bytes id a o =
    let x = a o.0 o.1 in few_modules owned.modules owned.instances o.0 x.1 bytes x.0 id.number x.3 x.2 o.2

pub room_for_instance : (owned : OwnershipState) (h h2 : HostState) (of : ModuleId) (params : Params) (id : InstId) → AnswersAdmit h of.number (view_params params) (Ok id) h2 → OwnsAll owned h → length owned.instances < 4096
room_for_instance owned h h2 of params id a o =
    let x = a o.0 o.1 in few_instances owned.modules owned.instances o.0 x.1 of.number (view_params params) x.0 id x.3 x.2 o.2

pub room_for_copy : (owned : OwnershipState) (h h2 : HostState) (id : InstId) (quota : Quota) (copy : InstId) → AnswersFork h id (view_quota quota) (Ok copy) h2 → OwnsAll owned h → length owned.instances < 4096
room_for_copy owned h h2 id quota copy a o =
    let x = a o.0 o.1 in few_to_fork owned.modules owned.instances o.0 x.1 id (view_quota quota) x.0 copy x.3 x.2 o.2
