-- What a host replies where there is no such instance, and no such module.
use Rattle.std.proofs.Common.{◌≡◌, ◌<◌, inl, [], None, refl, subst, sym, arith}
use Rattle.wh_space_model.specs.declared.plain.InstId.{InstId}
use Rattle.wh_host_model.specs.Host.{World, NoInstance, has_no_instance, invoke_no_instance, no_one_to_refuel, no_one_to_cancel, no_one_to_retry, no_one_to_release, call_no_instance, isnt_admitted, admit_refused, fork_no_instance, no_one_to_fork, unload_no_module, no_module_to_unload, loaded_of}
use Rattle.wh_host_model.specs.{AdmitFault, no_module, shares, min_max, frames, swap, instances, memory, segments, admit_rank}
use Rattle.wh_host.specs.Hosting.{HostState, IsHost}
use Rattle.wh_host.specs.declared.parts.ModuleId.{ModuleId}
use Rattle.wh_desk.specs.declared.trace.Question.{Question}
use Rattle.wh_desk.specs.declared.trace.Question.TheVariants.{Load, Unload, Admit, Fork, Invoke, InvokeAt, Refuel, Cancel, Retry, Release, BeginEpoch, Status, Report, Usage, UsageOf, Transcript, Output, Ends, Exports, Read}
use Rattle.wh_desk.specs.AsNone.{InstancesAsNone, ModulesAsNone, IsAbout}
use Rattle.wh_desk.specs.Permits.{refusal}
use Rattle.wh_desk.specs.Replying.{HostReplies}

of_this : (h : HostState) (question : Question) (id : InstId) → IsAbout question id → ((w : World) → IsHost h w → NoInstance w id) → HostReplies h question (refusal question) h
of_this h (Load bytes) id about none = absurd about
of_this h (Unload of) id about none = absurd about
of_this h (Admit of params) id about none = absurd about
of_this h (Fork asked quota) id about none =
    (_, refl, (λ w is. (fork_no_instance, w, refl, no_one_to_fork (subst (NoInstance w) (sym about) (none w is)), is)), tt, refl)
of_this h (Invoke asked name given fuel) id about none =
    (_, refl, (λ w is. (invoke_no_instance, w, refl, has_no_instance (subst (NoInstance w) (sym about) (none w is)), is)), refl)
of_this h (InvokeAt asked at given fuel) id about none = (
  _,
  refl,
  (λ w is.
      let gone = subst (NoInstance w) (sym about) (none w is) in
      ([], (λ t l live loaded. absurd (gone t live)), invoke_no_instance, w, refl, has_no_instance gone, is)),
  refl,
)
of_this h (Refuel asked fuel) id about none =
    (_, refl, (λ w is. (call_no_instance, w, refl, no_one_to_refuel (subst (NoInstance w) (sym about) (none w is)), is)), refl, refl)
of_this h (Cancel asked) id about none =
    (_, refl, (λ w is. (call_no_instance, w, refl, no_one_to_cancel (subst (NoInstance w) (sym about) (none w is)), is)), tt, refl)
of_this h (Retry asked) id about none =
    (_, refl, (λ w is. (call_no_instance, w, refl, no_one_to_retry (subst (NoInstance w) (sym about) (none w is)), is)), refl, refl)
of_this h (Release asked) id about none =
    (_, refl, (λ w is. (None, w, refl, no_one_to_release (subst (NoInstance w) (sym about) (none w is)), is)), tt, refl)
of_this h BeginEpoch id about none = absurd about
of_this h (Status asked at) id about none =
    (_, refl, (λ w is t live. absurd (subst (NoInstance w) (sym about) (none w is) t live)), refl)
of_this h Report id about none = absurd about
of_this h Usage id about none = absurd about
of_this h (UsageOf asked) id about none =
    (_, refl, tt, (refl, (λ w is. subst (NoInstance w) (sym about) (none w is))), refl)
of_this h (Transcript asked) id about none = (_, refl, (λ w is. subst (NoInstance w) (sym about) (none w is)), refl)
of_this h (Output asked from most) id about none =
    (_, refl, inl (refl, (λ w is. subst (NoInstance w) (sym about) (none w is))), refl)
of_this h (Ends asked from most) id about none =
    (_, refl, inl (refl, (λ w is. subst (NoInstance w) (sym about) (none w is))), refl)
of_this h (Exports of) id about none = absurd about
of_this h (Read asked at length) id about none = (_, refl, (λ w is. subst (NoInstance w) (sym about) (none w is)), refl)

pub instances_as_none : InstancesAsNone
instances_as_none h id question about none = of_this h question id about none

one_at_least : (fault : AdmitFault) → admit_rank fault < 1 → ⊥
one_at_least no_module less = absurd (omega (arith, less))
one_at_least shares less = absurd (omega (arith, less))
one_at_least min_max less = absurd (omega (arith, less))
one_at_least frames less = absurd (omega (arith, less))
one_at_least swap less = absurd (omega (arith, less))
one_at_least instances less = absurd (omega (arith, less))
one_at_least memory less = absurd (omega (arith, less))
one_at_least segments less = absurd (omega (arith, less))

absent : (w : World) (asked of : ModuleId) → asked ≡ of → loaded_of w of.number ≡ None → loaded_of w asked.number ≡ None
absent w asked of same none = subst (λ (z : ModuleId). loaded_of w z.number ≡ None) (sym same) none

pub modules_as_none : ModulesAsNone
modules_as_none h of (Load bytes) about none = absurd about
modules_as_none h of (Unload asked) about none =
    (_, refl, (λ w is. (unload_no_module, w, refl, no_module_to_unload (absent w asked of about (none w is)), is)), refl, refl)
modules_as_none h of (Admit asked params) about none =
    (_, refl, (λ w is. (admit_refused no_module, w, refl, isnt_admitted (absent w asked of about (none w is), λ other less meets. absurd (one_at_least other less)), is)), tt, refl)
modules_as_none h of (Fork asked quota) about none = absurd about
modules_as_none h of (Invoke asked name given fuel) about none = absurd about
modules_as_none h of (InvokeAt asked at given fuel) about none = absurd about
modules_as_none h of (Refuel asked fuel) about none = absurd about
modules_as_none h of (Cancel asked) about none = absurd about
modules_as_none h of (Retry asked) about none = absurd about
modules_as_none h of (Release asked) about none = absurd about
modules_as_none h of BeginEpoch about none = absurd about
modules_as_none h of (Status asked at) about none = absurd about
modules_as_none h of Report about none = absurd about
modules_as_none h of Usage about none = absurd about
modules_as_none h of (UsageOf id) about none = absurd about
modules_as_none h of (Transcript asked) about none = absurd about
modules_as_none h of (Output asked from most) about none = absurd about
modules_as_none h of (Ends asked from most) about none = absurd about
modules_as_none h of (Read asked at length) about none = absurd about
modules_as_none h of (Exports asked) about none = (_, refl, (λ w is. absent w asked of about (none w is)), refl)
