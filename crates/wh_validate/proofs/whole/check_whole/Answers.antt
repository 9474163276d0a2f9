use Rattle.std.proofs.Common.{ap, map, length, rules, refl, ◌∙◌}
use Rattle.wh_bodies.specs.declared.context.Context.{Context}
use Rattle.wh_validate.specs.declared.error.ValidError.{ValidError}
use Rattle.wh_bodies.specs.View.{view_side}
use Rattle.wh_syntax.specs.View.{view_module}
use Rattle.wh_validate.proofs.WholeLemmas.{all_named, ok_turned, err_turned, blame_turned, no_function, around_given}
use Rattle.wh_validate.proofs.CompleteLemmas.{outline_of, count_of}
use Rattle.wh_validate.proofs.whole.check_whole.Goals as goal

pub check_around-requires : goal.check_around-requires
check_around-requires c = record { named = all_named c.args.decoded.now c.in-Ok.gathered (length c.deref.result.now) c.deref-2.result.now (ap length c.deref.ensures.value) c.deref-2.ensures.value c.in-Ok.ensures.decides c.in-Ok.ensures.gathered }

pub check_bodies-requires-clause-named : goal.check_bodies-requires-clause-named
check_bodies-requires-clause-named c = all_named c.args.decoded.now c.in-Ok.gathered (length c.deref.result.now) c.deref-2.result.now (ap length c.deref.ensures.value) c.deref-2.ensures.value c.in-Ok.ensures.decides c.in-Ok.ensures.gathered

pub returns-in-Err-clause-complete : goal.returns-in-Err-clause-complete
returns-in-Err-clause-complete c = λ other both. c.in-Err.ensures.decides (λ e. other (ap (λ (v : ValidError). v.kind) c.of_module.ensures ∙ e)) (outline_of c.args.decoded.now (view_module c.args.decoded.now).bodies both)

pub returns-then-len-clause-complete : goal.returns-then-len-clause-complete
returns-then-len-clause-complete c = λ other both.
    let same = count_of c.args.decoded.now (view_module c.args.decoded.now).bodies refl both in
    search rules

pub returns-in-Err-check_around-clause-complete : goal.returns-in-Err-check_around-clause-complete
returns-in-Err-check_around-clause-complete c = λ other both.
    let context : Context = record { types = c.deref.result; funcs = c.deref-2.result; tables = c.deref-3.result; memories = c.deref-4.result; globals = c.deref-5.result } in
    c.in-Err-check_around.ensures.decides (λ e. other (ap (λ (v : ValidError). v.kind) c.of_module-in-Err-check_around.ensures ∙ e))
    (around_given c.args.decoded.now c.in-Ok.gathered context c.in-Ok.ensures.decides c.in-Ok.ensures.gathered c.deref.ensures.value c.deref-2.ensures.value c.deref-3.ensures.value c.deref-4.ensures.value c.deref-5.ensures.value (view_module c.args.decoded.now).bodies both)

-- what is refused in no function, no bodies make right
pub returns-in-Err-clause-blames : goal.returns-in-Err-clause-blames
returns-in-Err-clause-blames c = λ other.
    no_function (view_module c.args.decoded.now) _ c.of_module.result c.of_module.ensures
    (λ h. c.in-Err.ensures.decides (λ e. other (ap (λ (v : ValidError). v.kind) c.of_module.ensures ∙ e)) (outline_of c.args.decoded.now h.0 (h.2, h.3)))

pub returns-then-len-clause-blames : goal.returns-then-len-clause-blames
returns-then-len-clause-blames c = λ other.
    no_function (view_module c.args.decoded.now) _ c.of_module-then-len.result c.of_module-then-len.ensures
    (λ h.
    let same = count_of c.args.decoded.now h.0 h.1 (h.2, h.3) in
    search rules)

pub returns-in-Err-check_around-clause-blames : goal.returns-in-Err-check_around-clause-blames
returns-in-Err-check_around-clause-blames c = λ other.
    let context : Context = record { types = c.deref.result; funcs = c.deref-2.result; tables = c.deref-3.result; memories = c.deref-4.result; globals = c.deref-5.result } in
    no_function (view_module c.args.decoded.now) _ c.of_module-in-Err-check_around.result c.of_module-in-Err-check_around.ensures
    (λ h. c.in-Err-check_around.ensures.decides (λ e. other (ap (λ (v : ValidError). v.kind) c.of_module-in-Err-check_around.ensures ∙ e))
    (around_given c.args.decoded.now c.in-Ok.gathered context c.in-Ok.ensures.decides c.in-Ok.ensures.gathered c.deref.ensures.value c.deref-2.ensures.value c.deref-3.ensures.value c.deref-4.ensures.value c.deref-5.ensures.value h.0 (h.2, h.3)))

pub returns : goal.returns
returns c =
    let context : Context = record { types = c.deref.result; funcs = c.deref-2.result; tables = c.deref-3.result; memories = c.deref-4.result; globals = c.deref-5.result } in
    record {
      sound = ok_turned (λ v. map view_side v.items) c.args.decoded.now c.in-Ok.gathered context c.deref-6.result.now c.deref-7.result.now c.in-Ok.ensures.decides c.in-Ok.ensures.gathered c.deref.ensures.value c.deref-2.ensures.value c.deref-3.ensures.value
          c.deref-4.ensures.value c.deref-5.ensures.value c.deref-6.ensures.value c.deref-7.ensures.value c.check_bodies.result c.in_default.ensures.decides c.check_bodies.ensures.checked;
      complete = err_turned (λ v. map view_side v.items) c.args.decoded.now c.in-Ok.gathered context c.deref-6.result.now c.deref-7.result.now c.in-Ok.ensures.decides c.in-Ok.ensures.gathered c.deref.ensures.value c.deref-2.ensures.value c.deref-3.ensures.value
          c.deref-4.ensures.value c.deref-5.ensures.value c.deref-6.ensures.value c.deref-7.ensures.value c.check_bodies.result c.check_bodies.ensures.complete;
      blames = blame_turned (λ v. map view_side v.items) c.args.decoded.now c.in-Ok.gathered context c.deref-6.result.now c.deref-7.result.now c.in-Ok.ensures.decides c.in-Ok.ensures.gathered c.deref.ensures.value c.deref-2.ensures.value c.deref-3.ensures.value
          c.deref-4.ensures.value c.deref-5.ensures.value c.deref-6.ensures.value c.deref-7.ensures.value c.check_bodies.result c.check_bodies.ensures.blames;
    }
