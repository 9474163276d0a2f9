use Rattle.std.proofs.Common.{arith, rules, false, true, ◌≡◌, ◌<◌, length, slice_set, refl, ap, sym, subst, ◌∙◌, string_bytes}
use Rattle.std.proofs.lemmas.List.{length-set}
use Rattle.std.proofs.lemmas.Option.{same_Some, slice_get_within}
use Rattle.wh_space_model.proofs.Putting.{set_same}
use Rattle.wh_host.specs.Paging.{IsGoing, Tells}
use Rattle.wh_scheduler.specs.InHand.{OwnedState}
use Rattle.wh_engine.specs.Printing.{PrintsStartOf}
use Rattle.wh_engine.specs.RepresentedScript.{is_over}
use Rattle.wh_engine.proofs.Asked.{guest_there}
use Rattle.wh_engine.proofs.Ended.{all_stay, none_before, none_over_more}
use Rattle.wh_engine.proofs.OneByOne.{all_changed, next_changed, none_changed, still_there}
use Rattle.wh_engine.proofs.Printings.{starts_are_said}
use Rattle.wh_engine.proofs.Resting.{rest_more}
use Rattle.wh_engine.proofs.script_host.ScriptHost.print_starts.Goals as goal

pub loop-at-init : goal.loop-at-init
loop-at-init g c = record {
  same = refl;
  host = refl;
  many = refl;
  rest = λ i x less there. absurd (omega (arith, less));
  none_over = λ e. none_before c.self.inside.instances.items;
  so_far = none_changed (PrintsStartOf c.self.inside.host.host) c.self.inside.instances.items (string_bytes c.args.text.now);
}

pub loop-at-preserved : goal.loop-at-preserved
loop-at-preserved g c =
    let l = c.loop-at in
    let first = c.self.inside in
    let xs = l.self-inside.instances.items in
    let within : l.at < length xs = omega arith in
    let changed = slice_set xs l.at c.print_start.new.instance in
    let read = guest_there xs l.at c.index_mut-instance.result.now within c.index_mut-instance.ensures.value in
    let many = length-set xs l.at c.print_start.new.instance in
    let now_there = guest_there changed l.at c.index.result.now (omega (arith, within, many)) c.index.ensures in
    let same : c.index.result.now ≡ c.print_start.new.instance =
    same_Some _ _ (sym now_there ∙ set_same xs l.at c.print_start.new.instance within) in
    let host = c.host-in-loop-at.ensures ∙ ap (λ (o : OwnedState g.row.D.Denot). o.host) l.invariant.host in
    let asked = c.host.ensures ∙ ap (λ (o : OwnedState g.row.D.Denot). o.host) l.invariant.host in
    let says = subst (λ h. PrintsStartOf h c.index_mut-instance.result.now c.print_start.new.instance (string_bytes l.text) (string_bytes c.print_start.new.text)) host c.in-Ok.ensures in
    record {
      same = search rules;
      host = l.invariant.host;
      many = many ∙ l.invariant.many;
      rest = rest_more first.host.host first.instances.items l.at c.index_mut-instance.result.now
          (still_there (PrintsStartOf first.host.host) first.instances.items xs l.at (string_bytes c.args.text.now) (string_bytes l.text) c.index_mut-instance.result.now l.invariant.so_far read)
          (subst (λ h. Tells h false (λ w. IsGoing w c.index_mut-instance.result.now.id)) asked c.if-can_go_on.ensures) l.invariant.rest;
      none_over = none_over_more xs l.at c.print_start.new.instance l.has_ended c.is_over-has_ended.result within l.invariant.none_over
          (c.is_over-has_ended.ensures ∙ ap is_over same);
      so_far = next_changed (PrintsStartOf first.host.host) first.instances.items xs l.at (string_bytes c.args.text.now) (string_bytes l.text) (string_bytes c.print_start.new.text)
          c.index_mut-instance.result.now c.print_start.new.instance l.invariant.so_far read says;
    }

pub forget_instances-requires : goal.forget_instances-requires
forget_instances-requires g c e =
    let l = c.loop-at in
    let xs = l.self-inside.instances.items in
    let none = l.invariant.none_over e in
    all_stay xs (λ k x at.
    let within = slice_get_within xs k x at in
    none.none k x (omega (arith, within, l.invariant.many)) at)

pub returns-clause-says : goal.returns-clause-says
returns-clause-says g c =
    rw (← c.self.view_is, c.loop-at.invariant.same) (λ settings m s well.
    let l = c.loop-at in
    let first = c.self.inside in
    let xs = l.self-inside.instances.items in
    let steps = all_changed (PrintsStartOf first.host.host) first.instances.items xs l.at (string_bytes c.args.text.now) (string_bytes l.text) l.invariant.so_far (omega (arith, l.invariant.many)) in
    starts_are_said settings _ m c.forget_instances.new.instances.items xs (string_bytes c.args.text.now) (string_bytes l.text) s well steps c.forget_instances.ensures)

pub returns-clause-rests : goal.returns-clause-rests
returns-clause-rests g c =
    rw (← c.self.view_is) (λ i x there.
    let l = c.loop-at in
    let within = slice_get_within c.self.inside.instances.items i x there in
    l.invariant.rest i x (omega (arith, within, l.invariant.many)) there)

pub returns-then-can_go_on-clause-err : goal.returns-then-can_go_on-clause-err
returns-then-can_go_on-clause-err g c =
    let host = c.host.ensures ∙ ap (λ (o : OwnedState g.row.D.Denot). o.host) c.loop-at.invariant.host in
    rw (← c.self.view_is) (c.index_mut-instance.result.now.id, subst (λ h. Tells h true (λ w. IsGoing w c.index_mut-instance.result.now.id)) host c.if-can_go_on.ensures)
