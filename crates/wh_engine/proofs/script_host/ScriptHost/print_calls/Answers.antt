use Rattle.std.proofs.Common.{arith, rules, ◌≡◌, slice_get, Some, refl, ap, sym, subst₂, ◌∙◌, string_bytes}
use Rattle.std.proofs.lemmas.List.{length-set}
use Rattle.std.proofs.lemmas.Option.{slice_get-get_or}
use Rattle.std.specs.Global.{Vec}
use Rattle.wh_scheduler.specs.InHand.{OwnedState}
use Rattle.wh_engine.specs.Printing.{PrintsCallOf}
use Rattle.wh_engine.specs.declared.parts.NamedInstance.{NamedInstance}
use Rattle.wh_engine.proofs.OneByOne.{all_changed, next_changed, none_changed}
use Rattle.wh_engine.proofs.Printings.{calls_are_said}
use Rattle.wh_engine.proofs.script_host.ScriptHost.print_calls.Goals as goal

pub loop-at-init : goal.loop-at-init
loop-at-init g c = record {
  same = refl;
  host = refl;
  instances = refl;
  many = refl;
  so_far = none_changed (PrintsCallOf c.self.inside.host.host c.self.inside.instances.items) c.self.inside.invoked.items (string_bytes c.args.text.now);
}

pub index_mut-invoked-requires : goal.index_mut-invoked-requires
index_mut-invoked-requires g c = omega (arith, c.loop-at.invariant.many)

pub loop-at-preserved : goal.loop-at-preserved
loop-at-preserved g c =
    let l = c.loop-at in
    let first = c.self.inside in
    let vs = l.self-inside.invoked.items in
    let x = c.index_mut-invoked.result.now in
    let read : slice_get vs l.at ≡ Some x = slice_get-get_or vs l.at x (omega (arith, l.invariant.many)) ∙ ap Some (sym c.index_mut-invoked.ensures.value) in
    let host = c.host.ensures ∙ ap (λ (o : OwnedState g.row.D.Denot). o.host) l.invariant.host in
    let instances = c.deref.ensures.value ∙ ap (λ (xs : Vec NamedInstance). xs.items) l.invariant.instances in
    let says = subst₂ (λ h xs. PrintsCallOf h xs x c.print_call.new.invoked (string_bytes l.text) (string_bytes c.print_call.new.text)) host instances c.in_ok-print_call.ensures in
    record {
      same = search rules;
      host = l.invariant.host;
      instances = l.invariant.instances;
      many = length-set vs l.at c.print_call.new.invoked ∙ l.invariant.many;
      so_far = next_changed (PrintsCallOf first.host.host first.instances.items) first.invoked.items vs l.at (string_bytes c.args.text.now) (string_bytes l.text)
          (string_bytes c.print_call.new.text) x c.print_call.new.invoked l.invariant.so_far read says;
    }

pub returns-clause-says : goal.returns-clause-says
returns-clause-says g c =
    rw (← c.self.view_is, c.loop-at.invariant.same) (λ settings m s well.
    let l = c.loop-at in
    let first = c.self.inside in
    let vs = l.self-inside.invoked.items in
    let steps = all_changed (PrintsCallOf first.host.host first.instances.items) first.invoked.items vs l.at (string_bytes c.args.text.now) (string_bytes l.text) l.invariant.so_far
    (omega (arith, l.invariant.many)) in
    calls_are_said settings _ m c.forget_calls.new.invoked.items vs (string_bytes c.args.text.now) (string_bytes l.text) s well steps c.forget_calls.ensures)
