use Rattle.std.proofs.Common.{◌≡◌, ◌≢◌, sym, ap, subst, ◌∙◌}
use lib.Pointwise.{pointwise}
use Rattle.wh_model.specs.contracts.ValTypePartialEq.TheImpl.{eq-value}
use Rattle.wh_syntax.specs.View.{view_type}
use Rattle.wh_machine.proofs.SameTypes.{same_types, other_types}
use Rattle.std.specs.Bool.{MatchBool}
use Rattle.wh_machine.proofs.calling.same_type.Goals as goal

pub returns-then-eq : goal.returns-then-eq
returns-then-eq c =
    let l = c.args.left.now in
    let r = c.args.right.now in
    same_types l.params.items r.params.items l.results.items r.results.items c.eq-then-eq.result
    (sym c.if-eq.true ∙ c.eq.ensures ∙ ap (λ xs. pointwise eq-value.it xs c.as_slice-2.result.now) c.as_slice.ensures ∙ ap (pointwise eq-value.it l.params.items) c.as_slice-2.ensures)
    (c.eq-then-eq.ensures ∙ ap (λ xs. pointwise eq-value.it xs c.as_slice-then-eq-2.result.now) c.as_slice-then-eq.ensures ∙ ap (pointwise eq-value.it l.results.items) c.as_slice-then-eq-2.ensures)

pub returns-else-eq : goal.returns-else-eq
returns-else-eq c =
    let l = c.args.left.now in
    let r = c.args.right.now in
    subst (λ b. MatchBool b (view_type l ≡ view_type r) (view_type l ≢ view_type r)) (sym c.if-eq.false)
    (other_types l.params.items r.params.items l.results.items r.results.items
    (sym c.if-eq.false ∙ c.eq.ensures ∙ ap (λ xs. pointwise eq-value.it xs c.as_slice-2.result.now) c.as_slice.ensures ∙ ap (pointwise eq-value.it l.params.items) c.as_slice-2.ensures))
