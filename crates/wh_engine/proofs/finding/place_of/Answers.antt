use Rattle.std.proofs.Common.{arith, rules, ◌≡◌, ltb, ap, sym, subst, ◌∙◌}
use Rattle.std.proofs.lemmas.List.Sorted.{IsPartitionPoint-from_clause, IsPartitionedBy-ltb}
use Rattle.std.proofs.lemmas.Option.{same_Some, slice_get_within}
use Rattle.wh_engine.specs.declared.parts.NamedInstance.{NamedInstance}
use Rattle.wh_engine.proofs.Asked.{guest_there}
use Rattle.wh_engine.proofs.Found.{none_has, rise_so, split_at, there_has}
use Rattle.wh_engine.proofs.finding.place_of.Goals as goal
use Rattle.wh_engine.proofs.finding.place_of.Goals.{else-at-instances-via-then-at-instances+else-instances-at, else-at-instances-via-else-at-instances}

pub returns-then-instances-at-clause-found : goal.returns-then-instances-at-clause-found
returns-then-instances-at-clause-found c =
    there_has c.args.instances.now c.args.number c.partition_point-at.result c.index-instances-at.result c.if-at-instances.true c.index-instances-at.is (ap (λ (y : NamedInstance). y.id.number) c.index-instances-at.is ∙ c.if-instances-at.true)

pub returns-clause-found : goal.returns-clause-found
returns-clause-found c rise =
    let xs = c.args.instances.now in
    let number = c.args.number in
    let at = c.partition_point-at.result in
    let parted = IsPartitionedBy-ltb (λ (x : NamedInstance). x.id.number) xs number (rise_so 0 xs rise) in
    let split = split_at xs number at (IsPartitionPoint-from_clause (λ (x : NamedInstance). ltb x.id.number number) xs at c.partition_point-at.ensures.partitioned parted (λ a r q k. search rules)) in
    none_has xs number at rise split
    (λ x e same.
    elim c.else-at-instances.branch [
      | else-at-instances-via-then-at-instances+else-instances-at w ↦
          let there = guest_there xs at w.index-instances-at.result w.if-at-instances.true w.index-instances-at.is in
          let one = same_Some w.index-instances-at.result x (sym there ∙ e) in
          absurd (w.if-instances-at.false (subst (λ (y : NamedInstance). y.id.number ≡ number) w.index-instances-at.is (subst (λ (y : NamedInstance). y.id.number ≡ number) (sym one) same)))
      | else-at-instances-via-else-at-instances w ↦ let within = slice_get_within xs at x e in absurd (omega (arith, within, w.if-at-instances.false))
    ])
