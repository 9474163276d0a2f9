use Rattle.std.proofs.Common.{arith, rules, ltb, ap, sym, ◌∙◌}
use Rattle.std.proofs.lemmas.List.Sorted.{IsPartitionPoint-from_clause, IsPartitionedBy-ltb}
use Rattle.std.proofs.lemmas.Option.{same_Some, slice_get_within}
use Rattle.wh_host.specs.declared.parts.ModuleRef.{ModuleRef}
use Rattle.wh_host.proofs.KeptModules.{none_has, rise_so, split_at}
use Rattle.wh_host.proofs.module_refs.index_of.Goals as goal

pub returns-then-at-module_refs-clause-found : goal.returns-then-at-module_refs-clause-found
returns-then-at-module_refs-clause-found c rise =
    let xs = c.args.module_refs.now in
    let number = c.args.number in
    let at = c.partition_point-at.result in
    let parted = IsPartitionedBy-ltb (λ (x : ModuleRef). x.number) xs number (rise_so 0 xs rise) in
    let split = split_at xs number at (IsPartitionPoint-from_clause (λ (x : ModuleRef). ltb x.number number) xs at c.partition_point-at.ensures.partitioned parted (λ a r q k. search rules)) in
    none_has xs number at rise split (λ x e same. let within = slice_get_within xs at x e in absurd (omega (arith, within, c.if-at-module_refs.true)))

pub returns-then-module_ref_at-number-clause-found : goal.returns-then-module_ref_at-number-clause-found
returns-then-module_ref_at-number-clause-found c rise =
    let xs = c.args.module_refs.now in
    let number = c.args.number in
    let at = c.partition_point-at.result in
    let parted = IsPartitionedBy-ltb (λ (x : ModuleRef). x.number) xs number (rise_so 0 xs rise) in
    let split = split_at xs number at (IsPartitionPoint-from_clause (λ (x : ModuleRef). ltb x.number number) xs at c.partition_point-at.ensures.partitioned parted (λ a r q k. search rules)) in
    none_has xs number at rise split
    (λ x e same. c.if-module_ref_at-number.true (ap (λ (y : ModuleRef). y.number) (same_Some c.module_ref_at.result x (sym c.module_ref_at.ensures ∙ e)) ∙ same))
