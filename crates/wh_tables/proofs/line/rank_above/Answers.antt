use Rattle.std.proofs.Common.{leb, rules}
use Rattle.std.proofs.lemmas.List.Sorted.{IsPartitionPoint-from_clause, IsPartitionedBy-leb}
use Rattle.wh_space_model.specs.declared.plain.InstId.{InstId}
use Rattle.wh_tables.proofs.Lines.{split_at}
use Rattle.wh_tables.proofs.line.rank_above.Goals as goal

pub returns-clause-split : goal.returns-clause-split
returns-clause-split c =
    let parted = IsPartitionedBy-leb (λ (id : InstId). id.number) _ c.args.number c.requires in
    split_at _ _ _ (IsPartitionPoint-from_clause (λ (id : InstId). leb id.number c.args.number) _ _ c.partition_point.ensures.partitioned parted (λ a r q k. search rules))
