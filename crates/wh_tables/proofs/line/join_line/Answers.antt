use Rattle.std.proofs.Common.{◌≡◌, ◌<◌, ◌≤◌, List, length, sym, ◌∙◌, subst, arith}
use Rattle.std.specs.List.{filter}
use Rattle.std.specs.List.Sorted.{IsNonDecreasingBy, IsPartitionPoint}
use Rattle.std.proofs.lemmas.List.Kept.{IsNonDecreasingBy-filter}
use Rattle.wh_space_model.specs.declared.plain.InstId.{InstId}
use Rattle.wh_tables.proofs.Lines.{is_elsewhere, line_joined}
use Rattle.wh_tables.proofs.line.join_line.Goals as goal

others : (c : goal.After-deref) → c.deref.result.now ≡ filter (is_elsewhere c.args.newcomer.place) c.args.line.now.items
others c = c.deref.ensures.value ∙ c.leave_line.ensures.items

pub rank_above-rank-requires : goal.rank_above-rank-requires
rank_above-rank-requires c =
    let number = λ (id : InstId). id.number in
    subst (IsNonDecreasingBy number) (sym (others c)) (IsNonDecreasingBy-filter number (is_elsewhere c.args.newcomer.place) c.args.line.now.items c.requires.line.ascending)

pub returns : goal.returns
returns c =
    let xs : List InstId = filter (is_elsewhere c.args.newcomer.place) c.args.line.now.items in
    let same : c.deref.result.now ≡ xs = c.deref.ensures.value ∙ c.leave_line.ensures.items in
    let bound = subst (λ (z : List InstId). c.rank_above-rank.result ≤ length z) same c.rank_above-rank.ensures.within in
    let split = subst (λ (z : List InstId). IsPartitionPoint (λ (id : InstId). id.number ≤ c.args.newcomer.number) (λ (id : InstId). c.args.newcomer.number < id.number) z c.rank_above-rank.result) same c.rank_above-rank.ensures.split in
    let joined = line_joined c.args.numbers.now.items c.args.line.now.items c.args.newcomer c.rank_above-rank.result c.requires.place c.requires.line bound split in
    let items = rw (c.insert.ensures.succeeds (omega arith)) at c.insert.ensures.items in
    rw (items, c.leave_line.ensures.items) joined
