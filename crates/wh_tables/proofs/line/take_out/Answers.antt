use Rattle.std.proofs.Common.{◌≡◌, ◌<◌, ◌+◌, ◌-◌, ◌∙◌, ◌++◌, List, suc, length, take, drop, sym, ap, subst, arith, rules}
use Rattle.std.proofs.lemmas.Fn.{filter_same}
use Rattle.std.specs.List.Sorted.{IsNonDecreasingBy}
use Rattle.wh_space_model.specs.declared.plain.InstId.{InstId}
use Rattle.wh_tables.proofs.Lines.{one_leaves}
use Rattle.wh_tables.proofs.line.take_out.Goals as goal

pub rank_above-rank-requires : goal.rank_above-rank-requires
rank_above-rank-requires c = subst (IsNonDecreasingBy (λ (id : InstId). id.number)) (sym c.deref.ensures.value) c.requires.1.ascending

pub returns-then-index-place-clause-items : goal.returns-then-index-place-clause-items
returns-then-index-place-clause-items c =
    let line : List InstId = c.args.line.now.items in
    let k = c.rank_above-rank.result - 1 in
    let long : length c.deref.result.now ≡ length line = ap (λ (z : List InstId). length z) c.deref.ensures.value in
    let within : k < length line = omega (arith, long, c.rank_above-rank.ensures.within, c.if-rank-gt0.true) in
    let here = sym (ap (λ (id : InstId). id.place) c.index.ensures) ∙ c.if-index-place.true in
    let step : k + 1 ≡ suc k = omega arith in
    c.remove.ensures.by_index.2 ∙ ap (λ i. take k line ++ drop i line) step ∙ one_leaves c.requires.0 line c.args.place k c.index.result.now c.requires.1 within here

pub returns-clause-items : goal.returns-clause-items
returns-clause-items c = filter_same _ _ _ (λ x b f' k. search rules) _ _ c.retain.ensures.filtered
