use Rattle.std.proofs.Common.{◌≡◌, ◌≢◌, ◌<◌, [], Some, length, get_or, ap, sym, ◌∙◌, arith, subst}
use Rattle.std.proofs.lemmas.List.{length-map}
use Rattle.wh_swap.specs.Written.{written_bytes, all_written}
use Rattle.wh_swap.proofs.Kept.{written_there}
use Rattle.wh_swap.proofs.stream.PageSwapSwapDev.read.Goals as goal

pub returns-clause-kept : goal.returns-clause-kept
returns-clause-kept g c keeps honest =
    let items = c.args.self.now.slots.items in
    let slot = c.args.slot in
    let written = c.in-Some.written in
    let within : slot < length items = omega (arith, c.requires.there, length-map items written_bytes) in
    let at = subst (λ one. one ≡ get_or items slot one) c.in-Some.is c.index.ensures in
    let held = written_there items slot (Some written) within at in
    let some : get_or (all_written items) slot [] ≢ [] = λ none. omega (arith, ap length (sym held ∙ none), written.whole) in
    c.compared.ensures.same (c.in_default-fetch.ensures.bytes keeps.0 ∙ keeps.1 slot some ∙ held) ∙ honest
