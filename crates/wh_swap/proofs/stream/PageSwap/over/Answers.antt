use Rattle.std.proofs.Common.{[], None, get_or, ap, ◌∙◌}
use Rattle.wh_swap.specs.Written.{written_bytes, all_written}
use Rattle.wh_swap.proofs.Seen.{map-replicate, none_in_replicate}
use Rattle.wh_swap.proofs.stream.PageSwap.over.Goals as goal

pub returns-clause-held : goal.returns-clause-held
returns-clause-held g c = ap all_written c.in_ok-open_slots.ensures ∙ map-replicate written_bytes c.args.slots None

pub returns-clause-keeps : goal.returns-clause-keeps
returns-clause-keeps g c tells =
    let held = ap all_written c.in_ok-open_slots.ensures ∙ map-replicate written_bytes c.args.slots None in
    (tells, λ k some. absurd (some (ap (λ l. get_or l k []) held ∙ none_in_replicate c.args.slots k)))
