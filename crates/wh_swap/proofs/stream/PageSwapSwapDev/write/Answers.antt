use Rattle.std.proofs.Common.{◌≡◌, [], None, Some, slice_set, ap, sym, subst, refl, ◌∙◌, rules}
use Rattle.std.proofs.lemmas.List.{map-set, set-set}
use Rattle.wh_swap.specs.Written.{written_bytes, all_written, AreKept}
use Rattle.wh_swap.proofs.Kept.{kept_write}
use Rattle.wh_swap.proofs.stream.PageSwapSwapDev.write.Goals as goal

pub returns-then-is_err-clause-open : goal.returns-then-is_err-clause-open
returns-then-is_err-clause-open g c = map-set written_bytes c.args.self.now.slots.items c.args.slot None

pub returns-then-is_err-clause-keeps : goal.returns-then-is_err-clause-keeps
returns-then-is_err-clause-keeps g c keeps =
    let items = c.args.self.now.slots.items in
    let page = g.P.Pages.page c.args.self.now.pages in
    let page2 = g.P.Pages.page c.put.new.self in
    let kept = kept_write page page2 (all_written items) c.args.slot [] c.requires.there keeps.1 (c.put.ensures.kept keeps.0) (λ some. absurd (some refl)) in
    (c.put.ensures.tells keeps.0, subst (AreKept page2) (sym (map-set written_bytes items c.args.slot None)) kept)

pub returns-clause-written : goal.returns-clause-written
returns-clause-written g c =
    let items = c.args.self.now.slots.items in
    let slot = c.args.slot in
    ap all_written (set-set items slot None (Some c.of.result)) ∙ map-set written_bytes items slot (Some c.of.result)
    ∙ ap (slice_set (all_written items) slot) c.of.ensures

pub returns-clause-keeps : goal.returns-clause-keeps
returns-clause-keeps g c keeps =
    let slot = c.args.slot in
    let page = g.P.Pages.page c.args.self.now.pages in
    let page2 = g.P.Pages.page c.put.new.self in
    let is = returns-clause-written g c in
    let wrote : page2 slot ≡ c.args.from.now = search rules in
    let kept = kept_write page page2 (all_written c.args.self.now.slots.items) slot c.args.from.now c.requires.there keeps.1 (c.put.ensures.kept keeps.0) (λ some. wrote) in
    (c.put.ensures.tells keeps.0, subst (AreKept page2) (sym is) kept)
