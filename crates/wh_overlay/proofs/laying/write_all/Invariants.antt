use Rattle.std.proofs.Common.{◌≡◌, [], drop, take}
use Rattle.wh_space_model.specs.{view}
use Rattle.wh_overlay.specs.LaidBack.{HasLaid}
use Rattle.wh_overlay.specs.LaidPages.{laid_over}
use Rattle.wh_overlay.proofs.laying.write_all.Given as goal

abbrev pub invariant-loop-page : goal.invariant-loop-page
invariant-loop-page l =
    HasLaid l.fn.memory l.fn.place 0 [] (view l.memory l.fn.place) (take l.page-index l.fn.pages) l.memory
    × (laid_over (view l.memory l.fn.place) (drop l.page-index l.fn.pages) ≡ laid_over (view l.fn.memory l.fn.place) l.fn.pages)
    × (l.place ≡ l.fn.place)
    × (l.pages ≡ l.fn.pages)
