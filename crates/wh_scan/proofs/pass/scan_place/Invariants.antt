use Rattle.wh_scan.specs.Pass.{ScansMerging, pages_before}
use Rattle.wh_scan.proofs.pass.scan_place.Given as goal

-- the pages so far were offered, and so many merged
abbrev pub invariant-loop-page : goal.invariant-loop-page
invariant-loop-page g l =
    ScansMerging (g.H.PageHash.hashes l.hasher) l.fn.memory (pages_before l.fn.place l.page) l.merged l.memory
