use Rattle.std.proofs.Common.{◌≡◌, ◌+◌, ℕ, List, [], get_or, length, sym, subst, arith}
use Rattle.wh_scan.specs.Pass.{ScansMerging, pages_before}
use Rattle.wh_scan.proofs.ByNumber.{long_before}
use Rattle.wh_scan.proofs.Passing.{before_next, few_rows, merges_few, merging_one, scans_few, scans_of}
use Rattle.wh_scan.proofs.pass.scan_place.Goals as goal

pub overflow_mul-pages : goal.overflow_mul-pages
overflow_mul-pages g c =
    let most = few_rows c.args.memory.now c.args.place c.invariant.ensures.sound in
    let pages = c.size-pages.ensures.pages in
    omega arith

pub scan_page-requires : goal.scan_page-requires
scan_page-requires g c =
    let hashes = g.H.PageHash.hashes c.args.hasher.now in
    let pages = pages_before c.args.place c.loop-page.page in
    scans_few hashes c.args.memory.now pages c.loop-page.memory (scans_of hashes c.args.memory.now pages c.loop-page.merged c.loop-page.memory c.loop-page.invariant) c.requires

one_more : (g : _) (c : goal.After-one_if_merged-merged g) → ScansMerging (g.H.PageHash.hashes c.args.hasher.now) c.args.memory.now (pages_before c.args.place (c.loop-page.page + 1)) (c.loop-page.merged + c.one_if_merged-merged.result) c.scan_page.new.memory
one_more g c =
    let hashes = g.H.PageHash.hashes c.args.hasher.now in
    let now = c.loop-page in
    let offered = c.scan_page.ensures in
    subst (λ (xs : List (ℕ × ℕ)). ScansMerging hashes c.args.memory.now xs (now.merged + c.one_if_merged-merged.result) c.scan_page.new.memory) (sym (before_next c.args.place now.page))
    (merging_one hashes c.args.memory.now (pages_before c.args.place now.page) c.args.place now.page offered.0 now.merged c.one_if_merged-merged.result c.scan_page.result now.memory c.scan_page.new.memory now.invariant offered.1 offered.2 c.one_if_merged-merged.ensures)

pub overflow_add-merged : goal.overflow_add-merged
overflow_add-merged g c =
    let few = merges_few (g.H.PageHash.hashes c.args.hasher.now) c.args.memory.now (pages_before c.args.place (c.loop-page.page + 1)) (c.loop-page.merged + c.one_if_merged-merged.result) c.scan_page.new.memory (one_more g c) in
    let long = long_before c.args.place (c.loop-page.page + 1) in
    let most = few_rows c.args.memory.now c.args.place c.invariant.ensures.sound in
    let pages = c.size-pages.ensures.pages in
    omega arith

pub loop-page-preserved : goal.loop-page-preserved
loop-page-preserved g c = one_more g c

pub returns-clause-scans : goal.returns-clause-scans
returns-clause-scans g c =
    let pages = c.size-pages.ensures.pages in
    let end = c.loop-page.auto.page-end in
    let past = c.loop-page-test.false in
    let all : length (get_or c.args.memory.now.tables c.args.place []) ≡ c.loop-page.page = omega arith in
    rw all c.loop-page.invariant

pub returns-clause-offers : goal.returns-clause-offers
returns-clause-offers g c = let pages = c.size-pages.ensures.pages in omega arith
