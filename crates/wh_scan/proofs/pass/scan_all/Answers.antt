use Rattle.std.proofs.Common.{◌+◌, ◌∙◌, ◌^◌, ◌<◌, ℕ, Option, Some, None, sym, subst, arith}
use Rattle.wh_space_model.proofs.Passed.{passes_fully}
use Rattle.wh_tables.specs.Line.{IsAbove}
use Rattle.wh_scan.specs.Pass.{ScansAll}
use Rattle.wh_scan.proofs.ByNumber.{IsPassUpTo, full_pass, merged_few, pass_begun, pass_done, pass_many, pass_merged, scans_up_to}
use Rattle.wh_scan.proofs.Few.{few_counted, none_counted, offered_next}
use Rattle.wh_scan.proofs.Passing.{scans_few}
use Rattle.wh_scan.proofs.pass.scan_all.Invariants.{numbers_left}
use Rattle.wh_scan.proofs.pass.scan_all.Goals as goal

number_falls : (after : Option ℕ) (n : ℕ) → IsAbove after n → n < 2 ^ 64 → numbers_left (Some n) < numbers_left after
number_falls None n above less = omega arith
number_falls (Some m) n above less = omega arith

pub scan_place-pages-requires : goal.scan_place-pages-requires
scan_place-pages-requires g c =
    let hashes = g.H.PageHash.hashes c.args.hasher.now in
    let now = c.loop-next in
    scans_few hashes c.args.memory.now now.invariant.0.pages now.memory (scans_up_to hashes c.args.memory.now now.after now.offered now.merged now.memory now.invariant.0) c.requires

pub loop-next-smaller : goal.loop-next-smaller
loop-next-smaller g c = number_falls c.loop-next.after c.in-Some.next.number (subst (IsAbove c.loop-next.after) c.in-Some.ensures.some.number c.in-Some.ensures.some.later.1) (omega arith)

pub loop-next-init : goal.loop-next-init
loop-next-init g c = (pass_begun (g.H.PageHash.hashes c.args.hasher.now) c.args.memory.now, none_counted c.args.memory.now)

pub overflow_add-offered : goal.overflow_add-offered
overflow_add-offered g c =
    let on = offered_next (g.H.PageHash.hashes c.args.hasher.now) c.args.memory.now c.loop-next.after c.loop-next.offered c.loop-next.merged c.loop-next.memory c.in-Some.next c.scan_place-pages.result.0 c.scan_place-pages.result.1 c.scan_place-pages.new.memory c.invariant.ensures.sound
    c.loop-next.invariant c.in-Some.ensures.some c.scan_place-pages.ensures.scans c.scan_place-pages.ensures.offers in
    let few = few_counted c.args.memory.now (Some c.in-Some.next.number) (c.loop-next.offered + c.scan_place-pages.result.0) c.invariant.ensures.sound c.requires on.1 in
    omega arith

pub overflow_add-merged : goal.overflow_add-merged
overflow_add-merged g c =
    let hashes = g.H.PageHash.hashes c.args.hasher.now in
    let on = offered_next hashes c.args.memory.now c.loop-next.after c.loop-next.offered c.loop-next.merged c.loop-next.memory c.in-Some.next c.scan_place-pages.result.0 c.scan_place-pages.result.1 c.scan_place-pages.new.memory c.invariant.ensures.sound
    c.loop-next.invariant c.in-Some.ensures.some c.scan_place-pages.ensures.scans c.scan_place-pages.ensures.offers in
    let few = few_counted c.args.memory.now (Some c.in-Some.next.number) (c.loop-next.offered + c.scan_place-pages.result.0) c.invariant.ensures.sound c.requires on.1 in
    let no_more = merged_few hashes c.args.memory.now (Some c.in-Some.next.number) (c.loop-next.offered + c.scan_place-pages.result.0) (c.loop-next.merged + c.scan_place-pages.result.1) c.scan_place-pages.new.memory on.0 in
    let same = c.from-merged.ensures in
    omega arith

pub loop-next-preserved : goal.loop-next-preserved
loop-next-preserved g c =
    let hashes = g.H.PageHash.hashes c.args.hasher.now in
    let on = offered_next hashes c.args.memory.now c.loop-next.after c.loop-next.offered c.loop-next.merged c.loop-next.memory c.in-Some.next c.from-offered.result c.scan_place-pages.result.1 c.scan_place-pages.new.memory c.invariant.ensures.sound
    c.loop-next.invariant c.in-Some.ensures.some c.scan_place-pages.ensures.scans (c.from-offered.ensures ∙ c.scan_place-pages.ensures.offers) in
    (subst (λ k. IsPassUpTo hashes c.args.memory.now (Some c.in-Some.next.number) (c.loop-next.offered + c.from-offered.result) (c.loop-next.merged + k) c.scan_place-pages.new.memory) (sym c.from-merged.ensures) on.0, on.1)

all_scanned : (g : _) (c : goal.In_default g) → ScansAll (g.H.PageHash.hashes c.args.hasher.now) c.args.memory.now c.loop-next.memory
all_scanned g c = pass_done (g.H.PageHash.hashes c.args.hasher.now) c.args.memory.now c.loop-next.after c.loop-next.offered c.loop-next.merged c.loop-next.memory c.invariant.ensures.sound c.loop-next.invariant.0 c.in_default.ensures.none

pub returns-clause-scans : goal.returns-clause-scans
returns-clause-scans g c = all_scanned g c

pub returns-clause-offers : goal.returns-clause-offers
returns-clause-offers g c = pass_many (g.H.PageHash.hashes c.args.hasher.now) c.args.memory.now c.loop-next.after c.loop-next.offered c.loop-next.merged c.loop-next.memory c.invariant.ensures.sound c.loop-next.invariant.0 c.in_default.ensures.none

pub returns-clause-merges : goal.returns-clause-merges
returns-clause-merges g c = pass_merged (g.H.PageHash.hashes c.args.hasher.now) c.args.memory.now c.loop-next.after c.loop-next.offered c.loop-next.merged c.loop-next.memory c.invariant.ensures.sound c.loop-next.invariant.0 c.in_default.ensures.none

pub returns-clause-full : goal.returns-clause-full
returns-clause-full g c = λ may. full_pass (g.H.PageHash.hashes c.args.hasher.now) c.args.memory.now c.loop-next.memory may (all_scanned g c)

pub returns-clause-counts : goal.returns-clause-counts
returns-clause-counts g c = λ may all distinct.
    (let over = full_pass (g.H.PageHash.hashes c.args.hasher.now) c.args.memory.now c.loop-next.memory may (all_scanned g c) in
    passes_fully (g.H.PageHash.hashes c.args.hasher.now) c.args.memory.now over.0 c.loop-next.memory all c.invariant.ensures.sound over.2 distinct)
