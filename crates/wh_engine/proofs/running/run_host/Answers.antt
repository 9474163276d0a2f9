use denote.Enum.Bare.{same_true}
use Rattle.std.proofs.Common.{◌∙◌, inl, sym}
use Rattle.wh_scheduler.specs.contracts.here.HereEnd as here_end
use Rattle.wh_cell.proofs.Followed.{comes_then}
use Rattle.wh_engine.specs.Draining.{owner_ran}
use Rattle.wh_engine.proofs.Turned.{begun_here, few_here, few_on, few_paged, rests_or, turns_by_owner, turns_in_parts, where_served, workers_too}
use Rattle.wh_engine.proofs.running.run_host.Goals as goal

pub loop-init : goal.loop-init
loop-init g c =
    let here = c.run_here-here.ensures in (
      tt,
      tt,
      here.came,
      begun_here c.args.run_config.quantum _ _ _ _ _ here.runs,
      few_here _ _ _ _ _ here.few here.runs,
    )

pub loop-preserved : goal.loop-preserved
loop-preserved g c =
    let was = c.loop.invariant in
    let paged = c.page_here-paged in
    let ran = c.run in
    let s = ran.ensures in (
      tt,
      tt,
      comes_then g.D.SwapDev.keeps g.D.SwapDev.honest g.D.SwapDev.faults _ _ _
          (comes_then g.D.SwapDev.keeps g.D.SwapDev.honest g.D.SwapDev.faults _ _ _ was.2 paged.ensures.came) s.came,
      workers_too c.args.run_config.quantum c.args.host.now.books paged.new.self.books ran.new.self.books
          c.args.host.now.own paged.new.self.own ran.new.self.own ran.result
          (owner_ran paged.result.turns paged.result.offers was.3 paged.ensures.works) s.own
          (where_served c.end_of.result ran.result c.if-is_err.ensures.value c.end_of.ensures)
          s.dispatched s.once s.grown s.turns,
      few_on c.args.host.now.own paged.new.self.own ran.new.self.own
          (few_paged c.loop.host.books paged.new.self.books c.args.host.now.own c.loop.host.own paged.new.self.own
          paged.result.turns paged.result.offers was.4 paged.ensures.works paged.ensures.few) s.own,
    )

pub returns-then-eq-clause-turns : goal.returns-then-eq-clause-turns
returns-then-eq-clause-turns g c =
    let here = c.run_here-here.ensures in
    turns_in_parts c.args.run_config.quantum _ _ _ _ _ (begun_here c.args.run_config.quantum _ _ _ _ _ here.runs) (few_here _ _ _ _ _ here.few here.runs)

pub returns-then-paged-clause-came : goal.returns-then-paged-clause-came
returns-then-paged-clause-came g c =
    comes_then g.D.SwapDev.keeps g.D.SwapDev.honest g.D.SwapDev.faults _ _ _ c.loop.invariant.2 c.page_here-paged.ensures.came

pub returns-then-paged-clause-turns : goal.returns-then-paged-clause-turns
returns-then-paged-clause-turns g c =
    let was = c.loop.invariant in
    let paged = c.page_here-paged in
    turns_in_parts c.args.run_config.quantum _ _ _ _ _ (owner_ran paged.result.turns paged.result.offers was.3 paged.ensures.works)
    (few_paged c.loop.host.books paged.new.self.books c.args.host.now.own c.loop.host.own paged.new.self.own
    paged.result.turns paged.result.offers was.4 paged.ensures.works paged.ensures.few)

pub returns-then-is_err-clause-came : goal.returns-then-is_err-clause-came
returns-then-is_err-clause-came g c =
    comes_then g.D.SwapDev.keeps g.D.SwapDev.honest g.D.SwapDev.faults _ _ _
    (comes_then g.D.SwapDev.keeps g.D.SwapDev.honest g.D.SwapDev.faults _ _ _
    (comes_then g.D.SwapDev.keeps g.D.SwapDev.honest g.D.SwapDev.faults _ _ _ c.loop.invariant.2 c.page_here-paged.ensures.came)
    c.run.ensures.came) c.drain_here.ensures.came

pub returns-then-is_err-clause-turns : goal.returns-then-is_err-clause-turns
returns-then-is_err-clause-turns g c =
    let was = c.loop.invariant in
    let paged = c.page_here-paged in
    let s = c.run.ensures in
    let d = c.drain_here in
    turns_by_owner c.args.run_config.quantum c.args.host.now.books paged.new.self.books c.run.new.self.books d.new.self.books
    c.args.host.now.own paged.new.self.own c.run.new.self.own d.new.self.own c.run.result d.result.turns d.result.offers
    (owner_ran paged.result.turns paged.result.offers was.3 paged.ensures.works)
    (few_paged c.loop.host.books paged.new.self.books c.args.host.now.own c.loop.host.own paged.new.self.own
    paged.result.turns paged.result.offers was.4 paged.ensures.works paged.ensures.few) s.own s.dispatched s.grown s.err d.ensures.works

pub returns-then-eq-clause-rests : goal.returns-then-eq-clause-rests
returns-then-eq-clause-rests g c = inl (c.run_here-here.ensures.rest (same_true here_end.the_type tt _ _ (sym c.eq.ensures ∙ c.if-eq.true)))

pub returns-then-paged-clause-rests : goal.returns-then-paged-clause-rests
returns-then-paged-clause-rests g c = inl (c.page_here-paged.ensures.rests c.if-paged.true)

pub returns-then-is_err-clause-rests : goal.returns-then-is_err-clause-rests
returns-then-is_err-clause-rests g c = rests_or c.drain_here.result.rests c.drain_here.ensures.rests c.drain_here.ensures.most
