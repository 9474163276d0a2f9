use Rattle.std.proofs.Common.{arith}
use Rattle.wh_bodies.specs.View.{view_context}
use Rattle.wh_validate.specs.Parts.{IsExport}
use Rattle.wh_validate.proofs.Lists.{each_more}
use Rattle.wh_validate.proofs.NameLemmas.{none_seen, adds_seen, repeats_seen}
use Rattle.wh_validate.proofs.exports.check_exports.Goals as goal

pub loop-export-init : goal.loop-export-init
loop-export-init c = record { there = λ k d lt. absurd (omega (arith, lt)); seen = none_seen c.new-names.result c.new-names.ensures.empty }

pub returns-in-Err : goal.returns-in-Err
returns-in-Err c = record {
  decides = λ other both.
      repeats_seen c.loop-export.names c.args.exports.now c.loop-export.export-index c.export-item.result c.deref.result.now c.export-item.is c.deref.ensures c.loop-export.invariant.seen c.loop-export-test.true (c.in-Err.ensures.err other).1 both.1;
}

pub loop-export-preserved : goal.loop-export-preserved
loop-export-preserved c = record {
  there = each_more (IsExport (view_context c.args.context.now)) c.args.exports.now c.loop-export.export-index c.export-item.result c.export-item.is c.loop-export-test.true c.in_ok-check_export.ensures.decides c.loop-export.invariant.there;
  seen = adds_seen c.loop-export.names c.add_name.new.names c.args.exports.now c.loop-export.export-index c.export-item.result c.deref.result.now c.export-item.is c.deref.ensures c.loop-export.invariant.seen c.loop-export-test.true c.in_default.ensures.new c.in_default.ensures.added;
}
