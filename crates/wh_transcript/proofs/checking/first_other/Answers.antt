use Rattle.std.proofs.Common.{arith}
use Rattle.wh_transcript.specs.RequestedCalls.{IsCallAsked}
use Rattle.wh_transcript.proofs.Zips.{read_at, zip_at, zip_further}
use Rattle.wh_transcript.proofs.checking.first_other.Goals as goal

pub returns-then-not-is_call_asked : goal.returns-then-not-is_call_asked
returns-then-not-is_call_asked c =
    let rs = c.args.requested.now in
    let cs = c.args.calls.now in
    let at = c.loop-at.at in
    let r = c.index-requested-at.result in
    let k = c.index-calls-at.result in
    let low = c.loop-at-test.true in
    let here = read_at rs at r low c.index-requested-at.is in
    let there = read_at cs at k (omega (arith, low, c.requires)) c.index-calls-at.is in
    λ all. c.if-not-is_call_asked.ensures (zip_at IsCallAsked rs cs at r k here there all)

pub loop-at-preserved : goal.loop-at-preserved
loop-at-preserved c =
    let rs = c.args.requested.now in
    let cs = c.args.calls.now in
    let at = c.loop-at.at in
    let r = c.index-requested-at.result in
    let k = c.index-calls-at.result in
    let low = c.loop-at-test.true in
    let here = read_at rs at r low c.index-requested-at.is in
    let there = read_at cs at k (omega (arith, low, c.requires)) c.index-calls-at.is in
    zip_further IsCallAsked rs cs at r k here there c.loop-at.invariant c.if-not-is_call_asked.ensures
