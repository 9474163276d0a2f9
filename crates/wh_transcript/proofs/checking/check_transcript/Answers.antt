use Rattle.std.proofs.Common.{ap, length, sym, ◌∙◌}
use Rattle.std.proofs.lemmas.Slice.Zip.{AllZip-long}
use Rattle.wh_transcript.specs.RequestedCalls.{IsCallAsked}
use Rattle.wh_transcript.proofs.checking.check_transcript.Goals as goal

pub returns-then-calls-requested-clause-err : goal.returns-then-calls-requested-clause-err
returns-then-calls-requested-clause-err c = λ is. c.if-calls-requested.true (ap length c.calls-calls.ensures ∙ AllZip-long IsCallAsked c.args.requests.now.calls.items c.args.transcript.now.calls is.calls ∙ ap length (sym c.as_slice-requested.ensures.value))
