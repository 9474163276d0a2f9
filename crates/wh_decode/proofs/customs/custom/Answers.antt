use Rattle.wh_decode.proofs.Skips.{custom_found}
use Rattle.wh_decode.proofs.customs.custom.Goals as goal

pub returns-then-whole-clause-exact : goal.returns-then-whole-clause-exact
returns-then-whole-clause-exact c =
    (c.in-Ok.field-0.0.now, custom_found c.args.bytes.now c.args.at c.in_ok-next.next c.in_ok-size.size c.in_ok-size.start c.window.result.now c.in-Ok.field-0.0.now c.in-Ok.field-0.1 c.in_ok-next.ensures.exact c.in_ok-size.ensures.exact c.window.ensures.value c.in-Ok.ensures.exact c.if-whole.true)
