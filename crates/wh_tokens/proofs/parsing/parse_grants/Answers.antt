use Rattle.wh_tokens.proofs.Lines.{read_more}
use Rattle.wh_tokens.proofs.parsing.parse_grants.Goals as goal

pub loop-rest-preserved : goal.loop-rest-preserved
loop-rest-preserved c =
    read_more c.args.text.now c.cut.result.0.now c.loop-rest.rest c.cut.result.1 c.in-Some.lines c.loop-rest.number c.loop-rest.grants.items _
    c.loop-rest.invariant c.in-Some.is c.cut.ensures.pieces c.cut.ensures.shorter c.in_ok-take_line.ensures.taken
