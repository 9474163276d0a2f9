use Rattle.std.proofs.Common.{rules}
use Rattle.wh_explain.proofs.Asking.{asks_none}
use Rattle.wh_explain.proofs.script.command_answer.Goals as goal
use Rattle.wh_explain.proofs.script.command_answer.Goals.{in-Ok, in-Err-Syntax, in-Err-Memory}

pub returns : goal.returns
returns c =
    elim c.match-parse.branch [
      | in-Ok w ↦
          rw w.result-is (_, w.in-Ok.ensures.found)
      | in-Err-Syntax w ↦
          rw w.result-is (asks_none c.args.line.now _ w.in-Err-Syntax.field-0-is w.in-Err-Syntax.ensures.only)
      | in-Err-Memory w ↦ search rules
    ]
