use Rattle.wh_model.specs.Format.{expr}
use Rattle.wh_leb.proofs.Told.{gives_found, gives_complete, gives_broken}
use Rattle.wh_expr.specs.ReadingCode.{code_at}
use Rattle.wh_expr.proofs.Expressions.{reads_expr}
use Rattle.wh_expr.proofs.reader.read_expr.Goals as goal

pub returns-clause-found : goal.returns-clause-found
returns-clause-found c = gives_found (λ x. x) (expr c.args.most) (code_at c.args.most) (reads_expr c.args.most) c.args.bytes.now c.args.at c.requires.inside c.whole.result c.whole.ensures.exact

pub returns-clause-only : goal.returns-clause-only
returns-clause-only c = gives_complete (λ x. x) (expr c.args.most) (code_at c.args.most) (reads_expr c.args.most) c.args.bytes.now c.args.at c.requires.inside c.whole.result c.whole.ensures.exact

pub returns-clause-fault : goal.returns-clause-fault
returns-clause-fault c = gives_broken (λ x. x) (expr c.args.most) (code_at c.args.most) (reads_expr c.args.most) c.args.bytes.now c.args.at c.requires.inside c.whole.result c.whole.ensures.exact
