use Rattle.std.proofs.Common.{rules}
use Rattle.wh_routes.proofs.Numbers.{digits_test}
use Rattle.wh_routes.proofs.names.is_numeral.Goals as goal

pub returns : goal.returns
returns c = digits_test c.args.text.now c.all.result (search rules) (search rules) (search rules) (search rules)
