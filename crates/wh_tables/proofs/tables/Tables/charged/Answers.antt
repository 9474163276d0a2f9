use Rattle.std.proofs.Common.{rules}
use Rattle.wh_tables.proofs.Answering.{charged_most}
use Rattle.wh_tables.proofs.tables.Tables.charged.Goals as goal

pub returns-clause-most : goal.returns-clause-most
returns-clause-most c = search (rules, charged_most)
