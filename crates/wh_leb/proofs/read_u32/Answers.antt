use Rattle.wh_model.specs.Format.{u32}
use Rattle.wh_leb.specs.Reading.{u32_at}
use Rattle.wh_leb.proofs.Integers.{reads_u32}
use Rattle.wh_leb.proofs.Told.{is_found, is_complete, is_broken}
use Rattle.wh_leb.proofs.read_u32.Goals as goal

pub returns-clause-found : goal.returns-clause-found
returns-clause-found c = is_found u32 u32_at reads_u32 c.args.bytes.now c.args.at c.requires c.word.result c.word.ensures.exact

pub returns-clause-only : goal.returns-clause-only
returns-clause-only c = is_complete u32 u32_at reads_u32 c.args.bytes.now c.args.at c.requires c.word.result c.word.ensures.exact

pub returns-clause-fault : goal.returns-clause-fault
returns-clause-fault c = is_broken u32 u32_at reads_u32 c.args.bytes.now c.args.at c.requires c.word.result c.word.ensures.exact
