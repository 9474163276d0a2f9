use Rattle.wh_model.specs.Format.{s32}
use Rattle.wh_leb.specs.Reading.{s32_at}
use Rattle.wh_leb.proofs.Integers.{reads_s32}
use Rattle.wh_leb.proofs.Told.{is_found, is_complete, is_broken}
use Rattle.wh_leb.proofs.read_s32.Goals as goal

pub returns-clause-found : goal.returns-clause-found
returns-clause-found c = is_found s32 s32_at reads_s32 c.args.bytes.now c.args.at c.requires c.s32.result c.s32.ensures.exact

pub returns-clause-only : goal.returns-clause-only
returns-clause-only c = is_complete s32 s32_at reads_s32 c.args.bytes.now c.args.at c.requires c.s32.result c.s32.ensures.exact

pub returns-clause-fault : goal.returns-clause-fault
returns-clause-fault c = is_broken s32 s32_at reads_s32 c.args.bytes.now c.args.at c.requires c.s32.result c.s32.ensures.exact
