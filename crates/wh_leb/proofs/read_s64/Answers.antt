use Rattle.wh_model.specs.Format.{s64}
use Rattle.wh_leb.specs.Reading.{s64_at}
use Rattle.wh_leb.proofs.Integers.{reads_s64}
use Rattle.wh_leb.proofs.Told.{is_found, is_complete, is_broken}
use Rattle.wh_leb.proofs.read_s64.Goals as goal

pub returns-clause-found : goal.returns-clause-found
returns-clause-found c = is_found s64 s64_at reads_s64 c.args.bytes.now c.args.at c.requires c.s64.result c.s64.ensures.exact

pub returns-clause-only : goal.returns-clause-only
returns-clause-only c = is_complete s64 s64_at reads_s64 c.args.bytes.now c.args.at c.requires c.s64.result c.s64.ensures.exact

pub returns-clause-fault : goal.returns-clause-fault
returns-clause-fault c = is_broken s64 s64_at reads_s64 c.args.bytes.now c.args.at c.requires c.s64.result c.s64.ensures.exact
