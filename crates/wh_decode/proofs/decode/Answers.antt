use Rattle.wh_decode.proofs.Whole.{are_bytes, is_found, is_only, is_fault, is_refused}
use Rattle.wh_decode.proofs.decode.Goals as goal

pub returns-clause-found : goal.returns-clause-found
returns-clause-found c = is_found c.args.bytes.now c.read_module.result (are_bytes c.args.bytes.now c.type_inv.bytes) c.read_module.ensures.exact

pub returns-clause-only : goal.returns-clause-only
returns-clause-only c = is_only c.args.bytes.now c.read_module.result c.read_module.ensures.exact

pub returns-clause-fault : goal.returns-clause-fault
returns-clause-fault c = is_fault c.args.bytes.now c.read_module.result (are_bytes c.args.bytes.now c.type_inv.bytes) c.read_module.ensures.exact

pub returns-clause-refused : goal.returns-clause-refused
returns-clause-refused c = is_refused c.args.bytes.now c.read_module.result c.read_module.ensures.exact
