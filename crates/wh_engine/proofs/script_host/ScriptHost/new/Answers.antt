use Rattle.std.proofs.Common.{refl}
use Rattle.wh_engine.proofs.Fresh.{fresh}
use Rattle.wh_engine.proofs.script_host.ScriptHost.new.Goals as goal

pub returns-clause-stands : goal.returns-clause-stands
returns-clause-stands g c settings tax num den new = fresh settings tax _ num den new c.new.ensures c.new-2.ensures c.new-3.ensures.items c.new-4.ensures.items refl
