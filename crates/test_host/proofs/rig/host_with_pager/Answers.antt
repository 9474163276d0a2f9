use Rattle.std.proofs.Common.{[], refl, replicate}
use Rattle.test_host.proofs.Carrying.{loaded_new}
use Rattle.test_host.proofs.rig.host_with_pager.Goals as goal

pub returns : goal.returns
returns c = loaded_new c.in_ok-host.host c.load.new.self _ _ _ _ c.in_ok-module.module (replicate c.args.slots []) c.in_ok-host.ensures.ok c.in_ok-module.ensures.loads c.in_ok-module.ensures.backing.pass refl
