use Rattle.std.proofs.Common.{◌∙◌, sym, length, ap}
use Rattle.wh_swap.specs.Written.{page_held}
use Rattle.test_host.proofs.Carrying.{none_left}
use Rattle.test_host.proofs.rig.Rig.new.Goals as goal

pub invariant_of-result : goal.invariant_of-result
invariant_of-result c =
    let h = c.in_ok-host.host in
    let made = c.in_ok-host.ensures in
    record {
      stands = made.0;
      carried = none_left h (page_held c.in_ok-device.device) c.new-8.result.items c.new-9.result.items made.0 (made.1 ∙ sym c.in_ok-device.ensures.held) (ap length c.new-8.ensures.items) (ap length c.new-9.ensures.items);
    }
