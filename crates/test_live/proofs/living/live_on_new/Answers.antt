use Rattle.wh_cell.proofs.Begun.{new_led, new_uncharged}
use Rattle.test_live.proofs.living.live_on_new.Goals as goal

pub new-requires-2-clause-uncharged : goal.new-requires-2-clause-uncharged
new-requires-2-clause-uncharged g c = new_uncharged c.in_ok-host.host 8 128 _ c.in_ok-host.ensures.ok

pub new-requires-2-clause-led : goal.new-requires-2-clause-led
new-requires-2-clause-led g c honest = new_led c.in_ok-host.host 8 128 _ c.in_ok-host.ensures.ok
