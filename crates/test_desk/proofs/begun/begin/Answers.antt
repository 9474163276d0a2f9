use Rattle.std.proofs.Common.{◌≡◌, ℕ, ap, subst, sym}
use Rattle.wh_space_model.specs.declared.Tax.{Tax}
use Rattle.wh_host.specs.Hosting.{HostState, IsNewHost}
use Rattle.wh_cell.specs.LeftByOwner.{LeftState, left_as}
use Rattle.wh_cell.proofs.Begun.{new_led, new_uncharged}
use Rattle.test_desk.proofs.begun.begin.Goals as goal

-- the host that its owner has is the new one
is_new : {D : Type 0} (h : HostState) (l : LeftState D) (device : D) (tax : Tax) → IsNewHost h 8 64 tax → l ≡ left_as h device → (frames slots : ℕ) × (tax : Tax) × IsNewHost l.host frames slots tax
is_new {D} h l device tax new is = (8, 64, tax, subst (λ (z : HostState). IsNewHost z 8 64 tax) (ap (λ (z : LeftState D). z.host) (sym is)) new)

pub new-requires-2-clause-uncharged : goal.new-requires-2-clause-uncharged
new-requires-2-clause-uncharged g c = new_uncharged c.in_ok-host.host 8 64 _ c.in_ok-host.ensures.ok

pub new-requires-2-clause-led : goal.new-requires-2-clause-led
new-requires-2-clause-led g c honest = new_led c.in_ok-host.host 8 64 _ c.in_ok-host.ensures.ok

pub new-requires-3-clause-new : goal.new-requires-3-clause-new
new-requires-3-clause-new g c = is_new c.in_ok-host.host _ c.args.cell_parts.device _ c.in_ok-host.ensures.ok c.in_ok-cell.ensures.owner
