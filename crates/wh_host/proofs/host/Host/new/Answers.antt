use Rattle.std.proofs.Common.{refl}
use Rattle.wh_host.specs.Hosting.{HostState}
use Rattle.wh_host.proofs.Hosts.{new_host}
use Rattle.wh_host.proofs.host.Host.new.Goals as goal

pub invariant_of-result : goal.invariant_of-result
invariant_of-result c =
    let h : HostState = record { modules = c.new-2.result.slots; module_refs = c.new-3.result.items; entries = c.new-4.result.slots; live = 0; space = c.in-Ok.memory; next = 0; next_module = 0; counts = c.none.result } in
    let made = new_host h c.args.frames c.args.slots c.args.tax c.new-2.ensures.empty c.new-3.ensures.items c.new-4.ensures.empty refl refl refl c.invariant.ensures.sound c.in-Ok.ensures.is in
    (made.0, made.1)

pub returns-clause-ok : goal.returns-clause-ok
returns-clause-ok c =
    let h : HostState = record { modules = c.new-2.result.slots; module_refs = c.new-3.result.items; entries = c.new-4.result.slots; live = 0; space = c.in-Ok.memory; next = 0; next_module = 0; counts = c.none.result } in
    new_host h c.args.frames c.args.slots c.args.tax c.new-2.ensures.empty c.new-3.ensures.items c.new-4.ensures.empty refl refl refl c.invariant.ensures.sound c.in-Ok.ensures.is
