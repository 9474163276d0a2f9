use Rattle.std.proofs.Common.{◌≡◌, Some, None, ap, subst, rules}
use Rattle.wh_space_model.specs.{BeginsFetch}
use Rattle.wh_host.specs.Hosting.{HostState}
use Rattle.wh_host.proofs.Carrying.{fetch_begun, fetching_out}
use Rattle.wh_host.proofs.Paged.{only_nothing}
use Rattle.wh_host.proofs.Fields.{host_of, shown_host}
use Rattle.wh_host.proofs.host.Host.fetch_begin.Goals as goal

pub returns-in_default-clause-moves : goal.returns-in_default-clause-moves
returns-in_default-clause-moves c w st = search (rules, only_nothing)

pub returns-in_default-clause-begins : goal.returns-in_default-clause-begins
returns-in_default-clause-begins c need waits =
    absurd (c.in_default.ensures need waits)

pub invariant_of-self : goal.invariant_of-self
invariant_of-self c =
    let inv = c.self.invariant in
    let made = fetch_begun (host_of c.self.inside) inv.0 c.args.id None c.fetch_begin.new.memory inv.1 c.in-Err.ensures.begins in
    (made.0, made.2)

pub returns-in-Err-clause-moves : goal.returns-in-Err-clause-moves
returns-in-Err-clause-moves c w st =
    fetch_begun (host_of c.self.inside) w c.args.id None c.fetch_begin.new.memory (shown_host w c.self.view_is st) c.in-Err.ensures.begins

pub returns-in-Err-clause-begins : goal.returns-in-Err-clause-begins
returns-in-Err-clause-begins c need waits =
    let space : (host_of c.self.inside).space ≡ c.args.self.now.space = ap (λ (z : HostState). z.space) c.self.view_is in
    subst (λ s. BeginsFetch s c.args.id.place None c.fetch_begin.new.memory) space c.in-Err.ensures.begins

pub returns-in-Err-clause-idle : goal.returns-in-Err-clause-idle
returns-in-Err-clause-idle c none =
    absurd (none c.in-Some.ensures.0.0 c.in-Some.ensures.0.1)

pub invariant_of-self-2 : goal.invariant_of-self-2
invariant_of-self-2 c =
    let inv = c.self.invariant in
    let made = fetch_begun (host_of c.self.inside) inv.0 c.args.id (Some c.in-Ok.ticket.slot) c.fetch_begin.new.memory inv.1 c.in-Ok.ensures.begins in
    (made.0, made.2)

pub returns-clause-moves : goal.returns-clause-moves
returns-clause-moves c w st =
    fetch_begun (host_of c.self.inside) w c.args.id (Some c.in-Ok.ticket.slot) c.fetch_begin.new.memory (shown_host w c.self.view_is st) c.in-Ok.ensures.begins

pub returns-clause-begins : goal.returns-clause-begins
returns-clause-begins c need waits =
    let space : (host_of c.self.inside).space ≡ c.args.self.now.space = ap (λ (z : HostState). z.space) c.self.view_is in
    subst (λ s. BeginsFetch s c.args.id.place (Some c.in-Ok.ticket.slot) c.fetch_begin.new.memory) space c.in-Ok.ensures.begins

pub returns-clause-idle : goal.returns-clause-idle
returns-clause-idle c none =
    absurd (none c.in-Some.ensures.0.0 c.in-Some.ensures.0.1)

pub returns-clause-call : goal.returns-clause-call
returns-clause-call c = search rules

pub returns-clause-out : goal.returns-clause-out
returns-clause-out c = search (rules, fetching_out)
