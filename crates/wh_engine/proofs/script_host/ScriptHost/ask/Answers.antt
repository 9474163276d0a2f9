use Rattle.std.proofs.Common.{Ok, Err}
use Rattle.wh_commands.specs.declared.command.CallAction.TheVariants.{Refuel, Cancel, Retry}
use Rattle.wh_engine.proofs.Again.{obeyed_again, obeyed_gone, whole_in}
use Rattle.wh_engine.proofs.Asked.{acted, acted_gone}
use Rattle.wh_engine.proofs.Found.{absent_gone, read_opened}
use Rattle.wh_engine.proofs.Whole.{keeps_whole}
use Rattle.wh_engine.proofs.script_host.ScriptHost.ask.Goals as goal

pub returns-in_default-clause-obeys : goal.returns-in_default-clause-obeys
returns-in_default-clause-obeys g c settings files line m name s named =
    let e = c.args.self.now in
    let gone = absent_gone settings e m c.args.number named.0 s c.in_default.ensures.found named.1.0 in
    obeyed_gone settings files m line _ _ e (acted_gone c.args.action settings files line m name c.args.number named.0 named.1 gone) s

pub returns-in-Refuel-clause-obeys : goal.returns-in-Refuel-clause-obeys
returns-in-Refuel-clause-obeys g c =
    rw (← c.self.view_is) (λ settings files line m name s named.
    let h2 = c.ask.new.self.host in
    let there = read_opened settings m c.args.number c.in-Some.at c.index.result.now s c.self.view_is c.in-Some.ensures.found c.in-Some.ensures.within c.index.ensures in
    let whole = keeps_whole c.self.inside.host.host.space h2.space c.ask.ensures.backing in
    rw c.in-Refuel.is (obeyed_again settings files m line _ _ _ c.ask.new.self s
    (acted (Refuel c.in-Refuel.fuel) settings files line m (whole_in s) name h2 c.index.result.now c.args.number c.ask.result s.stands named there c.ask.ensures.asks.0 whole)))

pub returns-in-Cancel-clause-obeys : goal.returns-in-Cancel-clause-obeys
returns-in-Cancel-clause-obeys g c =
    rw (← c.self.view_is) (λ settings files line m name s named.
    let h2 = c.ask-in-Cancel.new.self.host in
    let there = read_opened settings m c.args.number c.in-Some.at c.index.result.now s c.self.view_is c.in-Some.ensures.found c.in-Some.ensures.within c.index.ensures in
    let whole = keeps_whole c.self.inside.host.host.space h2.space c.ask-in-Cancel.ensures.backing in
    rw c.in-Cancel.is (obeyed_again settings files m line _ _ _ c.ask-in-Cancel.new.self s
    (acted Cancel settings files line m (whole_in s) name h2 c.index.result.now c.args.number c.ask-in-Cancel.result s.stands named there c.ask-in-Cancel.ensures.asks.0 whole)))

pub returns-in-Retry-clause-obeys : goal.returns-in-Retry-clause-obeys
returns-in-Retry-clause-obeys g c =
    rw (← c.self.view_is) (λ settings files line m name s named.
    let h2 = c.ask-in-Retry.new.self.host in
    let there = read_opened settings m c.args.number c.in-Some.at c.index.result.now s c.self.view_is c.in-Some.ensures.found c.in-Some.ensures.within c.index.ensures in
    let whole = keeps_whole c.self.inside.host.host.space h2.space c.ask-in-Retry.ensures.backing in
    rw c.in-Retry.is (obeyed_again settings files m line _ _ _ c.ask-in-Retry.new.self s
    (acted Retry settings files line m (whole_in s) name h2 c.index.result.now c.args.number c.ask-in-Retry.result s.stands named there c.ask-in-Retry.ensures.asks.0 whole)))
