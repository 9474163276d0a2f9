use Rattle.std.proofs.Common.{◌∙◌, ◌<◌, length, Ok, sym, subst}
use Rattle.std.proofs.lemmas.Option.{same_Some}
use Rattle.wh_script_model.specs.{no_one_to_release, release, release_refused}
use Rattle.wh_host.specs.Releasing.{AnswersRelease}
use Rattle.wh_engine.specs.declared.parts.NamedInstance.{NamedInstance}
use Rattle.wh_engine.proofs.Again.{obeyed_again, obeyed_gone, whole_in}
use Rattle.wh_engine.proofs.Asked.{guest_there}
use Rattle.wh_engine.proofs.Found.{absent_gone, read_opened, read_there}
use Rattle.wh_engine.proofs.Released.{gone_again, goes, refuses}
use Rattle.wh_engine.proofs.Whole.{keeps_whole}
use Rattle.wh_engine.specs.Finding.{HasNumberAt}
use Rattle.wh_engine.specs.RepresentedScript.{ScriptHostState}
use Rattle.wh_engine.proofs.script_host.ScriptHost.release.Goals as goal

pub returns-in_default-clause-obeys : goal.returns-in_default-clause-obeys
returns-in_default-clause-obeys g c settings files line m name s named =
    let e = c.args.self.now in
    let gone = absent_gone settings e m c.args.number named.0 s c.in_default.ensures.found named.1.0 in
    obeyed_gone settings files m line (release name) (release_refused name 1) e (no_one_to_release c.args.number named.1 gone) s

pub returns-in-Err-clause-obeys : goal.returns-in-Err-clause-obeys
returns-in-Err-clause-obeys g c =
    rw (← c.self.view_is) (λ settings files line m name s named.
    let all = whole_in s in
    let there = read_opened settings m c.args.number c.in-Some.at c.index.result.now s c.self.view_is c.in-Some.ensures.found c.in-Some.ensures.within c.index.ensures in
    obeyed_again settings files m line (release name) _ _ c.ask.new.self s
    (refuses settings files line m all name c.ask.new.self.host c.index.result.now c.args.number c.in-Err.error s.stands named
    there c.in-Err.ensures.asks.0
    (keeps_whole c.self.inside.host.host.space c.ask.new.self.host.space c.in-Err.ensures.backing)))

pub returns-clause-obeys : goal.returns-clause-obeys
returns-clause-obeys g c =
    rw (← c.self.view_is) (λ settings files line m name s named.
    let all = whole_in s in
    let xs = c.self.inside.instances.items in
    let found = subst (λ (z : ScriptHostState g.row.D.Denot). HasNumberAt z.instances c.args.number c.in-Some.at) (sym c.self.view_is) c.in-Some.ensures.found in
    let within = subst (λ (z : ScriptHostState g.row.D.Denot). c.in-Some.at < length z.instances) (sym c.self.view_is) c.in-Some.ensures.within in
    let read = guest_there xs c.in-Some.at c.index.result.now within c.index.ensures in
    let written = guest_there xs c.in-Some.at c.index_mut.result.now within c.index_mut.ensures.value in
    let same = same_Some c.index.result.now c.index_mut.result.now (sym read ∙ written) in
    let there = read_there settings _ m c.args.number c.in-Some.at c.index_mut.result.now s found within c.index_mut.ensures.value in
    gone_again settings files line m _ name c.ask.new.self c.index_mut.result.now c.args.number c.in-Some.at _ s found written
    (goes settings files line m all name c.ask.new.self.host c.index_mut.result.now c.args.number c.in-Ok.output s.stands named there
    (subst (λ (x : NamedInstance). AnswersRelease c.self.inside.host.host x.id (Ok c.in-Ok.output) c.ask.new.self.host) same c.in-Ok.ensures.asks.0)
    (keeps_whole c.self.inside.host.host.space c.ask.new.self.host.space c.in-Ok.ensures.backing)))
