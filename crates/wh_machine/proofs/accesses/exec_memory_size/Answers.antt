use Rattle.std.proofs.Common.{◌∷◌, sym, ap, subst, ◌∙◌}
use Rattle.wh_machine.proofs.ExecutingLemmas.{place_fits}
use Rattle.wh_machine.proofs.Accessing.{charged_turn, size_needs, size_steps, StepsTo}
use Rattle.wh_machine.proofs.accesses.exec_memory_size.Goals as goal

pub push-requires : goal.push-requires
push-requires g c = size_needs c.requires.3 c.size.result c.size.ensures c.size.type_inv

pub advance-requires : goal.advance-requires
advance-requires g c = place_fits c.requires.3

pub returns : goal.returns
returns g c p code k r =
    let flat = g.M.LinearMem.bytes c.args.memory.now in
    charged_turn r (g.M.LinearMem.ready c.args.memory.now) c.advance.new.stack c.push.new.self k flat c.advance.ensures
    (subst (λ words. StepsTo r words k flat) (sym (c.push.ensures ∙ ap (λ n. n ∷ c.args.stack.now.words) c.from.ensures)) (size_steps r c.size.result c.size.ensures c.size.type_inv))
