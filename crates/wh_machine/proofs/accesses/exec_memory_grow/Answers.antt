use Rattle.std.proofs.Common.{ap, sym, subst, ◌∙◌, length, arith}
use Rattle.wh_control.proofs.Constructs.{heads}
use Rattle.wh_machine.proofs.ExecutingLemmas.{place_fits}
use Rattle.wh_machine.proofs.Accessing.{StepsTo, charged_turn, answered, grow_asks, grow_steps}
use Rattle.wh_machine.proofs.accesses.exec_memory_grow.Goals as goal

pub pop-count-requires : goal.pop-count-requires
pop-count-requires g c = let l = ap length (grow_asks c.requires.3).2 in omega (arith, l)

pub overflow_cast-count : goal.overflow_cast-count
overflow_cast-count g c =
    let o = grow_asks c.requires.3 in
    let e = (heads (sym c.pop-count.ensures.taken ∙ o.2)).0 in
    omega (arith, e, o.3)

pub advance-requires : goal.advance-requires
advance-requires g c = place_fits c.requires.3

pub returns-clause-executed : goal.returns-clause-executed
returns-clause-executed g c p code k r =
    let flat2 = g.M.LinearMem.bytes c.grow.new.self in
    charged_turn r (g.M.LinearMem.ready c.args.memory.now) c.advance.new.stack c.push.new.self k flat2 c.advance.ensures
    (subst (λ words. StepsTo r words k flat2) (sym c.push.ensures)
    (grow_steps r c.pop-count.result c.answer_word-answer.result c.size.result c.pop-count.new.self flat2 c.grow.result c.pop-count.ensures.taken c.size.ensures c.grow.ensures.grows
    (answered c.grow.result c.answer_word-answer.result c.answer_word-answer.ensures.done c.answer_word-answer.ensures.refused) c.answer_word-answer.ensures.fits))
