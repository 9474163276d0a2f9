use Rattle.std.proofs.Common.{◌<◌, refl, sym, subst}
use Rattle.std.specs.Vec.{with_item}
use Rattle.wh_control.specs.declared.store.Store as code_store
use Rattle.wh_machine.specs.Alone.{always}
use Rattle.wh_machine.proofs.ExecutingLemmas.{place_fits}
use Rattle.wh_machine.proofs.Accessing.{charged_turn, global_set_needs, global_set_steps}
use Rattle.wh_machine.proofs.accesses.exec_global_set.Goals as goal

pub pop-requires : goal.pop-requires
pop-requires c = (global_set_needs c.args.global c.requires.4).1

pub index_mut-requires : goal.index_mut-requires
index_mut-requires c = subst (λ n. c.args.global < n) (sym c.args.store.now.globals.ok.0) (global_set_needs c.args.global c.requires.4).0

pub advance-requires : goal.advance-requires
advance-requires c = place_fits c.requires.4

pub returns : goal.returns
returns c p code flat most r =
    let k = c.args.store.now in
    let k2 : code_store.Store = record k { globals = with_item k.globals c.args.global c.pop.result } in
    charged_turn r always c.advance.new.stack c.pop.new.self k2 flat c.advance.ensures
    (global_set_steps c.args.global r k2 c.pop.result c.pop.new.self c.pop.ensures.taken refl refl refl refl)
