use Rattle.std.proofs.Common.{◌<◌, sym, subst}
use Rattle.std.proofs.lemmas.Option.{slice_get_read}
use Rattle.wh_machine.specs.Alone.{always}
use Rattle.wh_machine.proofs.ExecutingLemmas.{place_fits}
use Rattle.wh_machine.proofs.Accessing.{StepsTo, charged_turn, global_get_needs, global_get_steps}
use Rattle.wh_machine.proofs.accesses.exec_global_get.Goals as goal

pub index-requires : goal.index-requires
index-requires c = subst (λ n. c.args.global < n) (sym c.args.store.now.globals.ok.0) (global_get_needs c.args.global c.requires.4).0

pub push-requires : goal.push-requires
push-requires c = (global_get_needs c.args.global c.requires.4).1

pub advance-requires : goal.advance-requires
advance-requires c = place_fits c.requires.4

pub returns : goal.returns
returns c p code flat most r =
    let v = c.args.store.now.globals in
    let word = slice_get_read v.items v.len c.args.global c.index.result.now v.ok.0 (subst (λ n. c.args.global < n) (sym v.ok.0) (global_get_needs c.args.global c.requires.4).0) c.index.ensures in
    charged_turn r always c.advance.new.stack c.push.new.self c.args.store.now flat c.advance.ensures
    (subst (λ words. StepsTo r words c.args.store.now flat) (sym c.push.ensures) (global_get_steps c.args.global r c.index.result.now word))
