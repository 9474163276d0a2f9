use Rattle.std.proofs.Common.{refl}
use Rattle.std.proofs.lemmas.Option.{slice_get_within}
use Rattle.wh_machine.proofs.Seeing.{silent_instr, silent_asks_nothing}
use Rattle.wh_machine.proofs.Dispatching.{is_next}
use Rattle.wh_machine.proofs.asking.asks_next.Goals as goal

pub instr_at-requires : goal.instr_at-requires
instr_at-requires g c = slice_get_within c.args.code.instrs.now c.args.stack.now.frame.place c.requires.0 c.requires.1.here

pub asks_load-requires : goal.asks_load-requires
asks_load-requires g c = (_, _, _, is_next c.requires c.instr_at.ensures c.in-Load.is)

pub asks_store-requires : goal.asks_store-requires
asks_store-requires g c = (_, _, _, is_next c.requires c.instr_at.ensures c.in-Store.is)

pub asks_call-requires : goal.asks_call-requires
asks_call-requires g c = (_, is_next c.requires c.instr_at.ensures c.in-Call.is)

pub asks_call_indirect-requires : goal.asks_call_indirect-requires
asks_call_indirect-requires g c = (_, is_next c.requires c.instr_at.ensures c.in-CallIndirect.is)

pub returns-in-Load : goal.returns-in-Load
returns-in-Load g c = c.asks_load.ensures _ _ _ (is_next c.requires c.instr_at.ensures c.in-Load.is)

pub returns-in-Store : goal.returns-in-Store
returns-in-Store g c = c.asks_store.ensures _ _ _ (is_next c.requires c.instr_at.ensures c.in-Store.is)

pub returns-in-Call : goal.returns-in-Call
returns-in-Call g c = c.asks_call.ensures

pub returns-in-CallIndirect : goal.returns-in-CallIndirect
returns-in-CallIndirect g c = c.asks_call_indirect.ensures

pub returns-in_default : goal.returns-in_default
returns-in_default g c = silent_asks_nothing c.instr_at.result.now (is_next c.requires c.instr_at.ensures refl) (silent_instr c.instr_at.result.now c.in_default.not-Call c.in_default.not-CallIndirect c.in_default.not-Load c.in_default.not-Store c.args.code.labels.now)
