-- A host may cross threads: of what it holds, part by part, nothing is shared but bytes that nobody changes.
use denote.Param.Send.{IsSend, sendable, view_send}
use Rattle.std.proofs.Crossing as std
use Rattle.boxcar.proofs.Sent.{tag_send}
use Rattle.wh_hand.specs.contracts.hand.Hand as Hand
use Rattle.wh_host.specs.contracts.host.Host as Host
use Rattle.wh_host.specs.contracts.parts.InstanceEntry as Entry
use Rattle.wh_host.specs.contracts.parts.LoadedModule as Loaded
use Rattle.wh_space.specs.contracts.memory.Memory as Memory
use Rattle.wh_imports.specs.contracts.linked.Linked as Linked
use Rattle.wh_imports.specs.contracts.records.FuncRecord as FuncRecord
use Rattle.wh_imports.specs.contracts.tags.Tag as Tag
use Rattle.wh_bodies.specs.contracts.table.SideTable as SideTable
use Rattle.wh_bodies.specs.contracts.table.BranchEntry as BranchEntry
use Rattle.wh_imports.specs.contracts.linked.Linked.TheInside as InLinked
use Rattle.wh_validate.specs.contracts.whole.ValidModule as ValidModule
use Rattle.wh_validate.specs.contracts.whole.ValidModule.TheInside as InValidModule
use Rattle.wh_syntax.specs.contracts.module.FuncType as FuncType
use Rattle.wh_syntax.specs.contracts.module.Body as Body
use Rattle.wh_syntax.specs.contracts.expr.Expr as Expr
use Rattle.wh_syntax.specs.contracts.expr.Expr.TheInside as InExpr
use Rattle.wh_syntax.specs.contracts.instr.Instr as Instr
use Rattle.wh_swap.specs.contracts.memory.MemSwap as Swap

type_send : IsSend FuncType.the_row
type_send = search (sendable, std.crosses) depth 100 fits 50000

instr_send : IsSend Instr.the_row
instr_send = search sendable depth 100 fits 50000

expr_inside : IsSend InExpr.the_row
expr_inside = search (sendable, std.crosses, instr_send) depth 100 fits 50000

expr_send : IsSend Expr.the_row
expr_send = view_send InExpr.the_row _ _ _ _ expr_inside

body_send : IsSend Body.the_row
body_send = search (sendable, std.crosses, expr_send) depth 100 fits 50000

target_send : IsSend BranchEntry.the_row
target_send = search sendable depth 100 fits 50000

side_send : IsSend SideTable.the_row
side_send = search (sendable, std.crosses, target_send) depth 100 fits 50000

valid_inside : IsSend InValidModule.the_row
valid_inside = search (sendable, std.crosses, type_send, expr_send, body_send, side_send) depth 100 fits 50000

valid_send : IsSend ValidModule.the_row
valid_send = view_send InValidModule.the_row _ _ _ _ valid_inside

tag_kind_send : IsSend Tag.the_row
tag_kind_send = search sendable depth 1000 fits 100000

record_send : IsSend FuncRecord.the_row
record_send = search (sendable, std.crosses, tag_kind_send) depth 100 fits 50000

linked_inside : IsSend InLinked.the_row
linked_inside = search (sendable, std.crosses, valid_send, record_send) depth 100 fits 50000

linked_send : IsSend Linked.the_row
linked_send = view_send InLinked.the_row _ _ _ _ linked_inside

loaded_send : IsSend Loaded.the_row
loaded_send = search (sendable, std.crosses, linked_send) depth 100 fits 50000

entry_send : IsSend Entry.the_row
entry_send = search (sendable, std.crosses, tag_send) depth 100 fits 50000

memory_send : IsSend Memory.the_row
memory_send = search (sendable, std.crosses, tag_send) depth 100 fits 50000

swap_send : IsSend Swap.the_row
swap_send = search (sendable, std.crosses, tag_send) depth 100 fits 50000

host_send : IsSend Host.the_row
host_send = search (sendable, std.crosses, loaded_send, entry_send, memory_send) depth 100 fits 50000

pub hand_send : IsSend Hand.the_row
hand_send = search (sendable, std.crosses, host_send, swap_send) depth 100 fits 50000
