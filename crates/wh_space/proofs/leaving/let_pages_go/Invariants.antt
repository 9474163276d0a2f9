use Rattle.std.proofs.Common.{◌≡◌, [], drop, get_or}
use Rattle.wh_space.specs.Leaving.{CanAllGo, pages_gone}
use Rattle.wh_space.specs.Slotting.{CanLeaveSlots, slots_gone}
use Rattle.wh_space.proofs.leaving.let_pages_go.Given as goal

-- the pages that are left can go, and leave what all leave
abbrev pub invariant-loop-number : goal.invariant-loop-number
invariant-loop-number l = let left = drop l.number (get_or l.tables.pages l.place []) in record {
  can : CanAllGo left (record { pool = l.pool; marks = l.content });
  can_slots : CanLeaveSlots left l.slots;
  leaves : pages_gone left (record { pool = l.pool; marks = l.content })
      ≡ pages_gone (get_or l.tables.pages l.place []) (record { pool = l.initial.pool; marks = l.initial.content });
  slots : slots_gone left l.slots ≡ slots_gone (get_or l.tables.pages l.place []) l.initial.slots;
}
