use Rattle.std.proofs.Common.{◌≡◌, ◌-◌, ◌≤◌, length, reverse, map, []}
use Rattle.std.specs.List.{AllByRecursion}
use Rattle.wh_leb.specs.Reading.{with_front}
use Rattle.wh_syntax.specs.Shown.{instr_of, InPool}
use Rattle.wh_expr.specs.ReadingCode.{code_from}
use Rattle.wh_expr.proofs.reader.instructions.Given as goal

abbrev pub invariant-loop-count : goal.invariant-loop-count
invariant-loop-count l = record {
  inside : l.place ≤ length l.bytes;
  paid : length l.labels.items ≤ l.place;
  in_pool : AllByRecursion (InPool l.labels.items) l.instrs.items;
  same : with_front (map (instr_of l.labels.items) l.instrs.items) (code_from (l.most - l.count) (reverse l.stack.items) l.bytes l.place) ≡ code_from l.most [] l.bytes l.fn.at;
}
