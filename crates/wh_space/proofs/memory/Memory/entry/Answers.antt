use Rattle.std.proofs.Common.{◌≡◌, ℕ, Option, Some, None, IfSome, slice_get}
use Rattle.wh_content.specs.declared.entry.ContentEntry.{ContentEntry}
use Rattle.wh_content.specs.Marks.{frame_of_entry, mark_of_entry}
use Rattle.wh_space_model.specs.{IsTaken, Space, IsSound}
use Rattle.wh_space.specs.Parts.{space_of}
use Rattle.wh_space.proofs.Merges.{entry_taken}
use Rattle.wh_space.proofs.memory.Memory.entry.Goals as goal

each_taken : (s : Space) (hash : ℕ) (o : Option ContentEntry) → IsSound s → IfSome o (λ e. slice_get s.marks (frame_of_entry e) ≡ Some (mark_of_entry hash e)) → IfSome o (λ e. IsTaken s.pool (frame_of_entry e))
each_taken s hash None sound found = found
each_taken s hash (Some e) sound found = entry_taken s hash e sound found

pub returns-clause-taken : goal.returns-clause-taken
returns-clause-taken c = rw (← c.self.view_is) (each_taken (space_of c.self.inside) c.args.hash c.look.result c.self.invariant.sound c.look.ensures.found)
