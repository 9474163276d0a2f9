-- Calls that have ended, one after the other.
use Rattle.std.specs.Prelude.{List, [], ◌∷◌}
use Rattle.wh_model.specs.Execution.Store.{Instance, Store}
use Rattle.wh_model.specs.Execution.Instance.{Piece}
use Rattle.wh_model.specs.Execution.Replay.{Call, Ends}

-- They lead from one store to another. The pieces are what the next call has to write first.
pub data Past (inst : Instance) : Store → List Piece → List Call → Store → List Piece → Type 0 where
  none_yet : {s : Store} {ps : List Piece} → Past inst s ps [] s ps
  one_more : {s s1 s2 : Store} {ps ps2 : List Piece} {call : Call} {calls : List Call}
      → Ends inst s ps call s1 → Past inst s1 [] calls s2 ps2 → Past inst s ps (call ∷ calls) s2 ps2
