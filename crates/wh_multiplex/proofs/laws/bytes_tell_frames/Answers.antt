use Rattle.wh_multiplex.proofs.Spelled.{frames_told}
use Rattle.wh_multiplex.proofs.laws.bytes_tell_frames.Goals as goal

pub returns : goal.returns
returns c = frames_told
