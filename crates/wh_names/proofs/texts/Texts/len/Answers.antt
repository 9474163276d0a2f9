use Rattle.std.proofs.Common.{arith, length, ap}
use Rattle.wh_names.proofs.Cutting.{many}
use Rattle.wh_names.proofs.texts.Texts.len.Goals as goal

pub returns : goal.returns
returns c =
    let all = many c.self.inside.bytes.items 0 c.self.inside.ends.items in
    let seen = ap length c.self.view_is in
    omega (arith, all, seen)
