use Rattle.std.proofs.Common.{refl, subst, sym}
use Rattle.wh_script_model.specs.{IsHex}
use Rattle.wh_commands.proofs.Asking.{two}
use Rattle.wh_commands.proofs.Hex.{read_same}
use Rattle.wh_commands.proofs.reading.keep.Goals as goal

pub returns-clause-ok : goal.returns-clause-ok
returns-clause-ok c =
    let name = c.in_ok-name.ensures.ok in
    let hex = c.in_ok-hex.ensures.ok in
    let is = hex.1 in
    let same = read_same c.in_ok-hex.hex.now is.1.0 c.in-Ok.bytes.items is.1.1 c.in-Ok.ensures.ok in
    (refl, (c.in_ok-hex.hex.now, two _ _ _ _ _ name.0 hex.0 c.in_ok-end.ensures.ok, name.1, is.0, subst (IsHex c.in_ok-hex.hex.now) (sym same) is.1.1))
