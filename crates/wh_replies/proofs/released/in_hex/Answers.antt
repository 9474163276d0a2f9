use Rattle.std.proofs.Common.{◌≡◌, arith, string_bytes}
use Rattle.hex.specs.Hex.{encode_lower}
use Rattle.wh_script_model.specs.{hex_text}
use Rattle.wh_replies.proofs.Hex.{encoded_so, weaker}
use Rattle.wh_replies.proofs.released.in_hex.Goals as goal

pub returns : goal.returns
returns c =
    weaker (λ text. string_bytes text ≡ encode_lower c.args.output.now)
    (λ text. string_bytes text ≡ hex_text c.args.output.now) c.encode.result
    (λ text e. encoded_so c.args.output.now (string_bytes text) (λ i. omega (arith, c.type_inv.output i)) e)
    c.encode.ensures
