use Rattle.std.proofs.Common.{◌∙◌}
use Rattle.wh_routes.proofs.Digests.{hex_none, other_letters, read_bytes}
use Rattle.wh_routes.proofs.names.digest_in.Goals as goal

pub returns-in_default-clause-none : goal.returns-in_default-clause-none
returns-in_default-clause-none c = hex_none c.args.text.now _ _ c.from_hex.ensures c.in_default.is

pub returns-then-not-is_same-clause-none : goal.returns-then-not-is_same-clause-none
returns-then-not-is_same-clause-none c =
    other_letters c.args.text.now c.encode_to_slice.new.output c.in-Ok.digest _ c.from_hex.ensures c.in-Ok.is
    c.in-Ok-encode_to_slice.ensures.written c.if-not-is_same.ensures

pub returns-clause-some : goal.returns-clause-some
returns-clause-some c = record {
  sized = (read_bytes c.args.text.now c.in-Ok.digest _ c.from_hex.ensures c.in-Ok.is).0;
  bytes = (read_bytes c.args.text.now c.in-Ok.digest _ c.from_hex.ensures c.in-Ok.is).1;
  spelled = c.if-not-is_same.ensures ∙ c.in-Ok-encode_to_slice.ensures.written;
}
