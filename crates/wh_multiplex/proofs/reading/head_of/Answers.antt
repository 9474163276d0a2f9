-- Nine bytes, the fifth of which has a kind's number, are a head.
use Rattle.std.proofs.Common.{◌≡◌, ◌-◌, Fits, w8, length, get_or, drop, sym, ap, ◌∙◌, arith}
use Rattle.byteorder.specs.Endian.{little_number}
use Rattle.byteorder.specs.Numbers.{little_from-take}
use Rattle.wh_multiplex.specs.StreamFrames.{head_bytes}
use Rattle.wh_multiplex.proofs.Spelled.{head_read}
use Rattle.wh_multiplex.proofs.reading.head_of.Goals as goal

pub returns-clause-ok : goal.returns-clause-ok
returns-clause-ok c =
    let xs = c.args.bytes.now in
    let kind = c.in-Some.kind in
    let count : c.read_u32-count.result ≡ little_number 4 (drop 5 xs) = c.read_u32-count.ensures ∙ little_from-take 0 4 (length xs - 5) (drop 5 xs) (omega (arith, c.requires)) in (
      head_read xs kind c.requires (λ k. let h : Fits w8 (get_or xs k 0) = c.type_inv.bytes k in omega arith) c.in-Some.ensures ∙ ap (λ n. head_bytes n kind (little_number 4 (drop 5 xs))) (sym c.read_u32.ensures) ∙ ap (λ n. head_bytes c.read_u32.result kind n) (sym count),
      omega arith,
      omega arith,
    )
