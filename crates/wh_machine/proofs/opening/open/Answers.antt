use Rattle.std.proofs.Common.{ap, length, reverse, arith}
use Rattle.std.proofs.lemmas.List.{length-append, length-reverse}
use Rattle.wh_machine.proofs.opening.open.Goals as goal

pub push_all-requires : goal.push_all-requires
push_all-requires c =
    let g = c.requires.there in
    let few = c.requires.few g.0 g.1 in
    let params = c.requires.params g.0 g.1 in
    let none = ap length c.clear.ensures in
    omega (arith, few, params, none)

pub push_zeros-requires : goal.push_zeros-requires
push_zeros-requires c =
    let g = c.requires.there in
    let few = c.requires.few g.0 g.1 in
    let params = c.requires.params g.0 g.1 in
    let none = ap length c.clear.ensures in
    let size = (c.frame_size-params.ensures g.0 g.1).1 in
    let all = ap length c.push_all.ensures in
    let both = length-append (reverse c.args.args.now) c.clear.new.self in
    let given = length-reverse c.args.args.now in
    omega (arith, few, params, none, size, all, both, given)

pub overflow_add-stack : goal.overflow_add-stack
overflow_add-stack c =
    let g = c.requires.there in
    let few = c.requires.few g.0 g.1 in
    let sizes = c.frame_size-params.ensures g.0 g.1 in
    omega (arith, few, sizes.0, sizes.1)
