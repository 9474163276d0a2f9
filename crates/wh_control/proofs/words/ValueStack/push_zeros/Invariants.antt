use Rattle.std.proofs.Common.{◌≡◌, ◌++◌, replicate}
use Rattle.std.specs.Vec.{vec_capacity}
use Rattle.wh_control.proofs.words.ValueStack.push_zeros.Given as goal

abbrev pub invariant-loop : goal.invariant-loop
invariant-loop l = (l.self-inside.items.items ≡ l.initial.self-inside.items.items ++ replicate l.counter 0) × (vec_capacity l.self-inside.items ≡ vec_capacity l.initial.self-inside.items)
