use Rattle.std.proofs.Common.{◌≡◌, ◌++◌, take}
use Rattle.std.specs.Vec.{vec_capacity}
use Rattle.wh_control.proofs.words.ValueStack.push_all.Given as goal

abbrev pub invariant-loop-word : goal.invariant-loop-word
invariant-loop-word l = (l.self-inside.items.items ≡ l.initial.self-inside.items.items ++ take l.word-index l.given) × (vec_capacity l.self-inside.items ≡ vec_capacity l.initial.self-inside.items)
