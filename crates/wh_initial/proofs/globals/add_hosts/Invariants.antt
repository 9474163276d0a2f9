use Rattle.std.proofs.Common.{◌≡◌, ◌++◌, take}
use Rattle.wh_initial.specs.InBasis.{host_words_in}
use Rattle.wh_initial.proofs.globals.add_hosts.Given as goal

-- the words of those that were looked at
abbrev pub invariant-loop-at : goal.invariant-loop-at
invariant-loop-at l = l.words.items ≡ l.fn.words.items ++ take l.at (host_words_in l.basis)
