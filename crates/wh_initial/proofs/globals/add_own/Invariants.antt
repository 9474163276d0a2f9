use Rattle.std.proofs.Common.{◌≡◌, ◌++◌, map, take}
use Rattle.wh_initial.specs.ConstantWords.{word_in}
use Rattle.wh_initial.specs.InBasis.{host_words_in}
use Rattle.wh_initial.proofs.globals.add_own.Given as goal

-- the words of those that were looked at
abbrev pub invariant-loop-global : goal.invariant-loop-global
invariant-loop-global l = l.words.items ≡ l.fn.words.items ++ map (λ g. word_in (host_words_in l.basis) g.init)
    (take l.global-index l.basis.module.now.globals.items)
