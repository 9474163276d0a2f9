use Rattle.std.proofs.Common.{◌≡◌, take}
use Rattle.wolqedir.specs.Transcribed.{all_words}
use Rattle.wolqedir.proofs.transcripts.words_of.Given as goal

abbrev pub invariant-loop-call : goal.invariant-loop-call
invariant-loop-call l = l.words.items ≡ all_words (take l.call-index l.calls)
