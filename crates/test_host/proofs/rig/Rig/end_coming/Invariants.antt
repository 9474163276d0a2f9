use Rattle.std.proofs.Common.{◌≡◌, vec_len}
use Rattle.test_host.proofs.rig.Rig.end_coming.Given as goal

abbrev pub invariant-loop-self : goal.invariant-loop-self
invariant-loop-self l = vec_len l.self.leaving ≡ vec_len l.fn.self.leaving

abbrev pub decreases-loop-self : goal.decreases-loop-self
decreases-loop-self l = vec_len l.self.coming
