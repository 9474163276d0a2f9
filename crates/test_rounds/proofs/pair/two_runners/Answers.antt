use Rattle.std.proofs.Common.{◌≡◌, [], ◌∷◌, zero, suc, sym, subst}
use Rattle.wh_host.specs.declared.rounds.Runner.{Runner}
use Rattle.wh_host.specs.Rounds.{AllAreFree, IsFree}
use Rattle.test_rounds.proofs.pair.two_runners.Goals as goal

both_free : (y z : Runner) → IsFree y → IsFree z → AllAreFree (y ∷ z ∷ [])
both_free y z one other zero a there = let e : y ≡ a = cc there in subst IsFree e one
both_free y z one other (suc zero) a there = let e : z ≡ a = cc there in subst IsFree e other
both_free y z one other (suc (suc k)) a there = absurd (cc there)

pub returns : goal.returns
returns c =
    subst AllAreFree (sym c.in_ok-from_array.ensures.items) (both_free c.in_ok-one.one c.in_ok-other.other c.in_ok-one.ensures.0 c.in_ok-other.ensures.0)
