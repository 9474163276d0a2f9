-- What a turn leaves of the memory of all, by what the instance came to.
use Rattle.std.proofs.Common.{◌≡◌, ℕ, inl, inr, true, false, sym, subst}
use Rattle.wh_host_model.specs.declared.plain.TurnEnd.{TurnEnd}
use Rattle.wh_space_model.specs.{Space}
use Rattle.wh_instance.specs.declared.stages.TurnResult.{TurnResult}
use Rattle.wh_instance.specs.declared.stages.TurnResult.TheVariants as turned
use Rattle.wh_space.specs.InstanceSteps.{TakesSteps}
use Rattle.wh_host.specs.Left.{LeavesTurned}
use Rattle.wh_host.specs.Lent.{settled_in, turn_end_of}

turned_so : (i : ℕ) (made : TurnResult) (s mid s2 : Space) → TakesSteps i s mid → s2 ≡ settled_in mid i made → LeavesTurned i (turn_end_of made) s s2
turned_so i turned.Kept s mid s2 steps is = (mid, steps, inl is)
turned_so i turned.Ended s mid s2 steps is = (mid, steps, is)
turned_so i turned.Fuel s mid s2 steps is = (mid, steps, is)
turned_so i (turned.Frame need true) s mid s2 steps is = (mid, steps, (need, inl is))
turned_so i (turned.Frame need false) s mid s2 steps is = (mid, steps, (need, inr is))
turned_so i (turned.Again true) s mid s2 steps is = (mid, steps, inr (inl is))
turned_so i (turned.Again false) s mid s2 steps is = (mid, steps, inr (inr is))

pub turned_memory : (i : ℕ) (made : TurnResult) (end : TurnEnd) (s mid s2 : Space) → TakesSteps i s mid → end ≡ turn_end_of made → s2 ≡ settled_in mid i made → LeavesTurned i end s s2
turned_memory i made end s mid s2 steps same is = subst (λ e. LeavesTurned i e s s2) (sym same) (turned_so i made s mid s2 steps is)
