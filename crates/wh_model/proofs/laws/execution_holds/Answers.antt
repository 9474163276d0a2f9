use Rattle.wh_model.proofs.Chains.{one_reduction, small_charges, uncharged_end, settles, one_after, after_joins, after_splits}
use Rattle.wh_model.proofs.Asked.{one_need}
use Rattle.wh_model.proofs.laws.execution_holds.Goals as goal

pub returns-clause-one_reduction : goal.returns-clause-one_reduction
returns-clause-one_reduction c = one_reduction

pub returns-clause-small_charges : goal.returns-clause-small_charges
returns-clause-small_charges c = small_charges

pub returns-clause-uncharged_end : goal.returns-clause-uncharged_end
returns-clause-uncharged_end c = uncharged_end

pub returns-clause-settles : goal.returns-clause-settles
returns-clause-settles c = settles

pub returns-clause-one_after : goal.returns-clause-one_after
returns-clause-one_after c = one_after

pub returns-clause-after_joins : goal.returns-clause-after_joins
returns-clause-after_joins c = after_joins

pub returns-clause-after_splits : goal.returns-clause-after_splits
returns-clause-after_splits c = after_splits

pub returns-clause-one_need : goal.returns-clause-one_need
returns-clause-one_need c = one_need
