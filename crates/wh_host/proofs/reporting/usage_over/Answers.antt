use Rattle.std.proofs.Common.{◌≡◌, ℕ, ◌-◌, length, refl, rules}
use Rattle.wh_space_model.specs.declared.Tax.{Tax}
use Rattle.wh_space_model.specs.{Space}
use Rattle.wh_host.specs.Reporting.{all_sharers, shared_frames, usage_with}
use Rattle.wh_host.proofs.Reports.{few_vacant}
use Rattle.wh_host.proofs.Sharings.{frames_shared, pages_sharing}
use Rattle.wh_host.proofs.reporting.usage_over.Goals as goal

same_numbers : (s : Space) (live frames used slots used_slots shared sharers : ℕ) (tax : Tax) → frames ≡ length s.pool.frames → used ≡ length s.pool.frames - length s.pool.free → slots ≡ length s.slots.uses → used_slots ≡ length s.slots.uses - length s.slots.vacant
    → shared ≡ shared_frames s → sharers ≡ all_sharers s → tax ≡ s.tax → record { frames = frames; used_frames = used; slots = slots; used_slots = used_slots; shared_frames = shared; sharers = sharers; tax = tax; instances = live } ≡ usage_with s live
same_numbers s live frames used slots used_slots shared sharers tax e1 e2 e3 e4 e5 e6 e7 = rw e1 (rw e2 (rw e3 (rw e4 (rw e5 (rw e6 (rw e7 refl))))))

pub overflow_sub-result : goal.overflow_sub-result
overflow_sub-result c = search (rules, few_vacant)

pub returns : goal.returns
returns c = search (rules, same_numbers, frames_shared, pages_sharing)
