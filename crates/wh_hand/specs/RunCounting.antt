-- What a run adds to the counts of its host.
use Rattle.std.specs.Prelude.{◌≡◌, ◌+◌, ◌%◌, ◌^◌, ℕ}
use Rattle.wh_host.specs.declared.counts.HostCounts.{HostCounts}

-- modulo 2^64 just so many charges more are counted, and no fault of the device
pub record CountsRun (n : HostCounts) (charges : ℕ) (n2 : HostCounts) : Type 0 where
  pub charged : n2.charges % 2 ^ 64 ≡ (n.charges + charges) % 2 ^ 64
  pub faults : n2.faults ≡ n.faults
