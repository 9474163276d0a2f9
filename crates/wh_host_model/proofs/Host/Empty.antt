-- A host in which nothing was loaded or admitted.
use Rattle.std.proofs.Common.{ℕ}
use Rattle.wh_space_model.specs.declared.Tax.{Tax}
use Rattle.wh_host_model.specs.Host.{empty_world}
use Rattle.wh_space_model.proofs.Chained.{empty_sound}
use Rattle.wh_host_model.proofs.Host.Running.{IsGood}

pub good_empty : (frames slots : ℕ) (tax : Tax) → IsGood (empty_world frames slots tax)
good_empty frames slots tax = record {
  sound = empty_sound frames slots tax;
  modules = λ k l x. absurd (cc x);
  apart = λ i j a b x y e. absurd (cc x);
  owned = λ place c x. absurd (cc x);
  each = λ i t x. absurd (cc x);
}
