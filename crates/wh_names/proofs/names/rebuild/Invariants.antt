use Rattle.std.proofs.Common.{◌≡◌, length, vec_capacity}
use Rattle.wh_names.specs.NameChains.{AreNameChains}
use Rattle.wh_names.specs.NameHash.{bucket_at}
use Rattle.wh_names.proofs.names.rebuild.Given as goal

-- n names are in the chains
abbrev pub invariant-loop-place : goal.invariant-loop-place
invariant-loop-place l = record {
  links : length l.chains.links.items ≡ l.place;
  heads : length l.chains.heads.items ≡ length l.fn.chains.heads.items;
  capacity : vec_capacity l.chains.links ≡ vec_capacity l.fn.chains.links;
  chains : AreNameChains (bucket_at l.texts (length l.fn.chains.heads.items)) l.chains.heads.items l.chains.links.items;
}
