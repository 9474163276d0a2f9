-- Names, and the chains through which they are found.
use Rattle.std.specs.Prelude.{ℕ, ◌≡◌, ◌<◌, ◌≤◌, ◌^◌, List, length}
use Rattle.wh_names.specs.NameChains.{AreNameChains}
use Rattle.wh_names.specs.NameHash.{bucket_at}
use Rattle.wh_names.specs.NamePlaces.{AreNamedOnce}
use Rattle.wh_names.specs.declared.chains.Chains.{Chains}
use Rattle.wh_names.specs.declared.names.Names.TheInside.{Inside}

-- There are no fewer buckets than names, and the chains are those of the names' hashes.
pub record IsIndex (names : List (List ℕ)) (c : Chains) : Type 0 where
  pub buckets : length names ≤ length c.heads.items
  pub links : length c.links.items ≡ length names
  pub chains : AreNameChains (bucket_at names (length c.heads.items)) c.heads.items c.links.items

-- Each name is there once, and is found by its hash.
pub record AreFoundByHash (a : Inside) : Type 0 where
  pub few : length a.texts < 2 ^ 32
  pub apart : AreNamedOnce a.texts
  pub index : IsIndex a.texts a.chains
