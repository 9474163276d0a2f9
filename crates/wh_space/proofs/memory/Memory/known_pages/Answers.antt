use Rattle.std.proofs.Common.{rules}
use Rattle.std.proofs.lemmas.List.{length-map}
use Rattle.wh_space.proofs.Fetching.{few_resident}
use Rattle.wh_space.proofs.memory.Memory.known_pages.Goals as goal

pub returns : goal.returns
returns c = search (rules, length-map, few_resident)
