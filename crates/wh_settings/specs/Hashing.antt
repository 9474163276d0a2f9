-- What the hashes that settings name make of bytes.
use Rattle.std.specs.Prelude.{ℕ, List}
use Rattle.wh_space_model.specs.Hash.{fnv64}
use Rattle.wh_script_model.specs.Settings.{PageHashing, by_fnv64, by_constant}

abbrev pub hashes_by : PageHashing → List ℕ → ℕ
hashes_by by_fnv64 bytes = fnv64 bytes
hashes_by by_constant bytes = 0
