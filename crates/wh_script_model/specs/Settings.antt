-- What a host is run with: settings, and what they are where nothing is said.
use Rattle.std.specs.Prelude.{ℕ, List, Option, None}

-- by which hash equal pages are looked for: FNV-1a of 64 bits, or the constant 0
pub data PageHashing : Type 0 where
  by_fnv64 : PageHashing
  by_constant : PageHashing

-- Frames of memory, slots of the swap device, the tax num / den on idle pages, the greatest number of charges of a
-- turn, the hash, and the path of the file to which pages are swapped; without one they are swapped to memory.
pub record Settings : Type 0 where
  pub frames : ℕ
  pub slots : ℕ
  pub num : ℕ
  pub den : ℕ
  pub quantum : ℕ
  pub hash : PageHashing
  pub swap : Option (List ℕ)

abbrev pub default_settings : Settings
default_settings = record {
  frames = 1024;
  slots = 4096;
  num = 3;
  den = 4;
  quantum = 1000;
  hash = by_fnv64;
  swap = None;
}
