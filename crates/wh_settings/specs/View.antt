-- Settings as the definitions see them.
use Rattle.std.specs.Prelude.{option_map, string_bytes}
use Rattle.wh_script_model.specs.Settings as host
use Rattle.wh_script_model.specs.Settings.{PageHashing, by_fnv64, by_constant}
use Rattle.wh_settings.specs.declared.settings.HashKind.{HashKind}
use Rattle.wh_settings.specs.declared.settings.HashKind.TheVariants.{Fnv64, Constant}
use Rattle.wh_settings.specs.declared.settings.Settings.{Settings}

abbrev pub hashing_of : HashKind → PageHashing
hashing_of Fnv64 = by_fnv64
hashing_of Constant = by_constant

abbrev pub settings_of : Settings → host.Settings
settings_of s = record {
  frames = s.frames;
  slots = s.slots;
  num = s.tax.num;
  den = s.tax.den;
  quantum = s.quantum;
  hash = hashing_of s.hash;
  swap = option_map string_bytes s.swap;
}
