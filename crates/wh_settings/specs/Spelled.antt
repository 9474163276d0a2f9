-- Which settings a document in TOML spells.
use Rattle.std.specs.Prelude.{◌≡◌, ℕ, ◌<◌, ◌≤◌, ◌⊎◌, List, length, Option, Some, None, codes, pos, IsUtf8}
use Rattle.toml.specs.Data.{string, integer, Members, no_members, member, get_member}
use Rattle.toml.specs.Parse.{parse_document}
use Rattle.wh_script_model.specs.Settings.{PageHashing, by_fnv64, by_constant, Settings, default_settings}

-- the keys that there are
abbrev pub IsKnownKey : List ℕ → Type 0
IsKnownKey key =
    (key ≡ codes "frames") ⊎ (key ≡ codes "slots") ⊎ (key ≡ codes "tax_num") ⊎ (key ≡ codes "tax_den")
    ⊎ (key ≡ codes "quantum") ⊎ (key ≡ codes "hash") ⊎ (key ≡ codes "swap")

-- it has no other ones
abbrev pub HasKnownKeys : Members → Type 0
HasKnownKeys no_members = Unit {0}
HasKnownKeys (member key value rest) = IsKnownKey key × HasKnownKeys rest

-- a number: what the key has, or this one where the key isn't there
abbrev pub HasNumber : Members → List ℕ → ℕ → ℕ → Type 0
HasNumber document key otherwise n =
    (get_member key document ≡ Some (integer (pos n))) ⊎ ((get_member key document ≡ None) × (n ≡ otherwise))

-- and it is from the least to the greatest
pub record SetsNumber (document : Members) (key : List ℕ) (otherwise least most n : ℕ) : Type 0 where
  pub has : HasNumber document key otherwise n
  pub above : least ≤ n
  pub within : n ≤ most

-- the tax is below 1
pub record SetsTax (document : Members) (num den : ℕ) : Type 0 where
  pub sets_num : SetsNumber document (codes "tax_num") default_settings.num 0 999 num
  pub sets_den : SetsNumber document (codes "tax_den") default_settings.den 1 1000 den
  pub below : num < den

-- the words for hashes
abbrev pub hash_word : PageHashing → List ℕ
hash_word by_fnv64 = codes "fnv64"
hash_word by_constant = codes "constant"

abbrev pub SetsHash : Members → List ℕ → PageHashing → PageHashing → Type 0
SetsHash document key otherwise hash =
    (get_member key document ≡ Some (string (hash_word hash)))
    ⊎ ((get_member key document ≡ None) × (hash ≡ otherwise))

-- a path: a text that isn't empty, or none where the key isn't there
abbrev pub SetsPath : Members → List ℕ → Option (List ℕ) → Type 0
SetsPath document key (Some path) = (get_member key document ≡ Some (string path)) × (0 < length path)
SetsPath document key None = get_member key document ≡ None

-- A document has no other keys, and a value of its type and within its range at each key that it has; what it doesn't
-- have is as it is by default.
pub record HasSettings (document : Members) (s : Settings) : Type 0 where
  pub known : HasKnownKeys document
  pub frames : SetsNumber document (codes "frames") default_settings.frames 2 262144 s.frames
  pub slots : SetsNumber document (codes "slots") default_settings.slots 1 1048576 s.slots
  pub tax : SetsTax document s.num s.den
  pub quantum : SetsNumber document (codes "quantum") default_settings.quantum 1 1000000 s.quantum
  pub hash : SetsHash document (codes "hash") default_settings.hash s.hash
  pub swap : SetsPath document (codes "swap") s.swap

-- the bytes are a document in TOML, which spells these settings
pub record SpellsSettings (bytes : List ℕ) (s : Settings) : Type 0 where
  pub is_text : IsUtf8 bytes
  pub document : Members
  pub reads : parse_document bytes ≡ Some document
  pub spells : HasSettings document s
