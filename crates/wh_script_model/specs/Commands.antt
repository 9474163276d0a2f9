-- What a line of a script asks for.
use Rattle.std.specs.Prelude.{◌≡◌, ℕ, List, [], ◌∷◌, ℤ, codes}
use Rattle.std.specs.List.{AllZip}
use Rattle.wh_model.specs.declared.ValType.TheVariants.{I32, I64}
use Rattle.wh_script_model.specs.Lines.{IsName, IsWord}
use Rattle.wh_script_model.specs.Hex.{IsHex}
use Rattle.wh_host_model.specs.Owners.{Params}
use Rattle.wh_script_model.specs.Words.{words_of, IsNumber, IsCount, IsBits}

-- what there is to ask for
pub data Command : Type 0 where
  -- to keep the module of these bytes under the name
  keep : (name bytes : List ℕ) → Command
  -- to keep the module of this file under the name
  load : (name path : List ℕ) → Command
  -- to admit an instance of the module of this name
  admit : (inst of : List ℕ) (params : Params) → Command
  -- to call the function that is exported by this name
  invoke : (inst export : List ℕ) (fuel : ℕ) (args : List ℤ) → Command
  -- to run all calls until none can go on
  drain : Command
  -- to give the present call more fuel, to end it, to try again where a device failed
  refuel : (inst : List ℕ) (fuel : ℕ) → Command
  cancel : (inst : List ℕ) → Command
  retry : (inst : List ℕ) → Command
  -- to merge equal pages
  scan : Command
  -- to show memory and instances
  report : Command
  -- to end the instance, and show its output
  release : (inst : List ℕ) → Command

-- the first word of a line that asks for it
abbrev pub verb : Command → List ℕ
verb (keep name bytes) = codes "module"
verb (load name path) = codes "load"
verb (admit inst of params) = codes "admit"
verb (invoke inst export fuel args) = codes "invoke"
verb drain = codes "drain"
verb (refuel inst fuel) = codes "refuel"
verb (cancel inst) = codes "cancel"
verb (retry inst) = codes "retry"
verb scan = codes "scan"
verb report = codes "report"
verb (release inst) = codes "release"

-- SHARES MIN MAX FUEL BASE SALT [INPUT ..]
pub record AreParams (words : List (List ℕ)) (p : Params) : Type 0 where
  pub shares : List ℕ
  pub min : List ℕ
  pub max : List ℕ
  pub fuel : List ℕ
  pub base : List ℕ
  pub salt : List ℕ
  pub inputs : List (List ℕ)
  pub are : words ≡ shares ∷ min ∷ max ∷ fuel ∷ base ∷ salt ∷ inputs
  pub is_shares : IsCount shares p.shares
  pub is_min : IsCount min p.min
  pub is_max : IsCount max p.max
  pub is_fuel : IsCount fuel p.fuel
  pub is_base : IsBits I32 base p.base
  pub is_salt : IsBits I64 salt p.salt
  pub are_inputs : AllZip (IsBits I64) inputs p.inputs

-- the words after the first
abbrev pub Follow : Command → List (List ℕ) → Type 0
-- NAME HEX
Follow (keep name bytes) words =
    (hex : List ℕ) × (words ≡ name ∷ hex ∷ []) × IsName name × IsWord hex × IsHex hex bytes
-- NAME PATH
Follow (load name path) words = (words ≡ name ∷ path ∷ []) × IsName name × IsWord path
-- INST MODULE SHARES MIN MAX FUEL BASE SALT [INPUT ..]
Follow (admit inst of params) words =
    (rest : List (List ℕ)) × (words ≡ inst ∷ of ∷ rest) × IsName inst × IsName of × AreParams rest params
-- INST EXPORT FUEL [ARG ..]
Follow (invoke inst export fuel args) words =
    (word : List ℕ) × (numbers : List (List ℕ)) × (words ≡ inst ∷ export ∷ word ∷ numbers)
    × IsName inst × IsWord export × IsCount word fuel × AllZip IsNumber numbers args
-- INST N
Follow (refuel inst fuel) words = (word : List ℕ) × (words ≡ inst ∷ word ∷ []) × IsName inst × IsCount word fuel
-- INST
Follow (cancel inst) words = (words ≡ inst ∷ []) × IsName inst
Follow (retry inst) words = (words ≡ inst ∷ []) × IsName inst
Follow (release inst) words = (words ≡ inst ∷ []) × IsName inst
-- nothing
Follow drain words = words ≡ []
Follow scan words = words ≡ []
Follow report words = words ≡ []

-- the line asks for it
abbrev pub AsksCommand : List ℕ → Command → Type 0
AsksCommand line command = (words : List (List ℕ)) × (words_of line ≡ verb command ∷ words) × Follow command words
