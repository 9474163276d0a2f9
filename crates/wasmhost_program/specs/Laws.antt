-- How lines are read, by examples.
use Rattle.std.specs.Prelude.{◌≡◌, List, [], ◌∷◌, Option, Some, None, codes}
use Rattle.clap.specs.Words.{Kinds, Text}
use Rattle.clap.specs.declared.error.kind.ErrorKind.TheVariants.{ArgumentConflict, UnknownArgument, ValueValidation}
use Rattle.wasmhost_program.specs.Accepted.{given_in, line_faults}

-- the words after the program's name are accepted, and this stands in them for the settings, the number of workers and the script
pub record AreReadAs (words : List Text) (settings workers script : Option Text) : Type 0 where
  pub accepted : line_faults (codes "wasmhost" ∷ words) ≡ []
  pub settings_are : given_in (codes "wasmhost" ∷ words) (codes "settings") ≡ settings
  pub workers_are : given_in (codes "wasmhost" ∷ words) (codes "workers") ≡ workers
  pub script_is : given_in (codes "wasmhost" ∷ words) (codes "SCRIPT") ≡ script

-- the words after the program's name aren't
abbrev pub AreNoLine : List Text → Kinds → Type 0
AreNoLine words kinds = line_faults (codes "wasmhost" ∷ words) ≡ kinds

pub record LinesAreRead : Type 0 where
  pub nothing : AreReadAs [] None None None
  pub all :
      AreReadAs (codes "--settings" ∷ codes "a.toml" ∷ codes "--workers" ∷ codes "8" ∷ codes "b.script" ∷ [])
      (Some (codes "a.toml")) (Some (codes "8")) (Some (codes "b.script"))
  pub joined : AreReadAs (codes "--workers=64" ∷ codes "--settings=a.toml" ∷ []) (Some (codes "a.toml")) (Some (codes "64")) None
  pub script_first : AreReadAs (codes "b.script" ∷ codes "--workers" ∷ codes "1" ∷ []) None (Some (codes "1")) (Some (codes "b.script"))
  pub dashed : AreReadAs (codes "--" ∷ codes "--workers" ∷ []) None None (Some (codes "--workers"))
  pub none_at_all : AreNoLine (codes "--workers" ∷ codes "0" ∷ []) (ValueValidation ∷ [])
  pub too_many : AreNoLine (codes "--workers" ∷ codes "65" ∷ []) (ValueValidation ∷ [])
  pub no_number : AreNoLine (codes "--workers" ∷ codes "x" ∷ []) (ValueValidation ∷ [])
  pub twice : AreNoLine (codes "--workers" ∷ codes "1" ∷ codes "--workers" ∷ codes "2" ∷ []) (ArgumentConflict ∷ [])
  pub two_scripts : AreNoLine (codes "a.script" ∷ codes "b.script" ∷ []) (UnknownArgument ∷ [])
