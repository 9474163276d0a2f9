-- What an instance begins with (4.5.4), as it is handed out, and why a module has none.
use Rattle.std.specs.Prelude.{◌≡◌, ◌*◌, ◌≤◌, List, [], None, map, replicate}
use Rattle.std.specs.List.{AllByRecursion}
use Rattle.std.specs.Vec.{vec_capacity}
use Rattle.wh_model.specs.Format.Syntax.{Module}
use Rattle.wh_model.specs.Validity.Typing.{Context}
use Rattle.wh_model.specs.Validity.Valid.{IsContext}
use Rattle.wh_model.specs.Execution.Store.{Value, Instance, Store, output_room}
use Rattle.wh_model.specs.Execution.Instance.{Parameters, Piece, Within, filled, fragments, first_size, Prepares, IsInitial, memory_min, segment_bounds, begins}
use Rattle.wh_control.specs.Represents.{bits_of, InRange}
use Rattle.wh_control.specs.Storage.{RepresentsStore}
use Rattle.wh_initial.specs.declared.outcome.Instantiated.{Instantiated}
use Rattle.wh_initial.specs.declared.error.InstantiateError.{InstantiateError}
use Rattle.wh_initial.specs.declared.error.InstantiateError.TheVariants.{MemoryMin, SegmentBounds, Memory}

-- the store that instantiation makes of these globals and elements
abbrev pub first_store : Module → Parameters → List Value → List Piece → Store
first_store m p globals elements = record {
  bytes = replicate (first_size m.memories * 65536) 0;
  globals = globals;
  table = filled (replicate (first_size m.tables) None) elements;
  inputs = p.inputs;
  output = [];
}

-- In the context of the module what is handed out represents a store, over a memory of zeros.
abbrev pub RepresentsFirstStore : Module → Instance → Store → Instantiated → Type 0
RepresentsFirstStore m inst s i =
    (c : Context) → IsContext m c → RepresentsStore c inst i.store (replicate (i.pages * 65536) 0) i.page_limit s

-- An instance begins so: the definition has it, and what is handed out is its store and where its data segments belong.
pub record Instantiates (m : Module) (p : Parameters) (i : Instantiated) : Type 0 where
  pub inst : Instance
  pub globals : List Value
  pub elements : List Piece
  pub segments : List Piece
  pub few_pages : first_size m.memories ≤ p.page_limit
  pub prepares : Prepares m p inst globals elements segments
  pub elements_within : Within (first_size m.tables) elements
  pub segments_within : Within (first_size m.memories * 65536) segments
  pub is_initial : IsInitial m p (begins inst (first_store m p globals elements) (fragments segments))
  pub pages : i.pages ≡ first_size m.memories
  pub page_limit : i.page_limit ≡ inst.page_limit
  pub words : map bits_of globals ≡ i.store.globals.items
  pub in_range : AllByRecursion InRange globals
  pub table : filled (replicate (first_size m.tables) None) elements ≡ i.store.table.items
  pub no_output : i.store.output.items ≡ []
  pub room : output_room ≤ vec_capacity i.store.output
  pub places : map (λ s. s.at) segments ≡ i.places.items
  pub bytes : map (λ s. s.items) segments ≡ map (λ d. d.init) m.segments
  pub represents : RepresentsFirstStore m inst (first_store m p globals elements) i

-- Why there is none. Memory runs out only where the definition has an instance, so no other fault is there.
abbrev pub RefusesInstance : Module → Parameters → InstantiateError → Type 0
RefusesInstance m p MemoryMin = IsInitial m p memory_min
RefusesInstance m p SegmentBounds = IsInitial m p segment_bounds
RefusesInstance m p Memory =
    (inst : Instance) × (s : Store) × (to_write : List Piece) × IsInitial m p (begins inst s to_write)
