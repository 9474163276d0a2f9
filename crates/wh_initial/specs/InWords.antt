-- What an instance begins with, in words: the definition of instantiation without the types of values.
use Rattle.std.specs.Prelude.{◌≡◌, ℕ, ◌+◌, ◌*◌, ◌<◌, ◌≤◌, List, [], None, length, map, replicate}
use Rattle.std.specs.List.{All}
use Rattle.std.specs.Vec.{vec_capacity}
use Rattle.wh_model.specs.Execution.Store.{output_room}
use Rattle.wh_model.specs.Execution.Instance.{Parameters, filled, first_size, last_size}
use Rattle.wh_model.specs.declared.host.HostGlobal.{HostGlobal}
use Rattle.wh_syntax.specs.declared.module.Module.{Module}
use Rattle.wh_syntax.specs.declared.module.Element.{Element}
use Rattle.wh_syntax.specs.declared.module.Data.{Data}
use Rattle.wh_syntax.specs.View.{view_table, view_limits}
use Rattle.wh_initial.specs.declared.outcome.Instantiated.{Instantiated}
use Rattle.wh_initial.specs.declared.error.InstantiateError.{InstantiateError}
use Rattle.wh_initial.specs.declared.error.InstantiateError.TheVariants.{MemoryMin, SegmentBounds, Memory}
use Rattle.wh_initial.specs.ConstantWords.{word_in, IsSeen, IsOffset, global_words, element_piece}

-- the words of a module's globals
unfoldable pub words_of_globals : Module → List HostGlobal → Parameters → List ℕ
words_of_globals m imported p = global_words p imported m.globals.items

-- a global's own expression sees the imported ones, and offsets see all and are of 32 bits
pub record IsPrepared (m : Module) (imported : List HostGlobal) (p : Parameters) : Type 0 where
  pub globals : All (λ g. IsSeen (length imported) g.init) m.globals.items
  pub elements : All (λ e. IsOffset (words_of_globals m imported p) e.offset) m.elements.items
  pub segments : All (λ s. IsOffset (words_of_globals m imported p) s.offset) m.segments.items

-- each segment ends within a size, where the globals have these words
abbrev pub ElementsFit : List ℕ → ℕ → List Element → Type 0
ElementsFit words size es = All (λ e. word_in words e.offset + length e.init.items ≤ size) es

abbrev pub SegmentsFit : List ℕ → ℕ → List Data → Type 0
SegmentsFit words size ss = All (λ s. word_in words s.offset + length s.init.items ≤ size) ss

-- the sizes of the table, in entries, and of the memory, in pages
abbrev pub first_entries : Module → ℕ
first_entries m = first_size (map view_table m.tables.items)

abbrev pub first_pages : Module → ℕ
first_pages m = first_size (map view_limits m.memories.items)

-- all segments of a module end within its table and its memory
unfoldable pub AllFit : Module → List ℕ → Type 0
AllFit m words =
    ElementsFit words (first_entries m) m.elements.items × SegmentsFit words (first_pages m * 65536) m.segments.items

-- the memory's first size is within its limit, and all segments are within the table and the memory
abbrev pub IsBounded : Module → List HostGlobal → Parameters → Type 0
IsBounded m imported p = (first_pages m ≤ p.page_limit) × AllFit m (words_of_globals m imported p)

-- what is handed out
pub record BeginsInWords (m : Module) (imported : List HostGlobal) (p : Parameters) (i : Instantiated) : Type 0 where
  pub few_pages : first_pages m ≤ p.page_limit
  pub all_fit : AllFit m (words_of_globals m imported p)
  pub pages : i.pages ≡ first_pages m
  pub page_limit : i.page_limit ≡ last_size (map view_limits m.memories.items) p.page_limit
  pub globals : i.store.globals.items ≡ words_of_globals m imported p
  pub table : i.store.table.items
      ≡ filled (replicate (first_entries m) None) (map (element_piece (words_of_globals m imported p)) m.elements.items)
  pub inputs : i.store.inputs.items ≡ p.inputs
  pub output : i.store.output.items ≡ []
  pub room : output_room ≤ vec_capacity i.store.output
  pub places : i.places.items ≡ map (λ s. word_in (words_of_globals m imported p) s.offset) m.segments.items

-- why nothing is; memory runs out only where nothing else stands in the way
abbrev pub RefusesInWords : Module → List HostGlobal → Parameters → InstantiateError → Type 0
RefusesInWords m imported p MemoryMin = p.page_limit < first_pages m
RefusesInWords m imported p SegmentBounds =
    (first_pages m ≤ p.page_limit) × ¬ (AllFit m (words_of_globals m imported p))
RefusesInWords m imported p Memory = IsBounded m imported p
