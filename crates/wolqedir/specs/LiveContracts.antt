-- What an export tells of an instance while it lives, and of the functions that a module exports.
use Rattle.std.specs.Prelude.{◌≡◌, ◌⊎◌, ◌+◌, ◌-◌, ◌<◌, ◌≤◌, ◌++◌, ℕ, List, drop, length, map, min, slice_get, Some, None, Result, IfErr, OnErr, OnOk}
use Rattle.wh_model.specs.Format.Syntax.{FuncType}
use Rattle.wh_space_model.specs.declared.plain.InstId.{InstId}
use Rattle.wh_instance.specs.declared.stages.CallStatus.{CallStatus}
use Rattle.wh_host.specs.declared.error.HostError.TheVariants.{NoInstance}
use Rattle.wh_host.specs.Hosting.{HostState}
use Rattle.wh_host.specs.HostReads.{ReadsBytes}
use Rattle.wh_host.specs.LiveOutputs.{SaysNoInstance, ShowsJournalOutput, ShowsOutput}
use Rattle.wh_host.specs.ModuleExports.{CountsExports, HasNoExport, ShowsExport}
use Rattle.wh_host.specs.Telling.{CountsEnded, TellsChargesOf, TellsOf}
use Rattle.wh_hand.specs.HandReads.{RefusesReadHere}
use Rattle.wh_hand.specs.HandStates.{HandState}
use Rattle.wh_hand.specs.declared.reading.BytesError.{BytesError}
use Rattle.wolqedir.specs.declared.shapes.RawExport.{RawExport}
use Rattle.wolqedir.specs.declared.shapes.RawStatus.{RawStatus}
use Rattle.wolqedir.specs.Codes.{bytes_error_code, code_by, host_error_code, unknown_code}
use Rattle.wolqedir.specs.Rooms.{laid_in}
use Rattle.wolqedir.specs.Shapes.{shown_status, type_bits}

-- nothing changes, and this is told of the host
abbrev pub ExportShows : (HostState → Type 0) → HandState → HandState → Type 0
ExportShows shows h h2 = (h2 ≡ h) × shows h.host

-- ---- its output

-- what the instance has put out from a place on, and how many bytes that is from the first on; or there is no such instance
abbrev pub TellsOutput : InstId → (from : ℕ) → (room room2 : List ℕ) → (len len2 code : ℕ) → HostState → Type 0
TellsOutput id from room room2 len len2 code h =
    ((output : List ℕ) × (code ≡ 0) × ShowsOutput h id output × ShowsJournalOutput h id output
    × (room2 ≡ laid_in (drop from output) room) × (len2 ≡ length output))
    ⊎ ((code ≡ host_error_code NoInstance) × SaysNoInstance h id NoInstance × (room2 ≡ room) × (len2 ≡ len))

-- ---- bytes of its memory

-- the room is full of what the instance sees from an address on; or there is no such instance, or its memory has fewer bytes
pub record ExportReads (id : InstId) (at : ℕ) (room room2 : List ℕ) (code : ℕ) (h h2 : HandState) : Type 0 where
  pub same : h2 ≡ h
  pub answer : Result Unit BytesError
  pub answered : code ≡ code_by bytes_error_code answer
  pub reads : OnOk answer (ReadsBytes h.host id at room2)
  pub full : length room2 ≡ length room
  pub err : IfErr answer (RefusesReadHere h.host id at (length room))
  pub left : OnErr answer (room2 ≡ room)

-- ---- its calls that have ended

-- this is how far the call at this place of its journal is, and its charges
abbrev pub IsShownAt : HostState → InstId → ℕ → RawStatus → Type 0
IsShownAt h id at status =
    (far : CallStatus) × (charges : ℕ) × TellsOf h id at (Some far) × TellsChargesOf h id at (Some charges)
    × (status ≡ shown_status far charges)

-- the first `many` places of the room have those of the calls from a place on, and the others are as they were
pub record HasStatuses (h : HostState) (id : InstId) (from many : ℕ) (room room2 : List RawStatus) : Type 0 where
  pub as_long : length room2 ≡ length room
  pub told : (i : ℕ) → i < many → (status : RawStatus) × (slice_get room2 i ≡ Some status) × IsShownAt h id (from + i) status
  pub rest : (i : ℕ) → many ≤ i → slice_get room2 i ≡ slice_get room i

-- those that have ended, from a place on, as far as there is room, and how many these are; or there is no such instance
abbrev pub TellsEnded : InstId → (from : ℕ) → (room room2 : List RawStatus) → (count count2 code : ℕ) → HostState → Type 0
TellsEnded id from room room2 count count2 code h =
    ((ended : ℕ) × (code ≡ 0) × CountsEnded h id (Some ended) × (count2 ≡ ended - from)
    × HasStatuses h id from (min (ended - from) (length room)) room room2)
    ⊎ ((code ≡ host_error_code NoInstance) × CountsEnded h id None × (room2 ≡ room) × (count2 ≡ count))

-- ---- the functions that a module exports

-- how many there are, or there is no such module
abbrev pub TellsExportCount : ℕ → (count count2 code : ℕ) → HostState → Type 0
TellsExportCount k count count2 code h =
    ((n : ℕ) × (code ≡ 0) × CountsExports h k (Some n) × (count2 ≡ n))
    ⊎ ((code ≡ unknown_code) × CountsExports h k None × (count2 ≡ count))

-- how long its name is, and how many parameters and results it has
abbrev pub raw_export_of : List ℕ → FuncType → RawExport
raw_export_of name type =
    record { name_len = length name; params = length type.params; results = length type.results }

-- how many bits each parameter has, and each result
abbrev pub bits_in : FuncType → List ℕ
bits_in type = map type_bits type.params ++ map type_bits type.results

-- nothing was written
abbrev pub IsUntold : (export export2 : RawExport) → (name name2 types types2 : List ℕ) → Type 0
IsUntold export export2 name name2 types types2 = (export2 ≡ export) × (name2 ≡ name) × (types2 ≡ types)

-- the one at a place, its name and its bits; or there is none
abbrev pub TellsExport : ℕ → (at : ℕ) → (export export2 : RawExport) → (name name2 types types2 : List ℕ) → (code : ℕ)
    → HostState → Type 0
TellsExport k at export export2 name name2 types types2 code h =
    ((own : List ℕ) × (type : FuncType) × (code ≡ 0) × ShowsExport h k at own type
    × (export2 ≡ raw_export_of own type) × (name2 ≡ laid_in own name) × (types2 ≡ laid_in (bits_in type) types))
    ⊎ ((code ≡ unknown_code) × HasNoExport h k at × IsUntold export export2 name name2 types types2)
