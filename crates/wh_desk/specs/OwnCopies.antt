-- What a desk copies out of a host for who asks.
use Rattle.std.specs.Prelude.{◌≡◌, ◌≢◌, ◌⊎◌, ◌+◌, ◌-◌, ◌<◌, ◌≤◌, ℕ, List, [], drop, length, min, slice_get, take, None, Some, Result, Ok, Err}
use Rattle.std.specs.Global.{Vec}
use Rattle.std.specs.String.{string_bytes}
use Rattle.wh_model.specs.Format.Syntax.{FuncType}
use Rattle.wh_space_model.specs.declared.plain.InstId.{InstId}
use Rattle.wh_instance.specs.declared.stages.CallStatus.{CallStatus}
use Rattle.wh_host.specs.declared.error.HostError.{HostError}
use Rattle.wh_host.specs.declared.error.HostError.TheVariants.{NoInstance, Memory}
use Rattle.wh_host.specs.HostReads.{RefusesRead}
use Rattle.wh_host.specs.Hosting.{HostState}
use Rattle.wh_host.specs.LiveOutputs.{SaysNoInstance, ShowsJournalOutput, ShowsOutput}
use Rattle.wh_host.specs.ModuleExports.{CountsExports, ShowsExport}
use Rattle.wh_host.specs.Telling.{CountsEnded, TellsOf}
use Rattle.wh_desk.specs.declared.copying.DeskExport.{DeskExport}
use Rattle.wh_desk.specs.declared.error.DeskReadError.{DeskReadError}
use Rattle.wh_desk.specs.declared.error.DeskReadError.TheVariants.{Host, TooMany}
use Rattle.wh_desk.specs.declared.error.DeskReadError.TheVariants as reading
use Rattle.wh_desk.specs.declared.error.ExportsError.{ExportsError}
use Rattle.wh_desk.specs.declared.error.ExportsError.TheVariants.{NoModule}
use Rattle.wh_desk.specs.declared.error.ExportsError.TheVariants as exporting

-- ---- output

-- the instance has put out these bytes, and they are what its journal gives
abbrev pub IsOutputOf : HostState → InstId → List ℕ → Type 0
IsOutputOf h id output = ShowsOutput h id output × ShowsJournalOutput h id output

-- at most so many of them, from a place on
abbrev pub part_of : (from most : ℕ) → List ℕ → List ℕ
part_of from most output = take most (drop from output)

-- This is what it has put out. Or there is no such instance; or there is something to copy, and no room for it.
abbrev pub CopiesOutput : HostState → InstId → (from most : ℕ) → Result (Vec ℕ) HostError → Type 0
CopiesOutput h id from most (Ok bytes) = (output : List ℕ) × IsOutputOf h id output × (bytes.items ≡ part_of from most output)
CopiesOutput h id from most (Err error) =
    SaysNoInstance h id error
    ⊎ ((error ≡ Memory) × ((output : List ℕ) × IsOutputOf h id output × (part_of from most output ≢ [])))

-- ---- ends of calls

-- how many of the calls that have ended are told, from a place on
abbrev pub told_of : (from most ended : ℕ) → ℕ
told_of from most ended = min most (ended - from)

-- So its calls have ended, from this place of its journal on, one after the other. Or there is no such instance; or there are some to
-- be told, and no room for them.
abbrev pub CopiesEnds : HostState → InstId → (from most : ℕ) → Result (Vec CallStatus) HostError → Type 0
CopiesEnds h id from most (Ok statuses) =
    (ended : ℕ) × CountsEnded h id (Some ended) × (length statuses.items ≡ told_of from most ended)
    × ((i : ℕ) (status : CallStatus) → slice_get statuses.items i ≡ Some status → TellsOf h id (from + i) (Some status))
CopiesEnds h id from most (Err error) =
    ((error ≡ NoInstance) × CountsEnded h id None)
    ⊎ ((error ≡ Memory) × ((ended : ℕ) × CountsEnded h id (Some ended) × (0 < told_of from most ended)))

-- ---- exports

abbrev pub type_of_export : DeskExport → FuncType
type_of_export x = record { params = x.params.items; results = x.results.items }

-- The module exports these functions and no other, in this order. Or there is no such module; or it exports some, and there is no
-- room for them.
abbrev pub CopiesExports : HostState → ℕ → Result (Vec DeskExport) ExportsError → Type 0
CopiesExports h k (Ok exports) =
    CountsExports h k (Some (length exports.items))
    × ((at : ℕ) (x : DeskExport) → slice_get exports.items at ≡ Some x → ShowsExport h k at (string_bytes x.name) (type_of_export x))
CopiesExports h k (Err NoModule) = CountsExports h k None
CopiesExports h k (Err exporting.Memory) = (count : ℕ) × CountsExports h k (Some count) × (0 < count)

-- ---- bytes

-- how many bytes are read at most
abbrev pub most_read : ℕ
most_read = 65536

-- So many bytes are told. Or there is no such instance, or its memory has fewer, or the device failed; or there are too many; or there
-- are some, and there is no room for them.
abbrev pub CopiesBytes : HostState → InstId → (at count : ℕ) → Result (Vec ℕ) DeskReadError → Type 0
CopiesBytes h id at count (Ok bytes) = (count ≤ most_read) × (length bytes.items ≡ count)
CopiesBytes h id at count (Err (Host error)) = RefusesRead h id at count error
CopiesBytes h id at count (Err TooMany) = most_read < count
CopiesBytes h id at count (Err reading.Memory) = 0 < count
