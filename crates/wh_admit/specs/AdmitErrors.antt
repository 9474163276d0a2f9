-- Which of the definitions' faults an error is, and the numbers by which replies name errors. They are this project's
-- own.
use Rattle.std.specs.Prelude.{ℕ, Option, Some, None}
use Rattle.wh_host_model.specs.Owners.{AdmitFault, no_module, shares, min_max, frames, swap, instances, memory, segments, admit_rank}
use Rattle.wh_initial.specs.declared.error.InstantiateError.{InstantiateError}
use Rattle.wh_initial.specs.declared.error.InstantiateError.TheVariants as initial
use Rattle.wh_admit.specs.declared.error.AdmitError.{AdmitError}
use Rattle.wh_admit.specs.declared.error.AdmitError.TheVariants.{NoModule, Shares, MinMax, Frames, Swap, Instances, MemoryMin, SegmentBounds, Memory}

-- out of memory is none
abbrev pub fault_of : AdmitError → Option AdmitFault
fault_of NoModule = Some no_module
fault_of Shares = Some shares
fault_of MinMax = Some min_max
fault_of Frames = Some frames
fault_of Swap = Some swap
fault_of Instances = Some instances
fault_of MemoryMin = Some memory
fault_of SegmentBounds = Some segments
fault_of Memory = None

-- a fault has the number by which the definitions order it, and out of memory comes last
abbrev pub number_of_fault : Option AdmitFault → ℕ
number_of_fault (Some fault) = admit_rank fault
number_of_fault None = 9

abbrev pub admit_number : AdmitError → ℕ
admit_number e = number_of_fault (fault_of e)

-- what instantiation refuses
abbrev pub begin_error : InstantiateError → AdmitError
begin_error initial.MemoryMin = MemoryMin
begin_error initial.SegmentBounds = SegmentBounds
begin_error initial.Memory = Memory
