-- The numbers by which replies name faults of modules and traps. They are this project's own.
use Rattle.std.specs.Prelude.{ℕ}
use Rattle.wh_model.specs.declared.faults.FaultKind.{FaultKind}
use Rattle.wh_model.specs.declared.faults.FaultKind.TheVariants.{Magic, Version, Truncated, SectionOrder, SectionSize, Leb, Utf8, UnknownByte, Float, Unsupported, Limit, CountMismatch, Memory}
use Rattle.wh_model.specs.declared.faults.ValidKind.{ValidKind}
use Rattle.wh_model.specs.declared.faults.ValidKind.TheVariants.{BadType, Index, Align, Arity, Const, DuplicateExport, Start, Limits, Height, ConstImmutable, Memory as NoRoomToCheck}
use Rattle.wh_model.specs.declared.faults.ImportFault.{ImportFault}
use Rattle.wh_model.specs.declared.faults.ImportFault.TheVariants.{UnknownImport, ImportType}
use Rattle.wh_model.specs.declared.Trap.{Trap}
use Rattle.wh_model.specs.declared.Trap.TheVariants.{Unreachable, DivideByZero, Overflow, OutOfBounds, TableBounds, EmptyElement, IndirectType, HostTooLong, HostFull, CallDepth}

-- a fault of the decoder is named D and this number
abbrev pub fault_number : FaultKind → ℕ
fault_number Magic = 1
fault_number Version = 2
fault_number Truncated = 3
fault_number SectionOrder = 4
fault_number SectionSize = 5
fault_number Leb = 6
fault_number Utf8 = 7
fault_number UnknownByte = 8
fault_number Float = 9
fault_number Unsupported = 10
fault_number Limit = 11
fault_number CountMismatch = 12
fault_number Memory = 13

-- a fault of a module that was decoded is named V and this number
abbrev pub valid_number : ValidKind → ℕ
valid_number BadType = 1
valid_number Index = 2
valid_number Align = 3
valid_number Arity = 4
valid_number Const = 5
valid_number DuplicateExport = 6
valid_number Start = 7
valid_number Limits = 8
valid_number Height = 9
valid_number ConstImmutable = 10
valid_number NoRoomToCheck = 11

-- a fault of an import is named L and this number
abbrev pub import_number : ImportFault → ℕ
import_number UnknownImport = 1
import_number ImportType = 2

-- a trap is named T and this number
abbrev pub trap_number : Trap → ℕ
trap_number Unreachable = 1
trap_number DivideByZero = 2
trap_number Overflow = 3
trap_number OutOfBounds = 4
trap_number TableBounds = 5
trap_number EmptyElement = 6
trap_number IndirectType = 7
trap_number HostTooLong = 8
trap_number HostFull = 9
trap_number CallDepth = 10
