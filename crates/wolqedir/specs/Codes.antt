-- The codes that C gets: 0 where it was done; else a number of the library's own, or 256 times a family and the number that
-- scripts show after the family's letter: D 1, V 2, L 3, M 4, A 5, H 6, T 7, S 8; F 9, which no script shows.
use Rattle.std.specs.Prelude.{ℕ, ◌+◌, Result, Ok, Err}
use Rattle.wh_model.specs.declared.Trap.{Trap}
use Rattle.wh_model.specs.Format.Numbering.{fault_number, valid_number, import_number, trap_number}
use Rattle.wh_space_model.specs.declared.plain.SwapError.{SwapError}
use Rattle.wh_space_model.specs.SwapFaults.{swap_number}
use Rattle.wh_imports.specs.declared.error.LinkError.{LinkError}
use Rattle.wh_imports.specs.declared.error.LinkError.TheVariants as links
use Rattle.wh_load.specs.declared.error.LoadError.TheVariants.{Decode, Valid, Link}
use Rattle.wh_admit.specs.declared.error.AdmitError.{AdmitError}
use Rattle.wh_admit.specs.declared.error.AdmitError.TheVariants as admits
use Rattle.wh_admit.specs.declared.fork_error.ForkError.{ForkError}
use Rattle.wh_admit.specs.declared.fork_error.ForkError.TheVariants as forks
use Rattle.wh_admit.specs.AdmitErrors.{admit_number}
use Rattle.wh_host.specs.declared.error.HostError.{HostError}
use Rattle.wh_host.specs.declared.error.HostError.TheVariants as asks
use Rattle.wh_host.specs.CallRequests.{host_number}
use Rattle.wh_host.specs.declared.error.ModuleError.{ModuleError}
use Rattle.wh_host.specs.declared.error.ModuleError.TheVariants.{Bytes, ModulesFull, Memory}
use Rattle.wh_host.specs.declared.error.UnloadError.{UnloadError}
use Rattle.wh_host.specs.declared.error.UnloadError.TheVariants.{NoModule, InUse}
use Rattle.wh_hand.specs.declared.reading.BytesError.{BytesError}
use Rattle.wh_hand.specs.declared.reading.BytesError.TheVariants as reads

-- the handle holds no host; room was refused; it holds one already; no such tax; not UTF-8; no such instance, call or code; frames
-- and slots are 2^32 together or more; an instance of the module is there; the instance's memory has fewer bytes
abbrev pub none_code : ℕ
none_code = 1

abbrev pub memory_code : ℕ
memory_code = 2

abbrev pub full_code : ℕ
full_code = 3

abbrev pub tax_code : ℕ
tax_code = 4

abbrev pub name_code : ℕ
name_code = 5

abbrev pub unknown_code : ℕ
unknown_code = 6

abbrev pub large_code : ℕ
large_code = 7

abbrev pub in_use_code : ℕ
in_use_code = 8

abbrev pub outside_code : ℕ
outside_code = 9

-- why a module isn't linked
abbrev pub link_error_code : LinkError → ℕ
link_error_code (links.NoItem fault place) = 768 + import_number fault
link_error_code links.Memory = 771

-- why a module isn't kept
abbrev pub module_error_code : ModuleError → ℕ
module_error_code (Bytes (Decode e)) = 256 + fault_number e.kind
module_error_code (Bytes (Valid e)) = 512 + valid_number e.kind
module_error_code (Bytes (Link e)) = link_error_code e
module_error_code ModulesFull = 1025
module_error_code Memory = 1026

-- why an instance isn't admitted
abbrev pub admit_error_code : AdmitError → ℕ
admit_error_code e = 1280 + admit_number e

-- why a module isn't let go: it isn't there, as for an admission; or an instance of it is
abbrev pub unload_error_code : UnloadError → ℕ
unload_error_code NoModule = admit_error_code admits.NoModule
unload_error_code InUse = in_use_code

-- why a host doesn't do what is asked of it
abbrev pub host_error_code : HostError → ℕ
host_error_code e = 1536 + host_number e

-- why bytes of an instance aren't read: as where something else is asked of one that isn't there; or its memory has fewer
abbrev pub bytes_error_code : BytesError → ℕ
bytes_error_code reads.NoInstance = host_error_code asks.NoInstance
bytes_error_code reads.Outside = outside_code

-- Why an instance isn't copied: as where something else is asked of one that isn't there; as where one with the quota isn't
-- admitted, memory that is refused among it; or by a number of its own family.
abbrev pub fork_error_code : ForkError → ℕ
fork_error_code forks.NoInstance = host_error_code asks.NoInstance
fork_error_code forks.CallOpen = 2305
fork_error_code forks.StartFailed = 2306
fork_error_code (forks.NotAdmitted e) = admit_error_code e
fork_error_code forks.OtherLimit = 2307
fork_error_code forks.PageAway = 2308
fork_error_code forks.Memory = admit_error_code admits.Memory

-- why a call has trapped
abbrev pub trap_code : Trap → ℕ
trap_code trap = 1792 + trap_number trap

-- why it is blocked on the swap device
abbrev pub swap_code : SwapError → ℕ
swap_code e = 2048 + swap_number e

-- what is answered: 0 where it was done, else the code of the error
abbrev pub code_by : {A E : Type 0} → (E → ℕ) → Result A E → ℕ
code_by error_code (Ok a) = 0
code_by error_code (Err e) = error_code e
