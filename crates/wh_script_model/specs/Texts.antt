-- The texts of replies, each a line with its newline.
use Rattle.std.specs.Prelude.{ℕ, ◌+◌, ◌-◌, ◌*◌, ◌/◌, ◌%◌, ◌==◌, ◌++◌, nat_lt, if◌then◌else◌, List, [], ◌∷◌, length, replicate, Option, Some, None, ℤ, codes}
use Rattle.std.specs.Fmt.{decimal, signed_decimal}
use Rattle.wh_script_model.specs.Lines.{Place, in_module, in_func}

-- ---- replies

-- why a module isn't kept, by the numbers that replies show
pub data Refusal : Type 0 where
  -- the decoder's fault D of this number, at an offset
  broken : (kind offset : ℕ) → Refusal
  -- the validator's V
  invalid : (kind : ℕ) (place : Place) → Refusal
  -- the linker's L, at an import
  unlinked : (kind place : ℕ) → Refusal
  -- no memory to link: L3
  no_link_memory : Refusal
  -- 1024 modules are kept: M1
  modules_full : Refusal
  -- no memory to keep it: M2
  no_room : Refusal

-- a call by the number of its `invoke`, or the start of an instance
pub data Caller : Type 0 where
  call : (number : ℕ) → Caller
  start : (inst : List ℕ) → Caller

-- how far a call is, by the charges that it took, and by the numbers of traps T, faults of the device S and of the
-- host H
pub data CallStatus : Type 0 where
  done : (value : Option ℤ) (charges : ℕ) → CallStatus
  trapped : (trap charges : ℕ) → CallStatus
  wants_fuel : (charges : ℕ) → CallStatus
  wants_frame : (fault charges : ℕ) → CallStatus
  queued : CallStatus
  cancelled : (charges : ℕ) → CallStatus
  released : (charges : ℕ) → CallStatus
  dead : CallStatus
  refused : (fault : ℕ) → CallStatus

-- a reply; causes C, faults A of admission and H of the host by their numbers
pub data Reply : Type 0 where
  error : (cause line : ℕ) → Reply
  module_ok : (name : List ℕ) → Reply
  module_refused : (name : List ℕ) (why : Refusal) → Reply
  admit_ok : (inst : List ℕ) (number : ℕ) → Reply
  admit_refused : (inst : List ℕ) (fault : ℕ) → Reply
  refuel_ok : (inst : List ℕ) → Reply
  refuel_refused : (inst : List ℕ) (fault : ℕ) → Reply
  cancel_ok : (inst : List ℕ) → Reply
  cancel_refused : (inst : List ℕ) (fault : ℕ) → Reply
  retry_ok : (inst : List ℕ) → Reply
  retry_refused : (inst : List ℕ) (fault : ℕ) → Reply
  scan_ok : Reply
  release_ok : (inst output : List ℕ) → Reply
  release_refused : (inst : List ℕ) (fault : ℕ) → Reply
  call_is : (who : Caller) (is : CallStatus) → Reply

-- ---- their texts

-- `module`, or `func 0 instr 4`
abbrev pub place_text : Place → List ℕ
place_text in_module = codes "module"
place_text (in_func func instr) = codes "func " ++ decimal func ++ codes " instr " ++ decimal instr

-- `D3 at 7`, `V1 func 0 instr 4`, `L1 import 0`, `L3`
abbrev pub refusal_text : Refusal → List ℕ
refusal_text (broken kind offset) = codes "D" ++ decimal kind ++ codes " at " ++ decimal offset
refusal_text (invalid kind place) = codes "V" ++ decimal kind ++ codes " " ++ place_text place
refusal_text (unlinked kind place) = codes "L" ++ decimal kind ++ codes " import " ++ decimal place
refusal_text no_link_memory = codes "L3"
refusal_text modules_full = codes "M1"
refusal_text no_room = codes "M2"

-- `call 1`, or `start a`
abbrev pub caller_text : Caller → List ℕ
caller_text (call number) = codes "call " ++ decimal number
caller_text (start inst) = codes "start " ++ inst

-- ` charges 5`
abbrev pub charges_text : ℕ → List ℕ
charges_text charges = codes " charges " ++ decimal charges

-- `done 7 charges 2`, `trap T4 charges 2`, `frame S1 charges 1`, `refused H3`
abbrev pub status_text : CallStatus → List ℕ
status_text (done (Some value) charges) = codes "done " ++ signed_decimal value ++ charges_text charges
status_text (done None charges) = codes "done" ++ charges_text charges
status_text (trapped trap charges) = codes "trap T" ++ decimal trap ++ charges_text charges
status_text (wants_fuel charges) = codes "fuel" ++ charges_text charges
status_text (wants_frame fault charges) = codes "frame S" ++ decimal fault ++ charges_text charges
status_text queued = codes "queued"
status_text (cancelled charges) = codes "cancelled" ++ charges_text charges
status_text (released charges) = codes "released" ++ charges_text charges
status_text dead = codes "dead"
status_text (refused fault) = codes "refused H" ++ decimal fault

-- the digit of a number below 16, `0` to `9` or `a` to `f`
abbrev pub low_digit : ℕ → ℕ
low_digit n = if nat_lt n 10 then 48 + n else 87 + n

-- two digits for each byte, the greater one first
abbrev pub hex_text : List ℕ → List ℕ
hex_text [] = []
hex_text (b ∷ bs) = low_digit (b / 16) ∷ low_digit (b % 16) ∷ hex_text bs

-- the same, or `-` if there is none
abbrev pub output_text : List ℕ → List ℕ
output_text [] = codes "-"
output_text (b ∷ bs) = hex_text (b ∷ bs)

-- ` ok`, or ` refused H8`, and the newline
abbrev pub ok_text : List ℕ
ok_text = codes " ok\n"

abbrev pub refused_text : ℕ → List ℕ
refused_text fault = codes " refused H" ++ decimal fault ++ codes "\n"

abbrev pub reply_text : Reply → List ℕ
reply_text (error cause line) = codes "error C" ++ decimal cause ++ codes " line " ++ decimal line ++ codes "\n"
reply_text (module_ok name) = codes "module " ++ name ++ ok_text
reply_text (module_refused name why) = codes "module " ++ name ++ codes " refused " ++ refusal_text why ++ codes "\n"
reply_text (admit_ok inst number) = codes "admit " ++ inst ++ codes " ok " ++ decimal number ++ codes "\n"
reply_text (admit_refused inst fault) = codes "admit " ++ inst ++ codes " refused A" ++ decimal fault ++ codes "\n"
reply_text (refuel_ok inst) = codes "refuel " ++ inst ++ ok_text
reply_text (refuel_refused inst fault) = codes "refuel " ++ inst ++ refused_text fault
reply_text (cancel_ok inst) = codes "cancel " ++ inst ++ ok_text
reply_text (cancel_refused inst fault) = codes "cancel " ++ inst ++ refused_text fault
reply_text (retry_ok inst) = codes "retry " ++ inst ++ ok_text
reply_text (retry_refused inst fault) = codes "retry " ++ inst ++ refused_text fault
reply_text scan_ok = codes "scan ok\n"
reply_text (release_ok inst output) = codes "release " ++ inst ++ codes " ok " ++ output_text output ++ codes "\n"
reply_text (release_refused inst fault) = codes "release " ++ inst ++ refused_text fault
reply_text (call_is who is) = caller_text who ++ codes " " ++ status_text is ++ codes "\n"

-- ---- the report

-- `# frames 1024 used 1 free 1023`
abbrev pub frames_text : (frames used : ℕ) → List ℕ
frames_text frames used =
    codes "# frames " ++ decimal frames ++ codes " used " ++ decimal used ++ codes " free " ++ decimal (frames - used)
    ++ codes "\n"

-- `# slots 4096 used 0 free 4096`
abbrev pub slots_text : (slots used : ℕ) → List ℕ
slots_text slots used =
    codes "# slots " ++ decimal slots ++ codes " used " ++ decimal used ++ codes " free " ++ decimal (slots - used)
    ++ codes "\n"

-- `# shared frames 1 sharers 3`
abbrev pub shared_text : (frames sharers : ℕ) → List ℕ
shared_text frames sharers =
    codes "# shared frames " ++ decimal frames ++ codes " sharers " ++ decimal sharers ++ codes "\n"

-- an instance of the report: its number, shares, least and greatest number of frames, how many frames are charged to it,
-- how many of these are active, and how many of its pages are swapped; the tax is num / den
pub record Row : Type 0 where
  pub number : ℕ
  pub shares : ℕ
  pub min : ℕ
  pub max : ℕ
  pub charged : ℕ
  pub active : ℕ
  pub swapped : ℕ
  pub num : ℕ
  pub den : ℕ

-- spaces up to the width, and then the number
abbrev pub column : (width n : ℕ) → List ℕ
column width n = replicate (width - length (decimal n)) 32 ++ decimal n

-- what the frames weigh: den for each idle one, and den - num for each active one
abbrev pub row_weight : Row → ℕ
row_weight r = r.active * (r.den - r.num) + (r.charged - r.active) * r.den

-- the fraction of shares to weight, not reduced: `100/4`, or `-` where there is no weight
abbrev pub rho_text : Row → List ℕ
rho_text r =
    if row_weight r == 0 then codes "-"
    else decimal (r.shares * (r.den - r.num)) ++ codes "/" ++ decimal (row_weight r)

-- `#     1     100     2    16     1     0     0 100/4`
abbrev pub row_text : Row → List ℕ
row_text r =
    codes "#" ++ column 6 r.number ++ column 8 r.shares ++ column 6 r.min ++ column 6 r.max ++ column 6 r.charged
    ++ column 6 r.active ++ column 6 r.swapped ++ codes " " ++ rho_text r ++ codes "\n"
