-- Frames, and the bytes that spell them.
use Rattle.std.specs.Prelude.{◌≡◌, ◌≢◌, ℕ, ◌+◌, ◌^◌, ◌<◌, ◌≤◌, List, [], ◌∷◌, ◌++◌, length, drop, flat_map, slice_index, Option}
use Rattle.std.specs.Io.KnownBytes.{IsAtEnd}
use Rattle.byteorder.specs.Endian.{little_bytes, little_number}
use Rattle.wh_multiplex.specs.declared.frame.StreamFrame.{StreamFrame}
use Rattle.wh_multiplex.specs.declared.frame.StreamKind.{StreamKind}
use Rattle.wh_multiplex.specs.declared.frame.StreamKind.TheVariants.{Opened, Data, Ended, Stop}
use Rattle.wh_multiplex.specs.declared.fault.StreamFault.{StreamFault}
use Rattle.wh_multiplex.specs.declared.fault.StreamFault.TheVariants.{UnknownKind, TooLong, CutOff, Memory, Read}

-- the number of a kind
abbrev pub kind_code : StreamKind → ℕ
kind_code Opened = 1
kind_code Data = 2
kind_code Ended = 3
kind_code Stop = 4

-- the number is that of no kind
abbrev pub IsNoKind : ℕ → Type 0
IsNoKind code = (kind : StreamKind) → code ≢ kind_code kind

-- what stands before so many bytes: the connection, the kind and how many
abbrev pub head_bytes : ℕ → StreamKind → ℕ → List ℕ
head_bytes connection kind count = little_bytes 4 connection ++ kind_code kind ∷ little_bytes 4 count

-- the bytes that spell a frame
abbrev pub stream_frame_bytes : StreamFrame → List ℕ
stream_frame_bytes frame = head_bytes frame.connection frame.kind (length frame.bytes) ++ frame.bytes

-- the bytes that spell frames, one after the other
abbrev pub stream_bytes : List StreamFrame → List ℕ
stream_bytes frames = flat_map stream_frame_bytes frames

-- the frame can be spelled: its connection fits 32 bits, and it carries 65536 bytes at most
abbrev pub IsFrame : StreamFrame → Type 0
IsFrame frame = (frame.connection < 2 ^ 32) × (length frame.bytes ≤ 65536)

-- no whole frame is in the bytes
abbrev pub LacksFrame : List ℕ → Type 0
LacksFrame bytes = (frame : StreamFrame) (rest : List ℕ) → IsFrame frame → bytes ≢ stream_frame_bytes frame ++ rest

-- why the bytes that came are no frame, where these are still to come
abbrev pub HasNoFrame : StreamFault → List ℕ → Option (List ℕ) → Type 0
HasNoFrame (UnknownKind code) came after = (length came ≡ 9) × (slice_index came 4 ≡ code) × IsNoKind code
HasNoFrame (TooLong count) came after = (length came ≡ 9) × (little_number 4 (drop 5 came) ≡ count) × (65536 < count)
HasNoFrame CutOff came after = (came ≢ []) × LacksFrame came × IsAtEnd after
HasNoFrame Memory came after =
    (connection : ℕ) × (kind : StreamKind) × (count : ℕ) × (part : List ℕ)
    × (came ≡ head_bytes connection kind count ++ part) × (length part ≤ count) × (count ≤ 65536)
HasNoFrame (Read error) came after = LacksFrame came

-- why so many bytes didn't come, but these
abbrev pub LacksBytes : StreamFault → ℕ → List ℕ → Option (List ℕ) → Type 0
LacksBytes (UnknownKind code) count came after = ⊥
LacksBytes (TooLong size) count came after = ⊥
LacksBytes CutOff count came after = (length came < count) × IsAtEnd after
LacksBytes Memory count came after = length came ≤ count
LacksBytes (Read error) count came after = length came < count
