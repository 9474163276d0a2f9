-- Many connections over one stream in each direction.
use Rattle.std.specs.Prelude.{◌≡◌, ℕ, ◌<◌, ◌≤◌, ◌⊎◌, Bool, true, false, List, [], ◌∷◌, ◌++◌, length, flat_map, slice_index_or, slice_set, if◌then◌else◌, ◌==◌, Option, Some, None, MatchOption, All}
use Rattle.wh_multiplex.specs.declared.frame.StreamFrame.{StreamFrame}
use Rattle.wh_multiplex.specs.declared.frame.StreamKind.{StreamKind}
use Rattle.wh_multiplex.specs.declared.frame.StreamKind.TheVariants.{Opened, Data, Ended, Stop}
use Rattle.wh_multiplex.specs.StreamFrames.{IsFrame}

-- what is on a connection once a frame of this kind and with these bytes has come behind what was there
abbrev pub on_kind : StreamKind → List ℕ → List ℕ → List ℕ
on_kind Opened before bytes = []
on_kind Data before bytes = before ++ bytes
on_kind Ended before bytes = []
on_kind Stop before bytes = before

-- the bytes on connection c behind those that were there before
abbrev pub bytes_behind : ℕ → List ℕ → List StreamFrame → List ℕ
bytes_behind c before [] = before
bytes_behind c before (frame ∷ frames) =
    bytes_behind c (if frame.connection == c then on_kind frame.kind before frame.bytes else before) frames

-- the bytes that frames carry on connection c, in order, since it was last opened or ended
abbrev pub bytes_on : ℕ → List StreamFrame → List ℕ
bytes_on c frames = bytes_behind c [] frames

-- the frame carries bytes on connection c
abbrev pub IsDataOn : ℕ → StreamFrame → Type 0
IsDataOn c frame = (frame.connection ≡ c) × (frame.kind ≡ Data) × IsFrame frame

-- the frames carry these bytes on connection c, and nothing else
pub record Carries (c : ℕ) (bytes : List ℕ) (frames : List StreamFrame) : Type 0 where
  pub each : All (IsDataOn c) frames
  pub joined : flat_map (λ (frame : StreamFrame). frame.bytes) frames ≡ bytes

-- the frame that closes connection c
abbrev pub close_frame : ℕ → StreamFrame
close_frame c = record { connection = c; kind = Ended; bytes = [] }

-- the frames carry these bytes on connection c, and close it where it is done
abbrev pub Sends : ℕ → List ℕ → Bool → List StreamFrame → Type 0
Sends c bytes is_done frames =
    (parts : List StreamFrame) × Carries c bytes parts × (frames ≡ parts ++ (if is_done then close_frame c ∷ [] else []))

-- a connection that the service has just opened: it was handed nothing and gave nothing
abbrev pub IsNewConnection : {S C : Type 0} → (S → C → Type 0) → (C → List ℕ) → (C → List ℕ) → S → C → Type 0
IsNewConnection opens handed given service connection = opens service connection × (handed connection ≡ []) × (given connection ≡ [])

-- what a service takes, gives and leaves
abbrev pub ServiceTurns : Type 0 → Type 0 → Type 1
ServiceTurns S C = S → C → List ℕ → List ℕ → Bool → S → C → Type 0

-- the connection is handed the bytes and gives the answer; unless it is done, these are what it was handed and gave besides
pub record IsServiceTurn {S C : Type 0} (turns : ServiceTurns S C) (handed given : C → List ℕ) (service : S) (connection : C) (bytes answer : List ℕ)
    (is_done : Bool) (next : S) (after : C) : Type 0 where
  pub is_turn : turns service connection bytes answer is_done next after
  pub all_handed : is_done ≡ false → handed after ≡ handed connection ++ bytes
  pub all_given : is_done ≡ false → given after ≡ given connection ++ answer

-- the connection of this number, if it is open
abbrev pub open_at : {C : Type 0} → List (Option C) → ℕ → Option C
open_at slots c = slice_index_or slots c None

-- what is there after a connection was opened: it, or a refusal where there is no room
abbrev pub ConnectionOpens : {S C : Type 0} → (S → C → Type 0) → (C → List ℕ) → (C → List ℕ) → List ℕ → S → List (Option C) → ℕ
    → List StreamFrame → List (Option C) → Type 0
ConnectionOpens {S} {C} opens handed given refusal service slots c sent new =
    ((c < length slots) × (open_at slots c ≡ None) × (sent ≡ [])
    × ((connection : C) × IsNewConnection opens handed given service connection × (new ≡ slice_set slots c (Some connection))))
    ⊎ ((length slots ≤ c) × Sends c refusal true sent × (new ≡ slots))

-- bytes came on connection c, which took them, if it is open
abbrev pub ConnectionTakes : {S C : Type 0} → ServiceTurns S C → (C → List ℕ) → (C → List ℕ) → S → List (Option C) → ℕ → List ℕ → List StreamFrame → S
    → List (Option C) → Type 0
ConnectionTakes {S} {C} takes handed given service slots c bytes sent next new =
    MatchOption (open_at slots c) ((sent ≡ []) × (next ≡ service) × (new ≡ slots)) (λ connection.
    (answer : List ℕ) × (is_done : Bool) × (after : C) × IsServiceTurn takes handed given service connection bytes answer is_done next after
    × Sends c answer is_done sent × (new ≡ slice_set slots c (if is_done then None else Some after)))

-- connection c was ended, and is closed, if it is open
abbrev pub ConnectionEnds : {C : Type 0} → List (Option C) → ℕ → List StreamFrame → List (Option C) → Type 0
ConnectionEnds slots c sent new =
    MatchOption (open_at slots c) ((sent ≡ []) × (new ≡ slots)) (λ connection.
    Sends c [] true sent × (new ≡ slice_set slots c None))

-- what a frame does by its kind: which frames are sent, and what becomes of the service and of the connections
abbrev pub StepsOn : {S C : Type 0} → (S → C → Type 0) → ServiceTurns S C → (C → List ℕ) → (C → List ℕ) → List ℕ → StreamKind → S → List (Option C)
    → ℕ → List ℕ → List StreamFrame → S → List (Option C) → Type 0
StepsOn opens takes handed given refusal Opened service slots c bytes sent next new =
    ConnectionOpens opens handed given refusal service slots c sent new × (next ≡ service)
StepsOn opens takes handed given refusal Data service slots c bytes sent next new = ConnectionTakes takes handed given service slots c bytes sent next new
StepsOn opens takes handed given refusal Ended service slots c bytes sent next new = ConnectionEnds slots c sent new × (next ≡ service)
StepsOn opens takes handed given refusal Stop service slots c bytes sent next new = (sent ≡ []) × (next ≡ service) × (new ≡ slots)

-- the connection was handed the bytes that came on c, and the bytes that it gave were sent on c; where none is open, none were sent since
abbrev pub IsCarriedOn : {C : Type 0} → (C → List ℕ) → (C → List ℕ) → ℕ → List StreamFrame → List StreamFrame → Option C → Type 0
IsCarriedOn handed given c came sent None = bytes_on c sent ≡ []
IsCarriedOn handed given c came sent (Some connection) =
    (handed connection ≡ bytes_on c came) × (given connection ≡ bytes_on c sent)

-- so it is of all connections
abbrev pub AreCarried : {C : Type 0} → (C → List ℕ) → (C → List ℕ) → List StreamFrame → List StreamFrame → List (Option C) → Type 0
AreCarried handed given came sent slots = (c : ℕ) → IsCarriedOn handed given c came sent (open_at slots c)

-- The frame did what it does by its kind, and these were sent. Where all connections were carried, they are with this frame.
pub record Carried {S C : Type 0} (opens : S → C → Type 0) (takes : ServiceTurns S C) (handed given : C → List ℕ) (refusal : List ℕ) (service : S)
    (slots : List (Option C)) (frame : StreamFrame) (sent : List StreamFrame) (next : S) (new : List (Option C)) : Type 0 where
  pub steps : StepsOn opens takes handed given refusal frame.kind service slots frame.connection frame.bytes sent next new
  pub carries : (came before : List StreamFrame) → AreCarried handed given came before slots
      → AreCarried handed given (came ++ frame ∷ []) (before ++ sent) new
