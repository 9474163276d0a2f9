-- Which instances have turns.
use Rattle.std.specs.Prelude.{◌≡◌, ◌≢◌, ◌<◌, ◌≤◌, ◌⊎◌, ◌++◌, ◌∷◌, [], ℕ, Bool, List, length, min, slice_get, slice_set, Option, Some, None, true, false}
use Rattle.std.specs.List.{remove}
use Rattle.wh_space_model.specs.declared.plain.InstId.{InstId}
use Rattle.wh_host.specs.Hosting.{HostState}
use Rattle.wh_host.specs.Paging.{IsAwaiting, IsGoing, Tells}
use Rattle.wh_cell.specs.declared.moving.Moved.{Moved}
use Rattle.wh_cell.specs.declared.moving.Moved.TheVariants.{PageMoved, Void, Failed, Ready}
use Rattle.wh_scheduler.specs.declared.run_queue.QueueEntry.{QueueEntry}
use Rattle.wh_scheduler.specs.declared.run_queue.Choice.{Choice}
use Rattle.wh_scheduler.specs.declared.run_queue.Series.{Series}
use Rattle.wh_scheduler.specs.declared.run_queue.Choice.TheVariants.{Turn, Wait, Frame, Rest}

abbrev pub idle_entry : InstId → QueueEntry
idle_entry id = record { id = id; is_dispatched = false }

-- whoever gets the turn can go on and had none out, and has it out then; else nothing has changed
abbrev pub ChoosesTurn : HostState → List QueueEntry → Choice → List QueueEntry → Type 0
ChoosesTurn h entries (Turn id) entries2 =
    (at : ℕ) × (slice_get entries at ≡ Some (idle_entry id)) × Tells h true (λ w. IsGoing w id)
    × (entries2 ≡ slice_set entries at (record { id = id; is_dispatched = true }))
ChoosesTurn h entries Wait entries2 = entries2 ≡ entries
ChoosesTurn h entries Frame entries2 = entries2 ≡ entries
ChoosesTurn h entries Rest entries2 = entries2 ≡ entries

-- from the one entry on, up to the other, none has a turn out, and none can go on
abbrev pub RestBetween : HostState → List QueueEntry → ℕ → ℕ → Type 0
RestBetween h entries from to =
    (at : ℕ) (entry : QueueEntry) → from ≤ at → at < to → slice_get entries at ≡ Some entry
    → (entry.is_dispatched ≡ false) × Tells h false (λ w. IsGoing w entry.id)

-- none at all
abbrev pub RestsAll : HostState → List QueueEntry → Type 0
RestsAll h entries = RestBetween h entries 0 (length entries)

-- from the one entry on, up to the other, each has a turn out, or can't go on
abbrev pub OutOrDoneBetween : HostState → List QueueEntry → ℕ → ℕ → Type 0
OutOrDoneBetween h entries from to =
    (at : ℕ) (entry : QueueEntry) → from ≤ at → at < to → slice_get entries at ≡ Some entry
    → (entry.is_dispatched ≡ true) ⊎ Tells h false (λ w. IsGoing w entry.id)

-- an instance has a turn out
abbrev pub HasTurnOut : List QueueEntry → Type 0
HasTurnOut entries = (at : ℕ) × (s : QueueEntry) × (slice_get entries at ≡ Some s) × (s.is_dispatched ≡ true)

-- an instance that has no turn out waits for a frame, and its step isn't the one that is ready
abbrev pub WantsFrame : HostState → List QueueEntry → Option InstId → Type 0
WantsFrame h entries ready =
    (at : ℕ) × (s : QueueEntry) × (slice_get entries at ≡ Some s) × (s.is_dispatched ≡ false)
    × Tells h true (λ w. IsAwaiting w s.id) × (ready ≢ Some s.id)

-- no entry from the one on, up to the other, is the instance's
abbrev pub HasNoEntry : InstId → List QueueEntry → ℕ → ℕ → Type 0
HasNoEntry id entries from to =
    (at : ℕ) (entry : QueueEntry) → from ≤ at → at < to → slice_get entries at ≡ Some entry → entry.id ≢ id

-- an entry is the instance's
abbrev pub IsQueueEntryOf : InstId → List QueueEntry → ℕ → Type 0
IsQueueEntryOf id entries at = (entry : QueueEntry) × (slice_get entries at ≡ Some entry) × (entry.id ≡ id)

-- some entry is
abbrev pub HasQueueEntry : InstId → List QueueEntry → Type 0
HasQueueEntry id entries = (at : ℕ) × IsQueueEntryOf id entries at

-- No turn is out at an entry of the instance, and every other entry is as it was; or the instance has none, and nothing
-- has changed.
abbrev pub CompletesTurn : InstId → List QueueEntry → List QueueEntry → Type 0
CompletesTurn id entries entries2 =
    ((at : ℕ) × IsQueueEntryOf id entries at × (entries2 ≡ slice_set entries at (idle_entry id)))
    ⊎ (HasNoEntry id entries 0 (length entries) × (entries2 ≡ entries))

-- An instance that had no entry has one behind all others, and no turn out; or it had one, and nothing has changed.
abbrev pub JoinsQueue : InstId → List QueueEntry → List QueueEntry → Type 0
JoinsQueue id entries entries2 =
    (HasNoEntry id entries 0 (length entries) × (entries2 ≡ entries ++ idle_entry id ∷ []))
    ⊎ (HasQueueEntry id entries × (entries2 ≡ entries))

-- An entry of the instance is gone, and all others are there in their order; or it had none, and nothing has changed.
abbrev pub LeavesQueue : InstId → List QueueEntry → List QueueEntry → Type 0
LeavesQueue id entries entries2 =
    ((at : ℕ) × IsQueueEntryOf id entries at × (entries2 ≡ remove entries at))
    ⊎ (HasNoEntry id entries 0 (length entries) × (entries2 ≡ entries))

-- The step that was made ready is so still; or it was given up, since its call waits for no frame any more.
abbrev pub KeepsReady : HostState → Option InstId → Option InstId → Type 0
KeepsReady h ready ready2 =
    (ready2 ≡ ready)
    ⊎ ((ready2 ≡ None) × ((id : InstId) → ready ≡ Some id → Tells h false (λ w. IsAwaiting w id)))

-- each entry of a list of series, with at most so many turns
abbrev pub at_most : ℕ → Series → Series
at_most most series = record series { count = min series.count most }

-- whether nothing more is moved for the step: it is ready, or can't be made so
abbrev pub ends_service : Moved → Bool
ends_service PageMoved = false
ends_service Void = false
ends_service Failed = true
ends_service Ready = true
