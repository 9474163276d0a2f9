-- What was dispatched is what was received and what the channel holds.
use Rattle.std.specs.Prelude.{◌≡◌, ℕ, ◌+◌, List, [], sum_by, ⊤}
use Rattle.std.specs.List.{AllByRecursion, flat_map, range_with_len}
use mathlib.Core.Option.{some}
use lib.ListN.{get_elem?}
use Rattle.wh_threads.specs.declared.channel.Message.{Message}
use Rattle.wh_threads.specs.declared.channel.Message.TheVariants.{Turns, Last}
use Rattle.wh_threads.specs.declared.channel.Traffic.{Traffic}

abbrev pub traffic : {M : Type 0} → ℕ → List M → List M → Traffic M
traffic parts sent received = record { parts = parts; sent = sent; received = received }

-- into how many parts the right to know the whole is cut
abbrev pub all_parts : ℕ
all_parts = 128

-- a pass without a part has dispatched and received nothing
abbrev pub IdleIsEmpty : {M : Type 0} → List (Traffic M) → Type 0
IdleIsEmpty {M} views =
    (pass : ℕ) (v : Traffic M) → get_elem? views pass ≡ some v → v.parts ≡ 0 → (v.sent ≡ []) × (v.received ≡ [])

-- The rule: what all passes dispatched is what they received and what the channel holds, whatever weight each message
-- is given.
abbrev pub Balanced : {M : Type 0} → List M → List (Traffic M) → Type 0
Balanced {M} held views =
    (sum_by (λ v. v.parts) views ≡ 128)
    × ((weight : M → ℕ) → sum_by (λ v. sum_by weight v.sent) views
    ≡ sum_by (λ v. sum_by weight v.received) views + sum_by weight held)
    × IdleIsEmpty views

-- the same messages, each as often, in some order: with any weights of messages they weigh the same
abbrev pub SameMessages : {M : Type 0} → List M → List M → Type 0
SameMessages {M} sent received = (weight : M → ℕ) → sum_by weight sent ≡ sum_by weight received

-- the numbers of the turns of a message, in order
abbrev pub turn_numbers : Message → List ℕ
turn_numbers (Turns first count instance quantum) = range_with_len first count
turn_numbers Last = []

-- how many turns a message is
abbrev pub message_turns : Message → ℕ
message_turns (Turns first count instance quantum) = count
message_turns Last = 0

-- how many turns the messages are
abbrev pub turns_in : List Message → ℕ
turns_in messages = sum_by message_turns messages

-- the turns are numbered from 0 on, in order
abbrev pub AreNumbered : List Message → Type 0
AreNumbered messages = flat_map turn_numbers messages ≡ range_with_len 0 (turns_in messages)

-- each turn of a message has q charges at most
abbrev pub HasQuantum : ℕ → Message → Type 0
HasQuantum q (Turns first count instance quantum) = quantum ≡ q
HasQuantum q Last = ⊤

-- each turn of each message has
abbrev pub HaveQuantum : ℕ → List Message → Type 0
HaveQuantum q messages = AllByRecursion (HasQuantum q) messages

-- last signs were dispatched, and nothing else has changed
pub record DispatchesLast (old new : Traffic Message) : Type 0 where
  pub parts : new.parts ≡ old.parts
  pub received : new.received ≡ old.received
  pub turns : turns_in new.sent ≡ turns_in old.sent
  pub numbers : flat_map turn_numbers new.sent ≡ flat_map turn_numbers old.sent
  pub quanta : (q : ℕ) → HaveQuantum q old.sent → HaveQuantum q new.sent

-- through a slip that had dispatched nothing, `count` turns of q charges were dispatched, numbered, and nothing was received
pub record Dispatches (old : Traffic Message) (count q : ℕ) (new : Traffic Message) : Type 0 where
  pub parts : new.parts ≡ old.parts
  pub received : new.received ≡ old.received
  pub turns : turns_in new.sent ≡ count
  pub numbered : AreNumbered new.sent
  pub quanta : HaveQuantum q new.sent

-- a slip with one part came back, through which nothing was dispatched
pub record TakesBack {M : Type 0} (old new : Traffic M) : Type 0 where
  pub parts : new.parts ≡ old.parts + 1
  pub sent : new.sent ≡ old.sent
