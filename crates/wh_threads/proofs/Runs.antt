-- Turns among messages.
use Rattle.std.proofs.Common.{◌≡◌, ℕ, ◌+◌, List, [], ◌∷◌, ◌++◌, refl, ap, ◌∙◌, append-nil, arith}
use Rattle.std.specs.List.{flat_map}
use Rattle.std.proofs.lemmas.List.Concat.{flat_map-append}
use Rattle.wh_threads.specs.declared.channel.Message.{Message}
use Rattle.wh_threads.specs.declared.channel.Message.TheVariants.{Turns, Last}
use Rattle.wh_threads.specs.declared.channel.Traffic.{Traffic}
use Rattle.wh_threads.specs.Handover.{message_turns, turns_in, turn_numbers, DispatchesLast, HasQuantum, HaveQuantum}
use Rattle.wh_threads.proofs.Views.{sum_by-new}
use Rattle.wh_space_model.specs.declared.plain.InstId.{InstId}

-- n turns more
pub turns_in_turns : (messages : List Message) (first count : ℕ) (instance : InstId) (quantum : ℕ)
    → turns_in (messages ++ Turns first count instance quantum ∷ []) ≡ turns_in messages + count
turns_in_turns messages first count instance quantum =
    sum_by-new message_turns messages (Turns first count instance quantum)

-- a last sign is none
pub turns_in_last : (messages : List Message) → turns_in (messages ++ Last ∷ []) ≡ turns_in messages
turns_in_last messages = omega (arith, sum_by-new message_turns messages Last)

-- ---- last signs

pub numbers_last : (messages : List Message)
    → flat_map turn_numbers (messages ++ Last ∷ []) ≡ flat_map turn_numbers messages
numbers_last messages = flat_map-append turn_numbers messages (Last ∷ []) ∙ append-nil (flat_map turn_numbers messages)

-- one message more that has n charges at most
pub quanta_more : (q : ℕ) (messages : List Message) (m : Message) → HasQuantum q m → HaveQuantum q messages
    → HaveQuantum q (messages ++ m ∷ [])
quanta_more q [] m is all = (is, tt)
quanta_more q (x ∷ xs) m is all = (all.0, quanta_more q xs m is all.1)

pub last_none : (v : Traffic Message) → DispatchesLast v v
last_none v = record { parts = refl; received = refl; turns = refl; numbers = refl; quanta = λ q all. all }

pub last_more : (u v w : Traffic Message) → DispatchesLast u v → w ≡ record v { sent = v.sent ++ Last ∷ [] } → DispatchesLast u w
last_more u v w were is = record {
  parts = ap (λ (x : Traffic Message). x.parts) is ∙ were.parts;
  received = ap (λ (x : Traffic Message). x.received) is ∙ were.received;
  turns = ap (λ (x : Traffic Message). turns_in x.sent) is ∙ turns_in_last v.sent ∙ were.turns;
  numbers = ap (λ (x : Traffic Message). flat_map turn_numbers x.sent) is ∙ numbers_last v.sent ∙ were.numbers;
  quanta = λ q all. rw is (quanta_more q v.sent Last tt (were.quanta q all));
}
