-- What a call of `serve` has dispatched, and what was run of it.
use Rattle.std.specs.Prelude.{◌≡◌, ℕ, ◌+◌, List, [], ◌∷◌, ◌++◌, Option, Some, None}
use Rattle.wh_threads.specs.declared.channel.Message.{Message}
use Rattle.wh_threads.specs.Handover.{AreNumbered, HaveQuantum, turns_in}

-- `turns` turns are among the messages, of q charges each, and numbered from 0 on in order
pub record AreTurns (turns q : ℕ) (messages : List Message) : Type 0 where
  pub many : turns_in messages ≡ turns
  pub numbered : AreNumbered messages
  pub quanta : HaveQuantum q messages

-- after these messages comes the one that was left over, if one was
abbrev pub followed_by : List Message → Option Message → List Message
followed_by messages None = messages
followed_by messages (Some last) = messages ++ last ∷ []

-- The turns that workers have run grew from the one number to the other by those that they received. What was received besides is
-- the message that was left over, if one was.
pub record AreRun (old : ℕ) (left : Option Message) (received : List Message) (new : ℕ) : Type 0 where
  pub by_workers : List Message
  pub all : received ≡ followed_by by_workers left
  pub grown : new ≡ old + turns_in by_workers
