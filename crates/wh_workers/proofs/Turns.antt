-- Turns that are dispatched, and their numbers.
use Rattle.std.proofs.Common.{◌≡◌, ℕ, zero, suc, ◌+◌, ◌-◌, ◌<◌, List, [], ◌∷◌, ◌++◌, append-nil, refl, sym, ap, ap₂, ◌∙◌, arith}
use Rattle.std.specs.List.{flat_map, range_with_len}
use Rattle.std.proofs.lemmas.List.Concat.{flat_map-append}
use Rattle.wh_threads.specs.declared.channel.Message.{Message}
use Rattle.wh_threads.specs.declared.channel.Message.TheVariants.{Turns}
use Rattle.wh_threads.specs.declared.channel.Traffic.{Traffic}
use Rattle.wh_threads.specs.Handover.{turns_in, turn_numbers, AreNumbered, Dispatches, DispatchesLast}
use Rattle.wh_threads.proofs.Runs.{quanta_more, turns_in_turns}
use Rattle.wh_space_model.specs.declared.plain.InstId.{InstId}
use Rattle.wh_workers.specs.Serving.{AreTurns}

-- n numbers, and then n that go on from there
range-then : (a m n b all : ℕ) → a + m ≡ b → m + n ≡ all → range_with_len a all ≡ range_with_len a m ++ range_with_len b n
range-then a zero n b all begin sum =
    let begins : a ≡ b = omega (arith, begin) in
    let same : all ≡ n = omega (arith, sum) in
    ap₂ range_with_len begins same
range-then a (suc m) n b zero begin sum = absurd (omega (arith, sum))
range-then a (suc m) n b (suc all) begin sum =
    ap (λ rest. a ∷ rest) (range-then (a + 1) m n b all (omega (arith, begin)) (omega (arith, sum)))

pub numbers_turns : (messages : List Message) (first count : ℕ) (instance : InstId) (quantum : ℕ)
    → flat_map turn_numbers (messages ++ Turns first count instance quantum ∷ [])
    ≡ flat_map turn_numbers messages ++ range_with_len first count
numbers_turns messages first count instance quantum =
    flat_map-append turn_numbers messages (Turns first count instance quantum ∷ [])
    ∙ ap (λ xs. flat_map turn_numbers messages ++ xs) (append-nil (range_with_len first count))

-- a series from the next number on keeps them in order
pub numbered_turns : (messages : List Message) (first count : ℕ) (instance : InstId) (quantum : ℕ) → AreNumbered messages
    → turns_in messages ≡ first → AreNumbered (messages ++ Turns first count instance quantum ∷ [])
numbered_turns messages first count instance quantum were is =
    let all = turns_in (messages ++ Turns first count instance quantum ∷ []) in
    let more : first + count ≡ all = omega (arith, turns_in_turns messages first count instance quantum, is) in
    numbers_turns messages first count instance quantum
    ∙ ap (λ xs. xs ++ range_with_len first count) were
    ∙ ap (λ n. range_with_len 0 n ++ range_with_len first count) is
    ∙ sym (range-then 0 first count first all (omega arith) more)

-- ---- turns

pub turns_dispatched : (u v w : Traffic Message) (count more q : ℕ) (instance : InstId) → Dispatches u count q v
    → w ≡ record v { sent = v.sent ++ Turns count more instance q ∷ [] } → Dispatches u (count + more) q w
turns_dispatched u v w count more q instance were is = record {
  parts = ap (λ (x : Traffic Message). x.parts) is ∙ were.parts;
  received = ap (λ (x : Traffic Message). x.received) is ∙ were.received;
  turns = ap (λ (x : Traffic Message). turns_in x.sent) is ∙ omega (arith, turns_in_turns v.sent count more instance q, were.turns);
  numbered = rw is (numbered_turns v.sent count more instance q were.numbered were.turns);
  quanta = rw is (quanta_more q v.sent (Turns count more instance q) (λ i. q) were.quanta);
}

-- last signs behind them
pub handed_with_last : (u v w : Traffic Message) (count q : ℕ) → Dispatches u count q v → DispatchesLast v w → Dispatches u count q w
handed_with_last u v w count q were last = record {
  parts = last.parts ∙ were.parts;
  received = last.received ∙ were.received;
  turns = last.turns ∙ were.turns;
  numbered = last.numbers ∙ were.numbered ∙ ap (λ n. range_with_len 0 n) (sym last.turns);
  quanta = last.quanta q were.quanta;
}

-- the turns are those that were dispatched
pub turns_handed : (u v : Traffic Message) (sent : List Message) (count q : ℕ) → Dispatches u count q v → sent ≡ v.sent
    → AreTurns count q sent
turns_handed u v sent count q were same =
    rw same (record { many = were.turns; numbered = were.numbered; quanta = were.quanta })

-- last signs behind turns
pub turns_with_last : (u v : Traffic Message) → DispatchesLast u v → (count q : ℕ) → AreTurns count q u.sent → AreTurns count q v.sent
turns_with_last u v last count q were = record {
  many = last.turns ∙ were.many;
  numbered = last.numbers ∙ were.numbered ∙ ap (λ n. range_with_len 0 n) (sym last.turns);
  quanta = last.quanta q were.quanta;
}

-- the same messages have the same turns
pub turns_still : (sent sent2 : List Message) → sent2 ≡ sent → (count q : ℕ) → AreTurns count q sent → AreTurns count q sent2
turns_still sent sent2 same count q were = rw same were

-- nothing was dispatched
pub turns_none : (sent : List Message) → sent ≡ [] → (q : ℕ) → AreTurns 0 q sent
turns_none sent none q = rw none (record { many = refl; numbered = refl; quanta = tt })

-- ---- slips

-- one part less is there, and nothing was dispatched or received since
pub one_part_less : (u w first : Traffic Message) (seat : ℕ) → w ≡ record u { parts = u.parts - 1 } → u.sent ≡ first.sent
    → u.received ≡ first.received → u.parts + seat ≡ 128 → seat < 64
    → (w.sent ≡ first.sent) × (w.received ≡ first.received) × (w.parts + (seat + 1) ≡ 128)
one_part_less u w first seat is sent received parts few = (
  ap (λ (x : Traffic Message). x.sent) is ∙ sent,
  ap (λ (x : Traffic Message). x.received) is ∙ received,
  omega (arith, ap (λ (x : Traffic Message). x.parts) is, parts, few),
)
