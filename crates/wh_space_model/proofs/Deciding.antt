-- Whether a step is ready can be told, and what a frame is used for.
use Rattle.std.proofs.Common.{◌≡◌, ℕ, ◌+◌, ◌<◌, ◌≤◌, ◌⊎◌, inl, inr, cond, true, false, Bool, List, [], ◌∷◌, length, zero, suc, refl, sym, ap, ◌∙◌, subst, arith, min, rules}
use Rattle.std.specs.List.{All}
use Rattle.std.proofs.lemmas.Bool.{cases_lt}
use Rattle.std.proofs.lemmas.List.Elements.{All-nil, All-cons, All-head, All-tail}
use Rattle.wh_model.specs.declared.memory.Need.{Need}
use Rattle.wh_space_model.specs.{tally, one_if, EvictionKeepsAll, FetchKeepsBytes, FetchKeepsSound, FrameUse, HasUse, NoBytesAreReady, OneUseOfAFrame, ReadyIsDecided, SomePageCanBeTaken, SomeSlotIsVacant, is_awaited, is_earmarked, is_free, is_owned, is_shared, IsAtHand, below, pages_of_need, IsSound, Space, all_bytes, kept, sharers, at, count, owns, page_at, resident, untouched, fetches_into}
use Rattle.wh_space_model.proofs.Evicted.{bytes_evicted, is_sound_evicted, stood_on}
use Rattle.wh_space_model.proofs.Fetched.{bytes_fetched, is_sound_fetched}
use Rattle.wh_space_model.proofs.Putting.{here_or}
use Rattle.wh_space_model.proofs.Counting.{no_copies}
use Rattle.wh_space_model.proofs.Serving.{page_is_there, slot_is_there}
use Rattle.wh_space_model.proofs.Slotting.{slot_taken, vacant_there}

decided_all : {X : Type 0} (P : X → Type 0) → ((x : X) → P x ⊎ ¬ P x) → (xs : List X) → All P xs ⊎ ¬ All P xs
decided_all P each [] = inl (All-nil P)
decided_all P each (x ∷ xs) =
    elim (each x) [
      | inr lacks ↦ inr (λ all. lacks (All-head P x xs all))
      | inl has ↦
          elim (decided_all P each xs) [
            | inl rest ↦ inl (All-cons P x xs has rest)
            | inr lacks ↦ inr (λ all. lacks (All-tail P x xs all))
          ]
    ]

decided_le : (m n : ℕ) → (m ≤ n) ⊎ ¬ (m ≤ n)
decided_le m n = elim (cases_lt n m) [ inl less ↦ inr (λ le. omega arith) | inr most ↦ inl most ]

decided_one : (n : ℕ) → (n ≡ 1) ⊎ ¬ (n ≡ 1)
decided_one n = elim (here_or 1 n) [ inl same ↦ inl same | inr other ↦ inr other ]

pub ready_decided : ReadyIsDecided
ready_decided s i need =
    elim (decided_all (λ p. IsAtHand (page_at s.tables i p)) (λ p. decided_one (at untouched (page_at s.tables i p) + at resident (page_at s.tables i p))) (pages_of_need need)) [
      | inr lacks ↦ inr (λ ready. lacks ready.0)
      | inl all ↦ search (rules, decided_le)
    ]

none_below : (n : ℕ) (v : ℕ → ℕ) → ((k : ℕ) → v k ≡ 0) → below n v ≡ 0
none_below zero v each = refl
none_below (suc n) v each = let rest = none_below n v each in let one = each n in omega arith

cond_none : (b : Bool) (n : ℕ) → n ≡ 0 → cond b n 0 ≡ 0
cond_none true n zeros = zeros
cond_none false n zeros = refl

no_pages : (need : Need) → need.length ≡ 0 → pages_of_need need ≡ []
no_pages need none = rw none refl

pub no_bytes_are_ready : NoBytesAreReady
no_bytes_are_ready s i need none = search (rules, no_pages, none_below, no_copies, cond_none)

-- of five numbers that add up to one, with the last cut off at one, exactly one counts

sum_of : (s : Space) (f : ℕ) → IsSound s → f < length s.pool.frames
    → ((tally (one_if f) s.pool.free + tally (one_if f) (kept s.pins)) + tally (fetches_into f) s.slots.uses) + count (owns f) s.tables + min 1 (sharers s f) ≡ 1
sum_of s f sound within = sound.frames.one f within

apart_uses : (s : Space) (f : ℕ) (a b : FrameUse) → IsSound s → f < length s.pool.frames → HasUse s f a → HasUse s f b → b ≡ a
apart_uses s f is_free is_free sound within x y = refl
apart_uses s f is_free is_owned sound within x y = let sum = sum_of s f sound within in absurd (omega arith)
apart_uses s f is_free is_shared sound within x y = let sum = sum_of s f sound within in absurd (omega arith)
apart_uses s f is_free is_earmarked sound within x y = let sum = sum_of s f sound within in absurd (omega arith)
apart_uses s f is_free is_awaited sound within x y = let sum = sum_of s f sound within in absurd (omega arith)
apart_uses s f is_owned is_free sound within x y = let sum = sum_of s f sound within in absurd (omega arith)
apart_uses s f is_owned is_owned sound within x y = refl
apart_uses s f is_owned is_shared sound within x y = let sum = sum_of s f sound within in absurd (omega arith)
apart_uses s f is_owned is_earmarked sound within x y = let sum = sum_of s f sound within in absurd (omega arith)
apart_uses s f is_owned is_awaited sound within x y = let sum = sum_of s f sound within in absurd (omega arith)
apart_uses s f is_shared is_free sound within x y = let sum = sum_of s f sound within in absurd (omega arith)
apart_uses s f is_shared is_owned sound within x y = let sum = sum_of s f sound within in absurd (omega arith)
apart_uses s f is_shared is_shared sound within x y = refl
apart_uses s f is_shared is_earmarked sound within x y = let sum = sum_of s f sound within in absurd (omega arith)
apart_uses s f is_shared is_awaited sound within x y = let sum = sum_of s f sound within in absurd (omega arith)
apart_uses s f is_earmarked is_free sound within x y = let sum = sum_of s f sound within in absurd (omega arith)
apart_uses s f is_earmarked is_owned sound within x y = let sum = sum_of s f sound within in absurd (omega arith)
apart_uses s f is_earmarked is_shared sound within x y = let sum = sum_of s f sound within in absurd (omega arith)
apart_uses s f is_earmarked is_earmarked sound within x y = refl
apart_uses s f is_earmarked is_awaited sound within x y = let sum = sum_of s f sound within in absurd (omega arith)
apart_uses s f is_awaited is_free sound within x y = let sum = sum_of s f sound within in absurd (omega arith)
apart_uses s f is_awaited is_owned sound within x y = let sum = sum_of s f sound within in absurd (omega arith)
apart_uses s f is_awaited is_shared sound within x y = let sum = sum_of s f sound within in absurd (omega arith)
apart_uses s f is_awaited is_earmarked sound within x y = let sum = sum_of s f sound within in absurd (omega arith)
apart_uses s f is_awaited is_awaited sound within x y = refl

some_use : (s : Space) (f : ℕ) → IsSound s → f < length s.pool.frames → (one : FrameUse) × HasUse s f one
some_use s f sound within =
    let sum = sum_of s f sound within in
    elim (cases_lt 0 (tally (one_if f) s.pool.free)) [
      | inl some ↦ (is_free, omega arith)
      | inr a ↦ elim (cases_lt 0 (count (owns f) s.tables)) [
        | inl some ↦ (is_owned, omega arith)
        | inr b ↦ elim (cases_lt 0 (sharers s f)) [
          | inl some ↦ (is_shared, omega arith)
          | inr c ↦ elim (cases_lt 0 (tally (one_if f) (kept s.pins))) [
            | inl some ↦ (is_earmarked, omega arith)
            | inr d ↦ (is_awaited, omega arith)
          ]
        ]
      ]
    ]

pub one_use_of_a_frame : OneUseOfAFrame
one_use_of_a_frame s f sound within =
    let found = some_use s f sound within in
    (found.0, found.1, λ other has. apart_uses s f found.0 other sound within found.1 has)

pub page_to_take : SomePageCanBeTaken
page_to_take s i need t sound none serving is lacks nobody = page_is_there s i need t sound none serving is lacks nobody

pub slot_to_take : SomeSlotIsVacant
slot_to_take s i need t sound none serving is lacks = slot_is_there s i need t sound none serving is lacks

pub eviction_keeps : EvictionKeepsAll
eviction_keeps s j p s2 sound leaves moves =
    let x = stood_on s j p moves.frame moves.page in
    let vacant = vacant_there s moves.slot moves.others sound.slots moves.vacant in (
      subst IsSound (sym moves.leaves) (is_sound_evicted s j p moves.frame moves.slot moves.others x.0 sound leaves x.1 x.2 vacant moves.vacant),
      ap (λ a. all_bytes a) moves.leaves ∙ bytes_evicted s j p moves.frame moves.slot moves.others x.0 sound.slots x.1 x.2 vacant,
    )

pub fetch_keeps_sound : FetchKeepsSound
fetch_keeps_sound s i p bytes s2 sound moves =
    let taken = slot_taken s i p moves.slot sound.slots moves.page in
    subst IsSound (sym moves.leaves) (is_sound_fetched s i p moves.frame moves.slot moves.others bytes sound moves.page moves.free taken moves.whole)

pub fetch_keeps_bytes : FetchKeepsBytes
fetch_keeps_bytes s i p k bytes s2 sound there is moves = search (rules, bytes_fetched)
