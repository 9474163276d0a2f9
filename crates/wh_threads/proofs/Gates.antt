-- Who was told to stay hasn't begun.
use Rattle.std.proofs.Common.{◌≡◌, ℕ, ◌+◌, ◌<◌, Bool, true, false, List, [], ◌++◌, refl, ap, ◌∙◌, arith}
use Rattle.std.proofs.lemmas.List.Sums.{sum_by-append}
use Rattle.wh_threads.specs.declared.channel.Traffic.{Traffic}
use Rattle.wh_threads.specs.declared.gate.Sign.{Sign}
use Rattle.wh_threads.specs.Gates.{begins, begins_in}
use Rattle.wh_threads.specs.Handover.{traffic}

not_true : (b : Bool) → (b ≡ true → ⊥) → b ≡ false
not_true true bad = absurd (bad refl)
not_true false bad = refl

-- what was received through both passes was dispatched through one of them, and nobody was told to begin
pub stays : (has_begun : Bool) (mine theirs both : Traffic Sign) (held : List Sign)
    → (has_begun ≡ true → 0 < begins_in theirs.received) → theirs ≡ traffic 1 [] theirs.received → begins_in mine.sent ≡ 0
    → both ≡ traffic (mine.parts + theirs.parts) (mine.sent ++ theirs.sent) (mine.received ++ theirs.received)
    → begins_in both.sent ≡ begins_in both.received + begins_in held → has_begun ≡ false
stays has_begun mine theirs both held begun told none is sums =
    not_true has_begun (λ yes. omega (
      arith,
      begun yes,
      none,
      sums,
      ap (λ (x : Traffic Sign). begins_in x.sent) is,
      ap (λ (x : Traffic Sign). begins_in x.received) is,
      ap (λ (x : Traffic Sign). begins_in x.sent) told,
      sum_by-append begins mine.sent theirs.sent,
      sum_by-append begins mine.received theirs.received,
    ))
