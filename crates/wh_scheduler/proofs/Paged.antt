-- Turns of the owner behind pages that it evicted.
use Rattle.std.proofs.Common.{◌≡◌, ℕ, ◌+◌, ◌^◌, ◌<◌, inl, inr, ap, subst, arith}
use Rattle.std.proofs.lemmas.Bool.{cases_lt}
use Rattle.wh_threads.specs.declared.own_count.OwnCount.{OwnCount}
use Rattle.wh_cell.specs.Locking.{BooksState}
use Rattle.wh_scheduler.specs.InHand.{RunsHere, WorksHere}
use Rattle.wh_scheduler.proofs.OwnTurns.{works_by_turns, works_more}

-- turns behind those evictions
pub works_behind : (books books2 books3 : BooksState) (own own2 own3 : OwnCount) (turns : ℕ) → WorksHere books own 0 0 books2 own2 → RunsHere books2 own2 turns books3 own3
    → WorksHere books own turns 0 books3 own3
works_behind books books2 books3 own own2 own3 turns first next =
    let turns_are : 0 + turns ≡ turns = omega arith in
    subst (λ n. WorksHere books own n 0 books3 own3) turns_are (works_more books books2 books3 own own2 own3 0 0 turns 0 first (works_by_turns books2 books3 own2 own3 turns next))

-- such turns, and more of them
pub fits_more : (books books2 : BooksState) (own own2 : OwnCount) (more : ℕ) → WorksHere books own more 0 books2 own2 → (turns : ℕ) → (0 < turns → own.turns < 2 ^ 64)
    → (0 < more → own2.turns < 2 ^ 64) → 0 < turns + more → own2.turns < 2 ^ 64
fits_more books books2 own own2 more did turns fits fits2 some =
    elim (cases_lt 0 more) [
      | inl more_than_none ↦ fits2 more_than_none
      | inr none ↦
          (let had : own.turns < 2 ^ 64 = fits (omega (arith, some, none)) in
          omega (arith, had, none, ap (λ (o : OwnCount). o.turns) did.own_is))
    ]
