-- A provision takes no frame and no slot away, and adds none.
use Rattle.std.proofs.Common.{◌∙◌, inl, inr, ℕ, List, [], ◌∷◌, Result, Ok, Err, length-set, refl, subst, sym}
use Rattle.std.specs.Prelude.{IfOk, OnErr}
use Rattle.wh_model.specs.declared.memory.Need.{Need}
use Rattle.wh_space_model.specs.{Evicts, Fetches, Earmarks, Space, FailsToProvide, GivesUp, Move, MovesOn, Provides, Serves, comes, goes}
use Rattle.wh_reclaim.specs.Whole.{IsAsWhole}

pub then_whole : (a b c : Space) → IsAsWhole a b → IsAsWhole b c → IsAsWhole a c
then_whole a b c first second = record { frames = second.frames ∙ first.frames; slots = second.slots ∙ first.slots; tax = second.tax ∙ first.tax }

evicts_whole : (s : Space) (j p : ℕ) (s2 : Space) → Evicts s j p s2 → IsAsWhole s s2
evicts_whole s j p s2 e =
    subst (IsAsWhole s) (sym e.leaves) (record { frames = refl; slots = length-set s.slots.uses e.slot _; tax = refl })

fetches_whole : (s : Space) (i p : ℕ) (bytes : List ℕ) (s2 : Space) → Fetches s i p bytes s2 → IsAsWhole s s2
fetches_whole s i p bytes s2 e =
    subst (IsAsWhole s) (sym e.leaves) (record { frames = length-set s.pool.frames e.frame bytes; slots = length-set s.slots.uses e.slot _; tax = refl })

moves_whole : (s : Space) (i : ℕ) (need : Need) (move : Move) (s2 : Space) → MovesOn s i need move s2 → IsAsWhole s s2
moves_whole s i need (comes bytes) s2 (p, first, fetches) = fetches_whole s i p bytes s2 fetches
moves_whole s i need goes s2 (lacks, (j, p, must, evicts)) = evicts_whole s j p s2 evicts

serves_whole : (s : Space) (i : ℕ) (need : Need) (moves : List Move) (s2 : Space) → Serves s i need moves s2 → IsAsWhole s s2
serves_whole s i need [] s2 is = subst (IsAsWhole s) (sym is) (record { frames = refl; slots = refl; tax = refl })
serves_whole s i need (move ∷ moves) s2 (mid, before, on) =
    then_whole s mid s2 (serves_whole s i need moves mid before) (moves_whole mid i need move s2 on)

earmarks_whole : (s : Space) (i n : ℕ) (s2 : Space) → Earmarks s i n s2 → IsAsWhole s s2
earmarks_whole s i n s2 e = subst (IsAsWhole s) (sym e.leaves) (record { frames = refl; slots = refl; tax = refl })

gives_whole : (s s2 : Space) → GivesUp s s2 → IsAsWhole s s2
gives_whole s s2 (inl is) = subst (IsAsWhole s) (sym is) (record { frames = refl; slots = refl; tax = refl })
gives_whole s s2 (inr (k, vacant, is)) = subst (IsAsWhole s) (sym is) (record { frames = refl; slots = refl; tax = refl })

-- however the provision comes out
pub provides_whole : {E : Type 0} (answer : Result ℕ E) (s : Space) (i : ℕ) (need : Need) (s2 : Space) → IfOk answer (λ n. Provides s i need n s2) → OnErr answer (FailsToProvide s i need s2)
    → IsAsWhole s s2
provides_whole (Ok n) s i need s2 (moves, mid, serves, many, served, earmarks) fails =
    then_whole s mid s2 (serves_whole s i need moves mid serves) (earmarks_whole mid i _ s2 earmarks)
provides_whole (Err e) s i need s2 provides (moves, mid, serves, gives) =
    then_whole s mid s2 (serves_whole s i need moves mid serves) (gives_whole mid s2 gives)
