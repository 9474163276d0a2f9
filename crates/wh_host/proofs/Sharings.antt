-- How many frames are shared, by what the content table has.
use Rattle.std.proofs.Common.{◌≡◌, ℕ, zero, suc, ◌+◌, min, Some, List, [], ◌∷◌, length, slice_get, refl, sym, subst, arith, rules}
use Rattle.wh_space_model.specs.{tally, Space, numbers_below, sharers, FramesAreSound, IsSound, Names}
use Rattle.wh_space_model.specs.declared.states.Mark.{Mark}
use Rattle.wh_space_model.specs.declared.states.Mark.TheVariants.{Plain, Hint, Sharers, Unlisted}
use Rattle.wh_space.specs.{is_shared, sharers_in}
use Rattle.wh_host.specs.Reporting.{all_sharers, shared_frames}

-- from the front
tally_shift : (g : ℕ → ℕ) (n : ℕ) → tally g (numbers_below (suc n)) ≡ g 0 + tally (λ k. g (suc k)) (numbers_below n)
tally_shift g zero = refl
tally_shift g (suc n) = let a = tally_shift g n in omega (arith, a)

by_frame : (w : Mark → ℕ) (g : ℕ → ℕ) (ms : List Mark) → ((f : ℕ) (m : Mark) → slice_get ms f ≡ Some m → w m ≡ g f) → tally w ms ≡ tally g (numbers_below (length ms))
by_frame w g [] same = refl
by_frame w g (m ∷ ms) same =
    let c = by_frame w (λ k. g (suc k)) ms (λ f x at. same (suc f) x at) in
    omega (arith, tally_shift g (length ms), same 0 m refl, c)

shared_by : (s : Space) (f : ℕ) (m : Mark) → Names s f (Some m) → (is_shared m ≡ min 1 (sharers s f)) × (sharers_in m ≡ sharers s f)
shared_by s f Plain none = rw none (refl, refl)
shared_by s f (Hint hash i p) none = let e = none.1 in rw e (refl, refl)
shared_by s f (Sharers hash n) some = let e = some.0 in let a = some.1 in (rw e (omega (arith, a)), sym e)
shared_by s f (Unlisted n) some = let e = some.0 in let a = some.1 in (rw e (omega (arith, a)), sym e)

named : (s : Space) → FramesAreSound s → (f : ℕ) (m : Mark) → slice_get s.marks f ≡ Some m → Names s f (Some m)
named s sound f m at = subst (Names s f) at (sound.names f)

pub frames_shared : (s : Space) → IsSound s → tally is_shared s.marks ≡ shared_frames s
frames_shared s sound = search (rules, by_frame, min, shared_by, named)

pub pages_sharing : (s : Space) → IsSound s → tally sharers_in s.marks ≡ all_sharers s
pages_sharing s sound = search (rules, by_frame, shared_by, named)
