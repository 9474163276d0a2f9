-- In turns pages leave shared frames, and none comes to one.
use Rattle.std.proofs.Common.{◌≡◌, ◌∙◌, ◌⊎◌, inl, inr, ℕ, zero, suc, ◌+◌, ◌*◌, ◌≤◌, ◌++◌, cond, true, false, Bool, List, [], ◌∷◌, Option, Some, None, get_or, length, replicate, slice_set, length-set, refl, sym, ap, subst, arith}
use Rattle.wh_model.specs.declared.memory.Need.{Need}
use Rattle.wh_space_model.specs.declared.states.Page.{Page}
use Rattle.wh_space_model.specs.declared.states.Page.TheVariants.{Untouched, Private, Shared, Leaving, LeavingShared, Coming, Swapped}
use Rattle.wh_space_model.specs.{tally, Space, count, numbers_below, page_at, put, shares, sharers, BreaksEach, GetsFrame, LeavesSharers, TakesFrame, with_fewer, Fills, Grew, Overwrites, Touches, ended, stood, unpinned, unpinned_of}
use Rattle.wh_space_model.specs.Breaks.{Breaks}
use Rattle.wh_space_model.proofs.Sums.{put_tally}
use Rattle.wh_host_model.specs.declared.plain.TurnEnd.{TurnEnd}
use Rattle.wh_host_model.specs.declared.plain.TurnEnd.TheVariants.{Idle, Again, Fuel, Frame, Ended}
use Rattle.wh_host_model.specs.Host.{World}
use Rattle.wh_space_model.specs.declared.plain.InstId.{InstId}
use Rattle.wh_space.specs.InstanceSteps.{TakesSteps, takes_none, loads_first, stores_first, grows_first}
use Rattle.wh_host.specs.declared.rounds.Runner.{Runner}
use Rattle.wh_host.specs.declared.rounds.SeriesEnd.{SeriesEnd}
use Rattle.wh_host.specs.Left.{LeavesTurned, WaitsThen}
use Rattle.wh_host.specs.Reporting.{all_sharers}
use Rattle.wh_host.specs.Rounds.{AllTurn, TakesTurns}

-- no frame has more sharers than before, and there are as many frames
record NoMoreShare (s s2 : Space) : Type 0 where
  frames : length s2.pool.frames ≡ length s.pool.frames
  each : (f : ℕ) → sharers s2 f ≤ sharers s f

no_more_then : {a b c : Space} → NoMoreShare a b → NoMoreShare b c → NoMoreShare a c
no_more_then first second = record {
  frames = second.frames ∙ first.frames;
  each = λ f. (let x = first.each f in let y = second.each f in omega (arith, x, y));
}

-- as many pages share each frame where all pages are as they were
same_pages : (s s2 : Space) → s2.tables ≡ s.tables → length s2.pool.frames ≡ length s.pool.frames → NoMoreShare s s2
same_pages s s2 tables frames = record {
  frames = frames;
  each = λ f. (let e : sharers s2 f ≡ sharers s f = ap (λ (t : List (List Page)). count (shares f) t) tables in omega (arith, e));
}

same_space : (s s2 : Space) → s2 ≡ s → NoMoreShare s s2
same_space s s2 is = same_pages s s2 (ap (λ (z : Space). z.tables) is) (ap (λ (z : Space). length z.pool.frames) is)

-- ---- a page that is written

takes_frame : (s : Space) (i g : ℕ) (bytes : List ℕ) (s2 : Space) → TakesFrame s i g bytes s2 → (s2.tables ≡ s.tables) × (length s2.pool.frames ≡ length s.pool.frames)
takes_frame s i g bytes s2 (inl (rest, taken, is)) = (ap (λ (z : Space). z.tables) is, ap (λ (z : Space). length z.pool.frames) is ∙ length-set s.pool.frames g bytes)
takes_frame s i g bytes s2 (inr (rest, taken, is)) = (ap (λ (z : Space). z.tables) is, ap (λ (z : Space). length z.pool.frames) is ∙ length-set s.pool.frames g bytes)

leaves_sharers : (s : Space) (i f g : ℕ) (s2 : Space) → LeavesSharers s i f g s2 → (s2.tables ≡ s.tables) × (length s2.pool.frames ≡ length s.pool.frames)
leaves_sharers s i f g s2 (inl (one, same, is)) = (ap (λ (z : Space). z.tables) is, ap (λ (z : Space). length z.pool.frames) is)
leaves_sharers s i f g s2 (inr (more, takes)) = takes_frame (with_fewer s f) i g _ s2 takes

gets_frame : (s : Space) (i : ℕ) (page : Page) (g : ℕ) (s2 : Space) → GetsFrame s i page g s2 → (s2.tables ≡ s.tables) × (length s2.pool.frames ≡ length s.pool.frames)
gets_frame s i Untouched g s2 gets = takes_frame s i g _ s2 gets
gets_frame s i (Private f) g s2 (same, is) = (ap (λ (z : Space). z.tables) is, ap (λ (z : Space). length z.pool.frames) is)
gets_frame s i (Leaving f) g s2 (same, is) = (ap (λ (z : Space). z.tables) is, ap (λ (z : Space). length z.pool.frames) is)
gets_frame s i (Shared f) g s2 gets = leaves_sharers s i f g s2 gets
gets_frame s i (LeavingShared f) g s2 gets = leaves_sharers s i f g s2 gets
gets_frame s i (Coming k) g s2 gets = absurd gets
gets_frame s i (Swapped k) g s2 gets = absurd gets

breaks_one : (s : Space) (i p : ℕ) (s2 : Space) → Breaks s i p s2 → NoMoreShare s s2
breaks_one s i p s2 b =
    let got = gets_frame s i b.page b.frame b.mid b.gets in
    let was : page_at b.mid.tables i p ≡ Some b.page = ap (λ (t : List (List Page)). page_at t i p) got.0 ∙ b.was in
    record {
      frames = ap (λ (z : Space). length z.pool.frames) b.after ∙ got.1;
      each = λ f.
          (let moved = put_tally (shares f) b.mid.tables i p b.page (Private b.frame) was in
          let new : sharers s2 f ≡ count (shares f) (put b.mid.tables i p (Private b.frame)) = ap (λ (z : Space). count (shares f) z.tables) b.after in
          let old : count (shares f) b.mid.tables ≡ sharers s f = ap (λ (t : List (List Page)). count (shares f) t) got.0 in
          omega (arith, moved, new, old));
    }

breaks_each : (s : Space) (i : ℕ) (ps : List ℕ) (s2 : Space) → BreaksEach s i ps s2 → NoMoreShare s s2
breaks_each s i [] s2 is = same_space s s2 is
breaks_each s i (p ∷ ps) s2 (mid, first, more) = no_more_then (breaks_one s i p mid first) (breaks_each mid i ps s2 more)

-- ---- pages that come

untouched_more : (w : Page → ℕ) (n : ℕ) → w Untouched ≡ 0 → tally w (replicate n Untouched) ≡ 0
untouched_more w zero none = refl
untouched_more w (suc n) none = let rest = untouched_more w n none in omega (arith, none, rest)

row_more : (w : Page → ℕ) (xs : List Page) (n : ℕ) → w Untouched ≡ 0 → tally w (xs ++ replicate n Untouched) ≡ tally w xs
row_more w [] n none = untouched_more w n none
row_more w (x ∷ xs) n none = let rest = row_more w xs n none in omega (arith, rest)

rows_more : (w : Page → ℕ) (xss : List (List Page)) (i n : ℕ) → w Untouched ≡ 0 → tally (tally w) (slice_set xss i (get_or xss i [] ++ replicate n Untouched)) ≡ tally (tally w) xss
rows_more w [] i n none = refl
rows_more w (xs ∷ xss) zero n none = let row = row_more w xs n none in omega (arith, row)
rows_more w (xs ∷ xss) (suc i) n none = let rest = rows_more w xss i n none in omega (arith, rest)

grew : (s : Space) (i n : ℕ) (s2 : Space) → Grew s i n s2 → NoMoreShare s s2
grew s i n s2 is = record {
  frames = ap (λ (z : Space). length z.pool.frames) is;
  each = λ f.
      (let new : sharers s2 f ≡ count (shares f) (slice_set s.tables i (get_or s.tables i [] ++ replicate (16 * n) Untouched)) = ap (λ (z : Space). count (shares f) z.tables) is in
      let same = rows_more (shares f) s.tables i (16 * n) refl in
      omega (arith, new, same));
}

overwrites : (s : Space) (i at : ℕ) (given : List ℕ) (s2 : Space) → Overwrites s i at given s2 → NoMoreShare s s2
overwrites s i at given s2 o =
    let f = o.fills in
    no_more_then (breaks_each s i _ o.mid o.breaks) (same_pages o.mid s2 (ap (λ (z : Space). z.tables) f.after) (ap (λ (z : Space). length z.pool.frames) f.after ∙ f.many))

-- ---- turns

steps_share : {i : ℕ} {s s2 : Space} → TakesSteps i s s2 → NoMoreShare s s2
steps_share {s = s} takes_none = same_space s s refl
steps_share (loads_first {s = s} {mid = mid} at n is rest) = no_more_then (same_pages s mid (ap (λ (z : Space). z.tables) is) (ap (λ (z : Space). length z.pool.frames) is)) (steps_share rest)
steps_share {i = i} (stores_first {s = s} {mid = mid} at given is rest) = no_more_then (overwrites s i at given mid is) (steps_share rest)
steps_share {i = i} (grows_first {s = s} {mid = mid} n is rest) = no_more_then (grew s i n mid is) (steps_share rest)

unpinned_pages : (b : Bool) (s : Space) → NoMoreShare s (cond b (unpinned s) s)
unpinned_pages true s = same_pages s (unpinned s) refl refl
unpinned_pages false s = same_space s s refl

ended_share : (s : Space) (i : ℕ) → NoMoreShare s (ended s i)
ended_share s i = no_more_then (same_pages s (stood s i None) refl refl) (unpinned_pages _ (stood s i None))

stood_share : (s : Space) (i : ℕ) (need : Option Need) → NoMoreShare s (stood s i need)
stood_share s i need = same_pages s (stood s i need) refl refl

to_this : {s a b : Space} → b ≡ a → NoMoreShare s a → NoMoreShare s b
to_this {s = s} is share = subst (NoMoreShare s) (sym is) share

waits_share : (i : ℕ) (end : TurnEnd) (s s2 : Space) → WaitsThen i end s s2 → NoMoreShare s s2
waits_share i Idle s s2 is = same_space s s2 is
waits_share i Ended s s2 is = to_this is (ended_share s i)
waits_share i Fuel s s2 is = to_this is (ended_share s i)
waits_share i Frame s s2 (need, inl is) = to_this is (stood_share s i (Some need))
waits_share i Frame s s2 (need, inr is) = to_this is (no_more_then (ended_share s i) (stood_share (ended s i) i (Some need)))
waits_share i Again s s2 (inl is) = same_space s s2 is
waits_share i Again s s2 (inr (inl is)) = to_this is (stood_share s i None)
waits_share i Again s s2 (inr (inr is)) = to_this is (ended_share s i)

turned_share : (i : ℕ) (end : TurnEnd) (s s2 : Space) → LeavesTurned i end s s2 → NoMoreShare s s2
turned_share i Idle s s2 is = same_space s s2 is
turned_share i Ended s s2 (mid, steps, waits) = no_more_then (steps_share steps) (waits_share i Ended mid s2 waits)
turned_share i Fuel s s2 (mid, steps, waits) = no_more_then (steps_share steps) (waits_share i Fuel mid s2 waits)
turned_share i Frame s s2 (mid, steps, waits) = no_more_then (steps_share steps) (waits_share i Frame mid s2 waits)
turned_share i Again s s2 (mid, steps, waits) = no_more_then (steps_share steps) (waits_share i Again mid s2 waits)

-- ---- all frames

tally_below : (g h : ℕ → ℕ) (xs : List ℕ) → ((x : ℕ) → g x ≤ h x) → tally g xs ≤ tally h xs
tally_below g h [] below = omega arith
tally_below g h (x ∷ xs) below = let first = below x in let rest = tally_below g h xs below in omega (arith, first, rest)

in_all : (s s2 : Space) → NoMoreShare s s2 → all_sharers s2 ≤ all_sharers s
in_all s s2 share =
    let as_many : all_sharers s2 ≡ tally (sharers s2) (numbers_below (length s.pool.frames)) = ap (λ n. tally (sharers s2) (numbers_below n)) share.frames in
    let below = tally_below (sharers s2) (sharers s) (numbers_below (length s.pool.frames)) share.each in
    omega (arith, as_many, below)

pub turn_shares : (i : ℕ) (end : TurnEnd) (s s2 : Space) → LeavesTurned i end s s2 → all_sharers s2 ≤ all_sharers s
turn_shares i end s s2 leaves = in_all s s2 (turned_share i end s s2 leaves)

takes_shares : (q most : ℕ) (w : World) (id : InstId) (answer : Option SeriesEnd) (w2 : World) → TakesTurns q most w id answer w2 → all_sharers w2.space ≤ all_sharers w.space
takes_shares q most w id None w2 is = let e : all_sharers w2.space ≡ all_sharers w.space = ap (λ (z : World). all_sharers z.space) is in omega (arith, e)
takes_shares q most w id (Some made) w2 takes = turn_shares id.place made.end w.space w2.space takes.3

pub round_shares : (q most : ℕ) (w : World) (ys : List Runner) (w2 : World) → AllTurn q most w ys w2 → all_sharers w2.space ≤ all_sharers w.space
round_shares q most w [] w2 is = let e : all_sharers w2.space ≡ all_sharers w.space = ap (λ (z : World). all_sharers z.space) is in omega (arith, e)
round_shares q most w (y ∷ ys) w2 (mid, takes, rest) =
    let first = takes_shares q most w y.id y.answer mid takes in
    let more = round_shares q most mid ys w2 rest in
    omega (arith, first, more)
