use Rattle.std.proofs.Common.{◌≡◌, ◌+◌, ◌*◌, ◌++◌, List, ℕ, [], ◌∷◌, ◌/◌, ◌%◌, length, ap, subst, sym, ◌∙◌, arith, rules}
use Rattle.std.proofs.lemmas.List.{take-append-drop}
use Rattle.wh_space_model.specs.{IsSound, Space, view}
use Rattle.wh_space_model.proofs.Reading.{on_two_pages}
use Rattle.wh_model.specs.Execution.{bytes_at}
use Rattle.wh_space.proofs.Loading.{Hand, first_away, second_away, got_nothing, got_value, is_true, read_over, two_hands}
use Rattle.wh_space.proofs.memory.Memory.load_over.Goals as goal

pub returns-then-not-is_at_hand-clause-loads : goal.returns-then-not-is_at_hand-clause-loads
returns-then-not-is_at_hand-clause-loads c =
    let s = c.args.self.now in
    let i = c.args.place in
    let k = c.args.at in
    let old : List ℕ = c.args.into.now in
    let sound : IsSound s = subst IsSound c.self.view_is c.self.invariant.sound in
    let whole : c.split_at_mut-here.result.0.now ++ c.split_at_mut-here.result.1.now ≡ old = rw (c.split_at_mut-here.ensures.front, c.split_at_mut-here.ensures.back) (take-append-drop _ _) in
    let away : ¬ Hand s i (k / 4096) = (search rules) in
    got_nothing s i k old _ ((k / 4096) ∷ (k / 4096 + 1) ∷ []) sound c.requires.fits (on_two_pages k (length old) c.requires.over)
    (first_away s i (k / 4096) ((k / 4096 + 1) ∷ []) away) whole

pub returns-then-not-load_inside-clause-loads : goal.returns-then-not-load_inside-clause-loads
returns-then-not-load_inside-clause-loads c =
    let s = c.args.self.now in
    let i = c.args.place in
    let k = c.args.at in
    let old : List ℕ = c.args.into.now in
    let sound : IsSound s = subst IsSound c.self.view_is c.self.invariant.sound in
    let left = c.load_inside.ensures.left c.if-not-load_inside.true in
    let whole : c.split_at_mut-here.result.0.now ++ c.load_inside.new.into ≡ old = rw (left, c.split_at_mut-here.ensures.front, c.split_at_mut-here.ensures.back) (take-append-drop _ _) in
    let away : ¬ Hand s i (k / 4096 + 1) = (search rules) in
    got_nothing s i k old _ ((k / 4096) ∷ (k / 4096 + 1) ∷ []) sound c.requires.fits (on_two_pages k (length old) c.requires.over)
    (second_away s i (k / 4096) (k / 4096 + 1) away) whole

pub returns-clause-loads : goal.returns-clause-loads
returns-clause-loads c =
    let s = c.args.self.now in
    let i = c.args.place in
    let k = c.args.at in
    let old : List ℕ = c.args.into.now in
    let sound : IsSound s = subst IsSound c.self.view_is c.self.invariant.sound in
    let here : List ℕ = c.split_at_mut-here.result.0.now in
    let there : List ℕ = c.split_at_mut-here.result.1.now in
    let first : Hand s i (k / 4096) = (search rules) in
    let second : Hand s i (k / 4096 + 1) = (search rules) in
    let mid = c.load_inside.ensures.touched c.if-not-load_inside.false in
    let also : Hand c.load_inside.new.self i (k / 4096) = subst (λ (a : Space). Hand a i (k / 4096)) (sym mid) first in
    let done = is_true c.load_inside-2.result (Hand c.load_inside.new.self i (k / 4096)) c.load_inside-2.ensures.hand also in
    let low = c.load_inside-2.ensures.read done ∙ ap (λ (a : Space). bytes_at (view a i) (4096 * (k / 4096) + k % 4096) (length here)) mid in
    let front = c.split_at_mut-here.ensures.front_len in
    let back = c.split_at_mut-here.ensures.back_len in
    let few = c.requires.few in
    let over = c.requires.over in
    let over_all = read_over (view s i) k (length here) (length there) (length old) (4096 * (k / 4096) + k % 4096) (4096 * (k / 4096 + 1) + 0) (omega arith) (omega arith) (omega arith) in
    got_value s i k old _ ((k / 4096) ∷ (k / 4096 + 1) ∷ []) sound c.requires.fits (on_two_pages k (length old) over) (two_hands s i (k / 4096) (k / 4096 + 1) first second)
    (rw (low, c.load_inside.ensures.read c.if-not-load_inside.false) over_all)
