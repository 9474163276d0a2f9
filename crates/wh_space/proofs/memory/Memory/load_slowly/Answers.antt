use Rattle.std.proofs.Common.{◌≡◌, ◌≤◌, ◌+◌, List, ℕ, [], ◌∷◌, ◌/◌, ◌%◌, length, subst, sym, arith, rules}
use Rattle.std.proofs.lemmas.Grind.{common_steps}
use Rattle.std.proofs.lemmas.List.Elements.{All-nil}
use Rattle.wh_model.specs.declared.memory.Got.TheVariants.{NotReady}
use Rattle.wh_model.specs.Execution.{Loads, reading}
use Rattle.wh_space_model.specs.{view, IsSound}
use Rattle.wh_space_model.specs.Ready.{Ready}
use Rattle.wh_space_model.proofs.Reading.{on_no_page, on_one_page, view_length}
use Rattle.wh_space.proofs.Loading.{Hand, first_away, got_nothing, got_value, read_none}
use Rattle.wh_space.proofs.memory.Memory.load_slowly.Goals as goal

pub returns-then-not-fits-clause-loads : goal.returns-then-not-fits-clause-loads
returns-then-not-fits-clause-loads c = search (rules, view_length)

pub returns-then-is_empty-clause-loads : goal.returns-then-is_empty-clause-loads
returns-then-is_empty-clause-loads c =
    let s = c.args.self.now in
    let sound : IsSound s = subst IsSound c.self.view_is c.self.invariant.sound in
    let none : length c.args.into.now ≡ 0 = grind (arith, common_steps) in
    got_value s c.args.place c.args.at c.args.into.now c.args.into.now [] sound (c.fits.ensures.fits.0 c.if-not-fits.false)
    (on_no_page c.args.at (length c.args.into.now) none) (All-nil (λ q. Hand s c.args.place q)) (read_none (view s c.args.place) c.args.into.now c.args.at none)

pub returns-else-load_inside-clause-loads : goal.returns-else-load_inside-clause-loads
returns-else-load_inside-clause-loads c =
    let s = c.args.self.now in
    let i = c.args.place in
    let k = c.args.at in
    let old : List ℕ = c.args.into.now in
    let sound : IsSound s = subst IsSound c.self.view_is c.self.invariant.sound in
    let some : 1 ≤ length old = grind (arith, common_steps) in
    let within : k % 4096 + length old ≤ 4096 = omega (arith, c.if-offset-into-gt4096.false) in
    let same = c.load_inside.ensures.left c.if-load_inside.false in
    let away : ¬ Hand s i (k / 4096) = (search rules) in
    subst (λ (z : List ℕ). Loads (Ready s i) (view s i) k old (NotReady (reading k (length z))) c.load_inside.new.into) (sym same)
    (got_nothing s i k old c.load_inside.new.into ((k / 4096) ∷ []) sound (c.fits.ensures.fits.0 c.if-not-fits.false) (on_one_page k (length old) some within)
    (first_away s i (k / 4096) [] away) same)
