use Rattle.std.proofs.Common.{◌≡◌, ◌≤◌, ◌+◌, ◌*◌, List, ℕ, [], ◌∷◌, ◌/◌, ◌%◌, true, length, subst, sym, arith, rules}
use Rattle.std.proofs.lemmas.Grind.{common_steps}
use Rattle.wh_model.specs.declared.memory.Got.TheVariants.{NotReady}
use Rattle.wh_model.specs.Execution.Memory.{writing}
use Rattle.wh_model.specs.Execution.{Stores}
use Rattle.wh_space_model.specs.Ready.{Ready}
use Rattle.wh_space_model.specs.{IsSound, Space, view, Fills, Overwrites}
use Rattle.wh_space_model.proofs.Filling.{each_one}
use Rattle.wh_space_model.proofs.Reading.{on_no_page, on_one_page, view_length}
use Rattle.wh_space.specs.Steps.{CanStep}
use Rattle.wh_space.proofs.Storing.{can_step_one, cannot_step_one, no_step, not_stored, over_none, overwrites, stored}
use Rattle.wh_space.proofs.memory.Memory.store.Goals as goal

pub returns-then-not-fits-clause-stores : goal.returns-then-not-fits-clause-stores
returns-then-not-fits-clause-stores c = search (rules, view_length)

pub returns-then-is_empty-clause-stores : goal.returns-then-is_empty-clause-stores
returns-then-is_empty-clause-stores c =
    let s = c.args.self.now in
    let sound : IsSound s = subst IsSound c.self.view_is c.self.invariant.sound in
    let none : length c.args.given.now ≡ 0 = grind (arith, common_steps) in
    stored s s c.args.place c.args.at c.args.given.now [] sound (c.fits.ensures.fits.0 c.if-not-fits.false)
    (on_no_page c.args.at (length c.args.given.now) none) (no_step s c.args.place sound) (over_none s c.args.place c.args.at c.args.given.now none)

pub returns-then-is_empty-clause-leaves : goal.returns-then-is_empty-clause-leaves
returns-then-is_empty-clause-leaves c =
    let none : length c.args.given.now ≡ 0 = grind (arith, common_steps) in
    over_none c.args.self.now c.args.place c.args.at c.args.given.now none

over : (c : goal.After-write_own) → Overwrites c.args.self.now c.args.place c.args.at c.args.given.now c.write_own.new.self
over c =
    let k = c.args.at in
    let given : List ℕ = c.args.given.now in
    let some : 1 ≤ length given = grind (arith, common_steps) in
    let within : k % 4096 + length given ≤ 4096 = omega (arith, c.if-offset-given-gt4096.false) in
    let place : 4096 * (k / 4096) + k % 4096 ≡ k = omega arith in
    overwrites c.args.self.now c.own.new.self c.write_own.new.self c.args.place k given ((k / 4096) ∷ []) (on_one_page k (length given) some within)
    (each_one c.args.self.now c.args.place (k / 4096) c.own.new.self c.in-Some.ensures.1)
    (subst (λ z. Fills c.own.new.self c.args.place z given c.write_own.new.self) place c.write_own.ensures.fills)

pub returns-in-Some-clause-leaves : goal.returns-in-Some-clause-leaves
returns-in-Some-clause-leaves c = over c

pub returns-in-Some-clause-stores : goal.returns-in-Some-clause-stores
returns-in-Some-clause-stores c =
    let s = c.args.self.now in
    let k = c.args.at in
    let given : List ℕ = c.args.given.now in
    let sound : IsSound s = subst IsSound c.self.view_is c.self.invariant.sound in
    let some : 1 ≤ length given = grind (arith, common_steps) in
    let within : k % 4096 + length given ≤ 4096 = omega (arith, c.if-offset-given-gt4096.false) in
    stored s c.write_own.new.self c.args.place k given ((k / 4096) ∷ []) sound (c.fits.ensures.fits.0 c.if-not-fits.false)
    (on_one_page k (length given) some within) (can_step_one s c.args.place (k / 4096) c.in-Some.ensures.0) (over c)

pub returns-in_default-clause-stores : goal.returns-in_default-clause-stores
returns-in_default-clause-stores c =
    let s = c.args.self.now in
    let i = c.args.place in
    let k = c.args.at in
    let given : List ℕ = c.args.given.now in
    let sound : IsSound s = subst IsSound c.self.view_is c.self.invariant.sound in
    let some : 1 ≤ length given = grind (arith, common_steps) in
    let pages = on_one_page k (length given) some (omega (arith, c.if-offset-given-gt4096.false)) in
    let away : ¬ Ready s i (writing k (length given)) = λ ready. cannot_step_one s i (k / 4096) c.in_default.ensures.0 (subst (CanStep s i true) pages ready) in
    subst (λ (z : Space). Stores (Ready s i) (view s i) k given (NotReady (writing k (length given))) (view z i)) (sym c.in_default.ensures.1)
    (not_stored s i k given sound (c.fits.ensures.fits.0 c.if-not-fits.false) away)
