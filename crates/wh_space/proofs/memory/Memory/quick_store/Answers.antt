use Rattle.std.proofs.Common.{◌≡◌, ◌≤◌, ◌+◌, ◌*◌, List, ℕ, [], ◌∷◌, ◌/◌, ◌%◌, length, get_or, subst, arith}
use Rattle.std.proofs.lemmas.Grind.{common_steps}
use Rattle.wh_space_model.specs.{IsSound, Fills, Overwrites}
use Rattle.wh_space_model.proofs.Filling.{each_one}
use Rattle.wh_space_model.proofs.Reading.{on_one_page}
use Rattle.wh_space.proofs.Storing.{can_step_one, overwrites, stored}
use Rattle.wh_space.proofs.memory.Memory.quick_store.Goals as goal

over : (c : goal.After-write_own) → Overwrites c.args.self.now c.args.place c.args.at c.args.given.now c.write_own.new.self
over c =
    let k = c.args.at in
    let given : List ℕ = c.args.given.now in
    let some : 1 ≤ length given = grind (arith, common_steps) in
    let within : k % 4096 + length given ≤ 4096 = omega (arith, c.if-offset-given-gt4096.false) in
    let place : 4096 * (k / 4096) + k % 4096 ≡ k = omega arith in
    overwrites c.args.self.now c.args.self.now c.write_own.new.self c.args.place k given ((k / 4096) ∷ []) (on_one_page k (length given) some within)
    (each_one c.args.self.now c.args.place (k / 4096) c.args.self.now c.in-Some.ensures.1)
    (subst (λ z. Fills c.args.self.now c.args.place z given c.write_own.new.self) place c.write_own.ensures.fills)

pub returns-clause-leaves : goal.returns-clause-leaves
returns-clause-leaves c = λ yes. over c

pub returns-clause-stores : goal.returns-clause-stores
returns-clause-stores c =
    let s = c.args.self.now in
    let k = c.args.at in
    let given : List ℕ = c.args.given.now in
    let sound : IsSound s = subst IsSound c.self.view_is c.self.invariant.sound in
    let some : 1 ≤ length given = grind (arith, common_steps) in
    let within : k % 4096 + length given ≤ 4096 = omega (arith, c.if-offset-given-gt4096.false) in
    let there = c.has_page.ensures.has.0 c.if-not-has_page.false in
    let fits : k + length given ≤ 4096 * length (get_or s.tables c.args.place []) = omega (arith, within, there) in
    λ yes. stored s c.write_own.new.self c.args.place k given ((k / 4096) ∷ []) sound fits
    (on_one_page k (length given) some within) (can_step_one s c.args.place (k / 4096) c.in-Some.ensures.0) (over c)
