use Rattle.wh_space_model.specs.{Pool, residents, pages_of_need, IsSound, WaitsForBytes}
use Rattle.std.proofs.Common.{length, ap, ◌≡◌, Some, refl, sym, subst, rules}
use Rattle.wh_space_model.proofs.Reserved.{is_sound_pinned}
use Rattle.wh_space.specs.declared.memory.Memory.TheInside.{Inside}
use Rattle.wh_space.specs.Parts.{space_of}
use Rattle.wh_space.specs.Pinning.{numbers_in}
use Rattle.wh_space.specs.declared.pins.Few.TheVariants.{Zero}
use Rattle.wh_space.proofs.Earmarked.{may_end_all, pins_now}
use Rattle.wh_space.proofs.Transiting.{stands_there, stands_within}
use Rattle.wh_space.proofs.Wellness.{well}
use Rattle.wh_space.proofs.memory.Memory.pin.Goals as goal

pub residents_of-pages-requires-clause-within : goal.residents_of-pages-requires-clause-within
residents_of-pages-requires-clause-within c = (stands_within c.args.self.now c.args.place c.args.need (subst IsSound c.self.view_is c.self.invariant.sound) c.requires).0

pub residents_of-pages-requires-clause-few : goal.residents_of-pages-requires-clause-few
residents_of-pages-requires-clause-few c = (stands_within c.args.self.now c.args.place c.args.need (subst IsSound c.self.view_is c.self.invariant.sound) c.requires).1

pub end_all_pins-requires-clause-once : goal.end_all_pins-requires-clause-once
end_all_pins-requires-clause-once c = (may_end_all (space_of c.self.inside) c.self.invariant.sound.frames).once

pub end_all_pins-requires-clause-there : goal.end_all_pins-requires-clause-there
end_all_pins-requires-clause-there c = (may_end_all (space_of c.self.inside) c.self.invariant.sound.frames).there

pub invariant_of-self : goal.invariant_of-self
invariant_of-self c =
    let a : Inside = c.self.inside in
    let b : Inside = record a { pool = c.end_all_pins.new.pool; pins = Some (record { place = c.args.place; pages = c.residents_of-pages.result; frames = Zero }) } in
    let pages : numbers_in c.residents_of-pages.result ≡ residents (space_of a) c.args.place (pages_of_need c.args.need) = rw (← c.self.view_is) at c.residents_of-pages.ensures in
    let stands : WaitsForBytes (space_of a) c.args.place c.args.need = rw (← c.self.view_is) at c.requires in
    well a b c.self.invariant refl refl (ap (λ (z : Pool). length z.frames) c.end_all_pins.ensures.pool) refl (subst IsSound (sym (pins_now (space_of a) c.args.place c.args.need b.pool c.residents_of-pages.result pages c.end_all_pins.ensures.pool)) (is_sound_pinned (space_of a) c.args.place c.args.need c.self.invariant.sound (stands_there (space_of a) c.args.place c.args.need stands)))

pub returns : goal.returns
returns c = search rules
