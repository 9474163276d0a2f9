use Rattle.std.proofs.Common.{◌≡◌, slice_get, refl, ap, ◌∙◌}
use Rattle.wh_space_model.specs.{Space, occupant_at, ended}
use Rattle.wh_space.specs.Parts.{IsWell, space_of}
use Rattle.wh_space.proofs.Earmarked.{may_end}
use Rattle.wh_space.proofs.Stood.{ended_well}
use Rattle.wh_space.proofs.memory.Memory.end.Goals as goal

pub end_pins-requires-clause-once : goal.end_pins-requires-clause-once
end_pins-requires-clause-once c = (may_end (space_of c.self.inside) c.args.place c.self.invariant.sound.frames).once

pub end_pins-requires-clause-there : goal.end_pins-requires-clause-there
end_pins-requires-clause-there c = (may_end (space_of c.self.inside) c.args.place c.self.invariant.sound.frames).there

is_ended : (c : goal.After-end_pins) → IsWell (record c.self.inside { occupant_entries = c.stand_at.new.self; pool = c.end_pins.new.pool; pins = c.end_pins.new.pins })
    × (space_of (record c.self.inside { occupant_entries = c.stand_at.new.self; pool = c.end_pins.new.pool; pins = c.end_pins.new.pins }) ≡ ended (space_of c.self.inside) c.args.place)
is_ended c =
    let a = c.self.inside in
    let there : occupant_at (space_of a) c.args.place c.requires.0 = ap (λ (s : Space). slice_get s.occupants c.args.place) c.self.view_is ∙ c.requires.1 in
    ended_well a (record a { occupant_entries = c.stand_at.new.self; pool = c.end_pins.new.pool; pins = c.end_pins.new.pins }) c.args.place c.requires.0 c.self.invariant there c.stand_at.ensures refl refl refl refl c.end_pins.ensures.pins c.end_pins.ensures.pool

pub invariant_of-self : goal.invariant_of-self
invariant_of-self c = (is_ended c).0

pub returns : goal.returns
returns c = (is_ended c).1 ∙ ap (λ (s : Space). ended s c.args.place) c.self.view_is
