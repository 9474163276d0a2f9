use Rattle.wh_space_model.specs.{Fills}
use Rattle.std.proofs.Common.{length-set, refl, ◌*◌, ◌+◌, rules}
use Rattle.wh_space_model.specs.declared.states.Page.TheVariants.{Private}
use Rattle.wh_space_model.proofs.Filled.{filled_sound}
use Rattle.wh_space_model.proofs.Reading.{taken_under}
use Rattle.wh_space_model.proofs.Writing.{fills_page}
use Rattle.wh_space.specs.Parts.{space_of}
use Rattle.wh_space.proofs.Wellness.{well}
use Rattle.wh_space.proofs.memory.Memory.write_own.Goals as goal

pub write_frame-requires-clause-taken : goal.write_frame-requires-clause-taken
write_frame-requires-clause-taken c = taken_under (space_of c.self.inside) c.args.place c.args.number (Private c.args.frame) c.args.frame c.self.invariant.sound.frames (rw (← c.self.view_is) at c.requires.own) refl

fills : (c : goal.After-write_frame) → Fills (space_of c.self.inside) c.args.place (4096 * c.args.number + c.args.offset) c.args.given.now (space_of (record c.self.inside { pool = c.write_frame.new.pool }))
fills c = rw c.write_frame.ensures (fills_page (space_of c.self.inside) c.args.place c.args.number c.args.frame c.args.offset (4096 * c.args.number + c.args.offset) c.args.given.now
    c.self.invariant.sound (rw (← c.self.view_is) at c.requires.own) c.requires.inside c.requires.some refl)

pub invariant_of-self : goal.invariant_of-self
invariant_of-self c = search (rules, well, length-set, filled_sound, fills)

pub returns-clause-fills : goal.returns-clause-fills
returns-clause-fills c = rw (← c.self.view_is) (fills c)
