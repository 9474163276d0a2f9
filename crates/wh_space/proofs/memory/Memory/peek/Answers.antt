use Rattle.std.proofs.Common.{◌∙◌, sym, refl, length}
use Rattle.wh_space_model.specs.{Space, backing}
use Rattle.wh_space_model.proofs.Reading.{read_page, taken_under}
use Rattle.wh_space.specs.Parts.{space_of}
use Rattle.wh_space.proofs.memory.Memory.peek.Goals as goal

pub read_page-requires-clause-taken : goal.read_page-requires-clause-taken
read_page-requires-clause-taken c = λ f on. taken_under (space_of c.self.inside) c.args.place c.args.number c.page.result f c.self.invariant.sound.frames c.page.ensures on

pub returns-clause-read : goal.returns-clause-read
returns-clause-read c =
    let s : Space = space_of c.self.inside in
    rw (← c.self.view_is) (λ yes. c.read_page.ensures.read yes (backing s) refl
    ∙ sym (read_page s c.args.place c.args.number c.page.result c.args.offset (length c.args.into.now) c.self.invariant.sound c.page.ensures c.requires))
