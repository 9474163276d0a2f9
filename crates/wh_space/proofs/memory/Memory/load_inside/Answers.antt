use Rattle.std.proofs.Common.{◌∙◌, sym, refl, ap, subst, ◌≡◌, true, length}
use Rattle.wh_space_model.specs.{Space, backing, IsSound, put}
use Rattle.wh_space_model.proofs.Reading.{read_page, taken_under}
use Rattle.wh_space_model.proofs.Steady.{touched_soundly}
use Rattle.wh_space.specs.declared.memory.Memory.TheInside.{Inside}
use Rattle.wh_space.specs.UnchangedTables.{fixed_in}
use Rattle.wh_space.specs.Parts.{space_of}
use Rattle.wh_space.proofs.Wellness.{well}
use Rattle.wh_space.proofs.memory.Memory.load_inside.Goals as goal

pub read_page-requires-clause-taken : goal.read_page-requires-clause-taken
read_page-requires-clause-taken c = λ f on. taken_under (space_of c.self.inside) c.args.place c.args.number c.page-page.result f c.self.invariant.sound.frames c.page-page.ensures on

pub invariant_of-self : goal.invariant_of-self
invariant_of-self c =
    let a : Inside = c.self.inside in
    let b : Inside = record a { tables = c.touch.new.self } in
    let s : Space = space_of a in
    let is : space_of b ≡ record s { touched = put s.touched c.args.place c.args.number true } = rw c.touch.ensures refl in
    well a b c.self.invariant refl (ap fixed_in c.touch.ensures) refl refl (subst IsSound (sym is) (touched_soundly s c.args.place c.args.number c.self.invariant.sound))

pub returns-clause-read : goal.returns-clause-read
returns-clause-read c =
    let s : Space = space_of c.self.inside in
    rw (← c.self.view_is) (λ yes. c.read_page.ensures.read c.if-not-read_page.false (backing s) refl
    ∙ sym (read_page s c.args.place c.args.number c.page-page.result c.args.offset (length c.args.into.now) c.self.invariant.sound c.page-page.ensures c.requires.inside))
