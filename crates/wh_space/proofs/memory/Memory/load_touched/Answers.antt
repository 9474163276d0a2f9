use Rattle.std.proofs.Common.{◌∙◌, sym, ap, length, rules}
use Rattle.wh_model.specs.Execution.{bytes_at}
use Rattle.wh_space_model.specs.{Space, backing}
use Rattle.wh_space_model.proofs.Reading.{read_page, taken_under}
use Rattle.wh_space_model.proofs.Transit.{on_frame}
use Rattle.wh_space.specs.Parts.{space_of}
use Rattle.wh_space.proofs.Marking.{frame_touched}
use Rattle.wh_space.proofs.Owning.{put_found}
use Rattle.wh_space.proofs.memory.Memory.load_touched.Goals as goal

pub read_frame-requires-clause-taken : goal.read_frame-requires-clause-taken
read_frame-requires-clause-taken c =
    let found = frame_touched _ _ c.in-Some.frame c.in-Some.ensures in
    taken_under (space_of c.self.inside) c.args.place c.args.number found.0 c.in-Some.frame c.self.invariant.sound.frames found.1 found.3

pub returns-clause-hand : goal.returns-clause-hand
returns-clause-hand c = search rules

pub returns-clause-touched : goal.returns-clause-touched
returns-clause-touched c = search (rules, frame_touched, put_found)

pub returns-clause-read : goal.returns-clause-read
returns-clause-read c =
    let s : Space = space_of c.self.inside in
    let found = frame_touched _ _ c.in-Some.frame c.in-Some.ensures in
    let n = length c.args.into.now in
    let on = on_frame (backing s) found.0 c.in-Some.frame found.3 in
    rw (← c.self.view_is) (λ yes. c.read_frame.ensures ∙ ap (λ z. bytes_at z c.args.offset n) (sym on)
    ∙ sym (read_page s c.args.place c.args.number found.0 c.args.offset n c.self.invariant.sound found.1 c.requires.inside))
