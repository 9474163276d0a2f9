use Rattle.std.proofs.Common.{◌≡◌, ◌+◌, ◌≤◌, [], Some, true, length, refl, ap, arith, rules}
use Rattle.wh_space_model.specs.{Occupant, Space, kept, occupant_at}
use Rattle.wh_space_model.proofs.Reserved.{is_sound_earmarked}
use Rattle.wh_space.specs.declared.memory.Memory.TheInside.{Inside}
use Rattle.wh_space.specs.Parts.{space_of}
use Rattle.wh_space.proofs.Earmarked.{earmarks}
use Rattle.wh_space.proofs.Wellness.{well}
use Rattle.wh_space.proofs.memory.Memory.earmark.Goals as goal

pub invariant_of-self : goal.invariant_of-self
invariant_of-self c =
    let a : Inside = c.self.inside in
    let s : Space = space_of a in
    let b : Inside = record a { pool = c.take_frames-frames.new.pool; pins = Some (record { place = c.args.place; pages = c.pages_pinned-pages.result; frames = c.take_frames-frames.result }) } in
    let none : kept s.pins ≡ [] = rw (← c.self.view_is) at c.requires.none in
    let there : (t : Occupant) × occupant_at s c.args.place t × (t.live ≡ true) = rw (← c.self.view_is) at c.requires.there in
    let few : length (kept s.pins) + c.args.count ≤ 2 = (let zero_kept = ap length none in let most = c.requires.few in omega arith) in
    let e = c.take_frames-frames.ensures in
    well a b c.self.invariant refl refl (ap length e.frames) refl (is_sound_earmarked s c.args.place c.args.count (space_of b) c.self.invariant.sound there few
    (earmarks s c.args.place c.args.count b.pool c.pages_pinned-pages.result c.take_frames-frames.result none c.pages_pinned-pages.ensures e.many e.frames e.free))

pub returns : goal.returns
returns c = search rules
