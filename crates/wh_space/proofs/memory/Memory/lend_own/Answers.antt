use Rattle.std.proofs.Common.{refl, ap, ◌∙◌, List, arith, rules}
use Rattle.wh_space_model.specs.declared.states.Page.{Page}
use Rattle.wh_space_model.specs.declared.states.Page.TheVariants.{Private, Shared}
use Rattle.wh_space_model.specs.{put}
use Rattle.wh_space_model.proofs.Evicted.{row_length}
use Rattle.wh_space_model.proofs.Forked.{lends_page}
use Rattle.wh_space_model.proofs.Putting.{is_page}
use Rattle.wh_space.specs.Parts.{space_of}
use Rattle.wh_space.specs.declared.memory.Memory.TheInside.{Inside}
use Rattle.wh_space.proofs.Framing.{known_under}
use Rattle.wh_space.proofs.Merges.{is_alone, remade_is}
use Rattle.wh_space.proofs.Wellness.{well}
use Rattle.wh_space.specs.UnchangedTables.{Fixed}
use Rattle.wh_space.proofs.memory.Memory.lend_own.Goals as goal

pub share_unlisted-requires : goal.share_unlisted-requires
share_unlisted-requires c = (is_alone (space_of c.self.inside) c.args.from c.args.number c.args.frame c.self.invariant.sound (rw (← c.self.view_is) at c.requires.own)).entry

pub put_page-requires-clause-there : goal.put_page-requires-clause-there
put_page-requires-clause-there c = (is_alone (space_of c.self.inside) c.args.from c.args.number c.args.frame c.self.invariant.sound (rw (← c.self.view_is) at c.requires.own)).number

pub put_page-requires-clause-frame : goal.put_page-requires-clause-frame
put_page-requires-clause-frame c = known_under c.self.inside c.args.from c.args.number c.args.frame (Private c.args.frame) c.self.invariant (rw (← c.self.view_is) at c.requires.own) refl

pub put_page-requires-2-clause-there : goal.put_page-requires-2-clause-there
put_page-requires-2-clause-there c = search (rules, is_page, row_length)

pub put_page-requires-2-clause-frame : goal.put_page-requires-2-clause-frame
put_page-requires-2-clause-frame c =
    let frames = ap (λ (z : Fixed). z.frames) c.put_page.ensures.limits in
    let within = known_under c.self.inside c.args.from c.args.number c.args.frame (Private c.args.frame) c.self.invariant (rw (← c.self.view_is) at c.requires.own) refl in
    omega (arith, frames, within)

pub invariant_of-self : goal.invariant_of-self
invariant_of-self c =
    let a = c.self.inside in
    let b : Inside = record a { tables = c.put_page-2.new.tables; content = c.share_unlisted.new.self } in
    let pages = c.put_page-2.ensures.pages ∙ ap (λ (t : List (List Page)). put t c.args.place c.args.number (Shared c.args.frame)) c.put_page.ensures.pages in
    let is = remade_is a b _ _ _ _ refl refl refl refl pages (c.put_page-2.ensures.marks ∙ c.put_page.ensures.marks) refl c.share_unlisted.ensures in
    well a b c.self.invariant refl (c.put_page-2.ensures.limits ∙ c.put_page.ensures.limits) refl refl
    (lends_page (space_of a) c.args.from c.args.place c.args.number (Private c.args.frame) (space_of b) c.self.invariant.sound
    (rw (← c.self.view_is) at c.requires.own) (rw (← c.self.view_is) at c.requires.onto) is)

pub returns : goal.returns
returns c = search rules
