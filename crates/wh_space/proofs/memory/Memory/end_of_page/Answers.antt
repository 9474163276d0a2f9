use Rattle.std.proofs.Common.{◌≡◌, ◌≢◌, ◌∙◌, [], true, false, Some, sym, ap, subst, rules}
use Rattle.wh_space_model.specs.{frame_of, Space, frame_bytes, IsSound, page_at}
use Rattle.wh_space_model.proofs.Putting.{get_or_is, is_page}
use Rattle.wh_space_model.proofs.Reading.{taken_under}
use Rattle.wh_space.specs.Parts.{space_of}
use Rattle.wh_space.proofs.Moving.{ends_evicted, ends_failed, ends_void, is_out}
use Rattle.wh_space.proofs.memory.Memory.end_of_page.Goals as goal

pub returns-then-not-wrote : goal.returns-then-not-wrote
returns-then-not-wrote c =
    let no : c.args.wrote ≡ false = (search rules) in
    ends_failed c.args.self.now c.args.slot c.args.place c.args.page c.args.wrote c.args.bytes.now c.stay.new.self (subst IsSound c.self.view_is c.self.invariant.sound) c.requires.out no c.stay.ensures

pub page-requires : goal.page-requires
page-requires c = search (rules, is_out, is_page)

pub bytes-requires : goal.bytes-requires
bytes-requires c = taken_under (space_of c.self.inside) c.args.place c.args.page c.page.result c.in-Some.frame c.self.invariant.sound.frames c.page.ensures (sym c.frame.ensures ∙ c.in-Some.is)

pub returns-then-ne : goal.returns-then-ne
returns-then-ne c =
    let s : Space = c.args.self.now in
    let yes : c.args.wrote ≡ true = (search rules) in
    let there : page_at s.tables c.args.place c.args.page ≡ Some c.page.result = ap (λ (z : Space). page_at z.tables c.args.place c.args.page) (sym c.self.view_is) ∙ c.page.ensures in
    let on : frame_of c.page.result ≡ Some c.in-Some.frame = sym c.frame.ensures ∙ c.in-Some.is in
    let bytes : c.bytes.result.now ≡ frame_bytes s c.in-Some.frame = sym (get_or_is (space_of c.self.inside).pool.frames c.in-Some.frame c.bytes.result.now [] c.bytes.ensures) ∙ ap (λ (z : Space). frame_bytes z c.in-Some.frame) c.self.view_is in
    let other : c.bytes.result.now ≢ c.args.bytes.now = (search rules) in
    let differ : c.args.bytes.now ≢ frame_bytes s c.in-Some.frame = λ e. other (bytes ∙ sym e) in
    ends_void s c.args.slot c.args.place c.args.page c.in-Some.frame c.page.result c.args.wrote c.args.bytes.now c.stay-then-ne.new.self (subst IsSound c.self.view_is c.self.invariant.sound) c.requires.out yes there on differ c.stay-then-ne.ensures

pub leave-requires-clause-held : goal.leave-requires-clause-held
leave-requires-clause-held c = search (rules, get_or_is)

pub returns : goal.returns
returns c = search (rules, get_or_is, ends_evicted)
