use Rattle.std.proofs.Common.{◌≡◌, ◌∙◌, ℕ, ◌+◌, ◌-◌, ◌*◌, List, sym, ap, length, get_or, Some, [], arith}
use Rattle.std.proofs.lemmas.List.{take_rest}
use Rattle.std.proofs.lemmas.Option.{get_or_from_slice_get}
use Rattle.wh_model.specs.Execution.{bytes_at}
use Rattle.wh_space_model.specs.declared.states.Page.TheVariants.{Private}
use Rattle.wh_space_model.specs.{Space}
use Rattle.wh_space_model.proofs.Filling.{fillable}
use Rattle.wh_space_model.proofs.Reading.{read_page}
use Rattle.wh_space.specs.Parts.{space_of}
use Rattle.wh_space.proofs.Merges.{is_alone}
use Rattle.wh_space.proofs.memory.Memory.private_page.Goals as goal

all_of : (xs : List ℕ) (n : ℕ) → length xs ≡ n → bytes_at xs 0 n ≡ xs
all_of xs n long =
    let e : (0 + n) - 0 ≡ length xs - 0 = omega (arith, long) in
    rw e (take_rest xs 0)

pub bytes-requires : goal.bytes-requires
bytes-requires c =
    (is_alone (space_of c.self.inside) c.args.place c.args.number c.in-Private.frame c.self.invariant.sound (c.page.ensures ∙ ap Some c.in-Private.is)).taken

pub returns-in-Private-clause-some : goal.returns-in-Private-clause-some
returns-in-Private-clause-some c =
    let s : Space = space_of c.self.inside in
    let there = c.page.ensures ∙ ap Some c.in-Private.is in
    let at : 4096 * c.args.number + 0 ≡ 4096 * c.args.number = omega arith in
    let read = read_page s c.args.place c.args.number (Private c.in-Private.frame) 0 4096 c.self.invariant.sound there (omega arith) in
    let frame = get_or_from_slice_get s.pool.frames c.in-Private.frame c.bytes.result.now [] c.bytes.ensures in
    let long : length (get_or s.pool.frames c.in-Private.frame []) ≡ 4096 = (fillable s c.args.place c.self.invariant.sound).whole c.args.number (Private c.in-Private.frame) there in
    rw (← c.self.view_is) (sym (rw at at read ∙ all_of (get_or s.pool.frames c.in-Private.frame []) 4096 long ∙ frame))
