use Rattle.std.proofs.Common.{List, ℕ, subst, sym, arith, rules}
use Rattle.std.specs.Bool.{MatchBool}
use Rattle.wh_space.specs.Steps.{CanStep}
use Rattle.wh_space_model.proofs.Deciding.{no_bytes_are_ready}
use Rattle.wh_space_model.proofs.Reading.{on_one_page, on_two_pages}
use Rattle.wh_space.proofs.Loading.{beyond, first_away}
use Rattle.wh_space.proofs.memory.Memory.is_ready.Goals as goal

pub returns-then-need-eq0 : goal.returns-then-need-eq0
returns-then-need-eq0 c = no_bytes_are_ready c.args.self.now c.args.place c.args.need c.if-need-eq0.true

pub returns-then-need : goal.returns-then-need
returns-then-need c =
    let s = c.args.self.now in
    let need = c.args.need in
    let P : List ℕ → Type 0 = λ ps. MatchBool c.can_step_over.result (CanStep s c.args.place need.writes ps) (¬ CanStep s c.args.place need.writes ps) in
    subst P (sym (on_two_pages need.at need.length (omega arith))) c.can_step_over.ensures

pub returns-then-first-pages-2 : goal.returns-then-first-pages-2
returns-then-first-pages-2 c = search (rules, ℕ, on_one_page, first_away, beyond)

pub returns : goal.returns
returns c =
    let s = c.args.self.now in
    let need = c.args.need in
    let P : List ℕ → Type 0 = λ ps. MatchBool c.can_step.result (CanStep s c.args.place need.writes ps) (¬ CanStep s c.args.place need.writes ps) in
    subst P (sym (on_one_page need.at need.length (omega arith) (omega arith))) c.can_step.ensures
