use Rattle.std.proofs.Common.{◌≡◌, length, get_or, [], ap, sym, ◌∙◌, subst, arith}
use Rattle.wh_space_model.specs.{Space, IsSound}
use Rattle.wh_space_model.proofs.Reading.{view_length}
use Rattle.wh_space.proofs.Growing.{sixteens}
use Rattle.wh_space.proofs.memory.Memory.size.Goals as goal

long : (c : goal.After-len_at) → length (get_or c.args.self.now.tables c.args.place []) ≡ c.len_at.result
long c = ap (λ (z : Space). length (get_or z.tables c.args.place [])) (sym c.self.view_is) ∙ sym c.len_at.ensures

pub returns-clause-pages : goal.returns-clause-pages
returns-clause-pages c =
    let e = (sixteens c.args.self.now c.args.place (subst IsSound c.self.view_is c.self.invariant.sound)).1 in
    let l = long c in
    omega arith

pub returns-clause-bytes : goal.returns-clause-bytes
returns-clause-bytes c =
    let sound = subst IsSound c.self.view_is c.self.invariant.sound in
    let e = (sixteens c.args.self.now c.args.place sound).1 in
    let l = long c in
    let k = view_length c.args.self.now c.args.place sound in
    omega arith
