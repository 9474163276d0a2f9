use Rattle.std.proofs.Common.{arith, ◌≡◌, ◌≤◌, ◌-◌, ◌∷◌, ◌∙◌, length, take, get_or, ap}
use Rattle.wh_names.proofs.Cutting.{many, ends_left, cut_left}
use Rattle.wh_names.proofs.texts.Texts.remove_last.Goals as goal

pub invariant_of-self : goal.invariant_of-self
invariant_of-self c =
    let ends = c.self.inside.ends.items in
    let last = c.in-Some.last in
    let start = c.start_of-start.result in
    let less : last ≤ length ends = omega arith in
    let start_is : start ≡ get_or (0 ∷ ends) last 0 =
    c.start_of-start.ensures ∙ ap (λ xs. get_or (0 ∷ xs) last 0) c.deref.ensures.value in
    let left = ends_left c.self.inside.bytes.items ends c.truncate-2.new.self.items c.truncate.new.self.items last start c.self.invariant.ends
    less start_is c.truncate-2.ensures.items c.truncate.ensures.items in
    let few = c.self.invariant.few in
    record { ends = left.0; few = omega (arith, left.1, few) }

pub returns : goal.returns
returns c =
    let bytes = c.self.inside.bytes.items in
    let ends = c.self.inside.ends.items in
    let last = c.in-Some.last in
    let start = c.start_of-start.result in
    let less : last ≤ length ends = omega arith in
    let start_is : start ≡ get_or (0 ∷ ends) last 0 =
    c.start_of-start.ensures ∙ ap (λ xs. get_or (0 ∷ xs) last 0) c.deref.ensures.value in
    let all = many bytes 0 ends in
    let seen = ap length c.self.view_is in
    let at : last ≡ length c.args.self.now - 1 = omega (arith, all, seen) in
    cut_left bytes ends c.truncate-2.new.self.items c.truncate.new.self.items last start c.self.invariant.ends less start_is
    c.truncate-2.ensures.items c.truncate.ensures.items
    ∙ ap (take last) c.self.view_is
    ∙ ap (λ n. take n c.args.self.now) at
