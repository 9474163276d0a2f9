use Rattle.std.proofs.Common.{arith, ◌≡◌, ◌+◌, ◌∷◌, ◌++◌, [], ◌∙◌, List, ℕ, length, ap}
use Rattle.std.proofs.lemmas.List.{length-append}
use Rattle.wh_names.proofs.Cutting.{ends_after, cut_after}
use Rattle.wh_names.proofs.texts.Texts.add.Goals as goal

pub invariant_of-self-2 : goal.invariant_of-self-2
invariant_of-self-2 c =
    let bytes = c.self.inside.bytes.items in
    let ends = c.self.inside.ends.items in
    let text = c.args.text.now in
    let end = c.in-Ok.end in
    let longer : c.extend_from_slice.new.self.items ≡ bytes ++ text = c.in_ok-extend_from_slice.ensures.items in
    let more : c.push_reserved.new.self.items ≡ ends ++ end ∷ [] =
    c.push_reserved.ensures.items ∙ ap (λ (xs : List ℕ). xs ++ end ∷ []) c.in_ok-reserve.ensures.items in
    let long = ap length longer ∙ length-append bytes text in
    let at : end ≡ length bytes + length text = omega arith in
    record {
      ends = ends_after bytes text ends c.extend_from_slice.new.self.items c.push_reserved.new.self.items end
          c.self.invariant.ends longer more at;
      few = omega (arith, long, at);
    }

pub returns-clause-ok : goal.returns-clause-ok
returns-clause-ok c =
    let bytes = c.self.inside.bytes.items in
    let ends = c.self.inside.ends.items in
    let text = c.args.text.now in
    let end = c.in-Ok.end in
    let longer : c.extend_from_slice.new.self.items ≡ bytes ++ text = c.in_ok-extend_from_slice.ensures.items in
    let more : c.push_reserved.new.self.items ≡ ends ++ end ∷ [] =
    c.push_reserved.ensures.items ∙ ap (λ (xs : List ℕ). xs ++ end ∷ []) c.in_ok-reserve.ensures.items in
    let at : end ≡ length bytes + length text = omega arith in
    cut_after bytes text ends c.extend_from_slice.new.self.items c.push_reserved.new.self.items end c.self.invariant.ends
    longer more at
    ∙ ap (λ xs. xs ++ text ∷ []) c.self.view_is
