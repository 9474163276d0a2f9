use Rattle.std.proofs.Common.{arith, ◌≡◌, ◌<◌, ◌∷◌, ◌∙◌, length, get_or, slice_get, ap, sym}
use Rattle.std.proofs.lemmas.List.{get_or_read}
use Rattle.wh_names.proofs.Cutting.{many, read, within}
use Rattle.wh_names.proofs.texts.Texts.get.Goals as goal

pub start_of-start-requires : goal.start_of-start-requires
start_of-start-requires c =
    let all = many c.self.inside.bytes.items 0 c.self.inside.ends.items in
    let seen = ap length c.self.view_is in
    let same = ap length c.deref.ensures.value in
    omega (arith, all, seen, same)

pub index-requires : goal.index-requires
index-requires c =
    let all = many c.self.inside.bytes.items 0 c.self.inside.ends.items in
    let seen = ap length c.self.view_is in
    omega (arith, all, seen)

pub slice_bounds-result-count : goal.slice_bounds-result-count
slice_bounds-result-count c =
    let bytes = c.self.inside.bytes.items in
    let ends = c.self.inside.ends.items in
    let place = c.args.place in
    let all = many bytes 0 ends in
    let seen = ap length c.self.view_is in
    let less : place < length ends = omega (arith, all, seen) in
    let start_is : c.start_of-start.result ≡ get_or (0 ∷ ends) place 0 =
    c.start_of-start.ensures ∙ ap (λ xs. get_or (0 ∷ xs) place 0) c.deref.ensures.value in
    let end_is : c.index.result.now ≡ get_or ends place 0 = get_or_read ends place c.index.result.now less c.index.ensures 0 in
    let rise = within (length bytes) 0 ends place c.self.invariant.ends less in
    omega (arith, start_is, end_is, rise.0)

pub slice_bounds-result-start : goal.slice_bounds-result-start
slice_bounds-result-start c =
    let bytes = c.self.inside.bytes.items in
    let ends = c.self.inside.ends.items in
    let place = c.args.place in
    let all = many bytes 0 ends in
    let seen = ap length c.self.view_is in
    let less : place < length ends = omega (arith, all, seen) in
    let start_is : c.start_of-start.result ≡ get_or (0 ∷ ends) place 0 =
    c.start_of-start.ensures ∙ ap (λ xs. get_or (0 ∷ xs) place 0) c.deref.ensures.value in
    let end_is : c.index.result.now ≡ get_or ends place 0 = get_or_read ends place c.index.result.now less c.index.ensures 0 in
    let rise = within (length bytes) 0 ends place c.self.invariant.ends less in
    let same = ap length c.deref-2.ensures.value in
    omega (arith, start_is, end_is, rise.0, rise.1, same)

pub slice_bounds-result-end : goal.slice_bounds-result-end
slice_bounds-result-end c =
    let bytes = c.self.inside.bytes.items in
    let ends = c.self.inside.ends.items in
    let place = c.args.place in
    let all = many bytes 0 ends in
    let seen = ap length c.self.view_is in
    let less : place < length ends = omega (arith, all, seen) in
    let start_is : c.start_of-start.result ≡ get_or (0 ∷ ends) place 0 =
    c.start_of-start.ensures ∙ ap (λ xs. get_or (0 ∷ xs) place 0) c.deref.ensures.value in
    let end_is : c.index.result.now ≡ get_or ends place 0 = get_or_read ends place c.index.result.now less c.index.ensures 0 in
    let rise = within (length bytes) 0 ends place c.self.invariant.ends less in
    let same = ap length c.deref-2.ensures.value in
    omega (arith, start_is, end_is, rise.0, rise.1, same)

pub returns : goal.returns
returns c =
    let bytes = c.self.inside.bytes.items in
    let ends = c.self.inside.ends.items in
    let place = c.args.place in
    let all = many bytes 0 ends in
    let seen = ap length c.self.view_is in
    let less : place < length ends = omega (arith, all, seen) in
    let start_is : c.start_of-start.result ≡ get_or (0 ∷ ends) place 0 =
    c.start_of-start.ensures ∙ ap (λ xs. get_or (0 ∷ xs) place 0) c.deref.ensures.value in
    let end_is : c.index.result.now ≡ get_or ends place 0 = get_or_read ends place c.index.result.now less c.index.ensures 0 in
    rw (start_is, end_is, c.deref-2.ensures.value) (ap (λ xs. slice_get xs place) (sym c.self.view_is) ∙ read bytes 0 ends place less)
