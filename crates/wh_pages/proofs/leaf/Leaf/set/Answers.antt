use Rattle.std.proofs.Common.{◌≡◌, ◌∙◌, Some, slice_get, ap, sym, arith}
use Rattle.std.specs.Global.{Vec}
use Rattle.std.specs.Vec.{with_item}
use Rattle.std.proofs.lemmas.List.{length-set}
use Rattle.std.proofs.lemmas.Option.{slice_get-get_or}
use Rattle.wh_space_model.proofs.Sums.{get_tally, set_tally}
use Rattle.wh_pages.specs.declared.entry.PageEntry.{PageEntry}
use Rattle.wh_pages.specs.Leaves.{actives_of, residents_of}
use Rattle.wh_pages.proofs.LeafCounts.{actives_most, residents_most}
use Rattle.wh_pages.proofs.leaf.Leaf.set.Goals as goal

pub overflow_sub-self : goal.overflow_sub-self
overflow_sub-self c =
    let i = c.self.invariant in
    let xs = c.self.inside.entries.items in
    let there : slice_get xs c.args.at ≡ Some c.index-old.result.now = slice_get-get_or xs c.args.at c.index-old.result.now (omega (arith, i.whole, c.requires)) ∙ ap Some (sym c.index-old.ensures) in
    let some = get_tally residents_of xs c.args.at c.index-old.result.now there in
    omega (arith, some, i.resident, c.residents.ensures.is)

pub overflow_add-self : goal.overflow_add-self
overflow_add-self c =
    let i = c.self.invariant in
    let most = residents_most c.self.inside.entries.items in
    omega (arith, most, i.whole, i.resident, c.residents-2.ensures.one)

pub overflow_sub-self-2 : goal.overflow_sub-self-2
overflow_sub-self-2 c =
    let i = c.self.invariant in
    let xs = c.self.inside.entries.items in
    let there : slice_get xs c.args.at ≡ Some c.index-old.result.now = slice_get-get_or xs c.args.at c.index-old.result.now (omega (arith, i.whole, c.requires)) ∙ ap Some (sym c.index-old.ensures) in
    let some = get_tally actives_of xs c.args.at c.index-old.result.now there in
    omega (arith, some, i.active, c.actives.ensures.is)

pub overflow_add-self-2 : goal.overflow_add-self-2
overflow_add-self-2 c =
    let i = c.self.invariant in
    let most = actives_most c.self.inside.entries.items in
    omega (arith, most, i.whole, i.active, c.actives-2.ensures.one)

pub invariant_of-self : goal.invariant_of-self
invariant_of-self c =
    let i = c.self.invariant in
    let xs = c.self.inside.entries.items in
    let there : slice_get xs c.args.at ≡ Some c.index-old.result.now = slice_get-get_or xs c.args.at c.index-old.result.now (omega (arith, i.whole, c.requires)) ∙ ap Some (sym c.index-old.ensures) in
    let residents = set_tally residents_of xs c.args.at c.index-old.result.now c.args.entry there in
    let actives = set_tally actives_of xs c.args.at c.index-old.result.now c.args.entry there in
    let resident = get_tally residents_of xs c.args.at c.index-old.result.now there in
    let active = get_tally actives_of xs c.args.at c.index-old.result.now there in
    record {
      whole = length-set xs c.args.at c.args.entry ∙ i.whole;
      resident = omega (arith, residents, resident, i.resident, c.residents.ensures.is, c.residents-2.ensures.is);
      active = omega (arith, actives, active, i.active, c.actives.ensures.is, c.actives-2.ensures.is);
    }

pub returns : goal.returns
returns c = ap (λ (v : Vec PageEntry). with_item v c.args.at c.args.entry) c.self.view_is
