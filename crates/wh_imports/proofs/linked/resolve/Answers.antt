use Rattle.std.proofs.Common.{rules, ◌≡◌, ◌<◌, length, slice_index_or, map, subst, sym}
use Rattle.wh_model.specs.Linking.{ImportsItem, LacksItem}
use Rattle.wh_syntax.specs.View.{view_type, view_import, view_module}
use Rattle.wh_imports.specs.LinkRefusals.{RefusesLink}
use Rattle.wh_imports.proofs.ResolvingLemmas.{stands_at, refuses, has_more, resolved_more}
use Rattle.wh_imports.proofs.linked.resolve.Goals as goal

pub returns-in-Err-clause-err : goal.returns-in-Err-clause-err
returns-in-Err-clause-err c =
    let m = view_module c.args.decoded.now in
    let imports = c.args.decoded.now.imports.items in
    let x = c.index.result.now in
    let lt : c.loop-at.at < length imports = search rules in
    let at : x ≡ slice_index_or imports c.loop-at.at x = search rules in
    let fault = c.in-Err.ensures.err in
    let lacks = subst (λ ts. LacksItem (map view_type ts) (view_import x) fault.0) c.deref.ensures.value fault.1 in
    subst (RefusesLink m) (sym fault.2) (refuses m (view_import x) fault.0 c.loop-at.at (stands_at view_import imports c.loop-at.at x lt at) lacks c.loop-at.invariant.has)

pub loop-at-preserved : goal.loop-at-preserved
loop-at-preserved c =
    let types = map view_type c.args.decoded.now.types.items in
    let imports = c.args.decoded.now.imports.items in
    let x = c.index.result.now in
    let lt : c.loop-at.at < length imports = search rules in
    let at : x ≡ slice_index_or imports c.loop-at.at x = search rules in
    let is = subst (λ ts. ImportsItem (map view_type ts) (view_import x) c.in-Ok.item) c.deref.ensures.value c.in-Ok.ensures.ok in
    let old = c.loop-at.resolved in
    let new = c.add.new.self in
    record {
      has = has_more types imports c.loop-at.at x lt at c.loop-at.invariant.has (c.in-Ok.item, is);
      resolved = resolved_more types imports c.loop-at.at x old.funcs.items new.funcs.items old.globals.items new.globals.items c.in-Ok.item lt at c.loop-at.invariant.resolved is c.in_ok-add-in-Ok.ensures.ok;
    }
