use Rattle.std.proofs.Common.{◌∷◌, [], List, length, sym, ap, subst, length-append, arith}
use Rattle.wh_decode.specs.Items.{Given}
use Rattle.wh_decode.proofs.Sequences.{given_push}
use Rattle.wh_decode.proofs.items.items.Goals as goal

pub loop-index-preserved : goal.loop-index-preserved
loop-index-preserved g c =
    let l = c.loop-index in
    let kept = c.in_ok-keep.ensures.ok in
    record {
      inside = c.in_ok-item.ensures.inside;
      all = omega (arith, l.invariant.all, ap length kept, length-append l.list.items (c.in_ok-item.item ∷ []));
      given = subst (λ (xs : List _). Given g.T.Item.gift c.args.bytes.now c.args.at xs c.in_ok-item.next) (sym kept) (given_push g.T.Item.gift c.args.bytes.now c.args.at l.list.items c.in_ok-item.item l.place c.in_ok-item.next l.invariant.given c.in_ok-item.ensures.exact);
    }
