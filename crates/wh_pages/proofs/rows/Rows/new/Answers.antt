use Rattle.std.proofs.Common.{◌≡◌, length, arith, rules}
use Rattle.std.proofs.lemmas.List.Elements.{All-push}
use Rattle.wh_pages.proofs.Leaves.{length-joined_leaves}
use Rattle.wh_pages.proofs.rows.Rows.new.Goals as goal

pub loop-preserved : goal.loop-preserved
loop-preserved c =
    record {
      count = search rules;
      whole = rw c.in_ok-push.ensures.items (All-push (λ leaf. length leaf.items ≡ 256) c.loop.directory.items c.in_ok-new.field-0 c.loop.invariant.whole c.in_ok-new.ensures);
    }

pub returns : goal.returns
returns c = omega (arith, length-joined_leaves c.loop.directory.items c.loop.invariant.whole, c.loop.invariant.count)
