use Rattle.std.proofs.Common.{inl, arith}
use Rattle.wh_content.proofs.Buckets.{led_on}
use Rattle.wh_content.proofs.chains.Chains.behind.Goals as goal

pub loop-next-preserved : goal.loop-next-preserved
loop-next-preserved c = record {
  behind = c.if-next-frame.false;
  within = omega arith;
  place = λ count bucket marks chains below head.
      let at = c.loop-next.invariant.place count bucket marks chains below head in
      inl (led_on count marks c.args.self.now chains bucket c.loop-next.place below at c.in-Some.next
      c.in-Some.ensures.link);
}
