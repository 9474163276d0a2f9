use Rattle.std.proofs.Common.{◌≡◌, ℕ, ◌+◌, Some, List, slice_get, sym, subst}
use Rattle.wh_instance.specs.declared.stages.CallStatus.{CallStatus}
use Rattle.wh_host.specs.Telling.{TellsOf}
use Rattle.wh_desk.proofs.EndsThere.{one_longer, one_more_holds}
use Rattle.wh_desk.proofs.copying.ends.Goals as goal

pub loop-i-preserved : goal.loop-i-preserved
loop-i-preserved c =
    let at : ℕ → CallStatus → Type 0 = (λ k x. TellsOf c.args.host.now c.args.id (c.args.from + k) (Some x)) in
    let status = c.ended_status.result in
    let items = c.in-Ok.ensures.items in
    record {
      many = one_longer c.loop-i.statuses.items _ status c.loop-i.i items c.loop-i.invariant.many;
      told = subst (λ (xs : List CallStatus). ((i : ℕ) (x : CallStatus) → slice_get xs i ≡ Some x → at i x)) (sym items)
          (one_more_holds at c.loop-i.statuses.items status c.loop-i.invariant.told (subst (λ i. at i status) (sym c.loop-i.invariant.many) c.ended_status.ensures));
    }
