use Rattle.std.proofs.Common.{◌∙◌, [], ◌∷◌, ◌++◌, sym, subst, ap}
use Rattle.wh_swap.specs.Written.{page_held}
use Rattle.test_host.specs.Carried.{IsCarried, coming_slots, leaving_slots}
use Rattle.test_host.proofs.Carrying.{fetch_began, fetch_stayed, host_on}
use Rattle.test_host.proofs.rig.Rig.fetch_begin.Goals as goal

pub invariant_of-self-in-Ok : goal.invariant_of-self-in-Ok
invariant_of-self-in-Ok c =
    let h = c.args.self.now.host in
    let h2 = c.fetch_begin.new.self in
    let items = c.push_reserved.ensures.items ∙ ap (λ zs. zs ++ c.in-Ok.fetched ∷ []) c.in_ok-reserve.ensures.items in
    record {
      stands = host_on h h2 c.args.self.now.stands (λ w st. let t = c.in-Ok.ensures.moves w st in (t.0, t.2));
      carried = subst (λ zs. IsCarried c.fetch_begin.new.self.space (page_held c.args.self.now.device) (leaving_slots c.args.self.now.leaving.items) (coming_slots zs)) (sym items)
          (fetch_began h h2 c.args.id c.awaits_frame-awaits.result c.in-Ok.fetched c.args.self.now.stands c.awaits_frame-awaits.ensures c.in-Ok.ensures.begins c.in-Ok.ensures.idle (page_held c.args.self.now.device) (leaving_slots c.args.self.now.leaving.items) c.args.self.now.coming.items c.args.self.now.carried);
    }

pub invariant_of-self-in-Err : goal.invariant_of-self-in-Err
invariant_of-self-in-Err c =
    let h = c.args.self.now.host in
    let h2 = c.fetch_begin.new.self in
    record {
      stands = host_on h h2 c.args.self.now.stands (λ w st. let t = c.in-Err.ensures.moves w st in (t.0, t.2));
      carried = subst (λ zs. IsCarried c.fetch_begin.new.self.space (page_held c.args.self.now.device) (leaving_slots c.args.self.now.leaving.items) (coming_slots zs)) (sym c.in_ok-reserve.ensures.items)
          (fetch_stayed h h2 c.args.id c.awaits_frame-awaits.result c.args.self.now.stands c.awaits_frame-awaits.ensures c.in-Err.ensures.begins (λ none. (c.in-Err.ensures.idle none).0) (page_held c.args.self.now.device) (leaving_slots c.args.self.now.leaving.items) (coming_slots c.args.self.now.coming.items) c.args.self.now.carried);
    }
