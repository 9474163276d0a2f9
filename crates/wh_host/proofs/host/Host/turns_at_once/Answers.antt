use Rattle.std.proofs.Common.{◌≡◌, ◌+◌, ◌-◌, ◌≤◌, ap, sym, subst, ◌∙◌, arith, rules}
use Rattle.wh_host.specs.HostCounting.{counts_after_round}
use Rattle.wh_host.specs.Hosting.{HostState, IsHost}
use Rattle.wh_host.specs.Reporting.{all_sharers}
use Rattle.wh_host.proofs.FewerSharing.{round_shares}
use Rattle.wh_host.proofs.KeptCounts.{noted_all, round_counted, whatever_counted}
use Rattle.wh_host.proofs.Reaching.{each_takes_some}
use Rattle.wh_host.proofs.RunnerTurns.{have_run, heard_all, may_run_all}
use Rattle.wh_host.proofs.Fields.{host_of}
use Rattle.wh_host.proofs.host.Host.turns_at_once.Goals as goal

pub run_all-requires-clause-may : goal.run_all-requires-clause-may
run_all-requires-clause-may g c =
    let inv = c.self.invariant in
    may_run_all (host_of c.self.inside) inv.0 c.take_all.new.entries.slots c.take_all.new.runners inv.1 c.take_all.ensures.out

pub lay_all-requires : goal.lay_all-requires
lay_all-requires g c =
    let h = host_of c.self.inside in
    let inv = c.self.invariant in
    let out = c.take_all.ensures in
    (h, c.args.burst.quantum, c.args.burst.further + 1, h.entries, h.space, inv.0, have_run h c.args.burst.quantum (c.args.burst.further + 1) c.take_all.new.entries.slots c.take_all.new.runners c.run_all.new.runners c.run_all.auto.runners (let few = out.frames in let free = c.free.ensures in omega (arith, few, free)) out.out out.rest c.run_all.ensures, inv.1)

pub invariant_of-self : goal.invariant_of-self
invariant_of-self g c =
    let h = host_of c.self.inside in
    let inv = c.self.invariant in
    let out = c.take_all.ensures in
    let t = c.lay_all.ensures.turns h c.args.burst.quantum (c.args.burst.further + 1) h.entries h.space inv.0 (have_run h c.args.burst.quantum (c.args.burst.further + 1) c.take_all.new.entries.slots c.take_all.new.runners c.run_all.new.runners c.run_all.auto.runners (let few = out.frames in let free = c.free.ensures in omega (arith, few, free)) out.out out.rest c.run_all.ensures) inv.1 in
    (t.0, whatever_counted _ t.0 _ t.2)

pub returns-clause-turns : goal.returns-clause-turns
returns-clause-turns g c w st =
    let h = host_of c.self.inside in
    let out = c.take_all.ensures in
    let t = c.lay_all.ensures.turns h c.args.burst.quantum (c.args.burst.further + 1) h.entries h.space w (have_run h c.args.burst.quantum (c.args.burst.further + 1) c.take_all.new.entries.slots c.take_all.new.runners c.run_all.new.runners c.run_all.auto.runners (let few = out.frames in let free = c.free.ensures in omega (arith, few, free)) out.out out.rest c.run_all.ensures)
    (subst (λ z. IsHost z w) (sym c.self.view_is) st) in
    (t.0, t.1, whatever_counted _ t.0 _ t.2)

pub returns-clause-same : goal.returns-clause-same
returns-clause-same g c = λ k y there.
    (let last = c.lay_all.ensures.same k y there in
    let ran = c.run_all.ensures k last.0 last.1 in
    let first = c.take_all.ensures.same k ran.0 ran.1 in
    (first.0, first.1, last.2 ∙ ran.2.id ∙ first.2))

pub returns-clause-all : goal.returns-clause-all
returns-clause-all g c w st =
    heard_all (host_of c.self.inside) w c.args.burst.quantum (c.args.burst.further + 1) c.take_all.new.runners c.run_all.new.runners c.lay_all.new.runners (subst (λ z. IsHost z w) (sym c.self.view_is) st) c.run_all.auto.runners c.lay_all.auto.runners c.take_all.ensures.left c.run_all.ensures c.lay_all.ensures.answers

pub returns-clause-some : goal.returns-clause-some
returns-clause-some g c least w st =
    let h = host_of c.self.inside in
    let out = c.take_all.ensures in
    each_takes_some h w c.args.burst.quantum (c.args.burst.further + 1) c.take_all.new.entries.slots h.space c.run_all.new.runners c.lay_all.new.runners (subst (λ z. IsHost z w) (sym c.self.view_is) st) least
    (have_run h c.args.burst.quantum (c.args.burst.further + 1) c.take_all.new.entries.slots c.take_all.new.runners c.run_all.new.runners c.run_all.auto.runners (let few = out.frames in let free = c.free.ensures in omega (arith, few, free)) out.out out.rest c.run_all.ensures)
    c.lay_all.ensures.answers

pub returns-clause-leave : goal.returns-clause-leave
returns-clause-leave g c = search rules

pub returns-clause-counts : goal.returns-clause-counts
returns-clause-counts g c =
    let h = host_of c.self.inside in
    let out = c.take_all.ensures in
    let noted = noted_all h.entries c.take_all.new.entries.slots h.modules h.space c.args.burst.quantum (c.args.burst.further + 1) c.take_all.new.runners c.run_all.new.runners c.lay_all.new.runners out.out out.rest c.run_all.ensures c.lay_all.ensures.answers in
    let fewer = c.saturating_sub-breaks.ensures ∙ ap (λ n. n - c.sharers_of.result) c.sharers_of-sharers.ensures ∙ ap (λ n. all_sharers h.space - n) c.sharers_of.ensures in
    subst (λ (z : HostState). c.count_breaks.new.self ≡ counts_after_round z c.lay_all.new.runners (record h { entries = c.lay_all.new.entries.slots; space = c.lay_all.new.memory; counts = c.count_breaks.new.self })) c.self.view_is
    (round_counted h c.lay_all.new.entries.slots c.lay_all.new.memory c.lay_all.new.runners c.count_round.new.counts c.count_breaks.new.self c.saturating_sub-breaks.result noted c.count_round.ensures fewer c.count_breaks.ensures)

pub returns-clause-shares : goal.returns-clause-shares
returns-clause-shares g c =
    let h = host_of c.self.inside in
    let inv = c.self.invariant in
    let out = c.take_all.ensures in
    let t = c.lay_all.ensures.turns h c.args.burst.quantum (c.args.burst.further + 1) h.entries h.space inv.0 (have_run h c.args.burst.quantum (c.args.burst.further + 1) c.take_all.new.entries.slots c.take_all.new.runners c.run_all.new.runners c.run_all.auto.runners (let few = out.frames in let free = c.free.ensures in omega (arith, few, free)) out.out out.rest c.run_all.ensures) inv.1 in
    let host = t.2 in
    let less = round_shares c.args.burst.quantum (c.args.burst.further + 1) inv.0 c.lay_all.new.runners t.0 t.1 in
    let last = ap all_sharers host.space in
    let first = ap all_sharers inv.1.space in
    subst (λ (z : HostState). all_sharers c.lay_all.new.memory ≤ all_sharers z.space) c.self.view_is (omega (arith, less, last, first))
