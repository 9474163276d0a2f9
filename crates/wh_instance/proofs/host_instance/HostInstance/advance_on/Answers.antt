use Rattle.std.proofs.Common.{◌≡◌, [], ◌*◌, refl, sym, ap, subst, ◌∙◌, arith, rules}
use Rattle.wh_journal.specs.Calls.{JournalCallState}
use Rattle.wh_machine.specs.CallStates.{setting_of}
use Rattle.wh_host_model.specs.Host.{computing}
use Rattle.wh_instance.specs.Tenancy.{HostInstanceState, IsWhere, RepresentsTenant}
use Rattle.wh_instance.proofs.Advanced.{opened, present, has_present, is_computing, isnt_left, isnt_faced, advanced}
use Rattle.wh_instance.proofs.host_instance.HostInstance.advance_on.Goals as goal

pub present-call-requires : goal.present-call-requires
present-call-requires g c = search (rules, has_present)

pub turn_on-requires : goal.turn_on-requires
turn_on-requires g c =
    let w = setting_of c.args.linked.now g.M.LinearMem.bytes g.M.LinearMem.ready g.M.LinearMem.keeps (g.M.LinearMem.limit c.args.memory.now) in
    let m = c.args.memory.now in
    let i = c.self.inside in
    let x1 : HostInstanceState = record { store = i.store; machine = i.machine; places = i.places.items; cursor = i.cursor; progress = i.progress; journal = i.journal; waiting_for = i.waiting_for; dead = i.dead } in
    let same : x1 ≡ c.args.self.now = c.self.view_is in
    let p = present w c.args.self.now m c.requires.call in
    let o = p.opened in
    let t = p.t in
    let rep = subst (λ z. RepresentsTenant w z m t) (sym same) p.represents in
    let at = ap (λ (z : HostInstanceState). z.progress) same ∙ c.requires.under_way in
    let (term, doing, st, within) = is_computing w x1 m t.inst t.rest t.doing p.e p.es at (subst (IsWhere w x1 m t.inst t.rest t.doing) p.is_open rep.is_where) in
    let call = c.present-call.ensures o.c o.cs o.at in
    let first = o.first in
    let charges = c.charges-charges.ensures ∙ ap (λ (z : JournalCallState). z.charges) call ∙ sym first.charges in
    let fuel = c.fuel-fuel.ensures ∙ ap (λ (z : JournalCallState). z.fuel) call ∙ sym first.fuel in
    record { computing = (t.inst, p.e.call, t.rest, term, st); within = omega (arith, within, charges, fuel) }

pub returns-clause-advances : goal.returns-clause-advances
returns-clause-advances g c t e es is_open given =
    let w = setting_of c.args.linked.now g.M.LinearMem.bytes g.M.LinearMem.ready g.M.LinearMem.keeps (g.M.LinearMem.limit c.args.memory.now) in
    let m = c.args.memory.now in
    let i = c.self.inside in
    let x1 : HostInstanceState = record { store = i.store; machine = i.machine; places = i.places.items; cursor = i.cursor; progress = i.progress; journal = i.journal; waiting_for = i.waiting_for; dead = i.dead } in
    let same : x1 ≡ c.args.self.now = c.self.view_is in
    let o = opened w c.args.self.now m t e es is_open given in
    let rep = subst (λ z. RepresentsTenant w z m t) (sym same) given in
    let at = ap (λ (z : HostInstanceState). z.progress) same ∙ c.requires.under_way in
    let (term, doing, st, within) = is_computing w x1 m t.inst t.rest t.doing e es at (subst (IsWhere w x1 m t.inst t.rest t.doing) is_open rep.is_where) in
    let call = c.present-call.ensures o.c o.cs o.at in
    let first = o.first in
    let charges = c.charges-charges.ensures ∙ ap (λ (z : JournalCallState). z.charges) call ∙ sym first.charges in
    let fuel = c.fuel-fuel.ensures ∙ ap (λ (z : JournalCallState). z.fuel) call ∙ sym first.fuel in
    let k = c.turn_on in
    let x2 : HostInstanceState = record x1 { store = k.new.store; machine = k.new.machine } in
    let turns = k.ensures.turns t.inst e.call t.rest term (sym charges) (sym fuel) st in
    let counted = o.counted in
    advanced w (k.result.turns * c.args.burst.quantum) x2 m k.new.memory t e es k.result.came 0 k.result.charges [] (computing term) doing turns
    (record {
      started = λ ps is. absurd (isnt_left term ps is);
      counted = counted.pieces;
      within = within;
      at_end = λ none. at;
      at_piece = λ some. absurd (some refl);
      begun = λ is. isnt_faced (sym at ∙ is);
    })
