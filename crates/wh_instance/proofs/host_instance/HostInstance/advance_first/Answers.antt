use Rattle.std.proofs.Common.{◌≡◌, [], List, slice_get, refl, sym, ap, subst, ◌∙◌, arith}
use Rattle.std.specs.Option.{option_copied}
use Rattle.wh_journal.specs.Calls.{JournalCallState}
use Rattle.wh_machine.specs.CallStates.{setting_of}
use Rattle.wh_host_model.specs.Host.{computing}
use Rattle.wh_instance.specs.declared.stages.CallStage.TheVariants.{UnderWay}
use Rattle.wh_instance.specs.Tenancy.{HostInstanceState, IsWhere, RepresentsTenant}
use Rattle.wh_instance.proofs.Advanced.{opened, present, is_facing, faced_as, isnt_left, isnt_faced, advanced}
use Rattle.wh_instance.proofs.host_instance.HostInstance.advance_first.Goals as goal

pub unreachable-requires : goal.unreachable-requires
unreachable-requires g c =
    let w = setting_of c.args.linked.now g.M.LinearMem.bytes g.M.LinearMem.ready g.M.LinearMem.keeps (g.M.LinearMem.limit c.args.memory.now) in
    let i = c.self.inside in
    let x1 : HostInstanceState = record { store = i.store; machine = i.machine; places = i.places.items; cursor = i.cursor; progress = i.progress; journal = i.journal; waiting_for = i.waiting_for; dead = i.dead } in
    let same : x1 ≡ c.args.self.now = c.self.view_is in
    let p = present w c.args.self.now c.args.memory.now c.requires.call in
    let at = ap (λ (z : HostInstanceState). z.journal.open_calls) same ∙ p.opened.at in
    let never = sym (ap option_copied c.in-None.is) ∙ c.present.ensures ∙ ap (λ (z : List JournalCallState). slice_get z 0) at in
    cc never

pub func_of-requires : goal.func_of-requires
func_of-requires g c = λ none.
    let w = setting_of c.args.linked.now g.M.LinearMem.bytes g.M.LinearMem.ready g.M.LinearMem.keeps (g.M.LinearMem.limit c.args.memory.now) in
    let m = c.args.memory.now in
    let i = c.self.inside in
    let x1 : HostInstanceState = record { store = i.store; machine = i.machine; places = i.places.items; cursor = i.cursor; progress = i.progress; journal = i.journal; waiting_for = i.waiting_for; dead = i.dead } in
    let same : x1 ≡ c.args.self.now = c.self.view_is in
    let p = present w c.args.self.now m c.requires.call in
    let o = p.opened in
    let t = p.t in
    let rep = subst (λ z. RepresentsTenant w z m t) (sym same) p.represents in
    let at = ap (λ (z : HostInstanceState). z.progress) same ∙ c.requires.faced in
    let (func, term, doing, st) = is_facing w x1 m t.inst t.rest t.doing p.e p.es at (subst (IsWhere w x1 m t.inst t.rest t.doing) p.is_open rep.is_where) in
    let calls = ap (λ (z : HostInstanceState). z.journal.open_calls) same ∙ o.at in
    let found = sym (ap option_copied c.in-Some.is) ∙ c.present.ensures ∙ ap (λ (z : List JournalCallState). slice_get z 0) calls in
    let call : c.in-Some.call.now ≡ o.c = cc found in
    let never = sym none ∙ ap (λ (z : JournalCallState). z.func) call ∙ sym o.first.func ∙ st.calls in
    cc never

pub turn_first-came-requires : goal.turn_first-came-requires
turn_first-came-requires g c =
    let w = setting_of c.args.linked.now g.M.LinearMem.bytes g.M.LinearMem.ready g.M.LinearMem.keeps (g.M.LinearMem.limit c.args.memory.now) in
    let m = c.args.memory.now in
    let i = c.self.inside in
    let x1 : HostInstanceState = record { store = i.store; machine = i.machine; places = i.places.items; cursor = i.cursor; progress = i.progress; journal = i.journal; waiting_for = i.waiting_for; dead = i.dead } in
    let same : x1 ≡ c.args.self.now = c.self.view_is in
    let p = present w c.args.self.now m c.requires.call in
    let o = p.opened in
    let t = p.t in
    let e = p.e in
    let rep = subst (λ z. RepresentsTenant w z m t) (sym same) p.represents in
    let at = ap (λ (z : HostInstanceState). z.progress) same ∙ c.requires.faced in
    let (func, term, doing, st) = is_facing w x1 m t.inst t.rest t.doing e p.es at (subst (IsWhere w x1 m t.inst t.rest t.doing) p.is_open rep.is_where) in
    let calls = ap (λ (z : HostInstanceState). z.journal.open_calls) same ∙ o.at in
    let found = sym (ap option_copied c.in-Some.is) ∙ c.present.ensures ∙ ap (λ (z : List JournalCallState). slice_get z 0) calls in
    let call : c.in-Some.call.now ≡ o.c = cc found in
    let first = o.first in
    (t.inst, e.call, t.rest, term, faced_as st (sym st.calls ∙ first.func ∙ sym (ap (λ (z : JournalCallState). z.func) call) ∙ c.func_of.ensures) (first.words ∙ sym (ap (λ (z : JournalCallState). z.words) call) ∙ sym c.words.ensures))

pub returns-clause-advances : goal.returns-clause-advances
returns-clause-advances g c t e es is_open given =
    let w = setting_of c.args.linked.now g.M.LinearMem.bytes g.M.LinearMem.ready g.M.LinearMem.keeps (g.M.LinearMem.limit c.args.memory.now) in
    let m = c.args.memory.now in
    let i = c.self.inside in
    let x1 : HostInstanceState = record { store = i.store; machine = i.machine; places = i.places.items; cursor = i.cursor; progress = i.progress; journal = i.journal; waiting_for = i.waiting_for; dead = i.dead } in
    let same : x1 ≡ c.args.self.now = c.self.view_is in
    let o = opened w c.args.self.now m t e es is_open given in
    let rep = subst (λ z. RepresentsTenant w z m t) (sym same) given in
    let at = ap (λ (z : HostInstanceState). z.progress) same ∙ c.requires.faced in
    let (func, term, doing, st) = is_facing w x1 m t.inst t.rest t.doing e es at (subst (IsWhere w x1 m t.inst t.rest t.doing) is_open rep.is_where) in
    let calls = ap (λ (z : HostInstanceState). z.journal.open_calls) same ∙ o.at in
    let found = sym (ap option_copied c.in-Some.is) ∙ c.present.ensures ∙ ap (λ (z : List JournalCallState). slice_get z 0) calls in
    let call : c.in-Some.call.now ≡ o.c = cc found in
    let first = o.first in
    let fuel = c.fuel.ensures ∙ ap (λ (z : JournalCallState). z.fuel) call ∙ sym first.fuel in
    let faced = faced_as st (sym st.calls ∙ first.func ∙ sym (ap (λ (z : JournalCallState). z.func) call) ∙ c.func_of.ensures) (first.words ∙ sym (ap (λ (z : JournalCallState). z.words) call) ∙ sym c.words.ensures) in
    let k = c.turn_first-came in
    let x2 : HostInstanceState = record x1 { store = k.new.store; machine = k.new.machine; progress = UnderWay } in
    let turns = k.ensures.turns t.inst e.call t.rest term (sym fuel) faced in
    let counted = o.counted in
    advanced w c.args.q x2 m k.new.memory t e es k.result.0 0 k.result.1 [] (computing term) doing turns
    (record {
      started = λ ps is. absurd (isnt_left term ps is);
      counted = counted.pieces;
      within = omega (arith, st.no_charges);
      at_end = λ none. refl;
      at_piece = λ some. absurd (some refl);
      begun = isnt_faced;
    })
