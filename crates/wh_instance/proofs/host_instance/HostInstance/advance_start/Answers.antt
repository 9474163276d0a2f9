use Rattle.std.proofs.Common.{◌≡◌, ℕ, ◌+◌, ◌<◌, ◌^◌, length, List, sym, ap, subst, ◌∙◌, arith, rules}
use Rattle.wh_journal.specs.Calls.{JournalCallState}
use Rattle.wh_model.specs.Execution.{Piece}
use Rattle.wh_machine.specs.CallStates.{setting_of}
use Rattle.wh_host_model.specs.Host.{has_left}
use Rattle.wh_instance.specs.Pieces.{pieces_left}
use Rattle.wh_instance.specs.Tenancy.{HostInstanceState, IsWhere, RepresentsTenant}
use Rattle.wh_instance.proofs.Advanced.{opened, has_present, is_writing, starting_as, advanced}
use Rattle.wh_instance.proofs.host_instance.HostInstance.advance_start.Goals as goal

pub present-requires : goal.present-requires
present-requires g c = search (rules, has_present)

pub turn_start-came-requires : goal.turn_start-came-requires
turn_start-came-requires g c = search rules

pub returns-clause-advances : goal.returns-clause-advances
returns-clause-advances g c t e es is_open given =
    let w = setting_of c.args.linked.now g.M.LinearMem.bytes g.M.LinearMem.ready g.M.LinearMem.keeps (g.M.LinearMem.limit c.args.memory.now) in
    let m = c.args.memory.now in
    let i = c.self.inside in
    let x1 : HostInstanceState = record { store = i.store; machine = i.machine; places = i.places.items; cursor = i.cursor; progress = i.progress; journal = i.journal; waiting_for = i.waiting_for; dead = i.dead } in
    let same : x1 ≡ c.args.self.now = c.self.view_is in
    let o = opened w c.args.self.now m t e es is_open given in
    let rep = subst (λ z. RepresentsTenant w z m t) (sym same) given in
    let at = ap (λ (z : HostInstanceState). z.progress) same ∙ c.requires.writes in
    let h = is_writing w x1 m t.inst t.rest t.doing e es at (subst (IsWhere w x1 m t.inst t.rest t.doing) is_open rep.is_where) in
    let fuel = c.fuel-fuel.ensures ∙ ap (λ (z : JournalCallState). z.fuel) (c.present.ensures o.c o.cs o.at) ∙ sym o.first.fuel in
    let segments = c.args.linked.now.valid.decoded.segments.items in
    let k = c.turn_start-came in
    let v : c.deref.result.now ≡ i.places.items = c.deref.ensures.value in
    let ps = pieces_left segments c.deref.result.now i.cursor in
    let left = pieces_left segments c.deref.result.now k.new.cursor in
    let same_ps : h.ps ≡ ps = h.left ∙ ap (λ (z : List ℕ). pieces_left segments z i.cursor) (sym v) in
    let same_left : left ≡ pieces_left segments i.places.items k.new.cursor = ap (λ (z : List ℕ). pieces_left segments z k.new.cursor) v in
    let progress = c.progress_now-self-inside in
    let x2 : HostInstanceState = record x1 { store = k.new.store; machine = k.new.machine; cursor = k.new.cursor; progress = progress.result } in
    let turns = k.ensures.turns t.inst e.call t.rest h.func (sym fuel) (starting_as w x1 m t.inst e t.rest h.ps ps h.starting same_ps) in
    let counted = o.counted in
    let few = subst (λ (z : List Piece). e.call.fragments + length z < 2 ^ 64) same_ps h.few in
    advanced w c.args.q x2 m k.new.memory t e es k.result.0 k.result.1 k.result.2 left (has_left ps) (h.doing ∙ ap (λ z. has_left z) same_ps) turns
    (record {
      started = λ qs is. (h.func, subst (λ (z : List Piece). e.call.fragments + length z < 2 ^ 64) (cc is) few);
      counted = counted.pieces;
      within = omega (arith, h.starting.no_charges);
      at_end = λ empty. progress.ensures.under_way (sym same_left ∙ empty);
      at_piece = λ some. (progress.ensures.writing (λ empty. some (same_left ∙ empty)), same_left);
      begun = progress.ensures.begun;
    })
