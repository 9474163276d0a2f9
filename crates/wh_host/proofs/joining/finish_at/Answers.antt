use Rattle.std.proofs.Common.{◌≡◌, ◌+◌, ◌*◌, ◌≤◌, Some, length, refl, sym, ap, subst, ◌∙◌}
use Rattle.wh_overlay.specs.LaidPages.{OverlayPagesState}
use Rattle.wh_host.specs.Beside.{HasRun, with_nothing}
use Rattle.wh_host.specs.Rounds.{lent_in}
use Rattle.wh_host.proofs.joining.finish_at.Goals as goal

one_upper : (u v : OverlayPagesState) → Some u ≡ Some v → u ≡ v
one_upper u v e = cc e

pub finish_beside-end-requires : goal.finish_beside-end-requires
finish_beside-end-requires c =
    let q = c.requires.0 in
    let r = c.requires.1 in
    let y = c.args.runner.now in
    let same = one_upper r.0 c.in-Some.upper (sym r.1 ∙ c.in-Some.is) in
    (r.2, r.3, y.ran.turns * q, r.4, r.5, r.6, subst (λ u. HasRun r.2 r.3 (y.ran.turns * q) r.4 c.args.memory.now y.id.place r.5 r.6 y.ran.came y.ran.pieces y.ran.charges y.tenant u) same r.7)

pub returns : goal.returns
returns c = λ q.
    (let y = c.args.runner.now in
    let f = c.finish_beside-end in
    let e = f.ensures in
    record {
      end = f.result;
      finishes = record {
        turns = λ u is l limit s0 x t run.
            e.turns l limit (y.ran.turns * q) s0 x t (subst (λ z. HasRun l limit (y.ran.turns * q) s0 c.args.memory.now y.id.place x t y.ran.came y.ran.pieces y.ran.charges y.tenant z) (one_upper u c.in-Some.upper (sym is ∙ c.in-Some.is)) run);
        others = e.others;
        frames = subst (λ n. length c.args.memory.now.pool.free ≤ length f.new.memory.pool.free + n) (ap lent_in (sym c.in-Some.is)) e.frames;
        backing = e.backing;
        memory = e.memory;
      };
      answer = refl;
      again = e.again;
      upper = λ u is. ap Some (e.empty ∙ ap with_nothing (sym (one_upper u c.in-Some.upper (sym is ∙ c.in-Some.is))));
      id = refl;
      ended = refl;
      free = (refl, (f.new.upper, refl, ap (λ (u : OverlayPagesState). u.pages) e.empty, ap (λ (u : OverlayPagesState). u.grown) e.empty, ap (λ (u : OverlayPagesState). u.taken) e.empty, ap (λ (u : OverlayPagesState). u.reads) e.empty));
    })
