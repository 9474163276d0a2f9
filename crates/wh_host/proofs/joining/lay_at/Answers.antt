use Rattle.std.proofs.Common.{◌≡◌, Some, inr, slice_set, sym, ap, subst, ◌∙◌}
use Rattle.wh_space_model.specs.declared.plain.InstId.{InstId}
use Rattle.wh_host.specs.declared.parts.InstanceEntry.{InstanceEntry}
use Rattle.wh_host.specs.declared.rounds.Runner.{Runner}
use Rattle.wh_host.specs.Hosting.{entry_at}
use Rattle.wh_host.specs.Rounds.{IsFree}
use Rattle.wh_host.proofs.joining.lay_at.Goals as goal

pub returns : goal.returns
returns c = λ q.
    (let f = c.finish_at in
    let is = f.ensures q in
    let z = f.new.runner in
    let g = c.give_back in
    let back = g.ensures.runner in
    let rs = c.args.entries.now.slots in
    inr (
      c.if-not-runner.false,
      record {
        end = is.end;
        tenant = z.tenant;
        finishes = is.finishes;
        answer = ap (λ (s : Runner). s.answer) back.1 ∙ is.answer;
        again = is.again;
        upper = λ u had. ap (λ (s : Runner). s.upper) back.1 ∙ is.upper u had;
        id = ap (λ (s : Runner). s.id) back.1 ∙ is.id;
        ended = ap (λ (s : Runner). s.ended) back.1 ∙ is.ended;
        free = subst IsFree (sym back.1) is.free;
        entries = subst (λ (i : InstId). (x : InstanceEntry) → entry_at rs i.place ≡ Some x → g.new.entries.slots ≡ slice_set rs i.place (Some (record x { number = Some i.number; tenant = z.tenant }))) is.id g.ensures.entries;
      },
    ))
