use Rattle.std.proofs.Common.{◌≡◌, ◌∙◌, ℕ, true, Option, Some, None, inr, length, slice_set, sym, ap}
use Rattle.wh_journal.specs.Calls.{JournalState}
use Rattle.wh_instance.specs.Tenancy.{HostInstanceState}
use Rattle.wh_overlay.specs.LaidPages.{OverlayPagesState}
use Rattle.wh_host.specs.declared.parts.InstanceEntry.{InstanceEntry}
use Rattle.wh_host.specs.declared.rounds.Runner.{Runner}
use Rattle.wh_host.specs.Joining.{with_lent}
use Rattle.wh_host.proofs.joining.take_out.Goals as goal

-- the runner with this instance, and this room
abbrev out_with : Runner → InstanceEntry → ℕ → HostInstanceState → Option OverlayPagesState → Runner
out_with y x ended tenant upper = record y {
  taken = true;
  module_place = x.module_place;
  page_limit = x.page_limit;
  tenant = tenant;
  ended = ended;
  upper = upper;
  answer = None;
}

pub returns-in-Some-upper : goal.returns-in-Some-upper
returns-in-Some-upper c =
    let y = c.args.runner.now in
    let x = c.in-Some.entry.now in
    let n = c.args.frames in
    let lent : Some c.lend.new.self ≡ with_lent n y.upper = ap Some c.lend.ensures ∙ ap (with_lent n) (sym c.in-Some-upper.is) in
    let ended = c.ended_len-runner.ensures ∙ ap (λ (j : JournalState). length j.ended) c.journal.ensures in
    inr (record {
      entry = x;
      was = sym c.in-Some.ensures.value;
      number = c.if-not-has_number.ensures;
      computes = c.if-not-computes.ensures;
      entries = ap (λ z. slice_set c.args.entries.now.slots y.id.place (Some (record x { number = None; tenant = z }))) c.swap.ensures.x_after;
      runner = ap (λ z. out_with y x c.ended_len-runner.result z (Some c.lend.new.self)) c.swap.ensures.y_after ∙ ap (out_with y x c.ended_len-runner.result x.tenant) lent
          ∙ ap (λ k. out_with y x k x.tenant (with_lent n y.upper)) ended;
    })

pub returns-in_default-upper : goal.returns-in_default-upper
returns-in_default-upper c =
    let y = c.args.runner.now in
    let x = c.in-Some.entry.now in
    let n = c.args.frames in
    let none = c.in_default-upper.is in
    let lent : y.upper ≡ with_lent n y.upper = none ∙ ap (with_lent n) (sym none) in
    let ended = c.ended_len-runner.ensures ∙ ap (λ (j : JournalState). length j.ended) c.journal.ensures in
    inr (record {
      entry = x;
      was = sym c.in-Some.ensures.value;
      number = c.if-not-has_number.ensures;
      computes = c.if-not-computes.ensures;
      entries = ap (λ z. slice_set c.args.entries.now.slots y.id.place (Some (record x { number = None; tenant = z }))) c.swap.ensures.x_after;
      runner = ap (λ z. out_with y x c.ended_len-runner.result z y.upper) c.swap.ensures.y_after ∙ ap (out_with y x c.ended_len-runner.result x.tenant) lent
          ∙ ap (λ k. out_with y x k x.tenant (with_lent n y.upper)) ended;
    })
