-- A turn that is finished is one of the host's definitions.
use Rattle.std.proofs.Common.{◌≡◌, ℕ, List, ◌∷◌, refl, ap, ◌∙◌}
use Rattle.wh_host_model.specs.Host.{Tenant}
use Rattle.wh_host_model.specs.{Entry}
use Rattle.wh_journal.specs.Calls.{CanGoFurther, JournalCallState, JournalState}
use Rattle.wh_machine.specs.CallStates.{Setting}
use Rattle.wh_instance.specs.declared.computing.TurnOutcome.{TurnOutcome}
use Rattle.wh_instance.specs.declared.stages.TurnResult.{TurnResult}
use Rattle.wh_instance.specs.Tenancy.{HostInstanceState, RepresentsTenant}
use Rattle.wh_instance.specs.Advancing.{AdvancesTenant, StaysBut, TurnsTenant}
use Rattle.wh_instance.specs.Settling.{IsFinished}
use Rattle.wh_instance.proofs.Advanced.{can_go_further, opened}
use Rattle.wh_instance.proofs.Settled.{settles_so}

-- what was run can be written down
pub may_finish : {M : Type 0} (w : Setting M) (q : ℕ) (x x1 : HostInstanceState) (m m2 : M) (t : Tenant) (e : Entry) (es : List Entry) (answer : TurnOutcome) (k n : ℕ) → RepresentsTenant w x m t → t.open_calls ≡ e ∷ es → StaysBut x x1 → AdvancesTenant w q m t e es answer k n x1 m2
    → CanGoFurther x1.journal.open_calls k n
may_finish w q x x1 m m2 t e es answer k n rep is_open stays a = can_go_further w q x x1 m m2 t e es answer k n (opened w x m t e es is_open rep) a stays.journal

pub finishes : {M : Type 0} (w : Setting M) (q : ℕ) (x x1 : HostInstanceState) (m m2 : M) (t : Tenant) (e : Entry) (es : List Entry) (answer : TurnOutcome) (k n : ℕ) (result : TurnResult) (x2 : HostInstanceState) → RepresentsTenant w x m t → t.open_calls ≡ e ∷ es → StaysBut x x1 → AdvancesTenant w q m t e es answer k n x1 m2
    → ((c : JournalCallState) (cs : List JournalCallState) → x1.journal.open_calls ≡ c ∷ cs → IsFinished x1 answer k n c cs result x2) → TurnsTenant w q m t e es result n x2 m2
finishes w q x x1 m m2 t e es answer k n result x2 rep is_open stays a is_finished =
    let o = opened w x m t e es is_open rep in
    let at = ap (λ (j : JournalState). j.open_calls) stays.journal ∙ o.at in
    let f = is_finished o.c o.cs at in
    settles_so w q x x1 m m2 t e es answer k n o.c o.cs f.still (record x1.journal { open_calls = _ }) result x2
    (record {
      before = rep;
      is_open = is_open;
      same_ended = ap (λ (j : JournalState). j.ended) stays.journal;
      same_stands = stays.waiting_for;
      same_dead = stays.dead;
      first = o.first;
      others = o.others;
      advances = a;
      steps = f.steps;
    })
    refl f.is_answer f.leaves
