-- Drains, and what stands behind them.
use Rattle.std.proofs.Common.{◌≡◌, ◌∙◌, ℕ, List, [], ◌∷◌, ◌++◌, refl, sym}
use Rattle.wh_script_model.specs.{Reply, reply_text, LacksInstance, DrainsAmid}
use Rattle.wh_script_model.specs.ScriptState.{ScriptState}
use Rattle.wh_script_laws.proofs.Printed.{runs_well, says_well, all_said, drained_guest}
use Rattle.wh_engine.specs.Draining.{RunsEach}
use Rattle.wh_engine.specs.Printing.{PrintsAll}
use Rattle.wh_engine.specs.RepresentedScript.{ScriptHostState}
use Rattle.wh_script.specs.Answering.{HasDrained, Complains}
use Rattle.wh_script.proofs.Speaking.{adds_one, adds_more}

pub has_drained : {D : Type 0} (e e2 e3 : ScriptHostState D) (text text2 : List ℕ) (faults : List ℕ) → RunsEach e e2 faults → PrintsAll e2 text e3 text2 → HasDrained e text e3 text2 faults
has_drained e e2 e3 text text2 faults runs says settings m s =
    let ran = runs settings m s.0 in
    let m1 : ScriptState = record m { instances = ran.0; faults_met = faults ++ m.faults_met } in
    let well = runs_well faults m ran.0 s.1 ran.1 in
    let printed = says settings m1 ran.2 well in
    let starts = printed.0 in
    let calls = printed.1 in
    let instances = printed.2 in
    let invoked = printed.3 in
    let m2 : ScriptState = record m1 { instances = instances; invoked = invoked } in
    let drains : DrainsAmid faults m (starts ++ calls) m2 =
    record {
      run = ran.0;
      instances = instances;
      invoked = invoked;
      starts = starts;
      calls = calls;
      each_runs = ran.1;
      print_starts = printed.4;
      print_calls = printed.5;
      lines_are = refl;
      after = refl;
    } in
    let well2 = says_well m1 starts calls instances invoked well printed.4 printed.5 in
    let all = all_said m1 starts calls instances invoked printed.4 printed.5 in
    (starts ++ calls, m2, drains, printed.6, (printed.7, well2), all)

pub complains : {D : Type 0} (e e2 : ScriptHostState D) (text mid text2 : List ℕ) (reply : Reply) (faults : List ℕ) → HasDrained e text e2 mid faults → text2 ≡ mid ++ reply_text reply → Complains reply e text e2 text2 faults
complains e e2 text mid text2 reply faults drained is settings m s =
    let d = drained settings m s in
    (d.0, d.1, d.2, adds_more d.0 (reply ∷ []) text mid text2 d.3 (adds_one reply mid text2 is), d.4)

-- who isn't there isn't there behind a drain
pub no_guest_then : (faults : List ℕ) (m m2 : ScriptState) (lines : List Reply) (name : List ℕ) → DrainsAmid faults m lines m2 → LacksInstance m name → LacksInstance m2 name
no_guest_then faults m m2 lines name drains none i g2 has =
    let was = drained_guest faults m m2 lines i g2 drains has.0 in
    none i was.0 (was.1, sym was.2 ∙ has.1)
