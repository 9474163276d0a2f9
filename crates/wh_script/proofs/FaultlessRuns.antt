-- A run in which no call of the device failed.
use Rattle.std.proofs.Common.{◌≡◌, inl, inr, ⊎_elim, ℕ, ◌+◌, true, List, [], ◌∷◌, Option, Result, Ok, Err, MatchOption, Some, None, IfSome, map, sym, ap, subst, ◌∙◌}
use Rattle.wh_space_model.specs.declared.plain.SwapError.{SwapError}
use Rattle.wh_space_model.specs.{swap_number}
use Rattle.wh_script_model.specs.Settings.{Settings}
use Rattle.wh_script_model.specs.{Reply, empty_script, Files, DrainsAmidFaults}
use Rattle.wh_script_model.specs.ScriptState.{ScriptState}
use Rattle.wh_script_model.specs.Drains.{Drains}
use Rattle.wh_script_laws.specs.Faultless.{NobodyStands}
use Rattle.wh_script_laws.proofs.Faultless.{both_none, drained_alone, line_none, line_alone, lines_none}
use Rattle.wh_engine.specs.Draining.{HasServed, HoldsAmid}
use Rattle.wh_script.specs.declared.fault.ScriptFault.{ScriptFault}
use Rattle.wh_script.specs.declared.fault.ScriptFault.TheVariants.{Script, Output, Memory, Transcript}
use Rattle.wh_script.specs.Runs.{LinesSay, IsWhole, IsPartial, StopsAtCalls, Runs}
use Rattle.wh_script.specs.FailingRuns.{ScriptRunsAmid}
use Rattle.wh_script.proofs.Devices.{none_of}
use Rattle.wh_script.proofs.Runs.{are_answered, begins_nothing}

module _ (settings : Settings) (files : Files) where
  says_alone : (w w2 : ScriptState) (number : ℕ) (lines : List (List ℕ)) (replies : List Reply) (text : List ℕ) → LinesSay DrainsAmidFaults settings files w number lines replies text w2
      → w2.faults_met ≡ [] → (w.faults_met ≡ []) × (NobodyStands w → LinesSay Drains settings files w number lines replies text w2)
  says_alone w w2 number [] replies text p none = (subst (λ (k : ScriptState). k.faults_met ≡ []) p.2 none, λ nobody. p)
  says_alone w w2 number (line ∷ lines) replies text (here, rest, now, later, between, e, t, x, is, more) none =
      let others = says_alone between w2 (number + 1) lines rest later more none in
      let first = line_alone true settings files w between number line here x others.0 in (
        first.0,
        λ nobody. let alone = first.1 nobody in (here, rest, now, later, between, e, t, alone, is, others.1 ((line_none true settings files w between number line here alone).1 nobody)),
      )

  partial_alone : (lines : List (List ℕ)) (text : List ℕ) → IsPartial DrainsAmidFaults settings files [] lines text → IsPartial Drains settings files [] lines text
  partial_alone lines text p =
      let says = (says_alone empty_script p.made 1 lines p.replies text p.says (both_none p.since p.made.faults_met (sym p.met)).1).1 tt in
      record { replies = p.replies; made = p.made; since = p.since; answers = are_answered Drains settings files empty_script p.made 1 lines p.replies text says; says = says; met = p.met }

  whole_alone : (lines : List (List ℕ)) (text : List ℕ) → IsWhole DrainsAmidFaults settings files [] lines text → IsWhole Drains settings files [] lines text
  whole_alone lines text p =
      let x = p.answers in
      let drains = drained_alone x.before x.after x.last x.drains (sym p.met) in
      let says = (says_alone empty_script x.before 1 lines x.to_lines p.front p.says drains.0).1 tt in
      let answers = are_answered Drains settings files empty_script x.before 1 lines x.to_lines p.front says in
      let nobody = (lines_none true settings files empty_script x.before 1 lines x.to_lines answers).1 tt in
      record {
        replies = p.replies;
        front = p.front;
        answers = record { before = x.before; after = x.after; to_lines = x.to_lines; last = x.last; answers = answers; drains = drains.1 nobody; replies_are = x.replies_are };
        says = says;
        is = p.is;
        met = p.met;
      }

  calls_alone : (script before after : Option (List ℕ)) → StopsAtCalls DrainsAmidFaults settings files [] script before after → StopsAtCalls Drains settings files [] script before after
  unfolding partial_alone
  calls_alone script before after p = (p.0, p.1, p.2, record { partial = partial_alone p.0 p.1 p.3.partial; may_go = p.3.may_go }, p.4)

  pub faultless_run : (script left before after : Option (List ℕ)) (r : Result Unit ScriptFault) → ScriptRunsAmid settings files [] script left before after r → Runs settings files script left before after r
  faultless_run script left before after (Ok x) p = (p.0, p.1, p.2, whole_alone p.0 p.1 p.3, p.4)
  faultless_run script left before after (Err Output) p = (
    p.0,
    p.1,
    p.2,
    ⊎_elim (λ (q : IsPartial DrainsAmidFaults settings files [] p.0 p.1). inl (partial_alone p.0 p.1 q))
        (λ (q : IsWhole DrainsAmidFaults settings files [] p.0 p.1). inr (whole_alone p.0 p.1 q)) p.3,
    p.4,
  )
  faultless_run script left before after (Err Script) p = (p.0, p.1, p.2, partial_alone p.0 p.1 p.3, p.4)
  faultless_run script left before after (Err Memory) p = (p.0, p.1, p.2, partial_alone p.0 p.1 p.3, p.4)
  faultless_run script left before after (Err Transcript) p = calls_alone script before after p

-- the device that came back served well, or none came back
pub where_served : {D : Type 0} (honest : D → Type 0) (faults : D → List SwapError) (device : D) (o : Option D) (P : List ℕ → Type 0)
    → MatchOption o (P []) (λ after. HoldsAmid (honest after) (faults device) (faults after) P) → IfSome o (λ after. HasServed (honest after) (faults device) (faults after)) → P []
where_served honest faults device None P holds served = holds
where_served honest faults device (Some after) P holds served =
    let h = holds served.0 in
    let nothing : h.0 ≡ [] = none_of h.0 (faults device) (sym served.1 ∙ h.1) in
    subst P (ap (λ xs. map swap_number xs) nothing) h.2

-- memory ran out before the first line
pub nothing_begun : (settings : Settings) (files : Files) (script left w : Option (List ℕ)) → Runs settings files script left w w (Err Memory)
nothing_begun settings files script left w = faultless_run settings files script left w w (Err Memory) (begins_nothing settings files script left w)
