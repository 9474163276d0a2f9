-- A run line by line: what was read and written so far, and how it ends.
use Rattle.std.proofs.Common.{◌≡◌, ◌≢◌, ℕ, ◌+◌, ◌⊎◌, inl, inr, true, List, [], ◌∷◌, ◌++◌, length, All, Option, Some, None, Result, Ok, Err, refl, sym, ap, subst, subst₂, ◌∙◌, append-nil, append_assoc, arith, length-append}
use Rattle.std.specs.Io.KnownBytes.{Appends, Consumes, IsAtEnd, prepend_known}
use Rattle.wh_script_model.specs.{lines_of, Reply, empty_script, DrainRule, Files, AnswersLine, AnswersLines, DrainsAmidFaults}
use Rattle.wh_script_model.specs.Settings.{Settings}
use Rattle.wh_script_model.specs.ScriptState.{ScriptState}
use Rattle.wh_engine.specs.declared.fault.RunFault.{RunFault}
use Rattle.wh_engine.specs.declared.fault.RunFault.TheVariants as run
use Rattle.wh_script.specs.declared.fault.ScriptFault.{ScriptFault}
use Rattle.wh_script.specs.declared.fault.ScriptFault.TheVariants.{Script, Output, Memory, Transcript}
use Rattle.wh_script.specs.Causes.{script_fault}
use Rattle.wh_engine.specs.Draining.{StopsOnlyOpen, WasOpen}
use Rattle.wh_engine.specs.RepresentedScript.{ScriptHostState, RepresentsScript}
use Rattle.wh_script_laws.proofs.PrintedObeyed.{nothing_well}
use Rattle.wh_script.specs.declared.lines.Line.{Line}
use Rattle.wh_script.specs.declared.lines.Line.TheVariants.{Kept, TooLong, Skipped, End}
use Rattle.wh_script.specs.Coming.{TakesLines, IsKind, ReadsLine, FailsAt}
use Rattle.wh_script.specs.Speaking.{IsLineText}
use Rattle.wh_script.specs.Answering.{ServesScript, HasDrained, Answers}
use Rattle.wh_script.specs.Runs.{AreLines, AreFirstLines, GaveLines, AppendsFront, Sent, LinesSay, IsPartial, IsWhole, StopsAtCalls, StopsBetween}
use Rattle.wh_script.specs.FailingRuns.{ScriptRunsAmid}
use Rattle.wh_script.proofs.Coming.{takes_more}
use Rattle.wh_script.proofs.Written.{appends_nothing, appends_more}

-- lines were taken up to this number, and what answers them was written, while calls of the device had these faults
abbrev pub SoFar : {D : Type 0} → Settings → Files → Option (List ℕ) → Option (List ℕ) → Option (List ℕ) → Option (List ℕ) → ℕ → ScriptHostState D → (met : List ℕ) → Type 0
SoFar settings files script coming before after number e met = (lines : List (List ℕ)) × (replies : List Reply) × (m : ScriptState) × (text : List ℕ)
    × TakesLines script coming lines × (length lines + 1 ≡ number) × LinesSay DrainsAmidFaults settings files empty_script 1 lines replies text m × Appends before after text
    × ServesScript settings e m × (met ≡ m.faults_met)

-- one more line gets its replies, and the text goes on
says_more : (Drain : DrainRule) (settings : Settings) (files : Files) (before mid after : ScriptState) (number : ℕ) (lines : List (List ℕ)) (line text now : List ℕ) (replies reply : List Reply)
    → LinesSay Drain settings files before number lines replies text mid → AnswersLine Drain true settings files mid (number + length lines) line reply after
    → IsLineText settings (number + length lines) line after reply now → LinesSay Drain settings files before number (lines ++ line ∷ []) (replies ++ reply) (text ++ now) after
says_more Drain settings files before mid after number [] line text now replies reply p r says_it =
    let n : number + 0 ≡ number = omega arith in (
      reply,
      [],
      now,
      [],
      after,
      ap (λ xs. xs ++ reply) p.0 ∙ sym (append-nil reply),
      ap (λ xs. xs ++ now) p.1 ∙ sym (append-nil now),
      subst₂ (λ m k. AnswersLine Drain true settings files m k line reply after) p.2 n r,
      subst (λ k. IsLineText settings k line after reply now) n says_it,
      (refl, refl, refl),
    )
says_more Drain settings files before mid after number (l ∷ lines) line text now replies reply p r says_it =
    let n : number + length (l ∷ lines) ≡ number + 1 + length lines = omega arith in (
      p.0,
      p.1 ++ reply,
      p.2,
      p.3 ++ now,
      p.4,
      ap (λ xs. xs ++ reply) p.5 ∙ append_assoc p.0 p.1 reply,
      ap (λ xs. xs ++ now) p.6 ∙ append_assoc p.2 p.3 now,
      p.7,
      p.8,
      says_more Drain settings files p.4 mid after (number + 1) lines line p.3 now p.1 reply p.9 (subst (λ k. AnswersLine Drain true settings files mid k line reply after) n r)
          (subst (λ k. IsLineText settings k line after reply now) n says_it),
    )

-- so lines that say replies get them
pub are_answered : (Drain : DrainRule) (settings : Settings) (files : Files) (before after : ScriptState) (number : ℕ) (lines : List (List ℕ)) (replies : List Reply) (text : List ℕ)
    → LinesSay Drain settings files before number lines replies text after → AnswersLines Drain true settings files before number lines replies after
are_answered Drain settings files before after number [] replies text p = (p.0, p.2)
are_answered Drain settings files before after number (l ∷ lines) replies text p =
    (p.0, p.1, p.4, p.5, p.7, are_answered Drain settings files p.4 after (number + 1) lines p.1 p.3 p.9)

first_lines : (a b : Option (List ℕ)) (lines : List (List ℕ)) → TakesLines a b lines → AreFirstLines a lines
first_lines None b lines p = tt
first_lines (Some xs) None lines p = elim p [ ]
first_lines (Some xs) (Some ys) lines p = (lines_of ys, p.2)

all_lines : (a b : Option (List ℕ)) (lines : List (List ℕ)) → TakesLines a b lines → IsAtEnd b → AreLines a lines
all_lines None b lines p end = tt
all_lines (Some xs) None lines p end = elim p [ ]
all_lines (Some xs) (Some ys) lines p end = sym (p.2 ∙ ap (λ zs. lines ++ lines_of zs) end ∙ append-nil lines)

gave_lines : (a b c : Option (List ℕ)) (lines : List (List ℕ)) (begun : List ℕ) → TakesLines a b lines → All (λ n. n ≢ 10) begun → Consumes b c begun → GaveLines a c lines
gave_lines None b c lines begun p free q = tt
gave_lines (Some xs) None c lines begun p free q = elim p [ ]
gave_lines (Some xs) (Some ys) None lines begun p free q = elim q [ ]
gave_lines (Some xs) (Some ys) (Some zs) lines begun p free q =
    (p.0, begun, p.1 ∙ ap (λ us. p.0 ++ us) q ∙ sym (append_assoc p.0 begun zs), free, p.2 ∙ ap (λ us. lines ++ lines_of us) q)

front_of : (a b c : Option (List ℕ)) (text reply : List ℕ) → Appends a b text → AppendsFront b c reply → AppendsFront a c (text ++ reply)
front_of a b c text reply p q = (text ++ q.0, q.1, ap (λ xs. text ++ xs) q.2 ∙ sym (append_assoc text q.0 q.1), appends_more a b c text q.0 p q.3)

line_of : (kind : Line) (a b : Option (List ℕ)) (held : List ℕ) → kind ≢ End → ReadsLine a b kind held → (line : List ℕ) × TakesLines a b (line ∷ []) × IsKind kind held line
line_of Kept a b held more reads = reads
line_of TooLong a b held more reads = reads
line_of Skipped a b held more reads = reads
line_of End a b held more reads = absurd (more refl)

pub starts : {D : Type 0} (settings : Settings) (files : Files) (a w : Option (List ℕ)) (left : List ℕ) (e : ScriptHostState D) → left ≡ [] → RepresentsScript settings e empty_script
    → SoFar settings files a (prepend_known left a) w w 1 e []
starts settings files None w left e none stands = ([], [], empty_script, [], tt, refl, (refl, refl, refl), appends_nothing w, (stands, nothing_well), refl)
starts settings files (Some xs) w left e none stands =
    ([], [], empty_script, [], rw none ([], refl, refl), refl, (refl, refl, refl), appends_nothing w, (stands, nothing_well), refl)

nothing_first : (a : Option (List ℕ)) → AreFirstLines a []
nothing_first None = tt
nothing_first (Some xs) = (lines_of xs, refl)

pub begins_nothing : (settings : Settings) (files : Files) (a left w : Option (List ℕ)) → ScriptRunsAmid settings files [] a left w w (Err Memory)
begins_nothing settings files a left w = ([], [], nothing_first a, record { replies = []; made = empty_script; since = []; answers = (refl, refl); says = (refl, refl, refl); met = refl }, appends_nothing w)

module _ {D : Type 0} (settings : Settings) (files : Files) (a b before mid : Option (List ℕ)) (number : ℕ) (e : ScriptHostState D) (met since : List ℕ) (so_far : SoFar settings files a b before mid number e met) where
  answered : AnswersLines DrainsAmidFaults true settings files empty_script 1 so_far.0 so_far.1 so_far.2
  answered = are_answered DrainsAmidFaults settings files empty_script so_far.2 1 so_far.0 so_far.1 so_far.3 so_far.6

  partial : IsPartial DrainsAmidFaults settings files (since ++ met) so_far.0 so_far.3
  partial = record { replies = so_far.1; made = so_far.2; since = since; answers = answered; says = so_far.6; met = ap (λ xs. since ++ xs) so_far.9 }

  stops_here : StopsBetween DrainsAmidFaults settings files (since ++ met) a before mid
  stops_here = (so_far.0, so_far.3, first_lines a b so_far.0 so_far.4, partial, so_far.7)

  stops_open : WasOpen e → StopsAtCalls DrainsAmidFaults settings files (since ++ met) a before mid
  unfolding partial
  stops_open was =
      (so_far.0, so_far.3, first_lines a b so_far.0 so_far.4, record { partial = partial; may_go = was.1 settings so_far.2 so_far.8.0 }, so_far.7)

  pub stops : (left : Option (List ℕ)) (fault : RunFault) → StopsOnlyOpen e fault → ScriptRunsAmid settings files (since ++ met) a left before mid (Err (script_fault fault))
  stops left run.Memory only = stops_here
  stops left run.Transcript only = stops_open only

  pub read_fails : (left : Option (List ℕ)) (fault : ScriptFault) → (fault ≡ Script) ⊎ (fault ≡ Memory) → FailsAt b left (Err fault) → ScriptRunsAmid settings files (since ++ met) a left before mid (Err fault)
  read_fails left Script which at = (so_far.0, so_far.3, gave_lines a b left so_far.0 at.0 so_far.4 at.1 at.2, partial, so_far.7)
  read_fails left Memory which at = stops_here
  read_fails left Output which at = neither which
    where
      neither : (Output ≡ Script) ⊎ (Output ≡ Memory) → ScriptRunsAmid settings files (since ++ met) a left before mid (Err Output)
      neither (inl h) = absurd (cc h)
      neither (inr h) = absurd (cc h)
  read_fails left Transcript which at = absurd (neither which)
    where
      neither : (Transcript ≡ Script) ⊎ (Transcript ≡ Memory) → ⊥
      neither (inl h) = absurd (cc h)
      neither (inr h) = absurd (cc h)

  module _ (e2 : ScriptHostState D) (text : List ℕ) (after left : Option (List ℕ)) where
    whole : HasDrained e [] e2 text since → IsWhole DrainsAmidFaults settings files (since ++ met) so_far.0 (so_far.3 ++ text)
    whole drained =
        let d = drained settings so_far.2 so_far.8 in
        record {
          replies = so_far.1 ++ d.0;
          front = so_far.3;
          answers = record { before = so_far.2; after = d.1; to_lines = so_far.1; last = d.0; answers = answered; drains = (since, d.2); replies_are = refl };
          says = so_far.6;
          is = ap (λ xs. so_far.3 ++ xs) d.3;
          met = ap (λ xs. since ++ xs) so_far.9 ∙ sym (ap (λ (k : ScriptState). k.faults_met) d.2.after);
        }

    -- the drain at the end
    pub ends : HasDrained e [] e2 text since → IsAtEnd b → (r : Result Unit ScriptFault) → Sent mid after r text → ScriptRunsAmid settings files (since ++ met) a left before after r
    ends drained end (Ok x) sent = (so_far.0, so_far.3 ++ text, all_lines a b so_far.0 so_far.4 end, whole drained, appends_more before mid after so_far.3 text so_far.7 sent)
    ends drained end (Err Output) sent =
        (so_far.0, so_far.3 ++ text, first_lines a b so_far.0 so_far.4, inr (whole drained), front_of before mid after so_far.3 text so_far.7 sent)
    ends drained end (Err Script) sent = elim sent [ ]
    ends drained end (Err Memory) sent = elim sent [ ]
    ends drained end (Err Transcript) sent = elim sent [ ]

    module _ (c : Option (List ℕ)) (kind : Line) (held : List ℕ) (more : kind ≢ End) (reads : ReadsLine b c kind held)
        (answers : (line : List ℕ) → IsKind kind held line → Answers files number line e [] e2 text since) where
      next_line : (line : List ℕ) × TakesLines b c (line ∷ []) × IsKind kind held line
      next_line = line_of kind b c held more reads

      takes_next : TakesLines a c (so_far.0 ++ next_line.0 ∷ [])
      takes_next = takes_more a b c so_far.0 (next_line.0 ∷ []) so_far.4 next_line.1

      says_next : (replies : List Reply) × (m : ScriptState) × LinesSay DrainsAmidFaults settings files empty_script 1 (so_far.0 ++ next_line.0 ∷ []) replies (so_far.3 ++ text) m
          × ServesScript settings e2 m × (since ++ met ≡ m.faults_met)
      says_next =
          let answer = answers next_line.0 next_line.2 settings so_far.2 so_far.8 in
          let n : number ≡ 1 + length so_far.0 = omega (arith, so_far.5) in (
            so_far.1 ++ answer.0,
            answer.1,
            says_more DrainsAmidFaults settings files empty_script so_far.2 answer.1 1 so_far.0 next_line.0 so_far.3 text so_far.1 answer.0 so_far.6
                (subst (λ k. AnswersLine DrainsAmidFaults true settings files so_far.2 k next_line.0 answer.0 answer.1) n answer.3)
                (subst₂ (λ k xs. IsLineText settings k next_line.0 answer.1 answer.0 xs) n (sym answer.6) answer.5),
            answer.7,
            ap (λ xs. since ++ xs) so_far.9 ∙ sym answer.4,
          )

      pub goes_on : Appends mid after text → SoFar settings files a c before after (number + 1) e2 (since ++ met)
      goes_on sent = (
        so_far.0 ++ next_line.0 ∷ [],
        says_next.0,
        says_next.1,
        so_far.3 ++ text,
        takes_next,
        omega (arith, so_far.5, length-append so_far.0 (next_line.0 ∷ [])),
        says_next.2,
        appends_more before mid after so_far.3 text so_far.7 sent,
        says_next.3,
        says_next.4,
      )

      pub write_fails : (fault : ScriptFault) → Sent mid after (Err fault) text → ScriptRunsAmid settings files (since ++ met) a left before after (Err fault)
      write_fails Output sent = (
        so_far.0 ++ next_line.0 ∷ [],
        so_far.3 ++ text,
        first_lines a c (so_far.0 ++ next_line.0 ∷ []) takes_next,
        inl (record {
          replies = says_next.0;
          made = says_next.1;
          since = [];
          answers = are_answered DrainsAmidFaults settings files empty_script says_next.1 1 (so_far.0 ++ next_line.0 ∷ []) says_next.0 (so_far.3 ++ text) says_next.2;
          says = says_next.2;
          met = says_next.4;
        }),
        front_of before mid after so_far.3 text so_far.7 sent,
      )
      write_fails Script sent = elim sent [ ]
      write_fails Memory sent = elim sent [ ]
      write_fails Transcript sent = elim sent [ ]
