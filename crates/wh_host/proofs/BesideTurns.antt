-- A turn of an instance that ran beside others is a turn of the host's definitions, once all is written back.
use Rattle.std.proofs.Common.{◌≡◌, ◌≢◌, ◌∙◌, inl, inr, ℕ, ◌≤◌, Bool, min, Option, List, [], ◌∷◌, refl, sym, ap, subst, arith, rules}
use Rattle.std.proofs.Math.Nat.{min-eq_left}
use Rattle.std.proofs.lemmas.Bool.{cases_lt}
use Rattle.wh_model.specs.declared.memory.Need.{Need}
use Rattle.wh_model.specs.Execution.Store.{Instance}
use Rattle.wh_model.specs.Execution.{Call}
use Rattle.wh_host_model.specs.Host.{StepsAlone, Upshot, to_end, out_of_fuel, to_wait, to_go_on, Proceeds, Rest, Doing, computing, Tenant, ProceedsIn, gone_further}
use Rattle.wh_host_model.specs.{Entry}
use Rattle.wh_space_model.specs.{Claimed, Space, view, IsSound}
use Rattle.wh_space_model.specs.Ready.{Ready}
use Rattle.wh_imports.specs.LinkedState.{LinkedState}
use Rattle.wh_journal.specs.Calls.{CanGoFurther, JournalCallState}
use Rattle.wh_machine.specs.MachineRuns.{linked_parts}
use Rattle.wh_machine.specs.CallStates.{Setting, setting_of}
use Rattle.wh_instance.specs.Advancing.{AdvancesAny, AdvancesTenant, HasOpenCall, StaysBut, TurnsTenant}
use Rattle.wh_instance.specs.Seen.{IsAtTerm}
use Rattle.wh_instance.specs.Settling.{IsFinished, answered}
use Rattle.wh_instance.specs.Tenancy.{HostInstanceState, IsTenant, RepresentsTenant}
use Rattle.wh_instance.specs.Turned.{IsCame}
use Rattle.wh_instance.specs.declared.computing.TurnOutcome.{TurnOutcome}
use Rattle.wh_instance.specs.declared.computing.TurnOutcome.TheVariants as came
use Rattle.wh_instance.specs.declared.stages.TurnResult.{TurnResult}
use Rattle.wh_host_model.specs.declared.plain.TurnEnd.{TurnEnd}
use Rattle.wh_host_model.specs.declared.plain.TurnEnd.TheVariants as turn_answer
use Rattle.wh_host.specs.Series.{IsWholeOrCut}
use Rattle.wh_instance.proofs.Finished.{finishes, may_finish}
use Rattle.wh_overlay.specs.LaidPages.{OverlayPagesState, with_upper}
use Rattle.wh_overlay.specs.LaidBack.{ComesThere, IsLaid, LooksSame, ProceedsThere}
use Rattle.wh_overlay.specs.Over.{IsOverSame, IsReadyOver, IsWholeOver, OverlayState, sees}
use Rattle.wh_overlay.proofs.LaidTakes.{Laying, proceeds_laid, proceeds_none, whole_there}
use Rattle.wh_overlay.proofs.SomeLaid.{none_laid}
use Rattle.wh_space.specs.Steps.{limit_by, page_limit}
use Rattle.wh_space.specs.StepViews.{KeepsRest}
use Rattle.wh_host.specs.Beside.{CameThere, CanGoOnFrom, HasRun, RunsBeside, beside_setting, memory_with}
use Rattle.wh_host.specs.Lent.{TurnsLent, turn_end_of}
use Rattle.wh_host.specs.Lying.{LiesAt}
use Rattle.wh_host.proofs.Spending.{within_turn}
use Rattle.wh_host.proofs.Turns.{Shown, shown_turn}
use Rattle.wh_host.proofs.Viewing.{represents_over, steps_alone, store_over, where_over}

-- ---- what a turn comes to there

-- no bytes are waited for
plain : (i : ℕ) (inst : Instance) (q : ℕ) (call : Call) (s : Space) (r : Rest) (d : Doing) (to : Upshot) (k n : ℕ) (s2 : Space) (r2 : Rest) (d2 : Doing) → ((need : Need) → to ≢ to_wait need) → ComesThere i inst q call s r d to k n s2 r2 d2 → ProceedsThere i inst q call s r d to k n s2 r2 d2
plain i inst q call s r d (to_end o) k n s2 r2 d2 never comes = comes
plain i inst q call s r d out_of_fuel k n s2 r2 d2 never comes = comes
plain i inst q call s r d (to_wait need) k n s2 r2 d2 never comes = absurd (never need refl)
plain i inst q call s r d to_go_on k n s2 r2 d2 never comes = comes

-- so it is a turn of n charges
record GoesThere (i : ℕ) (inst : Instance) (q2 : ℕ) (call : Call) (s : Space) (r : Rest) (d : Doing) (k n : ℕ) (s2 : Space) (r2 : Rest) (d2 : Doing) (answer : TurnOutcome) : Type 0 where
  to : Upshot
  proceeds : ProceedsThere i inst q2 call s r d to k n s2 r2 d2
  is_came : IsCame answer to

goes_there : (i : ℕ) (inst : Instance) (q q2 : ℕ) (call : Call) (s : Space) (r : Rest) (d : Doing) (to : Upshot) (k n : ℕ) (s2 : Space) (r2 : Rest) (d2 : Doing) (answer answer2 : TurnOutcome) → IsCame answer to → CameThere s2 i answer n q answer2 q2 → ComesThere i inst q call s r d to k n s2 r2 d2
    → GoesThere i inst q2 call s r d k n s2 r2 d2 answer2
goes_there i inst q q2 call s r d to k n s2 r2 d2 (came.Returned result) answer2 is (same, many) comes = search rules
goes_there i inst q q2 call s r d to k n s2 r2 d2 (came.Trapped trap) answer2 is (same, many) comes = search rules
goes_there i inst q q2 call s r d to k n s2 r2 d2 came.Fuel answer2 is (same, many) comes = search rules
goes_there i inst q q2 call s r d to k n s2 r2 d2 came.Again answer2 is (same, many) comes = search rules
goes_there i inst q q2 call s r d (to_wait other) k n s2 r2 d2 (came.Frame need) answer2 is (inl (ready, same, many)) comes = search rules
goes_there i inst q q2 call s r d (to_wait other) k n s2 r2 d2 (came.Frame need) answer2 is (inr (unready, same, many)) comes = search rules
goes_there i inst q q2 call s r d (to_end o) k n s2 r2 d2 (came.Frame need) answer2 is there comes = absurd is
goes_there i inst q q2 call s r d out_of_fuel k n s2 r2 d2 (came.Frame need) answer2 is there comes = absurd is
goes_there i inst q q2 call s r d to_go_on k n s2 r2 d2 (came.Frame need) answer2 is there comes = absurd is

pub came_same : (s : Space) (i : ℕ) (answer : TurnOutcome) (n q : ℕ) → ((need : Need) → answer ≢ came.Frame need) → CameThere s i answer n q answer q
came_same s i (came.Frame need) n q never = absurd (never need refl)
came_same s i (came.Returned result) n q never = (refl, refl)
came_same s i (came.Trapped trap) n q never = (refl, refl)
came_same s i came.Fuel n q never = (refl, refl)
came_same s i came.Again n q never = (refl, refl)

pub came_ready : (s : Space) (i : ℕ) (answer : TurnOutcome) (n q : ℕ) (need : Need) → answer ≡ came.Frame need → Ready s i need → CameThere s i answer n q came.Again n
came_ready s i answer n q need is ready = subst (λ a. CameThere s i a n q came.Again n) (sym is) (inl (ready, refl, refl))

pub came_unready : (s : Space) (i : ℕ) (answer : TurnOutcome) (n q : ℕ) (need : Need) → answer ≡ came.Frame need → ¬ (Ready s i need) → CameThere s i answer n q answer q
came_unready s i answer n q need is unready = subst (λ a. CameThere s i a n q a q) (sym is) (inr (unready, refl, refl))

-- it was a whole turn, or one that was cut short
pub whole_or_cut : (s : Space) (i : ℕ) (answer : TurnOutcome) (n q : ℕ) (answer2 : TurnOutcome) (q2 : ℕ) (end : TurnEnd) → n ≤ q → CameThere s i answer n q answer2 q2 → (answer2 ≡ came.Again → end ≡ turn_answer.Again) → IsWholeOrCut q q2 n end
whole_or_cut s i (came.Frame need) n q answer2 q2 end few (inl (ready, same, many)) again = inr (omega (arith, many, few), sym many, again same)
whole_or_cut s i (came.Frame need) n q answer2 q2 end few (inr (unready, same, many)) again = inl many
whole_or_cut s i (came.Returned result) n q answer2 q2 end few (same, many) again = inl many
whole_or_cut s i (came.Trapped trap) n q answer2 q2 end few (same, many) again = inl many
whole_or_cut s i came.Fuel n q answer2 q2 end few (same, many) again = inl many
whole_or_cut s i came.Again n q answer2 q2 end few (same, many) again = inl many

-- a call that can go on is answered so
pub again_end : (x : HostInstanceState) (k n : ℕ) (c : JournalCallState) (cs : List JournalCallState) (made : TurnResult) (x2 : HostInstanceState) (answer : TurnOutcome) → answer ≡ came.Again → IsFinished x answer k n c cs made x2 → turn_end_of made ≡ turn_answer.Again
again_end x k n c cs made x2 answer again done = search rules

-- one that can go on came to where it can
pub can_from : (s : Space) (i : ℕ) (answer : TurnOutcome) (n q : ℕ) (answer2 : TurnOutcome) (q2 : ℕ) (x : HostInstanceState) (still : Bool) → CameThere s i answer n q answer2 q2 → turn_end_of (answered x answer2 still) ≡ turn_answer.Again → CanGoOnFrom answer
can_from s i (came.Frame need) n q answer2 q2 x still there again = tt
can_from s i came.Again n q answer2 q2 x still there again = tt
can_from s i (came.Returned result) n q answer2 q2 x still (same, many) again = absurd (let bad = sym (ap (λ a. turn_end_of (answered x a still)) same) ∙ again in cc bad)
can_from s i (came.Trapped trap) n q answer2 q2 x still (same, many) again = absurd (let bad = sym (ap (λ a. turn_end_of (answered x a still)) same) ∙ again in cc bad)
can_from s i came.Fuel n q answer2 q2 x still (same, many) again = absurd (let bad = sym (ap (λ a. turn_end_of (answered x a still)) same) ∙ again in cc bad)

-- ---- one that has run

-- nothing is written yet
none_whole : (s : Space) (i : ℕ) (first u : OverlayPagesState) → first.pages ≡ [] → first.reads ≡ [] → first.grown ≡ 0 → first.taken ≡ 0 → IsWholeOver s i u → IsWholeOver s i first
none_whole s i first u none unread same taken (over, whole) = search rules

pub none_seen : (s : Space) (i : ℕ) (first : OverlayPagesState) → first.pages ≡ [] → first.reads ≡ [] → first.grown ≡ 0 → with_upper (view s i) first ≡ view s i
none_seen s i first none unread same = sym (none_laid s i first none unread same).sees

abbrev pub most_of : ℕ → Space → ℕ → ℕ
most_of limit s place = min limit (page_limit s place)

most_is : (l : LinkedState) (limit : ℕ) (s0 s : Space) (place : ℕ) (x : HostInstanceState) (t : Tenant) → LooksSame place s0 s → LiesAt l limit x s place t → most_of limit s0 place ≡ limit
most_is l limit s0 s place x t looks lies = min-eq_left (subst (λ (c : Option Claimed). limit ≤ limit_by c) looks.claim lies.within)

-- it is the instance that lies in the memory
pub over_none : (l : LinkedState) (limit : ℕ) (s0 s : Space) (place : ℕ) (x : HostInstanceState) (t : Tenant) (first : OverlayPagesState) → LooksSame place s0 s → LiesAt l limit x s place t → first.pages ≡ [] → first.reads ≡ [] → first.grown ≡ 0
    → RepresentsTenant (beside_setting l limit s0 place) x (memory_with s0 place limit first) t
over_none l limit s0 s place x t first looks lies none unread same = search (rules, none_seen, represents_over, most_is)

pub looks_itself : (i : ℕ) (s : Space) → LooksSame i s s
looks_itself i s = record { table = refl; sees = refl; claim = refl }

parts_of : (o : OverlayState) (s : Space) (i l : ℕ) (u : OverlayPagesState) → o.lower ≡ s → o.place ≡ i → o.page_limit ≡ l → o.upper ≡ u → o ≡ memory_with s i l u
parts_of o s i l u a b c d = rw (← a, ← b, ← c, ← d) refl

-- what is known of one that has run over it
pub ran_beside : (l : LinkedState) (limit q : ℕ) (s : Space) (place : ℕ) (x : HostInstanceState) (t : Tenant) (o o2 : OverlayState) (answer : TurnOutcome) (k n : ℕ) (x1 : HostInstanceState) (first u : OverlayPagesState) → IsAtTerm t → LiesAt l limit x s place t → o ≡ memory_with s place limit first → first.pages ≡ [] → first.grown ≡ 0 → first.taken ≡ 0 → first.reads ≡ []
    → IsOverSame o o2 → u ≡ o2.upper → IsWholeOver o2.lower o2.place u → StaysBut x x1 → AdvancesAny (setting_of l sees IsReadyOver IsOverSame (min o.page_limit (page_limit o.lower o.place))) q x o answer k n x1 o2 → RunsBeside l limit q s place x t answer k n x1 u
ran_beside l limit q s place x t o o2 answer k n x1 first u computes lies is none same taken unread keeps upper whole stays advances =
    let keeps2 = subst (λ (z : OverlayState). IsOverSame z o2) is keeps in
    let advances2 = subst (λ (z : OverlayState). AdvancesAny (setting_of l sees IsReadyOver IsOverSame (min z.page_limit (page_limit z.lower z.place))) q x z answer k n x1 o2) is advances in
    let is2 : o2 ≡ memory_with s place limit u = parts_of o2 s place limit u keeps2.lower keeps2.place keeps2.page_limit (sym upper) in
    record {
      computes = computes;
      first = first;
      no_pages = none;
      not_grown = same;
      none_taken = taken;
      no_reads = unread;
      lent = ap (λ (z : OverlayPagesState). z.lent) upper ∙ keeps2.lent;
      whole = subst (λ (z : OverlayState). IsWholeOver z.lower z.place u) is2 whole;
      stays = stays;
      advances = λ e es is_open. subst (λ z. AdvancesTenant (beside_setting l limit s place) q (memory_with s place limit first) t e es answer k n x1 z) is2
          (advances2 t e es is_open (over_none l limit s s place x t first (looks_itself place s) lies none unread same));
    }

-- it can begin there
pub may_run : (l : LinkedState) (limit : ℕ) (s : Space) (place : ℕ) (x : HostInstanceState) (t : Tenant) (o : OverlayState) (first : OverlayPagesState) → IsAtTerm t → LiesAt l limit x s place t → o ≡ memory_with s place limit first → first.pages ≡ [] → first.grown ≡ 0 → first.reads ≡ []
    → HasOpenCall (setting_of l sees IsReadyOver IsOverSame (min o.page_limit (page_limit o.lower o.place))) x o
may_run l limit s place x t o first computes lies is none same unread = (
  t,
  λ empty. (let bad = sym computes.calls ∙ empty in cc bad),
  subst (λ (z : OverlayState). RepresentsTenant (setting_of l sees IsReadyOver IsOverSame (min z.page_limit (page_limit z.lower z.place))) x z t) (sym is) (over_none l limit s s place x t first (looks_itself place s) lies none unread same),
)

module _ (l : LinkedState) (limit q : ℕ) (s0 s : Space) (place : ℕ) (x : HostInstanceState) (t : Tenant) (answer : TurnOutcome) (k n : ℕ) (x1 : HostInstanceState) (u : OverlayPagesState) (h : HasRun l limit q s0 s place x t answer k n x1 u) where
  least : most_of limit s0 place ≡ limit
  least = most_is l limit s0 s place x t h.looks h.lies

  over_first : RepresentsTenant (beside_setting l limit s0 place) x (memory_with s0 place limit h.runs.first) t
  over_first = over_none l limit s0 s place x t h.runs.first h.looks h.lies h.runs.no_pages h.runs.no_reads h.runs.not_grown

  pub can_finish : CanGoFurther x1.journal.open_calls k n
  can_finish =
      let c = h.runs.computes in
      may_finish (beside_setting l limit s0 place) q x x1 (memory_with s0 place limit h.runs.first) (memory_with s0 place limit u) t c.entry c.others answer k n over_first c.calls h.runs.stays (h.runs.advances c.entry c.others c.calls)

  pub whole_here : IsWholeOver s place u
  whole_here = whole_there s0 s place u h.looks h.runs.whole

  pub charges_few : n ≤ q
  charges_few =
      let c = h.runs.computes in
      within_turn c.entry.call (h.runs.advances c.entry c.others c.calls).proceeds

-- it is written back, and finished
pub record Finishing (l : LinkedState) (limit q : ℕ) (s0 s : Space) (place : ℕ) (x : HostInstanceState) (t : Tenant) (answer : TurnOutcome) (k n : ℕ) (x1 : HostInstanceState) (u : OverlayPagesState) (s2 : Space) (answer2 : TurnOutcome) (q2 : ℕ) (made : TurnResult) (x3 : HostInstanceState) : Type 0 where
  pub run : HasRun l limit q s0 s place x t answer k n x1 u
  pub sound : IsSound s
  pub laid : 1 ≤ n → IsLaid s place u s2
  pub left : n ≡ 0 → s2 ≡ s
  pub keeps : KeepsRest place s s2
  pub there : CameThere s2 place answer n q answer2 q2
  pub is_finished : (c : JournalCallState) (cs : List JournalCallState) → x1.journal.open_calls ≡ c ∷ cs → IsFinished x1 answer2 k n c cs made x3

module _ (l : LinkedState) (limit q : ℕ) (s0 s : Space) (place : ℕ) (x : HostInstanceState) (t : Tenant) (answer : TurnOutcome) (k n : ℕ) (x1 : HostInstanceState) (u : OverlayPagesState) (s2 : Space) (answer2 : TurnOutcome) (q2 : ℕ) (made : TurnResult) (x3 : HostInstanceState)
    (h : Finishing l limit q s0 s place x t answer k n x1 u s2 answer2 q2 made x3)
  where
    -- the setting of the whole
    abbrev all_setting : Setting Space
    all_setting = setting_of l (λ z. view z place) (λ z need. Ready z place need) (StepsAlone place) (most_of limit s0 place)

    represents : RepresentsTenant all_setting x s t
    represents =
        represents_over (linked_parts l) (most_of limit s0 place) (λ b. b) (λ b need. Unit {0}) (λ b b2. Unit {0}) (λ z. view z place) (λ z need. Ready z place need) (StepsAlone place) (view s place) s refl x t
        (subst (λ z. IsTenant l z x (view s place) t) (sym (least l limit q s0 s place x t answer k n x1 u h.run)) h.run.lies.is)

    by_bytes : (t2 : Tenant) → RepresentsTenant all_setting x3 s2 t2 → IsTenant l limit x3 (view s2 place) t2
    by_bytes t2 rep =
        subst (λ z. IsTenant l z x3 (view s2 place) t2) (least l limit q s0 s place x t answer k n x1 u h.run)
        (represents_over (linked_parts l) (most_of limit s0 place) (λ z. view z place) (λ z need. Ready z place need) (StepsAlone place) (λ b. b) (λ b need. Unit {0}) (λ b b2. Unit {0}) s2 (view s2 place) refl x3 t2 rep)

    -- what was written is written back, also where nothing was
    laid_there : (e : Entry) (es : List Entry) → t.open_calls ≡ e ∷ es → IsLaid s place u s2
    laid_there e es is_open =
        let runs = h.run.runs in
        let a = runs.advances e es is_open in
        let doing = runs.computes.doing in
        elim (cases_lt 0 n) [
          | inl some ↦ h.laid (omega (arith, some))
          | inr most ↦ (
              let none : n ≡ 0 = omega (arith, most) in
              let goes = subst (λ d. Proceeds sees IsReadyOver IsOverSame t.inst q e.call (memory_with s0 place limit runs.first) t.rest d a.to k n (memory_with s0 place limit u) a.rest a.doing) doing a.proceeds in
              let same : u ≡ runs.first = ap (λ (o : OverlayState). o.upper) (proceeds_none none goes) in
              let pages : u.pages ≡ [] = ap (λ (z : OverlayPagesState). z.pages) same ∙ runs.no_pages in
              let reads : u.reads ≡ [] = ap (λ (z : OverlayPagesState). z.reads) same ∙ runs.no_reads in
              let grown : u.grown ≡ 0 = ap (λ (z : OverlayPagesState). z.grown) same ∙ runs.not_grown in
              subst (IsLaid s place u) (sym (h.left none)) (none_laid s place u pages reads grown))
        ]

    laying : (e : Entry) (es : List Entry) → t.open_calls ≡ e ∷ es → Laying s0 s place (memory_with s0 place limit h.run.runs.first) (memory_with s0 place limit u) n s s2
    laying e es is_open =
        let runs = h.run.runs in
        record {
          looks = h.run.looks;
          sound = h.sound;
          lies = record { lower = refl; place = refl; lent = (let few = h.run.frames in let lent = runs.lent in omega (arith, few, lent)); whole = none_whole s0 place runs.first u runs.no_pages runs.no_reads runs.not_grown runs.none_taken runs.whole };
          first = none_laid s place runs.first runs.no_pages runs.no_reads runs.not_grown;
          last = laid_there e es is_open;
          none = h.left;
        }

    advances : (e : Entry) (es : List Entry) → t.open_calls ≡ e ∷ es → AdvancesTenant all_setting q2 s t e es answer2 k n x1 s2
    advances e es is_open =
        let runs = h.run.runs in
        let a = runs.advances e es is_open in
        let c = runs.computes in
        let goes = subst (λ d. Proceeds sees IsReadyOver IsOverSame t.inst q e.call (memory_with s0 place limit runs.first) t.rest d a.to k n (memory_with s0 place limit u) a.rest a.doing) c.doing a.proceeds in
        let comes : ComesThere place t.inst q e.call s t.rest (computing c.term) a.to k n s2 a.rest a.doing = proceeds_laid s0 s place s s2 (laying e es is_open) goes in
        let g = goes_there place t.inst q q2 e.call s t.rest (computing c.term) a.to k n s2 a.rest a.doing answer answer2 a.is_came h.there comes in
        let last = laid_there e es is_open in
        let seen : view s2 place ≡ sees (memory_with s0 place limit u) = last.sees ∙ ap (λ b. with_upper b u) h.run.looks.sees in
        record {
          to = g.to;
          rest = a.rest;
          doing = a.doing;
          proceeds = subst (λ d. ProceedsThere place t.inst q2 e.call s t.rest d g.to k n s2 a.rest a.doing) (sym c.doing) g.proceeds;
          is_came = g.is_came;
          store = store_over (linked_parts l) (most_of limit s0 place) sees IsReadyOver IsOverSame (λ z. view z place) (λ z need. Ready z place need) (StepsAlone place) (memory_with s0 place limit u) s2 seen x1.store t.inst a.rest a.store;
          begun = a.begun;
          is_where = λ some. where_over (linked_parts l) (most_of limit s0 place) sees IsReadyOver IsOverSame (λ z. view z place) (λ z need. Ready z place need) (StepsAlone place) (memory_with s0 place limit u) s2 seen x1 t.inst a.rest a.doing (gone_further e k n ∷ es) (a.is_where some);
          few_pieces = a.few_pieces;
          in_fuel = a.in_fuel;
        }

    turns : (e : Entry) (es : List Entry) → t.open_calls ≡ e ∷ es → (is : TurnsTenant all_setting q2 s t e es made n x3 s2) × ProceedsIn q2 s t e is.to is.pieces n s2 is.rest is.doing
    turns e es is_open =
        let is = finishes all_setting q2 x x1 s s2 t e es answer2 k n made x3 represents is_open h.run.runs.stays (advances e es is_open) h.is_finished in
        (is, subst (λ i. ProceedsThere i t.inst q2 e.call s t.rest t.doing is.to is.pieces n s2 is.rest is.doing) (sym h.run.lies.place_is) is.proceeds)

    shown : Shown all_setting l limit q2 x x3 s s2 s s2 place t made n
    shown = record {
      lies = h.run.lies;
      steps = steps_alone place s s2 h.sound h.keeps;
      sees = refl;
      sees2 = refl;
      ready = λ need is. is;
      same = λ e. e;
      by_bytes = by_bytes;
      turns = turns;
    }

    pub finished_turn : TurnsLent l limit q2 s t place x3 s2 made n
    finished_turn =
        shown_turn all_setting l limit q2 x x3 s s2 s s2 place t made n shown (λ none. let bad = sym h.run.runs.computes.calls ∙ none in cc bad)
