-- What a call comes to over a memory, it comes to in the memory itself, once what was written is written back.
use Rattle.std.proofs.Common.{◌≡◌, ◌∙◌, inl, inr, ℕ, ◌/◌, ◌≤◌, [], length, reverse, slice_get, zero, suc, refl, sym, ap, subst, arith, rules}
use Rattle.wh_model.specs.declared.memory.Need.{Need}
use Rattle.wh_model.specs.Format.{nothing}
use Rattle.wh_model.specs.Execution.Store.{Instance}
use Rattle.wh_model.specs.Execution.{Term, code, Config, config, trapped, After, IsNext, Asks, Call, Takes, took_all, took}
use Rattle.wh_model.proofs.Asked.{one_need}
use Rattle.wh_host_model.specs.Host.{StepsAlone, Opens, as_it_was, Computes, Upshot, Proceeds, returns, traps, writes_all, uses_fuel, waits, waits_to_write, has_had_its_turn, Rest, Doing, computing, store_with}
use Rattle.wh_space_model.specs.{Space, view, IsAtHand, IsSound, page_at}
use Rattle.wh_space_model.specs.Ready.{Ready}
use Rattle.wh_overlay.specs.LaidPages.{OverlayPagesState, with_upper}
use Rattle.wh_overlay.specs.LaidBack.{ComesThere, IsLaid, LiesOver, LooksSame}
use Rattle.wh_overlay.specs.Over.{CanRead, CanStepOver, IsOverSame, IsReadyOver, IsThereToRead, IsWholeOver, OverlayState, sees}
use Rattle.wh_overlay.proofs.SomeLaid.{laid_ready, some_laid}

-- ---- another memory that is as good

page_same : (s s2 : Space) (i p : ℕ) → LooksSame i s s2 → page_at s2.tables i p ≡ page_at s.tables i p
page_same s s2 i p looks = ap (λ row. slice_get row p) looks.table

there_still : (s s2 : Space) (i : ℕ) (u : OverlayPagesState) (p : ℕ) → LooksSame i s s2 → IsThereToRead s i u p → IsThereToRead s2 i u p
there_still s s2 i u p looks (inl hand) = inl (subst IsAtHand (sym (page_same s s2 i p looks)) hand)
there_still s s2 i u p looks (inr come) = let long = ap length looks.table in inr (omega (arith, long, come.0), omega (arith, long, come.1))

pub whole_there : (s s2 : Space) (i : ℕ) (u : OverlayPagesState) → LooksSame i s s2 → IsWholeOver s i u → IsWholeOver s2 i u
whole_there s s2 i u looks (over, whole) = search rules

read_there : (s s2 : Space) (i : ℕ) (u : OverlayPagesState) (p : ℕ) → LooksSame i s s2 → CanRead s i u p → CanRead s2 i u p
read_there s s2 i u p looks (inl among) = inl among
read_there s s2 i u p looks (inr (less, there)) = inr (less, there_still s s2 i u p looks there)

step_there : (s s2 : Space) (i : ℕ) (u : OverlayPagesState) (need : Need) → LooksSame i s s2 → CanStepOver s i u need → CanStepOver s2 i u need
step_there s s2 i u need looks (inl none) = inl none
step_there s s2 i u need looks (inr (within, can)) = search rules

-- ---- between two memories in which it is written back

steps_between : (s a b : Space) (i : ℕ) (u v : OverlayPagesState) → IsSound s → IsLaid s i u a → IsLaid s i v b → StepsAlone i a b
steps_between s a b i u v sound first second = search rules

-- ---- over the memory

over_next : (s : Space) (i : ℕ) {frames : ℕ} (o p : OverlayState) → LiesOver s i frames o → IsOverSame o p → LiesOver s i frames p
over_next s i o p lies same = search rules

over_sees : (s base : Space) (i : ℕ) {frames : ℕ} (o : OverlayState) → LooksSame i s base → LiesOver s i frames o → sees o ≡ with_upper (view base i) o.upper
over_sees s base i o looks lies = search rules

over_ready : (s base : Space) (i : ℕ) (o : OverlayState) (s2 : Space) (need : Need) → LooksSame i s base → IsSound base → LiesOver s i (length base.pool.free) o → IsLaid base i o.upper s2 → IsReadyOver o need → Ready s2 i need
over_ready s base i o s2 need looks sound lies laid ready = search (rules, whole_there, laid_ready, step_there)

-- ---- charges

no_takes : {inst : Instance} {m m2 : OverlayState} {c c2 : Config} {n : ℕ} → Takes sees IsReadyOver IsOverSame inst m c n m2 c2 → n ≡ 0 → m2 ≡ m
no_takes took_all none = refl
no_takes (took now one new steps rest) none = absurd (cc none)

takes_over : (s : Space) (i : ℕ) {frames : ℕ} {inst : Instance} {m m2 : OverlayState} {c c2 : Config} {n : ℕ} → LiesOver s i frames m → Takes sees IsReadyOver IsOverSame inst m c n m2 c2 → LiesOver s i frames m2
takes_over s i lies took_all = lies
takes_over s i {m = m} lies (took {mid = mid} now one new steps rest) = takes_over s i (over_next s i m mid lies steps) rest

-- a memory for what is written meanwhile: the last one, where no charge is left
middle : (s base : Space) (i : ℕ) (end : Space) {inst : Instance} {m m2 : OverlayState} {c c2 : Config} (n : ℕ) → LooksSame i s base → IsSound base → LiesOver s i (length base.pool.free) m → IsLaid base i m2.upper end → Takes sees IsReadyOver IsOverSame inst m c n m2 c2
    → (z : Space) × IsLaid base i m.upper z × (n ≡ 0 → end ≡ z)
middle s base i end zero looks sound lies last rest = (end, subst (λ (o : OverlayState). IsLaid base i o.upper end) (no_takes rest refl) last, λ none. refl)
middle s base i end {m = m} (suc n) looks sound lies last rest =
    let some = some_laid base i m.upper sound (whole_there s base i m.upper looks lies.whole) lies.lent in
    (some.0, some.1, λ none. absurd (cc none))

takes_laid : (s base : Space) (i : ℕ) → LooksSame i s base → IsSound base → {inst : Instance} {m m2 : OverlayState} {c c2 : Config} {n : ℕ} → LiesOver s i (length base.pool.free) m → Takes sees IsReadyOver IsOverSame inst m c n m2 c2
    → (start end : Space) → IsLaid base i m.upper start → IsLaid base i m2.upper end → (n ≡ 0 → end ≡ start) → Takes (λ x. view x i) (λ x. Ready x i) (StepsAlone i) inst start c n end c2
takes_laid s base i looks sound {inst = inst} {c = c} lies took_all start end first last none =
    subst (λ z. Takes (λ x. view x i) (λ x. Ready x i) (StepsAlone i) inst start c 0 z c) (sym (none refl)) took_all
takes_laid s base i looks sound {m = m} {m2 = m2} lies (took {mid = mid} {n = n} now one new steps rest) start end first last none =
    let next = over_next s i m mid lies steps in
    let z = middle s base i end n looks sound next last rest in
    took (λ need asks. over_ready s base i m start need looks sound lies first (now need asks)) one (z.1.sees ∙ sym (over_sees s base i mid looks next) ∙ new) (steps_between base start z.0 i m.upper mid.upper sound first z.1)
    (takes_laid s base i looks sound next rest z.0 end z.1 last z.2)

-- ---- the whole turn

opens_same : {inst : Instance} {call : Call} {m m1 : OverlayState} {r : Rest} {term : Term} {k : ℕ} {c : Config} (i : ℕ) (start : Space) → sees m ≡ view start i → Opens sees IsReadyOver IsOverSame inst call m r (computing term) k m1 c
    → (m1 ≡ m) × Opens (λ x. view x i) (λ x. Ready x i) (StepsAlone i) inst call start r (computing term) k start c
opens_same {inst = inst} {r = r} i start same (as_it_was {term = term} {c1 = c1} after) = (refl, as_it_was (subst (λ b. After inst (config (store_with b r) [] term) 0 c1) same after))

-- over one memory, and written back into another one that is as good
pub record Laying (s base : Space) (i : ℕ) (m m2 : OverlayState) (n : ℕ) (start end : Space) : Type 0 where
  pub looks : LooksSame i s base
  pub sound : IsSound base
  pub lies : LiesOver s i (length base.pool.free) m
  pub first : IsLaid base i m.upper start
  pub last : IsLaid base i m2.upper end
  pub none : n ≡ 0 → end ≡ start

computes_laid : (s base : Space) (i : ℕ) (start end : Space) {inst : Instance} {q k n : ℕ} {call : Call} {m m2 : OverlayState} {r : Rest} {term : Term} {c : Config} → Laying s base i m m2 n start end → Computes sees IsReadyOver IsOverSame inst q call m r (computing term) k n m2 c
    → LiesOver s i (length base.pool.free) m2 × ((q2 : ℕ) → n ≤ q2 → Computes (λ x. view x i) (λ x. Ready x i) (StepsAlone i) inst q2 call start r (computing term) k n end c)
computes_laid s base i start end {inst = inst} {m = m} h x =
    let seen : sees m ≡ view start i = over_sees s base i m h.looks h.lies ∙ sym h.first.sees in
    let o = opens_same i start seen x.opens in
    let lies = subst (LiesOver s i (length base.pool.free)) (sym o.0) h.lies in
    let first = subst (λ (z : OverlayState). IsLaid base i z.upper start) (sym o.0) h.first in (
      takes_over s i lies x.takes,
      λ q2 few. record {
        between = start;
        opened = x.opened;
        opens = o.1;
        takes = takes_laid s base i h.looks h.sound lies x.takes start end first h.last h.none;
        in_turn = few;
        in_fuel = x.in_fuel;
      },
    )

-- ---- a turn without charges

computes_none : {inst : Instance} {q k n : ℕ} {call : Call} {m m2 : OverlayState} {r : Rest} {term : Term} {c : Config} → n ≡ 0 → Computes sees IsReadyOver IsOverSame inst q call m r (computing term) k n m2 c → m2 ≡ m
computes_none none x = search rules

pub proceeds_none : {inst : Instance} {q k n : ℕ} {call : Call} {m m2 : OverlayState} {r r2 : Rest} {term : Term} {d2 : Doing} {to : Upshot} → n ≡ 0 → Proceeds sees IsReadyOver IsOverSame inst q call m r (computing term) to k n m2 r2 d2 → m2 ≡ m
proceeds_none none (returns x typed) = computes_none none x
proceeds_none none (traps x) = computes_none none x
proceeds_none none (writes_all d func w) = absurd (cc d)
proceeds_none none (uses_fuel x next all) = computes_none none x
proceeds_none none (waits x next some asks never) = computes_none none x
proceeds_none none (waits_to_write d w never) = absurd (cc d)
proceeds_none none (has_had_its_turn x next all some at_hand) = computes_none none x

-- ---- the whole turn, written back

-- so a turn over a memory comes there to what it has come to
pub proceeds_laid : (s base : Space) (i : ℕ) (start end : Space) {inst : Instance} {q k n : ℕ} {call : Call} {m m2 : OverlayState} {r r2 : Rest} {term : Term} {d2 : Doing} {to : Upshot} → Laying s base i m m2 n start end → Proceeds sees IsReadyOver IsOverSame inst q call m r (computing term) to k n m2 r2 d2
    → ComesThere i inst q call start r (computing term) to k n end r2 d2
proceeds_laid s base i start end {inst = inst} {q = q} {k = k} {n = n} {call = call} {m2 = m2} {r = r} {term = term} h (returns {r2 = r2} {vs = vs} x typed) =
    let y = computes_laid s base i start end h x in
    let e = over_sees s base i m2 h.looks y.0 ∙ sym h.last.sees in
    returns (subst (λ b. Computes (λ x. view x i) (λ x. Ready x i) (StepsAlone i) inst q call start r (computing term) k n end (config (store_with b r2) [] (code (reverse vs) nothing))) e (y.1 q x.in_turn)) typed
proceeds_laid s base i start end {inst = inst} {q = q} {k = k} {n = n} {call = call} {m2 = m2} {r = r} {term = term} h (traps {r2 = r2} {x = trap} x) =
    let y = computes_laid s base i start end h x in
    let e = over_sees s base i m2 h.looks y.0 ∙ sym h.last.sees in
    traps (subst (λ b. Computes (λ x. view x i) (λ x. Ready x i) (StepsAlone i) inst q call start r (computing term) k n end (trapped (store_with b r2) trap)) e (y.1 q x.in_turn))
proceeds_laid s base i start end h (writes_all d func w) = absurd (cc d)
proceeds_laid s base i start end {inst = inst} {q = q} {k = k} {n = n} {call = call} {m2 = m2} {r = r} {term = term} h (uses_fuel {r2 = r2} {term = there} x next all) =
    let y = computes_laid s base i start end h x in
    let e = over_sees s base i m2 h.looks y.0 ∙ sym h.last.sees in
    uses_fuel (subst (λ b. Computes (λ x. view x i) (λ x. Ready x i) (StepsAlone i) inst q call start r (computing term) k n end (config (store_with b r2) [] there)) e (y.1 q x.in_turn))
    (subst (λ b. IsNext inst (config (store_with b r2) [] there)) e next) all
proceeds_laid s base i start end {inst = inst} {q = q} {k = k} {n = n} {call = call} {m2 = m2} {r = r} {term = term} h (waits {r2 = r2} {term = there} {need = need} x next some asks never) =
    let y = computes_laid s base i start end h x in
    let e = over_sees s base i m2 h.looks y.0 ∙ sym h.last.sees in
    let goes : (q2 : ℕ) → n ≤ q2 → Computes (λ x. view x i) (λ x. Ready x i) (StepsAlone i) inst q2 call start r (computing term) k n end (config (store_with (view end i) r2) [] there) =
    λ q2 few. subst (λ b. Computes (λ x. view x i) (λ x. Ready x i) (StepsAlone i) inst q2 call start r (computing term) k n end (config (store_with b r2) [] there)) e (y.1 q2 few) in
    let next2 = subst (λ b. IsNext inst (config (store_with b r2) [] there)) e next in
    let asks2 = subst (λ b. Asks inst (config (store_with b r2) [] there) need) e asks in (
      λ ready. has_had_its_turn (goes n (omega arith)) next2 refl some (λ want wanted. subst (Ready end i) (one_need inst (config (store_with (view end i) r2) [] there) need want asks2 wanted) ready),
      λ unready. waits (goes q x.in_turn) next2 some asks2 unready,
    )
proceeds_laid s base i start end h (waits_to_write d w never) = absurd (cc d)
proceeds_laid s base i start end {inst = inst} {q = q} {k = k} {n = n} {call = call} {m2 = m2} {r = r} {term = term} h (has_had_its_turn {r2 = r2} {term = there} x next all some at_hand) =
    let y = computes_laid s base i start end h x in
    let e = over_sees s base i m2 h.looks y.0 ∙ sym h.last.sees in
    has_had_its_turn (subst (λ b. Computes (λ x. view x i) (λ x. Ready x i) (StepsAlone i) inst q call start r (computing term) k n end (config (store_with b r2) [] there)) e (y.1 q x.in_turn))
    (subst (λ b. IsNext inst (config (store_with b r2) [] there)) e next) all some
    (λ need asks. over_ready s base i m2 end need h.looks h.sound y.0 h.last (at_hand need (subst (λ b. Asks inst (config (store_with b r2) [] there) need) (sym e) asks)))
