-- Turns beside others that took no charge stopped where what comes next can't be reached.
use Rattle.std.proofs.Common.{⊎_elim, ◌≡◌, ◌∙◌, ◌⊎◌, inl, inr, ℕ, suc, ◌+◌, ◌-◌, ◌*◌, ◌≤◌, true, List, [], Option, Some, slice_get, refl, sym, ap, subst, arith, rules}
use Rattle.std.proofs.Math.Nat.{one-mul, suc-mul}
use Rattle.wh_model.specs.declared.memory.Need.{Need}
use Rattle.wh_model.specs.Execution.{Asks, Config, Term, config, After, Call, Takes, took_all, took}
use Rattle.wh_model.specs.Execution.Store.{Instance}
use Rattle.wh_space_model.specs.declared.plain.InstId.{InstId}
use Rattle.wh_host_model.specs.Host.{Computes, Upshot, to_end, out_of_fuel, to_wait, to_go_on, Proceeds, returns, traps, writes_all, uses_fuel, waits, waits_to_write, has_had_its_turn, Doing, Rest, Tenant, World, computing, store_with, tenant}
use Rattle.wh_space_model.specs.{Space, view}
use Rattle.wh_instance.specs.Bursts.{AreUsed}
use Rattle.wh_instance.specs.Tenancy.{HostInstanceState}
use Rattle.wh_instance.specs.Turned.{IsCame}
use Rattle.wh_instance.specs.declared.computing.TurnOutcome.{TurnOutcome}
use Rattle.wh_instance.specs.declared.computing.TurnOutcome.TheVariants as came
use Rattle.wh_imports.specs.LinkedState.{LinkedState}
use Rattle.wh_overlay.specs.LaidPages.{OverlayPagesState}
use Rattle.wh_overlay.specs.Over.{CanStepOver, IsOverSame, IsReadyOver, OverlayState, sees}
use Rattle.wh_host.specs.declared.parts.InstanceEntry.{InstanceEntry}
use Rattle.wh_host.specs.declared.rounds.Runner.{Runner}
use Rattle.wh_host.specs.declared.rounds.SeriesEnd.{SeriesEnd}
use Rattle.wh_host.specs.Beside.{CanGoOnFrom, RunsBeside, with_nothing, memory_with}
use Rattle.wh_host.specs.Hosting.{HostState, IsHost}
use Rattle.wh_host.specs.Joining.{HasAnswer, HaveRun, series_end}
use Rattle.wh_host.specs.Rounds.{EachTakesSome, IsOutOfReach}
use Rattle.wh_host.proofs.BesideTurns.{none_seen}
use Rattle.wh_host.proofs.Hosts.{found, lies_here}
use Rattle.wh_host.proofs.RunnerLists.{taken_or}

-- ---- one that stopped

-- it came to bytes that aren't ready, or took all its charges
only : (answer : TurnOutcome) (to : Upshot) → IsCame answer to → CanGoOnFrom answer → (to ≡ to_go_on) ⊎ ((need : Need) × (to ≡ to_wait need))
only (came.Frame need) (to_wait other) is can = inr (other, refl)
only (came.Frame need) (to_end o) is can = absurd is
only (came.Frame need) out_of_fuel is can = absurd is
only (came.Frame need) to_go_on is can = absurd is
only came.Again to_go_on is can = inl refl
only came.Again (to_end o) is can = absurd is
only came.Again out_of_fuel is can = absurd is
only came.Again (to_wait need) is can = absurd is
only (came.Returned result) to is can = absurd can
only (came.Trapped trap) to is can = absurd can
only came.Fuel to is can = absurd can

-- no charge was taken before these bytes
record Stopped (inst : Instance) (m : OverlayState) (r : Rest) (term : Term) (m2 : OverlayState) : Type 0 where
  same : m2 ≡ m
  rest : Rest
  next : Term
  need : Need
  after : After inst (config (store_with (sees m) r) [] term) 0 (config (store_with (sees m2) rest) [] next)
  asks : Asks inst (config (store_with (sees m2) rest) [] next) need
  never : ¬ (IsReadyOver m2 need)

takes_none : {inst : Instance} {m m2 : OverlayState} {c c2 : Config} {n : ℕ} → Takes sees IsReadyOver IsOverSame inst m c n m2 c2 → n ≡ 0 → (m2 ≡ m) × (c2 ≡ c)
takes_none took_all none = (refl, refl)
takes_none (took now one is kept rest) none = absurd (cc none)

computes_none : {inst : Instance} {q k n : ℕ} {call : Call} {m m2 : OverlayState} {r : Rest} {term : Term} {c : Config} → n ≡ 0 → Computes sees IsReadyOver IsOverSame inst q call m r (computing term) k n m2 c → (m2 ≡ m) × After inst (config (store_with (sees m) r) [] term) 0 c
computes_none {inst = inst} {m = m} {r = r} {term = term} none x = search rules

stopped : {inst : Instance} {q k n : ℕ} {call : Call} {m m2 : OverlayState} {r r2 : Rest} {term : Term} {d2 : Doing} {to : Upshot} → n ≡ 0 → 1 ≤ q → (to ≡ to_go_on) ⊎ ((need : Need) × (to ≡ to_wait need)) → Proceeds sees IsReadyOver IsOverSame inst q call m r (computing term) to k n m2 r2 d2 → Stopped inst m r term m2
stopped none some to (waits {r2 = r2} {term = there} {need = need} x next left asks never) =
    let o = computes_none none x in
    record { same = o.0; rest = r2; next = there; need = need; after = o.1; asks = asks; never = never }
stopped none some to (has_had_its_turn x next all left ready) = absurd (omega (arith, none, some, all))
stopped none some (inl e) (returns x typed) = absurd (cc e)
stopped none some (inr e) (returns x typed) = absurd (let bad = e.1 in cc bad)
stopped none some (inl e) (traps x) = absurd (cc e)
stopped none some (inr e) (traps x) = absurd (let bad = e.1 in cc bad)
stopped none some (inl e) (uses_fuel x next all) = absurd (cc e)
stopped none some (inr e) (uses_fuel x next all) = absurd (let bad = e.1 in cc bad)
stopped none some to (writes_all d func w) = absurd (cc d)
stopped none some to (waits_to_write d w never) = absurd (cc d)

-- ---- room in which nothing lies

with_nothing_same : (u : OverlayPagesState) → u.pages ≡ [] → u.reads ≡ [] → u.grown ≡ 0 → u.taken ≡ 0 → with_nothing u ≡ u
with_nothing_same u pages reads grown taken = search rules

pub out_of_reach : (l : LinkedState) (limit q : ℕ) (s : Space) (place : ℕ) (x : HostInstanceState) (t : Tenant) (answer : TurnOutcome) (k n : ℕ) (x1 : HostInstanceState) (u : OverlayPagesState) → RunsBeside l limit q s place x t answer k n x1 u → t.place ≡ place → n ≡ 0 → 1 ≤ q → CanGoOnFrom answer
    → IsOutOfReach s t (with_nothing u)
out_of_reach l limit q s place x t answer k n x1 u runs at none some can =
    let c = runs.computes in
    let a = runs.advances c.entry c.others c.calls in
    let goes = subst (λ d. Proceeds sees IsReadyOver IsOverSame t.inst q c.entry.call (memory_with s place limit runs.first) t.rest d a.to k n (memory_with s place limit u) a.rest a.doing) c.doing a.proceeds in
    let z = stopped none some (only answer a.to a.is_came can) goes in
    let same : u ≡ runs.first = ap (λ (o : OverlayState). o.upper) z.same in
    let seen : sees (memory_with s place limit runs.first) ≡ view s place = none_seen s place runs.first runs.no_pages runs.no_reads runs.not_grown in
    let seen2 : sees (memory_with s place limit u) ≡ view s place = ap sees z.same ∙ seen in
    let room : with_nothing u ≡ u = with_nothing_same u (ap (λ (v : OverlayPagesState). v.pages) same ∙ runs.no_pages) (ap (λ (v : OverlayPagesState). v.reads) same ∙ runs.no_reads) (ap (λ (v : OverlayPagesState). v.grown) same ∙ runs.not_grown) (ap (λ (v : OverlayPagesState). v.taken) same ∙ runs.none_taken) in
    let here : (i : ℕ) → i ≡ place → view s i ≡ view s place = λ i e. ap (view s) e in
    record {
      term = c.term;
      rest = z.rest;
      next = z.next;
      need = z.need;
      doing = c.doing;
      after = subst (λ b. After t.inst (config (store_with b t.rest) [] c.term) 0 (config (store_with (view s t.place) z.rest) [] z.next)) (seen ∙ sym (here t.place at))
          (subst (λ b. After t.inst (config (store_with (sees (memory_with s place limit runs.first)) t.rest) [] c.term) 0 (config (store_with b z.rest) [] z.next)) (seen2 ∙ sym (here t.place at)) z.after);
      asks = subst (λ b. Asks t.inst (config (store_with b z.rest) [] z.next) z.need) (seen2 ∙ sym (here t.place at)) z.asks;
      never = λ reach. z.never (subst (λ v. CanStepOver s place v z.need) room (subst (λ i. CanStepOver s i (with_nothing u) z.need) at reach));
    }

-- ---- all of a round

least_in_all : (q turns n : ℕ) → AreUsed q turns n → 1 ≤ q → 1 ≤ turns * q
least_in_all q turns n (inl one) some = let all : turns * q ≡ q = ap (λ i. i * q) one ∙ one-mul q in omega (arith, all, some)
least_in_all q turns n (inr (least, two, used)) some =
    let m = turns - 1 in
    let is : suc m ≡ turns = omega (arith, two) in
    let grows : turns * q ≡ m * q + q = ap (λ i. i * q) (sym is) ∙ suc-mul m q in
    omega (arith, grows, some)

one_series : (a b : SeriesEnd) → Some a ≡ Some b → a ≡ b
one_series a b e = cc e

one_tenant : (a b : Tenant) → Some a ≡ Some b → a ≡ b
one_tenant a b e = cc e

pub each_takes_some : (h : HostState) (w : World) (q most : ℕ) (F : List (Option InstanceEntry)) (m : Space) (ys ys2 : List Runner) → IsHost h w → 1 ≤ q → HaveRun h.modules q most h.entries h.space F m ys
    → ((k : ℕ) (y2 : Runner) → slice_get ys2 k ≡ Some y2 → (y : Runner) × (slice_get ys k ≡ Some y) × HasAnswer y y2) → EachTakesSome w ys2
each_takes_some h w q most F m ys ys2 st some run answers k y2 there made t answered again none live =
    let a = answers k y2 there in
    ⊎_elim (λ sits. when_taken a.0 a.1 a.2 sits) (λ gone. absurd (let r = run.rest k a.0 a.1 gone in let bad = sym answered ∙ a.2.2 gone ∙ r.1 in cc bad)) (taken_or a.0)
  where
    when_taken : (y : Runner) → slice_get ys k ≡ Some y → HasAnswer y y2 → y.taken ≡ true → (u : OverlayPagesState) × (y2.upper ≡ Some u) × IsOutOfReach w.space t u
    when_taken y at has sits =
        let p = has.1 sits in
        let same : series_end y.ran p.0 ≡ made = one_series (series_end y.ran p.0) made (sym p.1 ∙ answered) in
        let charges : y.ran.charges ≡ 0 = ap (λ (z : SeriesEnd). z.charges) same ∙ none in
        let can : CanGoOnFrom y.ran.came = p.2 (ap (λ (z : SeriesEnd). z.end) same ∙ again) in
        let o = run.out.each k y at sits in
        let x = o.entry in
        let so = o.so in
        let f = found h w y.id.place y.id.number x st o.was o.number in
        let loaded = f.is.loaded in
        let l = lies_here h w y.id.place y.id.number x loaded st o.was o.number f.is.is_loaded in
        let lies = l.2 in
        let runs = so.3 loaded f.is.is_loaded l.0 lies in
        let reach = out_of_reach loaded.linked x.page_limit (y.ran.turns * q) h.space y.id.place x.tenant l.0 y.ran.came y.ran.pieces y.ran.charges y.tenant so.0 runs lies.place_is charges (least_in_all q y.ran.turns y.ran.charges so.2.1 some) can in
        let one : l.0 ≡ t = one_tenant l.0 t (sym l.1 ∙ ap (λ (i : InstId). tenant w i.number) (sym has.0) ∙ live.0) in
        (with_nothing so.0, p.3 so.0 so.1, subst (λ s. IsOutOfReach s t (with_nothing so.0)) st.space (subst (λ z. IsOutOfReach h.space z (with_nothing so.0)) one reach))
