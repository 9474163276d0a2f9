-- The turns of those at the runners of a round, finished one after the other.
use Rattle.std.proofs.Common.{⊎_elim, ◌≡◌, ◌≢◌, ◌∙◌, inl, inr, ℕ, ◌+◌, ◌*◌, ◌<◌, ◌≤◌, true, false, List, [], ◌∷◌, ◌++◌, Option, Some, None, length, cond, take, slice_get, slice_index_or, slice_set, zero, suc, refl, sym, ap, subst, arith}
use Rattle.std.proofs.lemmas.Bool.{cases_eq, cases_lt}
use Rattle.wh_space_model.specs.declared.plain.InstId.{InstId}
use Rattle.wh_host_model.specs.Host.{Tenant, World}
use Rattle.wh_space_model.specs.{Claimed, Space, view}
use Rattle.wh_instance.specs.Seen.{IsAtTerm}
use Rattle.wh_instance.specs.Tenancy.{HostInstanceState, IsTenant}
use Rattle.wh_overlay.specs.LaidBack.{LooksSame}
use Rattle.wh_space_model.proofs.Putting.{set_other}
use Rattle.wh_overlay.proofs.Marks.{set_there}
use Rattle.wh_imports.specs.LinkedState.{LinkedState}
use Rattle.wh_space.specs.Steps.{limit_by}
use Rattle.wh_host.specs.declared.parts.LoadedModule.{LoadedModule}
use Rattle.wh_host.specs.declared.parts.InstanceEntry.{InstanceEntry}
use Rattle.wh_host.specs.declared.rounds.Runner.{Runner}
use Rattle.wh_host.specs.declared.rounds.SeriesEnd.{SeriesEnd}
use Rattle.wh_host.specs.Backing.{KeepsBacking}
use Rattle.wh_host.specs.Beside.{HasRun, RunsBeside}
use Rattle.wh_host.specs.Hosting.{HostState, IsHost, entry_at, module_in}
use Rattle.wh_host.specs.Left.{LeavesTurned}
use Rattle.wh_host.specs.Lying.{LiesAt}
use Rattle.wh_host.specs.Paging.{IsGoing}
use Rattle.wh_host.specs.Series.{SeriesOf}
use Rattle.wh_host.specs.Rounds.{AllAreFree, AllMayRun, AllRun, AllTurn, AreTakenOut, RunnersStay, IsFree, IsOut, NoneIsLeftOut, RanThere, RunsAt, SitsThere, TakesTurns, lent_in, lent_to, lent_to_all}
use Rattle.wh_host.specs.Joining.{CanFinish, HasAnswer, HaveRun, IsLeftOut, LaysAt, Returns, host_with, series_end}
use Rattle.wh_host.proofs.BesideTurns.{looks_itself}
use Rattle.wh_host.proofs.Backed.{then_backing, same_backing}
use Rattle.wh_host.proofs.Hosts.{found, lies_here, seat_set, series_here}
use Rattle.wh_host.proofs.RunnerLists.{at_index, free_out, index_there, lent_all, lent_if, lent_none, lent_set, lent_to_one, not_both, one_runner, taken_or}

-- ---- memories that are as good

looks_then : (i : ℕ) (a b c : Space) → LooksSame i a b → LooksSame i b c → LooksSame i a c
looks_then i a b c first second = record { table = second.table ∙ first.table; sees = second.sees ∙ first.sees; claim = second.claim ∙ first.claim }

lies_back : (l : LinkedState) (limit : ℕ) (x : HostInstanceState) (s m : Space) (place : ℕ) (t : Tenant) → LooksSame place s m → LiesAt l limit x m place t → LiesAt l limit x s place t
lies_back l limit x s m place t looks lies = record {
  place_is = lies.place_is;
  is = subst (λ b. IsTenant l limit x b t) looks.sees lies.is;
  within = subst (λ (c : Option Claimed). limit ≤ limit_by c) looks.claim lies.within;
  claimed = lies.claimed;
  claim_is = sym looks.claim ∙ lies.claim_is;
}

-- ---- who is out

-- the host with these entries, of whom some are out, and the turns so far
pub record Stands (h : HostState) (s : Space) (q most : ℕ) (w : World) (F : List (Option InstanceEntry)) (m : Space) (ys : List Runner) (i : ℕ) : Type 0 where
  pub before : List (Option InstanceEntry)
  pub world : World
  pub out : AreTakenOut before F ys (RanThere h.modules s q most)
  pub looks : (k : ℕ) (y : Runner) → slice_get ys k ≡ Some y → y.taken ≡ true → LooksSame y.id.place s m
  pub frames : lent_to_all ys ≤ length m.pool.free
  pub host : IsHost (host_with h before m) world
  pub turned : AllTurn q most w (take i ys) world

-- who sits there, and has run
record Sitting (h : HostState) (s : Space) (q most : ℕ) (m : Space) (before F : List (Option InstanceEntry)) (y : Runner) : Type 0 where
  out : IsOut before F y (RanThere h.modules s q most)
  loaded : LoadedModule
  is_loaded : module_in h.modules out.entry.module_place ≡ Some loaded
  tenant : Tenant
  lies : LiesAt loaded.linked out.entry.page_limit out.entry.tenant m y.id.place tenant
  run : (t : Tenant) → LiesAt loaded.linked out.entry.page_limit out.entry.tenant m y.id.place t
      → HasRun loaded.linked out.entry.page_limit (y.ran.turns * q) s m y.id.place out.entry.tenant t y.ran.came y.ran.pieces y.ran.charges y.tenant out.so.0

sitting : (h : HostState) (s : Space) (q most : ℕ) (w : World) (F : List (Option InstanceEntry)) (m : Space) (ys : List Runner) (i k : ℕ) (y : Runner) → (st : Stands h s q most w F m ys i) → slice_get ys k ≡ Some y → y.taken ≡ true → Sitting h s q most m st.before F y
sitting h s q most w F m ys i k y st there sits =
    let o = st.out.each k y there sits in
    let x = o.entry in
    let f = found (host_with h st.before m) st.world y.id.place y.id.number x st.host o.was o.number in
    let loaded = f.is.loaded in
    let l = lies_here (host_with h st.before m) st.world y.id.place y.id.number x loaded st.host o.was o.number f.is.is_loaded in
    let looks = st.looks k y there sits in
    let so = o.so in
    let all = st.frames in
    let one = lent_to_one ys k y there sits in
    let is = ap lent_in so.1 in
    record {
      out = o;
      loaded = loaded;
      is_loaded = f.is.is_loaded;
      tenant = l.0;
      lies = l.2;
      run = λ t lies. record { runs = so.3 loaded f.is.is_loaded t (lies_back loaded.linked x.page_limit x.tenant s m y.id.place t looks lies); looks = looks; frames = omega (arith, all, one, is); lies = lies };
    }

-- its turn can be finished
pub can_finish_at : (h : HostState) (s : Space) (q most : ℕ) (w : World) (F : List (Option InstanceEntry)) (m : Space) (ys : List Runner) (i k : ℕ) (y : Runner) → Stands h s q most w F m ys i → slice_get ys k ≡ Some y → y.taken ≡ true → CanFinish q m y
can_finish_at h s q most w F m ys i k y st there sits =
    let z = sitting h s q most w F m ys i k y st there sits in
    let o = z.out in
    let x = o.entry in
    let so = o.so in
    (so.0, so.1, z.loaded.linked, x.page_limit, s, x.tenant, z.tenant, z.run z.tenant z.lies)

-- ---- lists of turns

turn_behind : (q most : ℕ) (w mid w2 : World) (ys : List Runner) (y : Runner) → AllTurn q most w ys mid → TakesTurns q most mid y.id y.answer w2 → AllTurn q most w (ys ++ y ∷ []) w2
turn_behind q most w mid w2 [] y turned takes = (w2, subst (λ z. TakesTurns q most z y.id y.answer w2) turned takes, refl)
turn_behind q most w mid w2 (x ∷ ys) y (z, first, rest) takes = (z, first, turn_behind q most z mid w2 ys y rest takes)

take_one : (ys : List Runner) (i : ℕ) (y z : Runner) → slice_get ys i ≡ Some z → take (i + 1) (slice_set ys i y) ≡ take i ys ++ y ∷ []
take_one [] i y z there = absurd (cc there)
take_one (x ∷ ys) zero y z there = refl
take_one (x ∷ ys) (suc i) y z there =
    let e : suc i + 1 ≡ suc (i + 1) = omega arith in
    ap (λ n. take n (x ∷ slice_set ys i y)) e ∙ ap (λ zs. x ∷ zs) (take_one ys i y z there)

-- ---- a runner that nobody has

stands_free : (h : HostState) (s : Space) (q most : ℕ) (w : World) (F : List (Option InstanceEntry)) (m : Space) (ys : List Runner) (i : ℕ) (y : Runner) → Stands h s q most w F m ys i → slice_get ys i ≡ Some y → y.taken ≡ false → y.answer ≡ None → Stands h s q most w F m (slice_set ys i y) (i + 1)
stands_free h s q most w F m ys i y st there free none = record {
  before = st.before;
  world = st.world;
  out = free_out st.before F ys (RanThere h.modules s q most) i y y st.out there free free;
  looks = λ k a at sits. st.looks k a (back k a at sits) sits;
  frames = (let sum = lent_set ys i y y there in let all = st.frames in omega (arith, sum, all));
  host = st.host;
  turned = subst (λ zs. AllTurn q most w zs st.world) (sym (take_one ys i y y there)) (turn_behind q most w st.world st.world (take i ys) y st.turned (subst (λ a. TakesTurns q most st.world y.id a st.world) (sym none) refl));
}
  where
    back : (k : ℕ) (a : Runner) → slice_get (slice_set ys i y) k ≡ Some a → a.taken ≡ true → slice_get ys k ≡ Some a
    back k a at sits = elim (cases_eq k i) [
      | inl same ↦ absurd (not_both a sits (subst (λ (z : Runner). z.taken ≡ false) (one_runner y a (sym (set_there ys i y y there) ∙ ap (slice_get (slice_set ys i y)) (sym same) ∙ at)) free))
      | inr other ↦ sym (set_other ys i k y other) ∙ at
    ]

-- ---- one whose instance returns

module _ (h : HostState) (s : Space) (q most : ℕ) (w : World) (F : List (Option InstanceEntry)) (m : Space) (ys : List Runner) (i : ℕ) (y : Runner) (F2 : List (Option InstanceEntry)) (m2 : Space) (y2 : Runner) (st : Stands h s q most w F m ys i) (there : slice_get ys i ≡ Some y) (sits : y.taken ≡ true) (r : Returns q F m y F2 m2 y2) where
  abbrev it : Sitting h s q most m st.before F y
  it = sitting h s q most w F m ys i i y st there sits

  abbrev entry : InstanceEntry
  entry = it.out.entry

  abbrev entry2 : InstanceEntry
  entry2 = record entry { tenant = r.tenant }

  abbrev made : SeriesEnd
  made = series_end y.ran r.end

  turn_of : (w2 : World) × SeriesOf q y.id st.world y.ran.turns y.ran.charges r.end w2 × IsHost (host_with h (slice_set st.before y.id.place (Some entry2)) m2) w2
  turn_of =
      let o = it.out in
      let so = o.so in
      let loaded = it.loaded in
      series_here (host_with h st.before m) st.world y.id q y.ran.turns y.ran.charges entry r.tenant loaded r.end m2 st.host o.was o.number it.is_loaded so.2.1
      (λ t lies.
      (let run = it.run t lies in
      (λ none. (let bad = sym none ∙ run.runs.computes.calls in cc bad), r.finishes.turns so.0 so.1 loaded.linked entry.page_limit s entry.tenant t run)))

  -- it computes, so that a turn can run it
  goes : IsGoing st.world y.id
  goes =
      let o = it.out in
      let l = lies_here (host_with h st.before m) st.world y.id.place y.id.number entry it.loaded st.host o.was o.number it.is_loaded in
      let lies = l.2 in
      let c = (it.run l.0 lies).runs.computes in
      (l.0, (l.1, lies.place_is), (λ none. (let bad = sym none ∙ c.calls in cc bad), inl c.waits))

  entries_are : F2 ≡ slice_set F y.id.place (Some entry2)
  entries_are =
      let o = it.out in
      r.entries (record entry { number = None; tenant = o.spare }) o.is ∙ ap (λ n. slice_set F y.id.place (Some (record entry { number = n; tenant = r.tenant }))) (sym o.number)

  put_before : (entry_at (slice_set st.before y.id.place (Some entry2)) y.id.place ≡ Some entry2) × ((p : ℕ) → p ≢ y.id.place → entry_at (slice_set st.before y.id.place (Some entry2)) p ≡ entry_at st.before p)
  put_before = let o = it.out in let z = seat_set st.before y.id.place entry (Some entry2) o.was in (z.0, z.1)

  put_now : (entry_at F2 y.id.place ≡ Some entry2) × ((p : ℕ) → p ≢ y.id.place → entry_at F2 p ≡ entry_at F p)
  put_now =
      let o = it.out in
      let z = seat_set F y.id.place (record entry { number = None; tenant = o.spare }) (Some entry2) o.is in
      subst (λ rs. (entry_at rs y.id.place ≡ Some entry2) × ((p : ℕ) → p ≢ y.id.place → entry_at rs p ≡ entry_at F p)) (sym entries_are) (z.0, z.1)

  left : (k : ℕ) (a : Runner) → slice_get (slice_set ys i y2) k ≡ Some a → a.taken ≡ true → (slice_get ys k ≡ Some a) × (a.id.place ≢ y.id.place)
  left k a at yet = elim (cases_eq k i) [
    | inl same ↦ absurd (not_both a yet (subst (λ (z : Runner). z.taken ≡ false) (one_runner y2 a (sym (set_there ys i y2 y there) ∙ ap (slice_get (slice_set ys i y2)) (sym same) ∙ at)) r.free.0))
    | inr other ↦ (
        let was = sym (set_other ys i k y2 other) ∙ at in
        (was, λ e. other (st.out.apart k i a y was there yet sits e)))
  ]

  out_then : AreTakenOut (slice_set st.before y.id.place (Some entry2)) F2 (slice_set ys i y2) (RanThere h.modules s q most)
  out_then = record {
    elsewhere = λ p none. elim (cases_eq p y.id.place) [
      | inl same ↦ ap (entry_at F2) same ∙ put_now.0 ∙ sym (ap (entry_at (slice_set st.before y.id.place (Some entry2))) same ∙ put_before.0)
      | inr other ↦ put_now.1 p other ∙ st.out.elsewhere p (λ k a at yet. elim (cases_eq k i) [
        | inl same ↦ (λ e. other (sym e ∙ ap (λ (z : Runner). z.id.place) (one_runner a y (sym at ∙ ap (slice_get ys) same ∙ there))))
        | inr far ↦ none k a (set_other ys i k y2 far ∙ at) yet
      ]) ∙ sym (put_before.1 p other)
    ];
    each = λ k a at yet.
        (let l = left k a at yet in
        let o = st.out.each k a l.0 yet in
        record { entry = o.entry; was = put_before.1 a.id.place l.1 ∙ o.was; number = o.number; module_place = o.module_place; page_limit = o.page_limit; spare = o.spare; is = put_now.1 a.id.place l.1 ∙ o.is; so = o.so });
    apart = λ j k a b at at2 yet yet2 same. (let l = left j a at yet in let l2 = left k b at2 yet2 in st.out.apart j k a b l.0 l2.0 yet yet2 same);
  }

  stands_taken : Stands h s q most w F2 m2 (slice_set ys i y2) (i + 1)
  stands_taken =
      let t = turn_of in
      let host = t.2 in
      let f = r.finishes in
      let left_so = subst (λ z. LeavesTurned y.id.place r.end st.world.space z) host.space (subst (λ z. LeavesTurned y.id.place r.end z m2) st.host.space f.memory) in
      let backs = subst (λ z. KeepsBacking st.world.space z) host.space (subst (λ z. KeepsBacking z m2) st.host.space f.backing) in
      let takes : TakesTurns q most st.world y.id (Some made) t.0 = (goes, it.out.so.2.0, t.1, left_so, backs) in
      let takes2 = subst (λ a. TakesTurns q most st.world y2.id a t.0) (sym r.answer) (subst (λ (n : InstId). TakesTurns q most st.world n (Some made) t.0) (sym r.id) takes) in
      record {
        before = slice_set st.before y.id.place (Some entry2);
        world = t.0;
        out = out_then;
        looks = λ k a at yet. (let l = left k a at yet in looks_then a.id.place s m m2 (st.looks k a l.0 yet) (f.others a.id.place l.1));
        frames =
            (let sum = lent_set ys i y y2 there in
            omega (arith, sum, lent_if y sits, lent_none y2 r.free.0, st.frames, f.frames));
        host = host;
        turned = subst (λ zs. AllTurn q most w zs t.0) (sym (take_one ys i y2 y there)) (turn_behind q most w st.world t.0 (take i ys) y2 st.turned takes2);
      }

-- ---- all of them

pub record LaidSoFar (F0 : List (Option InstanceEntry)) (m0 : Space) (xs : List Runner) (F : List (Option InstanceEntry)) (m : Space) (ys : List Runner) (i : ℕ) : Type 0 where
  pub rest : (k : ℕ) (y : Runner) → i ≤ k → slice_get ys k ≡ Some y → slice_get xs k ≡ Some y
  pub same : RunnersStay xs ys
  pub answers : (k : ℕ) (y2 : Runner) → k < i → slice_get ys k ≡ Some y2 → (y : Runner) × (slice_get xs k ≡ Some y) × HasAnswer y y2
  pub done : (k : ℕ) (y : Runner) → k < i → slice_get ys k ≡ Some y → ((z : Runner) → slice_get xs k ≡ Some z → z.taken ≡ false → IsFree z) → IsFree y
  pub backing : KeepsBacking m0 m
  pub stands : (h : HostState) (q most : ℕ) (before : List (Option InstanceEntry)) (s : Space) (w : World) → HaveRun h.modules q most before s F0 m0 xs → IsHost (host_with h before m0) w → Stands h s q most w F m ys i

pub laid_none : (F0 : List (Option InstanceEntry)) (m0 : Space) (xs : List Runner) → LaidSoFar F0 m0 xs F0 m0 xs 0
laid_none F0 m0 xs = record {
  rest = λ k y least there. there;
  same = λ k y there. (y, there, refl);
  answers = λ k y less there. absurd (omega (arith, less));
  done = λ k y less there free. absurd (omega (arith, less));
  backing = same_backing m0 m0 refl;
  stands = λ h q most before s w run host. record { before = before; world = w; out = run.out; looks = run.looks; frames = run.frames; host = host; turned = refl };
}

pub laid_next : (F0 : List (Option InstanceEntry)) (m0 : Space) (xs : List Runner) (F : List (Option InstanceEntry)) (m : Space) (ys : List Runner) (i : ℕ) (y : Runner) (F2 : List (Option InstanceEntry)) (m2 : Space) (y2 : Runner) → LaidSoFar F0 m0 xs F m ys i → slice_get ys i ≡ Some y → ((q : ℕ) → LaysAt q F m y F2 m2 y2)
    → LaidSoFar F0 m0 xs F2 m2 (slice_set ys i y2) (i + 1)
laid_next F0 m0 xs F m ys i y F2 m2 y2 h there lays = record {
  rest = λ k a least at. h.rest k a (omega (arith, least)) (sym (set_other ys i k y2 (λ e. absurd (omega (arith, e, least)))) ∙ at);
  same = λ k a at. elim (cases_eq k i) [
    | inl same ↦ (
        let had = h.same i y there in
        (had.0, ap (slice_get xs) same ∙ had.1, ap (λ (z : Runner). z.id) (sym (is k a same at)) ∙ same_id (lays 0) ∙ had.2))
    | inr other ↦ h.same k a (sym (set_other ys i k y2 other) ∙ at)
  ];
  answers = λ k a less at. elim (cases_eq k i) [
    | inl same ↦ (y, ap (slice_get xs) same ∙ h.rest i y (omega arith) there, subst (HasAnswer y) (is k a same at) (answer_then (lays 0)))
    | inr other ↦ h.answers k a (earlier k less other) (sym (set_other ys i k y2 other) ∙ at)
  ];
  done = λ k a less at free. elim (cases_eq k i) [
    | inl same ↦ subst IsFree (is k a same at) (free_then (lays 0) (λ gone. free y (ap (slice_get xs) same ∙ h.rest i y (omega arith) there) gone))
    | inr other ↦ h.done k a (earlier k less other) (sym (set_other ys i k y2 other) ∙ at) free
  ];
  backing = then_backing m0 m m2 h.backing (backs (lays 0));
  stands = λ host q most before s w run is_host. stands_then q most (lays q) host before s w run (h.stands host q most before s w run is_host);
}
  where
    is : (k : ℕ) (a : Runner) → k ≡ i → slice_get (slice_set ys i y2) k ≡ Some a → y2 ≡ a
    is k a same at = one_runner y2 a (sym (set_there ys i y2 y there) ∙ ap (slice_get (slice_set ys i y2)) (sym same) ∙ at)

    earlier : (k : ℕ) → k < i + 1 → k ≢ i → k < i
    earlier k less other = elim (cases_lt k i) [
      | inl less2 ↦ less2
      | inr behind ↦ absurd (other (omega (arith, less, behind)))
    ]

    same_id : {q : ℕ} → LaysAt q F m y F2 m2 y2 → y2.id ≡ y.id
    same_id (inl f) = ap (λ (z : Runner). z.id) f.3
    same_id (inr f) = let r = f.1 in r.id

    free_then : {q : ℕ} → LaysAt q F m y F2 m2 y2 → (y.taken ≡ false → IsFree y) → IsFree y2
    free_then (inl f) free = subst IsFree (sym f.3) (free f.0)
    free_then (inr f) free = let r = f.1 in r.free

    answer_then : {q : ℕ} → LaysAt q F m y F2 m2 y2 → HasAnswer y y2
    answer_then (inl f) = (ap (λ (z : Runner). z.id) f.3, λ sits. absurd (not_both y sits f.0), λ gone. ap (λ (z : Runner). z.answer) f.3, ap (λ (z : Runner). z.ended) f.3)
    answer_then (inr f) = (let r = f.1 in (r.id, λ sits. (r.end, r.answer, r.again, r.upper), λ gone. absurd (not_both y f.0 gone), r.ended))

    backs : {q : ℕ} → LaysAt q F m y F2 m2 y2 → KeepsBacking m m2
    backs (inl f) = same_backing m m2 f.2
    backs (inr f) = let r = f.1 in let z = r.finishes in z.backing

    stands_then : (q most : ℕ) → LaysAt q F m y F2 m2 y2 → (host : HostState) (before : List (Option InstanceEntry)) (s : Space) (w : World) → HaveRun host.modules q most before s F0 m0 xs → Stands host s q most w F m ys i → Stands host s q most w F2 m2 (slice_set ys i y2) (i + 1)
    stands_then q most (inl f) host before s w run st =
        let free = stands_free host s q most w F m ys i y st there f.0 (run.rest i y (h.rest i y (omega arith) there) f.0).1 in
        subst (λ rs. Stands host s q most w rs m2 (slice_set ys i y2) (i + 1)) (sym f.1) (subst (λ z. Stands host s q most w F z (slice_set ys i y2) (i + 1)) (sym f.2) (subst (λ z. Stands host s q most w F m (slice_set ys i z) (i + 1)) (sym f.3) free))
    stands_then q most (inr f) host before s w run st = stands_taken host s q most w F m ys i y F2 m2 y2 st there f.0 f.1

take_whole : (ys : List Runner) (i : ℕ) → length ys ≤ i → take i ys ≡ ys
take_whole [] zero most = refl
take_whole [] (suc i) most = refl
take_whole (y ∷ ys) zero most = absurd (omega (arith, most))
take_whole (y ∷ ys) (suc i) most = ap (λ zs. y ∷ zs) (take_whole ys i (omega (arith, most)))

-- entries that are the same at each place
host_same : (h : HostState) (E F : List (Option InstanceEntry)) (m : Space) (w : World) → ((p : ℕ) → entry_at F p ≡ entry_at E p) → IsHost (host_with h E m) w → IsHost (host_with h F m) w
host_same h E F m w same st = record {
  comes = st.comes;
  modules = st.modules;
  space = st.space;
  live = st.live;
  next = st.next;
  next_module = st.next_module;
  there = λ i t live. (let f = st.there i t live in (f.0, same t.place ∙ f.1, f.2));
  all = λ place i x at number. st.all place i x (sym (same place) ∙ at) number;
}

pub all_laid : (h : HostState) (s : Space) (q most : ℕ) (w : World) (F : List (Option InstanceEntry)) (m : Space) (ys : List Runner) (i : ℕ) → Stands h s q most w F m ys i → length ys ≤ i → AllAreFree ys → (w2 : World) × AllTurn q most w ys w2 × IsHost (host_with h F m) w2
all_laid h s q most w F m ys i st long free = (
  st.world,
  subst (λ zs. AllTurn q most w zs st.world) (take_whole ys i long) st.turned,
  host_same h st.before F m st.world (λ p. st.out.elsewhere p (λ k y there sits. absurd (let f = free k y there in not_both y sits f.0))) st.host,
)

-- ---- before all are written back

-- all who are out can run
pub may_run_all : (h : HostState) (w : World) (F : List (Option InstanceEntry)) (ys : List Runner) → IsHost h w → AreTakenOut h.entries F ys SitsThere → AllMayRun h.modules h.space ys
may_run_all h w F ys st out k y there sits =
    let o = out.each k y there sits in
    let x = o.entry in
    let so = o.so in
    let f = found h w y.id.place y.id.number x st o.was o.number in
    let loaded = f.is.loaded in
    let l = lies_here h w y.id.place y.id.number x loaded st o.was o.number f.is.is_loaded in
    let lies = l.2 in
    record {
      loaded = loaded;
      is_loaded = ap (module_in h.modules) o.module_place ∙ f.is.is_loaded;
      tenant = l.0;
      computes = so.1 loaded.linked x.page_limit (view h.space y.id.place) l.0 lies.is;
      lies = subst (λ n. LiesAt loaded.linked n y.tenant h.space y.id.place l.0) (sym o.page_limit) (subst (λ z. LiesAt loaded.linked x.page_limit z h.space y.id.place l.0) (sym so.0) lies);
      room = so.2;
    }

-- and have then
ran_there : (modules : List (Option LoadedModule)) (s : Space) (q most : ℕ) (x : InstanceEntry) (y y2 : Runner) → SitsThere x y → y.module_place ≡ x.module_place → y.page_limit ≡ x.page_limit → y.taken ≡ true → RunsAt modules s q most y y2 → RanThere modules s q most x y2
ran_there modules s q most x y y2 sits of limit taken r =
    let ran = r.ran taken in
    let u = ran.0 in
    let P : ℕ → ℕ → HostInstanceState → InstId → Type 0 = λ n pages z id. (m : LoadedModule) → module_in modules n ≡ Some m → (t : Tenant) → IsAtTerm t → LiesAt m.linked pages z s id.place t
    → RunsBeside m.linked pages (y2.ran.turns * q) s id.place z t y2.ran.came y2.ran.pieces y2.ran.charges y2.tenant u in
    let all = subst (λ id. P x.module_place x.page_limit x.tenant id) (sym r.id) (subst (λ z. P x.module_place x.page_limit z y.id) sits.0 (subst (λ pages. P x.module_place pages y.tenant y.id) limit (subst (λ n. P n y.page_limit y.tenant y.id) of ran.3))) in
    (u, ran.1, ran.2, λ m is_loaded t lies. all m is_loaded t (sits.1 m.linked x.page_limit (view s y2.id.place) t lies.is) lies)

pub have_run : (h : HostState) (q most : ℕ) (F : List (Option InstanceEntry)) (ys ys2 : List Runner) → length ys2 ≡ length ys → lent_to_all ys ≤ length h.space.pool.free → AreTakenOut h.entries F ys SitsThere → ((k : ℕ) (y : Runner) → slice_get ys k ≡ Some y → y.taken ≡ false → IsFree y × (y.answer ≡ None)) → AllRun h.modules h.space q most ys ys2
    → HaveRun h.modules q most h.entries h.space F h.space ys2
have_run h q most F ys ys2 long frames out rest all = record {
  out = record {
    elsewhere = λ p none. out.elsewhere p (λ k y there sits.
        (let less = index_there ys k y there in
        let there2 = at_index ys2 k y (omega (arith, less, long)) in
        let y2 = slice_index_or ys2 k y in
        let r = all k y2 there2 in
        let e = one_runner r.0 y (sym r.1 ∙ there) in
        let runs = r.2 in
        λ same. none k y2 there2 (runs.taken ∙ ap (λ (z : Runner). z.taken) e ∙ sits) (ap (λ (z : InstId). z.place) runs.id ∙ ap (λ (z : Runner). z.id.place) e ∙ same)));
    each = λ k y2 there sits.
        (let r = all k y2 there in
        let y = r.0 in
        let runs = r.2 in
        let taken = sym runs.taken ∙ sits in
        let o = out.each k y r.1 taken in
        let place = ap (λ (z : InstId). z.place) runs.id in
        record {
          entry = o.entry;
          was = ap (entry_at h.entries) place ∙ o.was;
          number = o.number ∙ ap (λ (z : InstId). Some z.number) (sym runs.id);
          module_place = runs.module_place ∙ o.module_place;
          page_limit = runs.page_limit ∙ o.page_limit;
          spare = o.spare;
          is = ap (entry_at F) place ∙ o.is;
          so = ran_there h.modules h.space q most o.entry y y2 o.so o.module_place o.page_limit taken runs;
        });
    apart = λ j k y2 z2 there there2 sits sits2 same.
        (let r = all j y2 there in
        let r2 = all k z2 there2 in
        let runs = r.2 in
        let runs2 = r2.2 in
        out.apart j k r.0 r2.0 r.1 r2.1 (sym runs.taken ∙ sits) (sym runs2.taken ∙ sits2) (ap (λ (z : InstId). z.place) (sym runs.id) ∙ same ∙ ap (λ (z : InstId). z.place) runs2.id));
  };
  looks = λ k y there sits. looks_itself y.id.place h.space;
  frames =
      (let most = lent_all ys ys2 (λ k y2 there.
      (let r = all k y2 there in
      let runs = r.2 in
      let x = r.0 in
      (x, r.1, ap (λ b. cond b (lent_to y2) 0) runs.taken ∙ ap (λ n. cond x.taken n 0) runs.lent))) in
      omega (arith, frames, most));
  rest = λ k y2 there gone.
      (let r = all k y2 there in
      let runs = r.2 in
      let was = sym runs.taken ∙ gone in
      let free = rest k r.0 r.1 was in
      ((gone, runs.free was free.0.1), runs.answer ∙ free.1));
}

-- ---- nobody is left out

pub heard_all : (h : HostState) (w : World) (q most : ℕ) (ys ys2 ys3 : List Runner) → IsHost h w → length ys2 ≡ length ys → length ys3 ≡ length ys2 → ((k : ℕ) (y : Runner) → slice_get ys k ≡ Some y → y.taken ≡ false → IsLeftOut h.entries ys y) → AllRun h.modules h.space q most ys ys2
    → ((k : ℕ) (y3 : Runner) → slice_get ys3 k ≡ Some y3 → (y2 : Runner) × (slice_get ys2 k ≡ Some y2) × HasAnswer y2 y3) → NoneIsLeftOut w ys3
heard_all h w q most ys ys2 ys3 st long long2 free all answers k y3 there none t live at_term =
    let a = answers k y3 there in
    let r = all k a.0 a.1 in
    let runs = r.2 in
    let y = r.0 in
    let gone : y.taken ≡ false = ⊎_elim (λ sits. absurd (let m = a.2.1 (runs.taken ∙ sits) in let bad = sym m.1 ∙ none in cc bad)) (λ e. e) (taken_or y) in
    let f = st.there y3.id.number t live.0 in
    let same : y3.id ≡ y.id = a.2.0 ∙ runs.id in
    let at : entry_at h.entries y.id.place ≡ Some f.0 = ap (entry_at h.entries) (sym (live.1 ∙ ap (λ (n : InstId). n.place) same)) ∙ f.1 in
    let is = f.2 in
    let number : f.0.number ≡ Some y.id.number = is.number ∙ ap (λ (n : InstId). Some n.number) same in
    ⊎_elim
    (λ never. absurd (never is.loaded.linked f.0.page_limit (view w.space t.place) t is.is at_term))
    (λ (z : (j : ℕ) × (z : Runner) × (slice_get ys j ≡ Some z) × (z.taken ≡ true) × (z.id ≡ y.id)). elsewhere z.0 z.1 z.2 z.3 (z.4 ∙ sym same))
    (free k y r.1 gone f.0 at number)
  where
    elsewhere : (j : ℕ) (z : Runner) → slice_get ys j ≡ Some z → z.taken ≡ true → z.id ≡ y3.id → (i : ℕ) × (x : Runner) × (slice_get ys3 i ≡ Some x) × (x.id ≡ y3.id) × (made : SeriesEnd) × (x.answer ≡ Some made)
    elsewhere j z at sits same =
        let at3 = at_index ys3 j y3 (omega (arith, index_there ys j z at, long, long2)) in
        let z3 = slice_index_or ys3 j y3 in
        let a = answers j z3 at3 in
        let r = all j a.0 a.1 in
        let runs = r.2 in
        let e = one_runner r.0 z (sym r.1 ∙ at) in
        let m = a.2.1 (runs.taken ∙ ap (λ (x : Runner). x.taken) e ∙ sits) in
        (j, z3, at3, a.2.0 ∙ runs.id ∙ ap (λ (x : Runner). x.id) e ∙ same, series_end a.0.ran m.0, m.1)
