-- The report is that of whatever host the code's represents.
use Rattle.std.proofs.Common.{◌≡◌, ℕ, zero, suc, ◌+◌, ◌++◌, ◌≤◌, Result, Ok, Err, IfOk, Option, Some, None, List, [], ◌∷◌, length, map, take, get_or, slice_get, refl, sym, ap, subst, ◌∙◌, arith, true, rules}
use Rattle.std.specs.List.{All}
use Rattle.std.proofs.lemmas.List.{append-nil, append_assoc, map-append}
use Rattle.wh_space_model.specs.{one_if, tally, Claimed, Occupant, Space, claim_of, IsSound, IsUsed}
use Rattle.wh_space_model.specs.declared.plain.InstId.{InstId}
use Rattle.wh_space_model.specs.declared.states.Slot.{Slot}
use Rattle.wh_space_model.specs.declared.states.Slot.TheVariants.{Vacant, Taken, Evicting, EvictVoid, Fetching, FetchVoid}
use Rattle.wh_host_model.specs.Host.{Tenant, World, promised, tenant, ComesAbout}
use Rattle.wh_space_model.proofs.Putting.{there_of}
use Rattle.wh_space_model.proofs.Tally.{length-le_from_once}
use Rattle.wh_host.specs.declared.parts.InstanceEntry.{InstanceEntry}
use Rattle.wh_host.specs.declared.report.InstanceReport.{InstanceReport}
use Rattle.wh_host.specs.Hosting.{AreGivenAs, HostState, IsHost, entry_at}
use Rattle.wh_host.specs.Reporting.{ReportRow, ReportState, ReportsHost, ReportsInstance, ReportsUsage, UsageState, row_in, rows_in, usage_with, view_row}
use Rattle.wh_host.specs.InstanceRefs.{AreInOrder, AreInstanceRefs, CanBeShown, number_at, number_of_entry, refs_by, row_at, row_by, rows_by}
use Rattle.wh_host.proofs.Hosts.{found, one_value, places}
use Rattle.wh_host.proofs.Ordering.{AreSeated, all_by, in_order, to_all, all_also, IsSeatOf}
use Rattle.wh_host.proofs.Requests.{lives_there, sound_here}
use Rattle.wh_host.proofs.Turns.{claimed_there}

-- ---- no more slots are vacant than there are

vacant_once : (s : Space) (k : ℕ) (o : Option Slot) → IsUsed s k o → tally (one_if k) s.slots.vacant ≤ 1
vacant_once s k None used = let a = used.2 in omega (arith, a)
vacant_once s k (Some Vacant) used = let a = used.2 in omega (arith, a)
vacant_once s k (Some Taken) used = let a = used.2 in omega (arith, a)
vacant_once s k (Some (Evicting i p)) used = let a = used.2 in omega (arith, a)
vacant_once s k (Some (EvictVoid i)) used = let a = used.2 in omega (arith, a)
vacant_once s k (Some (Fetching i p f)) used = let a = used.2 in omega (arith, a)
vacant_once s k (Some (FetchVoid i f)) used = let a = used.2 in omega (arith, a)

past_none : {A : Type 0} (xs : List A) (k : ℕ) → length xs ≤ k → slice_get xs k ≡ None
past_none [] k past = refl
past_none (x ∷ xs) zero past = absurd (omega (arith, past))
past_none (x ∷ xs) (suc k) past = past_none xs k (omega (arith, past))

pub few_vacant : (s : Space) → IsSound s → length s.slots.vacant ≤ length s.slots.uses
few_vacant s sound =
    let used = sound.slots.used in
    length-le_from_once (length s.slots.uses) s.slots.vacant (λ k. vacant_once s k (slice_get s.slots.uses k) (used k)) (λ k past. (subst (IsUsed s k) (past_none s.slots.uses k past) (used k)).2)

-- ---- who is there

numbered : (o : Option InstanceEntry) (i : ℕ) → number_of_entry o ≡ Some i → (x : InstanceEntry) × (o ≡ Some x) × (x.number ≡ Some i)
numbered None i is = absurd (let bad : None ≡ Some i = is in cc bad)
numbered (Some x) i is = (x, refl, is)

seated : (h : HostState) (w : World) → IsHost h w → AreSeated (number_at h.entries) (length h.space.occupants) w.tenants
seated h w st = record {
  there = λ i t live.
      (let f = st.there i t live in
      let o = lives_there h w t.place i f.0 st f.1 f.2.number in
      (ap number_of_entry f.1 ∙ f.2.number, there_of h.space.occupants t.place (Some o.0) o.1));
  all = λ place i is. (let x = numbered (entry_at h.entries place) i is in st.all place i x.0 x.1 x.2);
}

pub seats_are : (h : HostState) (instance_refs : List InstId) → AreInOrder h.entries (length h.space.occupants) instance_refs → AreInstanceRefs h instance_refs
seats_are h instance_refs order w st = in_order (number_at h.entries) (length h.space.occupants) w.tenants instance_refs (seated h w st) order.0 order.1

-- ---- shares

get_at : {A : Type 0} (xs : List (Option A)) (i : ℕ) (o : Option A) → slice_get xs i ≡ Some o → get_or xs i None ≡ o
get_at [] i o is = absurd (let bad : None ≡ Some o = is in cc bad)
get_at (x ∷ xs) zero o is = cc is
get_at (x ∷ xs) (suc i) o is = get_at xs i o is

shares_of : (t : Occupant) (c : Claimed) → t.live ≡ true → claim_of (Some t) ≡ Some c → c.shares ≡ t.shares
shares_of t c live is = search rules

-- a live instance has at most n
shares_few : (w : World) (i : ℕ) (t : Tenant) → ComesAbout w → IsSound w.space → tenant w i ≡ Some t → t.params.shares ≤ 1000000
shares_few w i t comes sound live =
    let claims = (places w comes).claimed i t live in
    let o = claimed_there w.space t.place (promised i t.params) claims in
    let mine : claim_of (Some o.0) ≡ Some (promised i t.params) = ap claim_of (sym (get_at w.space.occupants t.place (Some o.0) o.1)) ∙ claims in
    omega (arith, shares_of o.0 (promised i t.params) o.2 mine, (sound.occupants.have t.place (Some o.0) o.1).6)

seat_shown : (h : HostState) (w : World) → IsHost h w → (instance_ref : InstId) → IsSeatOf w.tenants instance_ref → CanBeShown h.entries instance_ref
seat_shown h w st instance_ref of x at = search (rules, one_value, shares_few, sound_here)

pub all_shown : (h : HostState) (w : World) (instance_refs : List InstId) → IsHost h w → AreInstanceRefs h instance_refs → All (CanBeShown h.entries) instance_refs
all_shown h w instance_refs st are =
    subst (All (CanBeShown h.entries)) (sym (are w st)) (to_all (CanBeShown h.entries) (refs_by 0 w.tenants) (all_also (IsSeatOf w.tenants) (CanBeShown h.entries) (seat_shown h w st) (refs_by 0 w.tenants) (all_by w.tenants)))

-- ---- rows

pub one_row_more : (s : Space) (rs : List (Option InstanceEntry)) (instance_refs : List InstId) (k : ℕ) (instance_ref : InstId) → slice_get instance_refs k ≡ Some instance_ref → rows_by s rs (take (suc k) instance_refs) ≡ rows_by s rs (take k instance_refs) ++ row_at s instance_ref (entry_at rs instance_ref.place)
one_row_more s rs [] k instance_ref is = absurd (let bad : None ≡ Some instance_ref = is in cc bad)
one_row_more s rs (z ∷ zs) zero instance_ref is = let same : z ≡ instance_ref = cc is in append-nil (row_at s z (entry_at rs z.place)) ∙ ap (λ (u : InstId). row_at s u (entry_at rs u.place)) same
one_row_more s rs (z ∷ zs) (suc k) instance_ref is =
    let first = row_at s z (entry_at rs z.place) in
    ap (λ more. first ++ more) (one_row_more s rs zs k instance_ref is) ∙ sym (append_assoc first (rows_by s rs (take k zs)) (row_at s instance_ref (entry_at rs instance_ref.place)))

pub row_pushed : (a b : List InstanceReport) (x : InstanceReport) (row : ReportRow) → b ≡ a ++ x ∷ [] → view_row x ≡ row → map view_row b ≡ map view_row a ++ row ∷ []
row_pushed a b x row is same = ap (map view_row) is ∙ map-append view_row a (x ∷ []) ∙ ap (λ (z : ReportRow). map view_row a ++ z ∷ []) same

pub row_step : (s : Space) (rs : List (Option InstanceEntry)) (instance_refs : List InstId) (k : ℕ) (instance_ref : InstId) (a b : List ReportRow) → slice_get instance_refs k ≡ Some instance_ref → a ≡ rows_by s rs (take k instance_refs) → b ≡ a ++ row_at s instance_ref (entry_at rs instance_ref.place) → b ≡ rows_by s rs (take (k + 1) instance_refs)
row_step s rs instance_refs k instance_ref a b at before more =
    let row = row_at s instance_ref (entry_at rs instance_ref.place) in
    let next : k + 1 ≡ suc k = omega arith in
    more ∙ ap (λ q. q ++ row) before ∙ sym (one_row_more s rs instance_refs k instance_ref at) ∙ ap (λ n. rows_by s rs (take n instance_refs)) (sym next)

same_row : (s : Space) (i : ℕ) (x : InstanceEntry) (t : Tenant) (instance_ref : InstId) → instance_ref ≡ record { number = i; place = t.place } → AreGivenAs x.given t.params → row_by s instance_ref x ≡ row_in s i t
same_row s i x t instance_ref at is = rw at (rw is.shares (rw is.min (rw is.max refl)))

rows_same : (s : Space) (rs : List (Option InstanceEntry)) (i : ℕ) (ts : List (Option Tenant)) → ((k : ℕ) (t : Tenant) → get_or ts k None ≡ Some t → (x : InstanceEntry) × (entry_at rs t.place ≡ Some x) × AreGivenAs x.given t.params) → rows_by s rs (refs_by i ts) ≡ rows_in s i ts
rows_same s rs i [] has = refl
rows_same s rs i (None ∷ ts) has = rows_same s rs (i + 1) ts (λ k t is. has (suc k) t is)
rows_same s rs i (Some t ∷ ts) has =
    let h = has 0 t refl in
    let instance_ref : InstId = record { number = i; place = t.place } in
    let first : row_at s instance_ref (entry_at rs t.place) ≡ row_in s i t ∷ [] = ap (row_at s instance_ref) h.1 ∙ ap (λ row. row ∷ []) (same_row s i h.0 t instance_ref refl h.2) in
    let tail = rows_same s rs (i + 1) ts (λ k u is. has (suc k) u is) in
    ap (λ a. a ++ rows_by s rs (refs_by (i + 1) ts)) first ∙ ap (λ b. row_in s i t ∷ b) tail

-- ---- the whole

pub if_ok : {A E : Type 0} (r : Result A E) (P Q : A → Type 0) → ((a : A) → P a → Q a) → IfOk r P → IfOk r Q
if_ok (Ok a) P Q then h = then a h
if_ok (Err e) P Q then h = h

pub usage_is : (h : HostState) (usage : UsageState) → usage ≡ usage_with h.space h.live → ReportsUsage h usage
usage_is h usage is w st = is ∙ ap (λ s. usage_with s h.live) st.space ∙ ap (usage_with w.space) st.live

-- the shares of whoever is there
pub shares_there : (h : HostState) (w : World) (id : InstId) (x : InstanceEntry) → IsHost h w → entry_at h.entries id.place ≡ Some x → x.number ≡ Some id.number → x.given.shares ≤ 1000000
shares_there h w id x st at number =
    let f = found h w id.place id.number x st at number in
    omega (arith, shares_few w id.number f.t st.comes (sound_here h w st) f.live, f.is.given.shares)

pub row_is : (h : HostState) (id : InstId) (x : InstanceEntry) (row : ReportRow) → entry_at h.entries id.place ≡ Some x → x.number ≡ Some id.number → row ≡ row_by h.space id x → ReportsInstance h id row
row_is h id x row at number is w st =
    let f = found h w id.place id.number x st at number in
    let refer : ℕ → InstId = λ place. record { number = id.number; place = place } in
    let here : row ≡ row_by w.space (refer id.place) x = subst (λ s. row ≡ row_by s (refer id.place) x) st.space is in
    (f.t, (f.live, f.at), here ∙ same_row w.space id.number x f.t (refer id.place) (ap refer (sym f.at)) f.is.given)

pub report_is : (h : HostState) (instance_refs : List InstId) (report : ReportState) → AreInstanceRefs h instance_refs → report.usage ≡ usage_with h.space h.live → report.instances ≡ rows_by h.space h.entries instance_refs → ReportsHost h report
report_is h instance_refs report are usage is w st =
    let rows : report.instances ≡ rows_in w.space 0 w.tenants =
    subst (λ s. report.instances ≡ rows_by s h.entries instance_refs) st.space is
    ∙ ap (rows_by w.space h.entries) (are w st)
    ∙ rows_same w.space h.entries 0 w.tenants (λ k t live. let f = st.there k t live in (f.0, f.1, f.2.given)) in
    rw (usage_is h report.usage usage w st, rows) refl
