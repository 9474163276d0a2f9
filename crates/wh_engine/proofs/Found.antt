-- Instances that are found by their numbers, or aren't kept any more.
use Rattle.std.proofs.Common.{arith, ◌≡◌, ◌≢◌, ℕ, zero, suc, ◌+◌, ◌<◌, ◌≤◌, ⊎_elim, true, false, Bool, ◌&&◌, List, [], ◌∷◌, length, get_or, ltb, slice_get, slice_set, Some, refl, sym, ap, subst, ◌∙◌}
use Rattle.std.specs.List.Sorted.{IsNonDecreasingBy, IsPartitionPoint}
use Rattle.std.proofs.lemmas.Bool.{cases_lt, ltb-true, ltb-false}
use Rattle.std.proofs.lemmas.Option.{none-some, same_Some, get_or_from_slice_get, slice_get_within}
use Rattle.wh_script_model.specs.ScriptState as script
use Rattle.wh_script_model.specs.ScriptState.{ScriptState}
use Rattle.wh_script_model.specs.Settings.{Settings}
use Rattle.wh_engine.specs.declared.parts.NamedInstance.{NamedInstance}
use Rattle.wh_engine.specs.Finding.{RiseFrom, HasNoNumber, HasNumberAt}
use Rattle.wh_engine.specs.RepresentedScript.{AreNamedInstances, ScriptHostState, IsNamedInstance, LeavesOut, none_there, keeps_it, leaves_it, RepresentsScript, is_over}
use Rattle.wh_engine.proofs.Asked.{guest_there}
use Rattle.wh_engine.proofs.Touching.{guest_at}
use Rattle.wh_engine.proofs.Left.{is_of_all, kept_or_over, one_changed}

abbrev number_in : NamedInstance → ℕ
number_in x = x.id.number

-- ---- numbers that rise

least : (k : ℕ) (xs : List NamedInstance) (j : ℕ) (d : NamedInstance) → RiseFrom k xs → j < length xs → k ≤ number_in (get_or xs j d)
least k [] j d rise within = absurd (omega (arith, within))
least k (x ∷ xs) zero d rise within = rise.0
least k (x ∷ xs) (suc j) d rise within =
    let e : j < length xs = omega (arith, within) in let n = least (x.id.number + 1) xs j d rise.1 e in let m = rise.0 in omega (arith, n, m)

pub rise_strictly : (k : ℕ) (xs : List NamedInstance) (i j : ℕ) (d : NamedInstance) → RiseFrom k xs → i < j → j < length xs
    → number_in (get_or xs i d) < number_in (get_or xs j d)
rise_strictly k [] i j d rise less within = absurd (omega (arith, within))
rise_strictly k (x ∷ xs) i zero d rise less within = absurd (omega (arith, less))
rise_strictly k (x ∷ xs) zero (suc j) d rise less within =
    let e : j < length xs = omega (arith, within) in let n = least (x.id.number + 1) xs j d rise.1 e in omega (arith, n)
rise_strictly k (x ∷ xs) (suc i) (suc j) d rise less within =
    rise_strictly (x.id.number + 1) xs i j d rise.1 (omega (arith, less)) (omega (arith, within))

pub rise_so : (k : ℕ) (xs : List NamedInstance) → RiseFrom k xs → IsNonDecreasingBy (λ (x : NamedInstance). x.id.number) xs
rise_so k xs rise i j d below within =
    ⊎_elim
    (λ (less : i < j). let n = rise_strictly k xs i j d rise less within in omega (arith, n))
    (λ (above : j ≤ i).
    let same : i ≡ j = omega (arith, below, above) in
    let equal : number_in (get_or xs i d) ≡ number_in (get_or xs j d) = ap (λ n. number_in (get_or xs n d)) same in
    omega (arith, equal))
    (cases_lt i j)

-- ---- where a search ends

pub there_has : (xs : List NamedInstance) (number at : ℕ) (x : NamedInstance) → at < length xs → x ≡ get_or xs at x → x.id.number ≡ number → HasNumberAt xs number at
there_has xs number at x within is same = (x, guest_there xs at x within is, same)

pub split_at : (xs : List NamedInstance) (number at : ℕ) → IsPartitionPoint (λ (x : NamedInstance). ltb x.id.number number ≡ true) (λ (x : NamedInstance). ltb x.id.number number ≡ false) xs at
    → IsPartitionPoint (λ (x : NamedInstance). x.id.number < number) (λ (x : NamedInstance). number ≤ x.id.number) xs at
split_at xs number at split = (
  λ k d from less. ltb-true _ _ (split.0 k d from less),
  λ k d from less. ltb-false _ _ (split.1 k d from less),
)

-- those before it have lower numbers, those from it on none that is lower, and it hasn't the number
pub none_has : (xs : List NamedInstance) (number at : ℕ) → RiseFrom 0 xs → IsPartitionPoint (λ (x : NamedInstance). x.id.number < number) (λ (x : NamedInstance). number ≤ x.id.number) xs at
    → ((x : NamedInstance) → slice_get xs at ≡ Some x → x.id.number ≢ number) → HasNoNumber xs number
none_has xs number at rise split other j x e same =
    let within : j < length xs = slice_get_within xs j x e in
    let here : number_in (get_or xs j x) ≡ x.id.number = ap number_in (get_or_from_slice_get xs j x x e) in
    let before : j < at → ⊥ = λ less. let n = split.0 j x (omega arith) less in omega (arith, n, here, same) in
    let behind : at ≤ j → ⊥ = λ above.
    ⊎_elim
    (λ (further : at < j).
    let low = split.1 at x (omega arith) (omega (arith, further, within)) in
    let n = rise_strictly 0 xs at j x rise further within in
    omega (arith, n, low, here, same))
    (λ (most : j ≤ at).
    let is : j ≡ at = omega (arith, most, above) in
    other x (subst (λ k. slice_get xs k ≡ Some x) is e) same)
    (cases_lt at j) in
    ⊎_elim before behind (cases_lt j at)

-- ---- what is kept of all

rise_less : (k : ℕ) (xs : List NamedInstance) → RiseFrom (k + 1) xs → RiseFrom k xs
rise_less k [] rise = tt
rise_less k (x ∷ xs) rise = let n = rise.0 in (omega (arith, n), rise.1)

-- their numbers rise
pub kept_rise : {kept all : List NamedInstance} → LeavesOut is_over kept all → (k : ℕ) (gs : List script.NamedInstance) → AreNamedInstances k all gs → RiseFrom k kept
kept_rise none_there k gs are = tt
kept_rise (keeps_it r) k [] are = absurd are
kept_rise (keeps_it {x = x} {kept = kept} r) k (g ∷ gs) are =
    let number : x.id.number ≡ k = are.0.number in
    (omega (arith, number), subst (λ n. RiseFrom (n + 1) kept) (sym number) (kept_rise r (k + 1) gs are.1))
kept_rise (leaves_it passes r) k [] are = absurd are
kept_rise {kept = kept} (leaves_it passes r) k (g ∷ gs) are = rise_less k kept (kept_rise r (k + 1) gs are.1)

-- one that is kept stands at its number
pub kept_at : {kept all : List NamedInstance} → LeavesOut is_over kept all → (gs : List script.NamedInstance) → AreNamedInstances 0 all gs → (number at : ℕ) (x : NamedInstance)
    → slice_get kept at ≡ Some x → x.id.number ≡ number → slice_get all number ≡ Some x
kept_at {all = all} leaves gs are number at x e same =
    let d = is_of_all leaves at x e in
    let n : x.id.number ≡ 0 + d.0 = guest_at 0 all gs d.0 x are d.1 in
    let is : d.0 ≡ number = omega (arith, n, same) in
    subst (λ k. slice_get all k ≡ Some x) is d.1

-- and where it is changed there, it is changed among all
pub kept_changed : {kept all : List NamedInstance} → LeavesOut is_over kept all → (gs : List script.NamedInstance) → AreNamedInstances 0 all gs → (number at : ℕ) (x y : NamedInstance)
    → slice_get kept at ≡ Some x → x.id.number ≡ number → LeavesOut is_over (slice_set kept at y) (slice_set all number y)
kept_changed {kept = kept} {all = all} leaves gs are number at x y e same =
    let d = one_changed leaves at x y e in
    let n : x.id.number ≡ 0 + d.0 = guest_at 0 all gs d.0 x are d.1 in
    let is : d.0 ≡ number = omega (arith, n, same) in
    subst (λ k. LeavesOut is_over (slice_set kept at y) (slice_set all k y)) is d.2

pub pair_at : (k : ℕ) (xs : List NamedInstance) (gs : List script.NamedInstance) (j : ℕ) (g : script.NamedInstance) → AreNamedInstances k xs gs → slice_get gs j ≡ Some g
    → (x : NamedInstance) × (slice_get xs j ≡ Some x) × IsNamedInstance (k + j) x g
pair_at k [] [] j g are e = absurd (none-some g e)
pair_at k [] (y ∷ gs) j g are e = absurd are
pair_at k (x ∷ xs) [] j g are e = absurd are
pair_at k (x ∷ xs) (y ∷ gs) zero g are e = (x, refl, subst (λ n. IsNamedInstance n x g) (omega arith) (subst (IsNamedInstance k x) (same_Some y g e) are.0))
pair_at k (x ∷ xs) (y ∷ gs) (suc j) g are e =
    let d = pair_at (k + 1) xs gs j g are.1 e in (d.0, d.1, subst (λ n. IsNamedInstance n d.0 g) (omega arith) d.2)

left_true : (a b : Bool) → (a && b) ≡ true → a ≡ true
left_true true b e = refl
left_true false b e = absurd (cc e)

pub over_released : (x : NamedInstance) → is_over x ≡ true → x.is_released ≡ true
over_released x e = left_true x.is_released _ e

-- where none that is kept has the number, its instance is released
pub none_kept : {kept all : List NamedInstance} → LeavesOut is_over kept all → (gs : List script.NamedInstance) → AreNamedInstances 0 all gs → (number : ℕ) (g : script.NamedInstance)
    → HasNoNumber kept number → slice_get gs number ≡ Some g → g.is_released ≡ true
none_kept {kept = kept} {all = all} leaves gs are number g none e =
    let d = pair_at 0 all gs number g are e in
    let x = d.0 in
    let is : x.id.number ≡ number = let n : x.id.number ≡ 0 + number = d.2.number in omega (arith, n) in
    ⊎_elim
    (λ (there : (at : ℕ) × (slice_get kept at ≡ Some x)). absurd (none there.0 x there.1 is))
    (λ (over : is_over x ≡ true). sym d.2.released ∙ over_released x over)
    (kept_or_over leaves number x d.1)

-- ---- of a script

-- the one that is read where the number was found
pub read_there : {D : Type 0} (settings : Settings) (e : ScriptHostState D) (m : ScriptState) (number at : ℕ) (x : NamedInstance) (s : RepresentsScript settings e m) → HasNumberAt e.instances number at
    → at < length e.instances → x ≡ get_or e.instances at x → slice_get s.instances number ≡ Some x
read_there settings e m number at x s has within is =
    let there = guest_there e.instances at x within is in
    let same : has.0 ≡ x = same_Some has.0 x (sym has.1 ∙ there) in
    kept_at s.kept m.instances s.stands.instances number at x there (ap number_in (sym same) ∙ has.2)

pub absent_gone : {D : Type 0} (settings : Settings) (e : ScriptHostState D) (m : ScriptState) (number : ℕ) (g : script.NamedInstance) → RepresentsScript settings e m → (RiseFrom 0 e.instances → HasNoNumber e.instances number)
    → slice_get m.instances number ≡ Some g → g.is_released ≡ true
absent_gone settings e m number g s none there =
    none_kept s.kept m.instances s.stands.instances number g (none (kept_rise s.kept 0 m.instances s.stands.instances)) there

-- the same of an engine that was opened where the number had been found
pub read_opened : {D : Type 0} {e now : ScriptHostState D} (settings : Settings) (m : ScriptState) (number at : ℕ) (x : NamedInstance) (s : RepresentsScript settings now m) → now ≡ e
    → HasNumberAt e.instances number at → at < length e.instances → x ≡ get_or now.instances at x → slice_get s.instances number ≡ Some x
read_opened {now = now} settings m number at x s same has within is =
    read_there settings now m number at x s (subst (λ (z : ScriptHostState _). HasNumberAt z.instances number at) (sym same) has)
    (subst (λ (z : ScriptHostState _). at < length z.instances) (sym same) within) is
