-- The modules of a host, by their places and by number.
use Rattle.std.proofs.Common.{◌≡◌, ◌≢◌, ℕ, zero, suc, ◌+◌, ◌<◌, ◌≤◌, ◌⊎◌, ⊎_elim, inl, inr, Option, Some, None, List, [], ◌∷◌, ◌++◌, length, get_or, ltb, slice_get, slice_set, Bool, true, false, refl, sym, ap, subst, ◌∙◌, arith}
use Rattle.std.specs.Bool.{MatchBool}
use Rattle.std.specs.List.{remove}
use Rattle.std.specs.List.Sorted.{IsNonDecreasingBy, IsPartitionPoint}
use Rattle.std.proofs.lemmas.Bool.{cases_lt, ltb-true, ltb-false}
use Rattle.std.proofs.lemmas.List.{get_or-set_other}
use Rattle.std.proofs.lemmas.Option.{get_or_from_slice_get, slice_get_within}
use Rattle.wh_host_model.specs.Host.{Loaded, module_count}
use Rattle.wh_host.specs.declared.parts.InstanceEntry.{InstanceEntry}
use Rattle.wh_host.specs.declared.parts.LoadedModule.{LoadedModule}
use Rattle.wh_host.specs.declared.parts.ModuleRef.{ModuleRef}
use Rattle.wh_host.specs.Hosting.{AreListed, IsKeptAt, HoldsModules, entry_at, loaded_as, module_in}
use Rattle.wh_host.specs.Loading.{KeepsModule}
use Rattle.wh_host.specs.ModuleLists.{HasNoRef, HasRef, Rise}
use Rattle.wh_host.specs.Unloading.{IsOf, HasUser, LeavesModule, Uses}

-- ---- values

one_of : {A : Type 0} (x y : A) → Some x ≡ Some y → x ≡ y
one_of x y e = cc e

none_is : {A : Type 0} (x : A) → None ≡ Some x → ⊥
none_is x e = absurd (cc e)

same_number : (m n : ℕ) → (m ≡ n) ⊎ (m ≢ n)
same_number zero zero = inl refl
same_number zero (suc n) = inr (λ e. absurd (omega arith))
same_number (suc m) zero = inr (λ e. absurd (omega arith))
same_number (suc m) (suc n) = ⊎_elim (λ e. inl (ap suc e)) (λ never. inr (λ e. never (omega arith))) (same_number m n)

abbrev number_of : ModuleRef → ℕ
number_of r = r.number

-- ---- lists

within_list : {A : Type 0} (xs : List (Option A)) (i : ℕ) (x : A) → get_or xs i None ≡ Some x → i < length xs
within_list [] i x e = absurd (cc e)
within_list (y ∷ xs) zero x e = omega arith
within_list (y ∷ xs) (suc i) x e = let h = within_list xs i x e in omega (arith, h)

stays_behind : {A : Type 0} (xs : List (Option A)) (o : Option A) (j : ℕ) (a : A) → get_or xs j None ≡ Some a → get_or (xs ++ o ∷ []) j None ≡ Some a
stays_behind [] o j a e = absurd (cc e)
stays_behind (x ∷ xs) o zero a e = e
stays_behind (x ∷ xs) o (suc j) a e = stays_behind xs o j a e

comes_behind : {A : Type 0} (xs : List (Option A)) (o : Option A) → get_or (xs ++ o ∷ []) (length xs) None ≡ o
comes_behind [] o = refl
comes_behind (x ∷ xs) o = comes_behind xs o

-- ---- who is of a module

-- who has a place is, or isn't
pub is_user : (rs : List (Option InstanceEntry)) (k place : ℕ) (x : InstanceEntry) (b : Bool) → entry_at rs place ≡ Some x → MatchBool b (IsOf x k) (¬ (IsOf x k)) → MatchBool b (Uses rs k place) (¬ (Uses rs k place))
is_user rs k place x true at is = (x, at, is)
is_user rs k place x false at isnt = λ (y, at2, is). isnt (subst (λ z. IsOf z k) (one_of y x (sym at2 ∙ at)) is)

pub no_user : (rs : List (Option InstanceEntry)) (k place : ℕ) → entry_at rs place ≡ None → ¬ (Uses rs k place)
no_user rs k place none (x, at, is) = none_is x (sym none ∙ at)

-- nobody at a place behind all of them
pub nobody_behind : (rs : List (Option InstanceEntry)) (k n most : ℕ) → length rs ≤ most → most ≤ n → ((p : ℕ) → p < n → ¬ (Uses rs k p)) → ¬ (HasUser rs k)
nobody_behind rs k n most long over none (p, uses) = none p (let a = within_list rs p uses.0 uses.1 in omega (arith, a, long, over)) uses

pub nor_there : (rs : List (Option InstanceEntry)) (k n : ℕ) → ((p : ℕ) → p < n → ¬ (Uses rs k p)) → ¬ (Uses rs k n) → (p : ℕ) → p < n + 1 → ¬ (Uses rs k p)
nor_there rs k n none here p less =
    ⊎_elim (λ (below : p < n). none p below) (λ (above : n ≤ p). let same : n ≡ p = omega (arith, less, above) in subst (λ i. ¬ (Uses rs k i)) same here) (cases_lt p n)

-- ---- what is listed

-- there are as many
pub as_many_listed : (n : ℕ) (ms : List (Option LoadedModule)) (rs : List ModuleRef) (ls : List (Option Loaded)) → AreListed n ms rs ls → length rs ≡ module_count ls
as_many_listed n ms rs [] are = ap (λ (zs : List ModuleRef). length zs) are
as_many_listed n ms rs (None ∷ ls) are = as_many_listed (n + 1) ms rs ls are
as_many_listed n ms rs (Some l ∷ ls) (place, rest, is, kept, more) = let a = ap (λ (zs : List ModuleRef). length zs) is in let b = as_many_listed (n + 1) ms rest ls more in omega (arith, a, b)

rise_from : (n k : ℕ) (rs : List ModuleRef) → n ≤ k → Rise k rs → Rise n rs
rise_from n k [] less rise = tt
rise_from n k (r ∷ rs) less rise = (let a = rise.0 in omega (arith, a, less), rise.1)

-- by rising numbers
pub listed_rise : (n : ℕ) (ms : List (Option LoadedModule)) (rs : List ModuleRef) (ls : List (Option Loaded)) → AreListed n ms rs ls → Rise n rs
listed_rise n ms rs [] are = subst (Rise n) (sym are) tt
listed_rise n ms rs (None ∷ ls) are = rise_from n (n + 1) rs (omega arith) (listed_rise (n + 1) ms rs ls are)
listed_rise n ms rs (Some l ∷ ls) (place, rest, is, kept, more) = subst (Rise n) (sym is) (omega arith, listed_rise (n + 1) ms rest ls more)

-- one that is listed
pub record Listed (n : ℕ) (ms : List (Option LoadedModule)) (ls : List (Option Loaded)) (r : ModuleRef) : Type 0 where
  pub index : ℕ
  pub loaded : Loaded
  pub at : r.number ≡ n + index
  pub there : get_or ls index None ≡ Some loaded
  pub kept : IsKeptAt ms r.number r.place loaded

listed_later : (n : ℕ) (ms : List (Option LoadedModule)) (l : Option Loaded) (ls : List (Option Loaded)) (r : ModuleRef) → Listed (n + 1) ms ls r → Listed n ms (l ∷ ls) r
listed_later n ms l ls r h = record { index = suc h.index; loaded = h.loaded; at = (let e = h.at in omega (arith, e)); there = h.there; kept = h.kept }

pub is_listed : (n : ℕ) (ms : List (Option LoadedModule)) (rs : List ModuleRef) (ls : List (Option Loaded)) (at : ℕ) (r : ModuleRef) → AreListed n ms rs ls → slice_get rs at ≡ Some r → Listed n ms ls r
is_listed n ms rs [] at r are e = absurd (none_is r (ap (λ zs. slice_get zs at) (sym are) ∙ e))
is_listed n ms rs (None ∷ ls) at r are e = listed_later n ms None ls r (is_listed (n + 1) ms rs ls at r are e)
is_listed n ms rs (Some l ∷ ls) zero r (place, rest, is, kept, more) e =
    let same : record { number = n; place = place } ≡ r = one_of _ r (ap (λ zs. slice_get zs 0) (sym is) ∙ e) in
    subst (Listed n ms (Some l ∷ ls)) same (record { index = 0; loaded = l; at = omega arith; there = refl; kept = kept })
is_listed n ms rs (Some l ∷ ls) (suc at) r (place, rest, is, kept, more) e =
    listed_later n ms (Some l) ls r (is_listed (n + 1) ms rest ls at r more (ap (λ zs. slice_get zs (suc at)) (sym is) ∙ e))

-- who isn't listed isn't there
pub isnt_listed : (n : ℕ) (ms : List (Option LoadedModule)) (rs : List ModuleRef) (ls : List (Option Loaded)) (i : ℕ) → AreListed n ms rs ls → HasNoRef rs (n + i) → get_or ls i None ≡ None
isnt_listed n ms rs [] i are none = refl
isnt_listed n ms rs (None ∷ ls) zero are none = refl
isnt_listed n ms rs (None ∷ ls) (suc i) are none =
    let same : n + suc i ≡ (n + 1) + i = omega arith in
    isnt_listed (n + 1) ms rs ls i are (subst (HasNoRef rs) same none)
isnt_listed n ms rs (Some l ∷ ls) zero (place, rest, is, kept, more) none =
    absurd (none 0 (record { number = n; place = place }) (ap (λ zs. slice_get zs 0) is) (omega arith))
isnt_listed n ms rs (Some l ∷ ls) (suc i) (place, rest, is, kept, more) none =
    let same : n + suc i ≡ (n + 1) + i = omega arith in
    isnt_listed (n + 1) ms rest ls i more (λ at r e. subst (λ k. r.number ≢ k) same (none (suc at) r (ap (λ zs. slice_get zs (suc at)) is ∙ e)))

-- the module that is found by its number is the one of that number
pub listed_module_is : (ms : List (Option LoadedModule)) (rs : List ModuleRef) (ls : List (Option Loaded)) (k : ℕ) (r : ModuleRef) (m : LoadedModule) → HoldsModules ms rs ls → HasRef rs k r → module_in ms r.place ≡ Some m → (get_or ls k None ≡ Some (loaded_as m)) × (m.number ≡ k)
listed_module_is ms rs ls k r m keeps has is =
    let h = is_listed 0 ms rs ls has.0 r keeps.listed has.1 in
    let z = h.kept in
    let same : z.kept ≡ m = one_of z.kept m (sym z.lies ∙ is) in
    let number : m.number ≡ k = ap (λ (x : LoadedModule). x.number) (sym same) ∙ z.numbered ∙ has.2 in
    (ap (λ i. get_or ls i None) (sym number) ∙ keeps.all r.place m is, number)

pub listed_is_there : (ms : List (Option LoadedModule)) (rs : List ModuleRef) (ls : List (Option Loaded)) (k at : ℕ) (r : ModuleRef) → HoldsModules ms rs ls → slice_get rs at ≡ Some r → r.number ≡ k → (l : Loaded) × (get_or ls k None ≡ Some l)
listed_is_there ms rs ls k at r keeps e number =
    let h = is_listed 0 ms rs ls at r keeps.listed e in
    let here : k ≡ h.index = (let a = h.at in omega (arith, a, number)) in
    (h.loaded, ap (λ i. get_or ls i None) here ∙ h.there)

pub listed_has_place : (ms : List (Option LoadedModule)) (rs : List ModuleRef) (ls : List (Option Loaded)) (k : ℕ) (r : ModuleRef) → HoldsModules ms rs ls → HasRef rs k r → module_in ms r.place ≡ None → ⊥
listed_has_place ms rs ls k r keeps has none = let h = is_listed 0 ms rs ls has.0 r keeps.listed has.1 in let z = h.kept in none_is z.kept (sym none ∙ z.lies)

pub none_listed : (ms : List (Option LoadedModule)) (rs : List ModuleRef) (ls : List (Option Loaded)) (k : ℕ) → HoldsModules ms rs ls → (Rise 0 rs → HasNoRef rs k) → get_or ls k None ≡ None
none_listed ms rs ls k keeps none =
    let zeroth : k ≡ 0 + k = omega arith in
    isnt_listed 0 ms rs ls k keeps.listed (subst (HasNoRef rs) zeroth (none (listed_rise 0 ms rs ls keeps.listed)))

-- ---- a search by number

least : (k : ℕ) (rs : List ModuleRef) (j : ℕ) (d : ModuleRef) → Rise k rs → j < length rs → k ≤ number_of (get_or rs j d)
least k [] j d rise within = absurd (omega (arith, within))
least k (r ∷ rs) zero d rise within = rise.0
least k (r ∷ rs) (suc j) d rise within =
    let e : j < length rs = omega (arith, within) in let n = least (r.number + 1) rs j d rise.1 e in let m = rise.0 in omega (arith, n, m)

rise_strictly : (k : ℕ) (rs : List ModuleRef) (i j : ℕ) (d : ModuleRef) → Rise k rs → i < j → j < length rs → number_of (get_or rs i d) < number_of (get_or rs j d)
rise_strictly k [] i j d rise less within = absurd (omega (arith, within))
rise_strictly k (r ∷ rs) i zero d rise less within = absurd (omega (arith, less))
rise_strictly k (r ∷ rs) zero (suc j) d rise less within = let e : j < length rs = omega (arith, within) in let n = least (r.number + 1) rs j d rise.1 e in omega (arith, n)
rise_strictly k (r ∷ rs) (suc i) (suc j) d rise less within = rise_strictly (r.number + 1) rs i j d rise.1 (omega (arith, less)) (omega (arith, within))

pub rise_so : (k : ℕ) (rs : List ModuleRef) → Rise k rs → IsNonDecreasingBy (λ (r : ModuleRef). r.number) rs
rise_so k rs rise i j d below within =
    ⊎_elim
    (λ (less : i < j). let n = rise_strictly k rs i j d rise less within in omega (arith, n))
    (λ (above : j ≤ i).
    let same : i ≡ j = omega (arith, below, above) in
    let equal : number_of (get_or rs i d) ≡ number_of (get_or rs j d) = ap (λ n. number_of (get_or rs n d)) same in
    omega (arith, equal))
    (cases_lt i j)

pub split_at : (rs : List ModuleRef) (number at : ℕ) → IsPartitionPoint (λ (r : ModuleRef). ltb r.number number ≡ true) (λ (r : ModuleRef). ltb r.number number ≡ false) rs at → IsPartitionPoint (λ (r : ModuleRef). r.number < number) (λ (r : ModuleRef). number ≤ r.number) rs at
split_at rs number at split = (
  λ k d from less. ltb-true _ _ (split.0 k d from less),
  λ k d from less. ltb-false _ _ (split.1 k d from less),
)

-- those before this index have lower numbers, those from it on none that is lower, and it hasn't the number
pub none_has : (rs : List ModuleRef) (number at : ℕ) → Rise 0 rs → IsPartitionPoint (λ (r : ModuleRef). r.number < number) (λ (r : ModuleRef). number ≤ r.number) rs at
    → ((r : ModuleRef) → slice_get rs at ≡ Some r → r.number ≢ number) → HasNoRef rs number
none_has rs number at rise split other j r e same =
    let within : j < length rs = slice_get_within rs j r e in
    let here : number_of (get_or rs j r) ≡ r.number = ap number_of (get_or_from_slice_get rs j r r e) in
    let before : j < at → ⊥ = λ less. let n = split.0 j r (omega arith) less in omega (arith, n, here, same) in
    let behind : at ≤ j → ⊥ = λ above.
    ⊎_elim
    (λ (further : at < j).
    let low = split.1 at r (omega arith) (omega (arith, further, within)) in
    let n = rise_strictly 0 rs at j r rise further within in
    omega (arith, n, low, here, same))
    (λ (most : j ≤ at).
    let is : j ≡ at = omega (arith, most, above) in
    other r (subst (λ k. slice_get rs k ≡ Some r) is e) same)
    (cases_lt at j) in
    ⊎_elim before behind (cases_lt j at)

-- ---- one comes

-- what has a place has it still
abbrev StillIn : List (Option LoadedModule) → List (Option LoadedModule) → Type 0
StillIn ms ms2 = (place : ℕ) (m : LoadedModule) → module_in ms place ≡ Some m → module_in ms2 place ≡ Some m

kept_still : (ms ms2 : List (Option LoadedModule)) (number place : ℕ) (l : Loaded) → StillIn ms ms2 → IsKeptAt ms number place l → IsKeptAt ms2 number place l
kept_still ms ms2 number place l still z = record { kept = z.kept; lies = still place z.kept z.lies; numbered = z.numbered; loaded = z.loaded }

listed_on : (n : ℕ) (ms ms2 : List (Option LoadedModule)) (rs : List ModuleRef) (ls : List (Option Loaded)) (place number : ℕ) (l : Loaded) → StillIn ms ms2 → AreListed n ms rs ls → number ≡ n + length ls → IsKeptAt ms2 number place l
    → AreListed n ms2 (rs ++ record { number = number; place = place } ∷ []) (ls ++ Some l ∷ [])
listed_on n ms ms2 rs [] place number l still are at kept =
    let here : number ≡ n = omega (arith, at) in
    let r : ModuleRef = record { number = n; place = place } in
    (place, [], ap (λ zs. zs ++ record { number = number; place = place } ∷ []) are ∙ ap (λ k. let z : ModuleRef = record { number = k; place = place } in z ∷ []) here, subst (λ k. IsKeptAt ms2 k place l) here kept, refl)
listed_on n ms ms2 rs (None ∷ ls) place number l still are at kept = listed_on (n + 1) ms ms2 rs ls place number l still are (omega (arith, at)) kept
listed_on n ms ms2 rs (Some z ∷ ls) place number l still (p, rest, is, first, more) at kept =
    (p, rest ++ record { number = number; place = place } ∷ [], ap (λ zs. zs ++ record { number = number; place = place } ∷ []) is, kept_still ms ms2 n p z still first, listed_on (n + 1) ms ms2 rest ls place number l still more (omega (arith, at)) kept)

pub one_comes : (ms ms2 : List (Option LoadedModule)) (rs rs2 : List ModuleRef) (ls : List (Option Loaded)) (number : ℕ) {linked : _} {bytes : List ℕ} → HoldsModules ms rs ls → (k : KeepsModule ms rs number linked bytes ms2 rs2) → number ≡ length ls
    → HoldsModules ms2 rs2 (ls ++ Some (loaded_as k.kept) ∷ []) × StillIn ms ms2
one_comes ms ms2 rs rs2 ls number keeps k at =
    let place = k.place in
    let new = k.kept in
    let more = ls ++ Some (loaded_as new) ∷ [] in
    let far : (p : ℕ) (m : LoadedModule) → module_in ms p ≡ Some m → p ≢ place = λ p m is same. none_is m (sym k.vacant ∙ ap (module_in ms) (sym same) ∙ is) in
    let still : StillIn ms ms2 = λ p m is. k.others p (far p m is) ∙ is in
    let kept : IsKeptAt ms2 number place (loaded_as new) = record { kept = new; lies = k.lies; numbered = k.numbered; loaded = refl } in
    let listed : AreListed 0 ms2 (rs ++ record { number = number; place = place } ∷ []) more = listed_on 0 ms ms2 rs ls place number (loaded_as new) still keeps.listed (omega (arith, at)) kept in
    let was : (p : ℕ) (m : LoadedModule) → module_in ms2 p ≡ Some m → ((p ≡ place) × (new ≡ m)) ⊎ (module_in ms p ≡ Some m) = λ p m is.
    ⊎_elim
    (λ (same : p ≡ place). inl (same, one_of new m (sym k.lies ∙ ap (module_in ms2) (sym same) ∙ is)))
    (λ (other : p ≢ place). inr (sym (k.others p other) ∙ is))
    (same_number p place) in
    let here : new.number ≡ length ls = k.numbered ∙ at in
    let below : (p : ℕ) (m : LoadedModule) → module_in ms p ≡ Some m → m.number < length ls = λ p m is. within_list ls m.number (loaded_as m) (keeps.all p m is) in (
      record {
        listed = subst (λ zs. AreListed 0 ms2 zs more) (sym k.listed) listed;
        all = λ p m is.
            ⊎_elim
            (λ (h : (p ≡ place) × (new ≡ m)). subst (λ (z : LoadedModule). get_or more z.number None ≡ Some (loaded_as z)) h.1 (ap (λ i. get_or more i None) here ∙ comes_behind ls (Some (loaded_as new))))
            (λ (h : module_in ms p ≡ Some m). stays_behind ls (Some (loaded_as new)) m.number (loaded_as m) (keeps.all p m h))
            (was p m is);
        once = λ p q m n is is2 same.
            ⊎_elim
            (λ (h : (p ≡ place) × (new ≡ m)).
            ⊎_elim
            (λ (g : (q ≡ place) × (new ≡ n)). h.0 ∙ sym g.0)
            (λ (g : module_in ms q ≡ Some n). let less = below q n g in let number = ap (λ (z : LoadedModule). z.number) h.1 in absurd (omega (arith, less, here, number, same)))
            (was q n is2))
            (λ (h : module_in ms p ≡ Some m).
            ⊎_elim
            (λ (g : (q ≡ place) × (new ≡ n)). let less = below p m h in let number = ap (λ (z : LoadedModule). z.number) g.1 in absurd (omega (arith, less, here, number, same)))
            (λ (g : module_in ms q ≡ Some n). keeps.once p q m n h g same)
            (was q n is2))
            (was p m is);
      },
      still,
    )

-- ---- one goes

-- what has another number than this one has its place still
abbrev OthersIn : ℕ → List (Option LoadedModule) → List (Option LoadedModule) → Type 0
OthersIn k ms ms2 = (place : ℕ) (m : LoadedModule) → module_in ms place ≡ Some m → m.number ≢ k → module_in ms2 place ≡ Some m

kept_beside : (ms ms2 : List (Option LoadedModule)) (k number place : ℕ) (l : Loaded) → OthersIn k ms ms2 → number ≢ k → IsKeptAt ms number place l → IsKeptAt ms2 number place l
kept_beside ms ms2 k number place l others far z = record { kept = z.kept; lies = others place z.kept z.lies (λ e. far (sym z.numbered ∙ e)); numbered = z.numbered; loaded = z.loaded }

listed_above : (n k : ℕ) (ms ms2 : List (Option LoadedModule)) (rs : List ModuleRef) (ls : List (Option Loaded)) → OthersIn k ms ms2 → k < n → AreListed n ms rs ls → AreListed n ms2 rs ls
listed_above n k ms ms2 rs [] others less are = are
listed_above n k ms ms2 rs (None ∷ ls) others less are = listed_above (n + 1) k ms ms2 rs ls others (omega (arith, less)) are
listed_above n k ms ms2 rs (Some l ∷ ls) others less (p, rest, is, first, more) =
    (p, rest, is, kept_beside ms ms2 k n p l others (λ e. absurd (omega (arith, e, less))) first, listed_above (n + 1) k ms ms2 rest ls others (omega (arith, less)) more)

-- numbers of those that are listed from a number on
at_least : (n : ℕ) (ms : List (Option LoadedModule)) (rs : List ModuleRef) (ls : List (Option Loaded)) (at : ℕ) (r : ModuleRef) → AreListed n ms rs ls → slice_get rs at ≡ Some r → n ≤ r.number
at_least n ms rs ls at r are e = let h = is_listed n ms rs ls at r are e in let a = h.at in omega (arith, a)

listed_without : (n : ℕ) (ms ms2 : List (Option LoadedModule)) (rs : List ModuleRef) (ls : List (Option Loaded)) (i at : ℕ) (r : ModuleRef) → AreListed n ms rs ls → slice_get rs at ≡ Some r → r.number ≡ n + i → OthersIn (n + i) ms ms2
    → AreListed n ms2 (remove rs at) (slice_set ls i None)
listed_without n ms ms2 rs [] i at r are e number others = absurd (none_is r (ap (λ zs. slice_get zs at) (sym are) ∙ e))
listed_without n ms ms2 rs (None ∷ ls) zero at r are e number others = absurd (let a = at_least (n + 1) ms rs ls at r are e in omega (arith, a, number))
listed_without n ms ms2 rs (None ∷ ls) (suc i) at r are e number others =
    let same : n + suc i ≡ (n + 1) + i = omega arith in
    listed_without (n + 1) ms ms2 rs ls i at r are e (number ∙ same) (subst (λ k. OthersIn k ms ms2) same others)
listed_without n ms ms2 rs (Some l ∷ ls) zero zero r (p, rest, is, first, more) e number others =
    let here : n + 0 ≡ n = omega arith in
    subst (λ zs. AreListed (n + 1) ms2 (remove zs 0) ls) (sym is) (listed_above (n + 1) n ms ms2 rest ls (subst (λ k. OthersIn k ms ms2) here others) (omega arith) more)
listed_without n ms ms2 rs (Some l ∷ ls) (suc i) zero r (p, rest, is, first, more) e number others =
    let same = one_of _ r (ap (λ zs. slice_get zs 0) (sym is) ∙ e) in
    let first_number : n ≡ r.number = ap number_of same in
    absurd (omega (arith, first_number, number))
listed_without n ms ms2 rs (Some l ∷ ls) zero (suc at) r (p, rest, is, first, more) e number others =
    absurd (let a = at_least (n + 1) ms rest ls at r more (ap (λ zs. slice_get zs (suc at)) (sym is) ∙ e) in omega (arith, a, number))
listed_without n ms ms2 rs (Some l ∷ ls) (suc i) (suc at) r (p, rest, is, first, more) e number others =
    let same : n + suc i ≡ (n + 1) + i = omega arith in
    let later = listed_without (n + 1) ms ms2 rest ls i at r more (ap (λ zs. slice_get zs (suc at)) (sym is) ∙ e) (number ∙ same) (subst (λ k. OthersIn k ms ms2) same others) in
    (p, remove rest at, ap (λ zs. remove zs (suc at)) is, kept_beside ms ms2 (n + suc i) n p l others (λ z. absurd (omega (arith, z))) first, later)

pub one_goes : (ms ms2 : List (Option LoadedModule)) (rs rs2 : List ModuleRef) (ls : List (Option Loaded)) (k at : ℕ) (r : ModuleRef) → HoldsModules ms rs ls → slice_get rs at ≡ Some r → r.number ≡ k → LeavesModule ms rs at r ms2 rs2
    → HoldsModules ms2 rs2 (slice_set ls k None) × OthersIn k ms ms2
one_goes ms ms2 rs rs2 ls k at r keeps e number leaves =
    let h = is_listed 0 ms rs ls at r keeps.listed e in
    let z = h.kept in
    let far : (p : ℕ) (m : LoadedModule) → module_in ms p ≡ Some m → m.number ≢ k → p ≢ r.place = λ p m is other same.
    other (ap (λ (x : LoadedModule). x.number) (one_of m z.kept (sym is ∙ ap (module_in ms) same ∙ z.lies)) ∙ z.numbered ∙ number) in
    let others : OthersIn k ms ms2 = λ p m is other. leaves.others p (far p m is other) ∙ is in
    let zeroth : k ≡ 0 + k = omega arith in
    let listed : AreListed 0 ms2 (remove rs at) (slice_set ls k None) = listed_without 0 ms ms2 rs ls k at r keeps.listed e (number ∙ zeroth) (subst (λ i. OthersIn i ms ms2) zeroth others) in
    let was : (p : ℕ) (m : LoadedModule) → module_in ms2 p ≡ Some m → (p ≢ r.place) × (module_in ms p ≡ Some m) = λ p m is.
    (let other : p ≢ r.place = λ same. none_is m (sym leaves.gone ∙ ap (module_in ms2) (sym same) ∙ is) in (other, sym (leaves.others p other) ∙ is)) in
    let differs : (p : ℕ) (m : LoadedModule) → module_in ms2 p ≡ Some m → m.number ≢ k = λ p m is same.
    (let a = was p m is in a.0 (keeps.once p r.place m z.kept a.1 z.lies (same ∙ sym (z.numbered ∙ number)))) in (
      record {
        listed = subst (λ zs. AreListed 0 ms2 zs (slice_set ls k None)) (sym leaves.refs_are) listed;
        all = λ p m is. get_or-set_other ls k m.number None None (differs p m is) ∙ keeps.all p m (was p m is).1;
        once = λ p q m n is is2 same. keeps.once p q m n (was p m is).1 (was q n is2).1 same;
      },
      others,
    )
