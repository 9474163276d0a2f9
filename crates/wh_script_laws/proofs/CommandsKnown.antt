-- What a script knows of its host, where one instance of it changes.
use Rattle.std.proofs.Common.{◌≡◌, ℕ, ◌+◌, ◌-◌, Bool, true, false, if◌then◌else◌, List, [], ◌∷◌, ◌++◌, length, get_or, slice_get, slice_set, Option, Some, None, zero, suc, refl, sym, ap, subst, ◌∙◌, arith, rules}
use Rattle.std.specs.List.{AllZip}
use Rattle.std.proofs.lemmas.Option.{none-some, same_Some}
use Rattle.wh_model.specs.Execution.{Outcome, returned, stopped, cancelled, dead, pending, Call}
use Rattle.wh_space_model.specs.declared.Tax.{Tax}
use Rattle.wh_space_model.specs.{Space, minima, spreads, IsSound}
use Rattle.wh_script_laws.proofs.SumsChange.{IsQuiet}
use Rattle.wh_host_model.specs.Host.{Tenant, Loaded, World, journal, journal_calls, with_tenant, loaded_of, IsLive}
use Rattle.wh_host_model.specs.{Params, is_open}
use Rattle.wh_script_model.specs.Settings.{Settings}
use Rattle.wh_script_model.specs.ScriptState.{ScriptState}
use Rattle.wh_script_model.specs.{NamedInstance, live_sum, with_instance, ComesTo, had_ended, goes_on, IsTenantOf}
use Rattle.wh_space_model.proofs.Putting.{get_or_is}
use Rattle.wh_script_laws.specs.Following.{AreSame, IsFollowed, is_there, is_gone, IsPlaced, Knows, StaysWhole, StandsSame}

-- ---- two lists side by side

pub zip_there : {A B : Type 0} (R : A → B → Type 0) (xs : List A) (ys : List B) (i : ℕ) (x : A) → AllZip R xs ys
    → slice_get xs i ≡ Some x → (y : B) × (slice_get ys i ≡ Some y) × R x y
zip_there R [] [] i x h e = absurd (cc e)
zip_there R [] (y ∷ ys) i x h e = absurd h
zip_there R (a ∷ xs) [] i x h e = absurd h
zip_there R (a ∷ xs) (y ∷ ys) zero x h e = (y, refl, subst (λ z. R z y) (let same : a ≡ x = cc e in same) h.0)
zip_there R (a ∷ xs) (y ∷ ys) (suc i) x h e = zip_there R xs ys i x h.1 e

pub zip_long : {A B : Type 0} (R : A → B → Type 0) (xs : List A) (ys : List B) → AllZip R xs ys → length xs ≡ length ys
zip_long R [] [] h = refl
zip_long R [] (y ∷ ys) h = absurd h
zip_long R (a ∷ xs) [] h = absurd h
zip_long R (a ∷ xs) (y ∷ ys) h = ap suc (zip_long R xs ys h.1)

pub zip_map : {A B : Type 0} (R S : A → B → Type 0) (xs : List A) (ys : List B) → ((x : A) (y : B) → R x y → S x y)
    → AllZip R xs ys → AllZip S xs ys
zip_map R S [] [] f h = tt
zip_map R S [] (y ∷ ys) f h = absurd h
zip_map R S (a ∷ xs) [] f h = absurd h
zip_map R S (a ∷ xs) (y ∷ ys) f h = (f a y h.0, zip_map R S xs ys f h.1)

pub zip_last : {A B : Type 0} (R : A → B → Type 0) (xs : List A) (ys : List B) (x : A) (y : B) → AllZip R xs ys → R x y
    → AllZip R (xs ++ x ∷ []) (ys ++ y ∷ [])
zip_last R [] [] x y h r = (r, tt)
zip_last R [] (b ∷ ys) x y h r = absurd h
zip_last R (a ∷ xs) [] x y h r = absurd h
zip_last R (a ∷ xs) (b ∷ ys) x y h r = (h.0, zip_last R xs ys x y h.1 r)

pub zip_set : {A B : Type 0} (R : A → B → Type 0) (xs : List A) (ys : List B) (i : ℕ) (x : A) (y : B) → AllZip R xs ys
    → R x y → AllZip R (slice_set xs i x) (slice_set ys i y)
zip_set R [] [] i x y h r = tt
zip_set R [] (b ∷ ys) i x y h r = absurd h
zip_set R (a ∷ xs) [] i x y h r = absurd h
zip_set R (a ∷ xs) (b ∷ ys) zero x y h r = (r, h.1)
zip_set R (a ∷ xs) (b ∷ ys) (suc i) x y h r = (h.0, zip_set R xs ys i x y h.1 r)

-- the second list alone is another
pub zip_over : {A B : Type 0} (R : A → B → Type 0) (xs : List A) (ys : List B) (i : ℕ) (x : A) (y : B) → AllZip R xs ys
    → slice_get xs i ≡ Some x → R x y → AllZip R xs (slice_set ys i y)
zip_over R [] [] i x y h e r = tt
zip_over R [] (b ∷ ys) i x y h e r = absurd h
zip_over R (a ∷ xs) [] i x y h e r = absurd h
zip_over R (a ∷ xs) (b ∷ ys) zero x y h e r = (subst (λ z. R z y) (let same : x ≡ a = cc e in same) r, h.1)
zip_over R (a ∷ xs) (b ∷ ys) (suc i) x y h e r = (h.0, zip_over R xs ys i x y h.1 e r)

pub last_holds : {A : Type 0} (xs : List (Option A)) (y : Option A) (i : ℕ) (x : A) → get_or xs i None ≡ Some x
    → get_or (xs ++ y ∷ []) i None ≡ Some x
last_holds [] y i x e = absurd (cc e)
last_holds (o ∷ xs) y zero x e = e
last_holds (o ∷ xs) y (suc i) x e = last_holds xs y i x e

pub last_there : {A : Type 0} (xs : List A) (y : A) (i : ℕ) (x : A) → slice_get xs i ≡ Some x
    → slice_get (xs ++ y ∷ []) i ≡ Some x
last_there [] y i x e = absurd (cc e)
last_there (a ∷ xs) y zero x e = e
last_there (a ∷ xs) y (suc i) x e = last_there xs y i x e

-- ---- sums over instances

-- the sum from here on, by whether it is released
abbrev pub sum_on : Bool → ℕ → ℕ → ℕ
sum_on gone n rest = if gone then rest else n + rest

pub sum_set : (f : Params → ℕ) (gs : List NamedInstance) (i : ℕ) (g g2 : NamedInstance) → slice_get gs i ≡ Some g → g2.params ≡ g.params
    → g2.is_released ≡ g.is_released → live_sum f (slice_set gs i g2) ≡ live_sum f gs
sum_set f [] i g g2 e p r = refl
sum_set f (a ∷ gs) zero g g2 e p r =
    let same : g ≡ a = cc e in
    ap (λ b. sum_on b (f g2.params) (live_sum f gs)) r ∙ ap (λ q. sum_on g.is_released (f q) (live_sum f gs)) p
    ∙ ap (λ (h : NamedInstance). sum_on h.is_released (f h.params) (live_sum f gs)) same
sum_set f (a ∷ gs) (suc i) g g2 e p r = ap (λ n. sum_on a.is_released (f a.params) n) (sum_set f gs i g g2 e p r)

pub sum_last : (f : Params → ℕ) (gs : List NamedInstance) (g : NamedInstance) → g.is_released ≡ false
    → live_sum f (gs ++ g ∷ []) ≡ live_sum f gs + f g.params
sum_last f [] g r = ap (λ b. sum_on b (f g.params) 0) r ∙ omega arith
sum_last f (a ∷ gs) g r =
    ap (λ n. sum_on a.is_released (f a.params) n) (sum_last f gs g r) ∙ go a.is_released where
      go : (b : Bool) → sum_on b (f a.params) (live_sum f gs + f g.params) ≡ sum_on b (f a.params) (live_sum f gs) + f g.params
      go true = refl
      go false = omega arith

-- one goes
pub sum_goes : (f : Params → ℕ) (gs : List NamedInstance) (i : ℕ) (g : NamedInstance) → slice_get gs i ≡ Some g → g.is_released ≡ false
    → live_sum f (slice_set gs i (record g { is_released = true })) + f g.params ≡ live_sum f gs
sum_goes f [] i g e r = absurd (cc e)
sum_goes f (a ∷ gs) zero g e r =
    let same : g ≡ a = cc e in
    let now : sum_on g.is_released (f g.params) (live_sum f gs) ≡ f g.params + live_sum f gs
    = ap (λ b. sum_on b (f g.params) (live_sum f gs)) r in
    let there = ap (λ (h : NamedInstance). sum_on h.is_released (f h.params) (live_sum f gs)) same in
    let turned : live_sum f gs + f g.params ≡ f g.params + live_sum f gs = omega arith in
    turned ∙ sym now ∙ there
sum_goes f (a ∷ gs) (suc i) g e r = go a.is_released (sum_goes f gs i g e r) where
  go : (b : Bool) → live_sum f (slice_set gs i (record g { is_released = true })) + f g.params ≡ live_sum f gs
      → sum_on b (f a.params) (live_sum f (slice_set gs i (record g { is_released = true }))) + f g.params
      ≡ sum_on b (f a.params) (live_sum f gs)
  go true h = h
  go false h = omega (arith, h)

-- ---- an instance of the host

-- each call has come to itself
come_there : (c : Call) → ComesTo c c
come_there c = go c.outcome refl where
  none_is_open : (o : Outcome) → c.outcome ≡ o → is_open o ≡ false → ComesTo c c
  none_is_open o e closed = had_ended (ap is_open e ∙ closed)

  go : (o : Outcome) → c.outcome ≡ o → ComesTo c c
  go (returned results) e = none_is_open (returned results) e refl
  go (stopped trap) e = none_is_open (stopped trap) e refl
  go cancelled e = none_is_open cancelled e refl
  go dead e = none_is_open dead e refl
  go pending e = goes_on (ap is_open e) (λ other. cc (e, other))

pub all_come : (cs ds : List Call) → cs ≡ ds → AllZip ComesTo cs ds
all_come cs ds e = subst (λ x. AllZip ComesTo cs x) e (go cs) where
  go : (xs : List Call) → AllZip ComesTo xs xs
  go [] = tt
  go (x ∷ xs) = (come_there x, go xs)

-- all modules of the first host are those of the second
abbrev pub HasModulesOf : World → World → Type 0
HasModulesOf w w2 = (k : ℕ) (l : Loaded) → loaded_of w k ≡ Some l → loaded_of w2 k ≡ Some l

tenant_there : (w w2 : World) (t : Tenant) (g : NamedInstance) → HasModulesOf w w2 → IsTenantOf w t g → IsTenantOf w2 t g
tenant_there w w2 t g more of_one = record {
  loaded = of_one.loaded;
  is_loaded = more t.of of_one.loaded of_one.is_loaded;
  of_one = of_one.of_one;
  params = of_one.params;
  inst = of_one.inst;
  is_live = of_one.is_live;
  calls = of_one.calls;
}

pub followed_there : (w w2 : World) (g : NamedInstance) (o : Option Tenant) → HasModulesOf w w2 → IsFollowed AreSame StandsSame w g o
    → IsFollowed AreSame StandsSame w2 g o
followed_there w w2 g None more (is_gone gone) = is_gone gone
followed_there w w2 g (Some t) more (is_there of_one same none) = is_there (tenant_there w w2 t g more of_one) same none

-- what an instance of a script is on its host: it was released, or it is the live one of the number at the place
pub data IsFound (w : World) (g : NamedInstance) (i place : ℕ) : Type 0 where
  found_gone : slice_get w.tenants i ≡ Some None → g.is_released ≡ true → IsFound w g i place
  found_live : (t : Tenant) → slice_get w.tenants i ≡ Some (Some t) → IsLive w (record { place = place; number = i }) t
      → IsTenantOf w t g → g.calls ≡ journal_calls (journal t)
      → StandsSame g t → IsFound w g i place

pub found : {settings : Settings} {w : World} {m : ScriptState} {places : List ℕ} (i place : ℕ) (g : NamedInstance)
    → Knows settings w m places → slice_get m.instances i ≡ Some g → slice_get places i ≡ Some place → IsFound w g i place
found {w = w} {m = m} {places = places} i place g known has lies =
    let there = zip_there (IsFollowed AreSame StandsSame w) m.instances w.tenants i g known.instances has in
    let placed = zip_there IsPlaced places w.tenants i place known.placed lies in
    let one : there.0 ≡ placed.0 = same_Some there.0 placed.0 (sym there.1 ∙ placed.1) in
    go there.0 there.1 there.2 (subst (IsPlaced place) (sym one) placed.2) where
      go : (o : Option Tenant) → slice_get w.tenants i ≡ Some o → IsFollowed AreSame StandsSame w g o → IsPlaced place o
          → IsFound w g i place
      go None at (is_gone gone) here = found_gone at gone
      go (Some t) at (is_there of_one same none) here =
          found_live t at (get_or_is w.tenants i (Some t) None at, here) of_one same none

-- the live one is this one
pub live_same : (w : World) (i place : ℕ) (t u : Tenant) → IsLive w (record { place = place; number = i }) t
    → IsLive w (record { place = place; number = i }) u → t ≡ u
live_same w i place t u a b = same_Some t u (sym a.0 ∙ b.0)

-- and one that is gone isn't
pub not_live : (w : World) (i place : ℕ) (t : Tenant) → slice_get w.tenants i ≡ Some None
    → ¬ (IsLive w (record { place = place; number = i }) t)
not_live w i place t gone live = none-some t (sym (get_or_is w.tenants i None None gone) ∙ live.0)

-- ---- one instance changes

-- An instance of a script and the one of the host: the same as before but for the calls.
pub record IsNext (w : World) (g g2 : NamedInstance) (t2 : Tenant) (place : ℕ) : Type 0 where
  pub params : g2.params ≡ g.params
  pub gone : g2.is_released ≡ g.is_released
  pub of_one : IsTenantOf w t2 g2
  pub calls : g2.calls ≡ journal_calls (journal t2)
  pub stands : StandsSame g2 t2
  pub lies : t2.place ≡ place

-- the calls of one are these now, and it is blocked on this fault
pub tenant_calls : (w : World) (t t2 : Tenant) (g : NamedInstance) (calls : List Call) (stands : Option ℕ) → IsTenantOf w t g → t2.of ≡ t.of
    → t2.params ≡ t.params → t2.inst ≡ t.inst → calls ≡ journal_calls (journal t2)
    → IsTenantOf w t2 (record g { calls = calls; at_fault = stands })
tenant_calls w t t2 g calls stands of_one of params inst same = record {
  loaded = of_one.loaded;
  is_loaded = ap (loaded_of w) of ∙ of_one.is_loaded;
  of_one = of_one.of_one;
  params = of_one.params ∙ sym params;
  inst = of_one.inst ∙ sym inst;
  is_live = of_one.is_live;
  calls = all_come calls (journal_calls (journal t2)) same;
}

pub changed : {settings : Settings} {w : World} {m : ScriptState} {places : List ℕ} (i place : ℕ) (g g2 : NamedInstance) (t2 : Tenant)
    (s2 : Space) → Knows settings w m places → slice_get m.instances i ≡ Some g → slice_get places i ≡ Some place
    → StaysWhole w.space s2 → minima s2 ≡ minima w.space → spreads s2 ≡ spreads w.space → IsNext w g g2 t2 place
    → Knows settings (with_tenant w i (Some t2) s2) (with_instance m i g2) places
changed {w = w} {m = m} {places = places} i place g g2 t2 s2 known has lies whole least most new =
    let w2 : World = with_tenant w i (Some t2) s2 in
    let stay = zip_map (IsFollowed AreSame StandsSame w) (IsFollowed AreSame StandsSame w2) m.instances w.tenants
    (λ h o. followed_there w w2 h o (λ k l e. e)) known.instances in
    record {
      frames = whole.frames ∙ known.frames;
      slots = whole.slots ∙ known.slots;
      tax_num = ap (λ (tax : Tax). tax.num) whole.tax ∙ known.tax_num;
      tax_den = ap (λ (tax : Tax). tax.den) whole.tax ∙ known.tax_den;
      none_out = whole.none_out ∙ known.none_out;
      minima = least ∙ known.minima ∙ sym (sum_set (λ p. p.min) m.instances i g g2 has new.params new.gone);
      spreads = search (rules, sum_set);
      modules = known.modules;
      instances = zip_set (IsFollowed AreSame StandsSame w2) m.instances w.tenants i g2 (Some t2) stay
          (is_there (tenant_there w w2 t2 g2 (λ k l e. e) new.of_one) new.calls new.stands);
      placed = zip_over IsPlaced places w.tenants i place (Some t2) known.placed lies new.lies;
    }

-- ---- the memory of a host that is known

pub quiet_before : {settings : Settings} {w : World} {m : ScriptState} {places : List ℕ} → IsSound w.space
    → Knows settings w m places → IsQuiet w.space
quiet_before sound known = record { sound = sound; none_out = known.none_out }

pub quiet_after : {settings : Settings} {w : World} {m : ScriptState} {places : List ℕ} (s2 : Space) → IsSound s2
    → Knows settings w m places → StaysWhole w.space s2 → IsQuiet s2
quiet_after s2 sound known whole = record { sound = sound; none_out = whole.none_out ∙ known.none_out }
