-- A name is given once, so that what has it is one; and what modules and instances began as, they stay.
use Rattle.std.proofs.Common.{◌≡◌, ℕ, zero, suc, ◌⊎◌, ⊎_elim, inl, inr, List, [], ◌∷◌, ◌++◌, map, length, slice_get, slice_set, Some, refl, sym, ap, subst, ◌∙◌, rules}
use Rattle.std.specs.List.{AllZip, AllByRecursion}
use Rattle.std.proofs.lemmas.List.{map_push}
use Rattle.std.proofs.lemmas.Option.{none-some, same_Some}
use Rattle.wh_model.specs.Format.{Module}
use Rattle.wh_model.specs.Validity.Valid.{Valid}
use Rattle.wh_script_model.specs.{Reply, NamedModule, NamedInstance, Invoked, empty_script, HasModule, NoModule, HasInstance, LacksInstance, RunsAlone, is_gone, has_run, PrintsStart, has_none, has_one, PrintStarts, HasBegun}
use Rattle.wh_script_model.specs.ScriptState.{ScriptState}
use Rattle.wh_script_model.specs.Drains.{Drains}
use Rattle.wh_script_model.proofs.Begun.{is_one}
use Rattle.wh_script_laws.proofs.CommandsKnown.{zip_over}

-- ---- lists

-- each item stands at one place
abbrev pub AreApart : {A : Type 0} → List A → Type 0
AreApart {A} xs = (i j : ℕ) (x : A) → slice_get xs i ≡ Some x → slice_get xs j ≡ Some x → i ≡ j

map_there : {A B : Type 0} (f : A → B) (xs : List A) (i : ℕ) (x : A) → slice_get xs i ≡ Some x
    → slice_get (map f xs) i ≡ Some (f x)
map_there f [] i x e = absurd (none-some x e)
map_there f (y ∷ xs) zero x e = ap (λ z. Some (f z)) (same_Some y x e)
map_there f (y ∷ xs) (suc i) x e = map_there f xs i x e

map_from : {A B : Type 0} (f : A → B) (xs : List A) (i : ℕ) (y : B) → slice_get (map f xs) i ≡ Some y
    → (x : A) × (slice_get xs i ≡ Some x) × (f x ≡ y)
map_from f [] i y e = absurd (none-some y e)
map_from f (x ∷ xs) zero y e = (x, refl, same_Some (f x) y e)
map_from f (x ∷ xs) (suc i) y e = map_from f xs i y e

-- what was added stands behind the others
push_place : {A : Type 0} (xs : List A) (i : ℕ) (y x : A) → slice_get (xs ++ y ∷ []) i ≡ Some x
    → ((i ≡ length xs) × (x ≡ y)) ⊎ (slice_get xs i ≡ Some x)
push_place [] zero y x e = inl (refl, sym (same_Some y x e))
push_place [] (suc i) y x e = absurd (none-some x e)
push_place (z ∷ xs) zero y x e = inr e
push_place {A} (z ∷ xs) (suc i) y x e =
    ⊎_elim (λ (p : (i ≡ length xs) × (x ≡ y)). inl (ap suc p.0, p.1)) (λ (q : slice_get xs i ≡ Some x). inr q) (push_place xs i y x e)

push_apart : {A : Type 0} (xs : List A) (y : A) → AreApart xs → ((i : ℕ) → ¬ (slice_get xs i ≡ Some y))
    → AreApart (xs ++ y ∷ [])
push_apart {A} xs y apart new i j x at at2 = search (rules, ℕ, ⊎_elim, push_place)

one_more : {A : Type 0} (P : A → Type 0) (xs : List A) (x : A) → AllByRecursion P xs → P x → AllByRecursion P (xs ++ x ∷ [])
one_more P [] x all p = (p, tt)
one_more P (y ∷ xs) x all p = (all.0, one_more P xs x all.1 p)

-- ---- what lines have made

-- it began as its module says, which is valid
pub record BeganWell (g : NamedInstance) : Type 0 where
  pub begun : HasBegun g
  pub valid : Valid g.m

abbrev module_name : NamedModule → List ℕ
module_name named = named.name

abbrev guest_name : NamedInstance → List ℕ
guest_name g = g.name

-- each name is given once, and modules are valid
pub record IsOrderly (w : ScriptState) : Type 0 where
  pub modules : AreApart (map module_name w.modules)
  pub instances : AreApart (map guest_name w.instances)
  pub valid : AllByRecursion (λ (named : NamedModule). Valid named.m) w.modules
  pub well : AllByRecursion BeganWell w.instances

pub nothing_orderly : IsOrderly empty_script
nothing_orderly = search rules

only_begun : (gs : List NamedInstance) → AllByRecursion BeganWell gs → AllByRecursion HasBegun gs
only_begun [] all = tt
only_begun (g ∷ gs) all = (all.0.begun, only_begun gs all.1)

pub all_begun : (w : ScriptState) → IsOrderly w → AllByRecursion HasBegun w.instances
all_begun w o = only_begun w.instances o.well

pub well_there : (w : ScriptState) (name : List ℕ) (i : ℕ) (g : NamedInstance) → IsOrderly w → HasInstance w name i g → BeganWell g
well_there w name i g o has = is_one BeganWell w.instances i g o.well has.0

pub valid_there : (w : ScriptState) (name : List ℕ) (m : Module) → IsOrderly w → HasModule w name m → Valid m
valid_there w name m o has = is_one (λ (named : NamedModule). Valid named.m) w.modules has.0 _ o.valid has.1

-- ---- by name

pub one_module_named : (w : ScriptState) (name : List ℕ) (m n : Module) → IsOrderly w → HasModule w name m → HasModule w name n → m ≡ n
one_module_named w name m n o (i, at) (j, at2) =
    let there = map_there module_name w.modules i _ at in
    let there2 = map_there module_name w.modules j _ at2 in
    let place : i ≡ j = o.modules i j name there there2 in
    ap (λ (x : NamedModule). x.m) (same_Some _ _ (sym at ∙ ap (slice_get w.modules) place ∙ at2))

pub one_guest_named : (w : ScriptState) (name : List ℕ) (i j : ℕ) (g h : NamedInstance) → IsOrderly w → HasInstance w name i g → HasInstance w name j h
    → (i ≡ j) × (g ≡ h)
one_guest_named w name i j g h o (at, is) (at2, is2) =
    let there = map_there guest_name w.instances i g at ∙ ap (λ (n : List ℕ). Some n) is in
    let there2 = map_there guest_name w.instances j h at2 ∙ ap (λ (n : List ℕ). Some n) is2 in
    let place : i ≡ j = o.instances i j name there there2 in
    (place, same_Some g h (sym at ∙ ap (slice_get w.instances) place ∙ at2))

-- ---- what comes

pub module_orderly : (w : ScriptState) (name : List ℕ) (m : Module) → IsOrderly w → NoModule w name → Valid m
    → IsOrderly (record w { modules = w.modules ++ record { name = name; m = m } ∷ [] })
module_orderly w name m o none valid =
    let new : (i : ℕ) → ¬ (slice_get (map module_name w.modules) i ≡ Some name) = λ i at.
    let from = map_from module_name w.modules i name at in
    none from.0.m (i, from.1 ∙ ap (λ (n : List ℕ). Some (record { name = n; m = from.0.m })) from.2) in
    record {
      modules = subst AreApart (sym (map_push module_name w.modules (record { name = name; m = m }))) (push_apart (map module_name w.modules) name o.modules new);
      instances = o.instances;
      valid = one_more (λ (named : NamedModule). Valid named.m) w.modules (record { name = name; m = m }) o.valid valid;
      well = o.well;
    }

pub guest_orderly : (w : ScriptState) (g : NamedInstance) → IsOrderly w → LacksInstance w g.name → BeganWell g → IsOrderly (record w { instances = w.instances ++ g ∷ [] })
guest_orderly w g o none well = search (rules, ℕ, map_from, map_push, push_apart, one_more)

-- ---- what stays

-- it has the same name, and began so still
pub record Stays (g h : NamedInstance) : Type 0 where
  pub name : g.name ≡ h.name
  pub well : BeganWell g → BeganWell h

names_stay : (gs hs : List NamedInstance) → AllZip Stays gs hs → map guest_name gs ≡ map guest_name hs
names_stay [] [] all = refl
names_stay [] (k ∷ hs) all = absurd all
names_stay (g ∷ gs) [] all = absurd all
names_stay (g ∷ gs) (k ∷ hs) all = let same = all.0.name in let others = names_stay gs hs all.1 in rw (same, others)

well_stay : (gs hs : List NamedInstance) → AllZip Stays gs hs → AllByRecursion BeganWell gs → AllByRecursion BeganWell hs
well_stay [] [] all well = tt
well_stay [] (k ∷ hs) all well = absurd all
well_stay (g ∷ gs) [] all well = absurd all
well_stay (g ∷ gs) (k ∷ hs) all well = (all.0.well well.0, well_stay gs hs all.1 well.1)

pub stay_orderly : (w : ScriptState) (hs : List NamedInstance) (vs : List Invoked) → AllZip Stays w.instances hs → IsOrderly w
    → IsOrderly (record w { instances = hs; invoked = vs })
stay_orderly w hs vs all o = search (rules, names_stay, well_stay)

pub all_stay : (gs : List NamedInstance) → AllZip Stays gs gs
all_stay [] = tt
all_stay (g ∷ gs) = (record { name = refl; well = λ s. s }, all_stay gs)

-- one of them changes
pub one_stays : (gs : List NamedInstance) (i : ℕ) (g h : NamedInstance) → slice_get gs i ≡ Some g → Stays g h → AllZip Stays gs (slice_set gs i h)
one_stays gs i g h at stays = zip_over Stays gs gs i g h (all_stay gs) at stays

-- ---- a drain

run_stays : (g h : NamedInstance) → RunsAlone g h → Stays g h
run_stays g h (is_gone e) = record { name = refl; well = λ s. s }
run_stays g h (has_run e a r q) = record { name = refl; well = λ s. record { begun = s.begun; valid = s.valid } }

said_stays : (g h : NamedInstance) (lines : List Reply) → PrintsStart g lines h → Stays g h
said_stays g h lines (has_none p q) = record { name = refl; well = λ s. s }
said_stays g h lines (has_one n e x) = record { name = refl; well = λ s. record { begun = s.begun; valid = s.valid } }

stays_then : (a b c : NamedInstance) → Stays a b → Stays b c → Stays a c
stays_then a b c x y = record { name = x.name ∙ y.name; well = λ s. y.well (x.well s) }

drain_stays : (gs run last_printed : List NamedInstance) (lines : List Reply) → AllZip RunsAlone gs run → PrintStarts run lines last_printed
    → AllZip Stays gs last_printed
drain_stays [] [] last_printed lines runs says = subst (AllZip Stays []) (sym says.1) tt
drain_stays [] (r ∷ run) last_printed lines runs says = absurd runs
drain_stays (g ∷ gs) [] last_printed lines runs says = absurd runs
drain_stays (g ∷ gs) (r ∷ run) last_printed lines runs (here, rest, h, hs, e, f, x, more) =
    subst (AllZip Stays (g ∷ gs)) (sym f)
    (stays_then g r h (run_stays g r runs.0) (said_stays r h here x), drain_stays gs run hs rest runs.1 more)

pub drain_orderly : (w w2 : ScriptState) (lines : List Reply) → Drains w lines w2 → IsOrderly w → IsOrderly w2
drain_orderly w w2 lines d o =
    subst IsOrderly (sym d.after)
    (stay_orderly w d.instances d.invoked (drain_stays w.instances d.run d.instances d.starts d.each_runs d.print_starts) o)

-- a name that an instance has before a drain it has behind it
zip_first : (gs hs : List NamedInstance) (i : ℕ) (g : NamedInstance) → AllZip Stays gs hs → slice_get gs i ≡ Some g
    → (h : NamedInstance) × (slice_get hs i ≡ Some h) × (g.name ≡ h.name)
zip_first [] hs i g all e = absurd (none-some g e)
zip_first (a ∷ gs) [] i g all e = absurd all
zip_first (a ∷ gs) (b ∷ hs) zero g all e = (b, refl, ap guest_name (sym (same_Some a g e)) ∙ all.0.name)
zip_first (a ∷ gs) (b ∷ hs) (suc i) g all e = zip_first gs hs i g all.1 e

pub drain_names : (w w2 : ScriptState) (lines : List Reply) (name : List ℕ) (i : ℕ) (g : NamedInstance) → Drains w lines w2 → HasInstance w name i g
    → LacksInstance w2 name → ⊥
drain_names w w2 lines name i g d has none =
    let all = drain_stays w.instances d.run d.instances d.starts d.each_runs d.print_starts in
    let found = zip_first w.instances d.instances i g all has.0 in
    let there : slice_get w2.instances i ≡ Some found.0 = ap (λ (x : ScriptState). slice_get x.instances i) d.after ∙ found.1 in
    none i found.0 (there, sym found.2 ∙ has.1)
