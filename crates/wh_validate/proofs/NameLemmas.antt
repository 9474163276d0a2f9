-- A name that was added is there, and those that were there stay.
use Rattle.std.proofs.Common.{◌≡◌, ◌≢◌, ℕ, zero, suc, ◌+◌, ◌<◌, Bool, true, false, List, [], ◌∷◌, ◌++◌, length, map, take, get_or, Option, Some, refl, sym, ap, subst, arith, ◌∙◌, is_some, cond, ◌||◌}
use Rattle.std.specs.List.{AllByRecursion, list_any}
use Rattle.std.specs.String.{string_bytes}
use Rattle.std.proofs.lemmas.List.{take_more}
use Rattle.std.proofs.lemmas.List.Folds.{list_any-append}
use Rattle.std.proofs.lemmas.Bool.{false_from_ne_true}
use Rattle.std.proofs.lemmas.Slice.Eq.{bytes_eq-Decides}
use Rattle.wh_model.specs.Validity.{DifferentNames}
use Rattle.wh_syntax.specs.View.{view_export}
use Rattle.wh_syntax.specs.declared.module.Export.{Export}
use Rattle.std.specs.Str.{bytes_eq}
use Rattle.std.specs.Cmp.Lexicographic.{slice_cmp}
use Rattle.std.specs.Ordering.{nat_cmp}
use Rattle.std.specs.BTreeMap.{BTreeMap, get_by, UpdatesBy}
use Rattle.std.proofs.lemmas.Map.Text.{btree_map_updates_str}
use denote.Ref.{Bor}
use Rattle.wh_validate.specs.SeenNames.{has_name, HasSeen}

pub name_added : {X : Type 0} (bs : List ℕ) (m n : BTreeMap (Bor (List ℕ)) X) (x : X) → UpdatesBy (λ x y. slice_cmp nat_cmp x.now y.now) (λ k. slice_cmp nat_cmp bs k.now) m n (Some x)
    → (q : List ℕ) → has_name n q ≡ (bytes_eq bs q || has_name m q)
unfolding has_name
name_added bs m n x h q = ap is_some (btree_map_updates_str bs m n (Some x) h q) ∙ either (bytes_eq bs q) (get_by (λ k. slice_cmp nat_cmp q k.now) m)
  where
    either : (c : Bool) (old : Option _) → is_some (cond c (Some x) old) ≡ (c || is_some old)
    either true old = refl
    either false old = refl

-- ---- the names of exports

pub none_seen : {X : Type 0} (m : BTreeMap (Bor (List ℕ)) X) → m.entries ≡ [] → HasSeen m []
unfolding has_name
none_seen m e = record { each = λ q. rw e refl; different = tt }

-- no one among these has the name
abbrev Others : List Export → List ℕ → Type 0
Others es name = AllByRecursion (λ e. string_bytes e.name ≢ name) es

unlike_head : (b : Bool) (rest : List Export) (name first : List ℕ) → bytes_eq first name ≡ b → (b || list_any (λ e. bytes_eq (string_bytes e.name) name) rest) ≡ false → (first ≢ name) × (list_any (λ e. bytes_eq (string_bytes e.name) name) rest ≡ false)
unlike_head true rest name first same h = absurd (cc h)
unlike_head false rest name first same h = (λ p. let q = (bytes_eq-Decides first name).1 p in absurd (cc (same, q)), h)

unlike : (es : List Export) (name : List ℕ) → list_any (λ e. bytes_eq (string_bytes e.name) name) es ≡ false → Others es name
unlike [] name h = tt
unlike (e ∷ es) name h = let r = unlike_head (bytes_eq (string_bytes e.name) name) es name (string_bytes e.name) refl h in (r.0, unlike es name r.1)

others_more : (es : List Export) (x : Export) (name : List ℕ) → AllByRecursion (λ other. other.name ≢ name) (map view_export es) → string_bytes x.name ≢ name → AllByRecursion (λ other. other.name ≢ name) (map view_export (es ++ x ∷ []))
others_more [] x name a p = (p, tt)
others_more (y ∷ ys) x name a p = (a.0, others_more ys x name a.1 p)

different_more : (es : List Export) (x : Export) → DifferentNames (map view_export es) → Others es (string_bytes x.name) → DifferentNames (map view_export (es ++ x ∷ []))
different_more [] x d o = (tt, tt)
different_more (e ∷ es) x d o = (others_more es x (string_bytes e.name) d.0 (λ p. o.0 (sym p)), different_more es x d.1 o.1)

or_turned : (a b : Bool) → (a || b) ≡ (b || (a || false))
or_turned true true = refl
or_turned true false = refl
or_turned false true = refl
or_turned false false = refl

pub one_more_seen : {X : Type 0} (m n : BTreeMap (Bor (List ℕ)) X) (es : List Export) (k : ℕ) (d : Export) → HasSeen m (take k es) → k < length es
    → has_name m (string_bytes (get_or es k d).name) ≡ false → ((q : List ℕ) → has_name n q ≡ (bytes_eq (string_bytes (get_or es k d).name) q || has_name m q)) → HasSeen n (take (k + 1) es)
one_more_seen m n es k d seen lt new added =
    let x = get_or es k d in
    let before = take k es in
    let fresh = sym (seen.each (string_bytes x.name)) ∙ new in
    subst (λ (w : List Export). HasSeen n w) (sym (take_more es k d lt)) (record {
      each = λ q. added q ∙ ap (λ b. bytes_eq (string_bytes x.name) q || b) (seen.each q) ∙ or_turned (bytes_eq (string_bytes x.name) q) (list_any (λ e. bytes_eq (string_bytes e.name) q) before)
          ∙ sym (list_any-append (λ e. bytes_eq (string_bytes e.name) q) before (x ∷ []));
      different = different_more before x seen.different (unlike before (string_bytes x.name) fresh);
    })

-- ---- a name that was seen before

stands_behind : (es : List Export) (name : List ℕ) (k : ℕ) (d : Export) → k < length es → AllByRecursion (λ other. other.name ≢ name) (map view_export es) → string_bytes (get_or es k d).name ≢ name
stands_behind [] name k d lt a = absurd (omega (arith, lt))
stands_behind (e ∷ es) name zero d lt a = a.0
stands_behind (e ∷ es) name (suc k) d lt a = stands_behind es name k d (omega (arith, lt)) a.1

pub not_twice : (es : List Export) (k : ℕ) (d : Export) → k < length es → DifferentNames (map view_export es) → list_any (λ e. bytes_eq (string_bytes e.name) (string_bytes (get_or es k d).name)) (take k es) ≡ false
not_twice [] k d lt a = absurd (omega (arith, lt))
not_twice (e ∷ es) zero d lt a = refl
not_twice (e ∷ es) (suc k) d lt a =
    let x = string_bytes (get_or es k d).name in
    let other = stands_behind es (string_bytes e.name) k d (omega (arith, lt)) a.0 in
    let first = false_from_ne_true (bytes_eq (string_bytes e.name) x) (λ p. other (sym ((bytes_eq-Decides (string_bytes e.name) x).0 p))) in
    ap (λ b. b || list_any (λ y. bytes_eq (string_bytes y.name) x) (take k es)) first ∙ not_twice es k d (omega (arith, lt)) a.1

pub seen_twice : {X : Type 0} (m : BTreeMap (Bor (List ℕ)) X) (es : List Export) (k : ℕ) (d : Export) → HasSeen m (take k es) → k < length es
    → has_name m (string_bytes (get_or es k d).name) ≡ true → DifferentNames (map view_export es) → ⊥
seen_twice m es k d seen lt old different =
    let a = seen.each (string_bytes (get_or es k d).name) in
    let b = not_twice es k d lt different in
    cc (a, b, old)

-- ---- the same of an export that was read, and its name

name_at : (es : List Export) (k : ℕ) (x : Export) (name : List ℕ) → x ≡ get_or es k x → name ≡ string_bytes x.name → name ≡ string_bytes (get_or es k x).name
name_at es k x name at e = e ∙ ap (λ (y : Export). string_bytes y.name) at

pub adds_seen : {X : Type 0} (m n : BTreeMap (Bor (List ℕ)) X) (es : List Export) (k : ℕ) (x : Export) (name : List ℕ) → x ≡ get_or es k x → name ≡ string_bytes x.name → HasSeen m (take k es) → k < length es
    → has_name m name ≡ false → ((q : List ℕ) → has_name n q ≡ (bytes_eq name q || has_name m q)) → HasSeen n (take (k + 1) es)
adds_seen m n es k x name at e seen lt new added =
    let same = name_at es k x name at e in
    one_more_seen m n es k x seen lt (subst (λ w. has_name m w ≡ false) same new) (λ q. subst (λ w. has_name n q ≡ (bytes_eq w q || has_name m q)) same (added q))

pub repeats_seen : {X : Type 0} (m : BTreeMap (Bor (List ℕ)) X) (es : List Export) (k : ℕ) (x : Export) (name : List ℕ) → x ≡ get_or es k x → name ≡ string_bytes x.name → HasSeen m (take k es) → k < length es
    → has_name m name ≡ true → DifferentNames (map view_export es) → ⊥
repeats_seen m es k x name at e seen lt old different = seen_twice m es k x seen lt (subst (λ w. has_name m w ≡ true) (name_at es k x name at e) old) different
