-- Steps that change the elements of a list one by one, and put lines behind a text.
use Rattle.std.proofs.Common.{arith, ◌≡◌, ℕ, ◌+◌, ◌≤◌, List, [], ◌∷◌, ◌++◌, length, slice_get, slice_set, Some, refl, sym, ap, subst, ◌∙◌, append_assoc, append-nil, length-append}
use Rattle.std.proofs.lemmas.Option.{none-some, same_Some}

abbrev pub OneByOne : {A : Type 0} → (A → A → List ℕ → List ℕ → Type 0) → List A → List ℕ → List A → List ℕ → Type 0
OneByOne step [] text ys text2 = (ys ≡ []) × (text2 ≡ text)
OneByOne {A} step (x ∷ xs) text ys text2 =
    (y : A) × (rest : List A) × (mid : List ℕ) × (ys ≡ y ∷ rest) × step x y text mid × OneByOne step xs mid rest text2

-- the first n were changed so
pub record FirstChanged {A : Type 0} (step : A → A → List ℕ → List ℕ → Type 0) (old now : List A) (count : ℕ) (text text2 : List ℕ) : Type 0 where
  pub done : List A
  pub after : List A
  pub rest : List A
  pub was : old ≡ done ++ rest
  pub is : now ≡ after ++ rest
  pub many : length after ≡ count
  pub steps : OneByOne step done text after text2

pub none_changed : {A : Type 0} (step : A → A → List ℕ → List ℕ → Type 0) (xs : List A) (text : List ℕ) → FirstChanged step xs xs 0 text text
none_changed step xs text = record { done = []; after = []; rest = xs; was = refl; is = refl; many = refl; steps = (refl, refl) }

one_step_more : {A : Type 0} (step : A → A → List ℕ → List ℕ → Type 0) (xs ys : List A) (x y : A) (text mid text2 : List ℕ) → OneByOne step xs text ys mid → step x y mid text2
    → OneByOne step (xs ++ x ∷ []) text (ys ++ y ∷ []) text2
one_step_more step [] ys x y text mid text2 steps next =
    (y, [], text2, ap (λ zs. zs ++ y ∷ []) steps.0, subst (λ t. step x y t text2) steps.1 next, (refl, refl))
one_step_more step (z ∷ xs) ys x y text mid text2 (z2, rest, between, is, first, more) next = (
  z2,
  rest ++ y ∷ [],
  between,
  ap (λ zs. zs ++ y ∷ []) is,
  first,
  one_step_more step xs rest x y between mid text2 more next,
)

get_middle : {A : Type 0} (xs rest : List A) (x : A) → slice_get (xs ++ x ∷ rest) (length xs) ≡ Some x
get_middle [] rest x = refl
get_middle (y ∷ xs) rest x = get_middle xs rest x

set_middle : {A : Type 0} (xs rest : List A) (x y : A) → slice_set (xs ++ x ∷ rest) (length xs) y ≡ xs ++ y ∷ rest
set_middle [] rest x y = refl
set_middle (z ∷ xs) rest x y = ap (λ zs. z ∷ zs) (set_middle xs rest x y)

none_behind : {A : Type 0} (xs : List A) (x : A) → slice_get xs (length xs) ≡ Some x → ⊥
none_behind [] x e = none-some x e
none_behind (y ∷ xs) x e = none_behind xs x e

-- one that stands there, and those behind it
is_head : {A : Type 0} (after rest : List A) (x : A) → slice_get (after ++ rest) (length after) ≡ Some x → (more : List A) × (rest ≡ x ∷ more)
is_head after [] x e = absurd (none_behind after x (subst (λ zs. slice_get zs (length after) ≡ Some x) (append-nil after) e))
is_head after (y ∷ more) x e = (more, ap (λ z. z ∷ more) (same_Some y x (sym (get_middle after more y) ∙ e)))

same_length : {A : Type 0} (step : A → A → List ℕ → List ℕ → Type 0) (xs ys : List A) (text text2 : List ℕ) → OneByOne step xs text ys text2 → length xs ≡ length ys
same_length step [] ys text text2 steps = ap (λ zs. length zs) (sym steps.0)
same_length step (x ∷ xs) ys text text2 (y, rest, mid, is, first, more) =
    let tail : length xs ≡ length rest = same_length step xs rest mid text2 more in
    let long : length ys ≡ length (y ∷ rest) = ap (λ zs. length zs) is in
    omega (arith, tail, long)

-- the next one is as it was
pub still_there : {A : Type 0} (step : A → A → List ℕ → List ℕ → Type 0) (old now : List A) (count : ℕ) (text text2 : List ℕ) (x : A) → FirstChanged step old now count text text2
    → slice_get now count ≡ Some x → slice_get old count ≡ Some x
still_there step old now count text text2 x so at =
    let here : slice_get (so.after ++ so.rest) (length so.after) ≡ Some x = ap (slice_get (so.after ++ so.rest)) so.many ∙ ap (λ zs. slice_get zs count) (sym so.is) ∙ at in
    let head = is_head so.after so.rest x here in
    let long : length so.done ≡ count = same_length step so.done so.after text text2 so.steps ∙ so.many in
    let old_is : old ≡ so.done ++ x ∷ head.0 = so.was ∙ ap (λ zs. so.done ++ zs) head.1 in
    ap (λ zs. slice_get zs count) old_is ∙ ap (slice_get (so.done ++ x ∷ head.0)) (sym long) ∙ get_middle so.done head.0 x

pub next_changed : {A : Type 0} (step : A → A → List ℕ → List ℕ → Type 0) (old now : List A) (count : ℕ) (text mid text2 : List ℕ) (x y : A) → FirstChanged step old now count text mid
    → slice_get now count ≡ Some x → step x y mid text2 → FirstChanged step old (slice_set now count y) (count + 1) text text2
next_changed step old now count text mid text2 x y so at next =
    let here : slice_get (so.after ++ so.rest) (length so.after) ≡ Some x = ap (slice_get (so.after ++ so.rest)) so.many ∙ ap (λ zs. slice_get zs count) (sym so.is) ∙ at in
    let head = is_head so.after so.rest x here in
    let more = head.0 in
    let now_is : now ≡ so.after ++ x ∷ more = so.is ∙ ap (λ zs. so.after ++ zs) head.1 in
    record {
      done = so.done ++ x ∷ [];
      after = so.after ++ y ∷ [];
      rest = more;
      was = so.was ∙ ap (λ zs. so.done ++ zs) head.1 ∙ sym (append_assoc so.done (x ∷ []) more);
      is = ap (λ zs. slice_set zs count y) now_is ∙ ap (λ n. slice_set (so.after ++ x ∷ more) n y) (sym so.many) ∙ set_middle so.after more x y ∙ sym (append_assoc so.after (y ∷ []) more);
      many = length-append so.after (y ∷ []) ∙ ap (λ n. n + 1) so.many;
      steps = one_step_more step so.done so.after x y text mid text2 so.steps next;
    }

no_length : {A : Type 0} (xs : List A) → length xs ≡ 0 → xs ≡ []
no_length [] n = refl
no_length (x ∷ xs) n = absurd (omega (arith, n))

-- then all were
pub all_changed : {A : Type 0} (step : A → A → List ℕ → List ℕ → Type 0) (old now : List A) (count : ℕ) (text text2 : List ℕ) → FirstChanged step old now count text text2
    → length now ≤ count → OneByOne step old text now text2
all_changed step old now count text text2 so end =
    let long : length now ≡ length so.after + length so.rest = ap (λ zs. length zs) so.is ∙ length-append so.after so.rest in
    let none : so.rest ≡ [] = no_length so.rest (omega (arith, long, so.many, end)) in
    let was : old ≡ so.done = so.was ∙ ap (λ zs. so.done ++ zs) none ∙ append-nil so.done in
    let is : now ≡ so.after = so.is ∙ ap (λ zs. so.after ++ zs) none ∙ append-nil so.after in
    subst (λ zs. OneByOne step zs text now text2) (sym was) (subst (λ zs. OneByOne step so.done text zs text2) (sym is) so.steps)
