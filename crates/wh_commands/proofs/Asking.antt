-- What words ask for.
use Rattle.std.proofs.Common.{◌≡◌, ℕ, ◌<◌, List, [], ◌∷◌, ◌++◌, length, ap, sym, subst, ◌∙◌, arith, append_assoc, Bool, true, false, not, if◌then◌else◌}
use Rattle.std.specs.List.{AllZip}
use Rattle.wh_commands.specs.WordsLeft.{FirstIsNot}

pub not_such : (P : List ℕ → Type 0) (words left : List (List ℕ)) (word : List ℕ) → words ≡ word ∷ left → ¬ (P word)
    → FirstIsNot P words
not_such P words left word e h = subst (FirstIsNot P) (sym e) h

pub not_first : (P : List ℕ → Type 0) (words left : List (List ℕ)) (word : List ℕ) → FirstIsNot P words
    → words ≡ word ∷ left → ¬ (P word)
not_first P words left word h e = let f : FirstIsNot P (word ∷ left) = subst (FirstIsNot P) e h in f

pub one_more : (words left left2 : List (List ℕ)) (word : List ℕ) → words ≡ word ∷ left → left ≡ left2 → words ≡ word ∷ left2
one_more words left left2 word e f = e ∙ ap (λ ws. word ∷ ws) f

pub two : (words left left2 : List (List ℕ)) (a b : List ℕ) → words ≡ a ∷ left → left ≡ b ∷ left2 → left2 ≡ []
    → words ≡ a ∷ b ∷ []
two words left left2 a b e f g = one_more words left (b ∷ []) a e (one_more left left2 [] b f g)

-- ---- lists of numbers

-- some words were read as these, and others are left
abbrev pub HasRead : {A : Type 0} → (List ℕ → A → Type 0) → List (List ℕ) → List (List ℕ) → List A → Type 0
HasRead {A} R words left xs = (done : List (List ℕ)) × (words ≡ done ++ left) × AllZip R done xs

zip_more : {A : Type 0} (R : List ℕ → A → Type 0) (done : List (List ℕ)) (xs : List A) (word : List ℕ) (x : A)
    → AllZip R done xs → R word x → AllZip R (done ++ word ∷ []) (xs ++ x ∷ [])
zip_more R [] [] word x h r = (r, tt)
zip_more R [] (y ∷ ys) word x h r = absurd h
zip_more R (w ∷ ws) [] word x h r = absurd h
zip_more R (w ∷ ws) (y ∷ ys) word x h r = (h.0, zip_more R ws ys word x h.1 r)

pub reads_more : {A : Type 0} (R : List ℕ → A → Type 0) (words left left2 : List (List ℕ)) (xs ys : List A) (word : List ℕ) (x : A)
    → HasRead R words left xs → left ≡ word ∷ left2 → R word x → ys ≡ xs ++ x ∷ [] → HasRead R words left2 ys
reads_more R words left left2 xs ys word x h e r new = (
  h.0 ++ word ∷ [],
  h.1 ∙ (ap (λ ws. h.0 ++ ws) e ∙ sym (append_assoc h.0 (word ∷ []) left2)),
  subst (AllZip R (h.0 ++ word ∷ [])) (sym new) (zip_more R h.0 xs word x h.2 r),
)

none_behind : {A : Type 0} (R : List ℕ → A → Type 0) (done left : List (List ℕ)) (word : List ℕ) (xs : List A)
    → ((x : A) → ¬ (R word x)) → AllZip R (done ++ word ∷ left) xs → ⊥
none_behind R [] left word [] none h = h
none_behind R [] left word (x ∷ xs) none h = none x h.0
none_behind R (w ∷ ws) left word [] none h = h
none_behind R (w ∷ ws) left word (x ∷ xs) none h = none_behind R ws left word xs none h.1

pub reads_none : {A B : Type 0} (R : List ℕ → A → Type 0) (words left left2 : List (List ℕ)) (ys : List B) (S : List ℕ → B → Type 0) (word : List ℕ)
    → HasRead S words left ys → left ≡ word ∷ left2 → ((x : A) → ¬ (R word x))
    → ¬ ((xs : List A) × AllZip R words xs)
reads_none R words left left2 ys S word h e none z =
    none_behind R h.0 left2 word z.0 none
    (subst (λ ws. AllZip R ws z.0) (h.1 ∙ ap (λ ws. h.0 ++ ws) e) z.1)

pub fewer : (words left : List (List ℕ)) (word : List ℕ) → words ≡ word ∷ left → length left < length words
fewer words left word e = omega (arith, ap length e)

pub pushed : {A : Type 0} (ys xs more : List A) (ok bad : Bool) → ys ≡ (if ok then more else xs) → ok ≡ not bad
    → bad ≡ false → ys ≡ more
pushed ys xs more ok true e f g = absurd (cc)
pushed ys xs more true false e f g = e
pushed ys xs more false false e f g = absurd (cc)

pub six : (w0 w1 w2 w3 w4 w5 w6 : List (List ℕ)) (a b c d e f : List ℕ) → w0 ≡ a ∷ w1 → w1 ≡ b ∷ w2 → w2 ≡ c ∷ w3
    → w3 ≡ d ∷ w4 → w4 ≡ e ∷ w5 → w5 ≡ f ∷ w6 → w0 ≡ a ∷ b ∷ c ∷ d ∷ e ∷ f ∷ w6
six w0 w1 w2 w3 w4 w5 w6 a b c d e f p q r s t u = cc
