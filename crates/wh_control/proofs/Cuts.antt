-- Words cut down, as they lie in memory: bottom first.
use Rattle.std.proofs.Common.{◌≡◌, ℕ, zero, suc, ◌-◌, ◌≤◌, List, [], ◌∷◌, ◌++◌, length, reverse, take, replicate, Bool, true, false, refl, sym, ap, ◌∙◌, rules}
use Rattle.std.proofs.lemmas.List.{reverse-append, length-reverse}
use Rattle.wh_bodies.proofs.Lists.{reverse-take}
use Rattle.wh_control.specs.ControlSteps.{cut, words_carried}

pub cut_none : (items : List ℕ) (height : ℕ) (b : Bool) → b ≡ false → reverse (take height items) ≡ cut (reverse items) (words_carried b) height
cut_none items height b e = reverse-take height items ∙ ap (λ x. cut (reverse items) (words_carried x) height) (sym e)

pub cut_one : (items rest : List ℕ) (top height : ℕ) (b : Bool) → b ≡ true → items ≡ rest ++ top ∷ [] → height ≤ length rest → reverse (take height rest ++ top ∷ []) ≡ cut (reverse items) (words_carried b) height
cut_one items rest top height b e split low = search (rules, reverse, reverse-append, length-reverse, reverse-take)

same_more : (n x : ℕ) → replicate n x ++ x ∷ [] ≡ x ∷ replicate n x
same_more zero x = refl
same_more (suc n) x = ap (λ w. x ∷ w) (same_more n x)

pub same_back : (n x : ℕ) → reverse (replicate n x) ≡ replicate n x
same_back zero x = refl
same_back (suc n) x = reverse-append (x ∷ []) (replicate n x) ∙ ap (λ w. w ++ x ∷ []) (same_back n x) ∙ same_more n x

-- zeros above words
pub zeros_on_top : (items after : List ℕ) (n k : ℕ) → n ≡ k → after ≡ items ++ replicate n 0 → reverse after ≡ replicate k 0 ++ reverse items
zeros_on_top items after n k e is = ap reverse is ∙ reverse-append items (replicate n 0) ∙ ap (λ w. w ++ reverse items) (same_back n 0) ∙ ap (λ j. replicate j 0 ++ reverse items) e
