-- Lines, one after another.
use Rattle.std.proofs.Common.{◌≡◌, ◌≢◌, ℕ, suc, ◌+◌, ◌<◌, ◌≤◌, Bool, true, false, MatchBool, Option, None, Some, IfSome, List, [], ◌∷◌, ◌++◌, length, All, refl, sym, ap, subst, ◌∙◌, arith}
use Rattle.std.specs.List.{AllPairs}
use Rattle.std.proofs.lemmas.List.Quantifiers.{all_pairs_push}
use Rattle.std.proofs.lemmas.List.{length-append}
use mathlib.Core.List.{append_assoc}
use denote.Ref.{Bor}
use Rattle.wh_routes.specs.Separators.{pieces_at, pieces_behind}
use Rattle.wh_routes.proofs.Pairs.{left_of}
use Rattle.wh_tokens.specs.declared.grants.Grant.{Grant}
use Rattle.wh_tokens.specs.GrantLines.{is_left_out, SpellsGrant, AreGrantsOf, SpellLines, TakesLine}

out_by : (t : Bool) (l : List ℕ) (ls : List (List ℕ)) (grants : List Grant) (line : List ℕ)
    → ((gs : List Grant) → AreGrantsOf ls gs → AreGrantsOf (ls ++ line ∷ []) gs)
    → MatchBool t (AreGrantsOf ls grants)
    ((first : Grant) × (rest : List Grant) × (grants ≡ first ∷ rest) × SpellsGrant l first × AreGrantsOf ls rest)
    → MatchBool t (AreGrantsOf (ls ++ line ∷ []) grants)
    ((first : Grant) × (rest : List Grant) × (grants ≡ first ∷ rest) × SpellsGrant l first × AreGrantsOf (ls ++ line ∷ []) rest)
out_by true l ls grants line ih h = ih grants h
out_by false l ls grants line ih h = (h.0, h.1, h.2, h.3, ih h.1 h.4)

-- one that is left out
more_out : (lines : List (List ℕ)) (grants : List Grant) (line : List ℕ) → is_left_out line ≡ true
    → AreGrantsOf lines grants → AreGrantsOf (lines ++ line ∷ []) grants
more_out [] grants line e h = rw e h
more_out (l ∷ ls) grants line e h = out_by (is_left_out l) l ls grants line (λ gs k. more_out ls gs line e k) h

in_by : (t : Bool) (l : List ℕ) (ls : List (List ℕ)) (grants : List Grant) (line : List ℕ) (g : Grant)
    → ((gs : List Grant) → AreGrantsOf ls gs → AreGrantsOf (ls ++ line ∷ []) (gs ++ g ∷ []))
    → MatchBool t (AreGrantsOf ls grants)
    ((first : Grant) × (rest : List Grant) × (grants ≡ first ∷ rest) × SpellsGrant l first × AreGrantsOf ls rest)
    → MatchBool t (AreGrantsOf (ls ++ line ∷ []) (grants ++ g ∷ []))
    ((first : Grant) × (rest : List Grant) × (grants ++ g ∷ [] ≡ first ∷ rest) × SpellsGrant l first × AreGrantsOf (ls ++ line ∷ []) rest)
in_by true l ls grants line g ih h = ih grants h
in_by false l ls grants line g ih h = (h.0, h.1 ++ g ∷ [], ap (λ gs. gs ++ g ∷ []) h.2, h.3, ih h.1 h.4)

-- one that isn't
more_in : (lines : List (List ℕ)) (grants : List Grant) (line : List ℕ) (g : Grant) → is_left_out line ≡ false → SpellsGrant line g
    → AreGrantsOf lines grants → AreGrantsOf (lines ++ line ∷ []) (grants ++ g ∷ [])
more_in [] grants line g e is h = rw (e, h) (g, [], refl, is, refl)
more_in (l ∷ ls) grants line g e is h = in_by (is_left_out l) l ls grants line g (λ gs k. more_in ls gs line g e is k) h

-- What was looked at: these lines in front of what is left, as many as were counted, with these grants.
pub record IsReadTo (text : List ℕ) (rest : Option (Bor (List ℕ))) (number : ℕ) (grants : List Grant) : Type 0 where
  pub front : List (List ℕ)
  pub lines : pieces_at 10 text ≡ front ++ pieces_behind 10 rest
  pub counted : number ≡ length front
  pub spelled : SpellLines front grants
  pub within : number + left_of rest ≤ length text + 1

taken_by : (t : Bool) (front : List (List ℕ)) (before after : List Grant) (line : List ℕ) → is_left_out line ≡ t → SpellLines front before
    → MatchBool t (after ≡ before)
    ((grant : Grant) × SpellsGrant line grant × All (λ g. g.digest ≢ grant.digest) before × (after ≡ before ++ grant ∷ []))
    → SpellLines (front ++ line ∷ []) after
taken_by true front before after line e spelled h = record {
  are = subst (AreGrantsOf (front ++ line ∷ [])) (sym h) (more_out front before line e spelled.are);
  apart = subst (AllPairs (λ g k. g.digest ≢ k.digest)) (sym h) spelled.apart;
}
taken_by false front before after line e spelled h = record {
  are = subst (AreGrantsOf (front ++ line ∷ [])) (sym h.3) (more_in front before line h.0 e h.1 spelled.are);
  apart = subst (AllPairs (λ g k. g.digest ≢ k.digest)) (sym h.3)
      (all_pairs_push (λ g k. g.digest ≢ k.digest) before h.0 spelled.apart (λ k d low. h.2 k d low));
}

less_left : (behind : Option (Bor (List ℕ))) (n : ℕ) → IfSome behind (λ rest. length rest.now < n) → left_of behind ≤ n
less_left None n h = omega arith
less_left (Some rest) n h = omega arith

-- one line more
pub read_more : (text line : List ℕ) (rest behind : Option (Bor (List ℕ))) (lines : Bor (List ℕ)) (number : ℕ) (before after : List Grant)
    → IsReadTo text rest number before → rest ≡ Some lines → pieces_at 10 lines.now ≡ line ∷ pieces_behind 10 behind
    → IfSome behind (λ r. length r.now < length lines.now) → TakesLine before line after → IsReadTo text behind (number + 1) after
read_more text line rest behind lines number before after h is cut shorter took =
    let left = less_left behind (length lines.now) shorter in
    let size : left_of rest ≡ suc (length lines.now) = ap left_of is in
    let len = length-append h.front (line ∷ []) in
    let within = h.within in
    let counted = h.counted in
    record {
      front = h.front ++ line ∷ [];
      lines = h.lines
          ∙ (ap (λ r. h.front ++ pieces_behind 10 r) is
          ∙ (ap (λ ps. h.front ++ ps) cut ∙ sym (append_assoc h.front (line ∷ []) (pieces_behind 10 behind))));
      counted = omega arith;
      spelled = taken_by (is_left_out line) h.front before after line refl h.spelled took;
      within = omega arith;
    }
