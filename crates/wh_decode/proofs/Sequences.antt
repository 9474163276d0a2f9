-- Items that are read one after the other, by what reading one of them gives.
use Rattle.std.proofs.Common.{◌≡◌, ℕ, suc, ◌+◌, ◌-◌, List, [], ◌∷◌, ◌++◌, length, map, Result, Ok, Err, refl, sym, ap, subst, ◌∙◌, inl, inr, arith, Vec, Global}
use Rattle.std.proofs.lemmas.List.{append-nil, map-id}
use Rattle.wh_model.specs.declared.faults.DecodeError.{DecodeError}
use Rattle.wh_leb.specs.Reading.{◌>>=◌, Reader, Gives, times_at, with_front, u32_at}
use Rattle.wh_leb.proofs.Combinators.{succeed, with_front-with_front, with_front-nil}
use Rattle.wh_decode.specs.Items.{Gift, Given, GivesItems, seen}

-- one more item
pub given_push : {X : Type 0} (reads : Gift X) (b : List ℕ) (at : ℕ) (xs : List X) (x : X) (mid next : ℕ) → Given reads b at xs mid → reads b mid (Ok (x, next)) → Given reads b at (xs ++ x ∷ []) next
given_push reads b at [] x mid next g h = (next, subst (λ (k : ℕ). reads b k (Ok (x, next))) g h, refl)
given_push reads b at (y ∷ xs) x mid next g h = (g.0, g.1, given_push reads b g.0 xs x mid next g.2 h)

module _ {X Y : Type 0} (view : X → Y) (reads : Gift X) (read : Reader Y) (law : (b : List ℕ) (at : ℕ) (r : Result (X × ℕ) DecodeError) → reads b at r → Gives (λ found. (view found.0, found.1)) r (read b at)) where
  given_reads : (xs : List X) (k : ℕ) (b : List ℕ) (at mid : ℕ) → Given reads b at xs mid → times_at (length xs + k) read b at ≡ with_front (map view xs) (times_at k read b mid)
  given_reads [] k b at mid g =
      let count : length {A = X} [] + k ≡ k = omega arith in
      rw (count, g) (sym (with_front-nil (times_at k read b at)))
  given_reads (x ∷ xs) k b at mid g =
      let count : length (x ∷ xs) + k ≡ suc (length xs + k) = omega arith in
      let one = law b at (Ok (x, g.0)) g.1 in
      let rest = given_reads xs k b g.0 mid g.2 in
      ap (λ (n : ℕ). times_at n read b at) count
      ∙ ap (λ r. r >>= λ y. times_at (length xs + k) read b y.1 >>= λ ys. Ok (y.0 ∷ ys.0, ys.1)) one
      ∙ ap (with_front (view x ∷ [])) rest ∙ with_front-with_front (view x ∷ []) (map view xs) (times_at k read b mid)

  pub items_give : (count : ℕ) (b : List ℕ) (at : ℕ) (r : Result (List X × ℕ) DecodeError) → GivesItems reads count b at r → Gives (λ found. (map view found.0, found.1)) r (times_at count read b at)
  items_give count b at (Ok found) g =
      let all : count ≡ length found.0 + 0 = (let e = g.0 in omega arith) in
      ap (λ (n : ℕ). times_at n read b at) all ∙ given_reads found.0 0 b at found.1 g.1 ∙ ap (λ (ys : List Y). succeed (ys, found.1)) (append-nil (map view found.0))
  items_give count b at (Err e) (inl memory) = λ other. absurd (other memory)
  items_give count b at (Err e) (inr g) = λ other.
      let left : count ≡ length g.0 + suc (count - length g.0 - 1) = (let lt = g.2 in omega arith) in
      let failed = law b g.1 (Err e) g.4 other in
      ap (λ (n : ℕ). times_at n read b at) left ∙ given_reads g.0 (suc (count - length g.0 - 1)) b at g.1 g.3
      ∙ ap (λ q. with_front (map view g.0) (q >>= λ y. times_at (count - length g.0 - 1) read b y.1 >>= λ ys. Ok (y.0 ∷ ys.0, ys.1))) failed

-- the same of a result that was seen by a view of its own
pub gives_seen : {X Y Z : Type 0} (first : X → Y) (second : Y → Z) (r : Result X DecodeError) (read : Result Z DecodeError) → Gives second (seen first r) read → Gives (λ x. second (first x)) r read
gives_seen first second (Ok x) read g = g
gives_seen first second (Err e) read g = g

gives_same : {X Y : Type 0} (f g : X → Y) (r : Result X DecodeError) (read : Result Y DecodeError) → ((x : X) → f x ≡ g x) → Gives f r read → Gives g r read
gives_same f g (Ok x) read same h = h ∙ ap succeed (same x)
gives_same f g (Err e) read same h = h

-- items in a vector
module _ {X Y : Type 0} (view : X → Y) (reads : Gift X) (read : Reader Y) (law : (b : List ℕ) (at : ℕ) (r : Result (X × ℕ) DecodeError) → reads b at r → Gives (λ found. (view found.0, found.1)) r (read b at)) where
  pub vec_give : (count : ℕ) (b : List ℕ) (at : ℕ) (r : Result (Vec X Global × ℕ) DecodeError) → GivesItems reads count b at (seen (λ found. (found.0.items, found.1)) r) → Gives (λ found. (map view found.0.items, found.1)) r (times_at count read b at)
  vec_give count b at r g = gives_seen (λ found. (found.0.items, found.1)) (λ found. (map view found.0, found.1)) r (times_at count read b at) (items_give view reads read law count b at (seen (λ found. (found.0.items, found.1)) r) g)

index_law : (b : List ℕ) (at : ℕ) (r : Result (ℕ × ℕ) DecodeError) → r ≡ u32_at b at → Gives (λ found. (found.0, found.1)) r (u32_at b at)
index_law b at (Ok x) e = sym e
index_law b at (Err d) e = λ other. sym e

pub indices_give : (count : ℕ) (b : List ℕ) (at : ℕ) (r : Result (Vec ℕ Global × ℕ) DecodeError) → GivesItems (λ b at r. r ≡ u32_at b at) count b at (seen (λ found. (found.0.items, found.1)) r) → Gives (λ found. (found.0.items, found.1)) r (times_at count u32_at b at)
indices_give count b at r g = gives_same (λ found. (map (λ x. x) found.0.items, found.1)) (λ found. (found.0.items, found.1)) r (times_at count u32_at b at) (λ found. ap (λ (xs : List ℕ). (xs, found.1)) (map-id found.0.items))
    (vec_give (λ x. x) (λ b at r. r ≡ u32_at b at) u32_at index_law count b at r g)
