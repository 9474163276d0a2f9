-- What is known of a device, and how its calls failed, over several stretches of a script.
use Rattle.std.proofs.Common.{arith, ◌≡◌, ◌+◌, List, [], ◌∷◌, ◌++◌, length, Option, Some, None, refl, sym, ap, ◌∙◌, append_assoc, length-append, ℕ, map, subst}
use Rattle.wh_space_model.specs.declared.plain.SwapError.{SwapError}
use Rattle.wh_engine.specs.Draining.{DeviceHoldsAmid, DeviceStaysTrue, HasAdded, DeviceMayFail}
use Rattle.std.proofs.lemmas.List.{map-append}
use Rattle.wh_space_model.specs.{swap_number}

-- ---- faults

added_more : (a b c : List SwapError) → HasAdded a b → HasAdded b c → HasAdded a c
added_more a b c p q = (q.0 ++ p.0, q.1 ∙ ap (λ xs. q.0 ++ xs) p.1 ∙ sym (append_assoc q.0 p.0 a))

-- where they are the same, none was added
pub none_of : (more a : List SwapError) → a ≡ more ++ a → more ≡ []
none_of [] a e = refl
none_of (x ∷ more) a e =
    let n : length a ≡ length (x ∷ more) + length a = ap (λ (xs : List SwapError). length xs) e ∙ length-append (x ∷ more) a in
    absurd (omega (arith, n))

-- ---- the device, where there is one

module _ {D : Type 0} (keeps honest : D → Type 0) (faults : D → List SwapError) where
  pub true_same : (o : Option D) → DeviceStaysTrue keeps honest o o
  true_same None = tt
  true_same (Some d) = record { was_honest = λ h. h; goes_on = λ h. h; stays_honest = λ k h. h }

  pub true_then : (o o2 o3 : Option D) → DeviceStaysTrue keeps honest o o2 → DeviceStaysTrue keeps honest o2 o3 → DeviceStaysTrue keeps honest o o3
  true_then None None None a b = tt
  true_then None None (Some d3) a b = elim b [ ]
  true_then None (Some d2) o3 a b = elim a [ ]
  true_then (Some d) None o3 a b = elim a [ ]
  true_then (Some d) (Some d2) None a b = elim b [ ]
  true_then (Some d) (Some d2) (Some d3) a b =
      record { was_honest = λ h. a.was_honest (b.was_honest h); goes_on = λ k. b.goes_on (a.goes_on k); stays_honest = λ k h. b.stays_honest (a.goes_on k) (a.stays_honest k h) }

  pub fails_same : (o : Option D) → DeviceMayFail faults o o
  fails_same None = tt
  fails_same (Some d) = ([], refl)

  pub fails_then : (o o2 o3 : Option D) → DeviceMayFail faults o o2 → DeviceMayFail faults o2 o3 → DeviceMayFail faults o o3
  fails_then None None None a b = tt
  fails_then None None (Some d3) a b = elim b [ ]
  fails_then None (Some d2) o3 a b = elim a [ ]
  fails_then (Some d) None o3 a b = elim a [ ]
  fails_then (Some d) (Some d2) None a b = elim b [ ]
  fails_then (Some d) (Some d2) (Some d3) a b = added_more (faults d) (faults d2) (faults d3) a b

  -- ---- what holds where it has read right

  pub holds_map : (o o2 : Option D) (P Q : List ℕ → Type 0) → ((met : List ℕ) → P met → Q met) → DeviceHoldsAmid honest faults o o2 P → DeviceHoldsAmid honest faults o o2 Q
  holds_map None None P Q so h = so [] h
  holds_map None (Some d2) P Q so h = tt
  holds_map (Some d) None P Q so h = tt
  holds_map (Some d) (Some d2) P Q so h = λ right. let p = h right in (p.0, p.1, so (map swap_number p.0) p.2)

  -- nothing but that calls may have failed
  pub holds_any : (o o2 : Option D) → DeviceMayFail faults o o2 → DeviceHoldsAmid honest faults o o2 (λ met. Unit {0})
  holds_any None None h = tt
  holds_any None (Some d2) h = elim h [ ]
  holds_any (Some d) None h = elim h [ ]
  holds_any (Some d) (Some d2) h = λ right. (h.0, h.1, tt)

  -- one stretch behind the other
  pub holds_then : (o o2 o3 : Option D) (P Q R : List ℕ → Type 0) → DeviceMayFail faults o o2 → DeviceStaysTrue keeps honest o2 o3
      → ((first rest : List ℕ) → P first → Q rest → R (rest ++ first)) → DeviceHoldsAmid honest faults o o2 P → DeviceHoldsAmid honest faults o2 o3 Q
      → DeviceHoldsAmid honest faults o o3 R
  holds_then None None None P Q R a t so p q = so [] [] p q
  holds_then None None (Some d3) P Q R a t so p q = elim t [ ]
  holds_then None (Some d2) o3 P Q R a t so p q = elim a [ ]
  holds_then (Some d) None o3 P Q R a t so p q = elim a [ ]
  holds_then (Some d) (Some d2) None P Q R a t so p q = elim t [ ]
  holds_then (Some d) (Some d2) (Some d3) P Q R a t so p q = λ right.
      let first = p (t.was_honest right) in
      let rest = q right in (
        rest.0 ++ first.0,
        rest.1 ∙ ap (λ xs. rest.0 ++ xs) first.1 ∙ sym (append_assoc rest.0 first.0 (faults d)),
        subst R (sym (map-append swap_number rest.0 first.0)) (so (map swap_number first.0) (map swap_number rest.0) first.2 rest.2),
      )
