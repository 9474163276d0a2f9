-- Names and the chains through which they are found.
use Rattle.std.proofs.Common.{arith, ◌≡◌, ◌≢◌, ◌∙◌, ℕ, ◌+◌, ◌-◌, ◌<◌, ◌≤◌, ◌%◌, List, [], ◌∷◌, ◌++◌, length, take, slice_get, Some, sym, ap, subst, inl, inr}
use Rattle.std.proofs.lemmas.Bool.{cases_lt}
use Rattle.std.proofs.lemmas.List.{get_or_append_left, get_or_push, length_push, get_or-take, length-take-le}
use Rattle.std.proofs.lemmas.Option.{get_or_from_slice_get, slice_get_past}
use Rattle.wh_names.specs.NameChains.{LeadsToName, AreNameChains}
use Rattle.wh_names.specs.NameHash.{hash_of, bucket_at}
use Rattle.wh_names.specs.NameIndex.{IsIndex}
use Rattle.wh_names.specs.declared.chains.Chains.{Chains}
use Rattle.wh_names.proofs.Chained.{alike}

-- the bucket of the name at a place
pub bucket_there : (names : List (List ℕ)) (n k : ℕ) (name : List ℕ) → slice_get names k ≡ Some name
    → bucket_at names n k ≡ hash_of name % n
bucket_there names n k name has = ap (λ x. hash_of x % n) (get_or_from_slice_get names k name [] has)

-- Where no name from a place on is the one, none is from the link on which leads on from there.
pub without_from : (names : List (List ℕ)) (name : List ℕ) (n bucket place link : ℕ)
    → LeadsToName (bucket_at names n) bucket place link → bucket ≡ hash_of name % n
    → ((k : ℕ) → place ≤ k → slice_get names k ≢ Some name) → (k : ℕ) → link ≤ k → slice_get names k ≢ Some name
without_from names name n bucket place link leads falls none k low has =
    elim (cases_lt k place) [
      | inl less ↦ leads.nearest k low less (bucket_there names n k name has ∙ sym falls)
      | inr past ↦ none k past has
    ]

-- a link leads to no later place than that from which it leads on
pub leads_down : (f : ℕ → ℕ) (bucket place link : ℕ) → LeadsToName f bucket place link → link ≤ place
leads_down f bucket place link leads =
    elim (cases_lt 0 link) [
      | inl some ↦
          (let e : link ≡ (link - 1) + 1 = omega (arith, some) in
          let less = (leads.there (link - 1) e).0 in
          omega (arith, some, less))
      | inr none ↦ omega (arith, none)
    ]

-- a link that leads on from within all names leads to one of them, of the bucket
pub there_from : (names : List (List ℕ)) (n bucket place link : ℕ) → LeadsToName (bucket_at names n) bucket place link
    → place ≤ length names → (k : ℕ) → link ≡ k + 1 → (k < length names) × (bucket_at names n k ≡ bucket)
there_from names n bucket place link leads few k e =
    let was = leads.there k e in
    (omega (arith, was.0, few), was.1)

-- no name is past all
pub without_past : (names : List (List ℕ)) (name : List ℕ) (k : ℕ) → length names ≤ k → slice_get names k ≢ Some name
without_past names name k past has = let none = slice_get_past names k past in absurd (cc (none, has))

-- one more name
pub index_more : (names : List (List ℕ)) (name : List ℕ) (c c2 : Chains) → IsIndex names c
    → length names < length c.heads.items → length c2.heads.items ≡ length c.heads.items
    → length c2.links.items ≡ length c.links.items + 1
    → ((bucket_of : ℕ → ℕ) → bucket_of (length c.links.items) ≡ hash_of name % length c.heads.items
    → AreNameChains bucket_of c.heads.items c.links.items → AreNameChains bucket_of c2.heads.items c2.links.items)
    → IsIndex (names ++ name ∷ []) c2
index_more names name c c2 index room heads links pushes =
    let n = length c.heads.items in
    let more = names ++ name ∷ [] in
    let long : length more ≡ length names + 1 = length_push names name in
    let many = index.links in
    let same : (k : ℕ) → k < length c.links.items → bucket_at names n k ≡ bucket_at more n k =
    λ k less. let within : k < length names = omega (arith, less, many) in
    ap (λ x. hash_of x % n) (sym (get_or_append_left names (name ∷ []) [] k within)) in
    let at : bucket_at more n (length c.links.items) ≡ hash_of name % n =
    ap (λ x. hash_of x % n) (get_or_push names name [] (length c.links.items) (sym many)) in
    let chains = pushes (bucket_at more n) at
    (alike (bucket_at names n) (bucket_at more n) c.heads.items c.links.items same index.chains) in
    record {
      buckets = omega (arith, long, heads, room);
      links = omega (arith, long, links, many);
      chains = subst (λ m. AreNameChains (bucket_at more m) c2.heads.items c2.links.items) (sym heads) chains;
    }

-- the last of n + 1 names goes
pub index_fewer : (names : List (List ℕ)) (name : List ℕ) (n : ℕ) (c c2 : Chains) → IsIndex names c
    → length names ≡ n + 1 → slice_get names n ≡ Some name → length c2.heads.items ≡ length c.heads.items
    → length c2.links.items ≡ length c.links.items - 1
    → ((bucket_of : ℕ → ℕ) → bucket_of (length c.links.items - 1) ≡ hash_of name % length c.heads.items
    → AreNameChains bucket_of c.heads.items c.links.items → AreNameChains bucket_of c2.heads.items c2.links.items)
    → IsIndex (take n names) c2
index_fewer names name n c c2 index all last heads links pops =
    let m = length c.heads.items in
    let few = take n names in
    let short : length few ≡ n = length-take-le n names (omega (arith, all)) in
    let place : length c.links.items - 1 ≡ n = omega (arith, index.links, all) in
    let at : bucket_at names m (length c.links.items - 1) ≡ hash_of name % m =
    ap (bucket_at names m) place ∙ bucket_there names m n name last in
    let same : (k : ℕ) → k < length c2.links.items → bucket_at names m k ≡ bucket_at few m k =
    λ k less. let within : k < n = omega (arith, less, links, place) in
    ap (λ x. hash_of x % m) (sym (get_or-take n names k [] within)) in
    let chains = alike (bucket_at names m) (bucket_at few m) c2.heads.items c2.links.items same
    (pops (bucket_at names m) at index.chains) in
    record {
      buckets = omega (arith, short, heads, index.buckets, all);
      links = omega (arith, short, links, place);
      chains = subst (λ k. AreNameChains (bucket_at few k) c2.heads.items c2.links.items) (sym heads) chains;
    }
