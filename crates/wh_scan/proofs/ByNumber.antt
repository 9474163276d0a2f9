-- All pages in the order of their instances' numbers, instance by instance.
use Rattle.std.proofs.Common.{◌≡◌, ◌+◌, ◌<◌, ◌≤◌, ◌++◌, ◌⊎◌, ◌∙◌, ℕ, inl, inr, List, [], ◌∷◌, Option, Some, None, get_or, length, slice_get, zero, suc, refl, sym, ap, subst, arith, length-append}
use Rattle.std.specs.Prelude.{◌↔◌}
use Rattle.std.proofs.lemmas.Bool.{cases_lt}
use Rattle.wh_space_model.specs.declared.plain.InstId.{InstId}
use Rattle.wh_space_model.specs.declared.states.Page.{Page}
use Rattle.wh_space_model.specs.{occupant_number, Occupant, Space, occupant_at, of_occupant, Scans, HasTable, IsSound, page_at, resident}
use Rattle.wh_space_model.proofs.Putting.{get_or_is, here_or, is_page}
use Rattle.wh_space_model.proofs.Rooms.{get_there}
use Rattle.wh_tables.specs.Line.{IsAbove}
use Rattle.wh_space.specs.Numbered.{ComesAfter, IsNextInstance}
use Rattle.wh_space.proofs.Owning.{page_there}
use Rattle.wh_scan.specs.Pass.{AreAllPages, ComesFirst, HasSoManyPages, MayPass, PassesOverAll, ScansAll, ScansAllMerging, ScansMerging, pages_before}
use Rattle.wh_scan.proofs.OneOrder.{one_order}
use Rattle.wh_scan.proofs.Passing.{merges_few, merging_on, scans_occupants, scans_of, scans_rows}

-- ---- members of lists of pages

abbrev pub Has : List (ℕ × ℕ) → ℕ → ℕ → Type 0
Has xs i p = (k : ℕ) × (slice_get xs k ≡ Some (i, p))

has_left : (xs ys : List (ℕ × ℕ)) (i p k : ℕ) → slice_get xs k ≡ Some (i, p) → Has (xs ++ ys) i p
has_left [] ys i p k is = absurd (cc is)
has_left (x ∷ xs) ys i p zero is = (0, is)
has_left (x ∷ xs) ys i p (suc k) is = let h = has_left xs ys i p k is in (suc h.0, h.1)

has_right : (xs ys : List (ℕ × ℕ)) (i p k : ℕ) → slice_get ys k ≡ Some (i, p) → Has (xs ++ ys) i p
has_right [] ys i p k is = (k, is)
has_right (x ∷ xs) ys i p k is = let h = has_right xs ys i p k is in (suc h.0, h.1)

has_before : (i p n : ℕ) → p < n → Has (pages_before i n) i p
has_before i p zero less = absurd (omega arith)
has_before i p (suc n) less =
    elim (here_or n p) [
      | inl same ↦ has_right (pages_before i n) ((i, n) ∷ []) i p 0 (ap (λ (z : ℕ). Some (i, z)) (sym same))
      | inr other ↦ (let h = has_before i p n (omega (arith, other)) in has_left (pages_before i n) ((i, n) ∷ []) i p h.0 h.1)
    ]

pub long_before : (i n : ℕ) → length (pages_before i n) ≡ n
long_before i zero = refl
long_before i (suc n) = let e = length-append (pages_before i n) ((i, n) ∷ []) in let rest = long_before i n in omega arith

-- and they are no others
in_left : (xs ys : List (ℕ × ℕ)) (x : ℕ × ℕ) (k : ℕ) → slice_get (xs ++ ys) k ≡ Some x
    → ((k < length xs) × (slice_get xs k ≡ Some x)) ⊎ ((j : ℕ) × (k ≡ length xs + j) × (slice_get ys j ≡ Some x))
in_left [] ys x k is = inr (k, omega arith, is)
in_left (y ∷ xs) ys x zero is = inl (omega arith, is)
in_left (y ∷ xs) ys x (suc k) is =
    elim (in_left xs ys x k is) [
      | inl here ↦ inl (omega (arith, here.0), here.1)
      | inr there ↦ inr (there.0, (let e = there.1 in omega arith), there.2)
    ]

in_before : (i n k : ℕ) (x : ℕ × ℕ) → slice_get (pages_before i n) k ≡ Some x → (x.0 ≡ i) × (x.1 ≡ k) × (k < n)
in_before i zero k x is = absurd (cc is)
in_before i (suc n) k x is =
    elim (in_left (pages_before i n) ((i, n) ∷ []) x k is) [
      | inl here ↦ (let rest = in_before i n k x here.1 in (rest.0, rest.1, omega (arith, rest.2)))
      | inr there ↦ last there.0 there.1 there.2
    ] where
      last : (j : ℕ) → k ≡ length (pages_before i n) + j → slice_get ((i, n) ∷ []) j ≡ Some x → (x.0 ≡ i) × (x.1 ≡ k) × (k < suc n)
      last zero e one = (let same : (i, n) ≡ x = cc in let long = long_before i n in let p = ap (λ (z : ℕ × ℕ). z.1) same in (sym (ap (λ (z : ℕ × ℕ). z.0) same), omega arith, omega arith))
      last (suc j) e one = absurd (cc one)

-- ---- the instances up to a number

-- the number is no higher than that one, if there is one
abbrev pub IsUpTo : Option ℕ → ℕ → Type 0
IsUpTo None n = ⊥
IsUpTo (Some m) n = n ≤ m

up_or_above : (after : Option ℕ) (n : ℕ) → IsUpTo after n ⊎ IsAbove after n
up_or_above None n = inr tt
up_or_above (Some m) n = elim (cases_lt m n) [ inl above ↦ inr above | inr most ↦ inl most ]

up_below : (after : Option ℕ) (n m : ℕ) → IsUpTo after n → IsAbove after m → n < m
up_below None n m up above = absurd up
up_below (Some k) n m up above = omega arith

-- all pages of the instances with numbers up to this one, in order
pub record AreFirstPages (s : Space) (after : Option ℕ) (pages : List (ℕ × ℕ)) : Type 0 where
  pub each : (i p : ℕ) → Has pages i p ↔ ((p < length (get_or s.tables i [])) × IsUpTo after (occupant_number s i))
  pub in_order : (j k : ℕ) (x y : ℕ × ℕ) → j < k → slice_get pages j ≡ Some x → slice_get pages k ≡ Some y → ComesFirst s x y

pub none_yet : (s : Space) → AreFirstPages s None []
none_yet s = record {
  each = λ i p. (λ has. absurd (cc has.1), λ has. absurd has.1);
  in_order = λ j k x y less at there. absurd (cc at);
}

-- who has pages has a number of its own
pub there_with_pages : (s : Space) (i : ℕ) → IsSound s → 1 ≤ length (get_or s.tables i []) → (t : Occupant) × occupant_at s i t × (occupant_number s i ≡ t.number)
there_with_pages s i sound some =
    let within = has_row s.tables i some in
    let many = sound.occupants.tables in
    let there = get_there s.occupants i (omega arith) in
    go there.0 there.1 (sound.occupants.have i there.0 there.1) where
      has_row : (xss : List (List Page)) (j : ℕ) → 1 ≤ length (get_or xss j []) → j < length xss
      has_row [] j some = absurd (omega arith)
      has_row (xs ∷ xss) zero some = omega arith
      has_row (xs ∷ xss) (suc j) some = let rest = has_row xss j some in omega arith

      go : (t : Option Occupant) → slice_get s.occupants i ≡ Some t → HasTable t (get_or s.tables i []) → (t : Occupant) × occupant_at s i t × (occupant_number s i ≡ t.number)
      go None is has = absurd (let none = ap length has in omega arith)
      go (Some t) is has = (t, is, ap (of_occupant (λ z. z.number)) (get_or_is s.occupants i (Some t) None is))

pub own_number : (s : Space) (i j : ℕ) → IsSound s → 1 ≤ length (get_or s.tables i []) → 1 ≤ length (get_or s.tables j []) → occupant_number s i ≡ occupant_number s j → i ≡ j
own_number s i j sound some other same =
    let t = there_with_pages s i sound some in
    let u = there_with_pages s j sound other in
    sound.occupants.numbers i j t.0 u.0 t.1 u.1 (sym t.2 ∙ same ∙ u.2)

-- and then those of the next one
pub pages_next : (s : Space) (after : Option ℕ) (pages : List (ℕ × ℕ)) (next : InstId) → IsSound s → AreFirstPages s after pages → IsNextInstance s after next
    → AreFirstPages s (Some next.number) (pages ++ pages_before next.place (length (get_or s.tables next.place [])))
pages_next s after pages next sound first is =
    let row = length (get_or s.tables next.place []) in
    let its : List (ℕ × ℕ) = pages_before next.place row in
    record {
      each = λ i p. (
        λ has. elim (in_left pages its (i, p) has.0 has.1) [
          | inl here ↦ (let old = (first.each i p).0 (has.0, here.1) in let below = up_below after (occupant_number s i) (occupant_number s next.place) old.1 is.later.1 in (old.0, omega arith))
          | inr there ↦
              (let mine = in_before next.place row there.0 (i, p) there.2 in
              let place : i ≡ next.place = mine.0 in
              rw place (omega arith, omega arith))
        ],
        λ within. elim (up_or_above after (occupant_number s i)) [
          | inl up ↦ (let old = (first.each i p).1 (within.0, up) in has_left pages its i p old.0 old.1)
          | inr above ↦
              (let some : 1 ≤ length (get_or s.tables i []) = (let w : p < length (get_or s.tables i []) = within.0 in omega arith) in
              let same : next.place ≡ i = own_number s next.place i sound is.later.0 some (omega arith) in
              let has = has_before next.place p row (rw same within.0) in
              let its_page : slice_get its has.0 ≡ Some (i, p) = has.1 ∙ ap (λ (z : ℕ). Some (z, p)) same in
              has_right pages its i p has.0 its_page)
        ],
      );
      in_order = λ j k x y less at there. order j k x y less (in_left pages its x j at) (in_left pages its y k there);
    } where
      order : (j k : ℕ) (x y : ℕ × ℕ) → j < k
          → ((j < length pages) × (slice_get pages j ≡ Some x)) ⊎ ((m : ℕ) × (j ≡ length pages + m) × (slice_get (pages_before next.place (length (get_or s.tables next.place []))) m ≡ Some x))
          → ((k < length pages) × (slice_get pages k ≡ Some y)) ⊎ ((n : ℕ) × (k ≡ length pages + n) × (slice_get (pages_before next.place (length (get_or s.tables next.place []))) n ≡ Some y))
          → ComesFirst s x y
      order j k x y less (inl a) (inl b) = first.in_order j k x y less a.1 b.1
      order j k x y less (inl a) (inr (n, e, b)) =
          let old = (first.each x.0 x.1).0 (j, a.1) in
          let mine = in_before next.place (length (get_or s.tables next.place [])) n y b in
          let place : y.0 ≡ next.place = mine.0 in
          inl (rw place (up_below after (occupant_number s x.0) (occupant_number s next.place) old.1 is.later.1))
      order j k x y less (inr (m, e, a)) (inl b) = absurd (let f = b.0 in omega arith)
      order j k x y less (inr (m, e, a)) (inr (n, f, b)) =
          let one = in_before next.place (length (get_or s.tables next.place [])) m x a in
          let other = in_before next.place (length (get_or s.tables next.place [])) n y b in
          inr (one.0 ∙ sym other.0, omega arith)

-- and so all of them
pub pages_all : (s : Space) (after : Option ℕ) (pages : List (ℕ × ℕ)) → AreFirstPages s after pages → ((i : ℕ) → ¬ ComesAfter s after i) → AreAllPages s pages
pages_all s after pages first none = record {
  each = λ i p. (
    λ has. ((first.each i p).0 has).0,
    λ within. elim (up_or_above after (occupant_number s i)) [
      | inl up ↦ (first.each i p).1 (within, up)
      | inr above ↦ absurd (none i (omega arith, above))
    ],
  );
  in_order = first.in_order;
}

-- ---- they are offered, as far as the pass has come

pub record IsPassUpTo (hashes : List ℕ → ℕ) (s : Space) (after : Option ℕ) (offered merged : ℕ) (s2 : Space) : Type 0 where
  pub pages : List (ℕ × ℕ)
  pub many : length pages ≡ offered
  pub first : AreFirstPages s after pages
  pub merging : ScansMerging hashes s pages merged s2

pub pass_begun : (hashes : List ℕ → ℕ) (s : Space) → IsPassUpTo hashes s None 0 0 s
pass_begun hashes s = record { pages = []; many = refl; first = none_yet s; merging = (refl, refl) }

pub scans_up_to : (hashes : List ℕ → ℕ) (s : Space) (after : Option ℕ) (offered merged : ℕ) (s2 : Space) → (pass : IsPassUpTo hashes s after offered merged s2) → Scans hashes s pass.pages s2
scans_up_to hashes s after offered merged s2 pass = scans_of hashes s pass.pages merged s2 pass.merging

pub merged_few : (hashes : List ℕ → ℕ) (s : Space) (after : Option ℕ) (offered merged : ℕ) (s2 : Space) → IsPassUpTo hashes s after offered merged s2 → merged ≤ offered
merged_few hashes s after offered merged s2 pass = let few = merges_few hashes s pass.pages merged s2 pass.merging in omega (arith, few, pass.many)

same_number : (s s2 : Space) (i : ℕ) → s2.occupants ≡ s.occupants → occupant_number s2 i ≡ occupant_number s i
same_number s s2 i same = ap (λ (z : List (Option Occupant)). of_occupant (λ t. t.number) (get_or z i None)) same

comes_before : (s s2 : Space) (after : Option ℕ) (i : ℕ) → s2.occupants ≡ s.occupants → length (get_or s2.tables i []) ≡ length (get_or s.tables i [])
    → ComesAfter s after i → ComesAfter s2 after i
comes_before s s2 after i same row comes = (let some = comes.0 in omega arith, subst (IsAbove after) (sym (same_number s s2 i same)) comes.1)

pub next_before : (s s2 : Space) (after : Option ℕ) (next : InstId) → s2.occupants ≡ s.occupants → ((i : ℕ) → length (get_or s2.tables i []) ≡ length (get_or s.tables i []))
    → IsNextInstance s2 after next → IsNextInstance s after next
next_before s s2 after next same rows is = record {
  number = sym (same_number s s2 next.place same) ∙ is.number;
  later = (let e = rows next.place in let some = is.later.0 in omega arith, subst (IsAbove after) (same_number s s2 next.place same) is.later.1);
  lowest = λ j comes. (let least = is.lowest j (comes_before s s2 after j same (rows j) comes) in let e = same_number s s2 j same in omega arith);
}

pub pass_next : (hashes : List ℕ → ℕ) (s : Space) (after : Option ℕ) (offered merged more : ℕ) (mid : Space) (next : InstId) (s2 : Space) → IsSound s → IsPassUpTo hashes s after offered merged mid → IsNextInstance mid after next
    → ScansMerging hashes mid (pages_before next.place (length (get_or mid.tables next.place []))) more s2 → IsPassUpTo hashes s (Some next.number) (offered + length (get_or s.tables next.place [])) (merged + more) s2
pass_next hashes s after offered merged more mid next s2 sound pass is scans =
    let before = scans_up_to hashes s after offered merged mid pass in
    let same = scans_occupants hashes s pass.pages mid before in
    let rows : (i : ℕ) → length (get_or mid.tables i []) ≡ length (get_or s.tables i []) = λ i. scans_rows hashes s pass.pages mid i sound before in
    record {
      pages = pass.pages ++ pages_before next.place (length (get_or s.tables next.place []));
      many =
          (let both = length-append pass.pages (pages_before next.place (length (get_or s.tables next.place []))) in
          let its = long_before next.place (length (get_or s.tables next.place [])) in
          let old = pass.many in
          omega arith);
      first = pages_next s after pass.pages next sound pass.first (next_before s mid after next same rows is);
      merging = merging_on hashes s pass.pages _ merged more mid s2 pass.merging (subst (λ (n : ℕ). ScansMerging hashes mid (pages_before next.place n) more s2) (rows next.place) scans);
    }

pass_over : (hashes : List ℕ → ℕ) (s : Space) (after : Option ℕ) (offered merged : ℕ) (s2 : Space) → IsSound s → (pass : IsPassUpTo hashes s after offered merged s2) → ((i : ℕ) → ¬ ComesAfter s2 after i) → AreAllPages s pass.pages
pass_over hashes s after offered merged s2 sound pass none =
    let scans = scans_up_to hashes s after offered merged s2 pass in
    pages_all s after pass.pages pass.first (λ i comes. none i (comes_before s s2 after i (scans_occupants hashes s pass.pages s2 scans) (scans_rows hashes s pass.pages s2 i sound scans) comes))

pub pass_done : (hashes : List ℕ → ℕ) (s : Space) (after : Option ℕ) (offered merged : ℕ) (s2 : Space) → IsSound s → IsPassUpTo hashes s after offered merged s2 → ((i : ℕ) → ¬ ComesAfter s2 after i) → ScansAll hashes s s2
pass_done hashes s after offered merged s2 sound pass none = (pass.pages, pass_over hashes s after offered merged s2 sound pass none, scans_up_to hashes s after offered merged s2 pass)

pub pass_merged : (hashes : List ℕ → ℕ) (s : Space) (after : Option ℕ) (offered merged : ℕ) (s2 : Space) → IsSound s → IsPassUpTo hashes s after offered merged s2 → ((i : ℕ) → ¬ ComesAfter s2 after i) → ScansAllMerging hashes s merged s2
pass_merged hashes s after offered merged s2 sound pass none = (pass.pages, pass_over hashes s after offered merged s2 sound pass none, pass.merging)

-- n
pub pass_many : (hashes : List ℕ → ℕ) (s : Space) (after : Option ℕ) (offered merged : ℕ) (s2 : Space) → IsSound s → IsPassUpTo hashes s after offered merged s2 → ((i : ℕ) → ¬ ComesAfter s2 after i) → HasSoManyPages s offered
pass_many hashes s after offered merged s2 sound pass none = λ others all.
    ap (λ (xs : List (ℕ × ℕ)). length xs) (one_order s others pass.pages all (pass_over hashes s after offered merged s2 sound pass none)) ∙ pass.many

-- ---- that is a full pass

pub full_pass : (hashes : List ℕ → ℕ) (s : Space) (s2 : Space) → MayPass hashes s → ScansAll hashes s s2 → PassesOverAll hashes s s2
full_pass hashes s s2 may (pages, all, scans) = (
  pages,
  all,
  record {
    all = λ i p one.
        (let x = page_there resident (page_at s.tables i p) one in
        let there = is_page s.tables i p x.0 x.1 in
        (all.each i p).1 there.1);
    none_out = may.none_out;
    none_kept = may.none_kept;
    none_pinned = may.none_pinned;
    made_under = may.made_under;
    apart = may.apart;
    scans = scans;
  },
)
