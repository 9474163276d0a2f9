-- What tickets that go out and come back make of what memory and device agree on.
use Rattle.std.proofs.Common.{◌≡◌, ◌∙◌, zero, suc, arith, ◌∷◌, ℕ, List, [], Bool, cond, Option, Some, None, length, map, slice_set, inl, inr, refl, sym, ap, subst}
use Rattle.std.proofs.lemmas.List.{length-set, map-set}
use Rattle.wh_model.specs.declared.memory.Need.{Need}
use Rattle.wh_space_model.specs.declared.states.EvictEnd.{EvictEnd}
use Rattle.wh_space_model.specs.declared.states.FetchEnd.{FetchEnd}
use Rattle.wh_space_model.specs.declared.states.Slot.{Slot}
use Rattle.wh_space_model.specs.declared.states.Slot.TheVariants.{Evicting, EvictVoid, Fetching, FetchVoid, Taken, Vacant}
use Rattle.wh_space_model.specs.{tally, Errand, Pass, errand_for, is_ticket, pass_of, to_read, to_write, Slots, Space, BeginsEvict, BeginsFetch, CommitsEvict, CommitsFetch, Reserves}
use Rattle.wh_reclaim.specs.Together.{AreTogether}
use Rattle.wh_reclaim.specs.Whole.{IsAsWhole}
use Rattle.wh_host.specs.TicketsOut.{EndsEvict}
use Rattle.wh_cell.specs.Knowing.{AgreesWith, KnownState, NoneOut, with_ticket, without_ticket}

-- the slots hold these afterwards, and these tickets are out
pub record Passes (s : Space) (held : List (List ℕ)) (out : List (Option Errand)) (s2 : Space) : Type 0 where
  pub pass : pass_of s2 ≡ record { held = held; out = out }
  pub whole : IsAsWhole s s2

-- a ticket goes out for a slot, or none
abbrev pub out_with : List (Option Errand) → Option ℕ → Errand → List (Option Errand)
out_with out None errand = out
out_with out (Some k) errand = slice_set out k (Some errand)

-- the slots are those, but that one is used for this
uses_pass : (s : Space) (held : List (List ℕ)) (k : ℕ) (used : Slot) (s2 : Space) → s2.slots.uses ≡ slice_set s.slots.uses k used → s2.slots.held ≡ held
    → length s2.pool.frames ≡ length s.pool.frames → s2.tax ≡ s.tax → Passes s held (slice_set (pass_of s).out k (errand_for used)) s2
uses_pass s held k used s2 uses holds frames tax =
    let out : (pass_of s2).out ≡ slice_set (pass_of s).out k (errand_for used) = ap (map errand_for) uses ∙ map-set errand_for s.slots.uses k used in
    record {
      pass = ap (λ (xs : List (Option Errand)). (let p : Pass = record { held = s2.slots.held; out = xs } in p)) out
          ∙ ap (λ (xs : List (List ℕ)). (let p : Pass = record { held = xs; out = slice_set (pass_of s).out k (errand_for used) } in p)) holds;
      whole = record { frames = frames; slots = ap (λ (xs : List Slot). length xs) uses ∙ length-set s.slots.uses k used; tax = tax };
    }

same_slots_pass : (s s2 : Space) → s2.slots ≡ s.slots → length s2.pool.frames ≡ length s.pool.frames → s2.tax ≡ s.tax → Passes s s.slots.held (pass_of s).out s2
same_slots_pass s s2 slots frames tax = record {
  pass = ap (λ (z : Slots). (let p : Pass = record { held = z.held; out = map errand_for z.uses } in p)) slots;
  whole = record { frames = frames; slots = ap (λ (z : Slots). length z.uses) slots; tax = tax };
}

-- nothing has changed
pub unchanged : (s s2 : Space) → s2 ≡ s → Passes s s.slots.held (pass_of s).out s2
unchanged s s2 is = same_slots_pass s s2 (ap (λ (z : Space). z.slots) is) (ap (λ (z : Space). length z.pool.frames) is) (ap (λ (z : Space). z.tax) is)

record SameSlots (s s2 : Space) : Type 0 where
  slots : s2.slots ≡ s.slots
  frames : length s2.pool.frames ≡ length s.pool.frames
  tax : s2.tax ≡ s.tax

reserved : (s : Space) (i : ℕ) (need : Need) (s2 : Space) → Reserves s i need s2 → SameSlots s s2
reserved s i need s2 r = record {
  slots = ap (λ (z : Space). z.slots) r.leaves;
  frames = ap (λ (z : Space). length z.pool.frames) r.leaves;
  tax = ap (λ (z : Space). z.tax) r.leaves;
}

pub begins_evict : (s : Space) (i : ℕ) (slot : Option ℕ) (bytes : List ℕ) (s2 : Space) → BeginsEvict s i slot bytes s2 → Passes s s.slots.held (out_with (pass_of s).out slot to_write) s2
begins_evict s i None bytes s2 (inl (idle, is)) = same_slots_pass s s2 (ap (λ (z : Space). z.slots) is) (ap (λ (z : Space). length z.pool.frames) is) (ap (λ (z : Space). z.tax) is)
begins_evict s i None bytes s2 (inr (need, stands, reserves, why)) =
    let r = reserved s i need s2 reserves in
    same_slots_pass s s2 r.slots r.frames r.tax
begins_evict s i (Some k) bytes s2 (need, stands, s1, reserves, less, j, p, f, must, old, new, at, of, leaving, are, others, vacant, is) =
    let r = reserved s i need s1 reserves in
    uses_pass s s.slots.held k (Evicting j p) s2
    (ap (λ (z : Space). z.slots.uses) is ∙ ap (λ (z : Slots). slice_set z.uses k (Evicting j p)) r.slots)
    (ap (λ (z : Space). z.slots.held) is ∙ ap (λ (z : Slots). z.held) r.slots)
    (ap (λ (z : Space). length z.pool.frames) is ∙ r.frames) (ap (λ (z : Space). z.tax) is ∙ r.tax)

pub begins_fetch : (s : Space) (i : ℕ) (slot : Option ℕ) (s2 : Space) → BeginsFetch s i slot s2 → Passes s s.slots.held (out_with (pass_of s).out slot to_read) s2
begins_fetch s i None s2 (inl (idle, is)) = same_slots_pass s s2 (ap (λ (z : Space). z.slots) is) (ap (λ (z : Space). length z.pool.frames) is) (ap (λ (z : Space). z.tax) is)
begins_fetch s i None s2 (inr (need, stands, reserves, why)) =
    let r = reserved s i need s2 reserves in
    same_slots_pass s s2 r.slots r.frames r.tax
begins_fetch s i (Some k) s2 (need, stands, s1, reserves, p, f, first, at, others, kept, is) =
    let r = reserved s i need s1 reserves in
    uses_pass s s.slots.held k (Fetching i p f) s2
    (ap (λ (z : Space). z.slots.uses) is ∙ ap (λ (z : Slots). slice_set z.uses k (Fetching i p f)) r.slots)
    (ap (λ (z : Space). z.slots.held) is ∙ ap (λ (z : Slots). z.held) r.slots)
    (ap (λ (z : Space). length z.pool.frames) is ∙ r.frames) (ap (λ (z : Space). z.tax) is ∙ r.tax)

committed : (s : Space) (k : ℕ) (wrote : Bool) (bytes : List ℕ) (end : EvictEnd) (s2 : Space) → CommitsEvict s k wrote bytes end s2 → Passes s s.slots.held (slice_set (pass_of s).out k None) s2
committed s k wrote bytes end s2 (inl (j, at, ends, is)) =
    uses_pass s s.slots.held k _ s2 (ap (λ (z : Space). z.slots.uses) is) (ap (λ (z : Space). z.slots.held) is) (ap (λ (z : Space). length z.pool.frames) is) (ap (λ (z : Space). z.tax) is)
committed s k wrote bytes end s2 (inr (j, p, f, at, page, there, of, inl (did, same, ends, is))) =
    uses_pass s s.slots.held k _ s2 (ap (λ (z : Space). z.slots.uses) is) (ap (λ (z : Space). z.slots.held) is) (ap (λ (z : Space). length z.pool.frames) is) (ap (λ (z : Space). z.tax) is)
committed s k wrote bytes end s2 (inr (j, p, f, at, page, there, of, inr (why, old, before, is))) =
    uses_pass s s.slots.held k _ s2 (ap (λ (z : Space). z.slots.uses) is) (ap (λ (z : Space). z.slots.held) is) (ap (λ (z : Space). length z.pool.frames) is) (ap (λ (z : Space). z.tax) is)

pub ends_evict : (s : Space) (k : ℕ) (wrote : Bool) (bytes : List ℕ) (end : EvictEnd) (s2 : Space) → EndsEvict s k wrote bytes end s2
    → Passes s (slice_set s.slots.held k (cond wrote bytes [])) (slice_set (pass_of s).out k None) s2
ends_evict s k wrote bytes end s2 (mid, (evicting, is), commits) =
    let p = committed mid k wrote bytes end s2 commits in
    record {
      pass = p.pass ∙ ap (λ (z : Space). (let q : Pass = record { held = z.slots.held; out = slice_set (pass_of z).out k None } in q)) is;
      whole = record {
        frames = p.whole.frames ∙ ap (λ (z : Space). length z.pool.frames) is;
        slots = p.whole.slots ∙ ap (λ (z : Space). length z.slots.uses) is;
        tax = p.whole.tax ∙ ap (λ (z : Space). z.tax) is;
      };
    }

pub commits_fetch : (s : Space) (k : ℕ) (read : Bool) (bytes : List ℕ) (end : FetchEnd) (s2 : Space) → CommitsFetch s k read bytes end s2 → Passes s s.slots.held (slice_set (pass_of s).out k None) s2
commits_fetch s k read bytes end s2 (inl (i, f, at, ends, is)) =
    uses_pass s s.slots.held k _ s2 (ap (λ (z : Space). z.slots.uses) is) (ap (λ (z : Space). z.slots.held) is) (ap (λ (z : Space). length z.pool.frames) is) (ap (λ (z : Space). z.tax) is)
commits_fetch s k read bytes end s2 (inr (i, p, f, at, inl (did, many, ends, is))) =
    uses_pass s s.slots.held k _ s2 (ap (λ (z : Space). z.slots.uses) is) (ap (λ (z : Space). z.slots.held) is)
    (ap (λ (z : Space). length z.pool.frames) is ∙ length-set s.pool.frames f bytes) (ap (λ (z : Space). z.tax) is)
commits_fetch s k read bytes end s2 (inr (i, p, f, at, inr (not, ends, is))) =
    uses_pass s s.slots.held k _ s2 (ap (λ (z : Space). z.slots.uses) is) (ap (λ (z : Space). z.slots.held) is) (ap (λ (z : Space). length z.pool.frames) is) (ap (λ (z : Space). z.tax) is)

-- ---- no ticket is out

-- one that went out and came back leaves all as they were
pub back_home : (out : List (Option Errand)) (k : ℕ) (x : Option Errand) → NoneOut out → slice_set (slice_set out k x) k None ≡ out
back_home [] k x none = refl
back_home (y ∷ out) zero x none = ap (λ z. z ∷ out) (sym none.0)
back_home (y ∷ out) (suc k) x none = ap (λ zs. y ∷ zs) (back_home out k x none.1)

no_ticket : (x : Slot) → errand_for x ≡ None → is_ticket x ≡ 0
no_ticket Vacant none = refl
no_ticket Taken none = refl
no_ticket (Evicting i p) none = absurd (cc none)
no_ticket (EvictVoid i) none = absurd (cc none)
no_ticket (Fetching i p f) none = absurd (cc none)
no_ticket (FetchVoid i f) none = absurd (cc none)

no_errand : (x : Slot) → is_ticket x ≡ 0 → errand_for x ≡ None
no_errand Vacant none = refl
no_errand Taken none = refl
no_errand (Evicting i p) none = absurd (omega (arith, none))
no_errand (EvictVoid i) none = absurd (omega (arith, none))
no_errand (Fetching i p f) none = absurd (omega (arith, none))
no_errand (FetchVoid i f) none = absurd (omega (arith, none))

pub none_tallied : (uses : List Slot) → NoneOut (map errand_for uses) → tally is_ticket uses ≡ 0
none_tallied [] none = refl
none_tallied (x ∷ uses) none = let a = no_ticket x none.0 in let b = none_tallied uses none.1 in omega (arith, a, b)

pub none_there : (uses : List Slot) → tally is_ticket uses ≡ 0 → NoneOut (map errand_for uses)
none_there [] none = tt
none_there (x ∷ uses) none = (no_errand x (omega (arith, none)), none_there uses (omega (arith, none)))

pub as_many : (uses : List Slot) → length (map errand_for uses) ≡ length uses
as_many [] = refl
as_many (x ∷ uses) = let b = as_many uses in omega (arith, b)

-- two lists of as many tickets, none of which is out
pub same_none : (xs ys : List (Option Errand)) → NoneOut xs → NoneOut ys → length xs ≡ length ys → xs ≡ ys
same_none [] [] a b many = refl
same_none [] (y ∷ ys) a b many = absurd (omega (arith, many))
same_none (x ∷ xs) [] a b many = absurd (omega (arith, many))
same_none (x ∷ xs) (y ∷ ys) a b many =
    ap (λ zs. x ∷ zs) (same_none xs ys a.1 b.1 (omega (arith, many))) ∙ ap (λ z. z ∷ ys) (a.0 ∙ sym b.0)

-- so none is out again
pub none_again : {D : Type 0} (known known2 known3 : KnownState D) (slot : ℕ) (errand : Errand) (d : D) → NoneOut known.out → known2 ≡ with_ticket known slot errand → known3 ≡ without_ticket known2 slot d → NoneOut known3.out
none_again {D} known known2 known3 slot errand d none goes comes =
    subst NoneOut (sym (ap (λ (k : KnownState D). k.out) comes ∙ ap (λ (k : KnownState D). slice_set k.out slot None) goes ∙ back_home known.out slot (Some errand) none)) none

-- ---- agreement

pub held_is : {D : Type 0} (held : D → List (List ℕ)) (s : Space) (known : KnownState D) (d : D) → AgreesWith held s known d → s.slots.held ≡ held d
held_is held s known d a = ap (λ (p : Pass). p.held) a.pass

pub out_is : {D : Type 0} (held : D → List (List ℕ)) (s : Space) (known : KnownState D) (d : D) → AgreesWith held s known d → (pass_of s).out ≡ known.out
out_is held s known d a = ap (λ (p : Pass). p.out) a.pass

pub together_is : {D : Type 0} (held : D → List (List ℕ)) (s : Space) (known : KnownState D) (d : D) → AgreesWith held s known d → NoneOut known.out → AreTogether s (held d)
together_is held s known d a none = record {
  none_out = none_tallied s.slots.uses (subst NoneOut (sym (out_is held s known d a)) none);
  agrees = held_is held s known d a;
}
