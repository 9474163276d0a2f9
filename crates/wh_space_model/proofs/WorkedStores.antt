-- A store to a shared page, by hand.
use Rattle.std.proofs.Common.{◌≡◌, ◌≢◌, ℕ, ◌≤◌, inl, inr, List, Option, [], ◌∷◌, Some, None, true, false, length, get_or, zero, suc, refl, arith, rules}
use Rattle.wh_space_model.proofs.Tally.{one_same}
use Rattle.wh_space_model.specs.declared.Tax.{Tax}
use Rattle.wh_space_model.specs.declared.states.Page.TheVariants.{Private, Shared}
use Rattle.wh_space_model.specs.declared.states.Mark.TheVariants.{Plain, Sharers}
use Rattle.wh_space_model.specs.declared.states.Slot.TheVariants.{Vacant}
use Rattle.wh_space_model.specs.{Occupant, Space, sharers, active_of, charged_of, weight_of, joined_to, zero_page, Epochs, Overwrites}
use Rattle.wh_space_model.specs.Breaks.{Breaks}
use Rattle.wh_space_model.specs.Offers.{Offers}
use Rattle.wh_space_model.specs.declared.states.Offer.TheVariants.{Merged}

abbrev sharer : ℕ → Option Occupant
sharer n = Some (record { number = n; live = true; shares = 100; min = 2; max = 16; stands = None; leaves = None })

-- three instances share frame 0
abbrev before : Tax → ℕ → List ℕ → ℕ → Space
before tax y ys h = record {
  occupants = sharer 0 ∷ sharer 1 ∷ sharer 2 ∷ [];
  tables = (Shared 0 ∷ []) ∷ (Shared 0 ∷ []) ∷ (Shared 0 ∷ []) ∷ [];
  touched = (false ∷ []) ∷ (true ∷ []) ∷ (true ∷ []) ∷ [];
  pool = record { frames = (y ∷ ys) ∷ (y ∷ ys) ∷ (y ∷ ys) ∷ (y ∷ ys) ∷ []; free = 3 ∷ 1 ∷ 2 ∷ [] };
  marks = Sharers h 3 ∷ Plain ∷ Plain ∷ Plain ∷ [];
  slots = record { uses = Vacant ∷ []; vacant = 0 ∷ []; held = [] ∷ [] };
  pins = None;
  tax = tax;
}

-- the first has frame 3 now, with another first byte: two frames of four are in use, and two share the old one
abbrev after : Tax → ℕ → List ℕ → ℕ → Space
after tax y ys h = record (before tax y ys h) {
  tables = (Private 3 ∷ []) ∷ (Shared 0 ∷ []) ∷ (Shared 0 ∷ []) ∷ [];
  touched = (true ∷ []) ∷ (true ∷ []) ∷ (true ∷ []) ∷ [];
  pool = record { frames = (y ∷ ys) ∷ (y ∷ ys) ∷ (y ∷ ys) ∷ (2 ∷ ys) ∷ []; free = 1 ∷ 2 ∷ [] };
  marks = Sharers h 2 ∷ Plain ∷ Plain ∷ Plain ∷ [];
}

-- among the frames that are written is only the first one's new one
other_frame : (y : ℕ) (ys : List ℕ) (f : ℕ) → f ≢ 3 → get_or ((y ∷ ys) ∷ (y ∷ ys) ∷ (y ∷ ys) ∷ (2 ∷ ys) ∷ []) f [] ≡ get_or ((y ∷ ys) ∷ (y ∷ ys) ∷ (y ∷ ys) ∷ (y ∷ ys) ∷ []) f []
other_frame y ys zero other = refl
other_frame y ys (suc zero) other = refl
other_frame y ys (suc (suc zero)) other = refl
other_frame y ys (suc (suc (suc zero))) other = absurd (other refl)
other_frame y ys (suc (suc (suc (suc f)))) other = refl

same_long : (y : ℕ) (ys : List ℕ) (f : ℕ) → length (get_or ((y ∷ ys) ∷ (y ∷ ys) ∷ (y ∷ ys) ∷ (2 ∷ ys) ∷ []) f []) ≡ length (get_or ((y ∷ ys) ∷ (y ∷ ys) ∷ (y ∷ ys) ∷ (y ∷ ys) ∷ []) f [])
same_long y ys zero = refl
same_long y ys (suc zero) = refl
same_long y ys (suc (suc zero)) = refl
same_long y ys (suc (suc (suc zero))) = refl
same_long y ys (suc (suc (suc (suc f)))) = refl

-- its page is unshared: it takes frame 3, and the entry has one sharer fewer
abbrev between : Tax → ℕ → List ℕ → ℕ → Space
between tax y ys h = record (after tax y ys h) { pool = record (after tax y ys h).pool { frames = (before tax y ys h).pool.frames } }

breaks : (tax : Tax) (y : ℕ) (ys : List ℕ) (h : ℕ) → Overwrites (before tax y ys h) 0 0 (2 ∷ []) (after tax y ys h) × (length (after tax y ys h).pool.free ≡ 2) × (sharers (after tax y ys h) 0 ≡ 2)
breaks tax y ys h =
    let s : Space = before tax y ys h in
    let taken : Space = record s { pool = record s.pool { free = 1 ∷ 2 ∷ [] }; marks = Sharers h 2 ∷ Plain ∷ Plain ∷ Plain ∷ [] } in
    let some : 2 ≤ 3 = omega arith in
    let first : Breaks s 0 0 (between tax y ys h) = record { page = Shared 0; was = refl; frame = 3; mid = taken; gets = inr (some, inl (1 ∷ 2 ∷ [], ([], 1 ∷ 2 ∷ [], refl, refl), refl)); after = refl } in (
      record {
        mid = between tax y ys h;
        breaks = (between tax y ys h, first, refl);
        fills = search (rules, same_long, other_frame, one_same);
      },
      refl,
      refl,
    )

-- The frame that three share is charged to the first, and was touched, though not by the first.
charged_first : (tax : Tax) (y : ℕ) (ys : List ℕ) (h : ℕ) → let s : Space = before tax y ys h in
    (charged_of s 0 ≡ 1) × (active_of s 0 ≡ 1) × (charged_of s 1 ≡ 0) × (charged_of s 2 ≡ 0)
charged_first tax y ys h = (refl, refl, refl, refl)

-- When the first has left, the frame is charged to the second, and still not to the third. After a new epoch it
-- is idle: with a tax of three quarters it weighs four, of which a touched
-- page would weigh one.
weighs : (tax : Tax) (y : ℕ) (ys : List ℕ) (h : ℕ) → tax.num ≡ 3 → tax.den ≡ 4
    → (s2 : Space) × Epochs (after tax y ys h) s2 × (charged_of s2 0 ≡ 1) × (charged_of s2 1 ≡ 1) × (active_of s2 1 ≡ 0) × (weight_of s2 1 ≡ 4) × (charged_of s2 2 ≡ 0)
weighs tax y ys h num den =
    let s2 : Space = record (after tax y ys h) { touched = (false ∷ []) ∷ (false ∷ []) ∷ (false ∷ []) ∷ [] } in
    (s2, refl, refl, refl, refl, rw (num, den) refl, refl)

-- The first stores the old byte again, and a scan offers its page: it is merged with the entry that stayed. One frame of four is in
-- use, and three share it.
abbrev again : Tax → List ℕ → ℕ → Space
again tax ys h = record (after tax 1 ys h) { pool = record { frames = (1 ∷ ys) ∷ (1 ∷ ys) ∷ (1 ∷ ys) ∷ (1 ∷ ys) ∷ []; free = 1 ∷ 2 ∷ [] } }

still_other : (ys : List ℕ) (f : ℕ) → f ≢ 3 → get_or ((1 ∷ ys) ∷ (1 ∷ ys) ∷ (1 ∷ ys) ∷ (1 ∷ ys) ∷ []) f [] ≡ get_or ((1 ∷ ys) ∷ (1 ∷ ys) ∷ (1 ∷ ys) ∷ (2 ∷ ys) ∷ []) f []
still_other ys zero other = refl
still_other ys (suc zero) other = refl
still_other ys (suc (suc zero)) other = refl
still_other ys (suc (suc (suc zero))) other = absurd (other refl)
still_other ys (suc (suc (suc (suc f)))) other = refl

still_long : (ys : List ℕ) (f : ℕ) → length (get_or ((1 ∷ ys) ∷ (1 ∷ ys) ∷ (1 ∷ ys) ∷ (1 ∷ ys) ∷ []) f []) ≡ length (get_or ((1 ∷ ys) ∷ (1 ∷ ys) ∷ (1 ∷ ys) ∷ (2 ∷ ys) ∷ []) f [])
still_long ys zero = refl
still_long ys (suc zero) = refl
still_long ys (suc (suc zero)) = refl
still_long ys (suc (suc (suc zero))) = refl
still_long ys (suc (suc (suc (suc f)))) = refl

stores_again : (tax : Tax) (ys : List ℕ) (h : ℕ) → Overwrites (after tax 1 ys h) 0 0 (1 ∷ []) (again tax ys h)
stores_again tax ys h =
    let s : Space = after tax 1 ys h in
    let first : Breaks s 0 0 s = record { page = Private 3; was = refl; frame = 3; mid = s; gets = (refl, refl); after = refl } in
    record {
      mid = s;
      breaks = (s, first, refl);
      fills = search (rules, still_long, still_other, one_same);
    }

merges_again : (tax : Tax) (hashes : List ℕ → ℕ) (ys : List ℕ) (h : ℕ) → 1 ∷ ys ≢ zero_page
    → (s2 : Space) × Offers hashes (again tax ys h) 0 0 h Merged s2 × (s2.pool.free ≡ 1 ∷ 2 ∷ 3 ∷ []) × (sharers s2 0 ≡ 3) × (s2.marks ≡ Sharers h 3 ∷ Plain ∷ Plain ∷ Plain ∷ [])
merges_again tax hashes ys h some =
    let s : Space = again tax ys h in
    let free : 1 ≤ 0 → ⊥ = λ less. omega arith in
    (joined_to s 0 0 3 0 h 2, inl (3, 0, (refl, free), some, refl, inl (2, refl, refl)), refl, refl, refl)
