-- The definitions on small spaces, by hand.
use Rattle.std.proofs.Common.{◌≡◌, ◌≢◌, ℕ, ◌+◌, ◌≤◌, inl, inr, List, Option, [], ◌∷◌, Some, None, true, length, slice_get, zero, suc, refl, arith}
use Rattle.wh_model.specs.declared.memory.Need.{Need}
use Rattle.wh_space_model.specs.{zero_page, HasHash, Occupant, Space, sharers, hinted, joined_to, paired_with, fewer_sharers, frames_in_all, frames_to_write, pages_of_need}
use Rattle.wh_space_model.specs.declared.Tax.{Tax}
use Rattle.wh_space_model.specs.declared.states.Page.{Page}
use Rattle.wh_space_model.specs.declared.states.Page.TheVariants.{Untouched, Private, Shared, Leaving, LeavingShared, Swapped}
use Rattle.wh_space_model.specs.declared.states.Mark.{Mark}
use Rattle.wh_space_model.specs.declared.states.Mark.TheVariants.{Plain, Sharers}
use Rattle.wh_space_model.specs.declared.states.Slot.TheVariants.{Vacant}
use Rattle.wh_space_model.specs.declared.states.Offer.TheVariants.{Hinted, Merged}
use Rattle.wh_space_model.specs.Offers.{Offers}

-- an instance with shares 100, a minimum of 2 and a maximum of 16
abbrev who : ℕ → Option Need → Option Occupant
who n stands = Some (record { number = n; live = true; shares = 100; min = 2; max = 16; stands = stands; leaves = None })

-- two instances, on four frames; all their pages are touched
abbrev two : Tax → List Page → List Page → List ℕ → List Mark → Space
two tax a b free marks = record {
  occupants = who 0 None ∷ who 1 None ∷ [];
  tables = a ∷ b ∷ [];
  touched = (true ∷ true ∷ true ∷ []) ∷ (true ∷ true ∷ true ∷ []) ∷ [];
  pool = record { frames = [] ∷ [] ∷ [] ∷ [] ∷ []; free = free };
  marks = marks;
  slots = record { uses = Vacant ∷ Vacant ∷ []; vacant = 0 ∷ 1 ∷ []; held = [] ∷ [] ∷ [] };
  pins = None;
  tax = tax;
}

-- eight bytes at 4092 are on two pages
abbrev over : Need
over = record { at = 4092; length = 8; writes = true }

pages_over : pages_of_need over ≡ 0 ∷ 1 ∷ []
pages_over = refl

-- no bytes at the very end of a page are on none
pages_none : pages_of_need (record { at = 4096; length = 0; writes = true }) ≡ []
pages_none = refl

-- two pages that are the only sharers of a frame want one frame together, also where one of them is leaving; when they are
-- written the frame's entry goes
wants_last : (tax : Tax) (h : ℕ) → frames_to_write (two tax (Shared 0 ∷ Shared 0 ∷ []) [] [] (Sharers h 2 ∷ [])) 0 over ≡ 1
wants_last tax h = refl

wants_leaving : (tax : Tax) (h : ℕ) → frames_to_write (two tax (Shared 0 ∷ LeavingShared 0 ∷ []) [] [] (Sharers h 2 ∷ [])) 0 over ≡ 1
wants_leaving tax h = refl

entry_goes : (h : ℕ) → fewer_sharers 2 (Sharers h 2) ≡ Plain
entry_goes h = refl

-- two of three sharers want two; a swapped and an untouched page one each; a page that is private and leaving none
wants_three : (tax : Tax) (h : ℕ) → frames_to_write (two tax (Shared 0 ∷ Shared 0 ∷ []) (Shared 0 ∷ []) [] (Sharers h 3 ∷ [])) 0 over ≡ 2
wants_three tax h = refl

wants_both : (tax : Tax) → frames_in_all (two tax (Swapped 0 ∷ Untouched ∷ []) [] [] []) 0 over ≡ 2
wants_both tax = refl

wants_own : (tax : Tax) → frames_to_write (two tax (Leaving 0 ∷ Private 1 ∷ []) [] [] []) 0 over ≡ 0
wants_own tax = refl

-- Three instances have one page each, with equal bytes that aren't zero. The first is the hint, the second is merged with it, and
-- the third with both: one frame of four is in use, and three share it.
abbrev three : Tax → List ℕ → Space
three tax x = record {
  occupants = who 0 None ∷ who 1 None ∷ who 2 None ∷ [];
  tables = (Private 0 ∷ []) ∷ (Private 1 ∷ []) ∷ (Private 2 ∷ []) ∷ [];
  touched = (true ∷ []) ∷ (true ∷ []) ∷ (true ∷ []) ∷ [];
  pool = record { frames = x ∷ x ∷ x ∷ x ∷ []; free = 3 ∷ [] };
  marks = Plain ∷ Plain ∷ Plain ∷ Plain ∷ [];
  slots = record { uses = Vacant ∷ []; vacant = 0 ∷ []; held = [] ∷ [] };
  pins = None;
  tax = tax;
}

no_entry : (h f : ℕ) → ¬ HasHash (slice_get (Plain ∷ Plain ∷ Plain ∷ Plain ∷ []) f) h
no_entry h zero has = has
no_entry h (suc zero) has = has
no_entry h (suc (suc zero)) has = has
no_entry h (suc (suc (suc zero))) has = has
no_entry h (suc (suc (suc (suc f)))) has = has

next_apart : (a b : ℕ) → a + 1 ≡ b → a ≢ b
next_apart a b next same = omega arith

three_merge : (tax : Tax) (hashes : List ℕ → ℕ) (x : List ℕ) → x ≢ zero_page
    → (s1 s2 s3 : Space) × Offers hashes (three tax x) 0 0 (hashes x) Hinted s1 × Offers hashes s1 1 0 (hashes x) Merged s2 × Offers hashes s2 2 0 (hashes x) Merged s3
    × (length s3.pool.free ≡ 3) × (sharers s3 0 ≡ 3) × (s3.marks ≡ Sharers (hashes x) 3 ∷ Plain ∷ Plain ∷ Plain ∷ [])
three_merge tax hashes x some =
    let s1 : Space = hinted (three tax x) 0 0 0 (hashes x) in
    let s2 : Space = paired_with s1 1 0 1 0 (hashes x) 0 0 in
    let s3 : Space = joined_to s2 2 0 2 0 (hashes x) 2 in
    let free : (i : ℕ) → 1 ≤ 0 → ⊥ = λ i less. omega arith in
    let apart : 0 ≢ 1 = next_apart 0 1 refl in (
      s1,
      s2,
      s3,
      inl (0, (refl, free 0), some, no_entry (hashes x), refl),
      inl (1, 0, (refl, free 1), some, refl, inr (0, 0, apart, (refl, (refl, free 0), refl), refl)),
      inl (2, 0, (refl, free 2), some, refl, inl (2, refl, refl)),
      refl,
      refl,
      refl,
    )

-- A store to one of them wants one frame, to the page of an instance that shares with nobody none.
three_store : (tax : Tax) (x : List ℕ) (h : ℕ)
    → frames_to_write (record (three tax x) { tables = (Shared 0 ∷ []) ∷ (Shared 0 ∷ []) ∷ (Shared 0 ∷ []) ∷ [] }) 0 (record { at = 0; length = 1; writes = true }) ≡ 1
three_store tax x h = refl
