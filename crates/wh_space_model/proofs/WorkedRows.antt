-- Stores over two pages, by hand.
use Rattle.std.proofs.Common.{◌≡◌, ◌≢◌, ℕ, ◌+◌, ◌≤◌, ◌++◌, inl, inr, List, [], ◌∷◌, Some, None, true, false, length, get_or, zero, suc, refl, sym, ap, ◌∙◌, arith, length-append}
use Rattle.wh_model.specs.Execution.{written}
use Rattle.wh_model.specs.Execution.Memory.{writing}
use Rattle.wh_model.proofs.Fragments.{length-written}
use Rattle.wh_space_model.specs.{zero_page, BreaksEach, Space, kept_by, view, frames_to_write, pages_of_need, Overwrites}
use Rattle.wh_space_model.specs.declared.Tax.{Tax}
use Rattle.wh_space_model.specs.declared.states.Page.TheVariants.{Untouched, Private, Shared, LeavingShared, Swapped}
use Rattle.wh_space_model.specs.declared.states.Mark.TheVariants.{Plain, Sharers}
use Rattle.wh_space_model.specs.declared.states.Slot.TheVariants.{Vacant}
use Rattle.wh_space_model.specs.Breaks.{Breaks}
use Rattle.wh_space_model.proofs.Tally.{one_same}
use Rattle.wh_space_model.proofs.Blocks.{written_after, written_before, written_parts}
use Rattle.wh_space_model.proofs.WorkedTransit.{last_sharer, provided}

-- ---- two equal pages of one instance share a frame, and are written together

abbrev pair : Tax → List ℕ → ℕ → Space
pair tax x h = record {
  occupants = Some (record { number = 0; live = true; shares = 100; min = 2; max = 16; stands = None; leaves = None }) ∷ [];
  tables = (Shared 0 ∷ Shared 0 ∷ []) ∷ [];
  touched = (false ∷ false ∷ []) ∷ [];
  pool = record { frames = x ∷ x ∷ x ∷ []; free = 2 ∷ 1 ∷ [] };
  marks = Sharers h 2 ∷ Plain ∷ Plain ∷ [];
  slots = record { uses = Vacant ∷ []; vacant = 0 ∷ []; held = [] ∷ [] };
  pins = None;
  tax = tax;
}

-- one frame is wanted; two of three are in use then, one of them free, and the entry is gone
abbrev parted : Tax → List ℕ → ℕ → Space
parted tax x h = record (pair tax x h) {
  tables = (Private 1 ∷ Private 0 ∷ []) ∷ [];
  touched = (true ∷ true ∷ []) ∷ [];
  pool = record { frames = x ∷ x ∷ x ∷ []; free = 2 ∷ [] };
  marks = Plain ∷ Plain ∷ Plain ∷ [];
}

pair_breaks : (tax : Tax) (x : List ℕ) (h : ℕ) → (frames_to_write (pair tax x h) 0 (writing 4092 8) ≡ 1) × BreaksEach (pair tax x h) 0 (pages_of_need (writing 4092 8)) (parted tax x h)
pair_breaks tax x h =
    let s : Space = pair tax x h in
    let taken : Space = record s { pool = record { frames = x ∷ x ∷ x ∷ []; free = 2 ∷ [] }; marks = Sharers h 1 ∷ Plain ∷ Plain ∷ [] } in
    let mid : Space = record taken { tables = (Private 1 ∷ Shared 0 ∷ []) ∷ []; touched = (true ∷ false ∷ []) ∷ [] } in
    let last : Space = record mid { marks = Plain ∷ Plain ∷ Plain ∷ [] } in
    let some : 2 ≤ 2 = omega arith in
    let first : Breaks s 0 0 mid = record { page = Shared 0; was = refl; frame = 1; mid = taken; gets = inr (some, inl (2 ∷ [], (2 ∷ [], [], refl, refl), refl)); after = refl } in
    let second : Breaks mid 0 1 (parted tax x h) = record { page = Shared 0; was = refl; frame = 0; mid = last; gets = inl (refl, refl, refl); after = refl } in
    (refl, (mid, first, (parted tax x h, second, refl)))

-- ---- the store for which a provision was made

-- Of its two pages the first was shared with the page that left, and the other is shared still: the first keeps its frame, and the
-- second takes the one that was earmarked. All four frames are in use and one slot is; no frame is earmarked any more.
abbrev alone : Tax → List ℕ → List ℕ → List ℕ → List ℕ → Space
alone tax x y z free = record (provided tax x y z free) {
  tables = (Private 0 ∷ Private 3 ∷ Untouched ∷ []) ∷ (Swapped 1 ∷ Shared 1 ∷ Private 2 ∷ []) ∷ [];
  touched = (true ∷ true ∷ false ∷ []) ∷ (false ∷ true ∷ true ∷ []) ∷ [];
  pool = record { frames = x ∷ y ∷ z ∷ y ∷ []; free = [] };
  marks = Plain ∷ Sharers 8 1 ∷ Plain ∷ Plain ∷ [];
  pins = Some (record { place = 0; pages = 0 ∷ 1 ∷ []; frames = [] });
}

abbrev stored : Tax → List ℕ → List ℕ → List ℕ → List ℕ → Space
stored tax x y z free = record (alone tax x y z free) {
  pool = record { frames = written x 4092 (1 ∷ 2 ∷ 3 ∷ 4 ∷ []) ∷ y ∷ z ∷ written y 0 (5 ∷ 6 ∷ 7 ∷ 8 ∷ []) ∷ []; free = [] };
}

-- what the first one sees: the bytes stand at the end of its first page and at the beginning of its second
seen : (x y : List ℕ) → length x ≡ 4096 → length y ≡ 4096
    → written x 4092 (1 ∷ 2 ∷ 3 ∷ 4 ∷ []) ++ (written y 0 (5 ∷ 6 ∷ 7 ∷ 8 ∷ []) ++ (zero_page ++ [])) ≡ written (x ++ (y ++ (zero_page ++ []))) 4092 (1 ∷ 2 ∷ 3 ∷ 4 ∷ 5 ∷ 6 ∷ 7 ∷ 8 ∷ [])
seen x y long long2 =
    let a : List ℕ = 1 ∷ 2 ∷ 3 ∷ 4 ∷ [] in
    let b : List ℕ = 5 ∷ 6 ∷ 7 ∷ 8 ∷ [] in
    let z : List ℕ = zero_page ++ [] in
    let w : List ℕ = written x 4092 a in
    let both = length-append x (y ++ z) in
    let same : length w ≡ length x = length-written x a 4092 (omega arith) in
    let split : written (x ++ (y ++ z)) 4092 (a ++ b) ≡ written (written (x ++ (y ++ z)) 4092 a) (4092 + 4) b = written_parts (x ++ (y ++ z)) 4092 a b (omega arith) in
    let first : written (x ++ (y ++ z)) 4092 a ≡ w ++ (y ++ z) = written_before x (y ++ z) 4092 a (omega arith) in
    let place : 4092 + 4 ≡ length w + 0 = omega arith in
    let second : written (w ++ (y ++ z)) (length w + 0) b ≡ w ++ written (y ++ z) 0 b = written_after w (y ++ z) 0 b in
    let third : written (y ++ z) 0 b ≡ written y 0 b ++ z = written_before y z 0 b (omega arith) in
    sym (split ∙ (ap (λ v. written v (4092 + 4) b) first ∙ (ap (λ n. written (w ++ (y ++ z)) n b) place ∙ (second ∙ ap (λ v. w ++ v) third))))

other_frames : (x y z w v : List ℕ) (f : ℕ) → f ≢ 0 → f ≢ 3 → get_or (w ∷ y ∷ z ∷ v ∷ []) f [] ≡ get_or (x ∷ y ∷ z ∷ y ∷ []) f []
other_frames x y z w v zero a b = absurd (a refl)
other_frames x y z w v (suc zero) a b = refl
other_frames x y z w v (suc (suc zero)) a b = refl
other_frames x y z w v (suc (suc (suc zero))) a b = absurd (b refl)
other_frames x y z w v (suc (suc (suc (suc f)))) a b = refl

as_long : (x y z w v : List ℕ) (f : ℕ) → length w ≡ length x → length v ≡ length y → length (get_or (w ∷ y ∷ z ∷ v ∷ []) f []) ≡ length (get_or (x ∷ y ∷ z ∷ y ∷ []) f [])
as_long x y z w v zero a b = a
as_long x y z w v (suc zero) a b = refl
as_long x y z w v (suc (suc zero)) a b = refl
as_long x y z w v (suc (suc (suc zero))) a b = b
as_long x y z w v (suc (suc (suc (suc f)))) a b = refl

stores_over : (tax : Tax) (x y z free : List ℕ) → length x ≡ 4096 → length y ≡ 4096
    → Overwrites (provided tax x y z free) 0 4092 (1 ∷ 2 ∷ 3 ∷ 4 ∷ 5 ∷ 6 ∷ 7 ∷ 8 ∷ []) (stored tax x y z free)
    × (view (stored tax x y z free) 1 ≡ view (provided tax x y z free) 1) × ((stored tax x y z free).pool.free ≡ []) × (kept_by (stored tax x y z free).pins 0 ≡ []) × (length (stored tax x y z free).slots.vacant ≡ 1)
stores_over tax x y z free long long2 =
    let s : Space = provided tax x y z free in
    let mine : Space = record s { marks = Plain ∷ Sharers 8 2 ∷ Plain ∷ Plain ∷ [] } in
    let mid : Space = record mine { tables = (Private 0 ∷ Shared 1 ∷ Untouched ∷ []) ∷ (Swapped 1 ∷ Shared 1 ∷ Private 2 ∷ []) ∷ [] } in
    let taken : Space = record mid {
      pool = record { frames = x ∷ y ∷ z ∷ y ∷ []; free = [] };
      marks = Plain ∷ Sharers 8 1 ∷ Plain ∷ Plain ∷ [];
      pins = Some (record { place = 0; pages = 0 ∷ 1 ∷ []; frames = [] });
    } in
    let some : 2 ≤ 2 = omega arith in
    let first : Breaks s 0 0 mid = record { page = Shared 0; was = refl; frame = 0; mid = mine; gets = inl (refl, refl, refl); after = refl } in
    let second : Breaks mid 0 1 (alone tax x y z free) = record { page = Shared 1; was = refl; frame = 3; mid = taken; gets = inr (some, inr ([], ([], [], refl, refl), refl)); after = refl } in (
      record {
        mid = alone tax x y z free;
        breaks = (mid, first, (alone tax x y z free, second, refl));
        fills = record {
          frames = (stored tax x y z free).pool.frames;
          sees = seen x y long long2;
          many = refl;
          whole = λ f. as_long x y z (written x 4092 (1 ∷ 2 ∷ 3 ∷ 4 ∷ [])) (written y 0 (5 ∷ 6 ∷ 7 ∷ 8 ∷ [])) f
              (length-written x (1 ∷ 2 ∷ 3 ∷ 4 ∷ []) 4092 (omega arith)) (length-written y (5 ∷ 6 ∷ 7 ∷ 8 ∷ []) 0 (omega arith));
          others = λ f none. other_frames x y z (written x 4092 (1 ∷ 2 ∷ 3 ∷ 4 ∷ [])) (written y 0 (5 ∷ 6 ∷ 7 ∷ 8 ∷ [])) f
              (λ e. (let o = one_same f 0 e in omega arith)) (λ e. (let o = one_same f 3 e in omega arith));
          after = refl;
        };
      },
      refl,
      refl,
      refl,
      refl,
    )

-- ---- a page that is leaving has a frame with another sharer, which is written

-- the other gets its own frame, the free one; what comes of the ticket then is said by last_sharer_leaves
sharing : Tax → List ℕ → ℕ → Space
sharing tax x h = record (last_sharer tax x h) {
  tables = (Shared 0 ∷ []) ∷ (LeavingShared 0 ∷ []) ∷ [];
  pool = record { frames = x ∷ x ∷ []; free = 1 ∷ [] };
  marks = Sharers h 2 ∷ Plain ∷ [];
}

other_stores : (tax : Tax) (x : List ℕ) (h : ℕ) → Breaks (sharing tax x h) 0 0 (last_sharer tax x h)
unfolding sharing
other_stores tax x h =
    let s : Space = sharing tax x h in
    let taken : Space = record s { pool = record { frames = x ∷ x ∷ []; free = [] }; marks = Sharers h 1 ∷ Plain ∷ [] } in
    let some : 2 ≤ 2 = omega arith in
    record { page = Shared 0; was = refl; frame = 1; mid = taken; gets = inr (some, inl ([], ([], [], refl, refl), refl)); after = refl }
