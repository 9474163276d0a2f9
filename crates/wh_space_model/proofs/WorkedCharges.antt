-- Frames that are shared, and whom they are charged to when a page of them leaves, by hand.
use Rattle.std.proofs.Common.{◌≡◌, ℕ, ◌<◌, ◌≤◌, inl, inr, Option, [], ◌∷◌, Some, None, true, false, length, zero, suc, refl, ap, arith}
use Rattle.wh_model.specs.declared.memory.Need.{Need}
use Rattle.wh_space_model.specs.{one_if, IsOnTouched, charged_of, CanBeTaken, CanShed, IsBeside, IsPayer, IsShed, MayPay, MustLeave, NobodyPays, Earmarks, Evicts, evicted, pinned, Occupant, Space, kept_by, LacksFree, Provides, goes, page_at}
use Rattle.wh_space_model.proofs.Tally.{one_other}
use Rattle.wh_space_model.specs.declared.Tax.{Tax}
use Rattle.wh_space_model.specs.declared.states.Page.TheVariants.{Untouched, Private, Shared, Swapped}
use Rattle.wh_space_model.specs.declared.states.Mark.TheVariants.{Plain, Sharers}
use Rattle.wh_space_model.specs.declared.states.Slot.TheVariants.{Vacant}
use Rattle.wh_space_model.proofs.Charging.{charged_at}
use Rattle.wh_space_model.proofs.WorkedTransit.{only_payer}

abbrev lodger : ℕ → Option Need → Occupant
lodger n stands = record { number = n; live = true; shares = 100; min = 2; max = 16; stands = stands; leaves = None }

abbrev at_third : Need
at_third = record { at = 8192; length = 1; writes = true }

-- Seven frames, all in use. The first two instances share three; the second has two more, the third two, and it is to store to its
-- third page.
abbrev seven : Tax → Space
seven tax = record {
  occupants = Some (lodger 0 None) ∷ Some (lodger 1 None) ∷ Some (lodger 2 (Some at_third)) ∷ [];
  tables = (Shared 0 ∷ Shared 1 ∷ Shared 2 ∷ []) ∷ (Shared 0 ∷ Shared 1 ∷ Shared 2 ∷ Private 3 ∷ Private 4 ∷ []) ∷ (Private 5 ∷ Private 6 ∷ Untouched ∷ []) ∷ [];
  touched = (true ∷ true ∷ true ∷ []) ∷ (true ∷ true ∷ true ∷ true ∷ true ∷ []) ∷ (true ∷ true ∷ false ∷ []) ∷ [];
  pool = record { frames = [] ∷ [] ∷ [] ∷ [] ∷ [] ∷ [] ∷ [] ∷ []; free = [] };
  marks = Sharers 7 2 ∷ Sharers 8 2 ∷ Sharers 9 2 ∷ Plain ∷ Plain ∷ Plain ∷ Plain ∷ [];
  slots = record { uses = Vacant ∷ Vacant ∷ Vacant ∷ []; vacant = 2 ∷ 1 ∷ 0 ∷ []; held = [] ∷ [] ∷ [] ∷ [] };
  pins = None;
  tax = tax;
}

-- three frames are charged to the first, two to each of the others
first_charges : (tax : Tax) → (charged_of (seven tax) 0 ≡ 3) × (charged_of (seven tax) 1 ≡ 2) × (charged_of (seven tax) 2 ≡ 2)
first_charges tax = (refl, refl, refl)

-- so the first instance's first page leaves, and its frame is charged to the second, which has three then
abbrev begun : Tax → Space
begun tax = pinned (seven tax) 2 at_third

abbrev once : Tax → Space
once tax = evicted (begun tax) 0 0 0 0 (2 ∷ 1 ∷ [])

next_charges : (tax : Tax) → (charged_of (once tax) 0 ≡ 2) × (charged_of (once tax) 1 ≡ 3) × (charged_of (once tax) 2 ≡ 2)
next_charges tax = (refl, refl, refl)

-- whose first page leaves: its frame is free
abbrev twice : Tax → Space
twice tax = evicted (once tax) 1 0 0 1 (2 ∷ [])

least_of : Option (Option Occupant) → ℕ
least_of None = 2
least_of (Some None) = 2
least_of (Some (Some t)) = t.min

above_least : (n : ℕ) (o : Option (Option Occupant)) → least_of o ≡ 2 → (t : Occupant) → o ≡ Some (Some t) → t.min < n → 2 < n
unfolding least_of
above_least n None two t is over = absurd (let e : None ≡ Some (Some t) = is in cc)
above_least n (Some None) two t is over = absurd (let e : Some None ≡ Some (Some t) = is in cc)
above_least n (Some (Some u)) two t is over = (let e : u ≡ t = cc in let m : u.min ≡ t.min = ap (λ (a : Occupant). a.min) e in let z : u.min ≡ 2 = two in omega arith)

first_alone : (tax : Tax) (j : ℕ) → MayPay (begun tax) j → j ≡ 0
unfolding least_of
first_alone tax zero pays = refl
first_alone tax (suc zero) pays = absurd (let over : 2 < 2 = above_least 2 (Some (Some (lodger 1 None))) refl pays.0.0 pays.0.1 pays.0.2 in omega arith)
first_alone tax (suc (suc zero)) pays = absurd (let over : 2 < 2 = above_least 2 (Some (Some (lodger 2 (Some at_third)))) refl pays.0.0 pays.0.1 pays.0.2 in omega arith)
first_alone tax (suc (suc (suc j))) pays = absurd (let e : None ≡ Some (Some pays.0.0) = pays.0.1 in cc)

second_alone : (tax : Tax) (j : ℕ) → MayPay (once tax) j → j ≡ 1
unfolding least_of
second_alone tax zero pays = absurd (let over : 2 < 2 = above_least 2 (Some (Some (lodger 0 None))) refl pays.0.0 pays.0.1 pays.0.2 in omega arith)
second_alone tax (suc zero) pays = refl
second_alone tax (suc (suc zero)) pays = absurd (let over : 2 < 2 = above_least 2 (Some (Some (lodger 2 (Some at_third)))) refl pays.0.0 pays.0.1 pays.0.2 in omega arith)
second_alone tax (suc (suc (suc j))) pays = absurd (let e : None ≡ Some (Some pays.0.0) = pays.0.1 in cc)

all_touched : (tax : Tax) (q : ℕ) → CanBeTaken (begun tax) 0 q → IsOnTouched (begun tax) 0 q × (0 ≤ q)
all_touched tax zero can = ((0, refl, omega arith), omega arith)
all_touched tax (suc zero) can = ((1, refl, omega arith), omega arith)
all_touched tax (suc (suc zero)) can = ((2, refl, omega arith), omega arith)
all_touched tax (suc (suc (suc q))) can = absurd (let z : 0 ≡ 1 = can.0.0 in omega arith)

all_touched_then : (tax : Tax) (q : ℕ) → CanBeTaken (once tax) 1 q → IsOnTouched (once tax) 1 q × (0 ≤ q)
all_touched_then tax zero can = ((0, refl, omega arith), omega arith)
all_touched_then tax (suc zero) can = ((1, refl, omega arith), omega arith)
all_touched_then tax (suc (suc zero)) can = ((2, refl, omega arith), omega arith)
all_touched_then tax (suc (suc (suc zero))) can = ((3, refl, omega arith), omega arith)
all_touched_then tax (suc (suc (suc (suc zero)))) can = ((4, refl, omega arith), omega arith)
all_touched_then tax (suc (suc (suc (suc (suc q))))) can = absurd (let z : 0 ≡ 1 = can.0.0 in omega arith)

abbrev ready_then : Tax → Space
ready_then tax = record (twice tax) { pool = record (twice tax).pool { free = [] }; pins = Some (record { place = 2; pages = []; frames = 0 ∷ [] }) }

-- Two pages have left, two slots are in use, and the freed frame is earmarked for the step.
provided_by_two : (tax : Tax) → Provides (seven tax) 2 at_third 2 (ready_then tax) × (length (ready_then tax).slots.vacant ≡ 1) × (kept_by (ready_then tax).pins 2 ≡ 0 ∷ [])
    × (page_at (ready_then tax).tables 0 0 ≡ Some (Swapped 0)) × (page_at (ready_then tax).tables 1 0 ≡ Some (Swapped 1))
provided_by_two tax =
    let s1 : Space = begun tax in
    let s2 : Space = once tax in
    let s3 : Space = twice tax in
    let more : 2 < 3 = omega arith in
    let few : 0 < 1 = omega arith in
    let enough : 1 ≤ 1 = omega arith in
    let can : CanBeTaken s1 0 0 = ((refl, refl, (lodger 0 None, refl, refl)), (0, charged_at s1 0 0 0 refl refl (λ q on. omega arith))) in
    let can2 : CanBeTaken s2 1 0 = ((refl, refl, (lodger 1 None, refl, refl)), (0, charged_at s2 1 0 0 refl refl (λ q on. omega arith))) in
    let payer : IsPayer s1 0 = only_payer s1 0 ((lodger 0 None, refl, more), (0, can)) (first_alone tax) in
    let payer2 : IsPayer s2 1 = only_payer s2 1 ((lodger 1 None, refl, more), (0, can2)) (second_alone tax) in
    let must : MustLeave s1 2 at_third 0 0 = inl (payer, (can, inr (all_touched tax))) in
    let must2 : MustLeave s2 2 at_third 1 0 = inl (payer2, (can2, inr (all_touched_then tax))) in
    let leaves : Evicts s1 0 0 s2 = record { frame = 0; slot = 0; others = 2 ∷ 1 ∷ []; vacant = refl; page = inr refl; leaves = refl } in
    let leaves2 : Evicts s2 1 0 s3 = record { frame = 0; slot = 1; others = 2 ∷ []; vacant = refl; page = inr refl; leaves = refl } in
    let lacks : LacksFree s1 2 at_third = inr (refl, few) in
    let lacks2 : LacksFree s2 2 at_third = inr (refl, few) in
    let earmarks : Earmarks s3 2 1 (ready_then tax) = record { frames = 0 ∷ []; others = []; many = refl; free = refl; leaves = refl } in (
      (goes ∷ goes ∷ [], s3, (s2, (s1, refl, (lacks, (0, 0, must, leaves))), (lacks2, (1, 0, must2, leaves2))), refl, (refl, enough), earmarks),
      refl,
      refl,
      refl,
      refl,
    )

-- Four frames, all in use. Two instances share two of them, and the second has two more: nobody is above the minimum of two. The
-- first is to store over both shared pages.
abbrev over_both : Need
over_both = record { at = 4092; length = 8; writes = true }

abbrev four : Tax → Space
four tax = record {
  occupants = Some (lodger 0 (Some over_both)) ∷ Some (lodger 1 None) ∷ [];
  tables = (Shared 0 ∷ Shared 1 ∷ []) ∷ (Shared 0 ∷ Shared 1 ∷ Private 2 ∷ Private 3 ∷ []) ∷ [];
  touched = (true ∷ true ∷ []) ∷ (true ∷ true ∷ true ∷ true ∷ []) ∷ [];
  pool = record { frames = [] ∷ [] ∷ [] ∷ [] ∷ []; free = [] };
  marks = Sharers 7 2 ∷ Sharers 8 2 ∷ Plain ∷ Plain ∷ [];
  slots = record { uses = Vacant ∷ Vacant ∷ Vacant ∷ []; vacant = 2 ∷ 1 ∷ 0 ∷ []; held = [] ∷ [] ∷ [] ∷ [] };
  pins = None;
  tax = tax;
}

abbrev asked : Tax → Space
asked tax = pinned (four tax) 0 over_both

abbrev one_shed : Tax → Space
one_shed tax = evicted (asked tax) 1 0 0 0 (2 ∷ 1 ∷ [])

abbrev two_shed : Tax → Space
two_shed tax = evicted (one_shed tax) 1 1 1 1 (2 ∷ [])

none_above : (tax : Tax) → NobodyPays (asked tax)
unfolding least_of
none_above tax zero pays = (let over : 2 < 2 = above_least 2 (Some (Some (lodger 0 (Some over_both)))) refl pays.0.0 pays.0.1 pays.0.2 in omega arith)
none_above tax (suc zero) pays = (let over : 2 < 2 = above_least 2 (Some (Some (lodger 1 None))) refl pays.0.0 pays.0.1 pays.0.2 in omega arith)
none_above tax (suc (suc j)) pays = (let e : None ≡ Some (Some pays.0.0) = pays.0.1 in cc)

none_above_then : (tax : Tax) → NobodyPays (one_shed tax)
unfolding least_of
none_above_then tax zero pays = (let over : 2 < 2 = above_least 2 (Some (Some (lodger 0 (Some over_both)))) refl pays.0.0 pays.0.1 pays.0.2 in omega arith)
none_above_then tax (suc zero) pays = (let over : 2 < 2 = above_least 2 (Some (Some (lodger 1 None))) refl pays.0.0 pays.0.1 pays.0.2 in omega arith)
none_above_then tax (suc (suc j)) pays = (let e : None ≡ Some (Some pays.0.0) = pays.0.1 in cc)

beside_first : (tax : Tax) (k q : ℕ) → IsBeside (asked tax) 0 over_both 0 k q → (k ≡ 1) × (q ≤ 0)
beside_first tax zero zero beside = absurd (let z : 1 ≡ 0 = beside.apart refl in omega arith)
beside_first tax zero (suc zero) beside = absurd (let z : 0 ≡ 1 = beside.shares in omega arith)
beside_first tax zero (suc (suc q)) beside = absurd (let z : 0 ≡ 1 = beside.shares in omega arith)
beside_first tax (suc zero) zero beside = (refl, omega arith)
beside_first tax (suc zero) (suc zero) beside = absurd (let z : 0 ≡ 1 = beside.shares in omega arith)
beside_first tax (suc zero) (suc (suc zero)) beside = absurd (let z : 0 ≡ 1 = beside.shares in omega arith)
beside_first tax (suc zero) (suc (suc (suc zero))) beside = absurd (let z : 0 ≡ 1 = beside.shares in omega arith)
beside_first tax (suc zero) (suc (suc (suc (suc q)))) beside = absurd (let z : 0 ≡ 1 = beside.shares in omega arith)
beside_first tax (suc (suc k)) q beside = absurd (let z : 0 ≡ 1 = beside.shares in omega arith)

beside_second : (tax : Tax) (k q : ℕ) → IsBeside (one_shed tax) 0 over_both 1 k q → (k ≡ 1) × (q ≤ 1)
beside_second tax zero zero beside = absurd (let z : 0 ≡ 1 = beside.shares in omega arith)
beside_second tax zero (suc zero) beside = absurd (let z : 1 ≡ 0 = beside.apart refl in omega arith)
beside_second tax zero (suc (suc q)) beside = absurd (let z : 0 ≡ 1 = beside.shares in omega arith)
beside_second tax (suc zero) zero beside = absurd (let z : 0 ≡ 1 = beside.shares in omega arith)
beside_second tax (suc zero) (suc zero) beside = (refl, omega arith)
beside_second tax (suc zero) (suc (suc zero)) beside = absurd (let z : 0 ≡ 1 = beside.shares in omega arith)
beside_second tax (suc zero) (suc (suc (suc zero))) beside = absurd (let z : 0 ≡ 1 = beside.shares in omega arith)
beside_second tax (suc zero) (suc (suc (suc (suc q)))) beside = absurd (let z : 0 ≡ 1 = beside.shares in omega arith)
beside_second tax (suc (suc k)) q beside = absurd (let z : 0 ≡ 1 = beside.shares in omega arith)

-- the step's first page is alone on its frame by then, so it isn't the page for whose sake another is shed
not_the_first : (tax : Tax) (q f : ℕ) → CanShed (one_shed tax) 0 over_both q f → 1 ≤ q
not_the_first tax (suc q) f sheds = omega arith
not_the_first tax zero zero sheds = absurd (let more : 1 < 1 = sheds.more in omega arith)
not_the_first tax zero (suc f) sheds = absurd (let on : one_if (suc f) 0 ≡ 1 = sheds.on in let o = one_other (suc f) 0 (λ e. omega arith) in omega arith)

sheds_one : (tax : Tax) → IsShed (asked tax) 0 over_both 1 0
sheds_one tax =
    let beside : IsBeside (asked tax) 0 over_both 0 1 0 = record { shares = refl; apart = λ e. absurd (omega arith); can = (refl, refl, (lodger 1 None, refl, refl)) } in
    let page : 1 ≤ 1 = omega arith in
    let more : 1 < 2 = omega arith in
    record {
      page = 0;
      frame = 0;
      sheds = record { writes = refl; page = page; on = refl; charged = refl; more = more; beside = (1, 0, beside) };
      lower = λ q f sheds. omega arith;
      beside = beside;
      greatest = λ k q other. inr (beside_first tax k q other);
    }

sheds_two : (tax : Tax) → IsShed (one_shed tax) 0 over_both 1 1
sheds_two tax =
    let beside : IsBeside (one_shed tax) 0 over_both 1 1 1 = record { shares = refl; apart = λ e. absurd (omega arith); can = (refl, refl, (lodger 1 None, refl, refl)) } in
    let page : 1 ≤ 1 = omega arith in
    let more : 1 < 2 = omega arith in
    record {
      page = 1;
      frame = 1;
      sheds = record { writes = refl; page = page; on = refl; charged = refl; more = more; beside = (1, 1, beside) };
      lower = λ q f sheds. not_the_first tax q f sheds;
      beside = beside;
      greatest = λ k q other. inr (beside_second tax k q other);
    }

abbrev ready_at_once : Tax → Space
ready_at_once tax = record (two_shed tax) { pins = Some (record { place = 0; pages = 0 ∷ 1 ∷ []; frames = [] }) }

-- The second's first two pages have left: the step needs no frame, none is free, and two slots are in use.
provided_by_sharers : (tax : Tax) → Provides (four tax) 0 over_both 2 (ready_at_once tax) × (length (ready_at_once tax).slots.vacant ≡ 1) × ((ready_at_once tax).pool.free ≡ [])
    × (charged_of (ready_at_once tax) 1 ≡ 2)
provided_by_sharers tax =
    let s1 : Space = asked tax in
    let s2 : Space = one_shed tax in
    let s3 : Space = two_shed tax in
    let few : 0 < 2 = omega arith in
    let few2 : 0 < 1 = omega arith in
    let enough : 0 ≤ 0 = omega arith in
    let must : MustLeave s1 0 over_both 1 0 = inr (inl (none_above tax, sheds_one tax)) in
    let must2 : MustLeave s2 0 over_both 1 1 = inr (inl (none_above_then tax, sheds_two tax)) in
    let leaves : Evicts s1 1 0 s2 = record { frame = 0; slot = 0; others = 2 ∷ 1 ∷ []; vacant = refl; page = inr refl; leaves = refl } in
    let leaves2 : Evicts s2 1 1 s3 = record { frame = 1; slot = 1; others = 2 ∷ []; vacant = refl; page = inr refl; leaves = refl } in
    let lacks : LacksFree s1 0 over_both = inr (refl, few) in
    let lacks2 : LacksFree s2 0 over_both = inr (refl, few2) in
    let earmarks : Earmarks s3 0 0 (ready_at_once tax) = record { frames = []; others = []; many = refl; free = refl; leaves = refl } in
    ((goes ∷ goes ∷ [], s3, (s2, (s1, refl, (lacks, (1, 0, must, leaves))), (lacks2, (1, 1, must2, leaves2))), refl, (refl, enough), earmarks), refl, refl, refl)
