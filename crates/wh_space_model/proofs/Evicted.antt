-- A page that goes to a slot leaves frames and slots sound.
use Rattle.std.proofs.Common.{◌≡◌, ◌≢◌, ℕ, ◌+◌, ◌<◌, ◌≤◌, ◌++◌, ◌⊎◌, inl, inr, cond, nat_lt, min, true, false, Bool, List, [], ◌∷◌, Option, Some, None, length, slice_get, slice_set, get_or, zero, suc, refl, sym, ap, ◌∙◌, subst, arith, length-set, rules}
use Rattle.std.proofs.lemmas.Bool.Decides.{nat_tests}
use Rattle.std.proofs.lemmas.Bool.{cases_lt}
use Rattle.std.proofs.lemmas.List.{get_or-set_same, get_or-set_other}
use Rattle.wh_space_model.specs.{tally, one_if, CanLeave, fetches_into, ticket_of, one_fewer, evicted, Space, Occupant, sharers, kept, backing, all_bytes, frame_bytes, IsSound, FramesAreSound, SlotsAreSound, OccupantsAreSound, PinsAreSound, IsUsed, LeavesBy, HasTable, holders, Names, HasHash, at, page_at, put, owns, shares, lies_in, comes_from, leaving, count}
use Rattle.wh_space_model.proofs.Tally.{one_same, one_other, tally-append}
use Rattle.wh_space_model.specs.declared.states.Page.{Page}
use Rattle.wh_space_model.specs.declared.states.Page.TheVariants.{Private, Shared, Coming, Swapped}
use Rattle.wh_space_model.specs.declared.states.Mark.{Mark}
use Rattle.wh_space_model.specs.declared.states.Mark.TheVariants.{Plain, Hint, Sharers, Unlisted}
use Rattle.wh_space_model.specs.declared.states.Slot.{Slot}
use Rattle.wh_space_model.specs.declared.states.Slot.TheVariants.{Vacant, Taken, Evicting, EvictVoid, Fetching, FetchVoid}
use Rattle.wh_space_model.proofs.Contents.{goes_to_slot}
use Rattle.wh_space_model.proofs.Putting.{here_or, put_this, put_other, put_other_row, get_pages, set_other, set_same, there_of}
use Rattle.wh_space_model.proofs.Rooms.{get_there}
use Rattle.wh_space_model.proofs.Sums.{set_tally, put_tally}

-- the page stood on frame f, alone or with others
unfoldable pub StoodOn : Page → ℕ → Type 0
StoodOn x f = (x ≡ Private f) ⊎ (x ≡ Shared f)

pub lt_cases : (n : ℕ) → ((nat_lt 1 n ≡ true) × (1 < n)) ⊎ ((nat_lt 1 n ≡ false) × (n ≤ 1))
lt_cases n = grind (arith, nat_tests)

pub freed_tally : (b : Bool) (g f : ℕ) (xs : List ℕ) → tally (one_if g) (cond b xs (xs ++ f ∷ [])) ≡ tally (one_if g) xs + cond b 0 (one_if g f)
freed_tally true g f xs = omega arith
freed_tally false g f xs = let e = tally-append (one_if g) xs (f ∷ []) in omega arith

-- what the sum for frame g is before and after: it loses the page's part, and gains a free frame where nobody else is on it
pub sum_kept : (free freed own own2 sh sh2 a b rest : ℕ) (many : ℕ) (same : Bool)
    → own2 + a ≡ own → sh2 + b ≡ sh → ((a ≡ 0) × (b ≡ 0) × (freed ≡ 0)) ⊎ (((a ≡ 1) × (b ≡ 0) × (freed ≡ 1) × (sh ≡ 0)) ⊎ (((a ≡ 0) × (b ≡ 1) × (freed ≡ 0) × (1 < sh)) ⊎ ((a ≡ 0) × (b ≡ 1) × (freed ≡ 1) × (sh ≤ 1))))
    → (free + rest) + own + min 1 sh ≡ 1 → ((free + freed) + rest) + own2 + min 1 sh2 ≡ 1
sum_kept free freed own own2 sh sh2 a b rest many same h k (inl w) one = omega (arith, h, k, w.0, w.1, w.2, one)
sum_kept free freed own own2 sh sh2 a b rest many same h k (inr (inl w)) one = omega (arith, h, k, w.0, w.1, w.2, w.3, one)
sum_kept free freed own own2 sh sh2 a b rest many same h k (inr (inr (inl w))) one = omega (arith, h, k, w.0, w.1, w.2, w.3, one)
sum_kept free freed own own2 sh sh2 a b rest many same h k (inr (inr (inr w))) one = omega (arith, h, k, w.0, w.1, w.2, w.3, one)

-- the page's parts of the sum, and the free frame that comes
pub parts : (s : Space) (x : Page) (f g : ℕ) → StoodOn x f → (x ≡ Private f → sharers s f ≡ 0)
    → ((owns g x ≡ 0) × (shares g x ≡ 0) × (cond (nat_lt 1 (sharers s f)) 0 (one_if g f) ≡ 0))
    ⊎ (((owns g x ≡ 1) × (shares g x ≡ 0) × (cond (nat_lt 1 (sharers s f)) 0 (one_if g f) ≡ 1) × (sharers s g ≡ 0))
    ⊎ (((owns g x ≡ 0) × (shares g x ≡ 1) × (cond (nat_lt 1 (sharers s f)) 0 (one_if g f) ≡ 0) × (1 < sharers s g))
    ⊎ ((owns g x ≡ 0) × (shares g x ≡ 1) × (cond (nat_lt 1 (sharers s f)) 0 (one_if g f) ≡ 1) × (sharers s g ≤ 1))))
unfolding StoodOn
parts s x f g (inl e) alone =
    let none = alone e in
    let test : nat_lt 1 (sharers s f) ≡ false = rw none refl in
    elim (here_or g f) [
      | inl same ↦ (let o = one_same g f (sym same) in
          inr (inl (rw e o, rw e refl, rw test o, rw (← same) none)))
      | inr other ↦ (let o = one_other g f (λ q. other (sym q)) in inl (rw e o, rw e refl, rw test o))
    ]
parts s x f g (inr e) alone =
    elim (here_or g f) [
      | inr other ↦ (let o = one_other g f (λ q. other (sym q)) in inl (rw e refl, rw e o, go (nat_lt 1 (sharers s f)) o))
      | inl same ↦ (let o = one_same g f (sym same) in
          elim (lt_cases (sharers s f)) [
            | inl many ↦ inr (inr (inl (rw e refl, rw e o, rw many.0 refl, rw (← same) many.1)))
            | inr few ↦ inr (inr (inr (rw e refl, rw e o, rw few.0 o, rw (← same) few.1)))
          ])
    ] where
      go : (b : Bool) → one_if g f ≡ 0 → cond b 0 (one_if g f) ≡ 0
      go true o = refl
      go false o = o

pub stood_within : (s : Space) (j p f : ℕ) (x : Page) → FramesAreSound s → page_at s.tables j p ≡ Some x → StoodOn x f → (f < length s.pool.frames) × (x ≡ Private f → sharers s f ≡ 0)
unfolding StoodOn
stood_within s j p f x sound there (inl e) =
    let at_it : page_at s.tables j p ≡ Some (Private f) = there ∙ ap Some e in
    let one = get_pages (owns f) s.tables j p (Private f) at_it in
    let o = one_same f f refl in
    elim (cases_lt f (length s.pool.frames)) [
      | inl within ↦ (within, λ q. (let sum = sound.one f within in omega arith))
      | inr past ↦ let zeros = sound.none f past in absurd (omega arith)
    ]
stood_within s j p f x sound there (inr e) =
    let at_it : page_at s.tables j p ≡ Some (Shared f) = there ∙ ap Some e in
    let one = get_pages (shares f) s.tables j p (Shared f) at_it in
    let o = one_same f f refl in
    elim (cases_lt f (length s.pool.frames)) [
      | inl within ↦ (within, λ q. absurd (let bad : Private f ≡ Shared f = sym q ∙ e in cc))
      | inr past ↦ let zeros = sound.none f past in absurd (omega arith)
    ]

pub sum_evicted : (s : Space) (j p f k : ℕ) (others : List ℕ) (x : Page) → FramesAreSound s → page_at s.tables j p ≡ Some x → StoodOn x f → slice_get s.slots.uses k ≡ Some Vacant
    → (g : ℕ) → g < length s.pool.frames → holders (evicted s j p f k others) g + min 1 (sharers (evicted s j p f k others) g) ≡ 1
sum_evicted s j p f k others x sound there stood vacant g within =
    let free = freed_tally (nat_lt 1 (sharers s f)) g f s.pool.free in
    let own = put_tally (owns g) s.tables j p x (Swapped k) there in
    let share = put_tally (shares g) s.tables j p x (Swapped k) there in
    let fetch = set_tally (fetches_into g) s.slots.uses k Vacant Taken vacant in
    let known = stood_within s j p f x sound there stood in
    let cases = parts s x f g stood known.1 in
    let one = sound.one g within in
    let kept_sum = sum_kept (tally (one_if g) s.pool.free) (cond (nat_lt 1 (sharers s f)) 0 (one_if g f)) (count (owns g) s.tables) (count (owns g) (put s.tables j p (Swapped k)))
    (sharers s g) (count (shares g) (put s.tables j p (Swapped k))) (owns g x) (shares g x) (tally (one_if g) (kept s.pins) + tally (fetches_into g) s.slots.uses) 0 true
    (omega arith) (omega arith) cases (omega arith) in
    omega arith

none_evicted : (s : Space) (j p f k : ℕ) (others : List ℕ) (x : Page) → FramesAreSound s → page_at s.tables j p ≡ Some x → StoodOn x f → slice_get s.slots.uses k ≡ Some Vacant
    → (g : ℕ) → length s.pool.frames ≤ g → holders (evicted s j p f k others) g + sharers (evicted s j p f k others) g ≡ 0
none_evicted s j p f k others x sound there stood vacant g past =
    let free = freed_tally (nat_lt 1 (sharers s f)) g f s.pool.free in
    let own = put_tally (owns g) s.tables j p x (Swapped k) there in
    let share = put_tally (shares g) s.tables j p x (Swapped k) there in
    let fetch = set_tally (fetches_into g) s.slots.uses k Vacant Taken vacant in
    let known = stood_within s j p f x sound there stood in
    let other = one_other g f (λ e. (let w = known.0 in omega arith)) in
    let zeros = sound.none g past in
    let less : (b : Bool) → cond b 0 (one_if g f) ≤ one_if g f = go in
    let most = less (nat_lt 1 (sharers s f)) in
    omega arith where
      go : (b : Bool) → cond b 0 (one_if g f) ≤ one_if g f
      go true = omega arith
      go false = omega arith

-- another page than the one that left is what it was, where it is of a kind that that one wasn't
pub other_kind : (w : Page → ℕ) (t : List (List Page)) (j p i q : ℕ) (x y : Page) → page_at t j p ≡ Some x → w x ≡ 0 → at w (page_at t i q) ≡ 1 → page_at (put t j p y) i q ≡ page_at t i q
other_kind w t j p i q x y there none is = search (rules, here_or, put_other_row, put_other)

-- the entry of the frame that the page left
pub names_left : (s s2 : Space) (f : ℕ) (m : Option Mark) (b : Bool) → s2.pool.frames ≡ s.pool.frames → Names s f m → (m ≢ None)
    → ((b ≡ true) × (1 < sharers s f) × (sharers s2 f + 1 ≡ sharers s f)) ⊎ ((b ≡ false) × (sharers s2 f ≡ 0))
    → Names s2 f (Some (cond b (one_fewer m) Plain))
names_left s s2 f m b same names some (inr (e, zeros)) = rw e zeros
names_left s s2 f None b same names some (inl (e, many, less)) = absurd (some refl)
names_left s s2 f (Some Plain) b same names some (inl (e, many, less)) = absurd (omega arith)
names_left s s2 f (Some (Hint h i q)) b same names some (inl (e, many, less)) = let z = names.1 in absurd (omega arith)
names_left s s2 f (Some (Sharers h n)) b same names some (inl (e, many, less)) = search rules
names_left s s2 f (Some (Unlisted n)) b same names some (inl (e, many, less)) = rw e (let c = names.0 in (omega arith, omega arith))

-- the entry of another frame
pub names_other : (s s2 : Space) (g : ℕ) (m : Option Mark) → get_or s2.pool.frames g [] ≡ get_or s.pool.frames g [] → sharers s2 g ≡ sharers s g
    → ((i q : ℕ) → at (owns g) (page_at s.tables i q) ≡ 1 → at (owns g) (page_at s2.tables i q) ≡ 1) → Names s g m → Names s2 g m
names_other s s2 g None same e k names = tt
names_other s s2 g (Some Plain) same e k names = e ∙ names
names_other s s2 g (Some (Hint h i q)) same e k names = (k i q names.0, e ∙ names.1)
names_other s s2 g (Some (Sharers h n)) same e k names = (e ∙ names.0, names.1, λ z. names.2 (sym same ∙ z))
names_other s s2 g (Some (Unlisted n)) same e k names = (e ∙ names.0, names.1)

fewer_hash : (m : Option Mark) (b : Bool) (hash : ℕ) → HasHash (Some (cond b (one_fewer m) Plain)) hash → HasHash m hash
fewer_hash m false hash h = absurd h
fewer_hash None true hash h = absurd h
fewer_hash (Some Plain) true hash h = absurd h
fewer_hash (Some (Hint x i q)) true hash h = absurd h
fewer_hash (Some (Sharers x n)) true hash h = h
fewer_hash (Some (Unlisted n)) true hash h = absurd h

pub hash_before : (marks : List Mark) (f g : ℕ) (b : Bool) (hash : ℕ) → f < length marks → HasHash (slice_get (slice_set marks f (cond b (one_fewer (slice_get marks f)) Plain)) g) hash → HasHash (slice_get marks g) hash
hash_before marks f g b hash within has = search (rules, here_or, set_other, set_same, fewer_hash)

pub stood_other : (x : Page) (f g : ℕ) → StoodOn x f → g ≢ f → (owns g x ≡ 0) × (shares g x ≡ 0)
unfolding StoodOn
stood_other x f g (inl e) other = (let o = one_other g f other in (rw e o, rw e refl))
stood_other x f g (inr e) other = (let o = one_other g f other in (rw e refl, rw e o))

-- others share the frame still, or nobody does
left_case : (s : Space) (j p f k : ℕ) (others : List ℕ) (x : Page) → FramesAreSound s → page_at s.tables j p ≡ Some x → StoodOn x f → slice_get s.slots.uses k ≡ Some Vacant
    → ((nat_lt 1 (sharers s f) ≡ true) × (1 < sharers s f) × (sharers (evicted s j p f k others) f + 1 ≡ sharers s f)) ⊎ ((nat_lt 1 (sharers s f) ≡ false) × (sharers (evicted s j p f k others) f ≡ 0))
unfolding StoodOn
left_case s j p f k others x sound there (inl e) vacant =
    let known = stood_within s j p f x sound there (inl e) in
    let none = known.1 e in
    let share = put_tally (shares f) s.tables j p x (Swapped k) there in
    inr (rw none refl, omega arith)
left_case s j p f k others x sound there (inr e) vacant =
    let share = put_tally (shares f) s.tables j p x (Swapped k) there in
    let one : shares f x ≡ 1 = rw e (one_same f f refl) in
    elim (lt_cases (sharers s f)) [
      | inl many ↦ inl (many.0, many.1, omega arith)
      | inr few ↦ inr (few.0, (let f2 = few.1 in omega arith))
    ]

pub frames_evicted : (s : Space) (j p f k : ℕ) (others : List ℕ) (x : Page) → FramesAreSound s → page_at s.tables j p ≡ Some x → StoodOn x f → slice_get s.slots.uses k ≡ Some Vacant → FramesAreSound (evicted s j p f k others)
frames_evicted s j p f k others x sound there stood vacant =
    let known = stood_within s j p f x sound there stood in
    let within : f < length s.marks = (let w = known.0 in let m = sound.marks in omega arith) in
    let s2 : Space = evicted s j p f k others in
    let b : Bool = nat_lt 1 (sharers s f) in
    let new : Mark = cond b (one_fewer (slice_get s.marks f)) Plain in
    let share : (g : ℕ) → sharers s2 g + shares g x ≡ sharers s g + 0 = λ g. put_tally (shares g) s.tables j p x (Swapped k) there in
    record {
      one = sum_evicted s j p f k others x sound there stood vacant;
      none = none_evicted s j p f k others x sound there stood vacant;
      whole = sound.whole;
      marks = length-set s.marks f new ∙ sound.marks;
      names = λ g. elim (here_or f g) [
        | inl same ↦
            (let here : slice_get s2.marks g ≡ Some new = ap (slice_get s2.marks) same ∙ set_same s.marks f new within in
            let some = get_there s.marks f within in
            let case = names_left s s2 f (slice_get s.marks f) b refl (sound.names f) (λ e. (let bad : Some some.0 ≡ None = sym some.1 ∙ e in cc)) (left_case s j p f k others x sound there stood vacant) in
            subst (Names s2 g) (sym here) (subst (λ q. Names s2 q (Some new)) (sym same) case))
        | inr other ↦
            (let there_too : slice_get s2.marks g ≡ slice_get s.marks g = set_other s.marks f g new (λ e. other e) in
            let zeros = stood_other x f g stood (λ e. other e) in
            let e : sharers s2 g ≡ sharers s g = (let k2 = share g in let z = zeros.1 in omega arith) in
            subst (Names s2 g) (sym there_too) (names_other s s2 g (slice_get s.marks g) refl e
            (λ i q is. (let page = other_kind (owns g) s.tables j p i q x (Swapped k) there zeros.0 is in rw page is)) (sound.names g)))
      ];
      apart = λ g h hash has also. sound.apart g h hash (hash_before s.marks f g b hash within has) (hash_before s.marks f h b hash within also);
    }

-- a slot that another page has, or a ticket, is used as before
pub used_other : (s s2 : Space) (h : ℕ) (u : Option Slot) → count (lies_in h) s2.tables ≡ count (lies_in h) s.tables → count (comes_from h) s2.tables ≡ count (comes_from h) s.tables → tally (one_if h) s2.slots.vacant ≡ tally (one_if h) s.slots.vacant
    → ((i q : ℕ) → at leaving (page_at s.tables i q) ≡ 1 → at leaving (page_at s2.tables i q) ≡ 1)
    → ((i q : ℕ) → page_at s.tables i q ≡ Some (Coming h) → page_at s2.tables i q ≡ Some (Coming h)) → IsUsed s h u → IsUsed s2 h u
used_other s s2 h None a b c d e used = (a ∙ used.0, b ∙ used.1, c ∙ used.2)
used_other s s2 h (Some Vacant) a b c d e used = (a ∙ used.0, b ∙ used.1, c ∙ used.2)
used_other s s2 h (Some Taken) a b c d e used = (a ∙ used.0, b ∙ used.1, c ∙ used.2)
used_other s s2 h (Some (Evicting i q)) a b c d e used = (a ∙ used.0, b ∙ used.1, c ∙ used.2, d i q used.3)
used_other s s2 h (Some (EvictVoid i)) a b c d e used = (a ∙ used.0, b ∙ used.1, c ∙ used.2)
used_other s s2 h (Some (Fetching i q f)) a b c d e used = (a ∙ used.0, b ∙ used.1, c ∙ used.2, e i q used.3)
used_other s s2 h (Some (FetchVoid i f)) a b c d e used = (a ∙ used.0, b ∙ used.1, c ∙ used.2)

stood_kind : (x : Page) (f h : ℕ) → StoodOn x f → (lies_in h x ≡ 0) × (comes_from h x ≡ 0) × (leaving x ≡ 0) × (x ≢ Coming h)
unfolding StoodOn
stood_kind x f h (inl e) = (rw e refl, rw e refl, rw e refl, λ c. (let bad : Private f ≡ Coming h = sym e ∙ c in cc))
stood_kind x f h (inr e) = (rw e refl, rw e refl, rw e refl, λ c. (let bad : Shared f ≡ Coming h = sym e ∙ c in cc))

pub other_value : (t : List (List Page)) (j p i q : ℕ) (x y z : Page) → page_at t j p ≡ Some x → x ≢ z → page_at t i q ≡ Some z → page_at (put t j p y) i q ≡ Some z
other_value t j p i q x y z there apart is = search (rules, here_or, put_other_row, put_other)

pub vacant_is : (s : Space) (k : ℕ) → IsUsed s k (slice_get s.slots.uses k) → slice_get s.slots.uses k ≡ Some Vacant → (count (lies_in k) s.tables ≡ 0) × (count (comes_from k) s.tables ≡ 0) × (tally (one_if k) s.slots.vacant ≡ 1)
vacant_is s k used vacant = subst (IsUsed s k) vacant used

not_leaving : (i : ℕ) (xs : List Slot) (k : ℕ) → slice_get xs k ≡ Some Vacant → LeavesBy i (slice_get xs k) → ⊥
not_leaving i xs k vacant by = subst (LeavesBy i) vacant by

-- a page that is leaving after the move was leaving before
pub still : (s : Space) (j p i q : ℕ) (x y : Page) → page_at s.tables j p ≡ Some x → leaving y ≡ 0 → at leaving (page_at (put s.tables j p y) i q) ≡ 1 → at leaving (page_at s.tables i q) ≡ 1
still s j p i q x y there stays is = search (rules, here_or, put_other_row, put_other, put_this)

pub slots_evicted : (s : Space) (j p f k : ℕ) (others : List ℕ) (x : Page) → SlotsAreSound s → length (frame_bytes s f) ≡ 4096 → page_at s.tables j p ≡ Some x → StoodOn x f → slice_get s.slots.uses k ≡ Some Vacant → s.slots.vacant ≡ others ++ k ∷ [] → SlotsAreSound (evicted s j p f k others)
slots_evicted s j p f k others x sound long there stood vacant list =
    let s2 : Space = evicted s j p f k others in
    let bytes : List ℕ = frame_bytes s f in
    let within = there_of s.slots.uses k Vacant vacant in
    let was = vacant_is s k (sound.used k) vacant in
    let split : (h : ℕ) → tally (one_if h) s.slots.vacant ≡ tally (one_if h) others + one_if h k = λ h. rw list (let e = tally-append (one_if h) others (k ∷ []) in omega arith) in
    let here : slice_get s2.slots.uses k ≡ Some Taken = set_same s.slots.uses k Taken within in
    let away : (h : ℕ) → h ≢ k → slice_get s2.slots.uses h ≡ slice_get s.slots.uses h = λ h other. set_other s.slots.uses k h Taken other in
    record {
      used = λ h. elim (here_or k h) [
        | inl same ↦
            (let kind = stood_kind x f k stood in
            let lies = put_tally (lies_in k) s.tables j p x (Swapped k) there in
            let comes = put_tally (comes_from k) s.tables j p x (Swapped k) there in
            let o = one_same k k refl in
            let v = split k in
            let now : IsUsed s2 k (Some Taken) = (omega (arith, lies, kind.0, o, was.0), omega (arith, comes, kind.1, was.1), omega (arith, v, o, was.2)) in
            subst (λ q. IsUsed s2 q (slice_get s2.slots.uses q)) (sym same) (subst (IsUsed s2 k) (sym here) now))
        | inr other ↦
            (let kind = stood_kind x f h stood in
            let lies = put_tally (lies_in h) s.tables j p x (Swapped k) there in
            let comes = put_tally (comes_from h) s.tables j p x (Swapped k) there in
            let o = one_other h k other in
            let v = split h in
            subst (IsUsed s2 h) (sym (away h (λ e. other e)))
            (used_other s s2 h (slice_get s.slots.uses h) (omega (arith, lies, kind.0, o)) (omega (arith, comes, kind.1)) (omega (arith, v, o))
            (λ i q is. (let page = other_kind leaving s.tables j p i q x (Swapped k) there kind.2 is in rw page is))
            (λ i q is. other_value s.tables j p i q x (Swapped k) (Coming h) there kind.3 is)
            (sound.used h)))
      ];
      by_one = search (rules, here_or);
      by_this = search (rules, here_or, not_leaving);
      leaving = λ i q is. (let before : at leaving (page_at s.tables i q) ≡ 1 = still s j p i q x (Swapped k) there refl is in
          let found = sound.leaving i q before in
          elim (here_or k found.0) [
            | inl same ↦ absurd (let e : slice_get s.slots.uses k ≡ Some (Evicting i q) = subst (λ z. slice_get s.slots.uses z ≡ Some (Evicting i q)) same found.1 in let bad : Some Vacant ≡ Some (Evicting i q) = sym vacant ∙ e in cc)
            | inr other ↦ (found.0, away found.0 (λ e. other e) ∙ found.1)
          ]);
      voids = search (rules, here_or);
      held = length-set s.slots.held k bytes ∙ (sound.held ∙ sym (length-set s.slots.uses k Taken));
      whole = λ h some. elim (here_or k h) [
        | inl same ↦ rw same (ap length (get_or-set_same s.slots.held k bytes [] (let l = sound.held in omega arith)) ∙ long)
        | inr other ↦
            (let kind = stood_kind x f h stood in
            let lies = put_tally (lies_in h) s.tables j p x (Swapped k) there in
            let comes = put_tally (comes_from h) s.tables j p x (Swapped k) there in
            let o = one_other h k other in
            ap length (get_or-set_other s.slots.held k h bytes [] (λ e. other e)) ∙ sound.whole h (omega (arith, some, lies, comes, kind.0, kind.1, o)))
      ];
    }

pub row_length : (t : List (List Page)) (j p : ℕ) (y : Page) (i : ℕ) → length (get_or (put t j p y) i []) ≡ length (get_or t i [])
row_length [] j p y i = refl
row_length (xs ∷ t) zero p y zero = length-set xs p y
row_length (xs ∷ t) zero p y (suc i) = refl
row_length (xs ∷ t) (suc j) p y zero = refl
row_length (xs ∷ t) (suc j) p y (suc i) = row_length t j p y i

pub mark_length : (t : List (List Bool)) (j p : ℕ) (y : Bool) (i : ℕ) → length (get_or (put t j p y) i []) ≡ length (get_or t i [])
mark_length [] j p y i = refl
mark_length (xs ∷ t) zero p y zero = length-set xs p y
mark_length (xs ∷ t) zero p y (suc i) = refl
mark_length (xs ∷ t) (suc j) p y zero = refl
mark_length (xs ∷ t) (suc j) p y (suc i) = mark_length t j p y i

none_long : (xs : List Page) → length xs ≡ 0 → xs ≡ []
none_long [] h = refl
none_long (x ∷ xs) h = absurd (omega arith)

pub has_still : (o : Option Occupant) (xs ys : List Page) → length ys ≡ length xs → HasTable o xs → HasTable o ys
has_still None xs ys same has = none_long ys (same ∙ ap length has)
has_still (Some t) xs ys same has = (has.0, has.1, (let l = has.2 in omega arith), λ gone. none_long ys (same ∙ ap length (has.3 gone)), has.4, has.5, has.6, (has.7.0, same ∙ has.7.1))

pub occupants_evicted : (s : Space) (j p f k : ℕ) (others : List ℕ) → OccupantsAreSound s → slice_get s.slots.uses k ≡ Some Vacant → OccupantsAreSound (evicted s j p f k others)
occupants_evicted s j p f k others sound vacant = record {
  tables = length-set s.tables j _ ∙ sound.tables;
  touched = length-set s.touched j _ ∙ sound.touched;
  have = λ i o is. has_still o (get_or s.tables i []) (get_or (put s.tables j p (Swapped k)) i []) (row_length s.tables j p (Swapped k) i) (sound.have i o is);
  marks = λ i. mark_length s.touched j p false i ∙ (sound.marks i ∙ sym (row_length s.tables j p (Swapped k) i));
  numbers = sound.numbers;
  released = λ i t is gone. (let k2 = sound.released i t is gone in let e = set_tally (ticket_of i) s.slots.uses k Vacant Taken vacant in omega arith);
  needs = λ i t need is at. (let n = sound.needs i t need is at in let l = row_length s.tables j p (Swapped k) i in (n.0, omega (arith, n.1, l), n.2));
}

pub pins_evicted : (s : Space) (j p f k : ℕ) (others : List ℕ) (x : Page) → PinsAreSound s → CanLeave s j p → page_at s.tables j p ≡ Some x → PinsAreSound (evicted s j p f k others)
pins_evicted s j p f k others x sound leaves there = search (rules, here_or, put_other_row, put_other)

-- a page that goes to a slot leaves everything sound
pub is_sound_evicted : (s : Space) (j p f k : ℕ) (others : List ℕ) (x : Page) → IsSound s → CanLeave s j p → page_at s.tables j p ≡ Some x → StoodOn x f → slice_get s.slots.uses k ≡ Some Vacant → s.slots.vacant ≡ others ++ k ∷ [] → IsSound (evicted s j p f k others)
is_sound_evicted s j p f k others x sound leaves there stood vacant list = record {
  frames = frames_evicted s j p f k others x sound.frames there stood vacant;
  slots = slots_evicted s j p f k others x sound.slots (sound.frames.whole f (stood_within s j p f x sound.frames there stood).0) there stood vacant list;
  occupants = occupants_evicted s j p f k others sound.occupants vacant;
  pins = pins_evicted s j p f k others x sound.pins leaves there;
  admissible = (sound.admissible.0, (let e = length-set s.slots.uses k Taken in let b = sound.admissible.1 in omega arith));
}

-- and all bytes as they were
pub bytes_evicted : (s : Space) (j p f k : ℕ) (others : List ℕ) (x : Page) → SlotsAreSound s → page_at s.tables j p ≡ Some x → StoodOn x f → slice_get s.slots.uses k ≡ Some Vacant
    → all_bytes (evicted s j p f k others) ≡ all_bytes s
unfolding StoodOn
bytes_evicted s j p f k others x sound there (inl e) vacant =
    let was = vacant_is s k (sound.used k) vacant in
    let within : k < length s.slots.held = (let w = there_of s.slots.uses k Vacant vacant in let l = sound.held in omega arith) in
    goes_to_slot (backing s) s.tables j p k x within was.0 was.1 there (frame_bytes s f) (rw e refl) (rw e refl)
bytes_evicted s j p f k others x sound there (inr e) vacant =
    let was = vacant_is s k (sound.used k) vacant in
    let within : k < length s.slots.held = (let w = there_of s.slots.uses k Vacant vacant in let l = sound.held in omega arith) in
    goes_to_slot (backing s) s.tables j p k x within was.0 was.1 there (frame_bytes s f) (rw e refl) (rw e refl)

-- on which frame a page stood
pub stood_on : (s : Space) (j p f : ℕ) → (page_at s.tables j p ≡ Some (Private f)) ⊎ (page_at s.tables j p ≡ Some (Shared f)) → (x : Page) × (page_at s.tables j p ≡ Some x) × StoodOn x f
unfolding StoodOn
stood_on s j p f (inl e) = (Private f, e, inl refl)
stood_on s j p f (inr e) = (Shared f, e, inr refl)
