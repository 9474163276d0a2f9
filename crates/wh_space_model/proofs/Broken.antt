-- Each frame has its one use still where a page is unshared.
use Rattle.std.proofs.Common.{◌≡◌, ℕ, ◌+◌, ◌-◌, ◌≤◌, inl, inr, List, [], Option, Some, length, slice_get, get_or, refl, sym, ap, ◌∙◌, subst, arith, rules}
use Rattle.std.proofs.lemmas.Bool.{cases_lt}
use Rattle.wh_space_model.specs.{Pool, tally, one_if, fetches_into, Space, Pins, frame_bytes, kept, sharers, FramesAreSound, HasHash, Names, count, owns, page_at, shares, fewer_sharers}
use Rattle.wh_space_model.specs.declared.states.Page.{Page}
use Rattle.wh_space_model.specs.declared.states.Page.TheVariants.{Private}
use Rattle.wh_space_model.specs.declared.states.Mark.{Mark}
use Rattle.wh_space_model.specs.declared.states.Mark.TheVariants.{Plain, Hint, Sharers, Unlisted}
use Rattle.wh_space_model.proofs.Breaking.{broke, elsewhere, void_same}
use Rattle.wh_space_model.proofs.Evicted.{names_other}
use Rattle.wh_space_model.proofs.Fetched.{names_free}
use Rattle.wh_space_model.proofs.Putting.{get_or_is, put_this}
use Rattle.wh_space_model.proofs.Rooms.{get_there}
use Rattle.wh_space_model.proofs.Sums.{put_tally}

-- What becomes of frame h: it stays as it was; the page was its last sharer, and owns it; the page left its other sharers; or
-- it was taken for the page. G says whether it was taken.
pub data Way (s : Space) (old : Page) (g : ℕ) (G : ℕ → ℕ) (pool : Pool) (marks : List Mark) (h : ℕ) : Type 0 where
  stays : owns h old ≡ one_if h g → shares h old ≡ 0 → G h ≡ 0 → slice_get marks h ≡ slice_get s.marks h → get_or pool.frames h [] ≡ frame_bytes s h
      → Way s old g G pool marks h
  last : owns h old ≡ 0 → shares h old ≡ 1 → sharers s h ≡ 1 → one_if h g ≡ 1 → G h ≡ 0 → slice_get marks h ≡ Some Plain → get_or pool.frames h [] ≡ frame_bytes s h
      → Way s old g G pool marks h
  left : owns h old ≡ 0 → shares h old ≡ 1 → 2 ≤ sharers s h → one_if h g ≡ 0 → G h ≡ 0 → slice_get marks h ≡ Some (fewer_sharers 1 (get_or s.marks h Plain))
      → get_or pool.frames h [] ≡ frame_bytes s h → Way s old g G pool marks h
  taken : owns h old ≡ 0 → shares h old ≡ 0 → one_if h g ≡ 1 → G h ≡ 1 → slice_get marks h ≡ slice_get s.marks h → length (get_or pool.frames h []) ≡ 4096
      → Way s old g G pool marks h

names_fewer : (s s2 : Space) (h : ℕ) (m : Mark) → Names s h (Some m) → 2 ≤ sharers s h → sharers s2 h + 1 ≡ sharers s h → frame_bytes s2 h ≡ frame_bytes s h → Names s2 h (Some (fewer_sharers 1 m))
names_fewer s s2 h Plain names some less same = absurd (omega arith)
names_fewer s s2 h (Hint x i q) names some less same = absurd (let z = names.1 in omega arith)
names_fewer s s2 h (Sharers x n) names some less same = search rules
names_fewer s s2 h (Unlisted n) names some less same = search rules

hash_fewer : (m : Mark) (x : ℕ) → HasHash (Some (fewer_sharers 1 m)) x → HasHash (Some m) x
hash_fewer Plain x has = has
hash_fewer (Hint y i q) x has = has
hash_fewer (Sharers y n) x has = search rules
hash_fewer (Unlisted n) x has = search rules

pub entry_there : (s : Space) (h : ℕ) → FramesAreSound s → 1 ≤ sharers s h → (m : Mark) × (slice_get s.marks h ≡ Some m) × Names s h (Some m)
entry_there s h sound some =
    elim (cases_lt h (length s.pool.frames)) [
      | inl within ↦ (let m = get_there s.marks h (let l = sound.marks in omega arith) in (m.0, m.1, subst (Names s h) m.1 (sound.names h)))
      | inr past ↦ absurd (let z = sound.none h past in omega arith)
    ]

pub frames_broke : (s : Space) (i p g : ℕ) (old : Page) (G : ℕ → ℕ) (pool : Pool) (marks : List Mark) (pins : Option Pins) → FramesAreSound s → page_at s.tables i p ≡ Some old
    → length pool.frames ≡ length s.pool.frames → length marks ≡ length s.marks
    → ((h : ℕ) → (tally (one_if h) pool.free + tally (one_if h) (kept pins)) + G h ≡ tally (one_if h) s.pool.free + tally (one_if h) (kept s.pins))
    → ((h : ℕ) → Way s old g G pool marks h) → FramesAreSound (broke s i p g pool marks pins)
unfolding broke
frames_broke s i p g old G pool marks pins sound there many entries sum ways =
    let s2 : Space = broke s i p g pool marks pins in
    let own : (h : ℕ) → count (owns h) s2.tables + owns h old ≡ count (owns h) s.tables + one_if h g = λ h. put_tally (owns h) s.tables i p old (Private g) there in
    let share : (h : ℕ) → sharers s2 h + shares h old ≡ sharers s h + 0 = λ h. put_tally (shares h) s.tables i p old (Private g) there in
    let fetch : (h : ℕ) → tally (fetches_into h) s2.slots.uses ≡ tally (fetches_into h) s.slots.uses = λ h. void_same (fetches_into h) i p s.slots.uses refl in
    let has_mark : (h x : ℕ) → HasHash (slice_get marks h) x → HasHash (slice_get s.marks h) x = λ h x has. elim (ways h) [
      | stays a b c mark bytes ↦ subst (λ m. HasHash m x) mark has
      | last a b c d e mark bytes ↦ absurd (subst (λ m. HasHash m x) mark has)
      | left a b c d e mark bytes ↦
          (let m = entry_there s h sound (omega arith) in
          let is : get_or s.marks h Plain ≡ m.0 = get_or_is s.marks h m.0 Plain m.1 in
          subst (λ z. HasHash z x) (sym m.1) (hash_fewer m.0 x (subst (λ z. HasHash (Some (fewer_sharers 1 z)) x) is (subst (λ m. HasHash m x) mark has))))
      | taken a b c d mark bytes ↦ subst (λ m. HasHash m x) mark has
    ] in
    record {
      one = λ h within. (let a = own h in let b = share h in let c = fetch h in let d = sum h in let e = sound.one h (omega arith) in elim (ways h) [
        | stays a1 a2 a3 mark bytes ↦ omega arith
        | last a1 a2 a3 a4 a5 mark bytes ↦ omega arith
        | left a1 a2 a3 a4 a5 mark bytes ↦ omega arith
        | taken a1 a2 a3 a4 mark bytes ↦ omega arith
      ]);
      none = λ h past. (let a = own h in let b = share h in let c = fetch h in let d = sum h in let e = sound.none h (omega arith) in elim (ways h) [
        | stays a1 a2 a3 mark bytes ↦ omega arith
        | last a1 a2 a3 a4 a5 mark bytes ↦ omega arith
        | left a1 a2 a3 a4 a5 mark bytes ↦ omega arith
        | taken a1 a2 a3 a4 mark bytes ↦ omega arith
      ]);
      whole = search rules;
      marks = entries ∙ (sound.marks ∙ sym many);
      names = λ h. (let b = share h in elim (ways h) [
        | stays a1 a2 a3 mark bytes ↦ search (rules, names_other, elsewhere, put_this)
        | last a1 a2 a3 a4 a5 mark bytes ↦ (let z : sharers s2 h ≡ 0 = omega arith in subst (Names s2 h) (sym mark) z)
        | left a1 a2 a3 a4 a5 mark bytes ↦
            (let m = entry_there s h sound (omega arith) in
            let is : get_or s.marks h Plain ≡ m.0 = get_or_is s.marks h m.0 Plain m.1 in
            subst (Names s2 h) (sym (mark ∙ ap (λ z. Some (fewer_sharers 1 z)) is)) (names_fewer s s2 h m.0 m.2 a3 (omega arith) bytes))
        | taken a1 a2 a3 a4 mark bytes ↦ search (rules, cases_lt, names_free)
      ]);
      apart = λ a b x has also. sound.apart a b x (has_mark a x has) (has_mark b x also);
    }
