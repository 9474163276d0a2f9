-- What is so after one page was unshared.
use Rattle.std.proofs.Common.{◌≡◌, ◌≢◌, ℕ, ◌+◌, ◌-◌, ◌<◌, ◌≤◌, inl, inr, cond, nat_lt, true, false, Bool, List, [], Some, None, length, slice_get, get_or, refl, sym, ap, ◌∙◌, subst, arith, length-set, rules}
use Rattle.std.proofs.lemmas.Bool.Decides.{nat_tests}
use Rattle.std.proofs.lemmas.Bool.{cases_lt}
use Rattle.std.proofs.lemmas.List.{get_or-set_same, get_or-set_other}
use Rattle.wh_space_model.specs.{tally, one_if, zero_page, Space, all_bytes, backing, frame_bytes, kept_by, sharers, FramesAreSound, IsSound, Names, Backing, owns, page_at, page_bytes, shares, untouched, copies, may_take, fewer_sharers, with_fewer}
use Rattle.wh_space_model.proofs.Tally.{one_same, one_other}
use Rattle.wh_space_model.specs.declared.states.Page.{Page}
use Rattle.wh_space_model.specs.declared.states.Page.TheVariants.{Untouched, Private, Coming}
use Rattle.wh_space_model.specs.declared.states.Mark.{Mark}
use Rattle.wh_space_model.specs.declared.states.Mark.TheVariants.{Plain, Hint, Sharers, Unlisted}
use Rattle.wh_space_model.proofs.PageLemmas.{length-zero_page}
use Rattle.wh_space_model.proofs.Breaking.{ArePinsOf, IsNear, broke, is_sound_broke}
use Rattle.wh_space_model.proofs.Broken.{stays, last, left, taken, frames_broke, entry_there}
use Rattle.wh_space_model.proofs.Contents.{same_contents}
use Rattle.wh_space_model.proofs.Counting.{shared_frame, single}
use Rattle.wh_space_model.proofs.Lending.{IsLent, lent_alone, same_pins}
use Rattle.wh_space_model.proofs.Putting.{get_or_is, here_or, set_other, set_same, there_of}
use Rattle.wh_space_model.proofs.Transit.{frame_written}

pub record IsBroken (s : Space) (i p : ℕ) (s2 : Space) : Type 0 where
  pub page : Page
  pub was : page_at s.tables i p ≡ Some page
  pub frame : ℕ
  pub is : s2 ≡ broke s i p frame s2.pool s2.marks s2.pins
  pub sound : IsSound s2
  pub bytes : all_bytes s2 ≡ all_bytes s
  pub many : length s2.pool.frames ≡ length s.pool.frames
  pub entries : length s2.marks ≡ length s.marks
  pub marks : (h : ℕ) (m : Mark) → slice_get s.marks h ≡ Some m → slice_get s2.marks h ≡ Some (fewer_sharers (shares h page) m)
  pub free : (h : ℕ) → tally (one_if h) s2.pool.free ≤ tally (one_if h) s.pool.free
  pub pins : ArePinsOf s.pins s2.pins
  pub kept : (j : ℕ) → j ≢ i → kept_by s2.pins j ≡ kept_by s.pins j
  pub fewer : (h : ℕ) → tally (one_if h) (kept_by s2.pins i) ≤ tally (one_if h) (kept_by s.pins i)
  pub takes : may_take s2 i + (untouched page + single s (shared_frame page)) ≡ may_take s i

-- nobody has left an entry
none_fewer : (f : ℕ) (s : Space) (m : Mark) → Names s f (Some m) → fewer_sharers 0 m ≡ m
none_fewer f s Plain names = refl
none_fewer f s (Hint x i q) names = refl
none_fewer f s (Sharers x n) names = let some = names.1 in go (nat_lt 0 n) refl where
  has_some : nat_lt 0 n ≡ false → ⊥
  has_some test = let some = names.1 in grind (arith, nat_tests)

  go : (b : Bool) → nat_lt 0 n ≡ b → cond b (Sharers x (n - 0)) Plain ≡ Sharers x n
  go true test = let e : n - 0 ≡ n = omega arith in ap (Sharers x) e
  go false test = absurd (has_some test)
none_fewer f s (Unlisted n) names = let some = names.1 in go (nat_lt 0 n) refl where
  has_some : nat_lt 0 n ≡ false → ⊥
  has_some test = let some = names.1 in grind (arith, nat_tests)

  go : (b : Bool) → nat_lt 0 n ≡ b → cond b (Unlisted (n - 0)) Plain ≡ Unlisted n
  go true test = let e : n - 0 ≡ n = omega arith in ap (λ k. Unlisted k) e
  go false test = absurd (has_some test)

-- with its one sharer an entry goes
one_goes : (s : Space) (f : ℕ) (m : Mark) → Names s f (Some m) → sharers s f ≡ 1 → fewer_sharers 1 m ≡ Plain
one_goes s f Plain names one = refl
one_goes s f (Hint x i q) names one = absurd (let z = names.1 in omega arith)
one_goes s f (Sharers x n) names one = let c = names.0 in less n (omega arith) (Sharers x (n - 1)) where
  less : (n : ℕ) → n ≡ 1 → (a : Mark) → cond (nat_lt 1 n) a Plain ≡ Plain
  less n e a = rw e refl
one_goes s f (Unlisted n) names one = let c = names.0 in less n (omega arith) (Unlisted (n - 1)) where
  less : (n : ℕ) → n ≡ 1 → (a : Mark) → cond (nat_lt 1 n) a Plain ≡ Plain
  less n e a = rw e refl

-- the entries where frame f has one sharer fewer
fewer_marks : (s : Space) (f : ℕ) → FramesAreSound s → 1 ≤ sharers s f → (h : ℕ) (m : Mark) → slice_get s.marks h ≡ Some m → slice_get (with_fewer s f).marks h ≡ Some (fewer_sharers (one_if h f) m)
fewer_marks s f sound some h m is =
    elim (here_or f h) [
      | inr other ↦ (let o = one_other h f other in set_other s.marks f h _ (λ e. other e) ∙ (is ∙ rw o (ap Some (sym (none_fewer h s m (subst (Names s h) is (sound.names h)))))))
      | inl same ↦ search (rules, one_same, get_or_is, set_same, there_of)
    ]

pub marks_stay : (s : Space) (sound : FramesAreSound s) (h : ℕ) (m : Mark) → slice_get s.marks h ≡ Some m → slice_get s.marks h ≡ Some (fewer_sharers 0 m)
marks_stay s sound h m is = is ∙ ap Some (sym (none_fewer h s m (subst (Names s h) is (sound.names h))))

-- ---- a page alone on its frame, leaving or not

pub alone_broken : (s : Space) (i p f : ℕ) (old : Page) → IsSound s → page_at s.tables i p ≡ Some old → IsNear old → ((h : ℕ) → owns h old ≡ one_if h f) → ((h : ℕ) → shares h old ≡ 0)
    → ((b : Backing) → page_bytes b old ≡ get_or b.frames f []) → untouched old ≡ 0 → shared_frame old ≡ None → IsBroken s i p (broke s i p f s.pool s.marks s.pins)
unfolding broke single shared_frame
alone_broken s i p f old sound there near own share bytes plain none = record {
  page = old;
  was = there;
  frame = f;
  is = refl;
  sound = is_sound_broke s i p f old s.pool s.marks s.pins sound there near refl (same_pins s.pins)
      (frames_broke s i p f old (λ h. 0) s.pool s.marks s.pins sound.frames there refl refl (λ h. omega arith) (λ h. stays (own h) (share h) refl refl refl));
  bytes = same_contents (backing s) s.tables i p old (Private f) there (sym (bytes (backing s)));
  many = refl;
  entries = refl;
  marks = λ h m is. (let z = share h in rw z (marks_stay s sound.frames h m is));
  free = λ h. omega arith;
  pins = same_pins s.pins;
  kept = λ j other. refl;
  fewer = λ h. omega arith;
  takes = rw (plain, none) (omega arith);
}

-- ---- the last sharer of a frame

pub last_broken : (s : Space) (i p f : ℕ) (old : Page) → IsSound s → page_at s.tables i p ≡ Some old → IsNear old → ((h : ℕ) → owns h old ≡ 0) → ((h : ℕ) → shares h old ≡ one_if h f)
    → ((b : Backing) → page_bytes b old ≡ get_or b.frames f []) → untouched old ≡ 0 → shared_frame old ≡ Some f → sharers s f ≡ 1 → IsBroken s i p (broke s i p f s.pool (with_fewer s f).marks s.pins)
unfolding broke single shared_frame
last_broken s i p f old sound there near own share bytes plain frame one =
    let marks : List Mark = (with_fewer s f).marks in
    let many = length-set s.marks f (fewer_sharers 1 (get_or s.marks f Plain)) in
    let entry = entry_there s f sound.frames (omega arith) in
    record {
      page = old;
      was = there;
      frame = f;
      is = refl;
      sound = is_sound_broke s i p f old s.pool marks s.pins sound there near refl (same_pins s.pins)
          (frames_broke s i p f old (λ h. 0) s.pool marks s.pins sound.frames there refl many (λ h. omega arith)
          (λ h. elim (here_or f h) [
            | inl same ↦
                (let o = one_same h f same in let a = share h in
                let now : slice_get marks f ≡ Some Plain = fewer_marks s f sound.frames (omega arith) f entry.0 entry.1 ∙ (let k = one_same f f refl in rw k (ap Some (one_goes s f entry.0 entry.2 one))) in
                last (own h) (a ∙ o) (subst (λ z. sharers s z ≡ 1) (sym same) one) o refl (subst (λ z. slice_get marks z ≡ Some Plain) (sym same) now) refl)
            | inr other ↦ (let o = one_other h f other in stays (own h ∙ sym o) (share h ∙ o) refl (set_other s.marks f h _ (λ e. other e)) refl)
          ]));
      bytes = same_contents (backing s) s.tables i p old (Private f) there (sym (bytes (backing s)));
      many = refl;
      entries = many;
      marks = λ h m is. (let z = share h in rw z (fewer_marks s f sound.frames (omega arith) h m is));
      free = λ h. omega arith;
      pins = same_pins s.pins;
      kept = λ j other. refl;
      fewer = λ h. omega arith;
      takes = (let z : copies 1 (sharers s f) ≡ 0 = rw one refl in rw (plain, frame) (omega arith));
    }

-- ---- one of several sharers, for which a frame is taken

two_copies : (n : ℕ) → 2 ≤ n → copies 1 n ≡ 1
two_copies n some = grind (arith, nat_tests)

pub copy_broken : (s : Space) (i p f g : ℕ) (old : Page) (s1 : Space) → IsSound s → page_at s.tables i p ≡ Some old → IsNear old → ((h : ℕ) → owns h old ≡ 0) → ((h : ℕ) → shares h old ≡ one_if h f)
    → ((b : Backing) → page_bytes b old ≡ get_or b.frames f []) → untouched old ≡ 0 → shared_frame old ≡ Some f → 2 ≤ sharers s f → IsLent s i g (frame_bytes s f) s1
    → IsBroken s i p (broke s i p g s1.pool (with_fewer s f).marks s1.pins)
unfolding broke single shared_frame
copy_broken s i p f g old s1 sound there near own share bytes plain frame some lends =
    let marks : List Mark = (with_fewer s f).marks in
    let many = length-set s.marks f (fewer_sharers 1 (get_or s.marks f Plain)) in
    let entry = entry_there s f sound.frames (omega arith) in
    let alone = lent_alone s i g (frame_bytes s f) s1 sound.frames lends in
    let apart : f ≢ g = λ e. (let z : sharers s f ≡ 0 = subst (λ z. sharers s z ≡ 0) (sym e) alone.2 in omega arith) in
    let within : f < length s.pool.frames = elim (cases_lt f (length s.pool.frames)) [ inl w ↦ w | inr past ↦ absurd (let z = sound.frames.none f past in omega arith) ] in
    let frames : length s1.pool.frames ≡ length s.pool.frames = ap length lends.frames ∙ length-set s.pool.frames g (frame_bytes s f) in
    let same_frame : (h : ℕ) → h ≢ g → get_or s1.pool.frames h [] ≡ frame_bytes s h = λ h other. ap (λ z. get_or z h []) lends.frames ∙ get_or-set_other s.pool.frames g h (frame_bytes s f) [] other in
    let new_frame : get_or s1.pool.frames g [] ≡ frame_bytes s f = ap (λ z. get_or z g []) lends.frames ∙ get_or-set_same s.pool.frames g (frame_bytes s f) [] alone.0 in
    record {
      page = old;
      was = there;
      frame = g;
      is = refl;
      sound = is_sound_broke s i p g old s1.pool marks s1.pins sound there near frames lends.pins
          (frames_broke s i p g old (λ h. one_if h g) s1.pool marks s1.pins sound.frames there frames many lends.sum
          (λ h. elim (here_or f h) [
            | inl same ↦
                (let o = one_same h f same in let off = one_other h g (λ e. apart (sym same ∙ e)) in
                let now : slice_get marks f ≡ Some (fewer_sharers 1 (get_or s.marks f Plain)) = set_same s.marks f (fewer_sharers 1 (get_or s.marks f Plain)) (there_of s.marks f entry.0 entry.1) in
                left (own h) (share h ∙ o) (subst (λ z. 2 ≤ sharers s z) (sym same) some) off off
                (subst (λ z. slice_get marks z ≡ Some (fewer_sharers 1 (get_or s.marks z Plain))) (sym same) now) (same_frame h (λ e. apart (sym same ∙ e))))
            | inr other ↦ (let o = one_other h f other in elim (here_or g h) [
              | inl taken_here ↦ search (rules, one_same, taken, set_other)
              | inr away ↦ (let off = one_other h g away in stays (own h ∙ sym off) (share h ∙ o) off (set_other s.marks f h _ (λ e. other e)) (same_frame h (λ e. away e)))
            ])
          ]));
      bytes = (let b2 : Backing = record { frames = s1.pool.frames; held = s.slots.held } in
          let now : page_bytes b2 (Private g) ≡ page_bytes b2 old = new_frame ∙ sym (bytes b2 ∙ same_frame f apart) in
          same_contents b2 s.tables i p old (Private g) there now
          ∙ (ap (λ z. Rattle.wh_space_model.specs.States.contents (record { frames = z; held = s.slots.held }) s.tables) lends.frames ∙ frame_written (backing s) g (frame_bytes s f) s.tables alone.1 alone.2));
      many = frames;
      entries = many;
      marks = λ h m is. (let z = share h in rw z (fewer_marks s f sound.frames (omega arith) h m is));
      free = lends.free;
      pins = lends.pins;
      kept = lends.kept;
      fewer = lends.fewer;
      takes = (let z = two_copies (sharers s f) some in let t = lends.takes in rw (plain, frame) (omega arith));
    }

-- ---- an untouched page

pub fresh_broken : (s : Space) (i p g : ℕ) (s1 : Space) → IsSound s → page_at s.tables i p ≡ Some Untouched → IsLent s i g zero_page s1 → IsBroken s i p (broke s i p g s1.pool s.marks s1.pins)
unfolding broke single shared_frame
fresh_broken s i p g s1 sound there lends =
    let alone = lent_alone s i g zero_page s1 sound.frames lends in
    let frames : length s1.pool.frames ≡ length s.pool.frames = ap length lends.frames ∙ length-set s.pool.frames g zero_page in
    let same_frame : (h : ℕ) → h ≢ g → get_or s1.pool.frames h [] ≡ frame_bytes s h = λ h other. ap (λ z. get_or z h []) lends.frames ∙ get_or-set_other s.pool.frames g h zero_page [] other in
    let new_frame : get_or s1.pool.frames g [] ≡ zero_page = ap (λ z. get_or z g []) lends.frames ∙ get_or-set_same s.pool.frames g zero_page [] alone.0 in
    record {
      page = Untouched;
      was = there;
      frame = g;
      is = refl;
      sound = is_sound_broke s i p g Untouched s1.pool s.marks s1.pins sound there (λ h. (refl, refl, λ e. (let bad : Untouched ≡ Coming h = e in cc))) frames lends.pins
          (frames_broke s i p g Untouched (λ h. one_if h g) s1.pool s.marks s1.pins sound.frames there frames refl lends.sum
          (λ h. elim (here_or g h) [
            | inl same ↦ (let o = one_same h g same in taken refl refl o o refl (subst (λ z. length (get_or s1.pool.frames z []) ≡ 4096) (sym same) (ap length new_frame ∙ length-zero_page)))
            | inr other ↦ (let o = one_other h g other in stays (sym o) refl o refl (same_frame h (λ e. other e)))
          ]));
      bytes = (let b2 : Backing = record { frames = s1.pool.frames; held = s.slots.held } in
          same_contents b2 s.tables i p Untouched (Private g) there new_frame
          ∙ (ap (λ z. Rattle.wh_space_model.specs.States.contents (record { frames = z; held = s.slots.held }) s.tables) lends.frames ∙ frame_written (backing s) g zero_page s.tables alone.1 alone.2));
      many = frames;
      entries = refl;
      marks = λ h m is. marks_stay s sound.frames h m is;
      free = lends.free;
      pins = lends.pins;
      kept = lends.kept;
      fewer = lends.fewer;
      takes = (let t = lends.takes in omega arith);
    }
