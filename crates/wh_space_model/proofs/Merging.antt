-- A merge leaves everything sound, and so does every offer of a page that is alone on its frame.
use Rattle.std.proofs.Common.{◌≡◌, ◌≢◌, ℕ, ◌+◌, ◌<◌, ◌≤◌, ◌++◌, inl, inr, min, List, [], ◌∷◌, Some, length, slice_get, slice_set, refl, sym, ◌∙◌, subst, arith, length-set, rules}
use Rattle.wh_space_model.specs.{zero_page, tally, one_if, FindsHint, FindsShared, IsOffered, OffersAlone, gives_up, joined_to, paired_with, FramesAreSound, HasHash, IsSound, Names, holders, Space, frame_bytes, sharers, at, comes_from, count, leaving, lies_in, owns, page_at, put, resident, shares}
use Rattle.wh_space_model.proofs.Tally.{one_same, one_other, tally-append}
use Rattle.wh_space_model.specs.declared.states.Page.{Page}
use Rattle.wh_space_model.specs.declared.states.Page.TheVariants.{Untouched, Private, Shared, Coming}
use Rattle.wh_space_model.specs.declared.states.Mark.{Mark}
use Rattle.wh_space_model.specs.declared.states.Mark.TheVariants.{Plain, Sharers}
use Rattle.wh_space_model.specs.declared.states.Offer.{Offer}
use Rattle.wh_space_model.specs.declared.states.Offer.TheVariants.{Skipped, Zeroed, Hinted, Stale, Merged, FalseMatch}
use Rattle.wh_space_model.proofs.Offered.{IsMoved, IsPlain, hinted_sound, is_sound_remade, moved_once, owned, plain_before, remade, same_entry, stale_sound, zeroed_sound}
use Rattle.wh_space_model.proofs.Begun.{at_same}
use Rattle.wh_space_model.proofs.Putting.{here_or, set_other, set_same, there_of}
use Rattle.wh_space_model.proofs.Evicted.{other_kind, other_value, row_length}
use Rattle.wh_space_model.proofs.Sums.{put_tally}
use Rattle.wh_space_model.proofs.Steady.{untouched_soundly}

-- the hashes of the entries are among those that there were
entry_before : (marks : List Mark) (g f h hash m x : ℕ) → g < length marks → f < length marks → HasHash (slice_get marks f) hash
    → HasHash (slice_get (slice_set (slice_set marks g Plain) f (Sharers hash m)) h) x → HasHash (slice_get marks h) x
entry_before marks g f h hash m x within within2 had has = search (rules, here_or, plain_before, set_other, set_same, length-set)

-- frame g is free, and m pages share frame f
pub merged_frames : (s : Space) (tables : List (List Page)) (i p g f hash m : ℕ) → IsSound s → IsOffered s i p g → f ≢ g → f < length s.pool.frames → HasHash (slice_get s.marks f) hash → frame_bytes s f ≢ zero_page
    → ((h : ℕ) → h ≢ f → count (owns h) tables + one_if h g ≡ count (owns h) s.tables) → ((h : ℕ) → h ≢ f → count (shares h) tables ≡ sharers s h)
    → count (owns f) tables + min 1 (count (shares f) tables) ≡ count (owns f) s.tables + min 1 (sharers s f) → count (shares f) tables ≡ m → 1 ≤ m
    → ((h : ℕ) → h ≢ f → h ≢ g → (j q : ℕ) → at (owns h) (page_at s.tables j q) ≡ 1 → at (owns h) (page_at tables j q) ≡ 1)
    → FramesAreSound (remade s tables (s.pool.free ++ g ∷ []) (slice_set (slice_set s.marks g Plain) f (Sharers hash m)))
unfolding remade
merged_frames s tables i p g f hash m sound offered apart within had bytes own share own_f many some keeps =
    let s2 : Space = record s { tables = tables; pool = record s.pool { free = s.pool.free ++ g ∷ [] }; marks = slice_set (slice_set s.marks g Plain) f (Sharers hash m) } in
    let here = owned s i p g sound.frames offered.0 in
    let long = sound.frames.marks in
    let within_g : g < length s.marks = (let a = here.0 in omega arith) in
    let within_f : f < length s.marks = omega arith in
    let within2 : f < length (slice_set s.marks g Plain) = (let l = length-set s.marks g Plain in omega arith) in
    let free : (h : ℕ) → tally (one_if h) s2.pool.free ≡ tally (one_if h) s.pool.free + one_if h g = λ h. (let a = tally-append (one_if h) s.pool.free (g ∷ []) in omega arith) in
    record {
      one = λ h less. elim (here_or f h) [
        | inl same ↦ subst (λ z. holders s2 z + min 1 (sharers s2 z) ≡ 1) (sym same)
            (let c = free f in let o = one_other f g (λ e. apart e) in let d = sound.frames.one f within in omega arith)
        | inr other ↦ (let a = own h (λ e. other e) in let b = share h (λ e. other e) in let c = free h in let d = sound.frames.one h less in omega arith)
      ];
      none = λ h past. (let other : h ≢ f = λ e. omega arith in let a = own h other in let b = share h other in let c = free h in let d = sound.frames.none h past in omega arith);
      whole = sound.frames.whole;
      marks = length-set (slice_set s.marks g Plain) f (Sharers hash m) ∙ (length-set s.marks g Plain ∙ long);
      names = λ h. elim (here_or f h) [
        | inl same ↦
            (let is : Names s2 f (Some (Sharers hash m)) = (many, some, bytes) in
            subst (λ z. Names s2 z (slice_get s2.marks z)) (sym same) (subst (Names s2 f) (sym (set_same (slice_set s.marks g Plain) f (Sharers hash m) within2)) is))
        | inr other ↦ elim (here_or g h) [
          | inl same ↦
              (let now : slice_get s2.marks g ≡ Some Plain = set_other (slice_set s.marks g Plain) f g (Sharers hash m) (λ e. apart (sym e)) ∙ set_same s.marks g Plain within_g in
              let zeros : sharers s2 g ≡ 0 = share g (λ e. apart (sym e)) ∙ here.2 in
              subst (λ z. Names s2 z (slice_get s2.marks z)) (sym same) (subst (Names s2 g) (sym now) zeros))
          | inr away ↦ search (rules, same_entry, set_other)
        ]
      ];
      apart = λ a b x x1 x2. sound.frames.apart a b x (entry_before s.marks g f a hash m x within_g within_f had x1) (entry_before s.marks g f b hash m x within_g within_f had x2);
    }

-- with a frame that others share
pub joined_sound : (s : Space) (i p g f hash n : ℕ) → IsSound s → IsOffered s i p g → FindsShared s hash f n → IsSound (joined_to s i p g f hash n)
unfolding remade IsPlain
joined_sound s i p g f hash n sound offered found =
    let tables : List (List Page) = put s.tables i p (Shared f) in
    let here = owned s i p g sound.frames offered.0 in
    let names : Names s f (Some (Sharers hash n)) = subst (Names s f) found (sound.frames.names f) in
    let apart : f ≢ g = λ e. (let z : sharers s f ≡ 0 = subst (λ a. sharers s a ≡ 0) (sym e) here.2 in let a = names.0 in let b = names.1 in omega arith) in
    let within : f < length s.pool.frames = (let a = there_of s.marks f (Sharers hash n) found in let b = sound.frames.marks in omega arith) in
    let own : (h : ℕ) → count (owns h) tables + one_if h g ≡ count (owns h) s.tables + 0 = λ h. put_tally (owns h) s.tables i p (Private g) (Shared f) offered.0 in
    let share : (h : ℕ) → count (shares h) tables + 0 ≡ sharers s h + one_if h f = λ h. put_tally (shares h) s.tables i p (Private g) (Shared f) offered.0 in
    let one = one_same f f refl in
    let zero_g = one_other f g (λ e. apart e) in
    let count_f : count (shares f) tables ≡ n + 1 = (let a = share f in let b = names.0 in omega arith) in
    is_sound_remade s tables (s.pool.free ++ g ∷ []) (slice_set (slice_set s.marks g Plain) f (Sharers hash (n + 1))) sound
    (moved_once s i p g (Shared f) sound offered (λ h. (refl, refl), refl))
    (merged_frames s tables i p g f hash (n + 1) sound offered apart within (subst (λ m. HasHash m hash) (sym found) refl) names.2
    (λ h other. (let a = own h in omega arith)) (λ h other. (let a = share h in let o = one_other h f other in omega arith))
    (let a = own f in let b = names.0 in let c = names.1 in omega arith) count_f (omega arith)
    (λ h other away j q is. (let page = other_kind (owns h) s.tables i p j q (Private g) (Shared f) offered.0 (one_other h g away) is in rw page is)))

-- with a page that was alone on its frame
paired_sound : (s : Space) (i p g f hash j q : ℕ) → IsSound s → IsOffered s i p g → IsOffered s j q f → FindsHint s hash f j q → f ≢ g → frame_bytes s f ≢ zero_page → IsSound (paired_with s i p g f hash j q)
unfolding remade IsPlain
paired_sound s i p g f hash j q sound offered also found apart bytes =
    let first : List (List Page) = put s.tables i p (Shared f) in
    let tables : List (List Page) = put first j q (Shared f) in
    let here = owned s j q f sound.frames also.0 in
    let differ : Private g ≢ Private f = λ e. apart (let k : f ≡ g = cc in k) in
    let there : page_at first j q ≡ Some (Private f) = other_value s.tables i p j q (Private g) (Shared f) (Private f) offered.0 differ also.0 in
    let own1 : (h : ℕ) → count (owns h) first + one_if h g ≡ count (owns h) s.tables + 0 = λ h. put_tally (owns h) s.tables i p (Private g) (Shared f) offered.0 in
    let own2 : (h : ℕ) → count (owns h) tables + one_if h f ≡ count (owns h) first + 0 = λ h. put_tally (owns h) first j q (Private f) (Shared f) there in
    let share1 : (h : ℕ) → count (shares h) first + 0 ≡ sharers s h + one_if h f = λ h. put_tally (shares h) s.tables i p (Private g) (Shared f) offered.0 in
    let share2 : (h : ℕ) → count (shares h) tables + 0 ≡ count (shares h) first + one_if h f = λ h. put_tally (shares h) first j q (Private f) (Shared f) there in
    let one = one_same f f refl in
    let zero_g = one_other f g (λ e. apart e) in
    let count_f : count (shares f) tables ≡ 2 = (let a = share1 f in let b = share2 f in let c = here.2 in omega arith) in
    let none_f : count (owns f) tables ≡ 0 = (let a = own1 f in let b = own2 f in let c = here.1 in omega arith) in
    let once = moved_once s i p g (Shared f) sound offered (λ h. (refl, refl), refl) in
    let moved : IsMoved s tables = record {
      many = length-set first j _ ∙ once.many;
      rows = λ a. row_length first j q (Shared f) a ∙ once.rows a;
      lies = λ h. (let e = put_tally (lies_in h) first j q (Private f) (Shared f) there in let z = once.lies h in omega arith);
      comes = λ h. (let e = put_tally (comes_from h) first j q (Private f) (Shared f) there in let z = once.comes h in omega arith);
      leaves = λ a b. at_same leaving first j q a b (Private f) (Shared f) there refl ∙ once.leaves a b;
      coming = λ h a b is. other_value first j q a b (Private f) (Shared f) (Coming h) there (λ e. (let bad : Private f ≡ Coming h = e in cc)) (once.coming h a b is);
      pinned = λ a b some. at_same resident first j q a b (Private f) (Shared f) there refl ∙ once.pinned a b some;
    } in
    is_sound_remade s tables (s.pool.free ++ g ∷ []) (slice_set (slice_set s.marks g Plain) f (Sharers hash 2)) sound moved
    (merged_frames s tables i p g f hash 2 sound offered apart here.0 (subst (λ m. HasHash m hash) (sym found) refl) bytes
    (λ h other. (let a = own1 h in let b = own2 h in let o = one_other h f other in omega arith))
    (λ h other. (let a = share1 h in let b = share2 h in let o = one_other h f other in omega arith))
    (let a = here.1 in let b = here.2 in omega arith) count_f (omega arith)
    (λ h other away a b is.
    (let page = other_kind (owns h) s.tables i p a b (Private g) (Shared f) offered.0 (one_other h g away) is in
    let is1 : at (owns h) (page_at first a b) ≡ 1 = rw page is in
    let page2 = other_kind (owns h) first j q a b (Private f) (Shared f) there (one_other h f other) is1 in rw page2 is1)))

pub alone_soundly : (hashes : List ℕ → ℕ) (s : Space) (i p hash : ℕ) (answer : Offer) (s2 : Space) → IsSound s → OffersAlone hashes s i p hash answer s2 → IsSound s2
alone_soundly hashes s i p hash Skipped s2 sound (is, why) = subst IsSound (sym is) sound
alone_soundly hashes s i p hash FalseMatch s2 sound (is, why) = subst IsSound (sym is) sound
alone_soundly hashes s i p hash Hinted s2 sound (g, offered, some, none, is) = subst IsSound (sym is) (hinted_sound s i p g hash sound offered none)
alone_soundly hashes s i p hash Stale s2 sound (g, f, j, q, offered, some, found, apart, other, changed, is) = subst IsSound (sym is) (stale_sound s i p g f j q hash sound offered found)
alone_soundly hashes s i p hash Zeroed s2 sound (g, offered, zeros, is) = subst IsSound (sym is) (untouched_soundly (gives_up s i p g Untouched) i p (zeroed_sound s i p g sound offered))
alone_soundly hashes s i p hash Merged s2 sound (g, f, offered, some, same, inl (n, found, is)) = subst IsSound (sym is) (joined_sound s i p g f hash n sound offered found)
alone_soundly hashes s i p hash Merged s2 sound (g, f, offered, some, same, inr (j, q, apart, hint, is)) =
    subst IsSound (sym is) (paired_sound s i p g f hash j q sound offered hint.1 hint.0 apart (λ z. some (same ∙ z)))
