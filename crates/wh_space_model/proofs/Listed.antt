-- An offer of a page on a shared frame that has no entry leaves everything sound, and so does every offer.
use Rattle.std.proofs.Common.{◌≡◌, ◌≢◌, ℕ, ◌+◌, ◌<◌, ◌≤◌, ◌++◌, inl, inr, cond, nat_lt, min, true, false, Bool, ◌⊎◌, List, [], ◌∷◌, Some, None, length, slice_get, slice_set, get_or, refl, sym, ap, ◌∙◌, subst, arith, length-set, rules}
use Rattle.wh_space_model.specs.{zero_page, tally, one_if, one_more, OffersSoundly, one_fewer, FindsHint, FindsNone, FindsShared, IsOffered, MayBeListed, OffersUnlisted, gone_from, joined_to, listed_under, listed_for, moved_to, Space, all_bytes, backing, frame_bytes, sharers, kept, OffersQuietly, fetches_into, FramesAreSound, IsSound, Names, holders, count, owns, page_at, put, shares}
use Rattle.wh_space_model.proofs.Tally.{one_same, one_other}
use Rattle.wh_space_model.specs.declared.states.Page.TheVariants.{Untouched, Private, Shared, Coming}
use Rattle.wh_space_model.specs.declared.states.Mark.{Mark}
use Rattle.wh_space_model.specs.declared.states.Mark.TheVariants.{Plain, Sharers, Unlisted}
use Rattle.wh_space_model.specs.declared.states.Offer.{Offer}
use Rattle.wh_space_model.specs.declared.states.Offer.TheVariants.{Skipped, Zeroed, Hinted, Stale, Merged, FalseMatch}
use Rattle.wh_space_model.proofs.Contents.{same_contents}
use Rattle.wh_space_model.proofs.Evicted.{StoodOn, freed_tally, hash_before, lt_cases, names_left, names_other, other_kind, parts, stood_other, stood_within, sum_kept}
use Rattle.wh_space_model.proofs.Forked.{joins_sound}
use Rattle.wh_space_model.proofs.Merging.{alone_soundly, joined_sound}
use Rattle.wh_space_model.proofs.Offered.{IsPlain, cleared, entry_frames, is_sound_remade, moved_page, remade, still_moved}
use Rattle.wh_space_model.proofs.Putting.{get_or_is, here_or, put_this, set_other, set_same, there_of}
use Rattle.wh_space_model.proofs.Quiet.{alone_quiet}
use Rattle.wh_space_model.proofs.Rooms.{get_there}
use Rattle.wh_space_model.proofs.Sent.{put_put}
use Rattle.wh_space_model.proofs.Steady.{untouched_soundly}
use Rattle.wh_space_model.proofs.Sums.{put_tally}

-- ---- the frame has its entry

counted : (s : Space) (f n : ℕ) → FramesAreSound s → slice_get s.marks f ≡ Some (Unlisted n) → (sharers s f ≡ n) × (1 ≤ n)
counted s f n sound is = let names : Names s f (Some (Unlisted n)) = subst (Names s f) is (sound.names f) in names

inside : (s : Space) (f : ℕ) (m : Mark) → FramesAreSound s → slice_get s.marks f ≡ Some m → f < length s.pool.frames
inside s f m sound is = let a = there_of s.marks f m is in let b = sound.marks in omega arith

pub listed_sound : (s : Space) (f hash n : ℕ) → IsSound s → slice_get s.marks f ≡ Some (Unlisted n) → frame_bytes s f ≢ zero_page → FindsNone s hash → IsSound (listed_under s f hash n)
unfolding remade
listed_sound s f hash n sound is some none =
    let c = counted s f n sound.frames is in
    is_sound_remade s s.tables s.pool.free (slice_set s.marks f (Sharers hash n)) sound (still_moved s sound)
    (entry_frames s s.marks f hash (Sharers hash n) sound (inside s f (Unlisted n) sound.frames is) refl sound.frames.names sound.frames.apart none (c.0, c.1, some) (λ x has. has))

-- where a hint goes first
pub listed_for_sound : (s : Space) (g f hash n j q : ℕ) → IsSound s → slice_get s.marks f ≡ Some (Unlisted n) → frame_bytes s f ≢ zero_page → FindsHint s hash g j q → IsSound (listed_for s g f hash n)
unfolding remade
listed_for_sound s g f hash n j q sound is some found =
    let c = counted s f n sound.frames is in
    let clear = cleared s g j q hash sound found in
    is_sound_remade s s.tables s.pool.free (slice_set (slice_set s.marks g Plain) f (Sharers hash n)) sound (still_moved s sound)
    (entry_frames s (slice_set s.marks g Plain) f hash (Sharers hash n) sound (inside s f (Unlisted n) sound.frames is) (length-set s.marks g Plain) clear.names clear.apart clear.none (c.0, c.1, some) (λ x has. has))

-- ---- the page leaves the frame

sum_gone : (s : Space) (i p f : ℕ) → FramesAreSound s → page_at s.tables i p ≡ Some (Shared f) → (g : ℕ) → g < length s.pool.frames → holders (gone_from s i p f Untouched) g + min 1 (sharers (gone_from s i p f Untouched) g) ≡ 1
unfolding StoodOn
sum_gone s i p f sound there g within =
    let free = freed_tally (nat_lt 1 (sharers s f)) g f s.pool.free in
    let own : count (owns g) (put s.tables i p Untouched) + owns g (Shared f) ≡ count (owns g) s.tables + 0 = put_tally (owns g) s.tables i p (Shared f) Untouched there in
    let share : count (shares g) (put s.tables i p Untouched) + shares g (Shared f) ≡ sharers s g + 0 = put_tally (shares g) s.tables i p (Shared f) Untouched there in
    let cases = parts s (Shared f) f g (inr refl) (λ e. absurd (let bad : Shared f ≡ Private f = e in cc)) in
    let one = sound.one g within in
    let sum = sum_kept (tally (one_if g) s.pool.free) (cond (nat_lt 1 (sharers s f)) 0 (one_if g f)) (count (owns g) s.tables) (count (owns g) (put s.tables i p Untouched))
    (sharers s g) (count (shares g) (put s.tables i p Untouched)) (owns g (Shared f)) (shares g (Shared f)) (tally (one_if g) (kept s.pins) + tally (fetches_into g) s.slots.uses) 0 true
    (omega arith) (omega arith) cases (omega arith) in
    omega arith

none_gone : (s : Space) (i p f : ℕ) → FramesAreSound s → page_at s.tables i p ≡ Some (Shared f) → (g : ℕ) → length s.pool.frames ≤ g → holders (gone_from s i p f Untouched) g + sharers (gone_from s i p f Untouched) g ≡ 0
unfolding StoodOn
none_gone s i p f sound there g past =
    let free = freed_tally (nat_lt 1 (sharers s f)) g f s.pool.free in
    let own : count (owns g) (put s.tables i p Untouched) + owns g (Shared f) ≡ count (owns g) s.tables + 0 = put_tally (owns g) s.tables i p (Shared f) Untouched there in
    let share : count (shares g) (put s.tables i p Untouched) + shares g (Shared f) ≡ sharers s g + 0 = put_tally (shares g) s.tables i p (Shared f) Untouched there in
    let known = stood_within s i p f (Shared f) sound there (inr refl) in
    let other = one_other g f (λ e. (let w = known.0 in omega arith)) in
    let zeros = sound.none g past in
    let most = go (nat_lt 1 (sharers s f)) in
    omega arith where
      go : (b : Bool) → cond b 0 (one_if g f) ≤ one_if g f
      go true = omega arith
      go false = omega arith

frames_gone : (s : Space) (i p f : ℕ) → FramesAreSound s → page_at s.tables i p ≡ Some (Shared f) → FramesAreSound (gone_from s i p f Untouched)
unfolding StoodOn
frames_gone s i p f sound there =
    let known = stood_within s i p f (Shared f) sound there (inr refl) in
    let within : f < length s.marks = (let w = known.0 in let m = sound.marks in omega arith) in
    let s2 : Space = gone_from s i p f Untouched in
    let b : Bool = nat_lt 1 (sharers s f) in
    let new : Mark = cond b (one_fewer (slice_get s.marks f)) Plain in
    let share : (g : ℕ) → sharers s2 g + shares g (Shared f) ≡ sharers s g + 0 = λ g. put_tally (shares g) s.tables i p (Shared f) Untouched there in
    let one = one_same f f refl in
    let left : ((b ≡ true) × (1 < sharers s f) × (sharers s2 f + 1 ≡ sharers s f)) ⊎ ((b ≡ false) × (sharers s2 f ≡ 0)) = search (rules, lt_cases) in
    record {
      one = sum_gone s i p f sound there;
      none = none_gone s i p f sound there;
      whole = sound.whole;
      marks = length-set s.marks f new ∙ sound.marks;
      names = λ g. elim (here_or f g) [
        | inl same ↦
            (let here : slice_get s2.marks g ≡ Some new = ap (slice_get s2.marks) same ∙ set_same s.marks f new within in
            let some = get_there s.marks f within in
            let case = names_left s s2 f (slice_get s.marks f) b refl (sound.names f) (λ e. (let bad : Some some.0 ≡ None = sym some.1 ∙ e in cc)) left in
            subst (Names s2 g) (sym here) (subst (λ q. Names s2 q (Some new)) (sym same) case))
        | inr other ↦
            (let there_too : slice_get s2.marks g ≡ slice_get s.marks g = set_other s.marks f g new (λ e. other e) in
            let zeros = stood_other (Shared f) f g (inr refl) (λ e. other e) in
            let e : sharers s2 g ≡ sharers s g = (let k2 = share g in let z = zeros.1 in omega arith) in
            subst (Names s2 g) (sym there_too) (names_other s s2 g (slice_get s.marks g) refl e
            (λ j q is. (let page = other_kind (owns g) s.tables i p j q (Shared f) Untouched there zeros.0 is in rw page is)) (sound.names g)))
      ];
      apart = λ g h hash has also. sound.apart g h hash (hash_before s.marks f g b hash within has) (hash_before s.marks f h b hash within also);
    }

pub gone_sound : (s : Space) (i p f n : ℕ) → IsSound s → MayBeListed s i p f n → IsSound (gone_from s i p f Untouched)
unfolding remade IsPlain
gone_sound s i p f n sound may =
    let b : Bool = nat_lt 1 (sharers s f) in
    is_sound_remade s (put s.tables i p Untouched) (cond b s.pool.free (s.pool.free ++ f ∷ [])) (slice_set s.marks f (cond b (one_fewer (slice_get s.marks f)) Plain)) sound
    (moved_page s i p (Shared f) Untouched sound may.0 may.2 (λ h. (refl, refl), refl) (λ h. (refl, refl), refl) (λ h e. (let bad : Shared f ≡ Coming h = e in cc)))
    (frames_gone s i p f sound.frames may.0)

-- two frames with other entries are others
apart_marks : (marks : List Mark) (f g hash n m : ℕ) → slice_get marks f ≡ Some (Unlisted n) → slice_get marks g ≡ Some (Sharers hash m) → g ≢ f
apart_marks marks f g hash n m is found e = (let both : Some (Sharers hash m) ≡ Some (Unlisted n) = sym found ∙ subst (λ z. slice_get marks z ≡ Some (Unlisted n)) (sym e) is in cc both)

pub moved_sound : (s : Space) (i p f n g hash m : ℕ) → IsSound s → MayBeListed s i p f n → FindsShared s hash g m → IsSound (moved_to s i p f g hash m)
unfolding remade
moved_sound s i p f n g hash m sound may found =
    let s1 : Space = gone_from s i p f Untouched in
    let gone = gone_sound s i p f n sound may in
    let other = apart_marks s.marks f g hash n m may.1 found in
    let mark : slice_get s1.marks g ≡ Some (Sharers hash m) = set_other s.marks f g _ other ∙ found in
    let names : Names s1 g (Some (Sharers hash m)) = subst (Names s1 g) mark (gone.frames.names g) in
    let some : 1 ≤ sharers s1 g = (let a = names.0 in let b = names.1 in omega arith) in
    let onto : page_at s1.tables i p ≡ Some Untouched = put_this s.tables i p (Shared f) Untouched may.0 in
    let joined = joins_sound s1 i p g gone some onto in
    let is : one_more (get_or s1.marks g Plain) ≡ Sharers hash (m + 1) = ap one_more (get_or_is s1.marks g (Sharers hash m) Plain mark) in
    subst (λ z. IsSound (record s1 { tables = z; marks = slice_set s1.marks g (Sharers hash (m + 1)) })) (put_put s.tables i p Untouched (Shared g))
    (subst (λ z. IsSound (record s1 { tables = put s1.tables i p (Shared g); marks = slice_set s1.marks g z })) is joined)

pub joined_here_sound : (s : Space) (i p f n g hash j q : ℕ) → IsSound s → MayBeListed s i p f n → frame_bytes s f ≢ zero_page → FindsHint s hash g j q → IsOffered s j q g → IsSound (joined_to (listed_for s g f hash n) j q g f hash n)
joined_here_sound s i p f n g hash j q sound may some found offered = search (rules, joined_sound, listed_for_sound, set_same, there_of, length-set)

-- ---- an offer

unlisted_soundly : (hashes : List ℕ → ℕ) (s : Space) (i p hash : ℕ) (answer : Offer) (s2 : Space) → IsSound s → OffersUnlisted hashes s i p hash answer s2 → IsSound s2
unlisted_soundly hashes s i p hash Skipped s2 sound (is, why) = subst IsSound (sym is) sound
unlisted_soundly hashes s i p hash FalseMatch s2 sound (is, why) = subst IsSound (sym is) sound
unlisted_soundly hashes s i p hash Hinted s2 sound (f, n, may, some, none, is) = subst IsSound (sym is) (listed_sound s f hash n sound may.1 some none)
unlisted_soundly hashes s i p hash Stale s2 sound (f, n, g, j, q, may, some, found, offered, changed, is) = subst IsSound (sym is) (listed_for_sound s g f hash n j q sound may.1 some found)
unlisted_soundly hashes s i p hash Zeroed s2 sound (f, n, may, zeros, is) = subst IsSound (sym is) (untouched_soundly (gone_from s i p f Untouched) i p (gone_sound s i p f n sound may))
unlisted_soundly hashes s i p hash Merged s2 sound (f, n, g, may, some, same, inl (m, found, is)) = subst IsSound (sym is) (moved_sound s i p f n g hash m sound may found)
unlisted_soundly hashes s i p hash Merged s2 sound (f, n, g, may, some, same, inr (j, q, hint, is)) = subst IsSound (sym is) (joined_here_sound s i p f n g hash j q sound may some hint.0 hint.1)

pub offers_soundly : OffersSoundly
offers_soundly hashes s i p hash answer s2 sound (inl o) = alone_soundly hashes s i p hash answer s2 sound o
offers_soundly hashes s i p hash answer s2 sound (inr o) = unlisted_soundly hashes s i p hash answer s2 sound o

unlisted_quiet : (hashes : List ℕ → ℕ) (s : Space) (i p hash : ℕ) (answer : Offer) (s2 : Space) → OffersUnlisted hashes s i p hash answer s2 → all_bytes s2 ≡ all_bytes s
unlisted_quiet hashes s i p hash Skipped s2 (is, why) = ap (λ a. all_bytes a) is
unlisted_quiet hashes s i p hash FalseMatch s2 (is, why) = ap (λ a. all_bytes a) is
unlisted_quiet hashes s i p hash Hinted s2 (f, n, may, some, none, is) = ap (λ a. all_bytes a) is
unlisted_quiet hashes s i p hash Stale s2 (f, n, g, j, q, may, some, found, offered, changed, is) = ap (λ a. all_bytes a) is
unlisted_quiet hashes s i p hash Zeroed s2 (f, n, may, zeros, is) = ap (λ a. all_bytes a) is ∙ same_contents (backing s) s.tables i p (Shared f) Untouched may.0 (sym zeros)
unlisted_quiet hashes s i p hash Merged s2 (f, n, g, may, some, same, inl (m, found, is)) = ap (λ a. all_bytes a) is ∙ same_contents (backing s) s.tables i p (Shared f) (Shared g) may.0 (sym same)
unlisted_quiet hashes s i p hash Merged s2 (f, n, g, may, some, same, inr (j, q, hint, is)) = ap (λ a. all_bytes a) is ∙ same_contents (backing s) s.tables j q (Private g) (Shared f) hint.1.0 same

-- an offer changes no bytes, whatever the hash
pub offers_quiet : OffersQuietly
offers_quiet hashes s i p hash answer s2 (inl o) = alone_quiet hashes s i p hash answer s2 o
offers_quiet hashes s i p hash answer s2 (inr o) = unlisted_quiet hashes s i p hash answer s2 o
