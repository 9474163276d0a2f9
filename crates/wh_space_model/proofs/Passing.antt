-- What each offer of a full pass leaves.
use Rattle.std.proofs.Common.{◌≡◌, ◌≢◌, ℕ, ◌+◌, ◌-◌, cond, nat_lt, true, Bool, ◌<◌, ◌≤◌, ◌++◌, inl, inr, false, List, [], ◌∷◌, Option, Some, None, length, slice_get, slice_set, get_or, suc, refl, sym, ap, ◌∙◌, subst, arith, length-set, rules}
use Rattle.std.proofs.lemmas.Bool.{cases_lt}
use Rattle.wh_space_model.specs.{zero_page, tally, one_if, is_ticket, tickets, frame_of, one_fewer, Slots, Space, all_bytes, backing, frame_bytes, kept, pinned_by, sharers, FindsShared, IsHinted, IsOffered, MayBeListed, OffersAlone, OffersUnlisted, gives_up, gone_from, hinted, joined_to, listed_under, listed_for, moved_to, paired_with, IsContent, IsHashOf, MadeUnder, FramesAreSound, IsSound, Names, SlotsAreSound, at, count, leaving, owns, page_at, page_bytes, put, resident, shares}
use Rattle.wh_space_model.proofs.Tally.{one_same, one_other, tally-append}
use Rattle.wh_space_model.specs.declared.states.Page.{Page}
use Rattle.wh_space_model.specs.declared.states.Page.TheVariants.{Untouched, Private, Shared, Leaving, LeavingShared, Coming, Swapped}
use Rattle.wh_space_model.specs.declared.states.Mark.{Mark}
use Rattle.wh_space_model.specs.declared.states.Mark.TheVariants.{Plain, Hint, Sharers, Unlisted}
use Rattle.wh_space_model.specs.declared.states.Offer.{Offer}
use Rattle.wh_space_model.specs.declared.states.Offer.TheVariants.{Skipped, Zeroed, Hinted, Stale, Merged, FalseMatch}
use Rattle.wh_space_model.specs.Offers.{Offers}
use Rattle.wh_space_model.proofs.Breaking.{elsewhere}
use Rattle.wh_space_model.proofs.Contents.{at_contents}
use Rattle.wh_space_model.proofs.Evicted.{other_value}
use Rattle.wh_space_model.proofs.Listed.{offers_soundly}
use Rattle.wh_space_model.proofs.Putting.{get_pages, here_or, put_this, set_other, set_same, there_of}
use Rattle.wh_space_model.proofs.Listed.{offers_quiet}
use Rattle.wh_space_model.proofs.Sums.{get_tally}
use Rattle.wh_space_model.proofs.Transit.{on_frame}

-- what stays so through a pass
pub record IsScanning (hashes : List ℕ → ℕ) (s : Space) : Type 0 where
  pub sound : IsSound s
  pub none_out : tickets s ≡ 0
  pub none_kept : kept s.pins ≡ []
  pub none_pinned : (i : ℕ) → pinned_by s.pins i ≡ []
  pub made_under : MadeUnder hashes s
  pub apart : (a b : List ℕ) → IsContent s a → IsContent s b → hashes a ≡ hashes b → a ≡ b

-- A page that was offered isn't alone on its frame any more, or its bytes aren't zero and the frame has a hint under their
-- hash. A frame that it shares has an entry.
pub record IsSettled (hashes : List ℕ → ℕ) (s : Space) (i p : ℕ) : Type 0 where
  pub entry : (g : ℕ) → page_at s.tables i p ≡ Some (Private g) → (j : ℕ) × (q : ℕ) × (slice_get s.marks g ≡ Some (Hint (hashes (frame_bytes s g)) j q))
  pub some : (g : ℕ) → page_at s.tables i p ≡ Some (Private g) → frame_bytes s g ≢ zero_page
  pub listed : (f n : ℕ) → page_at s.tables i p ≡ Some (Shared f) → slice_get s.marks f ≡ Some (Unlisted n) → ⊥

-- ---- pages while no ticket is out

pub none_leaves : (s : Space) (i p : ℕ) → SlotsAreSound s → tickets s ≡ 0 → at leaving (page_at s.tables i p) ≡ 1 → ⊥
none_leaves s i p sound none is = (let found = sound.leaving i p is in let k = get_tally is_ticket s.slots.uses found.0 _ found.1 in omega arith)

pub owner_is : (s : Space) (i p f : ℕ) → SlotsAreSound s → tickets s ≡ 0 → at (owns f) (page_at s.tables i p) ≡ 1 → page_at s.tables i p ≡ Some (Private f)
owner_is s i p f sound none is = search (rules, here_or, one_other, none_leaves)

-- a page that counts is there
row_has : (w : Page → ℕ) (xs : List Page) → 1 ≤ tally w xs → (p : ℕ) × (x : Page) × (slice_get xs p ≡ Some x) × (1 ≤ w x)
row_has w [] some = absurd (omega arith)
row_has w (x ∷ xs) some = elim (cases_lt 0 (w x)) [
  | inl one ↦ (0, x, refl, one)
  | inr none ↦ (let rest = row_has w xs (omega arith) in (suc rest.0, rest.1, rest.2, rest.3))
]

pub page_has : (w : Page → ℕ) (t : List (List Page)) → 1 ≤ count w t → (i : ℕ) × (p : ℕ) × (x : Page) × (page_at t i p ≡ Some x) × (1 ≤ w x)
page_has w [] some = absurd (omega arith)
page_has w (xs ∷ t) some = elim (cases_lt 0 (tally w xs)) [
  | inl one ↦ (let found = row_has w xs one in (0, found.0, found.1, found.2, found.3))
  | inr none ↦ (let rest = page_has w t (omega arith) in (suc rest.0, rest.1, rest.2, rest.3, rest.4))
]

shares_frame : (f : ℕ) (x : Page) → 1 ≤ shares f x → frame_of x ≡ Some f
shares_frame f Untouched some = absurd (omega arith)
shares_frame f (Private g) some = absurd (omega arith)
shares_frame f (Shared g) some = elim (here_or f g) [ inl same ↦ ap Some same | inr other ↦ absurd (let o = one_other f g (λ e. other (sym e)) in omega arith) ]
shares_frame f (Leaving g) some = absurd (omega arith)
shares_frame f (LeavingShared g) some = elim (here_or f g) [ inl same ↦ ap Some same | inr other ↦ absurd (let o = one_other f g (λ e. other (sym e)) in omega arith) ]
shares_frame f (Coming k) some = absurd (omega arith)
shares_frame f (Swapped k) some = absurd (omega arith)

pub shared_content : (s : Space) (f : ℕ) → 1 ≤ sharers s f → IsContent s (frame_bytes s f)
shared_content s f some = let found = page_has (shares f) s.tables some in (found.0, found.1, f, found.2, found.3, shares_frame f found.2 found.4, refl)

pub owned_content : (s : Space) (i p f : ℕ) → page_at s.tables i p ≡ Some (Private f) → IsContent s (frame_bytes s f)
owned_content s i p f there = (i, p, f, Private f, there, refl, refl)

-- ---- what is found under a hash

named_sharers : (s : Space) (f hash n : ℕ) → FramesAreSound s → slice_get s.marks f ≡ Some (Sharers hash n) → 1 ≤ sharers s f
named_sharers s f hash n sound is = let names : Names s f (Some (Sharers hash n)) = subst (Names s f) is (sound.names f) in (let a = names.0 in let b = names.1 in omega arith)

-- the page of a hint may be merged while nothing is pinned
hint_offered : (hashes : List ℕ → ℕ) (s : Space) (f hash j q : ℕ) → IsScanning hashes s → slice_get s.marks f ≡ Some (Hint hash j q) → IsOffered s j q f
hint_offered hashes s f hash j q scan is =
    let names : Names s f (Some (Hint hash j q)) = subst (Names s f) is (scan.sound.frames.names f) in
    (owner_is s j q f scan.sound.slots scan.none_out names.0, λ pinned. (let z = ap (tally (one_if q)) (scan.none_pinned j) in omega arith))

-- ---- a page alone on its frame

alone_frame : (s : Space) (i p g : ℕ) → FramesAreSound s → page_at s.tables i p ≡ Some (Private g) → (tally (one_if g) s.pool.free ≡ 0) × (sharers s g ≡ 0)
alone_frame s i p g sound there =
    let one = get_pages (owns g) s.tables i p (Private g) there in
    let o = one_same g g refl in
    elim (cases_lt g (length s.pool.frames)) [
      | inl within ↦ (let sum = sound.one g within in (omega arith, omega arith))
      | inr past ↦ absurd (let zeros = sound.none g past in omega arith)
    ]

-- a page that is alone on its frame still was so
put_private : (t : List (List Page)) (i p : ℕ) (x y : Page) (j q g : ℕ) → page_at t i p ≡ Some x → y ≢ Private g → page_at (put t i p y) j q ≡ Some (Private g) → page_at t j q ≡ Some (Private g)
put_private t i p x y j q g there other is = search (rules, elsewhere, put_this)

put_resident : (t : List (List Page)) (i p : ℕ) (x y : Page) (j q : ℕ) → page_at t i p ≡ Some x → resident x ≡ 1 → at resident (page_at (put t i p y) j q) ≡ 1 → at resident (page_at t j q) ≡ 1
put_resident t i p x y j q there one is = search (rules, elsewhere)

untouched_not : (g : ℕ) → Untouched ≢ Private g
untouched_not g e = cc e

shared_not : (f g : ℕ) → Shared f ≢ Private g
shared_not f g e = cc e

-- ---- contents of what comes after were there before

frame_there : (x : Page) → resident x ≡ 1 → (f : ℕ) × (frame_of x ≡ Some f)
frame_there Untouched e = absurd (let z : 0 ≡ 1 = e in omega arith)
frame_there (Private f) e = (f, refl)
frame_there (Shared f) e = (f, refl)
frame_there (Leaving f) e = (f, refl)
frame_there (LeavingShared f) e = (f, refl)
frame_there (Coming k) e = absurd (let z : 0 ≡ 1 = e in omega arith)
frame_there (Swapped k) e = absurd (let z : 0 ≡ 1 = e in omega arith)

on_resident : (x : Page) (f : ℕ) → frame_of x ≡ Some f → resident x ≡ 1
on_resident Untouched f e = absurd (cc e)
on_resident (Private g) f e = refl
on_resident (Shared g) f e = refl
on_resident (Leaving g) f e = refl
on_resident (LeavingShared g) f e = refl
on_resident (Coming k) f e = absurd (cc e)
on_resident (Swapped k) f e = absurd (cc e)

page_of : (o : Option Page) → at resident o ≡ 1 → (x : Page) × (o ≡ Some x) × (resident x ≡ 1)
page_of None e = absurd (let z : 0 ≡ 1 = e in omega arith)
page_of (Some x) e = (x, refl, e)

content_before : (s s2 : Space) → all_bytes s2 ≡ all_bytes s → ((i p : ℕ) → at resident (page_at s2.tables i p) ≡ 1 → at resident (page_at s.tables i p) ≡ 1) → (a : List ℕ) → IsContent s2 a → IsContent s a
content_before s s2 bytes less a (i, p, f, page, there, on, is) =
    let x = page_of (page_at s.tables i p) (less i p (ap (at resident) there ∙ on_resident page f on)) in
    let g = frame_there x.0 x.2 in
    let new : page_at (all_bytes s2) i p ≡ Some (page_bytes (backing s2) page) = at_contents (backing s2) s2.tables i p page there in
    let old : page_at (all_bytes s) i p ≡ Some (page_bytes (backing s) x.0) = at_contents (backing s) s.tables i p x.0 x.1 in
    let both : Some (page_bytes (backing s2) page) ≡ Some (page_bytes (backing s) x.0) = sym new ∙ (ap (λ (b : List (List (List ℕ))). page_at b i p) bytes ∙ old) in
    let same : page_bytes (backing s2) page ≡ page_bytes (backing s) x.0 = cc in
    (i, p, g.0, x.0, x.1, g.1, sym (on_frame (backing s) x.0 g.0 g.1) ∙ (sym same ∙ (on_frame (backing s2) page f on ∙ is)))

-- ---- entries

abbrev ScriptState : (List ℕ → ℕ) → List (List ℕ) → List Mark → Type 0
ScriptState hashes frames marks = (f hash n : ℕ) → slice_get marks f ≡ Some (Sharers hash n) → hashes (get_or frames f []) ≡ hash

made_with : (hashes : List ℕ → ℕ) (frames : List (List ℕ)) (marks : List Mark) (g : ℕ) (m : Mark) → ScriptState hashes frames marks → g < length marks → ((x n : ℕ) → m ≢ Sharers x n) → ScriptState hashes frames (slice_set marks g m)
made_with hashes frames marks g m made within never f x n is = search (rules, here_or, set_other, set_same)

made_shared : (hashes : List ℕ → ℕ) (frames : List (List ℕ)) (marks : List Mark) (g hash k : ℕ) → ScriptState hashes frames marks → g < length marks → hashes (get_or frames g []) ≡ hash → ScriptState hashes frames (slice_set marks g (Sharers hash k))
made_shared hashes frames marks g hash k made within own f x n is = search (rules, here_or, set_other, set_same)

plain_never : (x n : ℕ) → Plain ≢ Sharers x n
plain_never x n e = cc e

hint_never : (hash i p x n : ℕ) → Hint hash i p ≢ Sharers x n
hint_never hash i p x n e = cc e

-- ---- one offer

-- where a page shares a frame without an entry, it did so before
abbrev WasUnlisted : Space → Space → ℕ → ℕ → Type 0
WasUnlisted s s2 j q = (f n : ℕ) → page_at s2.tables j q ≡ Some (Shared f) → slice_get s2.marks f ≡ Some (Unlisted n) → (m : ℕ) × (page_at s.tables j q ≡ Some (Shared f)) × (slice_get s.marks f ≡ Some (Unlisted m))

-- a page that shared a frame
put_shared : (t : List (List Page)) (i p : ℕ) (x y : Page) (j q f : ℕ) → page_at t i p ≡ Some x → y ≢ Shared f → page_at (put t i p y) j q ≡ Some (Shared f) → page_at t j q ≡ Some (Shared f)
put_shared t i p x y j q f there other is = search (rules, elsewhere, put_this)

-- an entry that is none
pub unlisted_other : (marks : List Mark) (g f n : ℕ) (m : Mark) → g < length marks → m ≢ Unlisted n → slice_get (slice_set marks g m) f ≡ Some (Unlisted n) → slice_get marks f ≡ Some (Unlisted n)
unlisted_other marks g f n m within never is = search (rules, here_or, set_other, set_same)

pub plain_listed : (n : ℕ) → Plain ≢ Unlisted n
plain_listed n e = cc e

pub hint_listed : (hash i p n : ℕ) → Hint hash i p ≢ Unlisted n
hint_listed hash i p n e = cc e

pub shared_listed : (hash k n : ℕ) → Sharers hash k ≢ Unlisted n
shared_listed hash k n e = cc e

untouched_apart : (f : ℕ) → Untouched ≢ Shared f
untouched_apart f e = cc e

pub record IsStep (hashes : List ℕ → ℕ) (s : Space) (i p : ℕ) (s2 : Space) : Type 0 where
  pub scanning : IsScanning hashes s2
  pub now : IsSettled hashes s2 i p
  pub stays : (j q : ℕ) → IsSettled hashes s j q → IsSettled hashes s2 j q
  pub less : (j q : ℕ) → at resident (page_at s2.tables j q) ≡ 1 → at resident (page_at s.tables j q) ≡ 1

scanning_after : (hashes : List ℕ → ℕ) (s s2 : Space) → IsScanning hashes s → IsSound s2 → all_bytes s2 ≡ all_bytes s → ((j q : ℕ) → at resident (page_at s2.tables j q) ≡ 1 → at resident (page_at s.tables j q) ≡ 1)
    → s2.slots ≡ s.slots → s2.pins ≡ s.pins → MadeUnder hashes s2 → IsScanning hashes s2
scanning_after hashes s s2 scan sound bytes less slots pins made = record {
  sound = sound;
  none_out = ap (λ (u : Slots). tally is_ticket u.uses) slots ∙ scan.none_out;
  none_kept = ap kept pins ∙ scan.none_kept;
  none_pinned = λ i. ap (λ o. pinned_by o i) pins ∙ scan.none_pinned i;
  made_under = made;
  apart = λ a b x y. scan.apart a b (content_before s s2 bytes less a x) (content_before s s2 bytes less b y);
}

still_settled : (hashes : List ℕ → ℕ) (s s2 : Space) (j q : ℕ) → s2.pool.frames ≡ s.pool.frames → ((g : ℕ) → page_at s2.tables j q ≡ Some (Private g) → page_at s.tables j q ≡ Some (Private g))
    → ((g : ℕ) → page_at s2.tables j q ≡ Some (Private g) → page_at s.tables j q ≡ Some (Private g) → (a b : ℕ) → slice_get s.marks g ≡ Some (Hint (hashes (frame_bytes s g)) a b) → (c : ℕ) × (d : ℕ) × (slice_get s2.marks g ≡ Some (Hint (hashes (frame_bytes s g)) c d)))
    → WasUnlisted s s2 j q → IsSettled hashes s j q → IsSettled hashes s2 j q
still_settled hashes s s2 j q frames before marks was_unlisted old = search rules

one_private : (o : Option Page) (f g : ℕ) → o ≡ Some (Private f) → o ≡ Some (Private g) → g ≡ f
one_private o f g a b = (let both : Some (Private f) ≡ Some (Private g) = sym a ∙ b in cc)

-- a frame that was given up isn't a page's
not_given : (s2 : Space) (j q g h : ℕ) (xs : List ℕ) → FramesAreSound s2 → page_at s2.tables j q ≡ Some (Private h) → s2.pool.free ≡ xs ++ g ∷ [] → h ≢ g
not_given s2 j q g h xs sound there free e =
    (let a = alone_frame s2 j q h sound there in let t : tally (one_if h) s2.pool.free ≡ tally (one_if h) xs + (one_if h g + 0) = ap (tally (one_if h)) free ∙ tally-append (one_if h) xs (g ∷ []) in let o = one_same h g e in let z = a.0 in omega arith)

-- and one with counted sharers isn't either
not_counted : (s2 : Space) (j q f h hash n : ℕ) → FramesAreSound s2 → page_at s2.tables j q ≡ Some (Private h) → slice_get s2.marks f ≡ Some (Sharers hash n) → h ≢ f
not_counted s2 j q f h hash n sound there is e =
    (let a = (alone_frame s2 j q h sound there).1 in let b = named_sharers s2 f hash n sound is in let z : sharers s2 h ≡ sharers s2 f = ap (sharers s2) e in omega arith)

zeroed_step : (hashes : List ℕ → ℕ) (s : Space) (i p hash g : ℕ) (s2 : Space) → IsScanning hashes s → IsOffered s i p g → frame_bytes s g ≡ zero_page
    → s2 ≡ (let s1 : Space = gives_up s i p g Untouched in record s1 { touched = put s1.touched i p false }) → IsStep hashes s i p s2
zeroed_step hashes s i p hash g s2 scan offered zeros is =
    let s3 : Space = (let s1 : Space = gives_up s i p g Untouched in record s1 { touched = put s1.touched i p false }) in
    let offer : Offers hashes s i p hash Zeroed s3 = inl (g, offered, zeros, refl) in
    let sound = offers_soundly hashes s i p hash Zeroed s3 scan.sound offer in
    let less : (j q : ℕ) → at resident (page_at s3.tables j q) ≡ 1 → at resident (page_at s.tables j q) ≡ 1 = λ j q r. put_resident s.tables i p (Private g) Untouched j q offered.0 refl r in
    let within : g < length s.marks = (let k = get_pages (owns g) s.tables i p (Private g) offered.0 in let o = one_same g g refl in let l = scan.sound.frames.marks in elim (cases_lt g (length s.pool.frames)) [ inl w ↦ omega arith | inr past ↦ absurd (let z = scan.sound.frames.none g past in omega arith) ]) in
    let now : page_at s3.tables i p ≡ Some Untouched = put_this s.tables i p (Private g) Untouched offered.0 in
    subst (IsStep hashes s i p) (sym is) (record {
      scanning = scanning_after hashes s s3 scan sound (offers_quiet hashes s i p hash Zeroed s3 offer) less refl refl (made_with hashes s.pool.frames s.marks g Plain scan.made_under within plain_never);
      now = record { entry = λ h there. absurd (let both : Some Untouched ≡ Some (Private h) = sym now ∙ there in cc both); some = λ h there. absurd (let both : Some Untouched ≡ Some (Private h) = sym now ∙ there in cc both); listed = λ f n there mark. (let both : Some Untouched ≡ Some (Shared f) = sym now ∙ there in cc both) };
      stays = λ j q old. still_settled hashes s s3 j q refl (λ h there. put_private s.tables i p (Private g) Untouched j q h offered.0 (untouched_not h) there)
          (λ h there was a b mark. (a, b, set_other s.marks g h Plain (not_given s3 j q g h s.pool.free sound.frames there refl) ∙ mark))
          (λ f n there mark. (n, put_shared s.tables i p (Private g) Untouched j q f offered.0 (untouched_apart f) there, unlisted_other s.marks g f n Plain within (plain_listed n) mark)) old;
      less = less;
    })

-- the page is the hint now, other entries being these
hint_step : (hashes : List ℕ → ℕ) (s : Space) (i p hash g : ℕ) (answer : Offer) (marks : List Mark) → IsScanning hashes s → IsHashOf hashes s i p hash → IsOffered s i p g → frame_bytes s g ≢ zero_page
    → Offers hashes s i p hash answer (hinted (record s { marks = marks }) i p g hash) → length marks ≡ length s.marks → ScriptState hashes s.pool.frames marks
    → ((h a b : ℕ) → h ≢ g → slice_get s.marks h ≡ Some (Hint (hashes (frame_bytes s h)) a b) → slice_get marks h ≡ Some (Hint (hashes (frame_bytes s h)) a b)) → ((f n : ℕ) → slice_get marks f ≡ Some (Unlisted n) → slice_get s.marks f ≡ Some (Unlisted n)) → IsStep hashes s i p (hinted (record s { marks = marks }) i p g hash)
hint_step hashes s i p hash g answer marks scan its offered some offer long made others unlisted =
    let s3 : Space = hinted (record s { marks = marks }) i p g hash in
    let sound = offers_soundly hashes s i p hash answer s3 scan.sound offer in
    let within : g < length marks = (let k = get_pages (owns g) s.tables i p (Private g) offered.0 in let o = one_same g g refl in let l = scan.sound.frames.marks in elim (cases_lt g (length s.pool.frames)) [ inl w ↦ omega arith | inr past ↦ absurd (let z = scan.sound.frames.none g past in omega arith) ]) in
    let own : hashes (frame_bytes s g) ≡ hash = its.0 g offered.0 in
    let mine : slice_get s3.marks g ≡ Some (Hint (hashes (frame_bytes s g)) i p) = set_same marks g (Hint hash i p) within ∙ ap (λ z. Some (Hint z i p)) (sym own) in
    record {
      scanning = scanning_after hashes s s3 scan sound (offers_quiet hashes s i p hash answer s3 offer) (λ j q r. r) refl refl (made_with hashes s.pool.frames marks g (Hint hash i p) made within (hint_never hash i p));
      now = record {
        entry = λ h there. (let e = one_private (page_at s.tables i p) g h offered.0 there in (i, p, subst (λ z. slice_get s3.marks z ≡ Some (Hint (hashes (frame_bytes s z)) i p)) (sym e) mine));
        some = λ h there z. some (let e = one_private (page_at s.tables i p) g h offered.0 there in ap (frame_bytes s) (sym e) ∙ z);
        listed = λ f n there mark. (let both : Some (Private g) ≡ Some (Shared f) = sym offered.0 ∙ there in cc both);
      };
      stays = λ j q old. still_settled hashes s s3 j q refl (λ h there. there)
          (λ h there was a b mark. elim (here_or g h) [
            | inl same ↦ (i, p, subst (λ z. slice_get s3.marks z ≡ Some (Hint (hashes (frame_bytes s z)) i p)) (sym same) mine)
            | inr other ↦ (a, b, set_other marks g h (Hint hash i p) (λ e. other e) ∙ others h a b (λ e. other e) mark)
          ])
          (λ f n there mark. (n, there, unlisted f n (unlisted_other marks g f n (Hint hash i p) within (hint_listed hash i p n) mark))) old;
      less = λ j q r. r;
    }

-- the page shares frame f now, which has n sharers
merge_step : (hashes : List ℕ → ℕ) (s : Space) (i p hash g f n : ℕ) (s2 : Space) → IsScanning hashes s → IsOffered s i p g → Offers hashes s i p hash Merged s2 → hashes (frame_bytes s f) ≡ hash → f < length s.marks
    → s2.pool.frames ≡ s.pool.frames → s2.pool.free ≡ s.pool.free ++ g ∷ [] → s2.marks ≡ slice_set (slice_set s.marks g Plain) f (Sharers hash n) → s2.slots ≡ s.slots → s2.pins ≡ s.pins
    → ((j q h : ℕ) → page_at s2.tables j q ≡ Some (Private h) → page_at s.tables j q ≡ Some (Private h)) → ((h : ℕ) → page_at s2.tables i p ≢ Some (Private h))
    → ((j q h : ℕ) → h ≢ f → page_at s2.tables j q ≡ Some (Shared h) → page_at s.tables j q ≡ Some (Shared h))
    → ((j q : ℕ) → at resident (page_at s2.tables j q) ≡ 1 → at resident (page_at s.tables j q) ≡ 1) → page_at s2.tables i p ≡ Some (Shared f) → IsStep hashes s i p s2
merge_step hashes s i p hash g f n s2 scan offered offer own there_f frames free marks slots pins private gone shared less here =
    let sound = offers_soundly hashes s i p hash Merged s2 scan.sound offer in
    let within : g < length s.marks = (let k = get_pages (owns g) s.tables i p (Private g) offered.0 in let o = one_same g g refl in let l = scan.sound.frames.marks in elim (cases_lt g (length s.pool.frames)) [ inl w ↦ omega arith | inr past ↦ absurd (let z = scan.sound.frames.none g past in omega arith) ]) in
    let long = length-set s.marks g Plain in
    let within_f : f < length (slice_set s.marks g Plain) = omega arith in
    let counted : slice_get s2.marks f ≡ Some (Sharers hash n) = ap (λ m. slice_get m f) marks ∙ set_same (slice_set s.marks g Plain) f (Sharers hash n) within_f in
    let made : ScriptState hashes s.pool.frames (slice_set (slice_set s.marks g Plain) f (Sharers hash n)) = made_shared hashes s.pool.frames (slice_set s.marks g Plain) f hash n (made_with hashes s.pool.frames s.marks g Plain scan.made_under within plain_never) within_f own in
    record {
      scanning = scanning_after hashes s s2 scan sound (offers_quiet hashes s i p hash Merged s2 offer) less slots pins (λ h x m is. ap (λ z. hashes (get_or z h [])) frames ∙ made h x m (ap (λ z. slice_get z h) (sym marks) ∙ is));
      now = search rules;
      stays = λ j q old. still_settled hashes s s2 j q frames (λ h there. private j q h there)
          (λ h there was a b mark.
          (let away : h ≢ g = not_given s2 j q g h s.pool.free sound.frames there free in
          let off : h ≢ f = not_counted s2 j q f h hash n sound.frames there counted in
          (a, b, ap (λ z. slice_get z h) marks ∙ (set_other (slice_set s.marks g Plain) f h (Sharers hash n) off ∙ (set_other s.marks g h Plain away ∙ mark)))))
          (λ h k there mark.
          (let was : slice_get (slice_set (slice_set s.marks g Plain) f (Sharers hash n)) h ≡ Some (Unlisted k) = ap (λ z. slice_get z h) (sym marks) ∙ mark in
          let off : h ≢ f = λ e. (let both : Some (Sharers hash n) ≡ Some (Unlisted k) = sym counted ∙ subst (λ z. slice_get s2.marks z ≡ Some (Unlisted k)) e mark in cc both) in
          (k, shared j q h off there, unlisted_other s.marks g h k Plain within (plain_listed k) (unlisted_other (slice_set s.marks g Plain) f h k (Sharers hash n) within_f (shared_listed hash n k) was)))) old;
      less = less;
    }

same_step : (hashes : List ℕ → ℕ) (s : Space) (i p : ℕ) → IsScanning hashes s → IsSettled hashes s i p → IsStep hashes s i p s
same_step hashes s i p scan settled = record { scanning = scan; now = settled; stays = λ j q old. old; less = λ j q r. r }

-- a page that shares the frame still does when another one comes
other_shared : (t : List (List Page)) (j q i p g f : ℕ) → page_at t j q ≡ Some (Private g) → page_at t i p ≡ Some (Shared f) → page_at (put t j q (Shared f)) i p ≡ Some (Shared f)
other_shared t j q i p g f there is = other_value t j q i p (Private g) (Shared f) (Shared f) there (λ e. (let bad : Private g ≡ Shared f = e in cc)) is

alone_step : (hashes : List ℕ → ℕ) (s : Space) (i p hash : ℕ) (answer : Offer) (s2 : Space) → IsScanning hashes s → IsHashOf hashes s i p hash → OffersAlone hashes s i p hash answer s2 → IsStep hashes s i p s2
alone_step hashes s i p hash Skipped s2 scan its (is, inl may) =
    let free : (g : ℕ) → page_at s.tables i p ≡ Some (Private g) → ⊥ = λ g there. may.0 g (there, λ pinned. (let z = ap (tally (one_if p)) (scan.none_pinned i) in omega arith)) in
    subst (IsStep hashes s i p) (sym is) (same_step hashes s i p scan (record { entry = λ g there. absurd (free g there); some = λ g there. absurd (free g there); listed = λ f n there mark. may.1 f n (there, mark, λ pinned. (let z = ap (tally (one_if p)) (scan.none_pinned i) in omega arith)) }))
alone_step hashes s i p hash Skipped s2 scan its (is, inr (g, f, j, q, offered, some, found, inl same)) =
    let own : hashes (frame_bytes s g) ≡ hash = its.0 g offered.0 in
    let mine : slice_get s.marks g ≡ Some (Hint (hashes (frame_bytes s g)) j q) = subst (λ z. slice_get s.marks z ≡ Some (Hint hash j q)) same found ∙ ap (λ z. Some (Hint z j q)) (sym own) in
    subst (IsStep hashes s i p) (sym is) (same_step hashes s i p scan (record {
      entry = λ h there. (let e = one_private (page_at s.tables i p) g h offered.0 there in (j, q, subst (λ z. slice_get s.marks z ≡ Some (Hint (hashes (frame_bytes s z)) j q)) (sym e) mine));
      some = λ h there z. some (let e = one_private (page_at s.tables i p) g h offered.0 there in ap (frame_bytes s) (sym e) ∙ z);
      listed = λ f n there mark. (let both : Some (Private g) ≡ Some (Shared f) = sym offered.0 ∙ there in cc both);
    }))
alone_step hashes s i p hash Skipped s2 scan its (is, inr (g, f, j, q, offered, some, found, inr (apart, not))) = absurd (not (hint_offered hashes s f hash j q scan found))
alone_step hashes s i p hash FalseMatch s2 scan its (is, (g, f, offered, some, differ, inl (n, found))) =
    absurd (differ (scan.apart (frame_bytes s g) (frame_bytes s f) (owned_content s i p g offered.0) (shared_content s f (named_sharers s f hash n scan.sound.frames found)) (its.0 g offered.0 ∙ sym (scan.made_under f hash n found))))
alone_step hashes s i p hash FalseMatch s2 scan its (is, (g, f, offered, some, differ, inr (j, q, apart, hint))) = search rules
alone_step hashes s i p hash Zeroed s2 scan its (g, offered, zeros, is) = zeroed_step hashes s i p hash g s2 scan offered zeros is
alone_step hashes s i p hash Hinted s2 scan its (g, offered, some, none, is) =
    subst (IsStep hashes s i p) (sym is) (hint_step hashes s i p hash g Hinted s.marks scan its offered some (inl (g, offered, some, none, refl)) refl scan.made_under (λ h a b other mark. mark) (λ f n mark. mark))
alone_step hashes s i p hash Stale s2 scan its (g, f, j, q, offered, some, found, apart, offered2, changed, is) =
    subst (IsStep hashes s i p) (sym is) (hint_step hashes s i p hash g Stale (slice_set s.marks f Plain) scan its offered some (inl (g, f, j, q, offered, some, found, apart, offered2, changed, refl)) (length-set s.marks f Plain)
    (made_with hashes s.pool.frames s.marks f Plain scan.made_under (there_of s.marks f (Hint hash j q) found) plain_never)
    (λ h a b other mark. elim (here_or f h) [
      | inr away ↦ set_other s.marks f h Plain (λ e. away e) ∙ mark
      | inl same ↦ search rules
    ])
    (λ h n mark. unlisted_other s.marks f h n Plain (there_of s.marks f (Hint hash j q) found) (plain_listed n) mark))
alone_step hashes s i p hash Merged s2 scan its (g, f, offered, some, same, inl (n, found, is)) =
    let s3 : Space = joined_to s i p g f hash n in
    subst (IsStep hashes s i p) (sym is) (merge_step hashes s i p hash g f (n + 1) s3 scan offered (inl (g, f, offered, some, same, inl (n, found, refl))) (scan.made_under f hash n found) (there_of s.marks f (Sharers hash n) found) refl refl refl refl refl
    (λ j q h there. put_private s.tables i p (Private g) (Shared f) j q h offered.0 (shared_not f h) there)
    (λ h there. (let now = put_this s.tables i p (Private g) (Shared f) offered.0 in let both : Some (Shared f) ≡ Some (Private h) = sym now ∙ there in shared_not f h (cc both)))
    (λ j q h off there. put_shared s.tables i p (Private g) (Shared f) j q h offered.0 (λ e. off (let k : f ≡ h = cc in sym k)) there)
    (λ j q r. put_resident s.tables i p (Private g) (Shared f) j q offered.0 refl r) (put_this s.tables i p (Private g) (Shared f) offered.0))
alone_step hashes s i p hash Merged s2 scan its (g, f, offered, some, same, inr (j, q, apart, hint, is)) =
    let s3 : Space = paired_with s i p g f hash j q in
    let first : List (List Page) = put s.tables i p (Shared f) in
    let there : page_at first j q ≡ Some (Private f) = other_value s.tables i p j q (Private g) (Shared f) (Private f) offered.0 (λ e. apart (let k : f ≡ g = cc in k)) hint.1.0 in
    subst (IsStep hashes s i p) (sym is) (merge_step hashes s i p hash g f (1 + 1) s3 scan offered (inl (g, f, offered, some, same, inr (j, q, apart, hint, refl))) hint.2 (there_of s.marks f (Hint hash j q) hint.0) refl refl refl refl refl
    (λ a b h at_it. put_private s.tables i p (Private g) (Shared f) a b h offered.0 (shared_not f h) (put_private first j q (Private f) (Shared f) a b h there (shared_not f h) at_it))
    (λ h at_it.
    (let now = put_this s.tables i p (Private g) (Shared f) offered.0 in
    let was : page_at first i p ≡ Some (Private h) = put_private first j q (Private f) (Shared f) i p h there (shared_not f h) at_it in
    let both : Some (Shared f) ≡ Some (Private h) = sym now ∙ was in shared_not f h (cc both)))
    (λ a b h off at_it. put_shared s.tables i p (Private g) (Shared f) a b h offered.0 (λ e. off (let k : f ≡ h = cc in sym k)) (put_shared first j q (Private f) (Shared f) a b h there (λ e. off (let k : f ≡ h = cc in sym k)) at_it))
    (λ a b r. put_resident s.tables i p (Private g) (Shared f) a b offered.0 refl (put_resident first j q (Private f) (Shared f) a b there refl r))
    (other_shared first j q i p f f there (put_this s.tables i p (Private g) (Shared f) offered.0)))

-- ---- a page on a frame that is shared and has no entry

-- what such an offer leaves
changed_step : (hashes : List ℕ → ℕ) (s : Space) (i p hash : ℕ) (answer : Offer) (s2 : Space) → IsScanning hashes s → Offers hashes s i p hash answer s2
    → s2.pool.frames ≡ s.pool.frames → s2.slots ≡ s.slots → s2.pins ≡ s.pins → ScriptState hashes s.pool.frames s2.marks
    → ((j q : ℕ) → at resident (page_at s2.tables j q) ≡ 1 → at resident (page_at s.tables j q) ≡ 1)
    → ((j q g : ℕ) → page_at s2.tables j q ≡ Some (Private g) → page_at s.tables j q ≡ Some (Private g))
    → ((j q g : ℕ) → page_at s2.tables j q ≡ Some (Private g) → (a b : ℕ) → slice_get s.marks g ≡ Some (Hint (hashes (frame_bytes s g)) a b) → slice_get s2.marks g ≡ Some (Hint (hashes (frame_bytes s g)) a b))
    → ((j q : ℕ) → WasUnlisted s s2 j q) → ((g : ℕ) → page_at s2.tables i p ≢ Some (Private g)) → ((f n : ℕ) → page_at s2.tables i p ≡ Some (Shared f) → slice_get s2.marks f ≡ Some (Unlisted n) → ⊥) → IsStep hashes s i p s2
changed_step hashes s i p hash answer s2 scan offer frames slots pins made less private marks unlisted own listed = record {
  scanning = scanning_after hashes s s2 scan (offers_soundly hashes s i p hash answer s2 scan.sound offer) (offers_quiet hashes s i p hash answer s2 offer) less slots pins
      (λ h x n is. ap (λ z. hashes (get_or z h [])) frames ∙ made h x n is);
  now = record { entry = λ g there. absurd (own g there); some = λ g there. absurd (own g there); listed = listed };
  stays = λ j q old. still_settled hashes s s2 j q frames (λ g there. private j q g there) (λ g there was a b mark. (a, b, marks j q g there a b mark)) (unlisted j q) old;
  less = less;
}

shared_private : (s : Space) (i p f : ℕ) → page_at s.tables i p ≡ Some (Shared f) → (g : ℕ) → page_at s.tables i p ≢ Some (Private g)
shared_private s i p f there g own = (let both : Some (Shared f) ≡ Some (Private g) = sym there ∙ own in cc both)

one_shared : (o : Option Page) (f g : ℕ) → o ≡ Some (Shared f) → o ≡ Some (Shared g) → g ≡ f
one_shared o f g a b = (let both : Some (Shared f) ≡ Some (Shared g) = sym a ∙ b in cc)

-- a frame that is shared isn't a page's own
not_own : (s : Space) (i p f j q g : ℕ) → FramesAreSound s → page_at s.tables i p ≡ Some (Shared f) → page_at s.tables j q ≡ Some (Private g) → g ≢ f
not_own s i p f j q g sound there own e =
    (let a = (alone_frame s j q g sound own).1 in let b = get_pages (shares f) s.tables i p (Shared f) there in let o = one_same f f refl in let z : sharers s g ≡ sharers s f = ap (sharers s) e in omega arith)

-- the frame has its entry, other entries being these
listed_step : (hashes : List ℕ → ℕ) (s : Space) (i p hash f n : ℕ) (answer : Offer) (marks : List Mark) → IsScanning hashes s → IsHashOf hashes s i p hash → MayBeListed s i p f n
    → Offers hashes s i p hash answer (listed_under (record s { marks = marks }) f hash n) → length marks ≡ length s.marks → ScriptState hashes s.pool.frames marks
    → ((h a b : ℕ) → slice_get s.marks h ≡ Some (Hint (hashes (frame_bytes s h)) a b) → slice_get marks h ≡ Some (Hint (hashes (frame_bytes s h)) a b)) → ((h k : ℕ) → slice_get marks h ≡ Some (Unlisted k) → slice_get s.marks h ≡ Some (Unlisted k))
    → IsStep hashes s i p (listed_under (record s { marks = marks }) f hash n)
listed_step hashes s i p hash f n answer marks scan its may offer long made hints unlisted =
    let s2 : Space = listed_under (record s { marks = marks }) f hash n in
    let within : f < length marks = (let a = there_of s.marks f (Unlisted n) may.1 in omega arith) in
    let own : hashes (frame_bytes s f) ≡ hash = its.1 f may.0 (n, may.1) in
    let counted : slice_get s2.marks f ≡ Some (Sharers hash n) = set_same marks f (Sharers hash n) within in
    changed_step hashes s i p hash answer s2 scan offer refl refl refl (made_shared hashes s.pool.frames marks f hash n made within own) (λ j q r. r) (λ j q g there. there)
    (λ j q g there a b mark. set_other marks f g (Sharers hash n) (not_own s i p f j q g scan.sound.frames may.0 there) ∙ hints g a b mark)
    (λ j q h k there mark. (k, there, unlisted h k (unlisted_other marks f h k (Sharers hash n) within (shared_listed hash n k) mark)))
    (shared_private s i p f may.0)
    (λ h k there mark. (let same = one_shared (page_at s.tables i p) f h may.0 there in let both : Some (Sharers hash n) ≡ Some (Unlisted k) = sym counted ∙ subst (λ z. slice_get s2.marks z ≡ Some (Unlisted k)) same mark in cc both))

-- the entry of a frame that a page left counts its sharers, or is none
left_never : (n : ℕ) (b : Bool) (o : Option Mark) (x k : ℕ) → o ≡ Some (Unlisted n) → cond b (one_fewer o) Plain ≢ Sharers x k
left_never n true o x k is e = (let now : one_fewer o ≡ Unlisted (n - 1) = ap one_fewer is in let both : Unlisted (n - 1) ≡ Sharers x k = sym now ∙ e in cc both)
left_never n false o x k is e = cc e

zero_step : (hashes : List ℕ → ℕ) (s : Space) (i p hash f n : ℕ) (s2 : Space) → IsScanning hashes s → MayBeListed s i p f n → frame_bytes s f ≡ zero_page
    → s2 ≡ (let s1 : Space = gone_from s i p f Untouched in record s1 { touched = put s1.touched i p false }) → IsStep hashes s i p s2
zero_step hashes s i p hash f n s2 scan may zeros is =
    let s3 : Space = (let s1 : Space = gone_from s i p f Untouched in record s1 { touched = put s1.touched i p false }) in
    let new : Mark = cond (nat_lt 1 (sharers s f)) (one_fewer (slice_get s.marks f)) Plain in
    let within = there_of s.marks f (Unlisted n) may.1 in
    let now : page_at s3.tables i p ≡ Some Untouched = put_this s.tables i p (Shared f) Untouched may.0 in
    let private : (j q g : ℕ) → page_at s3.tables j q ≡ Some (Private g) → page_at s.tables j q ≡ Some (Private g) = λ j q g there. put_private s.tables i p (Shared f) Untouched j q g may.0 (untouched_not g) there in
    subst (IsStep hashes s i p) (sym is)
    (changed_step hashes s i p hash Zeroed s3 scan (inr (f, n, may, zeros, refl)) refl refl refl
    (made_with hashes s.pool.frames s.marks f new scan.made_under within (λ x k. left_never n (nat_lt 1 (sharers s f)) (slice_get s.marks f) x k may.1))
    (λ j q r. put_resident s.tables i p (Shared f) Untouched j q may.0 refl r) private
    (λ j q g there a b mark. set_other s.marks f g new (not_own s i p f j q g scan.sound.frames may.0 (private j q g there)) ∙ mark)
    (λ j q h k there mark.
    (let was = put_shared s.tables i p (Shared f) Untouched j q h may.0 (untouched_apart h) there in
    elim (here_or f h) [
      | inl same ↦ (n, was, subst (λ z. slice_get s.marks z ≡ Some (Unlisted n)) (sym same) may.1)
      | inr other ↦ (k, was, sym (set_other s.marks f h new (λ e. other e)) ∙ mark)
    ]))
    (λ g there. (let both : Some Untouched ≡ Some (Private g) = sym now ∙ there in cc both))
    (λ h k there mark. (let both : Some Untouched ≡ Some (Shared h) = sym now ∙ there in cc both)))

move_step : (hashes : List ℕ → ℕ) (s : Space) (i p hash f n g m : ℕ) (s2 : Space) → IsScanning hashes s → MayBeListed s i p f n → frame_bytes s f ≢ zero_page → frame_bytes s f ≡ frame_bytes s g
    → FindsShared s hash g m → s2 ≡ moved_to s i p f g hash m → IsStep hashes s i p s2
move_step hashes s i p hash f n g m s2 scan may some alike found is =
    let s3 : Space = moved_to s i p f g hash m in
    let new : Mark = cond (nat_lt 1 (sharers s f)) (one_fewer (slice_get s.marks f)) Plain in
    let left : List Mark = slice_set s.marks f new in
    let within = there_of s.marks f (Unlisted n) may.1 in
    let apart : g ≢ f = λ e. (let both : Some (Sharers hash m) ≡ Some (Unlisted n) = sym found ∙ subst (λ z. slice_get s.marks z ≡ Some (Unlisted n)) (sym e) may.1 in cc both) in
    let within_g : g < length left = (let a = there_of s.marks g (Sharers hash m) found in let l = length-set s.marks f new in omega arith) in
    let counted : slice_get s3.marks g ≡ Some (Sharers hash (m + 1)) = set_same left g (Sharers hash (m + 1)) within_g in
    let now : page_at s3.tables i p ≡ Some (Shared g) = put_this s.tables i p (Shared f) (Shared g) may.0 in
    let private : (j q h : ℕ) → page_at s3.tables j q ≡ Some (Private h) → page_at s.tables j q ≡ Some (Private h) = λ j q h there. put_private s.tables i p (Shared f) (Shared g) j q h may.0 (shared_not g h) there in
    subst (IsStep hashes s i p) (sym is)
    (changed_step hashes s i p hash Merged s3 scan (inr (f, n, g, may, some, alike, inl (m, found, refl))) refl refl refl
    (made_shared hashes s.pool.frames left g hash (m + 1) (made_with hashes s.pool.frames s.marks f new scan.made_under within (λ x k. left_never n (nat_lt 1 (sharers s f)) (slice_get s.marks f) x k may.1)) within_g (scan.made_under g hash m found))
    (λ j q r. put_resident s.tables i p (Shared f) (Shared g) j q may.0 refl r) private
    (λ j q h there a b mark.
    (let own = private j q h there in
    let off : h ≢ g = not_counted s j q g h hash m scan.sound.frames own found in
    set_other left g h (Sharers hash (m + 1)) off ∙ (set_other s.marks f h new (not_own s i p f j q h scan.sound.frames may.0 own) ∙ mark)))
    (λ j q h k there mark.
    (let off : h ≢ g = λ e. (let both : Some (Sharers hash (m + 1)) ≡ Some (Unlisted k) = sym counted ∙ subst (λ z. slice_get s3.marks z ≡ Some (Unlisted k)) e mark in cc both) in
    let was = put_shared s.tables i p (Shared f) (Shared g) j q h may.0 (λ e. off (let k : g ≡ h = cc in sym k)) there in
    elim (here_or f h) [
      | inl same ↦ (n, was, subst (λ z. slice_get s.marks z ≡ Some (Unlisted n)) (sym same) may.1)
      | inr other ↦ (k, was, sym (set_other s.marks f h new (λ e. other e)) ∙ (sym (set_other left g h (Sharers hash (m + 1)) off) ∙ mark))
    ]))
    (λ h there. (let both : Some (Shared g) ≡ Some (Private h) = sym now ∙ there in cc both))
    (λ h k there mark. (let same = one_shared (page_at s3.tables i p) g h now there in let both : Some (Sharers hash (m + 1)) ≡ Some (Unlisted k) = sym counted ∙ subst (λ z. slice_get s3.marks z ≡ Some (Unlisted k)) same mark in cc both)))

come_step : (hashes : List ℕ → ℕ) (s : Space) (i p hash f n g j q : ℕ) (s2 : Space) → IsScanning hashes s → IsHashOf hashes s i p hash → MayBeListed s i p f n → frame_bytes s f ≢ zero_page → frame_bytes s f ≡ frame_bytes s g
    → IsHinted hashes s hash g j q → s2 ≡ joined_to (listed_for s g f hash n) j q g f hash n → IsStep hashes s i p s2
come_step hashes s i p hash f n g j q s2 scan its may some alike hint is =
    let s3 : Space = joined_to (listed_for s g f hash n) j q g f hash n in
    let own : hashes (frame_bytes s f) ≡ hash = its.1 f may.0 (n, may.1) in
    let m1 : List Mark = slice_set s.marks g Plain in
    let m2 : List Mark = slice_set m1 f (Sharers hash n) in
    let m3 : List Mark = slice_set m2 g Plain in
    let g1 : g < length s.marks = there_of s.marks g (Hint hash j q) hint.0 in
    let f1 : f < length m1 = (let a = there_of s.marks f (Unlisted n) may.1 in let l = length-set s.marks g Plain in omega arith) in
    let g2 : g < length m2 = (let l = length-set s.marks g Plain in let k = length-set m1 f (Sharers hash n) in omega arith) in
    let f2 : f < length m3 = (let k = length-set m1 f (Sharers hash n) in let l = length-set m2 g Plain in omega arith) in
    let counted : slice_get s3.marks f ≡ Some (Sharers hash (n + 1)) = set_same m3 f (Sharers hash (n + 1)) f2 in
    let offer : Offers hashes s i p hash Merged s3 = inr (f, n, g, may, some, alike, inr (j, q, hint, refl)) in
    let sound = offers_soundly hashes s i p hash Merged s3 scan.sound offer in
    let now : page_at s3.tables i p ≡ Some (Shared f) = other_shared s.tables j q i p g f hint.1.0 may.0 in
    let private : (a b h : ℕ) → page_at s3.tables a b ≡ Some (Private h) → page_at s.tables a b ≡ Some (Private h) = λ a b h there. put_private s.tables j q (Private g) (Shared f) a b h hint.1.0 (shared_not f h) there in
    subst (IsStep hashes s i p) (sym is)
    (changed_step hashes s i p hash Merged s3 scan offer refl refl refl
    (made_shared hashes s.pool.frames m3 f hash (n + 1) (made_with hashes s.pool.frames m2 g Plain (made_shared hashes s.pool.frames m1 f hash n (made_with hashes s.pool.frames s.marks g Plain scan.made_under g1 plain_never) f1 own) g2 plain_never) f2 own)
    (λ a b r. put_resident s.tables j q (Private g) (Shared f) a b hint.1.0 refl r) private
    (λ a b h there x y mark.
    (let was = private a b h there in
    let off : h ≢ f = not_own s i p f a b h scan.sound.frames may.0 was in
    let away : h ≢ g = not_given s3 a b g h s.pool.free sound.frames there refl in
    set_other m3 f h (Sharers hash (n + 1)) off ∙ (set_other m2 g h Plain away ∙ (set_other m1 f h (Sharers hash n) off ∙ (set_other s.marks g h Plain away ∙ mark)))))
    (λ a b h k there mark.
    (let off : h ≢ f = λ e. (let both : Some (Sharers hash (n + 1)) ≡ Some (Unlisted k) = sym counted ∙ subst (λ z. slice_get s3.marks z ≡ Some (Unlisted k)) e mark in cc both) in
    let was = put_shared s.tables j q (Private g) (Shared f) a b h hint.1.0 (λ e. off (let k : f ≡ h = cc in sym k)) there in
    (k, was, unlisted_other s.marks g h k Plain g1 (plain_listed k) (unlisted_other m1 f h k (Sharers hash n) f1 (shared_listed hash n k) (unlisted_other m2 g h k Plain g2 (plain_listed k) (unlisted_other m3 f h k (Sharers hash (n + 1)) f2 (shared_listed hash (n + 1) k) mark))))))
    (shared_private s3 i p f now)
    (λ h k there mark. (let same = one_shared (page_at s3.tables i p) f h now there in let both : Some (Sharers hash (n + 1)) ≡ Some (Unlisted k) = sym counted ∙ subst (λ z. slice_get s3.marks z ≡ Some (Unlisted k)) same mark in cc both)))

some_sharers : (s : Space) (i p f : ℕ) → page_at s.tables i p ≡ Some (Shared f) → 1 ≤ sharers s f
some_sharers s i p f there = (let a = get_pages (shares f) s.tables i p (Shared f) there in let o = one_same f f refl in omega arith)

unlisted_step : (hashes : List ℕ → ℕ) (s : Space) (i p hash : ℕ) (answer : Offer) (s2 : Space) → IsScanning hashes s → IsHashOf hashes s i p hash → OffersUnlisted hashes s i p hash answer s2 → IsStep hashes s i p s2
unlisted_step hashes s i p hash Skipped s2 scan its (is, (f, n, g, j, q, may, some, found, not)) = absurd (not (hint_offered hashes s g hash j q scan found))
unlisted_step hashes s i p hash FalseMatch s2 scan its (is, (f, n, g, may, some, differ, inl (m, found))) =
    absurd (differ (scan.apart (frame_bytes s f) (frame_bytes s g) (shared_content s f (some_sharers s i p f may.0)) (shared_content s g (named_sharers s g hash m scan.sound.frames found)) (its.1 f may.0 (n, may.1) ∙ sym (scan.made_under g hash m found))))
unlisted_step hashes s i p hash FalseMatch s2 scan its (is, (f, n, g, may, some, differ, inr (j, q, hint))) = search rules
unlisted_step hashes s i p hash Zeroed s2 scan its (f, n, may, zeros, is) = zero_step hashes s i p hash f n s2 scan may zeros is
unlisted_step hashes s i p hash Hinted s2 scan its (f, n, may, some, none, is) =
    subst (IsStep hashes s i p) (sym is) (listed_step hashes s i p hash f n Hinted s.marks scan its may (inr (f, n, may, some, none, refl)) refl scan.made_under (λ h a b mark. mark) (λ h k mark. mark))
unlisted_step hashes s i p hash Stale s2 scan its (f, n, g, j, q, may, some, found, offered, changed, is) =
    let within = there_of s.marks g (Hint hash j q) found in
    subst (IsStep hashes s i p) (sym is) (listed_step hashes s i p hash f n Stale (slice_set s.marks g Plain) scan its may (inr (f, n, g, j, q, may, some, found, offered, changed, refl)) (length-set s.marks g Plain)
    (made_with hashes s.pool.frames s.marks g Plain scan.made_under within plain_never)
    (λ h a b mark. elim (here_or g h) [
      | inr away ↦ set_other s.marks g h Plain (λ e. away e) ∙ mark
      | inl same ↦ search rules
    ])
    (λ h k mark. unlisted_other s.marks g h k Plain within (plain_listed k) mark))
unlisted_step hashes s i p hash Merged s2 scan its (f, n, g, may, some, alike, inl (m, found, is)) = move_step hashes s i p hash f n g m s2 scan may some alike found is
unlisted_step hashes s i p hash Merged s2 scan its (f, n, g, may, some, alike, inr (j, q, hint, is)) = come_step hashes s i p hash f n g j q s2 scan its may some alike hint is

pub offer_step : (hashes : List ℕ → ℕ) (s : Space) (i p hash : ℕ) (answer : Offer) (s2 : Space) → IsScanning hashes s → IsHashOf hashes s i p hash → Offers hashes s i p hash answer s2 → IsStep hashes s i p s2
offer_step hashes s i p hash answer s2 scan its (inl o) = alone_step hashes s i p hash answer s2 scan its o
offer_step hashes s i p hash answer s2 scan its (inr o) = unlisted_step hashes s i p hash answer s2 scan its o
