-- Pages that go with their instance, one after the other: what of the frames and entries is left.
use Rattle.std.proofs.Common.{◌≡◌, inl, inr, ℕ, ◌+◌, ◌-◌, ◌<◌, ◌≤◌, cond, nat_lt, false, List, [], ◌∷◌, Option, Some, None, length, drop, get_or, slice_get, slice_set, zero, suc, refl, sym, ◌∙◌, ap, subst, arith, length-set, rules}
use Rattle.std.proofs.lemmas.Bool.{cases_lt}
use Rattle.std.proofs.lemmas.Bool.Decides.{nat_tests}
use Rattle.wh_space_model.specs.{IsTaken, one_if, tally, fewer_sharers, Space, sharers, freed_by, FramesAreSound, Names, count, owns, shares}
use Rattle.wh_space_model.specs.declared.states.Mark.{Mark}
use Rattle.wh_space_model.specs.declared.states.Mark.TheVariants.{Plain, Hint, Sharers, Unlisted}
use Rattle.wh_space_model.specs.declared.states.Page.{Page}
use Rattle.wh_space_model.specs.declared.states.Page.TheVariants.{Untouched, Private, Shared, Leaving, LeavingShared, Coming, Swapped}
use Rattle.wh_space_model.proofs.Tally.{one_other, one_same, tally-append}
use Rattle.wh_space_model.proofs.Exited.{freed_less}
use Rattle.wh_space_model.proofs.Putting.{get_or_is, here_or, set_other, set_same}
use Rattle.wh_space_model.proofs.Reading.{owned_taken, shared_taken}
use Rattle.wh_space_model.proofs.Rooms.{get_there}
use Rattle.wh_space.specs.Leaving.{CanAllGo, CanGo, Holdings, IsHeld, freed, is_plain, owner_gone, page_gone, pages_gone, sharer_gone}

-- ---- the next page of a table

pub next_page : {X : Type 0} (xs : List X) (k : ℕ) (x : X) → slice_get xs k ≡ Some x → drop k xs ≡ x ∷ drop (k + 1) xs
next_page [] k x is = absurd (cc is)
next_page (y ∷ xs) zero x is = let e : y ≡ x = cc in cc
next_page (y ∷ xs) (suc k) x is = let e : suc k + 1 ≡ suc (k + 1) = omega arith in rw e (next_page xs k x is)

-- ---- the entry of a frame when n owners and sharers of it have gone

abbrev pub mark_after : ℕ → ℕ → Mark → Mark
mark_after owners sharing Plain = Plain
mark_after owners sharing (Hint hash j p) = cond (nat_lt 0 owners) Plain (Hint hash j p)
mark_after owners sharing (Sharers hash n) = fewer_sharers sharing (Sharers hash n)
mark_after owners sharing (Unlisted n) = fewer_sharers sharing (Unlisted n)

-- no owner is left of a frame that nobody shared
no_owner : (s : Space) (f t : ℕ) (m : Mark) → Names s f (Some m) → sharers s f ≡ 0 → mark_after 1 t m ≡ Plain
no_owner s f t Plain names none = refl
no_owner s f t (Hint hash j p) names none = refl
no_owner s f t (Sharers hash n) names none = absurd (let a = names.0 in let b = names.1 in omega arith)
no_owner s f t (Unlisted n) names none = absurd (let a = names.0 in let b = names.1 in omega arith)

-- n sharers, with this hash or without one
abbrev pub counting : Option ℕ → ℕ → Mark
counting None n = Unlisted n
counting (Some hash) n = Sharers hash n

-- a frame that pages share has their number
shared_mark : (s : Space) (f : ℕ) (m : Mark) → Names s f (Some m) → 1 ≤ sharers s f → (hash : Option ℕ) × (m ≡ counting hash (sharers s f))
shared_mark s f Plain names some = absurd (let a : sharers s f ≡ 0 = names in omega arith)
shared_mark s f (Hint hash j p) names some = absurd (let a = names.1 in omega arith)
shared_mark s f (Sharers hash n) names some = (Some hash, ap (Sharers hash) (sym names.0))
shared_mark s f (Unlisted n) names some = (None, ap (λ k. Unlisted k) (sym names.0))

pub shared_entry : (s : Space) (f : ℕ) → FramesAreSound s → f < length s.marks → 1 ≤ sharers s f → (hash : Option ℕ) × (slice_get s.marks f ≡ Some (counting hash (sharers s f)))
shared_entry s f sound within some =
    let there = get_there s.marks f within in
    let mark = shared_mark s f there.0 (subst (Names s f) there.1 (sound.names f)) some in
    (mark.0, there.1 ∙ ap Some mark.1)

-- ---- one more sharer goes: it is the last one, or it isn't

pub some_left : (t n : ℕ) (hash : Option ℕ) → t < n → fewer_sharers t (counting hash n) ≡ counting hash (n - t)
some_left t n None less = grind (arith, nat_tests)
some_left t n (Some hash) less = grind (arith, nat_tests)

none_left : (t n : ℕ) (hash : Option ℕ) → n ≤ t → fewer_sharers t (counting hash n) ≡ Plain
none_left t n None most = grind (arith, nat_tests)
none_left t n (Some hash) most = grind (arith, nat_tests)

after_counting : (owners sharing n : ℕ) (hash : Option ℕ) → mark_after owners sharing (counting hash n) ≡ fewer_sharers sharing (counting hash n)
after_counting owners sharing n None = refl
after_counting owners sharing n (Some hash) = refl

not_plain : (n : ℕ) (hash : Option ℕ) → is_plain (counting hash n) ≡ false
not_plain n None = refl
not_plain n (Some hash) = refl

frees_none : (t n : ℕ) → t < n → freed_by t n ≡ 0
frees_none t n less = grind (arith, nat_tests)

frees_one : (t n : ℕ) → n ≤ t → 1 ≤ t → freed_by t n ≡ 1
frees_one t n most some = grind (arith, nat_tests)

-- ---- what is left when these pages have gone

pub record IsLeft (s : Space) (gone : List Page) (a : Holdings) : Type 0 where
  pub bytes : a.pool.frames ≡ s.pool.frames
  pub free : (f : ℕ) → tally (one_if f) a.pool.free ≡ tally (one_if f) s.pool.free + (tally (owns f) gone + freed_by (tally (shares f) gone) (sharers s f))
  pub entries : length a.marks ≡ length s.marks
  pub marks : (f : ℕ) (m : Mark) → slice_get s.marks f ≡ Some m → slice_get a.marks f ≡ Some (mark_after (tally (owns f) gone) (tally (shares f) gone) m)

-- these pages have gone, and n of each kind are left: together they are no more than all pages
abbrev pub AreWithin : Space → List Page → List Page → Type 0
AreWithin s gone left = (w : Page → ℕ) → tally w gone + tally w left ≤ count w s.tables

none_gone : (s : Space) → FramesAreSound s → IsLeft s [] (record { pool = s.pool; marks = s.marks })
none_gone s sound = search rules

-- the frame of a page that goes is taken
taken_still : (s : Space) (gone : List Page) (f : ℕ) (a : Holdings) → FramesAreSound s → IsLeft s gone a → IsTaken s.pool f → tally (owns f) gone + freed_by (tally (shares f) gone) (sharers s f) ≡ 0 → IsHeld f a
taken_still s gone f a sound left taken none = search rules

-- ---- the owner of a frame goes

record HasOwner (s : Space) (f : ℕ) : Type 0 where
  pub taken : IsTaken s.pool f
  pub one : count (owns f) s.tables ≡ 1
  pub none : sharers s f ≡ 0

has_owner : (s : Space) (f : ℕ) → FramesAreSound s → 1 ≤ count (owns f) s.tables → HasOwner s f
has_owner s f sound some =
    let taken = owned_taken s f sound some in
    let one = sound.one f taken.0 in
    record { taken = taken; one = omega arith; none = omega arith }

-- a page like this one: it owns frame f, and shares none
record Owns (x : Page) (f : ℕ) : Type 0 where
  pub owns : (g : ℕ) → owns g x ≡ one_if g f
  pub shares : (g : ℕ) → shares g x ≡ 0

owner_can : (s : Space) (gone rest : List Page) (x : Page) (f : ℕ) (a : Holdings) → FramesAreSound s → Owns x f → AreWithin s gone (x ∷ rest) → IsLeft s gone a → IsHeld f a
owner_can s gone rest x f a sound is within left =
    let o = one_same f f refl in
    let mine = is.owns f in
    let all = within (owns f) in
    let own = has_owner s f sound (omega arith) in
    let one = own.one in
    let none = own.none in
    let most = within (shares f) in
    let less = freed_less (sharers s f) (tally (shares f) gone) in
    taken_still s gone f a sound left own.taken (omega arith)

owner_left : (s : Space) (gone rest : List Page) (x : Page) (f : ℕ) (a : Holdings) → FramesAreSound s → Owns x f → AreWithin s gone (x ∷ rest) → IsLeft s gone a → IsLeft s (x ∷ gone) (owner_gone f a)
owner_left s gone rest x f a sound is within left =
    let can = owner_can s gone rest x f a sound is within left in
    let o = one_same f f refl in
    let mine = is.owns f in
    let all = within (owns f) in
    let own = has_owner s f sound (omega arith) in
    let one = own.one in
    record {
      bytes = left.bytes;
      free = search (rules, tally-append);
      entries = length-set a.marks f Plain ∙ left.entries;
      marks = λ g m at. elim (here_or f g) [
        | inl same ↦
            (let now : owns g x + tally (owns g) gone ≡ 1 = rw same (omega arith) in
            let names : Names s f (Some m) = subst (Names s f) (subst (λ z. slice_get s.marks z ≡ Some m) same at) (sound.names f) in
            let plain = no_owner s f (shares g x + tally (shares g) gone) m names own.none in
            rw (now, plain) (subst (λ z. slice_get (slice_set a.marks f Plain) z ≡ Some Plain) (sym same) (set_same a.marks f Plain can.1)))
        | inr other ↦ search (rules, one_other, set_other)
      ];
    }

-- ---- a sharer of a frame goes

record Shares (x : Page) (f : ℕ) : Type 0 where
  pub owns : (g : ℕ) → owns g x ≡ 0
  pub shares : (g : ℕ) → shares g x ≡ one_if g f

record HasSharers (s : Space) (gone : List Page) (f : ℕ) (a : Holdings) : Type 0 where
  pub still : IsHeld f a
  pub less : tally (shares f) gone < sharers s f
  pub owners : tally (owns f) gone ≡ 0
  pub hash : Option ℕ
  pub was : slice_get s.marks f ≡ Some (counting hash (sharers s f))
  pub mark : get_or a.marks f Plain ≡ counting hash (sharers s f - tally (shares f) gone)

has_sharers : (s : Space) (gone rest : List Page) (x : Page) (f : ℕ) (a : Holdings) → FramesAreSound s → Shares x f → AreWithin s gone (x ∷ rest) → IsLeft s gone a → HasSharers s gone f a
has_sharers s gone rest x f a sound is within left =
    let o = one_same f f refl in
    let mine = is.shares f in
    let all = within (shares f) in
    let less : tally (shares f) gone < sharers s f = omega arith in
    let taken = shared_taken s f sound (omega arith) in
    let one = sound.one f taken.0 in
    let most = within (owns f) in
    let owners : tally (owns f) gone ≡ 0 = omega arith in
    let none = frees_none (tally (shares f) gone) (sharers s f) less in
    let still = taken_still s gone f a sound left taken (omega arith) in
    let entry = shared_entry s f sound (let l = sound.marks in let w = taken.0 in omega arith) (omega arith) in
    let mark = get_or_is a.marks f (fewer_sharers (tally (shares f) gone) (counting entry.0 (sharers s f))) Plain (left.marks f (counting entry.0 (sharers s f)) entry.1 ∙ ap Some (after_counting (tally (owns f) gone) (tally (shares f) gone) (sharers s f) entry.0)) in
    record { still = still; less = less; owners = owners; hash = entry.0; was = entry.1; mark = mark ∙ some_left (tally (shares f) gone) (sharers s f) entry.0 less }

-- what one more leaves
fewer_more : (t n : ℕ) (hash : Option ℕ) → t < n → fewer_sharers 1 (counting hash (n - t)) ≡ fewer_sharers (1 + t) (counting hash n)
fewer_more t n hash less = search rules

sharer_marks : (s : Space) (gone : List Page) (x : Page) (f : ℕ) (a : Holdings) → Shares x f → IsLeft s gone a → (has : HasSharers s gone f a) → (mark : Mark) → mark ≡ fewer_sharers (1 + tally (shares f) gone) (counting has.hash (sharers s f))
    → (g : ℕ) (m : Mark) → slice_get s.marks g ≡ Some m → slice_get (slice_set a.marks f mark) g ≡ Some (mark_after (owns g x + tally (owns g) gone) (shares g x + tally (shares g) gone) m)
sharer_marks s gone x f a is left has mark now g m at = elim (here_or f g) [
  | inl same ↦ search (rules, one_same, set_same, after_counting)
  | inr other ↦
      (let here : shares g x ≡ 0 = is.shares g ∙ one_other g f (λ e. other e) in
      let none = is.owns g in
      let owned : owns g x + tally (owns g) gone ≡ tally (owns g) gone = omega arith in
      let shared : shares g x + tally (shares g) gone ≡ tally (shares g) gone = omega arith in
      rw (owned, shared) (set_other a.marks f g mark (λ e. other e) ∙ left.marks g m at))
]

-- with others left the frame stays taken
more_left : (s : Space) (gone : List Page) (x : Page) (f : ℕ) (a : Holdings) → Shares x f → IsLeft s gone a → (has : HasSharers s gone f a) → 1 + tally (shares f) gone < sharers s f
    → IsLeft s (x ∷ gone) (record { pool = a.pool; marks = slice_set a.marks f (counting has.hash (sharers s f - (1 + tally (shares f) gone))) })
more_left s gone x f a is left has more = record {
  bytes = left.bytes;
  free = λ g.
      (let was = left.free g in
      let none = is.owns g in
      let same : freed_by (shares g x + tally (shares g) gone) (sharers s g) ≡ freed_by (tally (shares g) gone) (sharers s g) =
      elim (here_or f g) [
        | inl here ↦
            (let o = one_same g f here in
            let mine = is.shares g in
            let fewer = subst (λ z. 1 + tally (shares z) gone < sharers s z) (sym here) more in
            frees_none (shares g x + tally (shares g) gone) (sharers s g) (omega arith) ∙ sym (frees_none (tally (shares g) gone) (sharers s g) (omega arith)))
        | inr other ↦ search (rules, one_other)
      ] in
      omega arith);
  entries = length-set a.marks f (counting has.hash (sharers s f - (1 + tally (shares f) gone))) ∙ left.entries;
  marks = sharer_marks s gone x f a is left has (counting has.hash (sharers s f - (1 + tally (shares f) gone))) (sym (some_left (1 + tally (shares f) gone) (sharers s f) has.hash more));
}

-- and with none it is free
last_left : (s : Space) (gone : List Page) (x : Page) (f : ℕ) (a : Holdings) → Shares x f → IsLeft s gone a → (has : HasSharers s gone f a) → sharers s f ≤ 1 + tally (shares f) gone
    → IsLeft s (x ∷ gone) (record { pool = freed a.pool f; marks = slice_set a.marks f Plain })
last_left s gone x f a is left has last = record {
  bytes = left.bytes;
  free = λ g.
      (let more = tally-append (one_if g) a.pool.free (f ∷ []) in
      let was = left.free g in
      let none = is.owns g in
      let step : freed_by (shares g x + tally (shares g) gone) (sharers s g) ≡ one_if g f + freed_by (tally (shares g) gone) (sharers s g) =
      elim (here_or f g) [
        | inl here ↦
            (let o = one_same g f here in
            let mine = is.shares g in
            let most = subst (λ z. sharers s z ≤ 1 + tally (shares z) gone) (sym here) last in
            let less = subst (λ z. tally (shares z) gone < sharers s z) (sym here) has.less in
            let before = frees_none (tally (shares g) gone) (sharers s g) less in
            let now = frees_one (shares g x + tally (shares g) gone) (sharers s g) (omega arith) (omega arith) in
            omega arith)
        | inr other ↦ search (rules, one_other)
      ] in
      omega arith);
  entries = length-set a.marks f Plain ∙ left.entries;
  marks = sharer_marks s gone x f a is left has Plain (sym (none_left (1 + tally (shares f) gone) (sharers s f) has.hash last));
}

sharer_left : (s : Space) (gone rest : List Page) (x : Page) (f : ℕ) (a : Holdings) → FramesAreSound s → Shares x f → AreWithin s gone (x ∷ rest) → IsLeft s gone a → IsLeft s (x ∷ gone) (sharer_gone f a)
sharer_left s gone rest x f a sound is within left =
    let has = has_sharers s gone rest x f a sound is within left in
    let mark : fewer_sharers 1 (get_or a.marks f Plain) ≡ fewer_sharers (1 + tally (shares f) gone) (counting has.hash (sharers s f)) = ap (fewer_sharers 1) has.mark ∙ fewer_more (tally (shares f) gone) (sharers s f) has.hash has.less in
    elim (cases_lt (1 + tally (shares f) gone) (sharers s f)) [
      | inl more ↦ with_mark s gone x f a (counting has.hash (sharers s f - (1 + tally (shares f) gone))) (mark ∙ some_left (1 + tally (shares f) gone) (sharers s f) has.hash more)
          (subst (λ b. IsLeft s (x ∷ gone) (record { pool = cond b (freed a.pool f) a.pool; marks = slice_set a.marks f (counting has.hash (sharers s f - (1 + tally (shares f) gone))) })) (sym (not_plain (sharers s f - (1 + tally (shares f) gone)) has.hash)) (more_left s gone x f a is left has more))
      | inr last ↦ with_mark s gone x f a Plain (mark ∙ none_left (1 + tally (shares f) gone) (sharers s f) has.hash last) (last_left s gone x f a is left has last)
    ] where
      with_mark : (s : Space) (gone : List Page) (x : Page) (f : ℕ) (a : Holdings) (mark : Mark) → fewer_sharers 1 (get_or a.marks f Plain) ≡ mark
          → IsLeft s (x ∷ gone) (record { pool = cond (is_plain mark) (freed a.pool f) a.pool; marks = slice_set a.marks f mark }) → IsLeft s (x ∷ gone) (sharer_gone f a)
      with_mark s gone x f a mark is left = subst (λ (m : Mark). IsLeft s (x ∷ gone) (record { pool = cond (is_plain m) (freed a.pool f) a.pool; marks = slice_set a.marks f m })) (sym is) left

-- ---- one page goes, and all of them

-- a page on no frame
none_left_by : (s : Space) (gone : List Page) (x : Page) (a : Holdings) → ((f : ℕ) → owns f x ≡ 0) → ((f : ℕ) → shares f x ≡ 0) → IsLeft s gone a → IsLeft s (x ∷ gone) a
none_left_by s gone x a none also left = search rules

abbrev Goes : Space → List Page → Page → Holdings → Type 0
Goes s gone x a = CanGo x a × IsLeft s (x ∷ gone) (page_gone x a)

goes : (s : Space) (gone rest : List Page) (x : Page) (a : Holdings) → FramesAreSound s → AreWithin s gone (x ∷ rest) → IsLeft s gone a → Goes s gone x a
goes s gone rest Untouched a sound within left = (tt, none_left_by s gone Untouched a (λ f. refl) (λ f. refl) left)
goes s gone rest (Private f) a sound within left = search (rules, owner_can, owner_left)
goes s gone rest (Shared f) a sound within left =
    let is : Shares (Shared f) f = record { owns = λ g. refl; shares = λ g. refl } in
    ((has_sharers s gone rest (Shared f) f a sound is within left).still, sharer_left s gone rest (Shared f) f a sound is within left)
goes s gone rest (Leaving f) a sound within left = search (rules, owner_can, owner_left)
goes s gone rest (LeavingShared f) a sound within left =
    let is : Shares (LeavingShared f) f = record { owns = λ g. refl; shares = λ g. refl } in
    ((has_sharers s gone rest (LeavingShared f) f a sound is within left).still, sharer_left s gone rest (LeavingShared f) f a sound is within left)
goes s gone rest (Coming k) a sound within left = (tt, none_left_by s gone (Coming k) a (λ f. refl) (λ f. refl) left)
goes s gone rest (Swapped k) a sound within left = (tt, none_left_by s gone (Swapped k) a (λ f. refl) (λ f. refl) left)

-- all pages of a list go: what is left is what they all leave, in whatever order
pub record AllGo (s : Space) (pages : List Page) (a : Holdings) : Type 0 where
  pub can : CanAllGo pages a
  pub all : List Page
  pub same : (w : Page → ℕ) → tally w all ≡ tally w pages
  pub left : IsLeft s all (pages_gone pages a)

all_go_on : (s : Space) (gone pages rest : List Page) (a : Holdings) → FramesAreSound s → AreWithin s gone rest → ((w : Page → ℕ) → tally w gone + tally w rest ≡ tally w pages) → IsLeft s gone a
    → CanAllGo rest a × ((all : List Page) × ((w : Page → ℕ) → tally w all ≡ tally w pages) × IsLeft s all (pages_gone rest a))
all_go_on s gone pages [] a sound within sum left = (tt, (gone, λ w. (let e = sum w in omega arith), left))
all_go_on s gone pages (x ∷ rest) a sound within sum left =
    let first = goes s gone rest x a sound within left in
    let others = all_go_on s (x ∷ gone) pages rest (page_gone x a) sound (λ w. (let e = within w in omega arith)) (λ w. (let e = sum w in omega arith)) first.1 in
    ((first.0, others.0), others.1)

pub all_go : (s : Space) (pages : List Page) → FramesAreSound s → ((w : Page → ℕ) → tally w pages ≤ count w s.tables) → AllGo s pages (record { pool = s.pool; marks = s.marks })
all_go s pages sound within =
    let go = all_go_on s [] pages pages (record { pool = s.pool; marks = s.marks }) sound (λ w. (let e = within w in omega arith)) (λ w. omega arith) (none_gone s sound) in
    record { can = go.0; all = go.1.0; same = go.1.1; left = go.1.2 }
