-- A page on a frame that is shared and has no entry, when it is offered.
use Rattle.std.proofs.Common.{◌≡◌, ◌≢◌, ℕ, ◌+◌, ◌-◌, ◌<◌, ◌≤◌, ◌^◌, cond, nat_lt, List, [], ◌∷◌, Option, Some, length, get_or, slice_get, slice_set, suc, refl, sym, ◌∙◌, subst, arith, rules}
use Rattle.wh_content.specs.Marks.{IsOnlyWith}
use Rattle.wh_space_model.specs.{IsTaken, tally, fewer_sharers, one_fewer, FindsShared, MayBeListed, gone_from, Occupant, Space, of_occupant, sharers, HasHash, HasTable, IsSound, Names, count, page_at, shares}
use Rattle.wh_space_model.specs.declared.states.Mark.{Mark}
use Rattle.wh_space_model.specs.declared.states.Mark.TheVariants.{Plain, Sharers, Unlisted}
use Rattle.wh_space_model.specs.declared.states.Page.{Page}
use Rattle.wh_space_model.specs.declared.states.Page.TheVariants.{Untouched, Private, Shared, Leaving, LeavingShared, Coming, Swapped}
use Rattle.wh_space_model.proofs.Tally.{one_same}
use Rattle.wh_space_model.proofs.Evicted.{hash_before}
use Rattle.wh_space_model.proofs.Listed.{gone_sound}
use Rattle.wh_space_model.proofs.Putting.{get_pages, is_page}
use Rattle.wh_space_model.proofs.Reading.{taken_under}
use Rattle.wh_space_model.proofs.Steady.{untouched_soundly}
use Rattle.wh_space.specs.Listing.{zeros_left}
use Rattle.wh_space.specs.Merges.{HasFewPages}
use Rattle.wh_space.proofs.Merges.{table_most}
use Rattle.wh_space.proofs.Moving.{fewer_is}

-- a page that shares a frame
pub record IsOnShared (s : Space) (i p f : ℕ) : Type 0 where
  pub taken : IsTaken s.pool f
  pub entry : f < length s.marks
  pub number : p < length (get_or s.tables i [])

pub on_shared : (s : Space) (i p f : ℕ) → IsSound s → page_at s.tables i p ≡ Some (Shared f) → IsOnShared s i p f
on_shared s i p f sound there =
    let taken = taken_under s i p (Shared f) f sound.frames there refl in
    record { taken = taken; entry = omega (arith, sound.frames.marks, taken.0); number = (is_page s.tables i p (Shared f) there).1 }

pub as_many : (s : Space) (f n : ℕ) → IsSound s → slice_get s.marks f ≡ Some (Unlisted n) → n ≡ sharers s f
as_many s f n sound is = let names : Names s f (Some (Unlisted n)) = subst (Names s f) is (sound.frames.names f) in sym names.0

-- nothing has the hash
pub none_has : (marks : List Mark) (f hash : ℕ) → ((g : ℕ) → ¬ HasHash (slice_get marks g) hash) → IsOnlyWith marks f hash
none_has marks f hash none = λ other has. absurd (none other has)

-- the entries when a page has left the frame
pub left_marks : (s : Space) (f n : ℕ) (new : List Mark) → IsSound s → f < length s.marks → slice_get s.marks f ≡ Some (Unlisted n) → new ≡ slice_set s.marks f (cond (nat_lt 1 n) (fewer_sharers 1 (get_or s.marks f Plain)) Plain)
    → new ≡ slice_set s.marks f (cond (nat_lt 1 (sharers s f)) (one_fewer (slice_get s.marks f)) Plain)
left_marks s f n new sound within is e = search (rules, as_many, fewer_is)

pub zeros_sound : (s : Space) (i p f n : ℕ) → IsSound s → MayBeListed s i p f n → IsSound (zeros_left s i p f)
zeros_sound s i p f n sound may = untouched_soundly (gone_from s i p f Untouched) i p (gone_sound s i p f n sound may)

-- no other entry has the hash
pub only_left : (s : Space) (f g hash m : ℕ) → IsSound s → f < length s.marks → FindsShared s hash g m → IsOnlyWith (slice_set s.marks f (cond (nat_lt 1 (sharers s f)) (one_fewer (slice_get s.marks f)) Plain)) g hash
only_left s f g hash m sound within found = λ other has. sound.frames.apart other g hash (hash_before s.marks f other (nat_lt 1 (sharers s f)) hash within has) (subst (λ m. HasHash m hash) (sym found) refl)

-- ---- how many pages share a frame beside another one

two_most : (f g : ℕ) (x : Page) → f ≢ g → shares f x + shares g x ≤ 1
two_most f g Untouched apart = omega arith
two_most f g (Private h) apart = omega arith
two_most f g (Shared h) apart = search rules
two_most f g (Leaving h) apart = omega arith
two_most f g (LeavingShared h) apart = search rules
two_most f g (Coming k) apart = omega arith
two_most f g (Swapped k) apart = omega arith

two_row : (f g : ℕ) (table : List Page) → f ≢ g → tally (shares f) table + tally (shares g) table ≤ length table
two_row f g [] apart = omega arith
two_row f g (x ∷ table) apart = let a = two_most f g x apart in let b = two_row f g table apart in omega arith

two_all : (f g : ℕ) (os : List (Option Occupant)) (ts : List (List Page)) → f ≢ g → length ts ≡ length os → ((i : ℕ) (o : Option Occupant) → slice_get os i ≡ Some o → HasTable o (get_or ts i []))
    → count (shares f) ts + count (shares g) ts ≤ tally (of_occupant (λ t. t.min)) os + tally (of_occupant (λ t. (t.max - t.min) + 1)) os
two_all f g os [] apart long have = omega arith
two_all f g [] (table ∷ ts) apart long have = absurd (omega arith)
two_all f g (o ∷ os) (table ∷ ts) apart long have =
    let a = two_row f g table apart in
    let b = table_most o table (have 0 o refl) in
    let c = two_all f g os ts apart (omega arith) (λ i x is. have (suc i) x is) in
    omega arith

pub few_elsewhere : (s : Space) (i p f n g hash m : ℕ) → IsSound s → HasFewPages s → MayBeListed s i p f n → FindsShared s hash g m → m + 1 < 2 ^ 32
few_elsewhere s i p f n g hash m sound few may found =
    let apart : f ≢ g = λ e. (let both : Some (Unlisted n) ≡ Some (Sharers hash m) = sym may.1 ∙ subst (λ z. slice_get s.marks z ≡ Some (Sharers hash m)) (sym e) found in cc both) in
    let names : Names s g (Some (Sharers hash m)) = subst (Names s g) found (sound.frames.names g) in
    let most = two_all f g s.occupants s.tables apart sound.occupants.tables sound.occupants.have in
    let frames = sound.admissible.0 in
    let slots = sound.admissible.1 in
    omega (arith, few, names.0, get_pages (shares f) s.tables i p (Shared f) may.0, one_same f f refl, most, frames, slots)
