-- What the pages have, when a slot, a frame or a page changes.
use Rattle.std.proofs.Common.{◌≡◌, ◌≢◌, ℕ, ◌<◌, List, [], ◌∷◌, Some, length, map, slice_get, slice_set, refl, sym, ap, ◌∙◌, arith, zero, suc}
use Rattle.std.proofs.lemmas.List.{map-set, get_or-set_same, get_or-set_other}
use Rattle.wh_space_model.specs.{tally, one_if, Backing, page_bytes, contents, count, lies_in, comes_from, put, page_at, at}
use Rattle.wh_space_model.proofs.Tally.{one_same}
use Rattle.wh_space_model.specs.declared.states.Page.{Page}
use Rattle.wh_space_model.specs.declared.states.Page.TheVariants.{Untouched, Private, Shared, Leaving, LeavingShared, Coming, Swapped}

not_same : (f g : ℕ) → one_if f g ≡ 0 → g ≢ f
not_same f g h e = let one = one_same f g (sym e) in omega arith

-- another slot's bytes don't matter to a page, nor another frame's
other_slot : (b : Backing) (k : ℕ) (bytes : List ℕ) (x : Page) → lies_in k x ≡ 0 → comes_from k x ≡ 0 → page_bytes (record b { held = slice_set b.held k bytes }) x ≡ page_bytes b x
other_slot b k bytes Untouched h c = refl
other_slot b k bytes (Private f) h c = refl
other_slot b k bytes (Shared f) h c = refl
other_slot b k bytes (Leaving f) h c = refl
other_slot b k bytes (LeavingShared f) h c = refl
other_slot b k bytes (Coming j) h c = get_or-set_other b.held k j bytes [] (not_same k j c)
other_slot b k bytes (Swapped j) h c = get_or-set_other b.held k j bytes [] (not_same k j h)

other_slots : (b : Backing) (k : ℕ) (bytes : List ℕ) (xs : List Page) → tally (lies_in k) xs ≡ 0 → tally (comes_from k) xs ≡ 0 → map (page_bytes (record b { held = slice_set b.held k bytes })) xs ≡ map (page_bytes b) xs
other_slots b k bytes [] h c = refl
other_slots b k bytes (x ∷ xs) h c = let e = other_slot b k bytes x (omega arith) (omega arith) in let es = other_slots b k bytes xs (omega arith) (omega arith) in cc

-- a slot in which no page lies may be written
pub slot_written : (b : Backing) (k : ℕ) (bytes : List ℕ) (tables : List (List Page)) → count (lies_in k) tables ≡ 0 → count (comes_from k) tables ≡ 0 → contents (record b { held = slice_set b.held k bytes }) tables ≡ contents b tables
slot_written b k bytes [] h c = refl
slot_written b k bytes (xs ∷ tables) h c = let e = other_slots b k bytes xs (omega arith) (omega arith) in let es = slot_written b k bytes tables (omega arith) (omega arith) in cc

-- a page that is pointed elsewhere
pub put_contents : (b : Backing) (ts : List (List Page)) (i p : ℕ) (y : Page) → contents b (put ts i p y) ≡ put (contents b ts) i p (page_bytes b y)
put_contents b [] i p y = refl
put_contents b (t ∷ ts) zero p y = let e = map-set (page_bytes b) t p y in cc
put_contents b (t ∷ ts) (suc i) p y = let e = put_contents b ts i p y in cc

set_back : {X : Type 0} (xs : List X) (p : ℕ) (x : X) → slice_get xs p ≡ Some x → slice_set xs p x ≡ xs
set_back [] p x h = refl
set_back (y ∷ xs) zero x h = let e : y ≡ x = cc in cc
set_back (y ∷ xs) (suc p) x h = let e = set_back xs p x h in cc

put_back : {X : Type 0} (xss : List (List X)) (i p : ℕ) (x : X) → page_at xss i p ≡ Some x → put xss i p x ≡ xss
put_back [] i p x h = refl
put_back (xs ∷ xss) zero p x h = let e = set_back xs p x h in cc
put_back (xs ∷ xss) (suc i) p x h = let e = put_back xss i p x h in cc

get_map : {X Y : Type 0} (g : X → Y) (xs : List X) (p : ℕ) (x : X) → slice_get xs p ≡ Some x → slice_get (map g xs) p ≡ Some (g x)
get_map g [] p x h = cc
get_map g (y ∷ xs) zero x h = let e : y ≡ x = cc in cc
get_map g (y ∷ xs) (suc p) x h = get_map g xs p x h

pub at_contents : (b : Backing) (ts : List (List Page)) (i p : ℕ) (x : Page) → page_at ts i p ≡ Some x → page_at (contents b ts) i p ≡ Some (page_bytes b x)
at_contents b [] i p x h = cc
at_contents b (t ∷ ts) zero p x h = get_map (page_bytes b) t p x h
at_contents b (t ∷ ts) (suc i) p x h = at_contents b ts i p x h

-- a page may be pointed to other bytes that are equal
pub same_contents : (b : Backing) (ts : List (List Page)) (i p : ℕ) (x y : Page) → page_at ts i p ≡ Some x → page_bytes b y ≡ page_bytes b x → contents b (put ts i p y) ≡ contents b ts
same_contents b ts i p x y h e = put_contents b ts i p y ∙ put_back (contents b ts) i p (page_bytes b y) (at_contents b ts i p x h ∙ ap Some (sym e))

-- a page goes to a slot that holds its bytes now
pub goes_to_slot : (b : Backing) (ts : List (List Page)) (i p k : ℕ) (x : Page) → k < length b.held → count (lies_in k) ts ≡ 0 → count (comes_from k) ts ≡ 0 → page_at ts i p ≡ Some x
    → (bytes : List ℕ) → page_bytes b x ≡ bytes → page_bytes (record b { held = slice_set b.held k bytes }) x ≡ bytes → contents (record b { held = slice_set b.held k bytes }) (put ts i p (Swapped k)) ≡ contents b ts
goes_to_slot b ts i p k x there h c at bytes is still =
    let b2 : Backing = record b { held = slice_set b.held k bytes } in
    let now : page_bytes b2 (Swapped k) ≡ bytes = get_or-set_same b.held k bytes [] there in
    same_contents b2 ts i p x (Swapped k) at (now ∙ sym still) ∙ slot_written b k bytes ts h c
