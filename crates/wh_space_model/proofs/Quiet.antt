-- What changes nobody's bytes, and what changes only one's own.
use Rattle.std.proofs.Common.{◌≡◌, ◌≢◌, ℕ, ◌*◌, ◌<◌, ◌≤◌, ◌++◌, inl, inr, cond, nat_lt, map, replicate, true, false, Bool, List, [], ◌∷◌, Option, Some, None, length, slice_get, slice_set, get_or, zero, suc, refl, sym, ap, ◌∙◌, subst, arith}
use Rattle.std.proofs.lemmas.Bool.Decides.{nat_tests}
use Rattle.std.proofs.lemmas.List.{map-set, get_or-set_other}
use Rattle.wh_space_model.specs.declared.states.Page.{Page}
use Rattle.wh_space_model.specs.declared.states.Page.TheVariants.{Untouched, Private, Shared}
use Rattle.wh_space_model.specs.declared.states.Slot.TheVariants.{Evicting, EvictVoid}
use Rattle.wh_space_model.specs.declared.states.Offer.{Offer}
use Rattle.wh_space_model.specs.declared.states.Offer.TheVariants.{Skipped, Zeroed, Hinted, Stale, Merged, FalseMatch}
use Rattle.wh_space_model.specs.{Backing, comes_from, contents, count, joined, lies_in, page_at, page_bytes, put, EntersAlone, ExitsAlone, GoneIsSkipped, GrowsAlone, PinsEnd, StepsQuietly, WritesQuietly, IsEvicting, IsFreePlace, IsOffered, MayBeListed, OffersAlone, OffersUnlisted, IsUsed, Pins, Space, all_bytes, backing, found_at, has_number, kept_by, pinned_by, view, has_pins, unpinned, stood}
use Rattle.wh_space_model.specs.Offers.{Offers}
use Rattle.wh_space_model.proofs.Evicted.{other_value}
use Rattle.wh_space_model.proofs.Contents.{same_contents, slot_written}
use Rattle.wh_space_model.proofs.Putting.{there_of}

-- an offer of a page that is alone on its frame changes no bytes, whatever the hash
pub alone_quiet : (hashes : List ℕ → ℕ) (s : Space) (i p hash : ℕ) (answer : Offer) (s2 : Space) → OffersAlone hashes s i p hash answer s2 → all_bytes s2 ≡ all_bytes s
alone_quiet hashes s i p hash Skipped s2 (is, why) = ap (λ a. all_bytes a) is
alone_quiet hashes s i p hash FalseMatch s2 (is, why) = ap (λ a. all_bytes a) is
alone_quiet hashes s i p hash Hinted s2 (g, offered, some, none, is) = ap (λ a. all_bytes a) is
alone_quiet hashes s i p hash Stale s2 (g, f, j, q, offered, some, found, apart, other, changed, is) = ap (λ a. all_bytes a) is
alone_quiet hashes s i p hash Zeroed s2 (g, offered, zeros, is) =
    ap (λ a. all_bytes a) is ∙ same_contents (backing s) s.tables i p (Private g) Untouched offered.0 (sym zeros)
alone_quiet hashes s i p hash Merged s2 (g, f, offered, some, same, inl (n, found, is)) =
    ap (λ a. all_bytes a) is ∙ same_contents (backing s) s.tables i p (Private g) (Shared f) offered.0 (sym same)
alone_quiet hashes s i p hash Merged s2 (g, f, offered, some, same, inr (j, q, apart, hint, is)) =
    let other : Private g ≢ Private f = λ e. apart (let k : f ≡ g = cc in k) in
    let there : page_at (put s.tables i p (Shared f)) j q ≡ Some (Private f) = other_value s.tables i p j q (Private g) (Shared f) (Private f) offered.0 other hint.1.0 in
    ap (λ a. all_bytes a) is
    ∙ (same_contents (backing s) (put s.tables i p (Shared f)) j q (Private f) (Shared f) there refl
    ∙ same_contents (backing s) s.tables i p (Private g) (Shared f) offered.0 (sym same))

-- the device writes to a slot in which no page lies
pub written_quiet : WritesQuietly
written_quiet s k bytes wrote s2 sound (evicting, is) =
    let none = alone evicting in
    ap (λ a. all_bytes a) is ∙ slot_written (backing s) k (cond wrote bytes []) s.tables none.0 none.1 where
      alone : IsEvicting s k → (count (lies_in k) s.tables ≡ 0) × (count (comes_from k) s.tables ≡ 0)
      alone (inl (j, p, at_it)) = (let used : IsUsed s k (Some (Evicting j p)) = subst (IsUsed s k) at_it (sound.slots.used k) in (used.0, used.1))
      alone (inr (j, at_it)) = (let used : IsUsed s k (Some (EvictVoid j)) = subst (IsUsed s k) at_it (sound.slots.used k) in (used.0, used.1))

pub steps_quiet : StepsQuietly
steps_quiet s i = record {
  touches = λ first n s2 is. ap (λ a. all_bytes a) is;
  epochs = λ s2 is. ap (λ a. all_bytes a) is;
  stands = λ need. refl;
  ends = ended_bytes (has_pins s.pins i);
} where
  ended_bytes : (b : Bool) → all_bytes (cond b (unpinned (stood s i None)) (stood s i None)) ≡ all_bytes s
  ended_bytes true = refl
  ended_bytes false = refl

-- the bytes of another place
other_row : (b : Backing) (ts : List (List Page)) (i j : ℕ) (row : List Page) → j ≢ i → get_or (contents b (slice_set ts i row)) j [] ≡ get_or (contents b ts) j []
other_row b ts i j row other = ap (λ z. get_or z j []) (map-set (map (page_bytes b)) ts i row) ∙ get_or-set_other (contents b ts) i j (map (page_bytes b) row) [] other

this_row : (b : Backing) (ts : List (List Page)) (i : ℕ) → get_or (contents b (slice_set ts i [])) i [] ≡ []
this_row b [] i = refl
this_row b (t ∷ ts) zero = refl
this_row b (t ∷ ts) (suc i) = this_row b ts i

past_end : {X : Type 0} (xs : List (List X)) (x : List X) (j : ℕ) → j ≢ length xs → get_or (xs ++ x ∷ []) j [] ≡ get_or xs j []
past_end [] x zero other = absurd (other refl)
past_end [] x (suc j) other = refl
past_end (y ∷ xs) x zero other = refl
past_end (y ∷ xs) x (suc j) other = past_end xs x j (λ e. other (ap suc e))

map_past : (b : Backing) (ts : List (List Page)) (row : List Page) (j : ℕ) → j ≢ length ts → get_or (contents b (ts ++ row ∷ [])) j [] ≡ get_or (contents b ts) j []
map_past b [] row zero other = absurd (other refl)
map_past b [] row (suc j) other = refl
map_past b (t ∷ ts) row zero other = refl
map_past b (t ∷ ts) row (suc j) other = map_past b ts row j (λ e. other (ap suc e))

pub grew_own : GrowsAlone
grew_own s i n s2 is j other = ap (λ a. view a j) is ∙ ap joined (other_row (backing s) s.tables i j (get_or s.tables i [] ++ replicate (16 * n) Untouched) other)

pub enters_own : EntersAlone
enters_own s i c size s2 sound enters j other =
    ap (λ a. view a j) enters.leaves ∙ ap joined (go (nat_lt i (length s.tables)) refl) where
      at_end : nat_lt i (length s.tables) ≡ false → IsFreePlace s i → i ≡ length s.tables
      at_end test (inr e) = e ∙ sym sound.occupants.tables
      at_end test (inl e) = absurd (let w = there_of s.occupants i None e in let l = sound.occupants.tables in less test (omega arith)) where
        less : nat_lt i (length s.tables) ≡ false → i < length s.tables → ⊥
        less t w = grind (arith, nat_tests)

      go : (b : Bool) → nat_lt i (length s.tables) ≡ b → get_or (contents (backing s) (cond b (slice_set s.tables i (replicate (16 * size) Untouched)) (s.tables ++ replicate (16 * size) Untouched ∷ []))) j [] ≡ get_or (all_bytes s) j []
      go true test = other_row (backing s) s.tables i j (replicate (16 * size) Untouched) other
      go false test = map_past (backing s) s.tables (replicate (16 * size) Untouched) j (λ e. other (e ∙ sym (at_end test enters.free)))

pub exits_own : ExitsAlone
exits_own s i s2 exits = (
  ap joined (same i ∙ this_row (backing s) s.tables i),
  λ j other. ap joined (same j ∙ other_row (backing s) s.tables i j [] other),
) where
  same : (j : ℕ) → get_or (all_bytes s2) j [] ≡ get_or (contents (backing s) (slice_set s.tables i [])) j []
  same j = rw (exits.tables, exits.bytes, exits.held) refl

none_kept : (pins : Option Pins) (i : ℕ) → has_pins pins i ≡ false → (kept_by pins i ≡ []) × (pinned_by pins i ≡ [])
none_kept None i e = (refl, refl)
none_kept (Some pins) i e = (rw e refl, rw e refl)

pub unpinned_ends : (s : Space) (i : ℕ) (b : Bool) → has_pins s.pins i ≡ b → (kept_by (cond b (unpinned s) s).pins i ≡ []) × (pinned_by (cond b (unpinned s) s).pins i ≡ [])
unpinned_ends s i true e = (refl, refl)
unpinned_ends s i false e = none_kept s.pins i e

pub pins_end : PinsEnd
pins_end s i = (
  unpinned_ends (stood s i None) i (has_pins s.pins i) refl,
  λ s2 exits. (let all = unpinned_ends s i (has_pins s.pins i) refl in (rw exits.pins all.0, rw exits.pins all.1)),
)

no_place : (s : Space) (i p : ℕ) → length s.tables ≤ i → page_at s.tables i p ≡ None
no_place s i p past = ap (λ xs. slice_get xs p) (go s.tables i past) where
  go : (ts : List (List Page)) (i : ℕ) → length ts ≤ i → get_or ts i [] ≡ []
  go [] i past = refl
  go (t ∷ ts) zero past = absurd (omega arith)
  go (t ∷ ts) (suc i) past = go ts i (omega arith)

not_offered : (s : Space) (i p g : ℕ) → length s.tables ≤ i → IsOffered s i p g → ⊥
not_offered s i p g past offered = let bad : None ≡ Some (Private g) = sym (no_place s i p past) ∙ offered.0 in cc

not_listed : (s : Space) (i p f n : ℕ) → length s.tables ≤ i → MayBeListed s i p f n → ⊥
not_listed s i p f n past may = let bad : None ≡ Some (Shared f) = sym (no_place s i p past) ∙ may.0 in cc

-- nobody has the number there
wrong_number : (s : Space) (place number : ℕ) → has_number (get_or s.occupants place None) number ≡ false → found_at s place number ≡ length s.occupants
wrong_number s place number e = rw e refl

pub gone_is_skipped : GoneIsSkipped
gone_is_skipped hashes s place number p hash answer s2 sound wrong offers = go answer (subst (λ i. Offers hashes s i p hash answer s2) (wrong_number s place number wrong) offers) where
  past : length s.tables ≤ length s.occupants
  past = let l = sound.occupants.tables in omega arith

  alone : (answer : Offer) → OffersAlone hashes s (length s.occupants) p hash answer s2 → (answer ≡ Skipped) × (s2 ≡ s)
  alone Skipped (is, why) = (refl, is)
  alone Zeroed (g, offered, zeros, is) = absurd (not_offered s (length s.occupants) p g past offered)
  alone Hinted (g, offered, some, none, is) = absurd (not_offered s (length s.occupants) p g past offered)
  alone Stale (g, f, j, q, offered, some, found, apart, other, changed, is) = absurd (not_offered s (length s.occupants) p g past offered)
  alone Merged (g, f, offered, some, same, rest) = absurd (not_offered s (length s.occupants) p g past offered)
  alone FalseMatch (is, (g, f, offered, some, apart, rest)) = absurd (not_offered s (length s.occupants) p g past offered)

  unlisted : (answer : Offer) → OffersUnlisted hashes s (length s.occupants) p hash answer s2 → (answer ≡ Skipped) × (s2 ≡ s)
  unlisted Skipped (is, why) = (refl, is)
  unlisted Zeroed (f, n, may, zeros, is) = absurd (not_listed s (length s.occupants) p f n past may)
  unlisted Hinted (f, n, may, some, none, is) = absurd (not_listed s (length s.occupants) p f n past may)
  unlisted Stale (f, n, g, j, q, may, some, found, offered, changed, is) = absurd (not_listed s (length s.occupants) p f n past may)
  unlisted Merged (f, n, g, may, some, same, rest) = absurd (not_listed s (length s.occupants) p f n past may)
  unlisted FalseMatch (is, (f, n, g, may, some, differ, rest)) = absurd (not_listed s (length s.occupants) p f n past may)

  go : (answer : Offer) → Offers hashes s (length s.occupants) p hash answer s2 → (answer ≡ Skipped) × (s2 ≡ s)
  go answer (inl o) = alone answer o
  go answer (inr o) = unlisted answer o
