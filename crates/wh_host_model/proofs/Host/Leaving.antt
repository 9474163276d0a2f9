-- The memory's own relations lead to those that the host's definitions use.
use Rattle.std.proofs.Common.{◌≡◌, ℕ, ◌+◌, ◌*◌, ◌<◌, ◌≤◌, ◌⊎◌, inl, inr, ◌==◌, cond, Bool, true, false, List, [], ◌∷◌, Option, Some, None, zero, suc, length, get_or, slice_get, refl, sym, ap, ◌∙◌, arith, length-append, rules}
use Rattle.std.proofs.lemmas.List.{get_or-set_same, get_or-set_other}
use Rattle.wh_model.specs.declared.memory.Need.{Need}
use Rattle.wh_space_model.specs.{joined, Space, Occupant, Pins, Claimed, occupant_at, all_bytes, claim_of, need_of, promised_to, kept, kept_by, pinned_by, IsSound, may_take, has_pins, unpinned, IsFreePlace, newcomer, Enters, Exits, with_row, ticket_of, stays_occupant, tally, Epochs, Touches, awaiting, stood, ended, HasNoPins}
use Rattle.wh_space_model.specs.Ready.{Ready}
use Rattle.wh_space_model.proofs.Exited.{exits_soundly}
use Rattle.wh_space_model.proofs.Entered.{enters_soundly, enters_at_zeros}
use Rattle.wh_space_model.proofs.Rows.{same_there, row_same, row_other}
use Rattle.std.proofs.lemmas.Bool.Decides.{nat_tests}
use Rattle.wh_space_model.proofs.Quiet.{steps_quiet, enters_own, exits_own, pins_end}
use Rattle.wh_space_model.proofs.Steady.{touches_soundly, epochs_soundly, waits_soundly, ends_soundly}
use Rattle.wh_host_model.specs.Host.{AllLeftAlone, KeepsPromise, LeftAlone, StepsAlone, WaitsAlone, Arrives, Departs}

-- ---- one after the other

pub promise_then : (i : ℕ) (a b c : Space) → KeepsPromise i a b → KeepsPromise i b c → KeepsPromise i a c
promise_then i a b c (inl same) (inl same2) = inl (same2 ∙ same)
promise_then i a b c (inr none) (inl same2) = inr (same2 ∙ none)
promise_then i a b c _ (inr none) = inr none

pub left_then : {i : ℕ} {a b c : Space} → LeftAlone i a b → LeftAlone i b c → LeftAlone i a c
left_then {i} {a} {b} {c} x y = record { view = y.view ∙ x.view; wants = y.wants ∙ x.wants; claim = y.claim ∙ x.claim; promise = promise_then i a b c x.promise y.promise }

-- ---- nothing, and what changes nobody's bytes

pub alone_self : (s : Space) → IsSound s → AllLeftAlone s s
alone_self s sound = (λ j. record { view = refl; wants = refl; claim = refl; promise = inl refl }, sound)

pub alone_bytes : (s s2 : Space) → all_bytes s2 ≡ all_bytes s → s2.occupants ≡ s.occupants → IsSound s2 → AllLeftAlone s s2
alone_bytes s s2 bytes same sound = search rules

pub epochs_alone : (s s2 : Space) → IsSound s → Epochs s s2 → AllLeftAlone s s2
epochs_alone s s2 sound e = let quiet = steps_quiet s 0 in alone_bytes s s2 (quiet.epochs s2 e) (ap (λ (z : Space). z.occupants) e) (epochs_soundly s s2 sound e)

pub touches_alone : (s : Space) (i first n : ℕ) (s2 : Space) → IsSound s → Touches s i first n s2 → StepsAlone i s s2
touches_alone s i first n s2 sound e =
    let quiet = steps_quiet s i in
    let all = alone_bytes s s2 (quiet.touches first n s2 e) (ap (λ (z : Space). z.occupants) e) (touches_soundly s i first n s2 sound e) in
    let mine = all.0 i in
    record { others = λ j other. all.0 j; places = λ j other. ap (λ (xs : List (Option Occupant)). promised_to (get_or xs j None)) (ap (λ (z : Space). z.occupants) e); claim = mine.claim; sound = all.1 }

-- ---- to be blocked on bytes, or for none

within : (xs : List (Option Occupant)) (i : ℕ) (t : Occupant) → slice_get xs i ≡ Some (Some t) → (i < length xs) × (get_or xs i None ≡ Some t)
within [] i t e = absurd (cc e)
within (x ∷ xs) zero t e = (omega arith, cc e)
within (x ∷ xs) (suc i) t e = let h = within xs i t e in let lt = h.0 in (omega (arith, lt), h.1)

live_wants : (t : Occupant) (need : Option Need) → t.live ≡ true → need_of (Some (record t { stands = need })) ≡ need
live_wants t need live = rw live refl

pub stood_alone : (s : Space) (i : ℕ) (t : Occupant) (need : Option Need) → IsSound s → occupant_at s i t → t.live ≡ true
    → ((want : Need) → need ≡ Some want → (want.at + want.length ≤ 4096 * length (get_or s.tables i [])) × (want.length ≤ 4096)) → WaitsAlone i need s (stood s i need)
stood_alone s i t need sound is live fits =
    let there = within s.occupants i t is in
    let quiet = steps_quiet s i in
    let bytes : all_bytes (stood s i need) ≡ all_bytes s = quiet.stands need in
    let now : get_or (stood s i need).occupants i None ≡ Some (record t { stands = need }) = search (rules, get_or-set_same) in
    record {
      steps = record {
        others = search (rules, get_or-set_other, ℕ);
        places = λ j other. ap promised_to (get_or-set_other s.occupants i j (awaiting (get_or s.occupants i None) need) None other);
        claim = ap claim_of now ∙ sym (ap claim_of there.1);
        sound = waits_soundly s i t need sound is (λ want e. let f = fits want e in (live, f.0, f.1));
      };
      view = ap (λ (b : List (List (List ℕ))). joined (get_or b i [])) bytes;
      wants = ap need_of now ∙ live_wants t need live;
      ready = λ want. (λ h. h, λ h. h);
    }

-- ---- and with the end of a step the end of its pins

kept_none : (pins : Option Pins) (i : ℕ) → has_pins pins i ≡ false → length (kept_by pins i) ≡ 0
kept_none None i e = refl
kept_none (Some pins) i e = rw e refl

kept_all : (pins : Option Pins) (i : ℕ) → has_pins pins i ≡ true → length (kept_by pins i) ≡ length (kept pins)
kept_all None i e = absurd (cc e)
kept_all (Some pins) i e = rw e refl

unpinned_takes : (s : Space) (i : ℕ) (b : Bool) → has_pins s.pins i ≡ b → may_take (cond b (unpinned s) s) i ≡ may_take s i
unpinned_takes s i true e = let n = length-append s.pool.free (kept s.pins) in let k = kept_all s.pins i e in omega (arith, n, k)
unpinned_takes s i false e = refl

-- readiness but for how many frames may be taken
unpinned_ready : (s : Space) (i : ℕ) (need : Need) (b : Bool) → may_take (cond b (unpinned s) s) i ≡ may_take s i
    → (Ready (cond b (unpinned s) s) i need → Ready s i need) × (Ready s i need → Ready (cond b (unpinned s) s) i need)
unpinned_ready s i need true e = (λ h. let le = h.1 in (h.0, omega (arith, le, e)), λ h. let le = h.1 in (h.0, omega (arith, le, e)))
unpinned_ready s i need false e = (λ h. h, λ h. h)

unpinned_bytes : (s : Space) (b : Bool) → all_bytes (cond b (unpinned s) s) ≡ all_bytes s
unpinned_bytes s true = refl
unpinned_bytes s false = refl

unpinned_there : (s : Space) (b : Bool) → (cond b (unpinned s) s).occupants ≡ s.occupants
unpinned_there s true = refl
unpinned_there s false = refl

pub ended_alone : (s : Space) (i : ℕ) (t : Occupant) → IsSound s → occupant_at s i t → t.live ≡ true → WaitsAlone i None s (ended s i) × HasNoPins (ended s i) i
ended_alone s i t sound is live =
    let a = stood_alone s i t None sound is live (λ want e. absurd (cc e)) in
    let steps = a.steps in
    let mid : Space = stood s i None in
    let b : Bool = has_pins mid.pins i in
    let off = alone_bytes mid (ended s i) (unpinned_bytes mid b) (unpinned_there mid b) (ends_soundly s i t sound is) in
    let mine = off.0 i in
    let both = pins_end s i in (
      record {
        steps = search (rules, left_then, unpinned_there);
        view = mine.view ∙ a.view;
        wants = mine.wants ∙ a.wants;
        ready = λ need. unpinned_ready mid i need b (unpinned_takes mid i b refl);
      },
      both.0,
    )

-- ---- arrivals and departures

free_within : (s : Space) (i : ℕ) → IsFreePlace s i → i ≤ length s.occupants
free_within s i (inl e) = go s.occupants i e where
  go : (xs : List (Option Occupant)) (i : ℕ) → slice_get xs i ≡ Some None → i ≤ length xs
  go [] i e = absurd (cc e)
  go (x ∷ xs) zero e = omega arith
  go (x ∷ xs) (suc i) e = let h = go xs i e in omega (arith, h)
free_within s i (inr e) = omega (arith, e)

nobody_there : (s : Space) (i : ℕ) (t : Occupant) → IsFreePlace s i → occupant_at s i t → ⊥
nobody_there s i t (inl e) is = let no : Some None ≡ Some (Some t) = sym e ∙ is in cc no
nobody_there s i t (inr e) is = let h = within s.occupants i t is in let lt = h.0 in omega (arith, lt, e)

free_unpinned : (s : Space) (i : ℕ) → IsSound s → IsFreePlace s i → (pins : Option Pins) → s.pins ≡ pins → (b : Bool) → has_pins pins i ≡ b → (kept_by pins i ≡ []) × (pinned_by pins i ≡ [])
free_unpinned s i sound free None e b test = (refl, refl)
free_unpinned s i sound free (Some pins) e false test = (rw test refl, rw test refl)
free_unpinned s i sound free (Some pins) e true test = search (rules, nobody_there, ℕ, nat_tests)

pub enters_alone : (s : Space) (i : ℕ) (c : Claimed) (size : ℕ) (s2 : Space) → IsSound s → Enters s i c size s2 → Arrives i c (65536 * size) s s2
enters_alone s i c size s2 sound e =
    let low = free_within s i e.free in
    let rows : s2.occupants ≡ with_row s.occupants i (Some (newcomer c)) = ap (λ (z : Space). z.occupants) e.leaves in
    let pins : s2.pins ≡ s.pins = ap (λ (z : Space). z.pins) e.leaves in
    let now : get_or s2.occupants i None ≡ Some (newcomer c) = (let h = within s2.occupants i (newcomer c) (ap (λ (xs : List (Option Occupant)). slice_get xs i) rows ∙ row_same s.occupants i (Some (newcomer c)) low) in h.1) in
    let none = free_unpinned s i sound e.free s.pins refl (has_pins s.pins i) refl in
    record {
      free = e.free;
      others = λ j other.
          let same : get_or s2.occupants j None ≡ get_or s.occupants j None = search (rules, same_there, row_other) in
          record { view = enters_own s i c size s2 sound e j other; wants = ap need_of same; claim = ap claim_of same; promise = inl (ap promised_to same) };
      places = λ j other. ap promised_to (ap (λ (xs : List (Option Occupant)). get_or xs j None) rows ∙ same_there (with_row s.occupants i (Some (newcomer c))) s.occupants j None (row_other s.occupants i j (Some (newcomer c)) low other));
      view = enters_at_zeros s i c size s2 sound e;
      wants = ap need_of now;
      claim = ap claim_of now;
      unpinned = (ap (λ p. kept_by p i) pins ∙ none.0, ap (λ p. pinned_by p i) pins ∙ none.1);
      sound = enters_soundly s i c size s2 sound e;
    }

gone_promise : (t : Occupant) (n : ℕ)
    → (promised_to (stays_occupant (Some (record t { live = false; stands = None })) n) ≡ promised_to (Some t)) ⊎ (promised_to (stays_occupant (Some (record t { live = false; stands = None })) n) ≡ None)
gone_promise t n = search rules

gone_claims : (t : Occupant) (n : ℕ) → (claim_of (stays_occupant (Some (record t { live = false; stands = None })) n) ≡ None) × (need_of (stays_occupant (Some (record t { live = false; stands = None })) n) ≡ None)
gone_claims t n = search rules

pub exits_alone : (s : Space) (i : ℕ) (s2 : Space) → IsSound s → Exits s i s2 → Departs i s s2
exits_alone s i s2 sound e =
    let t : Occupant = e.occupant in
    let n : ℕ = tally (ticket_of i) s.slots.uses in
    let new : Option Occupant = stays_occupant (Some (record t { live = false; stands = None })) n in
    let there = within s.occupants i t (let was = e.was in was.0) in
    let now : get_or s2.occupants i None ≡ new = ap (λ (xs : List (Option Occupant)). get_or xs i None) e.occupants ∙ get_or-set_same s.occupants i new None there.0 in
    let gone = gone_claims t n in
    let views = exits_own s i s2 e in
    let ends = pins_end s i in
    record {
      others = search (rules, get_or-set_other);
      places = λ j other. ap promised_to (ap (λ (xs : List (Option Occupant)). get_or xs j None) e.occupants ∙ get_or-set_other s.occupants i j new None other);
      claim = ap claim_of now ∙ gone.0;
      wants = ap need_of now ∙ gone.1;
      promise = search (rules, gone_promise);
      unpinned = ends.1 s2 e;
      sound = exits_soundly s i s2 sound e;
    }
