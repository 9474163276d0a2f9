-- A ticket that goes out, by what the host says of it.
use Rattle.std.proofs.Common.{◌≡◌, ◌≢◌, ◌∙◌, ◌<◌, ◌⊎◌, inl, inr, ℕ, List, [], true, length, get_or, slice_get, slice_set, Option, Some, None, refl, sym, ap, subst, arith}
use Rattle.std.proofs.lemmas.Option.{same_Some, slice_get_within}
use Rattle.std.specs.Prelude.{Result, Ok, Err, IsErr}
use Rattle.wh_model.specs.declared.memory.Need.{Need}
use Rattle.wh_space_model.specs.declared.plain.InstId.{InstId}
use Rattle.wh_space_model.specs.{Errand, Pass, pass_of, to_read, to_write, Space, wants, IsSound, page_at, BeginsEvict, BeginsFetch}
use Rattle.wh_host_model.specs.Host.{World}
use Rattle.wh_host_model.proofs.Host.Lasting.{memory_stays_sound}
use Rattle.wh_reclaim.proofs.Sending.{slot_whole}
use Rattle.wh_host.specs.declared.transit.Eviction.{Eviction}
use Rattle.wh_host.specs.declared.transit.Fetch.{Fetch}
use Rattle.wh_host.specs.TicketsOut.{bytes_to_write, slot_to_read, slot_to_write}
use Rattle.wh_host.specs.Hosting.{HostState, IsHost}
use Rattle.wh_host.specs.Paging.{IsAwaiting, Tells, WaitsFor}
use Rattle.wh_cell.specs.Calling.{GoesOut, HasContent}
use Rattle.wh_cell.specs.Knowing.{AgreesWith, KnownState, with_ticket}
use Rattle.wh_cell.proofs.Passing.{Passes, as_many, begins_evict, begins_fetch, held_is, out_is, out_with, unchanged}

pub sound_of : (h : HostState) → (w : World) × IsHost h w → IsSound h.space
sound_of h some = subst IsSound (sym some.1.space) (memory_stays_sound some.0 some.1.comes)

-- whether the instance waits for some bytes
abbrev pub MayWait : HostState → InstId → Type 0
MayWait h id = ((need : Need) × WaitsFor h id need) ⊎ ((need : Need) → ¬ WaitsFor h id need)

none_some : (need : Need) (x : Option Need) → x ≡ None → x ≡ Some need → ⊥
none_some need x a b = absurd (cc (a, b))

pub may_wait : (h : HostState) (id : InstId) → (w : World) × IsHost h w → Tells h true (λ w. IsAwaiting w id) → MayWait h id
may_wait h id some told = go (wants some.0.space id.place) refl where
  go : (x : Option Need) → wants some.0.space id.place ≡ x → MayWait h id
  go (Some need) e = inl (need, (some.0, some.1, told some.0 some.1, e))
  go None e = inr (λ need waits.
      none_some need (wants waits.0.space id.place)
      (ap (λ (s : Space). wants s id.place) (sym waits.1.space ∙ some.1.space) ∙ e) waits.3)

-- what is read is something that is known
fetch_whole : (h h2 : HostState) (id : InstId) (slot : ℕ) → IsSound h.space → BeginsFetch h.space id.place (Some slot) h2.space → get_or h.space.slots.held slot [] ≢ []
fetch_whole h h2 id slot sound (need, stands, s1, reserves, p, f, first, at, others, kept, is) =
    slot_whole h.space id.place p slot sound (ap (λ (s : Space). page_at s.tables id.place p) (sym reserves.leaves) ∙ at)

module _ {B : Type 0} (h h2 : HostState) (id : InstId) where
  pub fetch_passes : (result : Result Fetch B) → MayWait h id → ((need : Need) → WaitsFor h id need → BeginsFetch h.space id.place (slot_to_read result) h2.space)
      → (((need : Need) → ¬ WaitsFor h id need) → (h2 ≡ h) × IsErr result)
      → Passes h.space h.space.slots.held (out_with (pass_of h.space).out (slot_to_read result) to_read) h2.space
  fetch_passes result (inl waits) begins idle = begins_fetch h.space id.place (slot_to_read result) h2.space (begins waits.0 waits.1)
  fetch_passes (Ok fetched) (inr none) begins idle = absurd (let no = (idle none).1 in cc no)
  fetch_passes (Err buf) (inr none) begins idle = unchanged h.space h2.space (ap (λ (z : HostState). z.space) (idle none).0)

  pub eviction_passes : (result : Result Eviction B) → MayWait h id → ((need : Need) → WaitsFor h id need → BeginsEvict h.space id.place (slot_to_write result) (bytes_to_write result) h2.space)
      → (((need : Need) → ¬ WaitsFor h id need) → (h2 ≡ h) × IsErr result)
      → Passes h.space h.space.slots.held (out_with (pass_of h.space).out (slot_to_write result) to_write) h2.space
  eviction_passes result (inl waits) begins idle = begins_evict h.space id.place (slot_to_write result) (bytes_to_write result) h2.space (begins waits.0 waits.1)
  eviction_passes (Ok eviction) (inr none) begins idle = absurd (let no = (idle none).1 in cc no)
  eviction_passes (Err buf) (inr none) begins idle = unchanged h.space h2.space (ap (λ (z : HostState). z.space) (idle none).0)

  pub fetch_content : (result : Result Fetch B) (slot : ℕ) → slot_to_read result ≡ Some slot → IsSound h.space → MayWait h id
      → ((need : Need) → WaitsFor h id need → BeginsFetch h.space id.place (slot_to_read result) h2.space)
      → (((need : Need) → ¬ WaitsFor h id need) → (h2 ≡ h) × IsErr result) → get_or h.space.slots.held slot [] ≢ []
  fetch_content result slot is sound (inl waits) begins idle = fetch_whole h h2 id slot sound (subst (λ x. BeginsFetch h.space id.place x h2.space) is (begins waits.0 waits.1))
  fetch_content (Ok fetched) slot is sound (inr none) begins idle = absurd (let no = (idle none).1 in cc no)
  fetch_content (Err buf) slot is sound (inr none) begins idle = absurd (cc is)

-- so whoever keeps the device knows
module _ {D : Type 0} (held : D → List (List ℕ)) (s s2 : Space) (known known2 : KnownState D) (d : D) (slot : ℕ) (errand : Errand) where
  same_device : (d2 : D) → AgreesWith held s known d → known.device ≡ Some d2 → d ≡ d2
  same_device d2 a is = same_Some d d2 (sym a.has ∙ is)

  pub goes_out : IsSound s → AgreesWith held s known d → Passes s s.slots.held (out_with (pass_of s).out (Some slot) errand) s2
      → slice_get (pass_of s2).out slot ≡ Some (Some errand) → known2 ≡ with_ticket known slot errand → GoesOut held known slot errand known2
  goes_out sound a passes out is =
      let outs : (pass_of s2).out ≡ known2.out =
      ap (λ (p : Pass). p.out) passes.pass ∙ ap (λ (xs : List (Option Errand)). slice_set xs slot (Some errand)) (out_is held s known d a) ∙ ap (λ (k : KnownState D). k.out) (sym is) in
      let less = slice_get_within (pass_of s2).out slot (Some errand) out in
      let many = as_many s2.slots.uses in
      record {
        after = is;
        out = ap (λ (xs : List (Option Errand)). slice_get xs slot) (sym outs) ∙ out;
        there = λ d2 has. (
            let there : s.slots.held ≡ held d2 = held_is held s known d a ∙ ap held (same_device d2 a has) in
            subst (λ (xs : List (List ℕ)). slot < length xs) there (omega (arith, less, many, passes.whole.slots, sound.slots.held)));
      }

  pub has_content : AgreesWith held s known d → get_or s.slots.held slot [] ≢ [] → HasContent held known slot
  has_content a some d2 has none = some (ap (λ (xs : List (List ℕ)). get_or xs slot []) (held_is held s known d a ∙ ap held (same_device d2 a has)) ∙ none)
