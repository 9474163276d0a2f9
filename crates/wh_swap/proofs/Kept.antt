-- Pages that are kept as they were written.
use Rattle.std.proofs.Common.{◌≡◌, ◌≢◌, ℕ, ◌<◌, List, [], Option, length, get_or, slice_set, sym, ◌∙◌, inl, inr, ap}
use Rattle.std.proofs.lemmas.Bool.{cases_eq}
use Rattle.std.proofs.lemmas.List.{get_or-set_same, get_or-set_other, get_or-map}
use Rattle.wh_swap.specs.declared.written.Written.{Written}
use Rattle.wh_swap.specs.Written.{written_bytes, all_written, AreKept}

-- a write to one of them keeps the others, and that one if it is there
pub kept_write : (page page2 : ℕ → List ℕ) (held : List (List ℕ)) (s : ℕ) (bytes : List ℕ) → s < length held
    → AreKept page held → ((k : ℕ) → k ≢ s → page2 k ≡ page k) → (bytes ≢ [] → page2 s ≡ bytes)
    → AreKept page2 (slice_set held s bytes)
kept_write page page2 held s bytes within kept others wrote k some =
    elim (cases_eq k s) [
      | inl same ↦ (let at : get_or (slice_set held s bytes) k [] ≡ bytes = rw same (get_or-set_same held s bytes [] within) in
          rw same (wrote (rw at at some)) ∙ sym at)
      | inr other ↦ (let at : get_or (slice_set held s bytes) k [] ≡ get_or held k [] = get_or-set_other held s k bytes [] other in
          others k other ∙ kept k (rw at at some) ∙ sym at)
    ]

-- what was written to a slot
pub written_there : (slots : List (Option Written)) (k : ℕ) (one : Option Written) → k < length slots
    → one ≡ get_or slots k one → get_or (all_written slots) k [] ≡ written_bytes one
written_there slots k one within is = get_or-map written_bytes slots k one [] within ∙ ap written_bytes (sym is)
