-- What the lock of a host and that of its swap device agree on.
use Rattle.std.specs.Prelude.{◌≡◌, ℕ, List, [], slice_set, Option, Some, None}
use Rattle.std.specs.List.{AllByRecursion}
use Rattle.wh_space_model.specs.Errands.{Errand, pass_of}
use Rattle.wh_space_model.specs.Parts.{Space}

-- the device as it was when its last call was settled, and by slot the ticket that is out
pub record KnownState (D : Type 0) : Type 0 where
  pub device : Option D
  pub out : List (Option Errand)

-- nothing is known
abbrev pub no_device : {D : Type 0} → KnownState D
no_device = record { device = None; out = [] }

-- a ticket goes out for a slot
abbrev pub with_ticket : {D : Type 0} → KnownState D → ℕ → Errand → KnownState D
with_ticket known slot errand = record known { out = slice_set known.out slot (Some errand) }

-- it comes back, and the device was called for it
abbrev pub without_ticket : {D : Type 0} → KnownState D → ℕ → D → KnownState D
without_ticket known slot device = record { device = Some device; out = slice_set known.out slot None }

-- none is out
abbrev pub NoneOut : List (Option Errand) → Type 0
NoneOut out = AllByRecursion (λ ticket. ticket ≡ None) out

-- what lies under the device's lock: the device, and that no ticket is out for its slots
pub record BackingState (D : Type 0) : Type 0 where
  pub device : D
  pub out : List (Option Errand)

-- what both know while that lock is free
abbrev pub known_of : {D : Type 0} → BackingState D → KnownState D
known_of b = record { device = Some b.device; out = b.out }

-- of a memory and the device beside it
abbrev pub backs : {D : Type 0} → Space → D → BackingState D
backs s device = record { device = device; out = (pass_of s).out }

-- the memory has what the device has in each slot, and the tickets that are out
pub record AgreesWith {D : Type 0} (held : D → List (List ℕ)) (s : Space) (known : KnownState D) (device : D)
    : Type 0 where
  pub has : known.device ≡ Some device
  pub pass : pass_of s ≡ record { held = held device; out = known.out }
