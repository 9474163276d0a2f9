-- The instances of a host by number, and what is reported of them by what the code has of them.
use Rattle.std.specs.Prelude.{◌≡◌, ◌≤◌, ℕ, zero, suc, ◌+◌, ◌++◌, List, [], ◌∷◌, Option, Some, None}
use Rattle.std.specs.List.Sorted.{IsNonDecreasingBy, IsPermutation}
use Rattle.wh_space_model.specs.Charges.{active_of, charged_of}
use Rattle.wh_space_model.specs.Parts.{Space}
use Rattle.wh_space_model.specs.States.{count_of, swapped}
use Rattle.wh_host_model.specs.Host.Worlds.{Tenant, World}
use Rattle.wh_host.specs.declared.parts.InstanceEntry.{InstanceEntry}
use Rattle.wh_space_model.specs.declared.plain.InstId.{InstId}
use Rattle.wh_host.specs.Hosting.{HostState, IsHost, entry_at}
use Rattle.wh_host.specs.Reporting.{ReportRow}

-- the number and the place of each that is live, by number, the first of the list having this one
abbrev pub refs_by : (number : ℕ) → List (Option Tenant) → List InstId
refs_by number [] = []
refs_by number (None ∷ ts) = refs_by (number + 1) ts
refs_by number (Some t ∷ ts) = record { number = number; place = t.place } ∷ refs_by (number + 1) ts

-- for whatever host it stands, these are its live instances by number
abbrev pub AreInstanceRefs : HostState → List InstId → Type 0
AreInstanceRefs h instance_refs = (w : World) → IsHost h w → instance_refs ≡ refs_by 0 w.tenants

-- ---- within the crate

-- the number of the instance that has a place, if one has it
abbrev pub number_of_entry : Option InstanceEntry → Option ℕ
number_of_entry None = None
number_of_entry (Some x) = x.number

abbrev pub number_at : List (Option InstanceEntry) → ℕ → Option ℕ
number_at rs place = number_of_entry (entry_at rs place)

-- who is there, at this place and at the places below n
abbrev pub ref_at : Option ℕ → ℕ → List InstId
ref_at None place = []
ref_at (Some number) place = record { number = number; place = place } ∷ []

abbrev pub refs_below : (ℕ → Option ℕ) → ℕ → List InstId
refs_below who zero = []
refs_below who (suc n) = refs_below who n ++ ref_at (who n) n

-- the same in order
abbrev pub AreInOrder : List (Option InstanceEntry) → ℕ → List InstId → Type 0
AreInOrder rs n instance_refs =
    IsPermutation (refs_below (number_at rs) n) instance_refs × IsNonDecreasingBy (λ (s : InstId). s.number) instance_refs

-- what is reported of the instances in these seats, one after the other
abbrev pub row_by : Space → InstId → InstanceEntry → ReportRow
row_by s instance_ref x = record {
  number = instance_ref.number;
  place = instance_ref.place;
  shares = x.given.shares;
  min = x.given.min;
  max = x.given.max;
  charged = charged_of s instance_ref.place;
  active = active_of s instance_ref.place;
  swapped = count_of swapped s.tables instance_ref.place;
}

abbrev pub row_at : Space → InstId → Option InstanceEntry → List ReportRow
row_at s instance_ref None = []
row_at s instance_ref (Some x) = row_by s instance_ref x ∷ []

abbrev pub rows_by : Space → List (Option InstanceEntry) → List InstId → List ReportRow
rows_by s rs [] = []
rows_by s rs (instance_ref ∷ instance_refs) =
    row_at s instance_ref (entry_at rs instance_ref.place) ++ rows_by s rs instance_refs

-- whoever has this place can be shown
abbrev pub CanBeShown : List (Option InstanceEntry) → InstId → Type 0
CanBeShown rs instance_ref = (x : InstanceEntry) → entry_at rs instance_ref.place ≡ Some x → x.given.shares ≤ 1000000
