-- A pass over all pages.
use Rattle.std.specs.Prelude.{ℕ, ◌≡◌, ◌+◌, ◌<◌, ◌⊎◌, ◌↔◌, ◌++◌, List, [], ◌∷◌, Some, length, get_or, slice_get, zero, suc}
use Rattle.wh_space_model.specs.Charges.{occupant_number}
use Rattle.wh_space_model.specs.declared.states.Offer.{Offer}
use Rattle.wh_space_model.specs.declared.states.Offer.TheVariants.{Merged}
use Rattle.wh_space_model.specs.Errands.{tickets}
use Rattle.wh_space_model.specs.Offers.{Offers}
use Rattle.wh_space_model.specs.Parts.{Space, kept, pinned_by}
use Rattle.wh_space_model.specs.Scanning.{IsContent, IsFullPass, IsHashOf, MadeUnder, Scans}

-- the first n pages of the instance at a place, each by place and page
abbrev pub pages_before : ℕ → ℕ → List (ℕ × ℕ)
pages_before i zero = []
pages_before i (suc n) = pages_before i n ++ (i, n) ∷ []

-- one page comes before another: its instance has the lower number, or it is the lower page of the same one
abbrev pub ComesFirst : Space → ℕ × ℕ → ℕ × ℕ → Type 0
ComesFirst s x y = (occupant_number s x.0 < occupant_number s y.0) ⊎ ((x.0 ≡ y.0) × (x.1 < y.1))

-- These are all pages of the instances that are there, each by place and page: those of an instance with a lower number
-- before those of one with a higher, and those of each in order. Places are used again, numbers aren't.
pub record AreAllPages (s : Space) (pages : List (ℕ × ℕ)) : Type 0 where
  pub each : (i p : ℕ) → ((k : ℕ) × (slice_get pages k ≡ Some (i, p))) ↔ (p < length (get_or s.tables i []))
  pub in_order : (j k : ℕ) (x y : ℕ × ℕ) → j < k → slice_get pages j ≡ Some x → slice_get pages k ≡ Some y → ComesFirst s x y

-- there are n of them
abbrev pub HasSoManyPages : Space → ℕ → Type 0
HasSoManyPages s n = (pages : List (ℕ × ℕ)) → AreAllPages s pages → length pages ≡ n

-- they are offered one after the other, and nothing comes between
abbrev pub ScansAll : (List ℕ → ℕ) → Space → Space → Type 0
ScansAll hashes s s2 = (pages : List (ℕ × ℕ)) × AreAllPages s pages × Scans hashes s pages s2

-- 1 where an offer was answered so that pages came to share a frame
abbrev pub merges_by : Offer → ℕ
merges_by Merged = 1
merges_by answer = 0

-- these pages are offered one after the other, and so many of the offers merge them
abbrev pub ScansMerging : (List ℕ → ℕ) → Space → List (ℕ × ℕ) → (merged : ℕ) → Space → Type 0
ScansMerging hashes s [] merged s2 = (merged ≡ 0) × (s2 ≡ s)
ScansMerging hashes s (page ∷ pages) merged s2 =
    (hash : ℕ) × (answer : Offer) × (mid : Space) × (more : ℕ) × (merged ≡ merges_by answer + more)
    × IsHashOf hashes s page.0 page.1 hash × Offers hashes s page.0 page.1 hash answer mid × ScansMerging hashes mid pages more s2

-- all are
abbrev pub ScansAllMerging : (List ℕ → ℕ) → Space → (merged : ℕ) → Space → Type 0
ScansAllMerging hashes s merged s2 = (pages : List (ℕ × ℕ)) × AreAllPages s pages × ScansMerging hashes s pages merged s2

-- that is a full pass
abbrev pub PassesOverAll : (List ℕ → ℕ) → Space → Space → Type 0
PassesOverAll hashes s s2 = (pages : List (ℕ × ℕ)) × AreAllPages s pages × IsFullPass hashes s pages s2

-- No ticket is out, nothing is pinned or earmarked, entries were made under this hash, and no two contents have one
-- hash.
pub record MayPass (hashes : List ℕ → ℕ) (s : Space) : Type 0 where
  pub none_out : tickets s ≡ 0
  pub none_kept : kept s.pins ≡ []
  pub none_pinned : (i : ℕ) → pinned_by s.pins i ≡ []
  pub made_under : MadeUnder hashes s
  pub apart : (a b : List ℕ) → IsContent s a → IsContent s b → hashes a ≡ hashes b → a ≡ b
