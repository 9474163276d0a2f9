-- What contracts see of the counts of threads.
use Rattle.std.specs.Prelude.{◌≡◌, ℕ, ◌+◌, Bool, List, length, sum_by}
use Rattle.crossbeam_channel.specs.Claims.{Pass}
use Rattle.wh_threads.specs.declared.channel.Traffic.{Traffic}
use Rattle.wh_threads.specs.declared.gate.Sign.{Sign}
use Rattle.wh_threads.specs.declared.own_count.OwnCount.{OwnCount}
use Rattle.wh_threads.specs.declared.tally.Tally.{Tally}

-- a worker's counts: with which it began, and which it has now
pub record WorkerState : Type 0 where
  pub from : Tally
  pub tally : Tally

-- it has run `turns` more turns, which took `taken` charges
pub record RanTurns (old : WorkerState) (turns taken : ℕ) (new : WorkerState) : Type 0 where
  pub from : new.from ≡ old.from
  pub turns_are : new.tally.turns ≡ old.tally.turns + turns
  pub charges : new.tally.charges ≡ old.tally.charges + taken

-- one turn more
abbrev pub RanTurn : WorkerState → ℕ → WorkerState → Type 0
RanTurn old taken new = RanTurns old 1 taken new

-- the count of a scanner or of a reclaimer: with which it began, and which it has now
pub record HelperState : Type 0 where
  pub from : ℕ
  pub count : ℕ

-- what a helper's thread returns: its count, what it was told before, and whether it has begun
pub record HelpedState : Type 0 where
  pub helper : HelperState
  pub told : Pass Sign (Traffic Sign)
  pub has_begun : Bool

-- the counts of all threads: by worker, those of the owner itself, and how many offers and evictions there were beside these
pub record SharesState : Type 0 where
  pub tallies : List Tally
  pub owner : OwnCount
  pub offers : ℕ
  pub evictions : ℕ

-- The same, and how many workers, scanners and reclaimers have parts of the ledgers now.
pub record ThreadCountsState : Type 0 where
  pub tallies : List Tally
  pub owner : OwnCount
  pub offers : ℕ
  pub evictions : ℕ
  pub workers_out : ℕ
  pub scanners_out : ℕ
  pub reclaimers_out : ℕ

-- all parts of the ledgers are there
pub record HasAllParts (l : ThreadCountsState) : Type 0 where
  pub workers : l.workers_out ≡ 0
  pub scanners : l.scanners_out ≡ 0
  pub reclaimers : l.reclaimers_out ≡ 0

abbrev pub counts_of : ThreadCountsState → SharesState
counts_of l = record { tallies = l.tallies; owner = l.owner; offers = l.offers; evictions = l.evictions }

-- the turns and the charges of all workers
abbrev pub turns_of : List Tally → ℕ
turns_of tallies = sum_by (λ t. t.turns) tallies

abbrev pub charges_of : List Tally → ℕ
charges_of tallies = sum_by (λ t. t.charges) tallies

-- and those of all: of threads, and of the owner, which does it where no thread works
abbrev pub all_turns : SharesState → ℕ
all_turns s = turns_of s.tallies + s.owner.turns

abbrev pub all_charges : SharesState → ℕ
all_charges s = charges_of s.tallies + s.owner.charges

abbrev pub all_offers : SharesState → ℕ
all_offers s = s.offers + s.owner.offers

abbrev pub all_evictions : SharesState → ℕ
all_evictions s = s.evictions + s.owner.evictions

-- The owner has run one more turn, which took `taken` charges. Nothing else has changed.
abbrev pub RanOwnTurn : (old : SharesState) (taken : ℕ) (new : SharesState) → Type 0
RanOwnTurn old taken new =
    new ≡ record old { owner = record old.owner { turns = old.owner.turns + 1; charges = old.owner.charges + taken } }

-- It has offered `more` more pages. Nothing else has changed.
abbrev pub MadeOwnOffers : (old : SharesState) (more : ℕ) (new : SharesState) → Type 0
MadeOwnOffers old more new = new ≡ record old { owner = record old.owner { offers = old.owner.offers + more } }

-- It has evicted `more` more pages. Nothing else has changed.
abbrev pub MadeOwnEvictions : (old : SharesState) (more : ℕ) (new : SharesState) → Type 0
MadeOwnEvictions old more new = new ≡ record old { owner = record old.owner { evictions = old.owner.evictions + more } }

-- nobody has counted anything
pub record IsZero (s : SharesState) : Type 0 where
  pub seats : length s.tallies ≡ 64
  pub turns : turns_of s.tallies ≡ 0
  pub charges : charges_of s.tallies ≡ 0
  pub owner : s.owner ≡ record { turns = 0; charges = 0; offers = 0; evictions = 0 }
  pub offers : s.offers ≡ 0
  pub evictions : s.evictions ≡ 0
