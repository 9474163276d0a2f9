-- Which parts of the ledgers are lent.
use Rattle.std.specs.Prelude.{◌≡◌, ℕ, ◌+◌, ◌-◌, ◌*◌, ◌^◌, ◌<◌, ◌≤◌, length}
use Rattle.wh_threads.specs.Counting.{ThreadCountsState, turns_of, charges_of}
use Rattle.wh_threads.specs.declared.thread_counts.ThreadCounts.TheInside.{Inside}

-- of the ledgers of turns, charges, offers and evictions, which have that many parts, those are lent that aren't here
abbrev pub lender_of : {T C O E : Type 0} → (turns charges offers evictions : ℕ) → Inside T C O E → ThreadCountsState
lender_of turns charges offers evictions l = record {
  tallies = l.tallies.items;
  owner = l.owner;
  offers = l.offers;
  evictions = l.evictions;
  workers_out = turns - l.turn_share.parts;
  scanners_out = offers - l.offer_share.parts;
  reclaimers_out = evictions - l.eviction_share.parts;
}

-- There are parts for all seats; who has a part of the ledger of turns has one of that of charges; and what was counted
-- is what the parts have that are here: one that is lent begins at 0.
pub record AddsUp {T C O E : Type 0} (turns charges offers evictions : ℕ) (l : Inside T C O E) : Type 0 where
  pub seats : length l.tallies.items ≡ 64
  pub many_turn_parts : 64 < turns
  pub many_charge_parts : 64 < charges
  pub two_offer_parts : 1 < offers
  pub two_eviction_parts : 1 < evictions
  pub turn_parts : l.turn_share.parts ≤ turns
  pub charge_parts : l.charge_share.parts ≤ charges
  pub offer_parts : l.offer_share.parts ≤ offers
  pub eviction_parts : l.eviction_share.parts ≤ evictions
  pub together : turns - l.turn_share.parts ≡ charges - l.charge_share.parts
  pub turns_are : l.turn_share.amount ≡ turns_of l.tallies.items + l.owner.turns
  pub charges_are : l.charge_share.amount ≡ charges_of l.tallies.items + l.owner.charges
  pub offers_are : l.offer_share.amount ≡ l.offers + l.owner.offers
  pub evictions_are : l.eviction_share.amount ≡ l.evictions + l.owner.evictions
  pub own_charges_few : l.owner.charges ≤ l.owner.turns * 2 ^ 32
