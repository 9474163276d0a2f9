-- That no tenant's bytes reach another: the outcome of an instance depends on what was asked of it, and on nothing else.
use Rattle.std.specs.Prelude.{◌≡◌, ℕ, List, map, Some}
use Rattle.wh_model.specs.Execution.Replay.{Outcome, returned, stopped, cancelled, dead, pending, Call}
use Rattle.wh_space_model.specs.declared.Tax.{Tax}
use Rattle.wh_space_model.specs.Parts.{view}
use Rattle.wh_host_model.specs.Host.Worlds.{Tenant, Loaded, World, journal, tenant, empty_world, loaded_of}
use Rattle.wh_host_model.specs.Owners.{Entry}
use Rattle.wh_host_model.specs.Host.Events.{Event}
use Rattle.wh_host_model.specs.Host.Happens.{AllHappen}

-- an outcome without its answer: the call is open, was cancelled, or has ended otherwise
abbrev pub unanswered : Outcome → Outcome
unanswered (returned results) = dead
unanswered (stopped trap) = dead
unanswered dead = dead
unanswered cancelled = cancelled
unanswered pending = pending

-- a call without its answer: what was asked, the fuel that was given, and how far it was brought
abbrev pub call_asked : Call → Call
call_asked call = record call { outcome = unanswered call.outcome }

abbrev pub asked : Entry → Entry
asked e = record e { call = call_asked e.call }

-- Two instances, each in a host of its own, are of one module, were given the same base, salt and inputs, and may grow as
-- far; and the same was asked of both: the same calls, with as many fragments and charges. The calls that were copied
-- with an instance, which were asked of the one that it is a copy of, count as asked of it. Quotas may differ.
pub record AreTreatedAlike (w w2 : World) (t t2 : Tenant) : Type 0 where
  pub loaded : Loaded
  pub loaded2 : Loaded
  pub is_loaded : loaded_of w t.of ≡ Some loaded
  pub is_loaded2 : loaded_of w2 t2.of ≡ Some loaded2
  pub of_one : loaded.m ≡ loaded2.m
  pub base : t.params.base ≡ t2.params.base
  pub salt : t.params.salt ≡ t2.params.salt
  pub inputs : t.params.inputs ≡ t2.params.inputs
  pub limit : t.inst.page_limit ≡ t2.inst.page_limit
  pub calls : map asked (journal t) ≡ map asked (journal t2)

-- they answered the same, and have the same globals and table, wrote the same, and see the same
pub record ComeToTheSame (w w2 : World) (t t2 : Tenant) : Type 0 where
  pub journals : journal t ≡ journal t2
  pub globals : t.rest.globals ≡ t2.rest.globals
  pub tables : t.rest.table ≡ t2.rest.table
  pub outputs : t.rest.output ≡ t2.rest.output
  pub views : view w.space t.place ≡ view w2.space t2.place

-- Whatever happens in the two hosts beside, to whomever, with whatever frames, slots and tax: two instances that are
-- treated alike come to the same.
abbrev pub NoBytesReachAnother : Type 0
NoBytesReachAnother =
    (frames slots frames2 slots2 : ℕ) (tax tax2 : Tax) (events events2 : List Event) (w w2 : World)
    → AllHappen (empty_world frames slots tax) events w → AllHappen (empty_world frames2 slots2 tax2) events2 w2
    → (i j : ℕ) (t t2 : Tenant) → tenant w i ≡ Some t → tenant w2 j ≡ Some t2
    → AreTreatedAlike w w2 t t2 → ComeToTheSame w w2 t t2
