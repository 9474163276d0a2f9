-- What may happen to a host: all that is asked of it, with the answers of devices.
use Rattle.std.specs.Prelude.{ℕ, List, Option, ℤ}
use Rattle.wh_space_model.specs.declared.plain.InstId.{InstId}
use Rattle.wh_space_model.specs.declared.plain.SwapError.{SwapError}
use Rattle.wh_host_model.specs.Owners.{Params, Quota}

-- a page of 4096 bytes of a linear memory
pub record PageId : Type 0 where
  pub id : InstId
  pub page : ℕ

pub data Event : Type 0 where
  -- an instance gets a turn of q charges
  turn : (id : InstId) (q : ℕ) → Event
  -- the owner's requests
  load : (bytes : List ℕ) → Event
  admit : (of : ℕ) (p : Params) → Event
  invoke : (id : InstId) (name : List ℕ) (given : List ℤ) (fuel : ℕ) → Event
  refuel : (id : InstId) (n : ℕ) → Event
  cancel : (id : InstId) → Event
  retry : (id : InstId) → Event
  release : (id : InstId) → Event
  fork : (id : InstId) (q : Quota) → Event
  unload : (of : ℕ) → Event
  -- a page is offered for sharing, under any hash value
  offer : (page : PageId) (hash : ℕ) → Event
  -- a page is to leave, or to come, for an instance that waits for a frame; and that is committed, by the ticket of
  -- the call at this place in its journal, with the fault of the device if the answer is that it failed
  evict_begin : (id : InstId) → Event
  evict_commit : (id : InstId) (call : ℕ) (fault : Option SwapError) → Event
  fetch_begin : (id : InstId) → Event
  fetch_commit : (id : InstId) (call : ℕ) (fault : Option SwapError) → Event
  -- the next step of an instance is made ready, with device calls, the last of which may fail
  provide : (id : InstId) (fault : Option SwapError) → Event
  -- all marks of touched pages are cleared
  epoch : Event
