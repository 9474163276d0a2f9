-- A host, the device beside it, and the tickets that are out.
use Rattle.std.specs.Prelude.{◌≡◌, ℕ, List, length, map, slice_get, Option, Some}
use Rattle.wh_space_model.specs.Errands.{Errand, pass_of, to_read, to_write}
use Rattle.wh_space_model.specs.Parts.{Space}
use Rattle.wh_host_model.specs.Host.Worlds.{World}
use Rattle.wh_host.specs.declared.transit.Eviction.{Eviction}
use Rattle.wh_host.specs.declared.transit.Fetch.{Fetch}
use Rattle.wh_host.specs.Hosting.{HostState, IsHost}

-- the slots of tickets
abbrev pub leaving_slots : List Eviction → List ℕ
leaving_slots evictions = map (λ (e : Eviction). e.ticket.slot) evictions

abbrev pub coming_slots : List Fetch → List ℕ
coming_slots fetches = map (λ (f : Fetch). f.ticket.slot) fetches

-- a ticket for this errand is out for each of these slots, and no two are for one slot
pub record AreOut (out : List (Option Errand)) (errand : Errand) (slots : List ℕ) : Type 0 where
  pub are : (n k : ℕ) → slice_get slots n ≡ Some k → slice_get out k ≡ Some (Some errand)
  pub apart : (m n k : ℕ) → slice_get slots m ≡ Some k → slice_get slots n ≡ Some k → m ≡ n

-- memory and device agree on what each slot holds, and these tickets are out
pub record IsCarried (s : Space) (held : List (List ℕ)) (evicted fetched : List ℕ) : Type 0 where
  pub agrees : s.slots.held ≡ held
  pub long : length (pass_of s).out ≡ length held
  pub leaving : AreOut (pass_of s).out to_write evicted
  pub coming : AreOut (pass_of s).out to_read fetched

-- there is a host of the definitions for which it stands
abbrev pub IsSomeHost : HostState → Type 0
IsSomeHost h = ∥ ((w : World) × IsHost h w) ∥₁
