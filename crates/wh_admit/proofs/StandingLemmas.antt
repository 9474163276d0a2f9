-- Whatever an admission is given represents some host.
use Rattle.std.proofs.Common.{◌≡◌, ℕ, zero, suc, ◌+◌, List, [], ◌∷◌, length, replicate, Option, Some, None, false, refl, sym, arith}
use Rattle.std.proofs.lemmas.List.{length-replicate}
use Rattle.wh_space_model.specs.declared.Tax.{Tax}
use Rattle.wh_space_model.specs.declared.states.Slot.TheVariants.{Vacant}
use Rattle.wh_space_model.specs.{zero_page, empty_space}
use Rattle.wh_host_model.specs.Host.{Tenant, World, Loaded, resting, live_count}
use Rattle.wh_admit.specs.declared.room.Room.{Room}
use Rattle.wh_admit.specs.RepresentedHost.{IsRoomLeft, RepresentsSome}

-- a host without a tax, and an instance of which nothing is known
abbrev no_tax : Tax
no_tax = record { num = 0; den = 1; below_one = omega arith; den_within = omega arith }

abbrev someone : Tenant
someone = record {
  place = 0;
  of = 0;
  params = record { shares = 1; min = 2; max = 2; fuel = 0; base = 0; salt = 0; inputs = [] };
  inst = record { types = []; funcs = []; page_limit = 0 };
  rest = record { globals = []; table = []; inputs = []; output = [] };
  doing = resting;
  ended = [];
  copied = 0;
  open_calls = [];
  waiting_for = None;
  dead = false;
}

-- n of them
crowd : ℕ → List (Option Tenant)
crowd zero = []
crowd (suc n) = Some someone ∷ crowd n

counted : (n : ℕ) → live_count (crowd n) ≡ n
unfolding crowd
counted zero = refl
counted (suc n) = let h = counted n in omega (arith, h)

-- with these modules
host_with : List (Option Loaded) → Room → World
host_with modules room = record {
  modules = modules;
  tenants = crowd room.live;
  space = empty_space room.frames
      room.slots no_tax;
}

all_left : (n : ℕ) {A : Type 0} (x : A) → n + 0 ≡ length (replicate n x)
all_left n x = let h = length-replicate n x in omega (arith, h)

room_left : (modules : List (Option Loaded)) (room : Room) → IsRoomLeft (host_with modules room) room
unfolding host_with
room_left modules room = record {
  frames = all_left room.frames zero_page;
  slots = all_left room.slots Vacant;
  live = sym (counted room.live);
}

pub stands_for_some : RepresentsSome
unfolding host_with
stands_for_some None room = (host_with [] room, 0, record { is_module = refl; room_left = room_left [] room })
stands_for_some (Some m) room =
    let l : Loaded = record { bytes = []; m = m } in
    (host_with (Some l ∷ []) room, 0, record { is_module = (l, refl, refl); room_left = room_left (Some l ∷ []) room })
