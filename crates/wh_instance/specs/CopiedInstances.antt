-- What a copy of an instance is.
use Rattle.std.specs.Prelude.{◌≡◌, ◌≤◌, length, None}
use Rattle.std.specs.Vec.{vec_capacity}
use Rattle.wh_model.specs.Execution.Store.{output_room}
use Rattle.wh_control.specs.declared.store.Store as code_store
use Rattle.wh_instance.specs.OwnerRequests.{OfAnyTenant}
use Rattle.wh_instance.specs.Tenancy.{HostInstanceState, IsTenant}

-- globals, table, inputs and output are the same, and there is room for all output
pub record HasSameItems (k k2 : code_store.Store) : Type 0 where
  pub globals : k2.globals.items ≡ k.globals.items
  pub table : k2.table.items ≡ k.table.items
  pub inputs : k2.inputs.items ≡ k.inputs.items
  pub output : k2.output.items ≡ k.output.items
  pub room : output_room ≤ vec_capacity k2.output

-- With the same bytes it represents what the other one does, whatever instance that is, but for what a copy has of its own: all of
-- its ended calls are copied, and it waits for nothing.
abbrev pub CopiesInstance : HostInstanceState → HostInstanceState → Type 0
CopiesInstance x x2 =
    OfAnyTenant x (λ l limit bytes t.
    IsTenant l limit x2 bytes (record t { copied = length t.ended; waiting_for = None }))
