-- What is kept of an instance can be stored: as its parts.
use Rattle.std.specs.Prelude.{ℕ, List, refl}
use Rattle.std.specs.Coded.{Coded, code_by, coded_list, coded_ℕ, coded×}
use Rattle.wh_imports.specs.LinkedState.{LinkedState, stored_linked}
use Rattle.wh_control.specs.declared.store.Store.{Store}
use Rattle.wh_control.specs.contracts.store.Store as store_type
use Rattle.wh_machine.specs.declared.machine.Machine.{Machine}
use Rattle.wh_machine.specs.contracts.machine.Machine as machine_type
use Rattle.wh_flatmem.specs.FlatMemoryState.{FlatMemoryState}
use Rattle.wh_alone.specs.declared.outcome.Stage.{Stage}
use Rattle.wh_alone.specs.contracts.outcome.Stage as stage_type
use Rattle.wh_alone.specs.InstanceStates.{Kept}
use Rattle.wh_alone.specs.Journal.{InstanceState}

abbrev pub stored_flat : Coded FlatMemoryState
stored_flat =
    code_by (List ℕ × ℕ) (coded× (coded_list coded_ℕ) coded_ℕ) (λ m. (m.bytes, m.limit))
    (λ p. record { bytes = p.0; limit = p.1 }) (λ _. refl)

abbrev pub stored_kept : Coded Kept
stored_kept =
    code_by (LinkedState × (Store × (FlatMemoryState × Machine)))
    (coded× stored_linked (coded× store_type.the_row.coded (coded× stored_flat machine_type.the_row.coded)))
    (λ k. (k.linked, (k.store, (k.memory, k.machine))))
    (λ p. record { linked = p.0; store = p.1.0; memory = p.1.1.0; machine = p.1.1.1 }) (λ _. refl)

abbrev pub stored_plain : Coded InstanceState
stored_plain =
    code_by (Kept × Stage) (coded× stored_kept stage_type.the_row.coded) (λ i. (i.kept, i.stage))
    (λ p. record { kept = p.0; stage = p.1 }) (λ _. refl)
