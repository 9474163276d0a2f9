-- What contracts see of an instance can be stored: as its parts.
use Rattle.std.specs.Prelude.{ℕ, Bool, List, Option, refl}
use Rattle.std.specs.Coded.{Coded, code_by, coded_bool, coded_list, coded_option, coded_ℕ, coded×}
use Rattle.wh_control.specs.declared.store.Store.{Store}
use Rattle.wh_control.specs.contracts.store.Store as store_type
use Rattle.wh_machine.specs.declared.machine.Machine.{Machine}
use Rattle.wh_machine.specs.contracts.machine.Machine as machine_type
use Rattle.wh_journal.specs.Calls.{JournalState, stored_journal}
use Rattle.wh_instance.specs.declared.writing.Cursor.{Cursor}
use Rattle.wh_instance.specs.contracts.writing.Cursor as cursor_type
use Rattle.wh_instance.specs.declared.stages.CallStage.{CallStage}
use Rattle.wh_instance.specs.contracts.stages.CallStage as progress_type
use Rattle.wh_instance.specs.declared.stages.Suspension.{Suspension}
use Rattle.wh_instance.specs.contracts.stages.Suspension as suspension_type
use Rattle.wh_instance.specs.Tenancy.{HostInstanceState}

abbrev pub stored_tenant : Coded HostInstanceState
stored_tenant =
    code_by (Store × (Machine × (List ℕ × (Cursor × (CallStage × (JournalState × (Option Suspension × Bool)))))))
    (coded× store_type.the_row.coded (coded× machine_type.the_row.coded (coded× (coded_list coded_ℕ)
    (coded× cursor_type.the_row.coded (coded× progress_type.the_row.coded (coded× stored_journal
    (coded× (coded_option suspension_type.the_row.coded) coded_bool)))))))
    (λ x. (x.store, (x.machine, (x.places, (x.cursor, (x.progress, (x.journal, (x.waiting_for, x.dead))))))))
    (λ p. record {
      store = p.0;
      machine = p.1.0;
      places = p.1.1.0;
      cursor = p.1.1.1.0;
      progress = p.1.1.1.1.0;
      journal = p.1.1.1.1.1.0;
      waiting_for = p.1.1.1.1.1.1.0;
      dead = p.1.1.1.1.1.1.1;
    })
    (λ _. refl)
