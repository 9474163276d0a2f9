-- What contracts see of a valid module, and that it can be stored: as the pair of its parts.
use Rattle.std.specs.Prelude.{List, refl}
use Rattle.std.specs.Coded.{Coded, code_by, coded_list, coded×}
use Rattle.wh_syntax.specs.declared.module.Module.{Module}
use Rattle.wh_syntax.specs.contracts.module.Module as module_type
use Rattle.wh_bodies.specs.declared.table.SideTable.{SideTable}
use Rattle.wh_bodies.specs.contracts.table.SideTable as side_type

-- the module, and the table of each of its bodies
pub record ValidModuleState : Type 0 where
  pub decoded : Module
  pub tables : List SideTable

abbrev pub stored_valid : Coded ValidModuleState
stored_valid = code_by (Module × List SideTable) (coded× module_type.the_row.coded (coded_list side_type.the_row.coded))
    (λ v. (v.decoded, v.tables)) (λ p. record { decoded = p.0; tables = p.1 }) (λ _. refl)
