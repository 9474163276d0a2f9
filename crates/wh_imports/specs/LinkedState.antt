-- What contracts see of a linked module, and that it can be stored: as its parts.
use Rattle.std.specs.Prelude.{List, refl}
use Rattle.std.specs.Coded.{Coded, code_by, coded_list, coded×}
use Rattle.wh_model.specs.declared.host.HostFunc.{HostFunc}
use Rattle.wh_model.specs.contracts.host.HostFunc as func_type
use Rattle.wh_model.specs.declared.host.HostGlobal.{HostGlobal}
use Rattle.wh_model.specs.contracts.host.HostGlobal as global_type
use Rattle.wh_validate.specs.ValidModuleState.{ValidModuleState, stored_valid}

-- the valid module, and the functions and globals that its imports are, in order
pub record LinkedState : Type 0 where
  pub valid : ValidModuleState
  pub funcs : List HostFunc
  pub globals : List HostGlobal

abbrev pub stored_linked : Coded LinkedState
stored_linked =
    code_by (ValidModuleState × (List HostFunc × List HostGlobal))
    (coded× stored_valid (coded× (coded_list func_type.the_row.coded) (coded_list global_type.the_row.coded)))
    (λ j. (j.valid, (j.funcs, j.globals))) (λ p. record { valid = p.0; funcs = p.1.0; globals = p.1.1 }) (λ _. refl)
