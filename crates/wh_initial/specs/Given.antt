-- What the owner of an instance gives it, as the definitions of instantiation have it.
use Rattle.wh_model.specs.Execution.Instance as model
use Rattle.wh_initial.specs.declared.parameters.Parameters.{Parameters}

abbrev pub view_parameters : Parameters → model.Parameters
view_parameters p = record { base = p.base; salt = p.salt; inputs = p.inputs.items; page_limit = p.page_limit }
