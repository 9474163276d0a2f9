-- What the definitions see of what an admission is given.
use Rattle.std.specs.Prelude.{Option, Some, None}
use Rattle.wh_model.specs.Format.Syntax.{Module}
use Rattle.wh_syntax.specs.View.{view_module}
use Rattle.wh_imports.specs.LinkedState.{LinkedState}

-- the module that was linked, if there is one
abbrev pub linked_module : Option LinkedState → Option Module
linked_module None = None
linked_module (Some linked) = Some (view_module linked.valid.decoded)
