-- The parts of a module as they stand in the code, each valid (3.4.4 to 3.4.8). They are names that loops over parts
-- leave closed.
use Rattle.std.specs.Prelude.{List}
use Rattle.wh_model.specs.Format.Syntax as model
use Rattle.wh_model.specs.Validity.Typing.{Context}
use Rattle.wh_model.specs.Validity.Valid.{ConstantOf, ValidElement, ValidData, Exported}
use Rattle.wh_syntax.specs.View.{view_element, view_data}
use Rattle.wh_syntax.specs.declared.module.Global.{Global}
use Rattle.wh_syntax.specs.declared.module.Element.{Element}
use Rattle.wh_syntax.specs.declared.module.Data.{Data}
use Rattle.wh_syntax.specs.declared.module.Export.{Export}

-- the global's own expression is a constant of its type, where it sees these globals
unfoldable pub IsGlobal : List model.GlobalType → Global → Type 0
IsGlobal seen g = ConstantOf seen g.init g.global_type.value

unfoldable pub IsValidElement : Context → Element → Type 0
IsValidElement c e = ValidElement c (view_element e)

unfoldable pub IsSegment : Context → Data → Type 0
IsSegment c d = ValidData c (view_data d)

-- what is exported is there
unfoldable pub IsExport : Context → Export → Type 0
IsExport c e = Exported c e.kind e.index
