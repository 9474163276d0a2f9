-- Constant instructions (3.3.7).
use Rattle.std.specs.Prelude.{◌≡◌, List, Some, slice_get}
use Rattle.wh_model.specs.declared.ValType.{ValType}
use Rattle.wh_model.specs.declared.ValType.TheVariants.{I32, I64}
use Rattle.wh_model.specs.declared.Mutability.TheVariants.{Const}
use Rattle.wh_model.specs.Format.Syntax.{GlobalType}
use Rattle.wh_syntax.specs.declared.instr.Instr.{Instr}
use Rattle.wh_syntax.specs.declared.instr.Instr.TheVariants.{I32Const, I64Const, GlobalGet}

-- the instruction is a constant of the type, or reads one of these globals, of the type and never written
abbrev pub IsConstant : List GlobalType → Instr → ValType → Type 0
IsConstant globals (I32Const n) t = t ≡ I32
IsConstant globals (I64Const n) t = t ≡ I64
IsConstant globals (GlobalGet x) t = slice_get globals x ≡ Some (record { value = t; mutability = Const })
IsConstant globals _ t = ⊥
