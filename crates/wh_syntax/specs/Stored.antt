-- A nested sequence can be stored: as its instructions in binary order and the pool of their labels.
use Rattle.std.specs.Prelude.{ℕ, List, map}
use Rattle.std.specs.Coded.{Coded, code_by, coded_list, coded_ℕ, coded×}
use Rattle.wh_syntax.specs.declared.instr.Instr.{Instr}
use Rattle.wh_syntax.specs.contracts.instr.Instr as instr_type
use Rattle.wh_model.specs.Format.Syntax.{Code, expression}
use Rattle.wh_model.specs.Focus.Nested.{nested}
use Rattle.wh_syntax.specs.Laid.{laid_instrs, laid_labels}
use Rattle.wh_syntax.specs.Shown.{instr_of}
use Rattle.wh_syntax.specs.ShownLaid.{shown-laid}

abbrev pub stored_code : Coded Code
stored_code = code_by (List Instr × List ℕ) (coded× (coded_list instr_type.the_row.coded) (coded_list coded_ℕ))
    (λ c. (laid_instrs 0 (expression c), laid_labels (expression c))) (λ p. nested (map (instr_of p.1) p.0)) shown-laid
