use Rattle.std.proofs.Common.{◌∙◌, map, ap}
use Rattle.wh_model.specs.Execution.{first_size}
use Rattle.wh_syntax.specs.View.{view_table}
use Rattle.wh_initial.specs.Given.{view_parameters}
use Rattle.wh_initial.specs.InWords.{words_of_globals}
use Rattle.wh_initial.proofs.InWordsLemmas.{elements_bound}
use Rattle.wh_initial.proofs.beginning.make.Goals as goal

pub first_table-requires-clause-within : goal.first_table-requires-clause-within
first_table-requires-clause-within c =
    let m = c.args.decoded.now in
    let p = view_parameters c.args.parameters in
    let entries = c.first_entries.ensures ∙ ap (λ w. first_size (map view_table w)) c.deref.ensures.value in
    elements_bound m (words_of_globals m c.args.imported.now p) c.first_entries.result entries c.requires.in_bounds.1
