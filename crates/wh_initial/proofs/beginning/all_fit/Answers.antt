use Rattle.std.proofs.Common.{◌∙◌, ◌*◌, map, ap}
use Rattle.wh_model.specs.Execution.{first_size}
use Rattle.wh_syntax.specs.View.{view_limits, view_table}
use Rattle.wh_initial.specs.InBasis.{words_of_basis}
use Rattle.wh_initial.proofs.InWordsLemmas.{elements_pass, both_decide}
use Rattle.wh_initial.proofs.beginning.all_fit.Goals as goal

pub returns-then-elements_fit : goal.returns-then-elements_fit
returns-then-elements_fit c =
    let s = c.args.basis.now in
    let entries = c.from-entries.ensures ∙ c.first_entries.ensures ∙ ap (λ w. first_size (map view_table w))
    c.deref.ensures.value in
    let pages = c.from.ensures ∙ c.first_pages.ensures ∙ ap (λ w. first_size (map view_limits w))
    c.deref-2.ensures.value in
    both_decide s.module.now (words_of_basis s) c.from-entries.result c.elements_fit.result entries
    c.elements_fit.ensures (c.from.result * 65536) c.segments_fit.result (ap (λ n. n * 65536) pages)
    c.if-elements_fit.true c.segments_fit.ensures

pub returns-else-elements_fit : goal.returns-else-elements_fit
returns-else-elements_fit c =
    let s = c.args.basis.now in
    let entries = c.from-entries.ensures ∙ c.first_entries.ensures ∙ ap (λ w. first_size (map view_table w))
    c.deref.ensures.value in
    elements_pass s.module.now (words_of_basis s) c.from-entries.result c.elements_fit.result entries
    c.elements_fit.ensures c.if-elements_fit.false
