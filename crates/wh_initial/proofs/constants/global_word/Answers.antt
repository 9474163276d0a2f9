use Rattle.std.proofs.Common.{arith, ◌∙◌, ◌-◌, ap, length, subst, sym}
use Rattle.wh_syntax.specs.declared.module.Global.{Global}
use Rattle.wh_initial.specs.Given.{view_parameters}
use Rattle.wh_initial.specs.ConstantWords.{word_in, IsSeen}
use Rattle.wh_initial.specs.InBasis.{host_words_in}
use Rattle.wh_initial.proofs.InWordsLemmas.{own_there, imported_at, own_at}
use Rattle.wh_initial.proofs.constants.global_word.Goals as goal

pub index-requires : goal.index-requires
index-requires c =
    let s = c.args.basis.now in
    let there = own_there s.module.now s.imported.now (view_parameters s.parameters.now) c.args.index c.requires.there
    c.if-index-imported.false in
    omega (arith, there, s.module.now.globals.ok)

pub own_word-requires : goal.own_word-requires
own_word-requires c =
    let s = c.args.basis.now in
    let there = own_there s.module.now s.imported.now (view_parameters s.parameters.now) c.args.index c.requires.there
    c.if-index-imported.false in
    subst (λ (g : Global). IsSeen (length s.imported.now) g.init) (sym c.index.ensures)
    (c.requires.prepared.globals (c.args.index - length s.imported.now) c.index.result.now there)

pub returns-then-index-imported : goal.returns-then-index-imported
returns-then-index-imported c =
    let s = c.args.basis.now in
    c.imported_word.ensures ∙ imported_at s.module.now s.imported.now (view_parameters s.parameters.now) c.args.index
    c.if-index-imported.true

pub returns-else-index-imported : goal.returns-else-index-imported
returns-else-index-imported c =
    let s = c.args.basis.now in
    let there = own_there s.module.now s.imported.now (view_parameters s.parameters.now) c.args.index c.requires.there
    c.if-index-imported.false in
    c.own_word.ensures
    ∙ ap (λ (g : Global). word_in (host_words_in s) g.init) c.index.ensures
    ∙ own_at s.module.now s.imported.now (view_parameters s.parameters.now) c.args.index c.index.result.now
    c.if-index-imported.false there
