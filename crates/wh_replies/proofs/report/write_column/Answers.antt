use Rattle.std.proofs.Common.{◌≡◌, ◌++◌, ◌∙◌, ap, OnOk, string_bytes, subst, arith}
use Rattle.std.proofs.lemmas.Bool.{ne_eqb}
use Rattle.std.specs.Fmt.{styled_decimal}
use Rattle.wh_script_model.specs.{column}
use Rattle.wh_replies.proofs.Columns.{column_of}
use Rattle.wh_replies.proofs.report.write_column.Goals as goal

pub returns : goal.returns
returns c =
    let same : styled_decimal c.laid_out.result c.args.n ≡ column c.args.width c.args.n =
    ap (λ spec. styled_decimal spec c.args.n) c.laid_out.ensures ∙ column_of c.args.width c.args.n (ne_eqb c.args.width 0 (λ e. omega (arith, c.requires.above, e))) in
    subst (λ shown. OnOk c.write.result (string_bytes c.write.new.self ≡ string_bytes c.args.text.now ++ shown)) same
    c.write.ensures.bytes
