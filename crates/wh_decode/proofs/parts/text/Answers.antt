use Rattle.std.proofs.Common.{◌≡◌, ◌+◌, ◌-◌, ℕ, List, take, drop, Ok, sym, ap, ◌∙◌, arith}
use Rattle.std.proofs.lemmas.Bool.{cond-true, cond-false, false_from_ne_true}
use Rattle.std.proofs.lemmas.Str.{IsUtf8-from_is_utf8, is_utf8-from_IsUtf8}
use Rattle.std.specs.Str.{is_utf8}
use Rattle.wh_model.specs.declared.faults.FaultKind.TheVariants.{Utf8}
use Rattle.wh_leb.specs.Reading.{fail}
use Rattle.wh_decode.proofs.Text.{whole_text}
use Rattle.wh_decode.proofs.parts.text.Goals as goal

pub returns-in-Ok-clause-exact : goal.returns-in-Ok-clause-exact
returns-in-Ok-clause-exact c =
    let n : c.args.at + c.args.count - c.args.at ≡ c.args.count = omega arith in
    let x : List ℕ = take c.args.count (drop c.args.at c.args.bytes.now) in
    let same = rw n at c.in-Ok.ensures.cases.0 in
    let valid = rw n at c.in-Ok.ensures.cases.1 in
    whole_text c.args.bytes.now c.args.at c.args.count c.if-bytes-end.false
    ∙ cond-true (is_utf8 x) (Ok (x, c.args.at + c.args.count)) (fail Utf8 c.args.at) (is_utf8-from_IsUtf8 x valid)
    ∙ ap (λ (t : List ℕ). Ok (t, c.args.at + c.args.count)) (sym same)

pub returns-in-Err-clause-exact : goal.returns-in-Err-clause-exact
returns-in-Err-clause-exact c =
    let n : c.args.at + c.args.count - c.args.at ≡ c.args.count = omega arith in
    let x : List ℕ = take c.args.count (drop c.args.at c.args.bytes.now) in
    let bad = rw n at c.in-Err.ensures.cases.0 in
    let invalid : is_utf8 x ≡ _ = false_from_ne_true (is_utf8 x) (λ y. bad (IsUtf8-from_is_utf8 x y)) in
    rw c.fault-in-Err.ensures (λ _. whole_text c.args.bytes.now c.args.at c.args.count c.if-bytes-end.false ∙ cond-false (is_utf8 x) (Ok (x, c.args.at + c.args.count)) (fail Utf8 c.args.at) invalid)
