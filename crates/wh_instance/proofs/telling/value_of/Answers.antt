use Rattle.std.proofs.Common.{◌∙◌, None, Option, Some, sym, subst, rules}
use Rattle.wh_instance.specs.declared.stages.CallValue.{CallValue}
use Rattle.wh_instance.specs.Told.{IsReturnedAs}
use Rattle.wh_instance.proofs.Told.{no_word, value_told}
use Rattle.wh_instance.proofs.telling.value_of.Goals as goal

pub returns-in_default : goal.returns-in_default
returns-in_default c = search rules

pub returns-in_default-word : goal.returns-in_default-word
returns-in_default-word c =
    let l = c.args.linked.now in
    let f = c.in-Some.func in
    let none : Option CallValue = None in
    subst (λ func. IsReturnedAs l func c.args.word none) (sym c.in-Some.is)
    (subst (λ word. IsReturnedAs l (Some f) word none) (sym c.in_default-word.is) (no_word l f))

pub returns-in-Some-result_type : goal.returns-in-Some-result_type
returns-in-Some-result_type c =
    let l = c.args.linked.now in
    let f = c.in-Some.func in
    let n = c.in-Some-word.word in
    let t = c.in-Some-result_type.of in
    let told : Option CallValue = Some (record { of = t; word = n }) in
    let by = value_told l f n (Some t) (λ cx inst type body is at. sym c.in-Some-result_type.is ∙ c.result_type.ensures cx inst type body is at) in
    subst (λ func. IsReturnedAs l func c.args.word told) (sym c.in-Some.is)
    (subst (λ word. IsReturnedAs l (Some f) word told) (sym c.in-Some-word.is) by)

pub returns-in-None : goal.returns-in-None
returns-in-None c =
    let l = c.args.linked.now in
    let f = c.in-Some.func in
    let none : Option CallValue = None in
    let by = value_told l f c.in-Some-word.word None (λ cx inst type body is at. sym c.in-None.is ∙ c.result_type.ensures cx inst type body is at) in
    subst (λ func. IsReturnedAs l func c.args.word none) (sym c.in-Some.is)
    (subst (λ word. IsReturnedAs l (Some f) word none) (sym c.in-Some-word.is) by)
