use Rattle.std.proofs.Common.{arith, ◌≡◌, ◌∷◌, ◌++◌, [], ◌∙◌, length, get_or, ap}
use Rattle.std.proofs.lemmas.List.{get_or_read}
use Rattle.wh_names.proofs.Chained.{pushed}
use Rattle.wh_names.proofs.chains.Chains.push.Goals as goal

pub returns-clause-chains : goal.returns-clause-chains
returns-clause-chains c f at chains =
    let heads = c.args.self.now.heads.items in
    let links = c.args.self.now.links.items in
    let b = c.args.bucket in
    let read : c.index.result.now ≡ get_or heads b 0 =
    get_or_read heads b c.index.result.now c.requires.bucket c.index.ensures 0 in
    let more : c.push_reserved.new.self.items ≡ links ++ get_or heads b 0 ∷ [] =
    c.push_reserved.ensures.items ∙ ap (λ x. links ++ x ∷ []) read in
    let all : c.len.result ≡ length links = omega arith in
    rw (all, more) (pushed f heads links b c.requires.bucket at chains)
