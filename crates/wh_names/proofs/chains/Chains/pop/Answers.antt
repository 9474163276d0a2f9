use Rattle.std.proofs.Common.{arith, ◌≡◌, ◌+◌, ◌-◌, ◌<◌, ◌∙◌, length, take, get_or, ap}
use Rattle.std.proofs.lemmas.List.{get_or_read}
use Rattle.wh_names.proofs.Chained.{popped}
use Rattle.wh_names.proofs.chains.Chains.pop.Goals as goal

pub returns-clause-chains : goal.returns-clause-chains
returns-clause-chains c f at chains =
    let links = c.args.self.now.links.items in
    let n = length links - 1 in
    let some = c.requires.last in
    let all : c.len-last.result ≡ length links = omega arith in
    let place : c.len-last.result - 1 ≡ n = ap (λ k. k - 1) all in
    let less : c.len-last.result - 1 < length links = omega (arith, all, some) in
    let read : c.index.result.now ≡ get_or links n 0 =
    get_or_read links (c.len-last.result - 1) c.index.result.now less c.index.ensures 0 ∙ ap (λ k. get_or links k 0) place in
    let fewer : c.truncate.new.self.items ≡ take n links = c.truncate.ensures.items ∙ ap (λ k. take k links) place in
    let one_more : length links ≡ n + 1 = omega (arith, some) in
    rw (read, fewer) (popped f c.args.self.now.heads.items links c.args.bucket n one_more c.requires.bucket at chains)
