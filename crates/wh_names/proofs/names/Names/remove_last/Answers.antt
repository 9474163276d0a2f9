use Rattle.std.proofs.Common.{arith, ◌≡◌, ◌+◌, ◌-◌, ◌%◌, ◌∙◌, length, take, ap, sym, subst}
use Rattle.std.proofs.lemmas.List.{length-take}
use Rattle.wh_names.specs.NameHash.{hash_of}
use Rattle.wh_names.specs.NameIndex.{IsIndex}
use Rattle.wh_names.specs.NamePlaces.{AreNamedOnce}
use Rattle.wh_names.proofs.Indexed.{index_fewer}
use Rattle.wh_names.proofs.Places.{apart_take}
use Rattle.wh_names.proofs.names.Names.remove_last.Goals as goal

pub invariant_of-self : goal.invariant_of-self
invariant_of-self c =
    let names = c.self.inside.texts in
    let name = c.get.result.now in
    let chains = c.self.inside.chains in
    let last = c.in-Some.last in
    let one_more : length names ≡ last + 1 = omega arith in
    let all : c.len-2.result ≡ length chains.heads.items = omega arith in
    let falls : c.bucket_of-bucket.result ≡ hash_of name % length chains.heads.items =
    c.bucket_of-bucket.ensures ∙ ap (λ n. hash_of name % n) all in
    let at : length names - 1 ≡ last = omega (arith, one_more) in
    let fewer : c.remove_last.new.self ≡ take last names = c.remove_last.ensures ∙ ap (λ n. take n names) at in
    let short = ap length fewer ∙ length-take last names in
    let few = c.self.invariant.few in
    record {
      few = omega (arith, short, few);
      apart = subst AreNamedOnce (sym fewer) (apart_take names last c.self.invariant.apart);
      index = subst (λ xs. IsIndex xs c.pop.new.self) (sym fewer)
          (index_fewer names name last chains c.pop.new.self c.self.invariant.index one_more c.get.ensures c.pop.ensures.heads
          c.pop.ensures.links (λ f was are. c.pop.ensures.chains f (was ∙ sym falls) are));
    }
