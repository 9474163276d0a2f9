use Rattle.std.proofs.Common.{arith, ◌≡◌, ◌∷◌, ◌++◌, [], ◌%◌, ◌∙◌, None, length, ap, sym, subst}
use Rattle.std.proofs.lemmas.List.{length_push}
use Rattle.wh_names.specs.NameHash.{hash_of}
use Rattle.wh_names.specs.NameIndex.{IsIndex}
use Rattle.wh_names.specs.NamePlaces.{place_of_name, AreNamedOnce}
use Rattle.wh_names.proofs.Indexed.{index_more}
use Rattle.wh_names.proofs.Places.{apart_more}
use Rattle.wh_names.proofs.names.Names.add.Goals as goal

pub invariant_of-self-2 : goal.invariant_of-self-2
invariant_of-self-2 c =
    let names = c.self.inside.texts in
    let name = c.args.name.now in
    let chains = c.make_room.new.chains in
    let all : c.len-2.result ≡ length chains.heads.items = omega arith in
    let falls : c.bucket_of-bucket.result ≡ hash_of name % length chains.heads.items =
    cc (c.bucket_of-bucket.ensures, c.as_bytes.ensures.value, all) in
    let more : c.add.new.self ≡ names ++ name ∷ [] =
    c.in_ok-add.ensures.ok ∙ ap (λ x. names ++ x ∷ []) c.as_bytes-2.ensures.value in
    let long = ap length more ∙ length_push names name in
    let free : place_of_name names name ≡ None = ap (λ xs. place_of_name xs name) c.self.view_is ∙ c.requires in
    record {
      few = omega (arith, long);
      apart = subst AreNamedOnce (sym more) (apart_more names name c.self.invariant.apart free);
      index = subst (λ xs. IsIndex xs c.push.new.self) (sym more)
          (index_more names name chains c.push.new.self c.in_ok-make_room.ensures.index c.in_ok-make_room.ensures.buckets
          c.push.ensures.heads c.push.ensures.links (λ f at are. c.push.ensures.chains f (at ∙ sym falls) are));
    }
