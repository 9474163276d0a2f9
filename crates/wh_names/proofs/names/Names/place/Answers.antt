use Rattle.std.proofs.Common.{arith, ◌≡◌, ◌≢◌, ℕ, ◌+◌, ◌<◌, ◌≤◌, ◌%◌, ◌∙◌, length, get_or, slice_get, Some, ap, sym, subst, inl, inr}
use Rattle.std.proofs.lemmas.Bool.{cases_order}
use Rattle.std.proofs.lemmas.Bool.Decides.{Decides-eqb}
use Rattle.std.proofs.lemmas.List.{get_or_read}
use Rattle.std.proofs.lemmas.Option.{same_Some}
use Rattle.std.proofs.lemmas.Slice.Eq.{slice_eq-Decides}
use Rattle.wh_names.specs.NameChains.{LeadsToName}
use Rattle.wh_names.specs.NameHash.{hash_of, bucket_at}
use Rattle.wh_names.specs.NamePlaces.{place_of_name}
use Rattle.wh_names.proofs.Indexed.{without_from, without_past, there_from, leads_down}
use Rattle.wh_names.proofs.Places.{place_is, place_none}
use Rattle.wh_names.proofs.names.Names.place.Goals as goal

pub loop-before-init : goal.loop-before-init
loop-before-init c =
    let names = c.self.inside.texts in
    let name = c.args.name.now in
    let heads = c.self.inside.chains.heads.items in
    let links = c.self.inside.chains.links.items in
    let index = c.self.invariant.index in
    let many = index.links in
    let b = c.bucket_of-bucket.result in
    let all : c.len-2.result ≡ length heads = omega arith in
    let falls : b ≡ hash_of name % length heads = cc (c.bucket_of-bucket.ensures, c.as_bytes-name.ensures.value, all) in
    let within : b < length heads = omega (arith, falls, index.buckets) in
    let read : c.index-link.result.now ≡ get_or heads b 0 =
    get_or_read heads b c.index-link.result.now within c.index-link.ensures 0 in
    let leads = subst (λ l. LeadsToName (bucket_at names (length heads)) b (length links) l) (sym read)
    (index.chains.from_head b within) in
    record {
      there = there_from names (length heads) b (length links) c.index-link.result.now leads (omega (arith, many));
      without = without_from names name (length heads) b (length links) c.index-link.result.now leads falls
          (λ k past. without_past names name k (omega (arith, past, many)));
    }

pub get-requires : goal.get-requires
get-requires c =
    let e : c.loop-before.link ≡ c.in-Some.before + 1 = omega arith in
    (c.loop-before.invariant.there c.in-Some.before e).0

pub returns-then-eq : goal.returns-then-eq
returns-then-eq c =
    let name = c.args.name.now in
    let same : c.get.result.now ≡ name = (slice_eq-Decides Decides-eqb _ _ _ c.eq.ensures).0 c.if-eq.true ∙ c.as_bytes-name.ensures.value in
    sym (place_is c.self.inside.texts name c.in-Some.before c.self.invariant.apart (c.get.ensures ∙ ap (λ x. Some x) same))
    ∙ ap (λ xs. place_of_name xs name) c.self.view_is

pub index-link-requires-in-Some : goal.index-link-requires-in-Some
index-link-requires-in-Some c =
    let e : c.loop-before.link ≡ c.in-Some.before + 1 = omega arith in
    let less = (c.loop-before.invariant.there c.in-Some.before e).0 in
    omega (arith, less, c.self.invariant.index.links)

pub loop-before-smaller : goal.loop-before-smaller
loop-before-smaller c =
    let before = c.in-Some.before in
    let e : c.loop-before.link ≡ before + 1 = omega arith in
    let less = (c.loop-before.invariant.there before e).0 in
    let links = c.self.inside.chains.links.items in
    let index = c.self.invariant.index in
    let within : before < length links = omega (arith, less, index.links) in
    let read : c.index-link-in-Some.result.now ≡ get_or links before 0 =
    get_or_read links before c.index-link-in-Some.result.now within c.index-link-in-Some.ensures 0 in
    let down = leads_down _ _ before (get_or links before 0) (index.chains.from_name before within) in
    omega (arith, read, down, e)

pub loop-before-preserved : goal.loop-before-preserved
loop-before-preserved c =
    let names = c.self.inside.texts in
    let name = c.args.name.now in
    let before = c.in-Some.before in
    let e : c.loop-before.link ≡ before + 1 = omega arith in
    let was = c.loop-before.invariant.there before e in
    let less = was.0 in
    let heads = c.self.inside.chains.heads.items in
    let links = c.self.inside.chains.links.items in
    let index = c.self.invariant.index in
    let within : before < length links = omega (arith, less, index.links) in
    let b = c.bucket_of-bucket.result in
    let all : c.len-2.result ≡ length heads = omega arith in
    let falls : b ≡ hash_of name % length heads = cc (c.bucket_of-bucket.ensures, c.as_bytes-name.ensures.value, all) in
    let read : c.index-link-in-Some.result.now ≡ get_or links before 0 =
    get_or_read links before c.index-link-in-Some.result.now within c.index-link-in-Some.ensures 0 in
    let of_name = subst (λ l. LeadsToName (bucket_at names (length heads)) (bucket_at names (length heads) before) before l)
    (sym read) (index.chains.from_name before within) in
    let leads = subst (λ k. LeadsToName (bucket_at names (length heads)) k before c.index-link-in-Some.result.now) was.1 of_name in
    let other : c.get.result.now ≢ name =
    λ same.
    let holds = (slice_eq-Decides Decides-eqb _ _ _ c.eq.ensures).1 (same ∙ sym c.as_bytes-name.ensures.value) in
    cc (holds, c.if-eq.false) in
    let none : (k : ℕ) → before ≤ k → slice_get names k ≢ Some name =
    λ k past has. elim (cases_order k before) [
      | inl at ↦ other (same_Some _ _ (sym c.get.ensures ∙ ap (slice_get names) (sym at) ∙ has))
      | inr (inl short) ↦ absurd (omega arith)
      | inr (inr far) ↦ c.loop-before.invariant.without k (omega (arith, far, e)) has
    ] in
    record {
      there = there_from names (length heads) b before c.index-link-in-Some.result.now leads (omega (arith, less));
      without = without_from names name (length heads) b before c.index-link-in-Some.result.now leads falls none;
    }

pub returns : goal.returns
returns c =
    let name = c.args.name.now in
    let no_link : c.loop-before.link ≡ 0 = omega arith in
    sym (place_none c.self.inside.texts name (λ k. c.loop-before.invariant.without k (omega (arith, no_link))))
    ∙ ap (λ xs. place_of_name xs name) c.self.view_is
