use Rattle.std.proofs.Common.{◌≡◌, ◌+◌, ◌∙◌, sym, Some, ap, rules, arith}
use Rattle.std.proofs.lemmas.Bool.Decides.{nat_tests}
use Rattle.wh_space_model.specs.{Space, sharers}
use Rattle.wh_space.specs.Parts.{space_of}
use Rattle.wh_space.specs.Steps.{SharesAlone, frame_shared}
use Rattle.wh_space.proofs.Wants.{same_page, shared_taken_by}
use Rattle.wh_space.proofs.memory.Memory.share_alone.Goals as goal

pub sharers_of-requires : goal.sharers_of-requires
sharers_of-requires c =
    rw (← c.self.view_is) (shared_taken_by (space_of c.self.inside) c.args.place c.args.number c.in-Some.frame c.page.result c.self.invariant.sound c.page.ensures (sym c.shared_under.ensures ∙ c.in-Some.is)).0

pub returns : goal.returns
returns c =
    let s = space_of c.self.inside in
    let many : c.sharers_of.result ≡ sharers s c.in-Some.frame = c.sharers_of.ensures ∙ ap (λ (z : Space). sharers z c.in-Some.frame) (sym c.self.view_is) in
    let shared : frame_shared c.page.result ≡ Some c.in-Some.frame = sym c.shared_under.ensures ∙ c.in-Some.is in
    let also : frame_shared c.page-2.result ≡ Some c.in-Some-shared_under.other = sym c.shared_under-2.ensures ∙ c.in-Some-shared_under.is in
    let same : c.in-Some.frame ≡ c.in-Some-shared_under.other = (search rules) in
    rw (← c.self.view_is) (
      λ yes. record {
        frame = c.in-Some.frame;
        first = c.page.result;
        second = c.page-2.result;
        here = c.page.ensures;
        there = c.page-2.ensures;
        shared = shared;
        also = also ∙ ap Some (sym same);
        alone = (let two : c.sharers_of.result ≡ 2 = grind (arith, nat_tests) in sym many ∙ two);
      },
      λ (a : SharesAlone s c.args.place c.args.number (c.args.number + 1)). (
          let page = same_page s.tables c.args.place c.args.number a.first c.page.result a.here c.page.ensures in
          let frame : Some a.frame ≡ Some c.in-Some.frame = sym a.shared ∙ (ap frame_shared page ∙ shared) in
          let one : a.frame ≡ c.in-Some.frame = cc in
          let two : c.sharers_of.result ≡ 2 = many ∙ (ap (sharers s) (sym one) ∙ a.alone) in
          grind (arith, nat_tests)),
    )
