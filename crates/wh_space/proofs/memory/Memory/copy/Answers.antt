use Rattle.std.proofs.Common.{ap, subst, ◌∙◌, ◌≡◌, ◌*◌, ◌/◌, [], length, get_or, arith}
use Rattle.wh_space_model.specs.{LendsFirst, Space, Enters, IsSound}
use Rattle.wh_space.specs.Arrivals.{claimed}
use Rattle.wh_space.proofs.Copying.{may_lend_all, whole_table}
use Rattle.wh_space.proofs.memory.Memory.copy.Goals as goal

pub lend_all-requires-clause-here : goal.lend_all-requires-clause-here
lend_all-requires-clause-here c =
    let s : Space = c.args.self.now in
    let n = c.len_at-pages.result in
    let sound : IsSound s = subst IsSound c.self.view_is c.self.invariant.sound in
    let long : n ≡ length (get_or s.tables c.args.from []) = c.len_at-pages.ensures ∙ ap (λ (z : Space). length (get_or z.tables c.args.from [])) c.self.view_is in
    let whole = whole_table s c.args.from sound in
    let many : length (get_or s.tables c.args.from []) ≡ 16 * (n / 16) = (let e = whole.1 in omega (arith, long, e)) in
    let enters : Enters s c.args.place (claimed c.args.promise) (n / 16) c.enter.new.self = c.in_ok-enter.ensures.ok in
    let all = may_lend_all s c.args.from c.args.place (claimed c.args.promise) (n / 16) c.enter.new.self sound c.requires.apart c.requires.few c.requires.here many enters in
    λ p less. all.here p (omega (arith, less, many, long))

pub lend_all-requires-clause-onto : goal.lend_all-requires-clause-onto
lend_all-requires-clause-onto c =
    let s : Space = c.args.self.now in
    let n = c.len_at-pages.result in
    let sound : IsSound s = subst IsSound c.self.view_is c.self.invariant.sound in
    let long : n ≡ length (get_or s.tables c.args.from []) = c.len_at-pages.ensures ∙ ap (λ (z : Space). length (get_or z.tables c.args.from [])) c.self.view_is in
    let whole = whole_table s c.args.from sound in
    let many : length (get_or s.tables c.args.from []) ≡ 16 * (n / 16) = (let e = whole.1 in omega (arith, long, e)) in
    let enters : Enters s c.args.place (claimed c.args.promise) (n / 16) c.enter.new.self = c.in_ok-enter.ensures.ok in
    let all = may_lend_all s c.args.from c.args.place (claimed c.args.promise) (n / 16) c.enter.new.self sound c.requires.apart c.requires.few c.requires.here many enters in
    λ p less. all.onto p (omega (arith, less, many, long))

pub returns-clause-ok : goal.returns-clause-ok
returns-clause-ok c =
    let s : Space = c.args.self.now in
    let n = c.len_at-pages.result in
    let sound : IsSound s = subst IsSound c.self.view_is c.self.invariant.sound in
    let long : n ≡ length (get_or s.tables c.args.from []) = c.len_at-pages.ensures ∙ ap (λ (z : Space). length (get_or z.tables c.args.from [])) c.self.view_is in
    let whole = whole_table s c.args.from sound in
    let many : length (get_or s.tables c.args.from []) ≡ 16 * (n / 16) = (let e = whole.1 in omega (arith, long, e)) in
    let all : n ≡ 16 * (n / 16) = omega (arith, long, many) in
    record {
      apart = c.requires.apart;
      size = n / 16;
      pages = many;
      mid = c.enter.new.self;
      enters = c.in_ok-enter.ensures.ok;
      lends = subst (λ k. LendsFirst c.enter.new.self c.args.from c.args.place k c.lend_all.new.self) all c.lend_all.ensures;
    }
