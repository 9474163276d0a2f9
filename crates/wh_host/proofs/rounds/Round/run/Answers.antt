use Rattle.std.proofs.Common.{◌≡◌, ◌∙◌, ◌*◌, Some, option_copied, refl, sym, ap, subst}
use Rattle.wh_host.specs.declared.parts.LoadedModule.{LoadedModule}
use Rattle.wh_host.specs.Beside.{RunsBeside}
use Rattle.wh_host.specs.Lying.{LiesAt}
use Rattle.wh_host.specs.Hosting.{module_in}
use Rattle.wh_host.specs.Rounds.{lent_in}
use Rattle.wh_host.proofs.rounds.Round.run.Goals as goal

one_module : (a b : LoadedModule) → Some a ≡ Some b → a ≡ b
one_module a b e = cc e

pub returns : goal.returns
returns c =
    let s = c.args.self.now.memory.now in
    let y = c.args.runner.now in
    let made = c.run_beside-upper.result in
    let x1 = c.run_beside-upper.new.tenant in
    let e = c.run_beside-upper.ensures in
    let loaded = c.in-Some.module.now in
    let is : Some loaded ≡ module_in c.args.self.now.modules.now.slots y.module_place = subst (λ r. option_copied r ≡ module_in c.args.self.now.modules.now.slots y.module_place) c.in-Some.is c.module_at.ensures in
    record {
      id = refl;
      taken = refl;
      module_place = refl;
      page_limit = refl;
      answer = refl;
      ended = refl;
      lent = e.lent ∙ ap lent_in (sym c.in-Some-take.is ∙ c.take.ensures.value);
      free = λ gone room. absurd (let bad = sym c.if-not-runner.false ∙ gone in cc bad);
      ran = λ taken. (
        made.1,
        refl,
        e.burst,
        λ m is_loaded t computes lies.
            (let same = one_module loaded m (is ∙ is_loaded) in
            let there = subst (λ (z : LoadedModule). LiesAt z.linked y.page_limit y.tenant s y.id.place t) (sym same) lies in
            subst (λ (z : LoadedModule). RunsBeside z.linked y.page_limit (made.0.turns * c.args.self.now.burst.quantum) s y.id.place y.tenant t made.0.came made.0.pieces made.0.charges x1 made.1) same (e.runs t computes there)),
      );
    }
