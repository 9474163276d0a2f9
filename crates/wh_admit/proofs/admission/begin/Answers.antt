use Rattle.std.proofs.Common.{rules, arith, ◌^◌, ◌<◌, ap, refl, subst}
use Rattle.std.specs.List.{AllByRecursion}
use Rattle.wh_model.specs.Execution.{AreGiven}
use Rattle.wh_host_model.specs.{given_of}
use Rattle.wh_params.specs.View.{view_params}
use Rattle.wh_admit.proofs.admission.begin.Goals as goal

pub returns-clause-ok : goal.returns-clause-ok
returns-clause-ok c =
    let p = view_params c.args.params in
    let base : p.base < 2 ^ 32 = search rules in
    let salt : p.salt < 2 ^ 64 = search rules in
    let fuel : p.fuel < 2 ^ 64 = search rules in
    let given : AreGiven (given_of p) = record {
      base = base;
      salt = salt;
      inputs = subst
          (AllByRecursion (λ n. n < 2 ^ 64)) c.deref.ensures.value c.are_words.ensures;
    } in
    record {
      instantiates = c.in_ok-begun.ensures.ok;
      inputs = ap (λ v. v.items) c.in_ok-begun.ensures.inputs;
      given = given;
      shares = refl;
      min = refl;
      max = refl;
      fuel = refl;
      are_shares = c.requires.shares;
      are_frames = c.requires.frames;
      can_count = omega (arith, fuel);
      at_rest = c.in_ok-machine.ensures;
    }
