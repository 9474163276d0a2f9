use Rattle.std.proofs.Common.{rules}
use Rattle.wh_commands.proofs.Params.{refused, no_base, no_salt}
use Rattle.wh_commands.proofs.Asking.{six}
use Rattle.wh_commands.proofs.reading.given.Goals as goal

pub returns-in_err-base-clause-none : goal.returns-in_err-base-clause-none
returns-in_err-base-clause-none c =
    refused _ _ (search rules)
    (no_base _ _ _ _ _ _ _ _ _ c.in_ok-shares.ensures.ok.1 c.in_ok-min.ensures.ok.1 c.in_ok-max.ensures.ok.1 c.in_ok-fuel.ensures.ok.1 c.in_err-base.ensures.none)

pub returns-in_err-salt-clause-none : goal.returns-in_err-salt-clause-none
returns-in_err-salt-clause-none c =
    refused _ _ (search rules)
    (no_salt _ _ _ _ _ _ _ _ _ _ _ c.in_ok-shares.ensures.ok.1 c.in_ok-min.ensures.ok.1 c.in_ok-max.ensures.ok.1 c.in_ok-fuel.ensures.ok.1 c.in_ok-base.ensures.ok.1 c.in_err-salt.ensures.none)

pub returns-clause-ok : goal.returns-clause-ok
returns-clause-ok c =
    let shares = c.in_ok-shares.ensures.ok in
    let min = c.in_ok-min.ensures.ok in
    let max = c.in_ok-max.ensures.ok in
    let fuel = c.in_ok-fuel.ensures.ok in
    let base = c.in_ok-base.ensures.ok in
    let salt = c.in_ok-salt.ensures.ok in
    record {
      shares = shares.0;
      min = min.0;
      max = max.0;
      fuel = fuel.0;
      base = base.0;
      salt = salt.0;
      inputs = _;
      are = six _ _ _ _ _ _ _ _ _ _ _ _ _ shares.1 min.1 max.1 fuel.1 base.1 salt.1;
      is_shares = shares.2;
      is_min = min.2;
      is_max = max.2;
      is_fuel = fuel.2;
      is_base = base.2;
      is_salt = salt.2;
      are_inputs = c.in_ok-inputs.ensures.ok;
    }
