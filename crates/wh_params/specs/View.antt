-- What the definitions see of what an owner gives.
use Rattle.wh_host_model.specs.Owners as host
use Rattle.wh_params.specs.declared.Params.{Params}
use Rattle.wh_params.specs.declared.Quota.{Quota}

abbrev pub view_quota : Quota → host.Quota
view_quota q = record { shares = q.shares; min = q.min_frames; max = q.max_frames }

abbrev pub view_params : Params → host.Params
view_params p = record {
  shares = p.quota.shares;
  min = p.quota.min_frames;
  max = p.quota.max_frames;
  fuel = p.fuel;
  base = p.base;
  salt = p.salt;
  inputs = p.inputs.items;
}
