use Rattle.std.proofs.Common.{◌%◌, length, mod-lt}
use Rattle.std.proofs.lemmas.Option.{slice_get-get_or}
use Rattle.wh_scheduler.proofs.draining.next_of.Goals as goal

pub returns : goal.returns
returns c =
    (c.args.count % length c.args.ids.now, slice_get-get_or c.args.ids.now (c.args.count % length c.args.ids.now) (record { place = 0; number = 0 }) (mod-lt c.args.count c.requires.some))
