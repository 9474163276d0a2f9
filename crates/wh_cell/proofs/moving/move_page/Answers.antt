use Rattle.wh_cell.proofs.Passing.{none_again}
use Rattle.wh_cell.proofs.moving.move_page.Goals as goal

pub returns-in-Coming-clause-none : goal.returns-in-Coming-clause-none
returns-in-Coming-clause-none g c =
    none_again c.args.keeper.now c.begin_under.new.keeper c.fetch-moved.new.keeper c.in-Coming.fetched.ticket.slot _ c.fetch-moved.new.device c.requires.none c.in-Coming.ensures.0.after c.fetch-moved.ensures.keeper

pub returns-in-Leaving-clause-none : goal.returns-in-Leaving-clause-none
returns-in-Leaving-clause-none g c =
    none_again c.args.keeper.now c.begin_under.new.keeper c.evict-moved.new.keeper c.in-Leaving.eviction.ticket.slot _ c.evict-moved.new.device c.requires.none c.in-Leaving.ensures.after c.evict-moved.ensures.keeper
