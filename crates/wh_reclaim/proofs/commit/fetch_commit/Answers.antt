use Rattle.wh_reclaim.proofs.commit.fetch_commit.Goals as goal

pub fetch_commit-end-requires : goal.fetch_commit-end-requires
fetch_commit-end-requires c = rw (← c.ticket.view_is) at c.requires
