use Rattle.teco_check.proofs.transfer.edges.search_edges.Goals as goal

pub position_failed-failed-requires : goal.position_failed-failed-requires
position_failed-failed-requires c = rw c.in_ok-taken.ensures.kept c.requires.small
