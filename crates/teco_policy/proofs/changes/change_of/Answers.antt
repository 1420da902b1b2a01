use Rattle.teco_policy.specs.Walks.{line_of}
use Rattle.teco_policy.proofs.Differences.{counts_none}
use Rattle.teco_policy.proofs.changes.change_of.Goals as goal

pub returns-then-are_alike-clause-counts : goal.returns-then-are_alike-clause-counts
returns-then-are_alike-clause-counts c =
    counts_none (line_of c.args.line) (line_of c.args.other) (c.are_alike.ensures.0 c.if-are_alike.true)
