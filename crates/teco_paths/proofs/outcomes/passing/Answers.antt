use Rattle.teco_paths.proofs.Passing.{passes_if}
use Rattle.teco_paths.proofs.outcomes.passing.Goals as goal

pub returns : goal.returns
returns c = passes_if c.args.case.now c.turn.result c.turn.ensures
