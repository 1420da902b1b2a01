use Rattle.teco_paths.proofs.Answered.{on_ok}
use Rattle.teco_paths.proofs.facts.add_ends.Goals as goal

pub returns : goal.returns
returns c =
    on_ok c.add_most.result (λ added size facts. added size (c.in_ok-add_least.ensures size facts)) c.add_most.ensures
